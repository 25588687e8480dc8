use Prim.Native.Nat.{◌+◌, ◌<◌}
use mathlib.Core.Path.{◌≡◌, refl, sym, ap, ◌∙◌}
use native.Mathlib.Nat.{add-zero}
use native.Mathlib.Omega.{arith}
use lib.ListN.{length, length-set}
use Rattle.language.specs.Table.{register_type, row_target, decode_function}
use Rattle.theorems.proofs.SimulationRows.{phis_at}
use Rattle.flow.specs.Layout.{phis_in}
use Rattle.translator.specs.Source.{declared}
use Rattle.translator.proofs.Items.{phi_within}
use Rattle.translator.proofs.SizesLaws.{phis_here}
use Rattle.translator.proofs.RegistersLaws.{length_new, new_most, one_new}
use Rattle.translator.proofs.registers.put_new.Goals as goal

pub phis-p-requires : goal.phis-p-requires
phis-p-requires c = (c.requires.prepared.count, omega (arith, c.requires.translatable_at.sized.blocks))

pub block_first-first-requires : goal.block_first-first-requires
block_first-first-requires c = (c.requires.translatable_at.sized.within, omega (arith, c.requires.translatable_at.sized.blocks))

pub loop-i-init : goal.loop-i-init
loop-i-init c =
    let t = c.args.t.now in
    let a = c.args.a in
    let y = c.args.y in
    let h = c.requires.translatable_at in
    let n = c.requires.y_bound in
    let p = c.phis-p.ensures.0 ∙ phis_here t a c.args.m.now c.requires.prepared h.clean y n.0 in (
      p,
      c.block_first-first.ensures.0,
      omega arith,
      new_most t a h y c.args.n c.phis-p.result n.0 n.1 p,
      refl,
      length_new t a h y c.args.n c.args.out.now n.0 n.1 n.2,
      n.2 ∙ ap (declared t a) (sym (add-zero c.args.n)),
    )

pub overflow_add-first : goal.overflow_add-first
overflow_add-first c = omega arith

pub row_target-requires : goal.row_target-requires
row_target-requires c =
    let h = c.requires.translatable_at in
    let known : c.loop-i.i < length (phis_at (decode_function c.args.t.now c.args.a) c.args.y) = omega arith in (
      h.sized.within,
      omega (arith, phi_within c.args.t.now c.args.a h.sized h.clean c.args.y c.loop-i.i c.requires.y_bound.0 known, h.sized.rows),
    )

pub register_type-requires : goal.register_type-requires
register_type-requires c = (c.requires.translatable_at.sized.within, c.row_target.ensures.1)

pub overflow_add-out : goal.overflow_add-out
overflow_add-out c = omega arith

pub overflow_mul-out : goal.overflow_mul-out
overflow_mul-out c = omega arith

pub overflow_add-out-in-loop-i : goal.overflow_add-out-in-loop-i
overflow_add-out-in-loop-i c = omega arith

pub bounds-out-n : goal.bounds-out-n
bounds-out-n c = omega arith

pub loop-i-preserved : goal.loop-i-preserved
loop-i-preserved c =
    let t = c.args.t.now in
    let a = c.args.a in
    let y = c.args.y in
    let n = c.requires.y_bound in
    let v = c.loop-i.invariant in
    let known : c.loop-i.i < length (phis_at (decode_function t a) y) = omega arith in
    let kind = c.register_type.ensures ∙ ap (register_type t a) (c.row_target.ensures.0 ∙ ap (λ r. row_target t a (r + c.loop-i.i)) v.1) in (
      v.0,
      v.1,
      omega arith,
      v.3,
      simp length-set v.4,
      v.5,
      one_new t a c.requires.translatable_at y c.args.n c.loop-i.i c.register_type.result c.loop-i.out _ n.1 n.0 known v.6 kind refl,
    )

pub shape_of-out : goal.shape_of-out
shape_of-out c = c.loop-i.invariant.4

pub returns : goal.returns
returns c =
    let done : c.loop-i.i ≡ phis_in c.args.m.now c.args.y =
    omega (arith, phis_here c.args.t.now c.args.a c.args.m.now c.requires.prepared c.requires.translatable_at.clean c.args.y c.requires.y_bound.0) in
    c.loop-i.invariant.6 ∙ ap (λ k. declared c.args.t.now c.args.a (c.args.n + k)) done
