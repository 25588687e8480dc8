use Prim.Native.Nat.{◌+◌, ◌<◌}
use mathlib.Core.Path.{◌≡◌, refl, sym, ap, ◌∙◌}
use native.Mathlib.Numerals.{add-one}
use native.Mathlib.Omega.{arith}
use lib.ListN.{length}
use Rattle.language.specs.Table.{block_count, decode_function}
use Rattle.language.specs.Translating.{new_register}
use Rattle.theorems.proofs.SimulationRows.{phis_at}
use Rattle.flow.specs.Layout.{phis_in}
use Rattle.translator.specs.Source.{declared}
use Rattle.translator.proofs.SizesLaws.{phis_here}
use Rattle.translator.proofs.RegistersLaws.{new_first, new_next, new_all, new_most}
use Rattle.translator.proofs.registers.put_all_new.Goals as goal

pub block_count-blocks-requires : goal.block_count-blocks-requires
block_count-blocks-requires c = c.requires.translatable_at.sized.within

pub register_count-n-requires : goal.register_count-n-requires
register_count-n-requires c = c.requires.translatable_at.sized.within

pub loop-y-init : goal.loop-y-init
loop-y-init c =
    let t = c.args.t.now in
    let a = c.args.a in
    let n = c.register_count-n.ensures.0 in (
      c.block_count-blocks.ensures.0,
      omega arith,
      n ∙ sym (new_first t a c.requires.translatable_at),
      refl,
      c.requires.out_value ∙ ap (declared t a) (sym n),
    )

pub put_new-requires : goal.put_new-requires
put_new-requires c =
    let v = c.loop-y.invariant in
    record { translatable_at = c.requires.translatable_at; prepared = c.requires.prepared; y_bound = (omega arith, v.2, v.4) }

pub phis-n-requires : goal.phis-n-requires
phis-n-requires c =
    (c.requires.prepared.count, omega (arith, c.requires.translatable_at.sized.blocks))

pub overflow_add-n : goal.overflow_add-n
overflow_add-n c =
    let t = c.args.t.now in
    let a = c.args.a in
    let known : c.loop-y.y < block_count t a = omega arith in
    omega (arith, new_most t a c.requires.translatable_at c.loop-y.y c.loop-y.n (phis_in c.args.m.now c.loop-y.y) known c.loop-y.invariant.2 (phis_here t a c.args.m.now c.requires.prepared c.requires.translatable_at.clean c.loop-y.y known), c.phis-n.ensures.0)

pub loop-y-preserved : goal.loop-y-preserved
loop-y-preserved c =
    let t = c.args.t.now in
    let a = c.args.a in
    let v = c.loop-y.invariant in
    let y = c.loop-y.y in
    let known : y < block_count t a = omega arith in
    let p = c.phis-n.ensures.0 in
    let here : c.phis-n.result ≡ length (phis_at (decode_function t a) y) = p ∙ phis_here t a c.args.m.now c.requires.prepared c.requires.translatable_at.clean y known in (
      v.0,
      omega arith,
      rw (add-one y) (omega (arith, new_next t a c.requires.translatable_at y known, v.2)),
      c.put_new.auto.out ∙ v.3,
      c.put_new.ensures ∙ ap (λ k. declared t a (c.loop-y.n + k)) (sym p),
    )

pub shape_of-out : goal.shape_of-out
shape_of-out c = c.loop-y.invariant.3

pub returns : goal.returns
returns c =
    let t = c.args.t.now in
    let a = c.args.a in
    let v = c.loop-y.invariant in
    let done : c.loop-y.y ≡ block_count t a = omega arith in
    v.4 ∙ ap (declared t a) (v.2 ∙ ap (new_register (decode_function t a)) done ∙ new_all t a c.requires.translatable_at)
