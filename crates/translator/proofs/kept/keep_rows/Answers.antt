use Prim.Native.Nat.{◌+◌}
use mathlib.Core.Path.{◌≡◌, refl, sym, ap, ◌∙◌}
use native.Mathlib.Nat.{add-zero}
use native.Mathlib.Omega.{arith}
use Rattle.translator.specs.Source.{built}
use Rattle.translator.proofs.KeptLaws.{kept_length, keeps_row, keeps_place, keeps_naming, keeps_one}
use Rattle.translator.proofs.kept.keep_rows.Goals as goal

pub loop-i-init : goal.loop-i-init
loop-i-init c =
    let args = c.args in
    let e = c.requires.out_value in (
      omega arith,
      refl,
      kept_length args.t.now args.a c.requires.translatable_at args.m.now args.plan.now c.requires.prepared c.requires.planned args.x args.r args.n args.k args.out.now c.requires.kept_rows e,
      e ∙ ap (built args.t.now args.a (args.x + 1)) (sym (add-zero args.k)),
    )

pub overflow_add-r : goal.overflow_add-r
overflow_add-r c =
    let args = c.args in
    omega (arith, keeps_row args.t.now args.a c.requires.translatable_at args.m.now args.plan.now c.requires.prepared c.requires.planned args.x args.r args.n args.k c.loop-i.i c.requires.kept_rows c.loop-i-test.true)

pub overflow_add-k : goal.overflow_add-k
overflow_add-k c =
    let args = c.args in
    omega (arith, keeps_place args.t.now args.a c.requires.translatable_at args.m.now args.plan.now c.requires.prepared c.requires.planned args.x args.r args.n args.k c.loop-i.i c.requires.kept_rows c.loop-i-test.true)

pub keep_row-requires : goal.keep_row-requires
keep_row-requires c =
    let t = c.args.t.now in
    let a = c.args.a in
    let m = c.args.m.now in
    let plan = c.args.plan.now in
    let args = c.args in
    let s = c.requires.kept_rows in
    let b = c.loop-i-test.true in record { in_table = (c.requires.translatable_at.sized.within, c.requires.prepared.count, c.requires.planned.count, keeps_row t a c.requires.translatable_at m plan c.requires.prepared c.requires.planned args.x args.r args.n args.k c.loop-i.i s b); naming = keeps_naming t a c.requires.translatable_at m plan c.requires.prepared c.requires.planned args.x args.r args.n args.k c.loop-i.i s b; out_len = (omega arith, keeps_place t a c.requires.translatable_at m plan c.requires.prepared c.requires.planned args.x args.r args.n args.k c.loop-i.i s b) }

pub loop-i-preserved : goal.loop-i-preserved
loop-i-preserved c =
    let args = c.args in
    let v = c.loop-i.invariant in (
      omega arith,
      c.keep_row.auto.out ∙ v.1,
      v.2,
      keeps_one args.t.now args.a c.requires.translatable_at args.m.now args.plan.now c.requires.prepared c.requires.planned args.x args.r args.n args.k c.loop-i.i c.requires.kept_rows
          c.loop-i-test.true c.loop-i.out _ v.3 c.keep_row.ensures,
    )

pub shape_of-out : goal.shape_of-out
shape_of-out c = c.loop-i.invariant.1

pub returns : goal.returns
returns c =
    let args = c.args in
    let done : c.loop-i.i ≡ args.n = omega arith in
    c.loop-i.invariant.3 ∙ ap (λ i. built args.t.now args.a (args.x + 1) (args.k + i)) done
