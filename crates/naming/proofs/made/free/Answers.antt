use mathlib.Core.Path.{◌≡◌}
use native.Mathlib.Numerals.{add-one}
use native.Mathlib.Omega.{arith}
use lib.ListN.{get_or}
use Rattle.laws.proofs.OneMore.{range_more}
use Rattle.laws.proofs.Sums.{sum_drop}
use Rattle.naming.proofs.made.free.Goals as goal

pub loop-next-init : goal.loop-next-init
loop-next-init c = (omega arith, omega arith, λ j l u z. omega arith)

pub bounds-marks-next : goal.bounds-marks-next
bounds-marks-next c = omega arith

pub overflow_add-next : goal.overflow_add-next
overflow_add-next c = omega arith

pub loop-next-smaller : goal.loop-next-smaller
loop-next-smaller c = omega arith

pub loop-next-preserved : goal.loop-next-preserved
loop-next-preserved c =
    let marks = c.args.marks.now in
    let n = c.loop-next.next in
    let here : get_or marks n 0 ≡ 0 → ⊥ = c.loop-next-test.true in
    let left = sum_drop marks n (omega (arith, c.requires.0, c.requires.1, c.loop-next.invariant.1)) in (
      omega (arith, c.loop-next.invariant.0),
      rw (add-one n) (omega (arith, here, left, c.loop-next.invariant.1)),
      range_more (λ j. get_or marks j 0 ≡ 0 → ⊥) c.args.k n c.loop-next.invariant.2 here,
    )

pub returns : goal.returns
returns c =
    record { from_k = c.loop-next.invariant.0; within = omega (arith, c.loop-next.invariant.1, c.requires.1); free = c.loop-next-test.false; before = c.loop-next.invariant.2; room = c.loop-next.invariant.1 }
