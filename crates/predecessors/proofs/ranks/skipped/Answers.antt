use Prim.Native.Nat.{◌/◌, ◌+◌}
use native.Mathlib.Nat.{not-suc-le-zero}
use native.Mathlib.Omega.{arith}
use Rattle.predecessors.proofs.SearchLaws.{before_middle}
use Rattle.predecessors.proofs.ranks.skipped.Goals as goal

pub loop-low-init : goal.loop-low-init
loop-low-init c = (omega arith, omega arith, λ i l. absurd (not-suc-le-zero l))

pub overflow_add-low : goal.overflow_add-low
overflow_add-low c = omega arith

pub overflow_add-middle : goal.overflow_add-middle
overflow_add-middle c = omega arith

pub predecessor-requires : goal.predecessor-requires
predecessor-requires c = let pre = c.requires.in_table in (pre.0, pre.1, omega arith)

pub loop-low-smaller-then-x-predecessor : goal.loop-low-smaller-then-x-predecessor
loop-low-smaller-then-x-predecessor c = omega arith

pub loop-low-preserved-then-x-predecessor : goal.loop-low-preserved-then-x-predecessor
loop-low-preserved-then-x-predecessor c = (omega arith, omega arith, c.loop-low.invariant.2)

pub loop-low-smaller : goal.loop-low-smaller
loop-low-smaller c = omega arith

pub loop-low-preserved : goal.loop-low-preserved
loop-low-preserved c =
    let pre = c.requires.in_table in
    let middle = (c.loop-low.low + c.loop-low.high) / 2 in (
      omega arith,
      omega arith,
      before_middle c.args.t.now c.args.a c.args.b pre.0 pre.1 c.args.n pre.2 pre.3 c.requires.ascending c.args.x middle (omega arith)
          (omega (arith, c.predecessor.ensures.0)),
    )

pub returns : goal.returns
returns c = (omega arith, c.loop-low.invariant.2)
