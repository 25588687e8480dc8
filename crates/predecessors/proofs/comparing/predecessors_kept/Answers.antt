use mathlib.Core.Path.{◌≡◌, refl, sym, ◌∙◌}
use native.Mathlib.Omega.{arith}
use lib.ListN.{get_or-replicate}
use Rattle.predecessors.proofs.ComparingLaws.{none_agreed, lists_are, first_small, second_small, first_wrong, second_wrong, after_size, agreed_more}
use Rattle.predecessors.proofs.comparing.predecessors_kept.Goals as goal

pub loop-x-init : goal.loop-x-init
loop-x-init c = (omega arith, none_agreed _ _ _ c.requires.in_table c.shared_slice_known-1.given _ refl (λ b l. get_or-replicate 64 b 0 0 l))

pub ends-e-requires : goal.ends-e-requires
ends-e-requires c =
    (c.requires.in_table.0, omega arith, omega arith, c.requires.by_index c.loop-x.x c.loop-x-test.true)

pub slice_bounds-agrees-end : goal.slice_bounds-agrees-end
slice_bounds-agrees-end c = sym c.loop-x.invariant.1.size

pub agrees-requires : goal.agrees-requires
agrees-requires c = (
  c.requires.in_table.0,
  c.requires.in_table.2,
  c.loop-x.invariant.1.size,
  first_small _ _ _ c.requires.in_table c.shared_slice_known-1.given c.loop-x.invariant.1 c.loop-x-test.true c.ends-e.ensures,
)

pub returns-then-not-agrees : goal.returns-then-not-agrees
returns-then-not-agrees c =
    first_wrong _ _ _ c.requires.in_table c.shared_slice_known-1.given c.loop-x.invariant.1 c.loop-x-test.true c.ends-e.ensures c.agrees.ensures.0 c.if-not-agrees.true-raw

pub slice_bounds-agrees-end-in-loop-x : goal.slice_bounds-agrees-end-in-loop-x
slice_bounds-agrees-end-in-loop-x c =
    sym (after_size _ _ _ c.requires.in_table c.shared_slice_known-1.given c.loop-x.invariant.1 c.loop-x-test.true c.ends-e.ensures c.agrees.ensures.1)

pub agrees-requires-in-loop-x : goal.agrees-requires-in-loop-x
agrees-requires-in-loop-x c = (
  c.requires.in_table.0,
  c.requires.in_table.2,
  sym (slice_bounds-agrees-end-in-loop-x c),
  second_small _ _ _ c.requires.in_table c.shared_slice_known-1.given c.loop-x.invariant.1 c.loop-x-test.true c.ends-e.ensures c.agrees.ensures.1,
)

pub returns-then-not-agrees-2 : goal.returns-then-not-agrees-2
returns-then-not-agrees-2 c =
    second_wrong _ _ _ c.requires.in_table c.shared_slice_known-1.given c.loop-x.invariant.1 c.loop-x-test.true c.ends-e.ensures c.agrees.ensures.1 c.agrees-in-loop-x.ensures.0 c.if-not-agrees-2.true-raw

pub loop-x-preserved : goal.loop-x-preserved
loop-x-preserved c =
    (omega arith, agreed_more _ _ _ c.requires.in_table c.shared_slice_known-1.given c.loop-x.invariant.1 c.loop-x-test.true c.ends-e.ensures c.agrees.ensures.1 c.agrees.ensures.0 c.if-not-agrees.false-raw c.agrees-in-loop-x.ensures.0 c.if-not-agrees-2.false-raw c.agrees-in-loop-x.ensures.1)

pub slice_bounds-counted-end : goal.slice_bounds-counted-end
slice_bounds-counted-end c = sym c.loop-x.invariant.1.size

pub counted-requires : goal.counted-requires
counted-requires c =
    (c.requires.in_table.0, c.requires.in_table.2, c.loop-x.invariant.1.size)

pub returns : goal.returns
returns c =
    let e : c.loop-x.x ≡ c.args.n = omega arith in
    c.counted.ensures ∙ lists_are _ _ _ c.requires.in_table c.shared_slice_known-1.given (rw e at c.loop-x.invariant.1)
