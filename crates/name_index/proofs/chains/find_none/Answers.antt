use mathlib.Core.List.{[]}
use native.Mathlib.Omega.{arith}
use borrow.Author.Count.{below_none, below_more}
use Rattle.laws.proofs.Positions.{position_below}
use Rattle.table.specs.Named.{is_named, first_named}
use Rattle.table.proofs.NamesLaws.{room}
use Rattle.name_index.proofs.InTable.{named_none, named_some}
use Rattle.name_index.proofs.chains.find_none.Goals as goal

pub loop-i-init : goal.loop-i-init
loop-i-init c = below_none _

pub overflow_mul-stride : goal.overflow_mul-stride
overflow_mul-stride c = omega (arith, room c.args.stride c.loop-i-test.true)

pub overflow_add-at : goal.overflow_add-at
overflow_add-at c = omega (arith, room c.args.stride c.loop-i-test.true)

pub name_at-other-requires : goal.name_at-other-requires
name_at-other-requires c = omega (arith, room c.args.stride c.loop-i-test.true)

pub returns-then-bytes-eq0 : goal.returns-then-bytes-eq0
unfolding first_named
returns-then-bytes-eq0 c =
    let args = c.args in
    let t = args.t.now in (
      position_below (is_named t args.at args.stride []) args.count c.loop-i.i (omega arith) c.loop-i.invariant
          (λ h. named_none t args.at args.stride c.loop-i.i c.name_at-other.ensures c.if-bytes-eq0.true),
      omega arith,
    )

pub loop-i-preserved : goal.loop-i-preserved
loop-i-preserved c =
    let args = c.args in
    below_more _ _ c.loop-i.invariant (named_some args.t.now args.at args.stride c.loop-i.i c.name_at-other.ensures c.if-bytes-eq0.false)

pub returns : goal.returns
unfolding first_named
returns c =
    let args = c.args in
    position_below (is_named args.t.now args.at args.stride []) args.count args.count (omega arith) (λ j h. c.loop-i.invariant j (omega arith)) (λ h. absurd (omega arith))
