use mathlib.Core.Path.{sym, ◌∙◌}
use native.Mathlib.Omega.{arith}
use borrow.Author.Count.{below_none, below_more}
use Rattle.laws.proofs.Positions.{position_below}
use Rattle.table.specs.Named.{is_named, first_named}
use Rattle.table.proofs.NamesLaws.{room}
use Rattle.table.proofs.names.find_name.Goals as goal

pub loop-i-init : goal.loop-i-init
loop-i-init c = below_none _

pub overflow_mul-stride : goal.overflow_mul-stride
overflow_mul-stride c = omega (arith, room c.args.stride c.loop-i-test.true)

pub overflow_add-at : goal.overflow_add-at
overflow_add-at c = omega (arith, room c.args.stride c.loop-i-test.true)

pub is_at-requires : goal.is_at-requires
is_at-requires c = record { name_within = omega (arith, room c.args.stride c.loop-i-test.true); tail_value = c.tail_of-tail.ensures }

pub returns-then-is_at : goal.returns-then-is_at
unfolding first_named
returns-then-is_at c =
    let a = c.args in
    (position_below (is_named a.t.now a.at a.stride a.name.now) a.count c.loop-i.i (omega arith) c.loop-i.invariant (λ h. sym c.is_at.ensures ∙ c.if-is_at.true), omega arith)

pub loop-i-preserved : goal.loop-i-preserved
loop-i-preserved c = below_more _ _ c.loop-i.invariant (sym c.is_at.ensures ∙ c.if-is_at.false)

pub returns : goal.returns
unfolding first_named
returns c =
    let a = c.args in
    position_below (is_named a.t.now a.at a.stride a.name.now) a.count a.count (omega arith) (λ j h. c.loop-i.invariant j (omega arith)) (λ h. absurd (omega arith))
