use Prim.Native.Nat.{ℕ}
use mathlib.Core.Path.{◌≡◌, subst}
use native.Mathlib.Omega.{arith}
use borrow.Author.Tests.{not-true, not-false}
use Rattle.table.proofs.NamesLaws.{room}
use Rattle.name_index.specs.Names.{names_in}
use Rattle.name_index.specs.Chains.{Indexed}
use Rattle.name_index.proofs.ChainLaws.{indexed_so, twice_on}
use Rattle.name_index.proofs.chains.index.Goals as goal

pub loop-i-init : goal.loop-i-init
unfolding names_in
loop-i-init c = c.requires.indexed

pub add_distinct-requires : goal.add_distinct-requires
add_distinct-requires c =
    record { name_within = (omega (arith, c.requires.names_within.0, room c.args.stride c.loop-i-test.true), omega (arith, c.requires.names_within.1)); indexed = c.loop-i.invariant }

pub returns-then-not-add_distinct : goal.returns-then-not-add_distinct
returns-then-not-add_distinct c =
    let args = c.args in
    twice_on args.t.now args.at args.stride c.loop-i.i args.count c.loop-i-test.true c.add_distinct.ensures (not-true _ c.if-not-add_distinct.true-raw)

pub loop-i-preserved : goal.loop-i-preserved
loop-i-preserved c = c.add_distinct.ensures.indexed (not-false _ c.if-not-add_distinct.false-raw)

pub returns : goal.returns
returns c =
    let args = c.args in
    let done : c.loop-i.i ≡ args.count = omega arith in
    indexed_so (subst (λ (n : ℕ). Indexed (names_in args.t.now args.at args.stride n) c.loop-i.last c.loop-i.before) done c.loop-i.invariant)
