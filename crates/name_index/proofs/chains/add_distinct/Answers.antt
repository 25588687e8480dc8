-- `name_index::chains::add_distinct`: a name of no bytes is in no chain, one found stands twice, and any other is new.
use mathlib.Core.Path.{refl, sym, ◌∙◌}
use native.Mathlib.Omega.{arith}
use borrow.Author.Tests.{eqb-true, eqb-false}
use Rattle.table.proofs.NamesLaws.{found_some, found_none}
use Rattle.name_index.proofs.ChainLaws.{next_empty, next_twice, next_new}
use Rattle.name_index.proofs.chains.add_distinct.Goals as goal

pub returns-then-is_empty : goal.returns-then-is_empty
returns-then-is_empty c =
    let args = c.args in
    next_empty args.t.now args.at args.stride args.i c.name_at-name.ensures c.requires.indexed (eqb-true _ 0 (sym c.is_empty.ensures ∙ c.if-is_empty.true)) c.requires.name_within.1

pub find-requires : goal.find-requires
find-requires c = record { names_within = omega (arith, c.requires.name_within.0); indexed = c.requires.indexed }

pub returns-then-is_some : goal.returns-then-is_some
returns-then-is_some c =
    let args = c.args in
    next_twice args.t.now args.at args.stride args.i c.name_at-name.ensures (eqb-false _ 0 (sym c.is_empty.ensures ∙ c.if-is_empty.false)) refl
    (found_some args.t.now args.at args.stride args.i c.name_at-name.result.now c.find.result c.find.ensures (sym c.is_some.ensures ∙ c.if-is_some.true))

pub add-requires : goal.add-requires
add-requires c = (c.requires.name_within.1, c.requires.indexed.lasts, c.requires.indexed.befores)

pub returns : goal.returns
returns c =
    let args = c.args in
    let none = found_none args.t.now args.at args.stride args.i c.name_at-name.result.now c.find.result c.find.ensures (sym c.is_some.ensures ∙ c.if-is_some.false) in
    next_new args.t.now args.at args.stride args.i c.name_at-name.ensures c.requires.indexed none refl c.add.ensures
