-- `spelling::names::spellable_or_none`: a name of no bytes, or a spellable one.
use mathlib.Core.Path.{sym, ◌∙◌}
use borrow.Author.Tests.{eqb-true, eqb-false}
use Rattle.spelling.proofs.NamesLaws.{none, some}
use Rattle.spelling.proofs.names.spellable_or_none.Goals as goal

pub returns-then-is_empty : goal.returns-then-is_empty
returns-then-is_empty c = none c.args.name.now (eqb-true _ 0 (sym c.is_empty.ensures ∙ c.if-is_empty.true))

pub returns : goal.returns
returns c = some c.args.name.now (eqb-false _ 0 (sym c.is_empty.ensures ∙ c.if-is_empty.false)) c.spellable.ensures
