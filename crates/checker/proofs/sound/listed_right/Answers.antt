-- The definition's two tests.
use mathlib.Core.Path.{◌∙◌}
use Rattle.checker.proofs.TestLaws.{fell, held}
use Rattle.checker.proofs.NamesLaws.{listed_wrong, listed_spellable}
use Rattle.checker.proofs.sound.listed_right.Goals as goal

pub returns-then-not-all_spellable : goal.returns-then-not-all_spellable
returns-then-not-all_spellable c =
    let args = c.args in
    listed_wrong args.t.now args.at args.stride args.count (fell c.all_spellable.ensures c.if-not-all_spellable.true-raw)

pub returns : goal.returns
returns c =
    let args = c.args in
    c.distinct_names.ensures
    ∙ listed_spellable args.t.now args.at args.stride args.count (held c.all_spellable.ensures c.if-not-all_spellable.false-raw)
