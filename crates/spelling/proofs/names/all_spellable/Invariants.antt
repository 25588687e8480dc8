-- The loop's invariant: every name passed has no bytes or is spellable.
use mathlib.Core.Bool.{true}
use mathlib.Core.Path.{◌≡◌}
use Rattle.laws.specs.Lists.{all}
use Rattle.language.specs.Checking.{spellable_or_none}
use Rattle.name_index.specs.Names.{names_in}
use Rattle.spelling.proofs.names.all_spellable.Given as goal

abbrev pub invariant-loop-i : goal.invariant-loop-i
invariant-loop-i l = all spellable_or_none (names_in l.t l.at l.stride l.i) ≡ true
