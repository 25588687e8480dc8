-- `vocabulary::lookup::among`: candidate after candidate, none of those passed has these bytes.
use mathlib.Core.Path.{◌≡◌}
use Prim.Native.Nat.{◌-◌, ◌≤◌}
use Rattle.language.specs.Words.{word_count}
use Rattle.vocabulary.specs.Chains.{from_on, rest_among}
use Rattle.vocabulary.proofs.lookup.among.Given as goal

abbrev pub invariant-loop-c : goal.invariant-loop-c
invariant-loop-c l = (l.c ≤ word_count) × (rest_among l.rest (from_on l.c) ≡ rest_among l.rest (from_on l.w))

abbrev pub decreases-loop-c : goal.decreases-loop-c
decreases-loop-c l = word_count - l.c
