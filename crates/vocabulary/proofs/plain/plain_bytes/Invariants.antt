-- The loop's invariant: the name is plain exactly if name characters alone follow.
use mathlib.Core.Path.{◌≡◌}
use lib.ListN.{drop}
use Rattle.laws.specs.Lists.{all}
use Rattle.language.specs.Bytes.{name_byte}
use Rattle.language.specs.Names.{plain_bytes}
use Rattle.vocabulary.proofs.plain.plain_bytes.Given as goal

abbrev pub invariant-loop-b : goal.invariant-loop-b
invariant-loop-b l = all name_byte (drop l.b-index l.rest) ≡ plain_bytes l.name
