-- `fill_arguments`: the arguments before i lie in their ranges, and the cells before i hold their bits.
use mathlib.Core.Path.{◌≡◌}
use lib.ListN.{length}
use Rattle.language.specs.Table.{decode_function}
use Rattle.call_words.specs.Arguments.{given_of}
use Rattle.call_words.proofs.ArgumentLaws.{Upheld}
use Rattle.call_words.proofs.arguments.fill_arguments.Given as goal

abbrev pub invariant-loop-i : goal.invariant-loop-i
invariant-loop-i l = (length l.out ≡ length l.initial.out) × Upheld (decode_function l.t l.a) (given_of l.n l.kept) l.out l.i
