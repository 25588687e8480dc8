-- The loop's invariant: the names passed are in the chains.
use Rattle.name_index.specs.Names.{names_in}
use Rattle.name_index.specs.Chains.{Indexed}
use Rattle.name_index.proofs.chains.index.Given as goal

abbrev pub invariant-loop-i : goal.invariant-loop-i
invariant-loop-i l = Indexed (names_in l.t l.at l.stride l.i) l.last l.before
