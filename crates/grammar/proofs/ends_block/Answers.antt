-- `grammar::ends_block` tests what its definition tests.
use Rattle.laws.proofs.Branches.{branches}
use Rattle.grammar.proofs.ends_block.Goals as goal

pub returns-then-kind-eq-NEXT_INSTRUCTION : goal.returns-then-kind-eq-NEXT_INSTRUCTION
returns-then-kind-eq-NEXT_INSTRUCTION c = rw c.is_mark.ensures (search branches)

pub returns : goal.returns
returns c = search branches
