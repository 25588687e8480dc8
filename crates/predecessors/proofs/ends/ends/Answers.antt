-- By the number of the block's last row it goes to one block, two or none; so it does where it has no rows.
use Rattle.predecessors.proofs.EndsLaws.{bare_goes, jump_goes, other_goes, twice_goes, branch_goes}
use Rattle.predecessors.proofs.ends.ends.Goals as goal

pub returns-then-rows-eq0 : goal.returns-then-rows-eq0
returns-then-rows-eq0 c = search bare_goes

pub returns-then-op-eq-JUMP : goal.returns-then-op-eq-JUMP
returns-then-op-eq-JUMP c = search jump_goes

pub returns-then-op-ne-JUMP_COND : goal.returns-then-op-ne-JUMP_COND
returns-then-op-ne-JUMP_COND c = search other_goes

pub returns-then-y-z : goal.returns-then-y-z
returns-then-y-z c = search twice_goes

pub returns : goal.returns
returns c = search branch_goes
