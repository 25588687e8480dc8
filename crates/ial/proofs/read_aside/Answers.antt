-- `read_aside`: a text that reads is 22, and a refusal stands.
use native.Mathlib.Omega.{arith}
use Rattle.std.proofs.lemmas.Grind.{common_steps}
use Rattle.ial.proofs.ReadLaws.{aside_read, aside_refused}
use Rattle.ial.proofs.read_aside.Goals as goal

pub returns-in-Err : goal.returns-in-Err
returns-in-Err c = rw c.refuse.ensures (aside_refused c.judge_text.ensures c.in-Err.is)

pub returns-in-Ok : goal.returns-in-Ok
returns-in-Ok c = λ n other. grind (arith, common_steps, aside_read c.judge_text.ensures c.in-Ok.is n other)
