-- `accept`: the refusal of reading, or what the check says of the table that was read.
use native.Mathlib.Omega.{arith}
use Rattle.std.proofs.lemmas.Grind.{common_steps}
use Rattle.calling.proofs.AcceptingLaws.{bytes_from, accepts_unread, accepts_read}
use Rattle.calling.proofs.accepting.accept.Goals as goal

pub returns-in-Err : goal.returns-in-Err
returns-in-Err c =
    let told = accepts_unread c.args.text.now _ c.requires _ c.read.ensures c.in-Err.is in
    record {
      answer = grind (arith, common_steps, told.answer);
      program = λ e. absurd (grind (arith, common_steps, e));
      passes = λ e. absurd (grind (arith, common_steps, e));
    }

pub returns-in-Ok : goal.returns-in-Ok
returns-in-Ok c =
    let bytes = bytes_from c.args.text.now (λ i. (c.shared_slice_known-1.given i).fits) in
    accepts_read c.args.text.now _ c.requires _ c.read.ensures bytes c.in-Ok.is c.check.ensures
