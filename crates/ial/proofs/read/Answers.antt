-- `read`: too long a text, an output of another length, a program, a refusal: each return is the definition's answer, with every cell.
use mathlib.Core.Path.{ap, ◌∙◌}
use native.Mathlib.Omega.{arith}
use lib.ListN.{length}
use Rattle.language.specs.Answers.{zeros}
use Rattle.ial.proofs.ReadLaws.{read_long, read_other, read_program, read_refused}
use Rattle.ial.proofs.read.Goals as goal

pub returns-then-text-gt-MAX_TEXT : goal.returns-then-text-gt-MAX_TEXT
returns-then-text-gt-MAX_TEXT c =
    rw c.refuse.ensures (read_long c.args.text.now (length c.args.out.now) c.if-text-gt-MAX_TEXT.true c.zero.ensures)

pub returns-then-out-ne-TABLE_LENGTH : goal.returns-then-out-ne-TABLE_LENGTH
returns-then-out-ne-TABLE_LENGTH c =
    read_other c.args.text.now (length c.args.out.now) c.read_aside.result c.read_aside.ensures (λ same. omega (arith, same, c.zero.auto.t, c.if-out-ne-TABLE_LENGTH.true)) c.zero.ensures

pub read_into-requires : goal.read_into-requires
read_into-requires c =
    (c.if-text-gt-MAX_TEXT.false, c.zero.ensures ∙ ap zeros (omega (arith, c.zero.auto.t, c.if-out-ne-TABLE_LENGTH.false)))

pub returns : goal.returns
returns c =
    read_program c.args.text.now (length c.args.out.now) c.read_into.ensures c.in_default.is (omega (arith, c.zero.auto.t, c.if-out-ne-TABLE_LENGTH.false))

pub returns-in-Err : goal.returns-in-Err
returns-in-Err c =
    read_refused c.args.text.now (length c.args.out.now) c.read_into.ensures c.in-Err.is (c.zero-in-Err.ensures ∙ ap zeros (c.read_into.auto.t ∙ c.zero.auto.t))
