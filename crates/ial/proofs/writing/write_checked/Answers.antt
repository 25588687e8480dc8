-- `write_checked`: the place after the text tells whether it is too long, and whether it has room.
use native.Mathlib.Omega.{arith}
use Rattle.language.specs.Table.{decode}
use Rattle.language.specs.MadeNames.{written}
use Rattle.theorems.proofs.AcceptanceCheck.{accepted_program}
use Rattle.flow.proofs.Accepted.{accepted_length}
use Rattle.ial.proofs.WriteLaws.{show_long, show_larger, show_whole}
use Rattle.ial.proofs.writing.write_checked.Goals as goal

pub write_table-n-requires : goal.write_table-n-requires
write_table-n-requires c =
    (accepted_length c.args.t.now c.requires, accepted_program c.args.t.now c.requires)

pub returns-then-n-gt-MAX_TEXT : goal.returns-then-n-gt-MAX_TEXT
returns-then-n-gt-MAX_TEXT c =
    let a = c.args in
    rw c.refuse.ensures (show_long a.out.now (written (decode a.t.now)) c.write_table-n.ensures (omega arith) (grind arith))

pub returns-then-out-n : goal.returns-then-out-n
returns-then-out-n c =
    let a = c.args in
    rw c.refuse-then-out-n.ensures (show_larger a.out.now (written (decode a.t.now)) c.write_table-n.ensures (omega arith) (omega (arith, c.write_table-n.auto.out)) (grind arith))

pub returns : goal.returns
returns c =
    let a = c.args in
    show_whole a.out.now (written (decode a.t.now)) c.write_table-n.ensures (omega arith) (omega (arith, c.write_table-n.auto.out))
