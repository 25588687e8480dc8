-- `write_lines`: what writing left in the buffer, or the line of its refusal over it.
use mathlib.Core.Path.{sym, ◌∙◌}
use native.Mathlib.Omega.{arith}
use Rattle.calling.proofs.WrittenLaws.{prints_line, text_refused, text_wrote}
use Rattle.calling.proofs.texts.write_lines.Goals as goal

pub put_refusal-requires : goal.put_refusal-requires
put_refusal-requires c =
    omega (arith, c.write.auto.out, c.requires.out_len)

pub returns-in-Err : goal.returns-in-Err
returns-in-Err c =
    prints_line c.put_refusal.ensures.0 (omega (arith, c.put_refusal.ensures.1, c.write.auto.out, c.requires.out_len))
    ∙ sym (text_refused c.args.t.now c.requires.t_value c.requires.out_len c.write.result c.write.ensures c.in-Err.is)

pub returns-in-Ok : goal.returns-in-Ok
returns-in-Ok c =
    text_wrote c.args.t.now c.requires.t_value c.requires.out_len c.write.result c.write.ensures c.in-Ok.is
