-- `write_text`: the refusal of the text, or the text of its program.
use mathlib.Core.Path.{sym, ◌∙◌}
use Prim.Native.Nat.{ℕ}
use native.Mathlib.Omega.{arith}
use lib.ListN.{length-replicate}
use Rattle.language.specs.Table.{table_length}
use Rattle.calling.specs.Calls.{text_line, write_printed}
use Rattle.calling.proofs.AcceptingLaws.{printed_refused, printed_accepted, refusal_fits}
use Rattle.calling.proofs.WrittenLaws.{prints_line}
use Rattle.calling.proofs.texts.write_text.Goals as goal

pub accept-requires : goal.accept-requires
accept-requires c = length-replicate {A = ℕ} table_length 0

pub slice_bounds-accept-end : goal.slice_bounds-accept-end
slice_bounds-accept-end c = sym (length-replicate {A = ℕ} table_length 0)

pub put_refusal-requires : goal.put_refusal-requires
put_refusal-requires c = refusal_fits c.requires

pub slice_bounds-write_lines-end : goal.slice_bounds-write_lines-end
slice_bounds-write_lines-end c = sym c.t-2-1.given

pub write_lines-requires : goal.write_lines-requires
write_lines-requires c =
    record { t_value = c.accept.ensures.passes c.in-Ok.is; out_len = c.requires }

pub shape_of-out-in-Err : goal.shape_of-out-in-Err
shape_of-out-in-Err c = c.put_refusal.auto.out

pub returns-in-Err : goal.returns-in-Err
unfolding write_printed
returns-in-Err c =
    prints_line c.put_refusal.ensures.0 (omega (arith, c.put_refusal.ensures.1, c.requires)) ∙ sym (printed_refused text_line c.accept.ensures c.in-Err.is)

pub shape_of-out-in-Ok : goal.shape_of-out-in-Ok
shape_of-out-in-Ok c = c.write_lines.auto.out

pub returns-in-Ok : goal.returns-in-Ok
unfolding write_printed
returns-in-Ok c = c.write_lines.ensures ∙ sym (printed_accepted text_line c.accept.ensures c.in-Ok.is)
