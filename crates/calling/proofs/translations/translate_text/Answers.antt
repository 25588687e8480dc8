-- `translate_text`: the refusal of the text, or the translation of the function that the word means.
use mathlib.Core.Path.{sym, ◌∙◌}
use Prim.Native.Nat.{ℕ}
use native.Mathlib.Omega.{arith}
use lib.ListN.{length-replicate}
use Rattle.language.specs.Table.{table_length}
use Rattle.calling.specs.Calls.{translate_line, translate_printed}
use Rattle.calling.proofs.AcceptingLaws.{printed_refused, printed_accepted, refusal_fits}
use Rattle.calling.proofs.WrittenLaws.{prints_line}
use Rattle.calling.proofs.translations.translate_text.Goals as goal

pub accept-requires : goal.accept-requires
accept-requires c = length-replicate {A = ℕ} table_length 0

pub slice_bounds-accept-end : goal.slice_bounds-accept-end
slice_bounds-accept-end c = sym (length-replicate {A = ℕ} table_length 0)

pub put_refusal-requires : goal.put_refusal-requires
put_refusal-requires c = refusal_fits c.requires

pub slice_bounds-translate_function-end : goal.slice_bounds-translate_function-end
slice_bounds-translate_function-end c = sym c.t-2-1.given

pub slice_bounds-function_number-end : goal.slice_bounds-function_number-end
slice_bounds-function_number-end c = sym c.t-2-1.given

pub function_number-requires : goal.function_number-requires
function_number-requires c = c.accept.ensures.passes c.in-Ok.is

pub translate_function-requires : goal.translate_function-requires
translate_function-requires c =
    record { t_value = c.accept.ensures.passes c.in-Ok.is; out_len = c.requires }

pub shape_of-out-in-Err : goal.shape_of-out-in-Err
shape_of-out-in-Err c = c.put_refusal.auto.out

pub returns-in-Err : goal.returns-in-Err
unfolding translate_printed
returns-in-Err c =
    prints_line c.put_refusal.ensures.0 (omega (arith, c.put_refusal.ensures.1, c.requires))
    ∙ sym (printed_refused (λ p. translate_line p c.args.word.now) c.accept.ensures c.in-Err.is)

pub shape_of-out-in-Ok : goal.shape_of-out-in-Ok
shape_of-out-in-Ok c = c.translate_function.auto.out

pub returns-in-Ok : goal.returns-in-Ok
unfolding translate_printed translate_line
returns-in-Ok c =
    rw (printed_accepted (λ p. translate_line p c.args.word.now) c.accept.ensures c.in-Ok.is, sym c.function_number.ensures) c.translate_function.ensures
