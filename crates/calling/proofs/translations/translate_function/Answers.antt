-- `translate_function`: the refusal, or the text of what the translation's table holds.
use mathlib.Core.Path.{sym, ◌∙◌}
use native.Mathlib.Omega.{arith}
use Rattle.calling.proofs.AcceptingLaws.{refusal_fits}
use Prim.Native.Nat.{ℕ}
use lib.ListN.{length-replicate}
use Rattle.language.specs.Table.{table_length}
use Rattle.calling.proofs.TranslationLaws.{line_refused, line_translated, translated_accepted}
use Rattle.calling.proofs.WrittenLaws.{prints_line}
use Rattle.calling.proofs.translations.translate_function.Goals as goal

pub put_refusal-requires : goal.put_refusal-requires
put_refusal-requires c = refusal_fits c.requires.out_len

pub slice_bounds-write_lines-end : goal.slice_bounds-write_lines-end
slice_bounds-write_lines-end c = sym c.x-2-1.given

pub write_lines-requires : goal.write_lines-requires
write_lines-requires c =
    record { t_value = translated_accepted c.args.t.now c.args.function c.requires.t_value c.translate.new.out c.translate.result (length-replicate {A = ℕ} table_length 0) c.translate.ensures c.in-Ok.is; out_len = c.requires.out_len }

pub returns-in-Err : goal.returns-in-Err
returns-in-Err c =
    prints_line c.put_refusal.ensures.0 (omega (arith, c.put_refusal.ensures.1, c.requires.out_len))
    ∙ sym (line_refused c.args.t.now c.args.function c.requires.t_value c.translate.new.out c.translate.result (length-replicate {A = ℕ} table_length 0) c.translate.ensures c.in-Err.is)

pub returns-in-Ok : goal.returns-in-Ok
returns-in-Ok c =
    c.write_lines.ensures
    ∙ sym (line_translated c.args.t.now c.args.function c.requires.t_value c.translate.new.out c.translate.result (length-replicate {A = ℕ} table_length 0) c.translate.ensures c.in-Ok.is)

pub slice_bounds-translate-end : goal.slice_bounds-translate-end
slice_bounds-translate-end c = sym (length-replicate {A = ℕ} table_length 0)
