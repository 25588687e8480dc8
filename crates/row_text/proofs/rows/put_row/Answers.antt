-- `row_text::rows::put_row`: the parts one after the other, and the line's end.
use mathlib.Core.List.{List, [], ◌∷◌, ◌++◌}
use mathlib.Core.Path.{ap, ◌∙◌}
use native.Mathlib.Omega.{arith}
use Rattle.language.specs.Programs.{targets_of, sources_of}
use Rattle.language.specs.Table.{decode_row}
use Rattle.language.specs.Tokens.{Token}
use Rattle.language.specs.Writing.{bytes_for, op_token, target_part, registers_part}
use Rattle.instructions.specs.declared.Shape.{Shape}
use Rattle.instructions.specs.Shapes.{shape_of}
use Rattle.page.specs.Page.{puts}
use Rattle.token_text.specs.Spaced.{spaced}
use Rattle.token_text.proofs.Spelled.{puts_then, spaced_then}
use Rattle.row_text.specs.Ready.{titled, operand_tokens}
use Rattle.row_text.proofs.Asked.{row_asked}
use Rattle.row_text.proofs.Parts.{row_line_law}
use Rattle.row_text.proofs.rows.put_row.Goals as goal

pub row_op-op-requires : goal.row_op-op-requires
row_op-op-requires c = row_asked c.requires.0 c.requires.1

pub put_target-e-requires : goal.put_target-e-requires
put_target-e-requires c = (c.requires.0, c.requires.1, ap (λ (x : Shape). x.target) (c.shape_of-s.ensures ∙ ap shape_of c.row_op-op.ensures))

pub overflow_add-op : goal.overflow_add-op
overflow_add-op c =
    omega (arith, (c.requires.0.rows c.args.r c.requires.1).instruction, c.row_op-op.ensures)

pub put_word-f-requires : goal.put_word-f-requires
put_word-f-requires c =
    omega (arith, (c.requires.0.rows c.args.r c.requires.1).instruction, c.row_op-op.ensures)

pub put_sources-g-requires : goal.put_sources-g-requires
put_sources-g-requires c = (c.requires.0, c.requires.1, ap (λ (x : Shape). x.sources) (c.shape_of-s.ensures ∙ ap shape_of c.row_op-op.ensures))

pub put_operand-h-requires : goal.put_operand-h-requires
put_operand-h-requires c = (c.requires.0, c.requires.1, ap (λ (x : Shape). x.operand) (c.shape_of-s.ensures ∙ ap shape_of c.row_op-op.ensures))

pub returns : goal.returns
unfolding bytes_for
returns c =
    let x = c.args in
    let g = titled x.t.now x.a in
    let row = decode_row x.t.now x.a x.r in
    let kind = c.shape_of-s.result.operand in
    let ts : List Token = target_part g (targets_of row) in
    let ss : List Token = registers_part g (sources_of row) in
    puts_then _ (spaced (((ts ++ (op_token c.row_op-op.result ∷ [])) ++ ss) ++ operand_tokens x.t.now x.a x.r kind)) (59 ∷ 10 ∷ [])
    (spaced_then _ ((ts ++ (op_token c.row_op-op.result ∷ [])) ++ ss) (operand_tokens x.t.now x.a x.r kind)
    (spaced_then _ (ts ++ (op_token c.row_op-op.result ∷ [])) ss
    (spaced_then _ ts (op_token c.row_op-op.result ∷ []) c.put_target-e.ensures c.put_word-f.ensures)
    c.put_sources-g.ensures)
    c.put_operand-h.ensures)
    c.put_part.ensures
    ∙ ap (puts _) (row_line_law x.t.now x.a x.r c.row_op-op.ensures (ap (λ (x : Shape). x.operand) (c.shape_of-s.ensures ∙ ap shape_of c.row_op-op.ensures)))
