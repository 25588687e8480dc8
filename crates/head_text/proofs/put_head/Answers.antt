-- `head_text::put_head`: its parts, one after the other.
use mathlib.Core.Path.{ap, ◌∙◌}
use Rattle.page.specs.Page.{puts}
use Rattle.token_text.proofs.Spelled.{puts_then}
use Rattle.head_text.proofs.LibLaws.{head_by_cells}
use Rattle.head_text.proofs.put_head.Goals as goal

pub returns : goal.returns
returns c =
    puts_then _ _ _ c.put_word-word.ensures
    (puts_then _ _ _ c.put_mark-mark.ensures
    (puts_then _ _ _ c.put_result-result.ensures
    (puts_then _ _ _ c.put_name-name.ensures
    (puts_then _ _ _ c.put_part-open.ensures (puts_then _ _ _ c.put_parameters-last.ensures c.put_part.ensures)))))
    ∙ ap (puts _) (head_by_cells c.args.t.now c.args.a c.function_result.ensures c.function_name.ensures)
