-- `table_text::put_lines`: head, registers, blocks and the closing brace, one after the other.
use mathlib.Core.Path.{sym, ap, ◌∙◌}
use Rattle.page.specs.Page.{puts}
use Rattle.token_text.proofs.Spelled.{puts_then}
use Rattle.table_text.proofs.Parts.{function_parts}
use Rattle.table_text.proofs.put_lines.Goals as goal

pub put_blocks-body-requires : goal.put_blocks-body-requires
put_blocks-body-requires c = c.requires.1

pub returns : goal.returns
returns c =
    puts_then _ _ _ c.put_head-head.ensures
    (puts_then _ _ _ c.put_registers-declared.ensures (puts_then _ _ _ c.put_blocks-body.ensures c.put_part.ensures))
    ∙ ap (puts _) (sym (function_parts c.args.t.now c.args.a))
