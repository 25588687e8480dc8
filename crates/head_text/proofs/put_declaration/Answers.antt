-- `head_text::put_declaration`: the word, the register with its type, the semicolon.
use mathlib.Core.Path.{sym, ap, ◌∙◌}
use Rattle.language.specs.MadeNames.{named_function}
use Rattle.language.specs.Table.{decode_function}
use Rattle.page.specs.Page.{puts}
use Rattle.token_text.proofs.Spelled.{puts_then}
use Rattle.head_text.proofs.LibLaws.{register_parts}
use Rattle.head_text.proofs.put_declaration.Goals as goal

pub returns : goal.returns
returns c =
    puts_then _ _ _ c.put_word-word.ensures (puts_then _ _ _ c.put_typed-name.ensures c.put_part.ensures)
    ∙ ap (puts _) (sym (register_parts (named_function (decode_function c.args.t.now c.args.a)) c.args.r))
