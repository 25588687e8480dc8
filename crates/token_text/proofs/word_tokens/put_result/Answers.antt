-- `token_text::word_tokens::put_result`: `void` stands for no type.
use mathlib.Core.Path.{ap, ◌∙◌}
use Rattle.page.specs.Page.{puts}
use Rattle.token_text.proofs.Spelled.{result_void, result_type}
use Rattle.token_text.proofs.word_tokens.put_result.Goals as goal

pub returns-then-kind-eq-VOID : goal.returns-then-kind-eq-VOID
returns-then-kind-eq-VOID c = c.put_word.ensures ∙ ap (puts _) (result_void c.if-kind-eq-VOID.true)

pub returns : goal.returns
returns c = c.put_type.ensures ∙ ap (puts _) (result_type _ c.if-kind-eq-VOID.false)
