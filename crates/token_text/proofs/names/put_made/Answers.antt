-- `token_text::names::put_made`: the prefix, then the number.
use mathlib.Core.Path.{ap, ◌∙◌}
use Rattle.page.specs.Page.{puts}
use Rattle.token_text.proofs.Spelled.{puts_then, made_spaced}
use Rattle.token_text.proofs.names.put_made.Goals as goal

pub returns : goal.returns
returns c = let args = c.args in puts_then _ _ _ c.put_part-e.ensures c.put_spaced_digits.ensures ∙ ap (puts _) (made_spaced args.prefix.now args.number c.requires)
