-- `token_text::names::put_given`: a plain name is its own spelling, any other is in quotes.
use mathlib.Core.Path.{ap, ◌∙◌}
use Rattle.page.specs.Page.{puts}
use Rattle.token_text.proofs.Spelled.{puts_then, flagged_spaced, flagged_quoted}
use Rattle.token_text.proofs.names.put_given.Goals as goal

pub returns-then-flag-ne-PLAIN : goal.returns-then-flag-ne-PLAIN
returns-then-flag-ne-PLAIN c = c.put_quoted.ensures ∙ ap (puts _) (flagged_quoted c.args.name.now c.requires c.if-flag-ne-PLAIN.true)

pub returns : goal.returns
returns c = puts_then _ _ _ c.put_part-end.ensures c.put_part.ensures ∙ ap (puts _) (flagged_spaced c.args.name.now c.requires c.if-flag-ne-PLAIN.false)
