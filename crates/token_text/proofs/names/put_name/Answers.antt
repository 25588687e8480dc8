-- `token_text::names::put_name`: its spelling, then the space.
use mathlib.Core.Path.{ap, ◌∙◌}
use Rattle.page.specs.Page.{puts}
use Rattle.token_text.proofs.Spelled.{puts_then, name_spaced}
use Rattle.token_text.proofs.names.put_name.Goals as goal

pub returns : goal.returns
returns c = puts_then _ _ _ c.put_spelling-e.ensures c.put_part.ensures ∙ ap (puts _) (name_spaced c.args.name.now)
