-- `token_text::spellings::put_spelling`: the two cases of the definition.
use mathlib.Core.Path.{◌∙◌, ap}
use Rattle.page.specs.Page.{puts}
use Rattle.token_text.proofs.Escaping.{spelled_plain, spelled_quoted}
use Rattle.token_text.proofs.spellings.put_spelling.Goals as goal

pub plain_name-requires : goal.plain_name-requires
plain_name-requires c = c.classes-table.ensures

pub returns-then-plain_name : goal.returns-then-plain_name
returns-then-plain_name c = c.put_part.ensures ∙ ap (puts _) (spelled_plain c.args.name.now c.plain_name.ensures c.if-plain_name.true)

pub returns : goal.returns
returns c = c.put_quoted.ensures ∙ ap (puts _) (spelled_quoted c.args.name.now c.plain_name.ensures c.if-plain_name.false)
