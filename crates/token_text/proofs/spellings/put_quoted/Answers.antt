-- `token_text::spellings::put_quoted`: a quote, the bytes with their backslashes, and what closes them.
use Rattle.token_text.proofs.Spelled.{puts_then}
use Rattle.token_text.proofs.spellings.put_quoted.Goals as goal

pub returns : goal.returns
returns c = puts_then _ _ _ (puts_then _ _ _ c.put_part-e.ensures c.put_escaped-f.ensures) c.put_part.ensures
