-- `vocabulary::plain::plain_name`: the two tests of the definition.
use Rattle.vocabulary.proofs.PlainNames.{not_plain, no_word}
use Rattle.vocabulary.proofs.plain.plain_name.Goals as goal

pub returns-then-not-plain_bytes : goal.returns-then-not-plain_bytes
returns-then-not-plain_bytes c = not_plain c.args.name.now _ c.plain_bytes.ensures c.if-not-plain_bytes.true-raw

pub returns : goal.returns
returns c = no_word c.args.name.now _ c.plain_bytes.ensures c.if-not-plain_bytes.false-raw c.word.ensures
