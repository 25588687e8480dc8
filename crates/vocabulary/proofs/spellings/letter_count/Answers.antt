-- `vocabulary::spellings::letter_count`: kept with the word.
use Rattle.vocabulary.specs.Letters.{letter_count}
use Rattle.vocabulary.proofs.spellings.letter_count.Goals as goal

pub returns : goal.returns
unfolding letter_count
returns c = c.spelling_of-s.ensures.0
