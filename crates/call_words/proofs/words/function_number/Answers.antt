-- `function_number`: the word's number, or the function that it names.
use Rattle.call_words.specs.Words.{function_by_word}
use Rattle.call_words.proofs.words.function_number.Goals as goal

pub returns : goal.returns
unfolding function_by_word
returns c = rw (c.number_or.ensures, c.read_decimal.ensures, c.function_named.ensures)
