-- `vocabulary::spellings::letters`: made of what is kept of the word.
use mathlib.Core.Path.{◌∙◌}
use Rattle.vocabulary.proofs.LetterLaws.{word_length, rest_fits, letters_made}
use Rattle.vocabulary.proofs.spellings.letters.Goals as goal

pub spaces_behind-requires : goal.spaces_behind-requires
spaces_behind-requires c = rw c.spelling_of-s.ensures.0 (word_length c.args.w c.requires)

pub overflow_add-rest : goal.overflow_add-rest
overflow_add-rest c =
    let s = c.spelling_of-s.ensures in
    record { fits = rw (s.2, c.spaces_behind.ensures, s.0) (rest_fits c.args.w c.requires) }

pub returns : goal.returns
returns c =
    let s = c.spelling_of-s.ensures in
    c.put_eight.ensures
    ∙ rw (s.1, s.2, c.spaces_behind.ensures, s.0) (letters_made c.args.w c.requires)
