-- `token_text::word_tokens::put_word`: of ten bytes those of the word and a space.
use mathlib.Core.Path.{ap, ◌∙◌}
use native.Mathlib.Omega.{arith}
use lib.ListN.{length-take}
use Rattle.page.specs.Page.{puts}
use Rattle.token_text.proofs.Spelled.{word_letters, word_fits, word_short}
use Rattle.token_text.proofs.word_tokens.put_word.Goals as goal

pub overflow_add-s : goal.overflow_add-s
overflow_add-s c =
    let small = word_short c.args.w c.requires c.letter_count-n.ensures c.letters-s.ensures in
    omega (arith, small)

pub slice_bounds-s-end : goal.slice_bounds-s-end
slice_bounds-s-end c =
    word_fits c.args.w c.requires c.letter_count-n.ensures c.letters-s.ensures

pub slice_bounds-put_part-end : goal.slice_bounds-put_part-end
slice_bounds-put_part-end c =
    let fits = word_fits c.args.w c.requires c.letter_count-n.ensures c.letters-s.ensures in
    simp length-take (omega arith)

pub returns : goal.returns
returns c =
    c.put_part.ensures
    ∙ ap (puts _)
    (word_letters c.args.w c.requires c.letter_count-n.ensures c.letters-s.ensures)
