-- `token_text::digits::put_number`: the sign and the magnitude that the number means.
use mathlib.Core.Path.{ap, ◌∙◌}
use Rattle.page.specs.Page.{puts}
use Rattle.token_text.proofs.Spelled.{puts_then, negative_spaced, positive_spaced}
use Rattle.token_text.proofs.digits.put_number.Goals as goal

pub returns-then-m : goal.returns-then-m
returns-then-m c =
    let args = c.args in
    puts_then _ _ _ c.put_part-e.ensures c.put_spaced_digits.ensures
    ∙ ap (puts _) (negative_spaced args.kind args.x _ c.of_bits-m.ensures c.if-m.true)

pub returns : goal.returns
returns c =
    let args = c.args in
    c.put_spaced_digits-2.ensures ∙ ap (puts _) (positive_spaced args.kind args.x _ c.of_bits-m.ensures c.if-m.false)
