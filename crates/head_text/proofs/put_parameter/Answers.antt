-- `head_text::put_parameter`: the first with nothing before it, each other with its comma.
use mathlib.Core.Path.{ap, ◌∙◌}
use Rattle.language.specs.MadeNames.{named_function}
use Rattle.language.specs.Table.{decode_function}
use Rattle.page.specs.Page.{puts}
use Rattle.token_text.proofs.Spelled.{puts_then}
use Rattle.head_text.proofs.LibLaws.{parameter_first, parameter_later}
use Rattle.head_text.proofs.put_parameter.Goals as goal

pub returns-then-r-eq0 : goal.returns-then-r-eq0
returns-then-r-eq0 c =
    c.put_typed.ensures ∙ ap (puts _) (parameter_first (named_function (decode_function c.args.t.now c.args.a)) c.args.r c.if-r-eq0.true)

pub returns : goal.returns
returns c =
    puts_then _ _ _ c.put_part-p.ensures c.put_typed-2.ensures
    ∙ ap (puts _) (parameter_later (named_function (decode_function c.args.t.now c.args.a)) c.args.r c.if-r-eq0.false)
