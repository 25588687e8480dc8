-- `head_text::put_mark`: the word of an ssa function, nothing of another.
use mathlib.Core.Path.{ap, ◌∙◌}
use Rattle.page.specs.Page.{puts}
use Rattle.head_text.proofs.LibLaws.{mark_there, mark_none}
use Rattle.head_text.proofs.put_mark.Goals as goal

pub returns-then-function_ssa-eq-SSA : goal.returns-then-function_ssa-eq-SSA
returns-then-function_ssa-eq-SSA c =
    c.put_word.ensures ∙ ap (puts _) (mark_there c.args.t.now c.args.a c.function_ssa.ensures c.if-function_ssa-eq-SSA.true)

pub returns : goal.returns
unfolding puts
returns c =
    ap (puts _) (mark_none c.args.t.now c.args.a c.function_ssa.ensures c.if-function_ssa-eq-SSA.false)
