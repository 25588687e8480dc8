use mathlib.Core.Path.{sym, ◌∙◌}
use native.Mathlib.Omega.{arith}
use borrow.Author.Count.{below_more}
use Rattle.ial.proofs.SignatureLaws.{types_differ, types_agree}
use Rattle.ial.proofs.signature.has_types.Goals as goal

pub loop-r-init : goal.loop-r-init
loop-r-init c = (omega arith, λ k h. absurd (omega arith))

pub type_of-requires : goal.type_of-requires
type_of-requires c = (c.requires.0, omega arith)

pub returns-then-type_of-x : goal.returns-then-type_of-x
returns-then-type_of-x c =
    let i = c.loop-r.r in
    types_differ c.args.t.now c.args.a c.args.types.now i (omega arith) (λ e. c.if-type_of-x.true (c.type_of.ensures ∙ e))

pub loop-r-preserved : goal.loop-r-preserved
loop-r-preserved c = (omega arith, below_more _ _ c.loop-r.invariant.1 (sym c.type_of.ensures ∙ c.if-type_of-x.false))

pub returns : goal.returns
returns c =
    types_agree c.args.t.now c.args.a c.args.types.now (λ k h. c.loop-r.invariant.1 k (omega arith))
