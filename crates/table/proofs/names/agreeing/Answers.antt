use mathlib.Core.Path.{◌≡◌, sym, ◌∙◌}
use native.Mathlib.Omega.{arith}
use borrow.Author.Count.{below_none}
use Rattle.language.specs.Table.{eight}
use Rattle.table.proofs.Digits.{agree_more, eight_like}
use Rattle.table.proofs.names.agreeing.Goals as goal

pub loop-i-init : goal.loop-i-init
loop-i-init c = record { within = omega arith; cells = below_none _ }

pub overflow_sub-a : goal.overflow_sub-a
overflow_sub-a c = omega arith

pub eight_at-requires : goal.eight_at-requires
eight_at-requires c = omega arith

pub eight_at-requires-in-loop-i : goal.eight_at-requires-in-loop-i
eight_at-requires-in-loop-i c = omega arith

pub returns-then-eight_at : goal.returns-then-eight_at
returns-then-eight_at c = c.loop-i.invariant

pub overflow_add-i : goal.overflow_add-i
overflow_add-i c = omega arith

pub loop-i-smaller : goal.loop-i-smaller
loop-i-smaller c = omega arith

pub loop-i-preserved : goal.loop-i-preserved
loop-i-preserved c =
    let a = c.args.a.now in
    let b = c.args.b.now in
    let equal : eight a c.loop-i.i ≡ eight b c.loop-i.i = sym c.eight_at.ensures ∙ c.if-eight_at.false ∙ c.eight_at-in-loop-i.ensures in
    agree_more a b 8 c.loop-i.invariant (omega arith)
    (eight_like a b (λ k. (c.shared_slice_known-1.given k).fits) (λ k. (c.shared_slice_known-2-1.given k).fits) c.loop-i.i equal)

pub returns : goal.returns
returns c = c.loop-i.invariant
