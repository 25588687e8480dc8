-- `lowest`: a type has one of four widths, and a number is below 2^64.
use mathlib.Core.Path.{ap, sym, ◌∙◌}
use Prim.Native.Nat.{ℕ, ◌%◌, ◌^◌}
use native.Mathlib.Omega.{arith}
use Rattle.instructions.proofs.RangesLaws.{width_last}
use Rattle.answer_lines.proofs.LinesLaws.{lowest_all}
use Rattle.answer_lines.proofs.lowest.Goals as goal

pub returns-in-8 : goal.returns-in-8
returns-in-8 c = ap (λ (w : ℕ). c.args.v % 2 ^ w) (sym c.in-8.is ∙ c.width-w.ensures)

pub returns-in-16 : goal.returns-in-16
returns-in-16 c = ap (λ (w : ℕ). c.args.v % 2 ^ w) (sym c.in-16.is ∙ c.width-w.ensures)

pub returns-in-32 : goal.returns-in-32
returns-in-32 c = ap (λ (w : ℕ). c.args.v % 2 ^ w) (sym c.in-32.is ∙ c.width-w.ensures)

pub returns-in_default : goal.returns-in_default
returns-in_default c =
    let e = c.width-w.ensures in
    lowest_all c.args.kind c.args.v (width_last c.args.kind (λ k. c.in_default.in_default-own.rest.0.0.1 (e ∙ k)) (λ k. c.in_default.in_default-own.rest.0.1 (e ∙ k)) (λ k. c.in_default.in_default-own.rest.1 (e ∙ k))) (omega arith)
