use mathlib.Core.Path.{◌≡◌, ◌∙◌, sym}
use native.Mathlib.Nat.{not-suc-le-zero}
use native.Mathlib.Omega.{arith}
use borrow.Author.Count.{below_more}
use borrow.Author.Tests.{eq-eqb, ne_eqb}
use Rattle.laws.proofs.Ranges.{all_below, all_below_not}
use Rattle.predecessors.proofs.comparing.counted.Goals as goal

pub loop-b-init : goal.loop-b-init
loop-b-init c = (omega arith, λ i l. absurd (not-suc-le-zero l))

pub predecessor_count-requires : goal.predecessor_count-requires
predecessor_count-requires c = (c.requires.0, omega arith)

pub bounds-seen-b : goal.bounds-seen-b
bounds-seen-b c = omega arith

pub returns-then-predecessor_count-from : goal.returns-then-predecessor_count-from
returns-then-predecessor_count-from c =
    sym (all_below_not _ c.args.n c.loop-b.b (omega arith)
    (ne_eqb _ _ (λ d. let e : c.predecessor_count.result ≡ c.from.result = c.predecessor_count.ensures.0 ∙ d ∙ sym c.from.ensures in omega arith)))

pub loop-b-preserved : goal.loop-b-preserved
loop-b-preserved c =
    let e : c.predecessor_count.result ≡ c.from.result = omega arith in
    (omega arith, below_more _ _ c.loop-b.invariant.1 (eq-eqb _ _ (sym c.predecessor_count.ensures.0 ∙ e ∙ c.from.ensures)))

pub returns : goal.returns
returns c = sym (all_below _ c.args.n (λ i l. c.loop-b.invariant.1 i (omega arith)))
