use mathlib.Core.Path.{◌≡◌, sym, ◌∙◌}
use mathlib.Core.Bool.{false}
use Prim.Native.Nat.{ℕ, ◌<◌}
use native.Mathlib.Omega.{arith}
use lib.Dec.{eqb}
use borrow.Author.Count.{below_more}
use borrow.Author.Tests.{eq-eqb, ne_eqb}
use Rattle.language.specs.Table.{predecessor_at}
use Rattle.predecessors.proofs.SearchLaws.{place_is}
use Rattle.predecessors.proofs.ranks.rank.Goals as goal

smaller : (y x : ℕ) → y < x → eqb y x ≡ false
smaller y x l = ne_eqb y x (λ d. absurd (omega arith))

pub predecessor_count-n-requires : goal.predecessor_count-n-requires
predecessor_count-n-requires c = c.requires.in_table

pub loop-k-init : goal.loop-k-init
loop-k-init c =
    (c.skipped-k.ensures.0, λ i l. smaller (predecessor_at c.args.t.now c.args.a c.args.b i) c.args.x (c.skipped-k.ensures.1 i l))

pub predecessor-requires : goal.predecessor-requires
predecessor-requires c = (c.requires.in_table.0, c.requires.in_table.1, omega (arith, c.predecessor_count-n.ensures.1))

pub returns-then-predecessor-x : goal.returns-then-predecessor-x
returns-then-predecessor-x c =
    (place_is c.args.t.now c.args.a c.args.b c.requires.in_table.0 c.requires.in_table.1 _ c.predecessor_count-n.ensures.0 c.predecessor_count-n.ensures.1 _ _ c.loop-k.invariant.0 c.loop-k.invariant.1 (λ l. eq-eqb _ _ (sym c.predecessor.ensures.0 ∙ c.if-predecessor-x.true)), omega arith)

pub loop-k-preserved : goal.loop-k-preserved
loop-k-preserved c =
    (omega arith, below_more (λ i. eqb (predecessor_at c.args.t.now c.args.a c.args.b i) c.args.x ≡ false) c.loop-k.k c.loop-k.invariant.1 (ne_eqb _ _ (λ d. c.if-predecessor-x.false (c.predecessor.ensures.0 ∙ d))))

pub returns : goal.returns
returns c =
    (place_is c.args.t.now c.args.a c.args.b c.requires.in_table.0 c.requires.in_table.1 _ c.predecessor_count-n.ensures.0 c.predecessor_count-n.ensures.1 _ c.predecessor_count-n.result (omega arith) (λ i l. c.loop-k.invariant.1 i (omega arith)) (λ l. absurd (omega arith)), c.predecessor_count-n.ensures.1)
