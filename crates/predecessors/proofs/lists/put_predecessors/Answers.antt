use mathlib.Core.Path.{◌≡◌, refl, sym, ap, ◌∙◌}
use mathlib.Core.List.{List, ◌++◌}
use Prim.Native.Nat.{ℕ}
use native.Mathlib.Omega.{arith}
use lib.ListN.{length}
use Rattle.language.specs.Programs.{Func}
use Rattle.language.specs.Table.{block_count, cells_listing, predecessor_lists}
use Rattle.theorems.proofs.TableFunction.{block_count_at}
use Rattle.predecessors.specs.Ranked.{lists_before}
use Rattle.predecessors.specs.Listing.{FunctionStands, no_lists}
use Rattle.predecessors.proofs.ListingLaws.{stands_at, before_fit, before_all}
use Rattle.predecessors.proofs.lists.put_predecessors.Goals as goal

-- all blocks are done
whole : (t₀ : List ℕ) (a n x : ℕ) (t : List ℕ) → n ≡ block_count t₀ a → x ≡ n → (g : Func) (before behind : List ℕ) → FunctionStands t₀ a (no_lists g) g before behind
    → FunctionStands t a (lists_before g x) g before behind → FunctionStands t a (predecessor_lists g) g before behind
whole t₀ a n x t e d g before behind s end =
    let fit = before_fit g 0 (omega arith) in
    let all : x ≡ length g.blocks = d ∙ e ∙ block_count_at g s.laid (no_lists g) fit a (stands_at s fit) in
    let lists : lists_before g x ≡ predecessor_lists g = ap (lists_before g) all ∙ before_all g in
    record { laid = end.laid; place = end.place; cells = end.cells ∙ ap (λ ls. before ++ (cells_listing ls g ++ behind)) lists }

pub block_count-n-requires : goal.block_count-n-requires
block_count-n-requires c = c.requires.0

pub loop-x-init : goal.loop-x-init
loop-x-init c = (omega arith, refl, sym c.block_count-n.ensures.0, λ g before behind s. s)

pub list_block-requires : goal.list_block-requires
list_block-requires c =
    (omega (arith, c.requires.0, c.loop-x.invariant.1), sym c.loop-x.invariant.2, omega (arith, c.requires.1, c.block_count-n.ensures.0), omega arith)

pub loop-x-preserved : goal.loop-x-preserved
loop-x-preserved c = (
  omega arith,
  omega arith,
  c.list_block.ensures.a_unchanged ∙ c.loop-x.invariant.2,
  λ g before behind s. c.list_block.ensures.function_stands g before behind (c.loop-x.invariant.3 g before behind s),
)

pub shape_of-t : goal.shape_of-t
shape_of-t c = omega arith

pub returns : goal.returns
returns c g before behind s =
    whole _ _ _ _ _ c.block_count-n.ensures.0 (omega arith) g before behind s (c.loop-x.invariant.3 g before behind s)
