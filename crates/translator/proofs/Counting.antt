-- The counts that a translation goes by: phi, pairs and rows, block by block.
-- Assumes nothing.
use mathlib.Core.Path.{◌≡◌, refl, sym, ◌∙◌}
use mathlib.Core.Bool.{Bool, true, false, cond}
use mathlib.Core.List.{map}
use Prim.Native.Nat.{ℕ, suc, ◌+◌, ◌*◌, ◌≤◌, ◌<◌}
use native.Mathlib.Nat.{zero-mul}
use native.Mathlib.Omega.{arith}
use lib.Dec.{T, eqb, leb→le}
use lib.ListN.{length}
use lib.Seq.{take-length}
use lib.Ieee.Fits.{and_l, and_r}
use borrow.Author.Tests.{ne_eqb}
use Rattle.laws.specs.Lists.{keep, below, sum}
use Rattle.laws.proofs.Gather.{keep_gather, length_gather, sum_take_suc}
use Rattle.laws.proofs.Keep.{any_none, any_keep}
use Rattle.laws.proofs.Sums.{sum_keep, sum_same, sum_below_le, length_keeps}
use Rattle.laws.proofs.OneMore.{sum_below_suc}
use Rattle.language.specs.Programs.{Block, Func, no_block, rows_at, rows_of, first_row, is_phi, has_phi}
use Rattle.language.specs.Checking.{predecessors}
use Rattle.language.specs.Running.{phis_of}
use Rattle.language.specs.Translating.{phi_blocks, phis_before, pairs_before, phi_total, pair_count, size_of_edges, translated_blocks, translation_fits}
use Rattle.theorems.specs.Clean.{Clean}
use Rattle.theorems.proofs.SimulationRows.{phis_at}

-- The pairs whose phi block is block y, and the rows of their edge blocks.
abbrev pub pairs_at : Func → ℕ → ℕ
pairs_at f y = cond (has_phi f y) (length (predecessors f y)) 0

abbrev pub edges_at : Func → ℕ → ℕ
edges_at f y = pairs_at f y * (2 * length (phis_at f y) + 1)

unfoldable pub edges_before : Func → ℕ → ℕ
edges_before f b = sum (map (edges_at f) (below b))

module _ (f : Func) where
  -- ---- block by block

  pub pairs_next : (y : ℕ) → pairs_before f (suc y) ≡ pairs_before f y + pairs_at f y
  unfolding pairs_before
  pairs_next y = sum_below_suc (pairs_at f) y

  pub edges_next : (y : ℕ) → edges_before f (suc y) ≡ edges_before f y + edges_at f y
  unfolding edges_before
  edges_next y = sum_below_suc (edges_at f) y

  pub phis_next : (y : ℕ) → y < length f.blocks → phis_before f (suc y) ≡ phis_before f y + length (phis_at f y)
  unfolding phis_before
  phis_next y l = sum_take_suc (λ b. length (phis_of b.rows)) no_block f.blocks y l

  -- ---- all blocks

  pub phis_all : phis_before f (length f.blocks) ≡ phi_total f
  unfolding phis_before phi_total rows_of phis_of
  phis_all =
      rw (take-length f.blocks, keep_gather is_phi (λ (b : Block). b.rows) f.blocks)
      (sym (length_gather (λ (b : Block). keep is_phi b.rows) f.blocks))

  pub pairs_all : pairs_before f (length f.blocks) ≡ pair_count f
  unfolding pairs_before pair_count phi_blocks
  pairs_all = sym (sum_keep (λ y. length (predecessors f y)) (has_phi f) (below (length f.blocks)))

  pub first_all : first_row f (length f.blocks) ≡ length (rows_of f)
  unfolding first_row rows_of
  first_all = rw (take-length f.blocks) (sym (length_gather (λ (b : Block). b.rows) f.blocks))

  edges_here : (y : ℕ) → cond (has_phi f y) (length (predecessors f y) * (2 * length (phis_at f y) + 1)) 0 ≡ edges_at f y
  edges_here y = case (has_phi f y)
    where
      n : ℕ
      n = 2 * length (phis_at f y) + 1

      case : (b : Bool) → cond b (length (predecessors f y) * n) 0 ≡ cond b (length (predecessors f y)) 0 * n
      case true = refl
      case false = sym (zero-mul n)

  pub edges_all : edges_before f (length f.blocks) ≡ size_of_edges f
  unfolding edges_before size_of_edges phi_blocks
  edges_all =
      sum_same (λ y. sym (edges_here y)) (below (length f.blocks))
      ∙ sym (sum_keep (λ y. length (predecessors f y) * (2 * length (phis_at f y) + 1)) (has_phi f) (below (length f.blocks)))

  -- ---- within all

  pub phis_fewer : phi_total f ≤ length (rows_of f)
  unfolding phi_total phis_of
  phis_fewer = omega (arith, length_keeps is_phi (rows_of f))

  pub pairs_within : (y : ℕ) → y < length f.blocks → pairs_before f y + pairs_at f y ≤ pair_count f
  unfolding pairs_before
  pairs_within y l = rw (← pairs_all) (sum_below_le (pairs_at f) y (length f.blocks) l)

-- ---- 31

module _ (f : Func) (h : T (translation_fits f)) where
  pub blocks_fit : length f.blocks + pair_count f ≤ 64
  unfolding translation_fits translated_blocks
  blocks_fit = leb→le (length f.blocks + pair_count f) 64 (search (and_l, and_r))

-- ---- what is prepared

module _ (f : Func) (c : Clean f) where
  -- a block has phi exactly if it has some number of them
  pub by_count : {A : Type 0} (y p : ℕ) (u v : A) → p ≡ length (phis_at f y) → cond (eqb p 0) u v ≡ cond (has_phi f y) v u
  unfolding phis_of
  by_count {A} y p u v e = case (has_phi f y) refl
    where
      case : (b : Bool) → has_phi f y ≡ b → cond (eqb p 0) u v ≡ cond b v u
      case true h = rw (ne_eqb p 0 (λ z. omega (arith, any_keep is_phi (rows_at f y) h)))
      case false h = rw (e, any_none is_phi (rows_at f y) h)
