-- The numbers that the translation gives its new registers and blocks are within its own lists.
-- Assumes nothing.
use mathlib.Core.Path.{◌≡◌, refl, ap, ◌∙◌}
use mathlib.Core.Bool.{Bool, true, false, cond}
use mathlib.Core.List.{map}
use Prim.Native.Nat.{ℕ, ◌+◌, ◌≤◌, ◌<◌}
use native.Mathlib.Nat.{add_assoc}
use native.Mathlib.Omega.{arith}
use lib.Dec.{eqb}
use lib.ListN.{length, get_or}
use lib.Seq.{get_or-append-add}
use Rattle.laws.specs.Lists.{keep, below, member}
use Rattle.laws.proofs.Gather.{keep_gather, get_or_gather}
use Rattle.laws.proofs.Indexing.{position_lt, get_d_map}
use Rattle.laws.proofs.Every.{member_below, member_keep}
use Rattle.laws.proofs.Sums.{sum_keep, sum_below_le}
use Rattle.language.specs.Programs.{Row, Func, no_register, no_block, rows_at, type_at, rows_of, is_phi, has_phi}
use Rattle.language.specs.Checking.{goes_to, predecessors}
use Rattle.language.specs.Running.{phis_of, phi_target}
use Rattle.language.specs.Translating.{phi_blocks, phis_before, pairs_before, new_register, edge_of, retargeted, register_for, translation, phi_total, pair_count, translated_registers, translated_blocks}
use Rattle.theorems.proofs.SimulationBlocks.{phis_fit}
use Rattle.theorems.proofs.Size.{size_registers, size_blocks}

module _ (f : Func) where
  -- ---- registers

  pub kept_lt : (r : ℕ) → r < length f.registers → r < length (translation f).registers
  unfolding translated_registers
  kept_lt r l = omega (arith, size_registers f)

  module _ (y : ℕ) (l : y < length f.blocks) where
    -- The i-th phi of block y.
    module _ (i : ℕ) (m : i < length (phis_of (rows_at f y))) where
      phi_at : get_or (phis_of (rows_of f)) (phis_before f y + i) Row.nop ≡ get_or (phis_of (rows_at f y)) i Row.nop
      unfolding phis_before phis_of rows_of
      phi_at = rw keep_gather (get_or_gather (λ b. keep is_phi b.rows) f.blocks y i no_block Row.nop l m)

      pub new_lt : new_register f y + i < length (translation f).registers
      unfolding new_register translated_registers
      new_lt = omega (arith, phis_fit f y l, size_registers f)

      pub type_new : type_at (translation f) (new_register f y + i) ≡ type_at f (phi_target (get_or (phis_of (rows_at f y)) i Row.nop))
      unfolding new_register translation register_for phi_total
      type_new =
          let k = phis_before f y + i in
          let q : k < length (phis_of (rows_of f)) = omega (arith, phis_fit f y l) in
          let news = map (register_for f) (phis_of (rows_of f)) in
          ap (λ n. type_at (translation f) n) (add_assoc (length f.registers) (phis_before f y) i)
          ∙ ap (λ r. r.type) (get_or-append-add f.registers news k no_register)
          ∙ ap (λ r. r.type) (get_d_map (register_for f) (phis_of (rows_of f)) k Row.nop no_register q)
          ∙ ap (λ r. type_at f (phi_target r)) phi_at

  -- ---- blocks

  pub block_lt : (b : ℕ) → b < length f.blocks → b < length (translation f).blocks
  unfolding translated_blocks
  block_lt b l = omega (arith, size_blocks f)

  pairs_fit : (y : ℕ) → y < length f.blocks → has_phi f y ≡ true → pairs_before f y + length (predecessors f y) ≤ pair_count f
  unfolding pairs_before pair_count phi_blocks
  pairs_fit y l e =
      let pairs : ℕ → ℕ = λ z. cond (has_phi f z) (length (predecessors f z)) 0 in
      let own : pairs y ≡ length (predecessors f y) = ap (λ b. cond b (length (predecessors f y)) 0) e in
      rw sum_keep (rw own at (sum_below_le pairs y (length f.blocks) l))

  is_predecessor : (x y : ℕ) → x < length f.blocks → goes_to f x y ≡ true → member x (predecessors f y) ≡ true
  unfolding predecessors
  is_predecessor x y l g =
      let n = length f.blocks in
      member_keep (λ z. goes_to f z y) x (below n) g (member_below n x l)

  edge_lt :
      (x y : ℕ)
      → x < length f.blocks
      → y < length f.blocks
      → goes_to f x y ≡ true
      → has_phi f y ≡ true
      → edge_of f x y < length (translation f).blocks
  unfolding edge_of translated_blocks
  edge_lt x y k l g e =
      let p = position_lt (λ z. eqb z x) (predecessors f y) (is_predecessor x y k g) in
      omega (arith, pairs_fit y l e, size_blocks f)

  -- "the predecessor's terminator names it wherever it named the phi block"
  pub retargeted_lt :
      (x y : ℕ)
      → x < length f.blocks
      → y < length f.blocks
      → goes_to f x y ≡ true
      → retargeted f x y < length (translation f).blocks
  unfolding retargeted
  retargeted_lt x y k l g = case (has_phi f y) refl
    where
      case : (b : Bool) → has_phi f y ≡ b → cond b (edge_of f x y) y < length (translation f).blocks
      case true e = edge_lt x y k l g e
      case false e = block_lt y l
