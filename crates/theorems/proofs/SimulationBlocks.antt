-- What stands in a translation: the kept rows of each block, the copies of each edge, the registers and where they start.
-- Assumes nothing.
use mathlib.Core.Path.{◌≡◌, refl, ap, ◌∙◌, fun_ext}
use mathlib.Core.Bool.{Bool, true, false, cond}
use mathlib.Core.List.{List, [], ◌++◌, map, append_assoc}
use Prim.Native.Nat.{ℕ, ◌+◌, ◌-◌, ◌≤◌, ◌<◌}
use native.Mathlib.Omega.{arith}
use lib.ListN.{length, get_or, take, replicate, length-append, length-map, length-replicate, replicate-append-replicate, get_or-append}
use lib.Seq.{get_or-append-add}
use Rattle.laws.specs.Lists.{keep, gather, below, sum}
use Rattle.laws.proofs.Indexing.{length_below, get_or_below, take_below, get_d_map}
use Rattle.laws.proofs.Gather.{length_gather, get_or_gather, gather_keep, keep_gather, sum_take_le}
use Rattle.language.specs.Programs.{Register, Block, Func, no_register, no_block, block_at, rows_at, type_at, rows_of, is_phi, has_phi}
use Rattle.language.specs.Checking.{predecessors}
use Rattle.language.specs.Running.{phis_of, start_registers}
use Rattle.language.specs.Translating.{kept_of, phi_blocks, phis_before, pairs_before, new_register, retarget, edge_rows, edges_to, kept_block, register_for, translation, phi_total, translated_registers}
use Rattle.theorems.proofs.Size.{size_registers, length_edges_to}

module _ (f : Func) where
  -- ---- blocks

  abbrev numbers : List ℕ
  numbers = below (length f.blocks)

  abbrev kept_blocks : List Block
  kept_blocks = map (kept_block f) numbers

  abbrev edge_blocks : List Block
  edge_blocks = gather (edges_to f) (phi_blocks f)

  kept_count : length kept_blocks ≡ length f.blocks
  kept_count = length-map numbers (kept_block f) ∙ length_below (length f.blocks)

  -- block x keeps its number
  pub kept_block_law : (x : ℕ) → x < length f.blocks → block_at (translation f) x ≡ kept_block f x
  unfolding translation
  kept_block_law x l =
      get_or-append kept_blocks edge_blocks no_block x (rw kept_count l)
      ∙ get_d_map (kept_block f) numbers x 0 no_block (rw length_below l)
      ∙ ap (kept_block f) (get_or_below (length f.blocks) x 0 l)

  pub kept_rows : (x : ℕ) → x < length f.blocks → rows_at (translation f) x ≡ map (retarget f x) (kept_of (rows_at f x))
  unfolding kept_block
  kept_rows x l = ap (λ (b : Block). b.rows) (kept_block_law x l)

  -- the edge blocks of block y, none if it has no phi
  edges_of : ℕ → List Block
  edges_of y = cond (has_phi f y) (edges_to f y) []

  edges_of_count : (y : ℕ) → length (edges_of y) ≡ cond (has_phi f y) (length (predecessors f y)) 0
  unfolding edges_of
  edges_of_count y = case (has_phi f y)
    where
      case : (b : Bool) → length (cond b (edges_to f y) []) ≡ cond b (length (predecessors f y)) 0
      case true = length_edges_to f y
      case false = refl

  edges_gathered : edge_blocks ≡ gather edges_of numbers
  unfolding edges_of phi_blocks
  edges_gathered = gather_keep (edges_to f) (has_phi f) numbers

  edges_before : (y : ℕ) → y ≤ length f.blocks → sum (map (λ z. length (edges_of z)) (take y numbers)) ≡ pairs_before f y
  unfolding pairs_before
  edges_before y l =
      ap (λ (zs : List ℕ). sum (map (λ z. length (edges_of z)) zs)) (take_below (length f.blocks) y l)
      ∙ ap (λ (w : ℕ → ℕ). sum (map w (below y))) (fun_ext edges_of_count)

  module _ (y k : ℕ) (l : y < length f.blocks) (e : has_phi f y ≡ true) (m : k < length (predecessors f y)) where
    part_is : edges_of (get_or numbers y 0) ≡ edges_to f y
    unfolding edges_of
    part_is = rw (get_or_below (length f.blocks) y 0 l, e)

    -- among the edge blocks
    edge_at : get_or edge_blocks (pairs_before f y + k) no_block ≡ get_or (edges_to f y) k no_block
    edge_at =
        let inside : k < length (edges_of (get_or numbers y 0)) = rw (part_is, length_edges_to f) m in
        rw (edges_gathered, ← (edges_before y (omega arith)))
        (get_or_gather edges_of numbers y k 0 no_block (rw length_below l) inside ∙ ap (λ (bs : List Block). get_or bs k no_block) part_is)

    -- the k-th of them
    edge_block : ℕ → Block
    edge_block i = record { name = []; rows = edge_rows (new_register f y) i y (phis_of (rows_at f y)) }

    edge_is : get_or (edges_to f y) k no_block ≡ edge_block k
    unfolding edges_to edge_block
    edge_is =
        get_d_map edge_block (below (length (predecessors f y))) k 0 no_block (rw length_below m)
        ∙ ap edge_block (get_or_below (length (predecessors f y)) k 0 m)

    -- "a block for each pair, by phi block, then predecessor"
    pub edge_block_law :
        block_at (translation f) (length f.blocks + pairs_before f y + k)
        ≡ record { name = []; rows = edge_rows (new_register f y) k y (phis_of (rows_at f y)) }
    unfolding translation edge_block
    edge_block_law =
        let n = pairs_before f y + k in
        let place : length f.blocks + pairs_before f y + k ≡ length kept_blocks + n = omega (arith, kept_count) in
        let later = get_or-append-add kept_blocks edge_blocks n no_block in
        ap (block_at (translation f)) place ∙ later ∙ edge_at ∙ edge_is

    pub edge_rows_law :
        rows_at (translation f) (length f.blocks + pairs_before f y + k) ≡ edge_rows (new_register f y) k y (phis_of (rows_at f y))
    edge_rows_law = ap (λ (b : Block). b.rows) edge_block_law

  -- ---- registers

  abbrev new_registers : List Register
  new_registers = map (register_for f) (phis_of (rows_of f))

  -- the kept registers keep their types
  pub type_kept : (r : ℕ) → r < length f.registers → type_at (translation f) r ≡ type_at f r
  unfolding translation
  type_kept r l = ap (λ (x : Register). x.type) (get_or-append f.registers new_registers no_register r l)

  -- the new registers of a block are among those of all phi
  pub phis_fit : (y : ℕ) → y < length f.blocks → phis_before f y + length (phis_of (rows_at f y)) ≤ phi_total f
  unfolding phis_before phi_total rows_of phis_of
  phis_fit y l =
      rw (keep_gather is_phi (λ b. b.rows) f.blocks, length_gather (λ (b : Block). keep is_phi b.rows) f.blocks)
      (sum_take_le (λ (b : Block). length (keep is_phi b.rows)) f.blocks y no_block l)

  -- both start alike, the new registers at 0
  pub start_length : (args : List ℕ) → length args ≤ length f.registers → length (start_registers f args) ≡ length f.registers
  unfolding start_registers
  start_length args l = simp (length-append, length-replicate) (omega arith)

  pub start_registers_law :
      (args : List ℕ)
      → length args ≤ length f.registers
      → start_registers (translation f) args ≡ start_registers f args ++ replicate (phi_total f) 0
  unfolding start_registers translated_registers
  start_registers_law args l =
      let n = length f.registers - length args in
      let e : length (translation f).registers - length args ≡ n + phi_total f = omega (arith, size_registers f) in
      rw (e, ← (replicate-append-replicate {A = ℕ} n (phi_total f) 0), append_assoc)
