-- The function with the made names filled in, by number of a register and of a block. Assumes nothing.
use mathlib.Core.List.{List, [], map}
use mathlib.Core.Path.{◌≡◌, ap, ◌∙◌}
use Prim.Native.Nat.{ℕ, ◌<◌}
use native.Mathlib.Omega.{arith}
use lib.ListN.{length, get_or, length-map}
use Rattle.laws.specs.Lists.{together, below}
use Rattle.laws.proofs.Indexing.{get_or_together, length_together_from, length_together_le}
use Rattle.language.specs.Programs.{Register, Block, Func, no_register, no_block, block_at}
use Rattle.language.specs.MadeNames.{register_title, block_title, register_prefix, block_prefix, register_names, block_names, named_function}
use Rattle.language.proofs.MadeNamesLaws.{entitled_length}

module _ (f : Func) where
  -- ---- registers

  pub register_names_law : length (register_names f) ≡ length f.registers
  unfolding register_names
  register_names_law =
      let ns : List (List ℕ) = map (λ r. r.name) f.registers in
      entitled_length register_prefix ns 0 (map register_title ns) ∙ length-map ns register_title ∙ length-map f.registers (λ r. r.name)

  pub filled_registers : length (named_function f).registers ≡ length f.registers
  unfolding named_function
  filled_registers = length_together_le (λ r n. record { type = r.type; name = n }) f.registers (register_names f) (omega (arith, register_names_law)) ∙ register_names_law

  filled_register : (r : ℕ) → r < length f.registers
      → get_or (named_function f).registers r no_register ≡ record { type = (get_or f.registers r no_register).type; name = get_or (register_names f) r [] }
  unfolding named_function
  filled_register r h =
      get_or_together (λ r n. record { type = r.type; name = n }) no_register [] no_register f.registers (register_names f) r (omega (arith, register_names_law))
      (omega (arith, register_names_law))

  pub filled_register_name : (r : ℕ) → r < length f.registers → (get_or (named_function f).registers r no_register).name ≡ get_or (register_names f) r []
  filled_register_name r h = ap (λ (x : Register). x.name) (filled_register r h)

  pub filled_register_type : (r : ℕ) → r < length f.registers → (get_or (named_function f).registers r no_register).type ≡ (get_or f.registers r no_register).type
  filled_register_type r h = ap (λ (x : Register). x.type) (filled_register r h)

  -- ---- blocks

  pub block_names_law : length (block_names f) ≡ length f.blocks
  unfolding block_names
  block_names_law =
      let ns : List (List ℕ) = map (λ b. b.name) f.blocks in
      entitled_length block_prefix ns 0 (together (block_title f.entry) (below (length ns)) ns)
      ∙ length_together_from (block_title f.entry) 0 ns ∙ length-map f.blocks (λ b. b.name)

  pub filled_blocks : length (named_function f).blocks ≡ length f.blocks
  unfolding named_function
  filled_blocks = length_together_le (λ b n. record { name = n; rows = b.rows }) f.blocks (block_names f) (omega (arith, block_names_law)) ∙ block_names_law

  filled_block : (b : ℕ) → b < length f.blocks → block_at (named_function f) b ≡ record { name = get_or (block_names f) b []; rows = (block_at f b).rows }
  unfolding named_function
  filled_block b h =
      get_or_together (λ b n. record { name = n; rows = b.rows }) no_block [] no_block f.blocks (block_names f) b (omega (arith, block_names_law)) (omega (arith, block_names_law))

  pub filled_block_name : (b : ℕ) → b < length f.blocks → (block_at (named_function f) b).name ≡ get_or (block_names f) b []
  filled_block_name b h = ap (λ (x : Block). x.name) (filled_block b h)

  pub filled_block_rows : (b : ℕ) → b < length f.blocks → (block_at (named_function f) b).rows ≡ (block_at f b).rows
  filled_block_rows b h = ap (λ (x : Block). x.rows) (filled_block b h)
