-- What the parts of a row ask for, from what a row needs. Assumes nothing.
use mathlib.Core.List.{List}
use mathlib.Core.Path.{◌≡◌}
use Prim.Native.Nat.{ℕ, ◌+◌, ◌-◌, ◌<◌, ◌≤◌}
use native.Mathlib.Omega.{arith}
use lib.ListN.{length}
use Rattle.language.specs.Table.{register_count, block_count, row_count, decode_function, InTable}
use Rattle.naming.specs.Numbered.{RegistersNumbered, BlocksNumbered}
use Rattle.row_text.specs.Ready.{Entries, TextReady}
use Rattle.language.specs.Programs.{max_rows, max_blocks, max_registers}

module _ {t : List ℕ} {a : ℕ} {rs bs : List ℕ} (y : TextReady t a rs bs) where
  pub register_asked : {u : ℕ} (v : ℕ) → u ≡ v → v < register_count t a
      → ((InTable t a) × (register_count t a ≤ max_registers) × (max_registers ≤ length rs)) × (RegistersNumbered (decode_function t a) rs × (u < register_count t a))
  register_asked v e l = ((y.sized.within, y.sized.registers, y.register_room), (y.registers, omega arith))

  pub block_asked : {u : ℕ} (v : ℕ) → u ≡ v → v < block_count t a
      → ((InTable t a) × (block_count t a ≤ max_blocks) × (max_blocks ≤ length bs)) × (BlocksNumbered (decode_function t a) bs × (u < block_count t a))
  block_asked v e l = ((y.sized.within, y.sized.blocks, y.block_room), (y.blocks, omega arith))

  pub row_asked : {r : ℕ} → r < row_count t a → (InTable t a) × (r < max_rows)
  row_asked l = (y.sized.within, omega (arith, y.sized.rows))

pub entries_asked : {t : List ℕ} {a u v n m : ℕ} → u ≡ v → n ≡ m → Entries t a v m → Entries t a u n
entries_asked d e h = rw (d, e) h

pub later_entries : {t : List ℕ} {a first count : ℕ} → Entries t a first count → (count ≡ 0 → ⊥) → Entries t a (first + 1) (count - 1)
later_entries {t} {a} {first} {count} h some =
    record {
      within = omega (arith, h.within);
      registers = λ k l. let e : first + 1 + k ≡ first + (k + 1) = omega arith in rw e (h.registers (k + 1) (omega arith));
    }
