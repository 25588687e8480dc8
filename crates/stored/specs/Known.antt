-- Bytes that hold some records: those that "begun empty and handed on unchanged" can have.
-- Assumes nothing.
use Rattle.std.specs.Prelude.{Bool, true, false, List, ◌≡◌, ℕ, suc, ◌<◌}
use Rattle.records.specs.declared.Record.{Record}
use Rattle.records.specs.Records.{SizedRecord}
use Rattle.records.specs.Stores.{record_at, StoreHolds}

-- The answer is true exactly if P holds.
pub record Tells (b : Bool) (P : Type 0) : Type 0 where
  pub yes : b ≡ true → P
  pub no : b ≡ false → P → ⊥

-- Record i of these bytes is one, and comes after the one before it.
abbrev pub RecordFollows : List ℕ → ℕ → Type 0
RecordFollows s i = SizedRecord (record_at s i) × ((j : ℕ) → suc j ≡ i → (record_at s j).appliance < (record_at s i).appliance)

abbrev pub AllFollow : List ℕ → ℕ → Type 0
AllFollow s n = (i : ℕ) → i < n → RecordFollows s i

abbrev pub IsStore : List ℕ → Type 0
IsStore s = (es : List Record) × StoreHolds s es
