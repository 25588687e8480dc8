-- The bytes of a store after a record is put over another, or between two. Assumes nothing.
use Rattle.std.specs.Prelude.{cond, List, ℕ, ◌+◌}
use Rattle.std.proofs.lemmas.List.Edits.{sets}
use Rattle.language.specs.Table.{eight_bytes}
use Rattle.numbers.specs.Moving.{moved}
use Rattle.records.specs.declared.Record.{Record}
use Rattle.records.specs.Records.{wins}
use Rattle.records.specs.Stores.{record_at, record_cells, record_offset, record_length}

-- At place p the newcomer where it wins; else nothing is written.
unfoldable pub over_at : List ℕ → ℕ → Record → List ℕ
over_at s p r = cond (wins r (record_at s p)) (sets s (record_offset p) (record_cells r)) s

-- The records of n from place p on stand one further, the newcomer stands at p, and the count is one more.
unfoldable pub inserted_at : List ℕ → ℕ → ℕ → Record → List ℕ
inserted_at s n p r = sets (sets (moved s (record_offset p) (record_offset n) record_length) (record_offset p) (record_cells r)) 0 (eight_bytes (n + 1))
