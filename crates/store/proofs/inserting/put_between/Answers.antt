-- `store::put_between` meets its contract: the records moved, the newcomer put, the count put. Assumes nothing.
use mathlib.Core.List.{List}
use mathlib.Core.Path.{ap, ◌∙◌}
use Prim.Native.Nat.{ℕ, ◌+◌}
use lib.Seq.{sets}
use Rattle.language.specs.Table.{eight_bytes}
use Rattle.records.specs.Stores.{record_cells, record_offset}
use Rattle.store.specs.Inserting.{inserted_at}
use Rattle.store.proofs.inserting.put_between.Goals as goal

pub returns : goal.returns
unfolding inserted_at
returns c =
    let args = c.args in
    c.put_count.ensures
    ∙ ap (λ (s : List ℕ). sets s 0 (eight_bytes (args.n + 1)))
    (c.put_record.ensures ∙ ap (λ (s : List ℕ). sets s (record_offset args.p) (record_cells args.r)) c.move_up.ensures)
