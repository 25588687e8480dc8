-- `merge_record`: a record with its verdict is put; a refusal leaves the store.
use mathlib.Core.Path.{subst, ◌∙◌}
use lib.Dec.{eqb}
use lib.ListN.{length}
use Rattle.records.specs.Stores.{insert, store_length}
use Rattle.records.specs.Limits.{judged_test}
use Rattle.records.specs.Answers.{Kept, IfLent}
use Rattle.merge.specs.Calls.{test}
use Rattle.merge.specs.Rulings.{Ruled}
use Rattle.merge.proofs.Told.{record_ruled, limit_told}
use Rattle.merge.proofs.merging.merge_record.Goals as goal

pub returns-in-Ok : goal.returns-in-Ok
returns-in-Ok c =
    record_ruled c.args.table.now c.args.function c.args.budget c.args.appliance c.args.time c.args.tablet c.args.reading _ _ c.args.store.now _
    (subst (Ruled c.args.table.now c.args.function c.args.budget c.args.reading) c.in-Ok.is c.judge.ensures)
    c.from.ensures c.put.ensures

pub returns-in-Err : goal.returns-in-Err
returns-in-Err c =
    let P = IfLent (eqb (length c.args.store.now) store_length) c.args.store.now (Kept c.args.store.now (insert (judged_test c.args.table.now c.args.function c.args.budget (test c.args.appliance c.args.time c.args.tablet c.args.reading)))) in
    rw (c.from-in-Err-2.ensures ∙ c.from-in-Err.ensures)
    (limit_told c.args.table.now c.args.function _ _ c.args.store.now P
    (subst (Ruled c.args.table.now c.args.function c.args.budget c.args.reading) c.in-Err.is c.judge.ensures))
