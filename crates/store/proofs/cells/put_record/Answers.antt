-- `store::put_record` meets its contract: five stores, each where the one before ends. Assumes nothing.
use Rattle.store.proofs.CellsLaws.{put_five}
use Rattle.records.specs.Stores.{record_offset}
use Rattle.store.proofs.cells.put_record.Goals as goal

pub returns : goal.returns
returns c =
    let args = c.args in
    let r = args.r in
    put_five args.s.now (record_offset args.i) r c.put_eight.ensures c.put_eight-2.ensures c.put_eight-3.ensures c.put_eight-4.ensures
    c.put_eight-5.ensures
