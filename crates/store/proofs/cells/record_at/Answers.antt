-- `store::record_at` meets its contract: five numbers, one behind the other. Assumes nothing.
use Rattle.store.proofs.cells.record_at.Goals as goal

pub returns : goal.returns
returns c =
    let a = c.eight_at.ensures in
    let b = c.eight_at-2.ensures in
    let d = c.eight_at-3.ensures in
    let e = c.eight_at-4.ensures in
    let f = c.eight_at-5.ensures in
    λ j. record { appliance = a j; time = b j; fail = d j; tablet = e j; reading = f j }
