-- What is left of either store is put behind what the walk wrote.
use native.Mathlib.Omega.{arith}
use Rattle.joining.proofs.Steps.{joining_length}
use Rattle.joining.proofs.Ends.{no_room, room, all_put, filled_not, filled}
use Rattle.joining.proofs.join_into.Goals as goal

pub returns-then-all-gt-CAPACITY : goal.returns-then-all-gt-CAPACITY
returns-then-all-gt-CAPACITY c =
    filled_not _ _ c.count-n.ensures.0 c.count-k.ensures.0 (no_room _ _ c.count-n.result c.count-k.result c.walk-x.ensures (omega arith))

pub rest-requires : goal.rest-requires
rest-requires c =
    let g = c.walk-x.ensures.joining in
    let size = joining_length _ _ _ _ g in
    (omega arith, omega arith, omega arith)

pub rest-requires-2 : goal.rest-requires-2
rest-requires-2 c =
    let g = c.walk-x.ensures.joining in
    let size = joining_length _ _ _ _ g in
    (omega arith, omega arith, omega (arith, c.rest.auto))

pub put_count-requires : goal.put_count-requires
put_count-requires c =
    let size = joining_length _ _ _ _ c.walk-x.ensures.joining in
    omega (arith, c.rest.auto, c.rest-2.auto)

pub returns : goal.returns
returns c =
    let s = c.args.s.now in
    let u = c.args.u.now in
    filled s u c.count-n.ensures.0 c.count-k.ensures.0 (room s u c.count-n.result c.count-k.result c.walk-x.ensures c.if-all-gt-CAPACITY.false)
    (all_put s u c.count-n.result c.count-k.result c.walk-x.ensures c.if-all-gt-CAPACITY.false c.rest.ensures c.rest-2.ensures c.put_count.ensures)
