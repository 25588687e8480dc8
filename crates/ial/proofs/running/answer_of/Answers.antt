-- `answer_of` gives each case of a run its answer; the place of a stop is small.
use mathlib.Core.Path.{sym, ap}
use native.Mathlib.Omega.{arith}
use Rattle.machine.specs.Runs.{ran_in}
use Rattle.ial.proofs.RunLaws.{ended_as, place_as}
use Rattle.ial.proofs.running.answer_of.Goals as goal

pub row_place-requires : goal.row_place-requires
row_place-requires c =
    let h = place_as c.args.i c.in-Going.is c.requires in
    (omega (arith, h), omega (arith, h))

pub row_place-requires-in-Stopped : goal.row_place-requires-in-Stopped
row_place-requires-in-Stopped c =
    let h = place_as c.args.i (ended_as c.in-Ended.is c.in-Stopped.is) c.requires in
    (omega (arith, h), omega (arith, h))

pub returns-in-Going : goal.returns-in-Going
returns-in-Going c = rw c.row_place.ensures (sym (ap (ran_in c.args.i) c.in-Going.is))

pub returns-in-Returned : goal.returns-in-Returned
returns-in-Returned c = sym (ap (ran_in c.args.i) (ended_as c.in-Ended.is c.in-Returned.is))

pub returns-in-Left : goal.returns-in-Left
returns-in-Left c = sym (ap (ran_in c.args.i) (ended_as c.in-Ended.is c.in-Left.is))

pub returns-in-Stopped : goal.returns-in-Stopped
returns-in-Stopped c = rw c.row_place-in-Stopped.ensures (sym (ap (ran_in c.args.i) (ended_as c.in-Ended.is c.in-Stopped.is)))
