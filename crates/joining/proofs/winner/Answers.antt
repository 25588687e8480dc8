-- The record is read where the test points.
use Rattle.joining.proofs.Parts.{chosen_room, chosen_best}
use Rattle.joining.proofs.winner.Goals as goal

pub record_at-requires-3 : goal.record_at-requires-3
record_at-requires-3 c =
    let args = c.args in
    chosen_room args.s.now args.u.now args.i args.j c.beats-second.result c.requires.0 c.requires.1 c.either.ensures c.chosen.ensures

pub returns : goal.returns
returns c =
    let args = c.args in
    chosen_best args.s.now args.u.now args.i args.j c.either.ensures c.chosen.ensures
    c.record_at.ensures c.record_at-2.ensures c.beats-second.ensures c.record_at-3.ensures
