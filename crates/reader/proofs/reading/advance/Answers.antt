use mathlib.Core.Path.{refl, sym, ◌∙◌}
use Rattle.name_index.proofs.ChainLaws.{indexed_none}
use Rattle.std.proofs.lemmas.Result.{err_from_is_err_and}
use Rattle.reader.proofs.Boundaries.{onward_start, may_end, has_paused, paused, taking, loop_refused, loop_reading, loop_closed, loop_ended}
use Rattle.reader.proofs.Outcomes.{ok_is}
use Rattle.reader.proofs.reading.advance.Goals as goal

pub index_registers-requires : goal.index_registers-requires
index_registers-requires c =
    let b = c.requires.progress_reached.between in
    record { bounded = b.bounded; cells_for = record { cells = λ few. b.cells (rw (← b.count) few); empty = indexed_none } }

pub loop-last-init : goal.loop-last-init
loop-last-init c = (
  (λ fs parse lx at b. onward_start at b c.index_registers.auto.last c.index_registers.auto.before c.index_registers.ensures),
  refl,
  refl,
  refl,
  c.index_registers.auto.last,
  c.index_registers.auto.before,
  refl,
)

pub shape_of-f-then-pauses : goal.shape_of-f-then-pauses
shape_of-f-then-pauses c = c.loop-last.invariant.1

pub shape_of-names-then-pauses : goal.shape_of-names-then-pauses
shape_of-names-then-pauses c = c.loop-last.invariant.2

pub shape_of-pend-then-pauses : goal.shape_of-pend-then-pauses
shape_of-pend-then-pauses c = c.loop-last.invariant.3

pub shape_of-held-then-pauses : goal.shape_of-held-then-pauses
shape_of-held-then-pauses c = c.loop-last.invariant.6

pub returns-then-pauses : goal.returns-then-pauses
returns-then-pauses c = λ fs parse lx at b. paused (c.loop-last.invariant.0 fs parse lx at b) (has_paused _ _ _ c.pauses.ensures c.if-pauses.true)

pub next-y-requires : goal.next-y-requires
next-y-requires c =
    let o = (c.loop-last.invariant.0 c.requires.progress_reached.functions c.requires.progress_reached.parse c.requires.progress_reached.lexer c.requires.progress_reached.at c.requires.progress_reached.between) in
    (o.at.order, o.at.within, c.classes-table.ensures)

pub slice_bounds-take_found-end : goal.slice_bounds-take_found-end
slice_bounds-take_found-end c = sym c.loop-last.invariant.4

pub slice_bounds-take_found-end-in-loop-last : goal.slice_bounds-take_found-end-in-loop-last
slice_bounds-take_found-end-in-loop-last c = sym c.loop-last.invariant.5

pub take_found-requires : goal.take_found-requires
take_found-requires c =
    let t = taking (c.loop-last.invariant.0 c.requires.progress_reached.functions c.requires.progress_reached.parse c.requires.progress_reached.lexer c.requires.progress_reached.at c.requires.progress_reached.between) c.next-y.ensures (may_end _ _ _ c.pauses.ensures c.if-pauses.false) in
    record { reader_reached = t.0; text_len_bound = (c.requires.text_len_bound, t.1) }

pub returns-in_err-q : goal.returns-in_err-q
returns-in_err-q c = let p = err_from_is_err_and c.from_residual.result c.from_residual.ensures.1 in rw (p.1, p.2) (λ fs parse lx at b. loop_refused (c.loop-last.invariant.0 fs parse lx at b) c.next-y.ensures (may_end _ _ _ c.pauses.ensures c.if-pauses.false) c.take_found.ensures.takes_found c.in_err-q.was _ _ _ _)

pub loop-last-smaller : goal.loop-last-smaller
loop-last-smaller c =
    (loop_reading (c.loop-last.invariant.0 c.requires.progress_reached.functions c.requires.progress_reached.parse c.requires.progress_reached.lexer c.requires.progress_reached.at c.requires.progress_reached.between) c.next-y.ensures (may_end _ _ _ c.pauses.ensures c.if-pauses.false) c.take_found.ensures.takes_found c.take_found.ensures.suits (ok_is c.in_ok-q.was c.in-Reading.is)).1

pub loop-last-preserved : goal.loop-last-preserved
loop-last-preserved c = (
  (λ fs parse lx at b. (loop_reading (c.loop-last.invariant.0 fs parse lx at b) c.next-y.ensures (may_end _ _ _ c.pauses.ensures c.if-pauses.false) c.take_found.ensures.takes_found c.take_found.ensures.suits (ok_is c.in_ok-q.was c.in-Reading.is)).0),
  c.take_found.auto.f ∙ c.loop-last.invariant.1,
  c.take_found.auto.names ∙ c.loop-last.invariant.2,
  c.take_found.auto.pend ∙ c.loop-last.invariant.3,
  c.take_found.auto.last ∙ c.loop-last.invariant.4,
  c.take_found.auto.before ∙ c.loop-last.invariant.5,
  c.next-y.auto.held ∙ c.loop-last.invariant.6,
)

pub shape_of-f-in-Closed : goal.shape_of-f-in-Closed
shape_of-f-in-Closed c = c.take_found.auto.f ∙ c.loop-last.invariant.1

pub shape_of-names-in-Closed : goal.shape_of-names-in-Closed
shape_of-names-in-Closed c = c.take_found.auto.names ∙ c.loop-last.invariant.2

pub shape_of-pend-in-Closed : goal.shape_of-pend-in-Closed
shape_of-pend-in-Closed c = c.take_found.auto.pend ∙ c.loop-last.invariant.3

pub shape_of-held-in-Closed : goal.shape_of-held-in-Closed
shape_of-held-in-Closed c = c.next-y.auto.held ∙ c.loop-last.invariant.6

pub returns-in-Closed : goal.returns-in-Closed
returns-in-Closed c = λ fs parse lx at b. loop_closed (c.loop-last.invariant.0 fs parse lx at b) c.next-y.ensures (may_end _ _ _ c.pauses.ensures c.if-pauses.false) c.take_found.ensures.takes_found c.take_found.ensures.suits (ok_is c.in_ok-q.was c.in-Closed.is)

pub shape_of-f-in-Ended : goal.shape_of-f-in-Ended
shape_of-f-in-Ended c = c.take_found.auto.f ∙ c.loop-last.invariant.1

pub shape_of-names-in-Ended : goal.shape_of-names-in-Ended
shape_of-names-in-Ended c = c.take_found.auto.names ∙ c.loop-last.invariant.2

pub shape_of-pend-in-Ended : goal.shape_of-pend-in-Ended
shape_of-pend-in-Ended c = c.take_found.auto.pend ∙ c.loop-last.invariant.3

pub shape_of-held-in-Ended : goal.shape_of-held-in-Ended
shape_of-held-in-Ended c = c.next-y.auto.held ∙ c.loop-last.invariant.6

pub returns-in-Ended : goal.returns-in-Ended
returns-in-Ended c = λ fs parse lx at b. loop_ended (c.loop-last.invariant.0 fs parse lx at b) c.next-y.ensures (may_end _ _ _ c.pauses.ensures c.if-pauses.false) c.take_found.ensures.takes_found c.take_found.ensures.suits (ok_is c.in_ok-q.was c.in-Ended.is)
