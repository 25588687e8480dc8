use mathlib.Core.Path.{refl, ◌∙◌}
use Prim.Native.Nat.{◌-◌}
use native.Mathlib.Omega.{arith}
use borrow.Rule.Slice.PartMut.{same_len_mid}
use Rattle.std.proofs.lemmas.Result.{err_from_is_err_and}
use Rattle.reader.proofs.Through.{goes_start, goes_reached, few_reached, within_reached, slot_reached, goes_on, goes_less, goes_out}
use Rattle.reader.proofs.Outcomes.{ok_is, ok_closes, err_closes}
use Rattle.reader.proofs.telling.feed.Goals as goal

pub loop-r-init : goal.loop-r-init
loop-r-init c = (goes_start _ _ _ _ _ _ _, refl, refl, refl, refl)

pub function_at-a-requires : goal.function_at-a-requires
function_at-a-requires c = omega (arith, few_reached (goes_reached c.requires.table_reached c.loop-r.invariant.0))

pub end_of-e-requires : goal.end_of-e-requires
end_of-e-requires c = few_reached (goes_reached c.requires.table_reached c.loop-r.invariant.0)

pub slice_bounds-advance-count : goal.slice_bounds-advance-count
slice_bounds-advance-count c = (within_reached (goes_reached c.requires.table_reached c.loop-r.invariant.0) c.function_at-a.ensures c.end_of-e.ensures).0

pub slice_bounds-advance-start : goal.slice_bounds-advance-start
slice_bounds-advance-start c = slice_bounds-advance-count c

pub slice_bounds-advance-end : goal.slice_bounds-advance-end
slice_bounds-advance-end c = (within_reached (goes_reached c.requires.table_reached c.loop-r.invariant.0) c.function_at-a.ensures c.end_of-e.ensures).1

pub advance-requires : goal.advance-requires
advance-requires c = record { text_len_bound = c.requires.text_len_bound; progress_reached = slot_reached (goes_reached c.requires.table_reached c.loop-r.invariant.0) c.function_at-a.ensures c.end_of-e.ensures }

pub shape_of-t-in_err-r : goal.shape_of-t-in_err-r
shape_of-t-in_err-r c =
    let inv = c.loop-r.invariant in
    same_len_mid c.function_at-a.result (c.end_of-e.result - c.function_at-a.result) c.loop-r.t c.advance.new.f c.advance.auto.f ∙ inv.1

pub returns-in_err-r : goal.returns-in_err-r
returns-in_err-r c =
    let p = err_from_is_err_and c.from_residual.result c.from_residual.ensures.1 in rw (p.1, p.2)
    (rw c.in_err-r.was at
    (goes_out c.loop-r.invariant.0 c.function_at-a.ensures c.end_of-e.ensures c.advance.new.f c.advance.new.names c.advance.new.pend c.advance.new.held c.advance.auto.f c.advance.ensures
    (λ y e. err_closes c.in_err-r.was e)))

pub returns-in_default : goal.returns-in_default
returns-in_default c =
    rw c.in_ok-r.was at
    (goes_out c.loop-r.invariant.0 c.function_at-a.ensures c.end_of-e.ensures c.advance.new.f c.advance.new.names c.advance.new.pend c.advance.new.held c.advance.auto.f c.advance.ensures
    (ok_closes c.in_ok-r.was c.in_default.not-Closed))

pub loop-r-smaller : goal.loop-r-smaller
loop-r-smaller c =
    goes_less c.loop-r.invariant.0 c.function_at-a.ensures c.end_of-e.ensures c.advance.new.f c.advance.new.names c.advance.new.pend c.advance.new.held c.advance.auto.f c.advance.ensures
    c.requires.table_reached (ok_is c.in_ok-r.was c.in-Closed.is)

pub loop-r-preserved : goal.loop-r-preserved
loop-r-preserved c =
    let inv = c.loop-r.invariant in (
      goes_on inv.0 c.function_at-a.ensures c.end_of-e.ensures c.advance.new.f c.advance.new.names c.advance.new.pend c.advance.new.held c.advance.auto.f c.advance.ensures
          (ok_is c.in_ok-r.was c.in-Closed.is),
      same_len_mid c.function_at-a.result (c.end_of-e.result - c.function_at-a.result) c.loop-r.t c.advance.new.f c.advance.auto.f ∙ inv.1,
      c.advance.auto.names ∙ inv.2,
      c.advance.auto.pend ∙ inv.3,
      c.advance.auto.held ∙ inv.4,
    )
