use mathlib.Core.Path.{refl, sym, ap, ◌∙◌}
use lib.ListN.{length}
use Rattle.language.specs.Answers.{zeros}
use Rattle.language.specs.Table.{function_length}
use Rattle.std.proofs.lemmas.Result.{err_from_is_err_and}
use Rattle.reader.proofs.Fresh.{length_zeros}
use Rattle.reader.proofs.Through.{judge_start, judge_reached, judge_on, judge_less, judge_refused, judge_out}
use Rattle.reader.proofs.Outcomes.{ok_is}
use Rattle.reader.proofs.telling.judge_text.Goals as goal

pub loop-r-init : goal.loop-r-init
unfolding zeros
loop-r-init c = (
  judge_start _ c.begin-x.ensures refl refl refl refl,
  refl,
  refl,
  refl,
  refl,
)

pub slice_bounds-advance-end : goal.slice_bounds-advance-end
slice_bounds-advance-end c = sym c.loop-r.invariant.3

pub slice_bounds-advance-end-in-loop-r : goal.slice_bounds-advance-end-in-loop-r
slice_bounds-advance-end-in-loop-r c = sym c.loop-r.invariant.1

pub slice_bounds-advance-end-in-loop-r-2 : goal.slice_bounds-advance-end-in-loop-r-2
slice_bounds-advance-end-in-loop-r-2 c = sym c.loop-r.invariant.2

pub slice_bounds-advance-end-in-loop-r-3 : goal.slice_bounds-advance-end-in-loop-r-3
slice_bounds-advance-end-in-loop-r-3 c = sym c.loop-r.invariant.4

pub advance-requires : goal.advance-requires
advance-requires c = record { text_len_bound = c.requires; progress_reached = judge_reached c.loop-r.invariant.0 }

pub returns-in_err-r : goal.returns-in_err-r
returns-in_err-r c = let p = err_from_is_err_and c.from_residual.result c.from_residual.ensures.1 in rw (p.1, p.2) (judge_refused c.loop-r.invariant.0 c.advance.ensures c.requires c.in_err-r.was)

pub returns-in_default : goal.returns-in_default
returns-in_default c = judge_out c.loop-r.invariant.0 c.advance.ensures c.requires c.in_ok-r.was c.in_default.not-Closed

pub slice_bounds-zero-end : goal.slice_bounds-zero-end
slice_bounds-zero-end c = sym (c.advance.auto.f ∙ c.loop-r.invariant.3)

pub loop-r-smaller : goal.loop-r-smaller
loop-r-smaller c = judge_less c.loop-r.invariant.0 c.advance.ensures (ok_is c.in_ok-r.was c.in-Closed.is)

pub loop-r-preserved : goal.loop-r-preserved
loop-r-preserved c =
    let inv = c.loop-r.invariant in
    let zeroed = c.zero.ensures ∙ ap zeros (c.advance.auto.f ∙ inv.3) in (
      judge_on inv.0 c.advance.ensures (ok_is c.in_ok-r.was c.in-Closed.is) zeroed,
      c.advance.auto.names ∙ inv.1,
      c.advance.auto.pend ∙ inv.2,
      ap length zeroed ∙ length_zeros function_length,
      c.advance.auto.held ∙ inv.4,
    )
