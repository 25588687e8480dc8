-- `judge`: a function of another signature gets its refusal; a limit function's run is refused by the check alone, and any other answer is a verdict.
use mathlib.Core.Bool.{Bool, true, cond}
use mathlib.Core.Path.{refl, ap, ◌∙◌}
use lib.Dec.{eqb}
use Rattle.std.proofs.lemmas.Result.{err_from_is_err_and}
use Rattle.std.specs.Prelude.{Ok}
use Rattle.answers.specs.declared.Ran.{Ran}
use Rattle.answers.specs.Cases.{ran_of}
use Rattle.merge.proofs.JudgingLaws.{ruled_other, ruled_ran, ruled_refused, failed_value}
use Rattle.merge.proofs.judging.judge.Goals as goal

pub returns-then-not-is_limit : goal.returns-then-not-is_limit
returns-then-not-is_limit c =
    ruled_other c.args.table.now c.args.function c.args.budget c.args.reading c.is_limit.result c.is_limit.ensures c.if-not-is_limit.true-raw c.refusal.result c.refusal.ensures

pub returns-in_err-x : goal.returns-in_err-x
returns-in_err-x c =
    let p = err_from_is_err_and c.from_residual.result c.from_residual.ensures.1 in
    rw (p.1, p.2)
    (ruled_refused c.args.table.now c.args.function c.args.budget c.args.reading c.is_limit.result c.is_limit.ensures c.if-not-is_limit.false-raw
    c.ranges.reading.fits c.in_err-x.ensures refl)

pub returns-in-Returned : goal.returns-in-Returned
returns-in-Returned c =
    ruled_ran c.args.table.now c.args.function c.args.budget c.args.reading c.is_limit.result c.is_limit.ensures c.if-not-is_limit.false-raw
    c.ranges.reading.fits c.in_ok-x.ensures c.failed.result (ap (λ (x : Ran). ran_of (Ok x)) c.in-Returned.is) tt (ap (λ (b : Bool). cond b 1 0) c.failed.ensures ∙ failed_value (eqb c.in-Returned.value 1))

pub returns-in-Left : goal.returns-in-Left
returns-in-Left c =
    ruled_ran c.args.table.now c.args.function c.args.budget c.args.reading c.is_limit.result c.is_limit.ensures c.if-not-is_limit.false-raw
    c.ranges.reading.fits c.in_ok-x.ensures true (ap (λ (x : Ran). ran_of (Ok x)) c.in-Left.is) tt refl

pub returns-in-Stopped : goal.returns-in-Stopped
returns-in-Stopped c =
    ruled_ran c.args.table.now c.args.function c.args.budget c.args.reading c.is_limit.result c.is_limit.ensures c.if-not-is_limit.false-raw
    c.ranges.reading.fits c.in_ok-x.ensures true (ap (λ (x : Ran). ran_of (Ok x)) c.in-Stopped.is) tt refl
