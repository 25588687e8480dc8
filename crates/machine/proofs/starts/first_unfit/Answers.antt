use mathlib.Core.Path.{◌≡◌, sym, ◌∙◌}
use native.Mathlib.Omega.{arith}
use lib.ListN.{length}
use borrow.Author.Tests.{not-true, not-false}
use Rattle.machine.proofs.StartsLaws.{fit_none, fit_more, unfit_found, unfit_none}
use Rattle.machine.proofs.starts.first_unfit.Goals as goal

pub loop-i-init : goal.loop-i-init
loop-i-init c = fit_none _ _ _

pub returns-then-not-number_fits-clause-place : goal.returns-then-not-number_fits-clause-place
returns-then-not-number_fits-clause-place c =
    unfit_found c.args.t.now c.args.a c.args.args.now c.requires.args_len_bound c.loop-i.i c.loop-i-test.true c.loop-i.invariant
    (rw c.register_type.ensures at (sym c.number_fits.ensures ∙ not-true c.number_fits.result c.if-not-number_fits.true-raw))

pub loop-i-preserved : goal.loop-i-preserved
loop-i-preserved c =
    fit_more c.args.t.now c.args.a c.args.args.now c.loop-i.i c.loop-i.invariant
    (rw c.register_type.ensures at (sym c.number_fits.ensures ∙ not-false c.number_fits.result c.if-not-number_fits.false-raw))

pub returns-clause-place : goal.returns-clause-place
returns-clause-place c =
    let e : c.loop-i.i ≡ length c.args.args.now = omega arith in
    sym e ∙ unfit_none c.args.t.now c.args.a c.args.args.now c.requires.args_len_bound c.loop-i.i e c.loop-i.invariant
