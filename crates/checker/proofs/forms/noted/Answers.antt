-- The definition's tests: every number is below 17, and a lower one is noted.
use native.Mathlib.Omega.{arith}
use Rattle.std.proofs.Common.{◌≤◌, ◌<◌, Some, sym, ap, ◌∙◌, subst}
use mathlib.Core.Logic.{inr}
use Rattle.answers.specs.Reasons.{reason_number}
use Rattle.checker.specs.Notes.{noted, unbroken}
use Rattle.checker.specs.Lows.{low_of, IsOfRow}
use Rattle.checker.proofs.Reasons.{reason_above}
use Rattle.checker.proofs.Notes.{not_noted, is_noted}
use Rattle.checker.proofs.forms.noted.Goals as goal

pub returns-in_default : goal.returns-in_default
returns-in_default c =
    (sym (ap (λ low. noted (low_of low) (reason_number c.args.reason) c.args.row) c.in_default.is ∙ is_noted unbroken (reason_number c.args.reason) c.args.row (reason_above c.args.reason) c.requires.0), (c.requires.0, c.requires.1))

pub returns-then-from : goal.returns-then-from
returns-then-from c =
    let below : reason_number c.args.reason < reason_number c.in-Some.fault.reason = omega (arith, c.from.ensures, c.from-2.ensures) in
    (sym (ap (λ low. noted (low_of low) (reason_number c.args.reason) c.args.row) c.in-Some.is ∙ is_noted (low_of (Some c.in-Some.fault)) (reason_number c.args.reason) c.args.row (reason_above c.args.reason) below), (c.requires.0, c.requires.1))

pub returns : goal.returns
returns c =
    let above : reason_number c.in-Some.fault.reason ≤ reason_number c.args.reason = omega (arith, c.from.ensures, c.from-2.ensures) in
    (sym (ap (λ low. noted (low_of low) (reason_number c.args.reason) c.args.row) c.in-Some.is ∙ not_noted (low_of (Some c.in-Some.fault)) (reason_number c.args.reason) c.args.row (inr above)), subst IsOfRow c.in-Some.is c.requires.2)
