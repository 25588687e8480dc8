-- `translate_checked`: the tests in their order, then the translation.
use mathlib.Core.Path.{refl, sym, ap, ◌∙◌}
use Prim.Native.Nat.{◌<◌}
use native.Mathlib.Omega.{arith}
use lib.ListN.{length}
use borrow.Author.Tests.{not-true, not-false}
use Rattle.language.specs.Table.{function_count, function_ssa}
use Rattle.language.specs.Answers.{zeros}
use Rattle.flow.proofs.Accepted.{accepted_length, accepted_clean, accepted_within, accepted_sized, accepted_preparable}
use Rattle.ial.proofs.TranslateLaws.{translate_missing, translate_plain, translate_large, translate_other, translate_done, translatable}
use Rattle.ial.proofs.translating.translate_checked.Goals as goal

pub function_count-requires : goal.function_count-requires
function_count-requires c =
    omega (arith, accepted_length c.args.t.now c.requires.t_value)

pub returns-then-function_count-function : goal.returns-then-function_count-function
returns-then-function_count-function c =
    rw c.refuse.ensures (translate_missing c.args.t.now c.args.function (length c.args.out.now) (omega (arith, c.function_count.ensures.0, c.if-function_count-function.true)) c.requires.out_value)

pub function_at-a-requires : goal.function_at-a-requires
function_at-a-requires c = omega (arith, c.function_count.ensures.1, c.if-function_count-function.false)

pub function_ssa-requires : goal.function_ssa-requires
function_ssa-requires c =
    let l : c.args.function < function_count c.args.t.now = omega (arith, c.function_count.ensures.0, c.if-function_count-function.false) in
    rw c.function_at-a.ensures (accepted_within c.args.t.now c.requires.t_value c.args.function l)

pub returns-then-function_ssa-ne1 : goal.returns-then-function_ssa-ne1
returns-then-function_ssa-ne1 c =
    let l : c.args.function < function_count c.args.t.now = omega (arith, c.function_count.ensures.0, c.if-function_count-function.false) in
    rw c.refuse-then-function_ssa-ne1.ensures (translate_plain c.args.t.now c.args.function (length c.args.out.now) l (λ h. c.if-function_ssa-ne1.true (c.function_ssa.ensures ∙ ap (function_ssa c.args.t.now) c.function_at-a.ensures ∙ h)) c.requires.out_value)

pub prepare-requires : goal.prepare-requires
prepare-requires c =
    let l : c.args.function < function_count c.args.t.now = omega (arith, c.function_count.ensures.0, c.if-function_count-function.false) in
    (rw c.function_at-a.ensures (accepted_preparable c.args.t.now c.requires.t_value c.args.function l), refl)

pub fits-requires : goal.fits-requires
fits-requires c =
    let here = c.function_at-a.ensures in
    let l : c.args.function < function_count c.args.t.now = omega (arith, c.function_count.ensures.0, c.if-function_count-function.false) in
    record { sized = rw here (accepted_sized c.args.t.now c.requires.t_value c.args.function l); prepared = c.prepare.ensures; clean = rw here (accepted_clean c.args.t.now c.requires.t_value c.args.function l) }

pub returns-then-not-fits : goal.returns-then-not-fits
returns-then-not-fits c =
    let l : c.args.function < function_count c.args.t.now = omega (arith, c.function_count.ensures.0, c.if-function_count-function.false) in
    let marked = sym (c.function_ssa.ensures ∙ ap (function_ssa c.args.t.now) c.function_at-a.ensures) ∙ c.if-function_ssa-ne1.false in
    let fitting = rw c.function_at-a.ensures at c.before.fits.ensures in
    rw c.refuse-then-not-fits.ensures (translate_large c.args.t.now c.args.function (length c.args.out.now) l marked (sym fitting ∙ not-true c.before.fits.result c.if-not-fits.true-raw) c.requires.out_value)

pub returns-then-out-ne-TABLE_LENGTH : goal.returns-then-out-ne-TABLE_LENGTH
returns-then-out-ne-TABLE_LENGTH c =
    let l : c.args.function < function_count c.args.t.now = omega (arith, c.function_count.ensures.0, c.if-function_count-function.false) in
    let marked = sym (c.function_ssa.ensures ∙ ap (function_ssa c.args.t.now) c.function_at-a.ensures) ∙ c.if-function_ssa-ne1.false in
    let fitting = rw c.function_at-a.ensures at c.before.before.fits.ensures in
    rw c.refuse-then-out-ne-TABLE_LENGTH.ensures (translate_other c.args.t.now c.args.function (length c.args.out.now) l marked (sym fitting ∙ not-false c.before.before.fits.result c.if-not-fits.false-raw) c.if-out-ne-TABLE_LENGTH.true c.requires.out_value)

pub translate_into-requires : goal.translate_into-requires
translate_into-requires c =
    let l : c.args.function < function_count c.args.t.now = omega (arith, c.function_count.ensures.0, c.if-function_count-function.false) in
    let marked = sym (c.function_ssa.ensures ∙ ap (function_ssa c.args.t.now) c.function_at-a.ensures) ∙ c.if-function_ssa-ne1.false in
    let fitting = rw c.function_at-a.ensures at c.before.before.before.before.fits.ensures in
    record { translatable_at = rw c.function_at-a.ensures (translatable c.args.t.now c.args.function (length c.args.out.now) l marked (sym fitting ∙ not-false c.before.before.before.before.fits.result c.if-not-fits.false-raw) c.requires.t_value); prepared = c.prepare.ensures; out_value = c.requires.out_value ∙ ap zeros c.if-out-ne-TABLE_LENGTH.false }

pub returns : goal.returns
returns c =
    let l : c.args.function < function_count c.args.t.now = omega (arith, c.function_count.ensures.0, c.if-function_count-function.false) in
    let marked = sym (c.function_ssa.ensures ∙ ap (function_ssa c.args.t.now) c.function_at-a.ensures) ∙ c.if-function_ssa-ne1.false in
    let fitting = rw c.function_at-a.ensures at c.before.before.before.before.before.before.before.fits.ensures in
    translate_done c.args.t.now c.args.function (length c.args.out.now) l marked (sym fitting ∙ not-false c.before.before.before.before.before.before.before.fits.result c.if-not-fits.false-raw) c.if-out-ne-TABLE_LENGTH.false (rw c.function_at-a.ensures at c.translate_into.ensures)
