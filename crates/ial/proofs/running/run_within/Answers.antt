-- `run_within`: the tests in their order, then the run.
use mathlib.Core.Path.{sym, ap, ◌∙◌}
use Prim.Native.Nat.{◌≤◌}
use native.Mathlib.Omega.{arith}
use lib.ListN.{length}
use Rattle.language.specs.Table.{function_at, function_params, register_count, decode}
use Rattle.flow.proofs.Accepted.{accepted_count, accepted_clean, accepted_within, accepted_sized, accepted_params}
use Rattle.std.specs.Prelude.{Ok}
use Rattle.ial.proofs.PlaceLaws.{answer_small}
use Rattle.ial.proofs.RunLaws.{refused_to, done_to, run_count, run_unfit, run_short, run_done, unfit_some, unfit_below, unfit_none, arguments_fit_law}
use Rattle.ial.proofs.running.run_within.Goals as goal

pub function_at-a-requires : goal.function_at-a-requires
function_at-a-requires c =
    omega (arith, c.requires.i_bound, accepted_count c.args.t.now c.requires.t_value)

pub function_params-requires : goal.function_params-requires
function_params-requires c =
    rw c.function_at-a.ensures (accepted_within c.args.t.now c.requires.t_value c.args.i c.requires.i_bound)

pub returns-then-args-function_params : goal.returns-then-args-function_params
returns-then-args-function_params c =
    let here = c.function_at-a.ensures in
    rw c.refuse.ensures (refused_to (decode c.args.t.now) c.args.i c.args.args.now c.args.budget c.args.registers.now _ (λ z e. run_count c.args.t.now c.args.i c.args.args.now c.args.budget (length c.args.registers.now) c.requires.i_bound (λ h. c.if-args-function_params.true (h ∙ sym (c.function_params.ensures.0 ∙ ap (function_params c.args.t.now) here))) e))

pub first_unfit-requires : goal.first_unfit-requires
first_unfit-requires c =
    let here = c.function_at-a.ensures in
    let same = c.if-args-function_params.false ∙ c.function_params.ensures.0 ∙ ap (function_params c.args.t.now) c.function_at-a.ensures in
    let few : length c.args.args.now ≤ register_count c.args.t.now (function_at c.args.i) = omega (arith, same, accepted_params c.args.t.now c.requires.t_value c.args.i c.requires.i_bound) in
    record { in_table = (rw here (accepted_within c.args.t.now c.requires.t_value c.args.i c.requires.i_bound), rw here (accepted_sized c.args.t.now c.requires.t_value c.args.i c.requires.i_bound).registers); args_len_bound = rw here few }

pub returns-in-Some : goal.returns-in-Some
returns-in-Some c =
    let here = c.function_at-a.ensures in
    let same = c.if-args-function_params.false ∙ c.function_params.ensures.0 ∙ ap (function_params c.args.t.now) c.function_at-a.ensures in
    rw c.refuse-in-Some.ensures (refused_to (decode c.args.t.now) c.args.i c.args.args.now c.args.budget c.args.registers.now _ (λ z e. run_unfit c.args.t.now c.args.i c.args.args.now c.args.budget (length c.args.registers.now) c.requires.i_bound same c.in-Some.unfit (unfit_some (length c.args.args.now) c.in-Some.is (rw here at c.first_unfit.ensures.place)) (unfit_below c.in-Some.is c.first_unfit.ensures.within) e))

pub register_count-requires : goal.register_count-requires
register_count-requires c =
    rw c.function_at-a.ensures (accepted_within c.args.t.now c.requires.t_value c.args.i c.requires.i_bound)

pub returns-then-registers-register_count : goal.returns-then-registers-register_count
returns-then-registers-register_count c =
    let here = c.function_at-a.ensures in
    let same = c.if-args-function_params.false ∙ c.function_params.ensures.0 ∙ ap (function_params c.args.t.now) c.function_at-a.ensures in
    let few : length c.args.args.now ≤ register_count c.args.t.now (function_at c.args.i) = omega (arith, same, accepted_params c.args.t.now c.requires.t_value c.args.i c.requires.i_bound) in
    let fits = unfit_none (length c.args.args.now) c.in_default.is (rw here at c.first_unfit.ensures.place) in
    rw c.refuse-then-registers-register_count.ensures (refused_to (decode c.args.t.now) c.args.i c.args.args.now c.args.budget c.args.registers.now _ (λ z e. run_short c.args.t.now c.args.i c.args.args.now c.args.budget (length c.args.registers.now) c.requires.i_bound same fits (omega (arith, c.register_count.ensures.0 ∙ ap (register_count c.args.t.now) here, c.if-registers-register_count.true)) e))

pub run_on-requires : goal.run_on-requires
run_on-requires c =
    let here = c.function_at-a.ensures in
    let same = c.if-args-function_params.false ∙ c.function_params.ensures.0 ∙ ap (function_params c.args.t.now) c.function_at-a.ensures in
    let few : length c.args.args.now ≤ register_count c.args.t.now (function_at c.args.i) = omega (arith, same, accepted_params c.args.t.now c.requires.t_value c.args.i c.requires.i_bound) in
    let fits = unfit_none (length c.args.args.now) c.in_default.is (rw here at c.first_unfit.ensures.place) in
    let room : register_count c.args.t.now (function_at c.args.i) ≤ length c.args.registers.now = omega (arith, c.register_count.ensures.0 ∙ ap (register_count c.args.t.now) here, c.if-registers-register_count.false) in
    record { sized = (rw here (accepted_sized c.args.t.now c.requires.t_value c.args.i c.requires.i_bound), rw here (accepted_clean c.args.t.now c.requires.t_value c.args.i c.requires.i_bound)); taken_nonzero = c.requires.taken_nonzero; args_value = (rw here (arguments_fit_law c.args.t.now c.args.i c.args.args.now c.args.budget (length c.args.registers.now) c.requires.i_bound same fits), rw here room) }

pub answer_of-requires : goal.answer_of-requires
answer_of-requires c =
    let here = c.function_at-a.ensures in
    let same = c.if-args-function_params.false ∙ c.function_params.ensures.0 ∙ ap (function_params c.args.t.now) c.function_at-a.ensures in
    let few : length c.args.args.now ≤ register_count c.args.t.now (function_at c.args.i) = omega (arith, same, accepted_params c.args.t.now c.requires.t_value c.args.i c.requires.i_bound) in
    let fits = unfit_none (length c.args.args.now) c.in_default.is (rw here at c.first_unfit.ensures.place) in
    answer_small c.args.i (omega (arith, c.requires.i_bound, accepted_count c.args.t.now c.requires.t_value)) (accepted_clean c.args.t.now c.requires.t_value c.args.i c.requires.i_bound) (arguments_fit_law c.args.t.now c.args.i c.args.args.now c.args.budget (length c.args.registers.now) c.requires.i_bound same fits) (rw here at c.run_on.ensures)

pub returns : goal.returns
returns c =
    let here = c.function_at-a.ensures in
    let same = c.if-args-function_params.false ∙ c.function_params.ensures.0 ∙ ap (function_params c.args.t.now) c.function_at-a.ensures in
    let few : length c.args.args.now ≤ register_count c.args.t.now (function_at c.args.i) = omega (arith, same, accepted_params c.args.t.now c.requires.t_value c.args.i c.requires.i_bound) in
    let fits = unfit_none (length c.args.args.now) c.in_default.is (rw here at c.first_unfit.ensures.place) in
    let room : register_count c.args.t.now (function_at c.args.i) ≤ length c.args.registers.now = omega (arith, c.register_count.ensures.0 ∙ ap (register_count c.args.t.now) here, c.if-registers-register_count.false) in
    done_to (decode c.args.t.now) c.args.i c.args.args.now c.args.budget c.args.registers.now _ _ (run_done c.args.t.now c.args.i c.args.args.now c.args.budget (length c.args.registers.now) c.requires.i_bound same fits (Ok c.answer_of.result) c.run_on.result _ c.answer_of.ensures room (rw here at c.run_on.ensures))
