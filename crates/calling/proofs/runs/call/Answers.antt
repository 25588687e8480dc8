-- `call`: the tests in their order, then the run on the arguments' bits.
use mathlib.Core.Path.{◌≡◌, refl, sym, ap, ◌∙◌}
use Prim.Native.Nat.{ℕ, ◌<◌}
use native.Mathlib.Omega.{arith}
use lib.ListN.{length-replicate}
use lib.Seq.{length-take-le}
use Rattle.language.specs.Table.{function_at, function_count, function_params}
use Rattle.flow.proofs.Accepted.{accepted_length, accepted_within}
use Rattle.call_words.specs.Arguments.{given_of}
use Rattle.calling.proofs.CallLaws.{few_arguments, most_arguments, call_missing, call_count, call_outside, call_run}
use Rattle.calling.proofs.runs.call.Goals as goal

pub function_count-requires : goal.function_count-requires
function_count-requires c =
    omega (arith, accepted_length c.args.t.now c.requires.t_value)

pub returns-then-function_count-function : goal.returns-then-function_count-function
returns-then-function_count-function c =
    rw c.refuse.ensures (call_missing c.args.t.now c.args.function (given_of c.args.count c.args.kept.now) c.args.budget
    (omega (arith, c.function_count.ensures.0, c.if-function_count-function.true)))

pub function_at-a-requires : goal.function_at-a-requires
function_at-a-requires c = omega (arith, c.function_count.ensures.1, c.if-function_count-function.false)

pub function_params-requires : goal.function_params-requires
function_params-requires c =
    let l : c.args.function < function_count c.args.t.now = omega (arith, c.function_count.ensures.0, c.if-function_count-function.false) in
    rw c.function_at-a.ensures (accepted_within c.args.t.now c.requires.t_value c.args.function l)

pub returns-then-count-function_params : goal.returns-then-count-function_params
returns-then-count-function_params c =
    let l : c.args.function < function_count c.args.t.now = omega (arith, c.function_count.ensures.0, c.if-function_count-function.false) in
    rw c.refuse-then-count-function_params.ensures (call_count c.args.t.now c.args.function (given_of c.args.count c.args.kept.now) c.args.budget l
    (λ h. c.if-count-function_params.true (h ∙ sym (c.function_params.ensures.0 ∙ ap (function_params c.args.t.now) c.function_at-a.ensures))))

pub fill_arguments-requires : goal.fill_arguments-requires
fill_arguments-requires c =
    let l : c.args.function < function_count c.args.t.now = omega (arith, c.function_count.ensures.0, c.if-function_count-function.false) in
    let same : c.args.count ≡ function_params c.args.t.now (function_at c.args.function) = c.if-count-function_params.false ∙ c.function_params.ensures.0 ∙ ap (function_params c.args.t.now) c.function_at-a.ensures in
    let here = c.function_at-a.ensures in
    let at = accepted_within c.args.t.now c.requires.t_value c.args.function l in
    let few = few_arguments c.args.t.now c.requires.t_value c.args.function l same in
    let most = most_arguments c.args.t.now c.requires.t_value c.args.function l same in
    record { in_table = (rw here at, rw here few, most); kept_len = (c.requires.kept_len, length-replicate {A = ℕ} 256 0) }

pub returns-in-Err : goal.returns-in-Err
returns-in-Err c =
    let l : c.args.function < function_count c.args.t.now = omega (arith, c.function_count.ensures.0, c.if-function_count-function.false) in
    let same : c.args.count ≡ function_params c.args.t.now (function_at c.args.function) = c.if-count-function_params.false ∙ c.function_params.ensures.0 ∙ ap (function_params c.args.t.now) c.function_at-a.ensures in
    let first = c.in-Err.ensures.outside in
    rw c.refuse-in-Err.ensures (call_outside c.args.t.now c.args.function (given_of c.args.count c.args.kept.now) c.args.budget l same
    c.in-Err.outside (rw c.function_at-a.ensures at first.0) first.1)

pub slice_bounds-args-end : goal.slice_bounds-args-end
slice_bounds-args-end c =
    let l : c.args.function < function_count c.args.t.now = omega (arith, c.function_count.ensures.0, c.if-function_count-function.false) in
    let same : c.args.count ≡ function_params c.args.t.now (function_at c.args.function) = c.if-count-function_params.false ∙ c.function_params.ensures.0 ∙ ap (function_params c.args.t.now) c.function_at-a.ensures in
    omega (arith, most_arguments c.args.t.now c.requires.t_value c.args.function l same, c.args-2-1.given)

pub slice_bounds-run_here-end : goal.slice_bounds-run_here-end
slice_bounds-run_here-end c =
    let l : c.args.function < function_count c.args.t.now = omega (arith, c.function_count.ensures.0, c.if-function_count-function.false) in
    let same : c.args.count ≡ function_params c.args.t.now (function_at c.args.function) = c.if-count-function_params.false ∙ c.function_params.ensures.0 ∙ ap (function_params c.args.t.now) c.function_at-a.ensures in
    sym (length-take-le c.args.count _ (omega (arith, most_arguments c.args.t.now c.requires.t_value c.args.function l same, c.args-2-1.given)))

pub returns : goal.returns
returns c =
    let l : c.args.function < function_count c.args.t.now = omega (arith, c.function_count.ensures.0, c.if-function_count-function.false) in
    let same : c.args.count ≡ function_params c.args.t.now (function_at c.args.function) = c.if-count-function_params.false ∙ c.function_params.ensures.0 ∙ ap (function_params c.args.t.now) c.function_at-a.ensures in
    let here = c.function_at-a.ensures in
    let filled = c.in_default.ensures in
    call_run c.args.t.now c.args.function (given_of c.args.count c.args.kept.now) c.args.budget l same
    c.args.count (rw here at filled.inside) refl (rw here at filled.out_after) c.run_here.ensures
