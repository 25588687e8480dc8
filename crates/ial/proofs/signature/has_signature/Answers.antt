-- `has_signature`: the tests in their order, the types last.
use mathlib.Core.Path.{sym, ap, ◌∙◌}
use native.Mathlib.Omega.{arith}
use Rattle.language.specs.Table.{function_result, function_params, register_count}
use Rattle.ial.proofs.SignatureLaws.{of_other_length, of_too_many, of_missing, of_other_result, of_other_count, of_too_few, of_types}
use Rattle.ial.proofs.signature.has_signature.Goals as goal

pub returns-then-t-ne-TABLE_LENGTH : goal.returns-then-t-ne-TABLE_LENGTH
returns-then-t-ne-TABLE_LENGTH c =
    of_other_length c.args.t.now c.args.function c.args.res c.args.types.now c.if-t-ne-TABLE_LENGTH.true

pub returns-then-n-gt-MAX_FUNCTIONS : goal.returns-then-n-gt-MAX_FUNCTIONS
returns-then-n-gt-MAX_FUNCTIONS c =
    of_too_many c.args.t.now c.args.function c.args.res c.args.types.now c.if-t-ne-TABLE_LENGTH.false (omega (arith, c.function_count-n.ensures.0, c.if-n-gt-MAX_FUNCTIONS.true))

pub returns-then-n-function : goal.returns-then-n-function
returns-then-n-function c =
    of_missing c.args.t.now c.args.function c.args.res c.args.types.now c.if-t-ne-TABLE_LENGTH.false (omega (arith, c.function_count-n.ensures.0, c.if-n-gt-MAX_FUNCTIONS.false)) (omega (arith, c.function_count-n.ensures.0, c.if-n-function.true))

pub function_at-a-requires : goal.function_at-a-requires
function_at-a-requires c = omega (arith, c.function_count-n.ensures.1, c.if-n-function.false)

pub returns-then-function_result-res : goal.returns-then-function_result-res
returns-then-function_result-res c =
    of_other_result c.args.t.now c.args.function c.args.res c.args.types.now c.if-t-ne-TABLE_LENGTH.false (omega (arith, c.function_count-n.ensures.0, c.if-n-gt-MAX_FUNCTIONS.false)) (omega (arith, c.function_count-n.ensures.0, c.if-n-function.false)) (λ e. c.if-function_result-res.true (c.function_result.ensures ∙ ap (function_result c.args.t.now) c.function_at-a.ensures ∙ e))

pub returns-then-function_params-types : goal.returns-then-function_params-types
returns-then-function_params-types c =
    of_other_count c.args.t.now c.args.function c.args.res c.args.types.now c.if-t-ne-TABLE_LENGTH.false (omega (arith, c.function_count-n.ensures.0, c.if-n-gt-MAX_FUNCTIONS.false)) (omega (arith, c.function_count-n.ensures.0, c.if-n-function.false)) (sym (c.function_result.ensures ∙ ap (function_result c.args.t.now) c.function_at-a.ensures) ∙ c.if-function_result-res.false) (λ e. c.if-function_params-types.true (c.function_params.ensures.0 ∙ ap (function_params c.args.t.now) c.function_at-a.ensures ∙ e))

pub returns-then-register_count-types : goal.returns-then-register_count-types
returns-then-register_count-types c =
    of_too_few c.args.t.now c.args.function c.args.res c.args.types.now c.if-t-ne-TABLE_LENGTH.false (omega (arith, c.function_count-n.ensures.0, c.if-n-gt-MAX_FUNCTIONS.false)) (omega (arith, c.function_count-n.ensures.0, c.if-n-function.false)) (sym (c.function_result.ensures ∙ ap (function_result c.args.t.now) c.function_at-a.ensures) ∙ c.if-function_result-res.false) (sym (c.function_params.ensures.0 ∙ ap (function_params c.args.t.now) c.function_at-a.ensures) ∙ c.if-function_params-types.false) (omega (arith, c.register_count.ensures.0 ∙ ap (register_count c.args.t.now) c.function_at-a.ensures, c.if-register_count-types.true))

pub returns : goal.returns
returns c =
    of_types c.args.t.now c.args.function c.args.res c.args.types.now c.if-t-ne-TABLE_LENGTH.false (omega (arith, c.function_count-n.ensures.0, c.if-n-gt-MAX_FUNCTIONS.false)) (omega (arith, c.function_count-n.ensures.0, c.if-n-function.false)) (sym (c.function_result.ensures ∙ ap (function_result c.args.t.now) c.function_at-a.ensures) ∙ c.if-function_result-res.false) (sym (c.function_params.ensures.0 ∙ ap (function_params c.args.t.now) c.function_at-a.ensures) ∙ c.if-function_params-types.false) (omega (arith, c.register_count.ensures.0 ∙ ap (register_count c.args.t.now) c.function_at-a.ensures, c.if-register_count-types.false)) (rw c.function_at-a.ensures at c.has_types.ensures)
