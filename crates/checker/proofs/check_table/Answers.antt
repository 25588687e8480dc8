use Prim.Native.Nat.{ℕ}
use mathlib.Core.Path.{sym, ap, ◌∙◌}
use native.Mathlib.Numerals.{add-one}
use native.Mathlib.Omega.{arith}
use lib.ListN.{length-replicate}
use Rattle.std.proofs.lemmas.Result.{err_from_is_err_and}
use Rattle.flow.specs.Layout.{flow_length}
use Rattle.answers.specs.Cases.{verdict_of}
use Rattle.checker.proofs.Order.{judged_from, other_length, too_many, start, goes_on, ends, all_judged}
use Rattle.checker.proofs.check_table.Goals as goal

pub returns-then-t-ne-TABLE_LENGTH : goal.returns-then-t-ne-TABLE_LENGTH
returns-then-t-ne-TABLE_LENGTH c = rw c.refuse.ensures (other_length c.args.t.now c.if-t-ne-TABLE_LENGTH.true)

pub function_count-n-requires : goal.function_count-n-requires
function_count-n-requires c = omega arith

pub returns-then-n-gt-MAX_FUNCTIONS : goal.returns-then-n-gt-MAX_FUNCTIONS
returns-then-n-gt-MAX_FUNCTIONS c = rw c.refuse-then-n-gt-MAX_FUNCTIONS.ensures (too_many c.args.t.now c.if-t-ne-TABLE_LENGTH.false (omega arith))

pub loop-i-init : goal.loop-i-init
loop-i-init c = (omega arith, length-replicate {A = ℕ} flow_length 0, start c.args.t.now c.if-t-ne-TABLE_LENGTH.false (omega arith))

pub slice_bounds-check_function-end : goal.slice_bounds-check_function-end
slice_bounds-check_function-end c = sym c.loop-i.invariant.1

pub check_function-requires : goal.check_function-requires
check_function-requires c = (c.if-t-ne-TABLE_LENGTH.false, omega arith, c.loop-i.invariant.1)

pub loop-i-preserved : goal.loop-i-preserved
loop-i-preserved c =
    let t = c.args.t.now in (
      omega arith,
      c.check_function.auto.m ∙ c.loop-i.invariant.1,
      c.loop-i.invariant.2 ∙ goes_on t c.loop-i.i (omega arith) (sym c.in_ok-check_function.ensures)
          ∙ ap (judged_from t) (sym (add-one c.loop-i.i)),
    )

pub returns-in_err-check_function : goal.returns-in_err-check_function
returns-in_err-check_function c =
    let t = c.args.t.now in
    let p = err_from_is_err_and c.from_residual.result c.from_residual.ensures.1 in
    rw (p.1, p.2) (sym (c.loop-i.invariant.2 ∙ ends t c.loop-i.i (omega arith) _ _ (sym c.in_err-check_function.ensures)))

pub returns : goal.returns
returns c = sym (c.loop-i.invariant.2 ∙ all_judged c.args.t.now c.loop-i.i (omega arith))
