use Prim.Native.Nat.{◌+◌}
use mathlib.Core.Path.{sym, ◌∙◌, subst}
use native.Mathlib.Omega.{arith}
use borrow.Author.Tests.{not-true, not-false}
use Rattle.checker.proofs.RowsLaws.{Rows, no_rows, entries_right, entries_wrong, range_wrong, row_more, rows_passed}
use Rattle.checker.proofs.sound.rows_right.Goals as goal

pub loop-k-init : goal.loop-k-init
loop-k-init c = let args = c.args in no_rows args.t.now args.a

pub entries_after-requires : goal.entries_after-requires
entries_after-requires c = (omega arith, omega arith, omega arith)

pub returns-in_default : goal.returns-in_default
returns-in_default c =
    let args = c.args in
    entries_wrong args.t.now args.a c.loop-k.invariant (omega arith) c.in_default.ensures

pub in_range-requires : goal.in_range-requires
in_range-requires c =
    let here = entries_right c.args.t.now c.args.a c.loop-k.invariant (omega arith) (omega (arith, c.in-Some.ensures.0, c.in-Some.ensures.1)) in
    record { in_table = (c.requires.in_table.0, c.requires.in_table.1, c.requires.in_table.2, omega arith); k_bound = here.within }

pub returns-then-not-in_range : goal.returns-then-not-in_range
returns-then-not-in_range c =
    let args = c.args in
    range_wrong args.t.now args.a c.loop-k.invariant (omega arith) (sym c.in_range.ensures ∙ not-true _ c.if-not-in_range.true-raw)

pub loop-k-preserved : goal.loop-k-preserved
loop-k-preserved c =
    let args = c.args in
    let k = c.loop-k.k in
    subst (Rows args.t.now args.a (k + 1)) (sym c.in-Some.ensures.0)
    (row_more args.t.now args.a c.loop-k.invariant (omega arith) (omega (arith, c.in-Some.ensures.0, c.in-Some.ensures.1)) (sym c.in_range.ensures ∙ not-false _ c.if-not-in_range.false-raw))

pub returns : goal.returns
returns c =
    let args = c.args in
    rows_passed args.t.now args.a c.loop-k.invariant (omega arith)
