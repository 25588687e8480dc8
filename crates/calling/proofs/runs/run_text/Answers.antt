-- `run_text`: the refusal of the text, or the line of the run.
use mathlib.Core.Path.{sym}
use mathlib.Core.List.{List}
use Prim.Native.Nat.{ℕ}
use native.Mathlib.Omega.{arith}
use lib.ListN.{length-replicate}
use Rattle.language.specs.Programs.{Program}
use Rattle.language.specs.Table.{table_length}
use Rattle.call_words.specs.Arguments.{given_of}
use Rattle.calling.specs.Calls.{run_line, run_printed}
use Rattle.calling.proofs.AcceptingLaws.{printed_refused, printed_accepted, refusal_ran}
use Rattle.calling.proofs.runs.run_text.Goals as goal

pub accept-requires : goal.accept-requires
accept-requires c = length-replicate {A = ℕ} table_length 0

pub slice_bounds-accept-end : goal.slice_bounds-accept-end
slice_bounds-accept-end c = sym (length-replicate {A = ℕ} table_length 0)

pub put_refusal-requires : goal.put_refusal-requires
put_refusal-requires c = refusal_ran c.requires.1

pub slice_bounds-run_checked-end : goal.slice_bounds-run_checked-end
slice_bounds-run_checked-end c = sym c.t-2-1.given

pub run_checked-requires : goal.run_checked-requires
run_checked-requires c =
    record { t_value = c.accept.ensures.passes c.in-Ok.is; lengths = c.requires }

pub shape_of-out-in-Err : goal.shape_of-out-in-Err
shape_of-out-in-Err c = c.put_refusal.auto.out

pub returns-in-Err : goal.returns-in-Err
unfolding run_printed
returns-in-Err c =
    let x = c.args in
    let line : Program → List ℕ = λ p. run_line p x.word.now (given_of x.count x.kept.now) x.budget in
    (rw (printed_refused line c.accept.ensures c.in-Err.is) c.put_refusal.ensures.0, omega (arith, c.put_refusal.ensures.1))

pub shape_of-out-in-Ok : goal.shape_of-out-in-Ok
shape_of-out-in-Ok c = c.run_checked.auto.out

pub returns-in-Ok : goal.returns-in-Ok
unfolding run_printed
returns-in-Ok c =
    let x = c.args in
    let line : Program → List ℕ = λ p. run_line p x.word.now (given_of x.count x.kept.now) x.budget in
    (rw (printed_accepted line c.accept.ensures c.in-Ok.is) c.run_checked.ensures.0, c.run_checked.ensures.1)
