-- `result_of`: the cell of a function that is there.
use mathlib.Core.Path.{ap, ◌∙◌}
use Prim.Native.Nat.{◌<◌}
use native.Mathlib.Omega.{arith}
use Rattle.language.specs.Table.{function_count, function_result}
use Rattle.flow.proofs.Accepted.{accepted_length, accepted_within}
use Rattle.calling.proofs.CallLaws.{result_missing, result_is}
use Rattle.calling.proofs.runs.result_of.Goals as goal

pub function_count-requires : goal.function_count-requires
function_count-requires c =
    omega (arith, accepted_length c.args.t.now c.requires)

pub returns-then-function_count-function : goal.returns-then-function_count-function
returns-then-function_count-function c =
    result_missing c.args.t.now c.args.function (omega (arith, c.function_count.ensures.0, c.if-function_count-function.true))

pub function_at-requires : goal.function_at-requires
function_at-requires c = omega (arith, c.function_count.ensures.1, c.if-function_count-function.false)

pub function_result-requires : goal.function_result-requires
function_result-requires c =
    let l : c.args.function < function_count c.args.t.now = omega (arith, c.function_count.ensures.0, c.if-function_count-function.false) in
    rw c.function_at.ensures (accepted_within c.args.t.now c.requires c.args.function l)

pub returns : goal.returns
returns c =
    let l : c.args.function < function_count c.args.t.now = omega (arith, c.function_count.ensures.0, c.if-function_count-function.false) in
    result_is c.args.t.now c.args.function l (c.function_result.ensures ∙ ap (function_result c.args.t.now) c.function_at.ensures)
