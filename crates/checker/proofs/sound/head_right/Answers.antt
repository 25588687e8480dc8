-- The tests in the order of the definition: the first that fails is the answer.
use mathlib.Core.Path.{ap, ◌∙◌}
use native.Mathlib.Omega.{arith}
use Rattle.std.proofs.lemmas.Grind.{common_steps}
use Rattle.language.specs.Table.{block_name}
use Rattle.checker.proofs.HeadLaws.{mark_wrong, result_wrong, registers_wrong, blocks_wrong, params_wrong, entry_wrong, entry_tested}
use Rattle.checker.proofs.sound.head_right.Goals as goal

pub returns-then-function_ssa-ge2 : goal.returns-then-function_ssa-ge2
returns-then-function_ssa-ge2 c = let args = c.args in mark_wrong args.t.now args.a (omega arith)

pub returns-then-function_result-gt-VOID : goal.returns-then-function_result-gt-VOID
returns-then-function_result-gt-VOID c = let args = c.args in result_wrong args.t.now args.a (omega arith) (omega arith)

pub returns-then-registers-gt-MAX_REGISTERS : goal.returns-then-registers-gt-MAX_REGISTERS
returns-then-registers-gt-MAX_REGISTERS c = let args = c.args in registers_wrong args.t.now args.a (omega arith) (omega arith) (omega arith)

pub returns-then-blocks-gt-MAX_BLOCKS : goal.returns-then-blocks-gt-MAX_BLOCKS
returns-then-blocks-gt-MAX_BLOCKS c = let args = c.args in blocks_wrong args.t.now args.a (omega arith) (omega arith) (omega arith) (omega arith)

pub returns-then-registers-function_params : goal.returns-then-registers-function_params
returns-then-registers-function_params c = let args = c.args in params_wrong args.t.now args.a (omega arith) (omega arith) (omega arith) (omega arith) (omega arith)

pub returns-then-blocks-entry : goal.returns-then-blocks-entry
returns-then-blocks-entry c = let args = c.args in entry_wrong args.t.now args.a (omega arith) (omega arith) (omega arith) (omega arith) (omega arith) (omega arith)

pub block_name-requires : goal.block_name-requires
block_name-requires c = (omega arith, omega arith)

pub returns : goal.returns
returns c =
    let args = c.args in
    entry_tested args.t.now args.a (omega arith) (omega arith) (omega arith) (omega arith) (omega arith) (omega arith) c.block_name.result.now
    (c.block_name.ensures ∙ ap (block_name args.t.now args.a) c.function_entry-entry.ensures.0) _ (λ e. grind (arith, common_steps)) (λ e. grind (arith, common_steps))
