-- `perform`: in each arm the act is known, and the called function's contract is what is to be shown.
use mathlib.Core.Bool.{Bool, true, false, cond}
use mathlib.Core.Path.{◌≡◌, refl, ◌∙◌}
use mir.Val.{bool_byte}
use Prim.Native.Nat.{◌≤◌}
use lib.Dec.{lit≤}
use Rattle.reader.proofs.Enabling.{function_room, register_room, block_room, row_room, cells, indexed}
use Rattle.reader.proofs.taking.perform.Goals as goal

-- what `usize::from` gives of a test
one_if : (b : Bool) → bool_byte b ≡ cond b 1 0
one_if true = refl
one_if false = refl

at_most_one : (b : Bool) → bool_byte b ≤ 1
at_most_one true = lit≤ tt
at_most_one false = lit≤ tt

pub name_function-requires : goal.name_function-requires
name_function-requires c =
    let h = rw c.in-NameFunction.is at c.requires in
    record { bounded = h.bounded; functions_lt_max_functions = (function_room h (lit≤ tt), cells h (lit≤ tt), h.lent.names, h.short) }

pub name_block-requires : goal.name_block-requires
name_block-requires c =
    let h = rw c.in-NameBlock.is at c.requires in
    record { bounded = h.bounded; closed_lt_max_blocks = (block_room h (lit≤ tt), cells h (lit≤ tt), h.short) }

pub name_register-requires : goal.name_register-requires
name_register-requires c =
    let h = rw c.in-NameRegister.is at c.requires in
    record { bounded = h.bounded; registers_lt_max_registers = (register_room h (lit≤ tt), cells h (lit≤ tt), h.lent.last, h.lent.before); more_bound = (rw c.from.ensures (at_most_one _), h.holding, h.short); cells_indexed = indexed h (lit≤ tt) }

pub set_target-requires : goal.set_target-requires
set_target-requires c =
    let h = rw c.in-SetTarget.is at c.requires in
    record { bounded = h.bounded; f_len = cells h (lit≤ tt); cells_indexed = indexed h (lit≤ tt) }

pub add_source-requires : goal.add_source-requires
add_source-requires c =
    let h = rw c.in-AddSource.is at c.requires in
    record { bounded = h.bounded; f_len = cells h (lit≤ tt); cells_indexed = indexed h (lit≤ tt) }

pub add_entry-requires : goal.add_entry-requires
add_entry-requires c =
    let h = rw c.in-AddEntry.is at c.requires in
    record { bounded = h.bounded; f_len = cells h (lit≤ tt); cells_indexed = indexed h (lit≤ tt) }

pub end_instruction-requires : goal.end_instruction-requires
end_instruction-requires c =
    let h = rw c.in-EndInstruction.is at c.requires in
    record { bounded = h.bounded; rows_lt_max_rows = (row_room h (lit≤ tt), cells h (lit≤ tt)) }

pub end_block-requires : goal.end_block-requires
end_block-requires c =
    let h = rw c.in-EndBlock.is at c.requires in
    record { bounded = h.bounded; closed_lt_max_blocks = (block_room h (lit≤ tt), cells h (lit≤ tt)) }

pub end_function-requires : goal.end_function-requires
end_function-requires c =
    let h = rw c.in-EndFunction.is at c.requires in
    record { bounded = h.bounded; functions_lt_max_functions = (function_room h (lit≤ tt), cells h (lit≤ tt), h.lent.pending) }

pub returns-in-Wrong : goal.returns-in-Wrong
returns-in-Wrong c = rw c.in-Wrong.is (refl, refl)

pub returns-in-Pass : goal.returns-in-Pass
returns-in-Pass c = rw c.in-Pass.is (refl, refl)

pub returns-in-BeginFunction : goal.returns-in-BeginFunction
returns-in-BeginFunction c = rw c.in-BeginFunction.is (c.begin_function.ensures, refl)

pub returns-in-MarkSsa : goal.returns-in-MarkSsa
returns-in-MarkSsa c = rw c.in-MarkSsa.is (c.mark_ssa.ensures _)

pub returns-in-BeginRegister : goal.returns-in-BeginRegister
returns-in-BeginRegister c = rw c.in-BeginRegister.is (c.begin_register.ensures, refl)

pub returns-in-BeginBlock : goal.returns-in-BeginBlock
returns-in-BeginBlock c = rw c.in-BeginBlock.is (c.begin_block.ensures, refl)

pub returns-in-SetResult : goal.returns-in-SetResult
returns-in-SetResult c = rw c.in-SetResult.is (c.set_result.ensures _)

pub returns-in-NameFunction : goal.returns-in-NameFunction
returns-in-NameFunction c = rw c.in-NameFunction.is (c.name_function.ensures _ _ _)

pub returns-in-NameBlock : goal.returns-in-NameBlock
returns-in-NameBlock c = rw c.in-NameBlock.is (c.name_block.ensures _ _ _ _)

pub returns-in-NameRegister : goal.returns-in-NameRegister
returns-in-NameRegister c = rw c.in-NameRegister.is (rw (c.from.ensures ∙ one_if _) at (c.name_register.ensures c.args.names.now c.args.pend.now))

pub returns-in-BeginInstruction : goal.returns-in-BeginInstruction
returns-in-BeginInstruction c = rw c.in-BeginInstruction.is (c.begin_instruction.ensures _)

pub returns-in-SetInstruction : goal.returns-in-SetInstruction
returns-in-SetInstruction c = rw c.in-SetInstruction.is (c.set_instruction.ensures _)

pub returns-in-SetTarget : goal.returns-in-SetTarget
returns-in-SetTarget c = rw c.in-SetTarget.is (c.set_target.ensures _ _)

pub returns-in-AddSource : goal.returns-in-AddSource
returns-in-AddSource c = rw c.in-AddSource.is (c.add_source.ensures _ _)

pub returns-in-AddEntry : goal.returns-in-AddEntry
returns-in-AddEntry c = rw c.in-AddEntry.is (c.add_entry.ensures _ _)

pub returns-in-AddMention : goal.returns-in-AddMention
returns-in-AddMention c = rw c.in-AddMention.is (c.add_mention.ensures _ _ _ _)

pub returns-in-SetNumber : goal.returns-in-SetNumber
returns-in-SetNumber c = rw c.in-SetNumber.is (λ n k. c.set_number.ensures n k _)

pub returns-in-EndInstruction : goal.returns-in-EndInstruction
returns-in-EndInstruction c = rw c.in-EndInstruction.is (c.end_instruction.ensures _ _ _ _)

pub returns-in-EndBlock : goal.returns-in-EndBlock
returns-in-EndBlock c = rw c.in-EndBlock.is (c.end_block.ensures _ _ _ _)

pub returns-in-EndFunction : goal.returns-in-EndFunction
returns-in-EndFunction c = rw c.in-EndFunction.is (c.end_function.ensures _ _ _)
