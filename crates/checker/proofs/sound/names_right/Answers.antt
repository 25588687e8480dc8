-- The tests in the order of the definition: the first that fails is the answer.
use Prim.Native.Nat.{◌+◌}
use mathlib.Core.Path.{sym, ap, ◌∙◌}
use native.Mathlib.Omega.{arith}
use Rattle.language.specs.Names.{spellable}
use Rattle.language.specs.Table.{block_length, block_names_offset, register_length, register_names_offset}
use Rattle.checker.specs.Parts.{listed_right}
use Rattle.checker.proofs.TestLaws.{fell, held}
use Rattle.checker.proofs.NamesLaws.{own_wrong, own_twice, registers_wrong, registers_named}
use Rattle.checker.proofs.sound.names_right.Goals as goal

pub returns-then-not-spellable : goal.returns-then-not-spellable
returns-then-not-spellable c =
    let args = c.args in
    own_wrong args.t.now args.i args.a (fell (c.spellable.ensures ∙ ap spellable c.function_name.ensures) c.if-not-spellable.true-raw)

pub returns-then-named_before : goal.returns-then-named_before
returns-then-named_before c =
    let args = c.args in
    own_twice args.t.now args.i args.a
    (held (c.spellable.ensures ∙ ap spellable c.function_name.ensures) c.if-not-spellable.false-raw)
    (sym c.named_before.ensures ∙ c.if-named_before.true)

pub overflow_add-a : goal.overflow_add-a
overflow_add-a c = omega arith

pub listed_right-requires : goal.listed_right-requires
listed_right-requires c = (omega arith, omega arith)

pub returns-then-not-listed_right : goal.returns-then-not-listed_right
returns-then-not-listed_right c =
    registers_wrong c.args.t.now c.args.i c.args.a
    (held (c.spellable.ensures ∙ ap spellable c.function_name.ensures) c.if-not-spellable.false-raw)
    (sym c.named_before.ensures ∙ c.if-named_before.false)
    (fell (c.listed_right.ensures ∙ ap (listed_right c.args.t.now (c.args.a + register_names_offset) register_length) c.requires.registers_value.0) c.if-not-listed_right.true-raw)

pub overflow_add-a-2 : goal.overflow_add-a-2
overflow_add-a-2 c = omega arith

pub listed_right-requires-2 : goal.listed_right-requires-2
listed_right-requires-2 c = (omega arith, omega arith)

pub returns : goal.returns
returns c =
    c.listed_right-2.ensures ∙ ap (listed_right c.args.t.now (c.args.a + block_names_offset) block_length) c.requires.registers_value.2
    ∙ registers_named c.args.t.now c.args.i c.args.a
    (held (c.spellable.ensures ∙ ap spellable c.function_name.ensures) c.if-not-spellable.false-raw)
    (sym c.named_before.ensures ∙ c.if-named_before.false)
    (held (c.listed_right.ensures ∙ ap (listed_right c.args.t.now (c.args.a + register_names_offset) register_length) c.requires.registers_value.0) c.if-not-listed_right.false-raw)
