-- `lexer::actions::in_number` tests what its definition tests.
use mathlib.Core.Path.{sym, ◌∙◌}
use Rattle.laws.proofs.Branches.{branches}
use Rattle.language.specs.Bytes.{hex_value}
use Rattle.lexer.proofs.Amounts.{hex_test}
use Rattle.lexer.specs.Actions.{in_number_at}
use Rattle.lexer.proofs.actions.in_number.Goals as goal

pub returns-then-class-eq-DIGIT : goal.returns-then-class-eq-DIGIT
unfolding in_number_at
returns-then-class-eq-DIGIT c = search branches depth 12

pub returns-then-b-eq120 : goal.returns-then-b-eq120
unfolding in_number_at
returns-then-b-eq120 c = search branches depth 12

pub returns-then-is_some : goal.returns-then-is_some
unfolding in_number_at
returns-then-is_some c = let h = hex_test c.hex_value.result (hex_value c.args.b) c.hex_value.ensures.value c.hex_value.ensures.small ∙ sym c.is_some.ensures ∙ c.if-is_some.true in search branches depth 12

pub returns-then-is_some-2 : goal.returns-then-is_some-2
unfolding in_number_at
returns-then-is_some-2 c = let h = hex_test c.hex_value-in_default.result (hex_value c.args.b) c.hex_value-in_default.ensures.value c.hex_value-in_default.ensures.small ∙ sym c.is_some-in_default.ensures ∙ c.if-is_some-2.true in search branches depth 12

pub returns-else-class-eq-DIGIT : goal.returns-else-class-eq-DIGIT
unfolding in_number_at
returns-else-class-eq-DIGIT c = search branches depth 12

pub returns-else-b-eq120 : goal.returns-else-b-eq120
unfolding in_number_at
returns-else-b-eq120 c = search branches depth 12

pub returns-in-8 : goal.returns-in-8
unfolding in_number_at
returns-in-8 c = search branches depth 12

pub returns-else-is_some : goal.returns-else-is_some
unfolding in_number_at
returns-else-is_some c = let h = hex_test c.hex_value.result (hex_value c.args.b) c.hex_value.ensures.value c.hex_value.ensures.small ∙ sym c.is_some.ensures ∙ c.if-is_some.false in search branches depth 12

pub returns-else-is_some-2 : goal.returns-else-is_some-2
unfolding in_number_at
returns-else-is_some-2 c = let h = hex_test c.hex_value-in_default.result (hex_value c.args.b) c.hex_value-in_default.ensures.value c.hex_value-in_default.ensures.small ∙ sym c.is_some-in_default.ensures ∙ c.if-is_some-2.false in search branches depth 12
