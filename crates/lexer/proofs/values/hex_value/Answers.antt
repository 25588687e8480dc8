-- `lexer::values::hex_value` tests what its definition tests.
use mathlib.Core.Path.{◌≡◌}
use Prim.Native.Nat.{◌+◌, ◌-◌}
use native.Mathlib.Omega.{arith}
use Rattle.language.specs.Bytes.{hex_value}
use Rattle.laws.proofs.Branches.{branches}
use Rattle.lexer.proofs.values.hex_value.Goals as goal

pub returns-in-48-to-57-clause-value : goal.returns-in-48-to-57-clause-value
unfolding hex_value
returns-in-48-to-57-clause-value c = search branches depth 12

pub returns-in_default-clause-value : goal.returns-in_default-clause-value
unfolding hex_value
returns-in_default-clause-value c = search branches depth 12

pub returns-in_default-2-clause-value : goal.returns-in_default-2-clause-value
unfolding hex_value
returns-in_default-2-clause-value c = search branches depth 12

pub returns-in_default-3-clause-value : goal.returns-in_default-3-clause-value
unfolding hex_value
returns-in_default-3-clause-value c = search branches depth 12

pub returns-in_default-4-clause-value : goal.returns-in_default-4-clause-value
unfolding hex_value
returns-in_default-4-clause-value c = search branches depth 12

pub returns-in-65-to-70-clause-value : goal.returns-in-65-to-70-clause-value
unfolding hex_value
returns-in-65-to-70-clause-value c = let e : c.args.b - 65 + 10 ≡ c.args.b - 55 = omega arith in rw e (search branches depth 12)

pub returns-in-97-to-102-clause-value : goal.returns-in-97-to-102-clause-value
unfolding hex_value
returns-in-97-to-102-clause-value c = let e : c.args.b - 97 + 10 ≡ c.args.b - 87 = omega arith in rw e (search branches depth 12)
