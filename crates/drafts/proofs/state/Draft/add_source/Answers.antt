-- `drafts::state::Draft::add_source`: 7, or the first, the second, or one more source.
use native.Mathlib.Nat.{le_refl}
use native.Mathlib.Omega.{arith}
use Rattle.drafts.proofs.FirstTwo.{first_pushed, second_pushed, none_pushed}
use Rattle.drafts.proofs.RowsLaws.{source_unknown, source_proceeds}
use Rattle.drafts.proofs.state.Draft.add_source.Goals as goal

pub returns-in_default : goal.returns-in_default
returns-in_default c =
    let b = c.requires.bounded in
    source_unknown b _ _ _ _ _ c.in_default.ensures (le_refl c.args.self.head.registers)

pub returns-then-self-eq0 : goal.returns-then-self-eq0
returns-then-self-eq0 c =
    let b = c.requires.bounded in
    source_proceeds b _ _ _ _ _ c.in-Some.ensures.0 c.in-Some.ensures.1 (first_pushed _ _ _ _ c.if-self-eq0.true) (omega (arith, b.registers, c.in-Some.ensures.1)) b.right

pub returns-then-self-eq1 : goal.returns-then-self-eq1
returns-then-self-eq1 c =
    let b = c.requires.bounded in
    source_proceeds b _ _ _ _ _ c.in-Some.ensures.0 c.in-Some.ensures.1 (second_pushed _ _ _ _ c.if-self-eq1.true) b.left (omega (arith, b.registers, c.in-Some.ensures.1))

pub returns-else-self-eq1 : goal.returns-else-self-eq1
returns-else-self-eq1 c =
    let b = c.requires.bounded in
    source_proceeds b _ _ _ _ _ c.in-Some.ensures.0 c.in-Some.ensures.1 (none_pushed _ _ _ _ c.if-self-eq0.false c.if-self-eq1.false) b.left b.right
