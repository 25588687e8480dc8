-- `drafts::state::Draft::add_entry`: 5, 7, or one more entry, put down at its place.
use native.Mathlib.Nat.{le_refl}
use native.Mathlib.Omega.{arith}
use Rattle.drafts.proofs.RowsLaws.{entry_refused, entry_unknown, entry_proceeds}
use Rattle.drafts.proofs.state.Draft.add_entry.Goals as goal

pub returns-then-self-ge-MAX_ENTRIES : goal.returns-then-self-ge-MAX_ENTRIES
returns-then-self-ge-MAX_ENTRIES c = entry_refused c.requires.bounded _ _ _ _ _ c.if-self-ge-MAX_ENTRIES.true

pub returns-in_default : goal.returns-in_default
returns-in_default c =
    entry_unknown c.requires.bounded _ _ _ _ _ c.in_default.ensures c.if-self-ge-MAX_ENTRIES.false (le_refl c.args.self.head.registers)

pub overflow_add-own : goal.overflow_add-own
overflow_add-own c =
    let b = c.requires.bounded in
    omega (arith, b.own, b.entries)

pub returns : goal.returns
returns c =
    entry_proceeds c.requires.bounded _ _ _ _ _ c.in-Some.ensures.0 c.if-self-ge-MAX_ENTRIES.false c.in-Some.ensures.1 c.put_entry.ensures
