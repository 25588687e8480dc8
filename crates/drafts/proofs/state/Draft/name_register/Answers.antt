-- 6 by its test, and else the register stands behind the others and in its chain.
use mathlib.Core.Path.{refl, sym, ◌∙◌}
use native.Mathlib.Nat.{le_refl}
use borrow.Author.Rules.{rules}
use Rattle.table.proofs.NamesLaws.{found_some, found_none}
use Rattle.drafts.proofs.Declaring.{register_known, register_put}
use Rattle.drafts.proofs.state.Draft.name_register.Goals as goal

pub returns-then-is_some : goal.returns-then-is_some
returns-then-is_some c ns m =
    register_known c.args.name.now c.args.p c.args.more c.args.kind refl
    (found_some _ _ _ _ _ c.find.result c.find.ensures (sym c.is_some.ensures ∙ c.if-is_some.true))

pub put_register-requires : goal.put_register-requires
put_register-requires c = search (rules, c.requires.more_bound)

pub returns : goal.returns
returns c ns m =
    let none = found_none _ _ _ _ _ c.find.result c.find.ensures (sym c.is_some.ensures ∙ c.if-is_some.false) in
    let size = c.requires.more_bound in
    let n = c.args.self.head.registers in
    register_put c.args.name.now c.args.p c.args.more c.args.kind none (le_refl n) (le_refl n) c.add.ensures c.requires.bounded c.requires.registers_lt_max_registers.0
    size.2 size.0 size.1 c.requires.cells_indexed c.low.ensures c.put_register.ensures
