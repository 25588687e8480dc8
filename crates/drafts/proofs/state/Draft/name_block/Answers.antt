-- 6 by its test, and else the name stands behind the closed blocks.
use mathlib.Core.Path.{refl, sym, ◌∙◌}
use native.Mathlib.Nat.{le_refl}
use Rattle.table.proofs.NamesLaws.{found_some, found_none}
use Rattle.drafts.proofs.Declaring.{block_known, block_put}
use Rattle.drafts.proofs.state.Draft.name_block.Goals as goal

pub returns-then-is_some : goal.returns-then-is_some
returns-then-is_some c l b names m =
    block_known c.args.name.now c.args.p refl (found_some _ _ _ _ _ c.find_name.result c.find_name.ensures (sym c.is_some.ensures ∙ c.if-is_some.true))

pub returns : goal.returns
returns c l b names m =
    let fit = c.requires.closed_lt_max_blocks in
    let n = c.args.self.blocks.closed in
    block_put c.args.name.now c.args.p (found_none _ _ _ _ _ c.find_name.result c.find_name.ensures (sym c.is_some.ensures ∙ c.if-is_some.false))
    c.requires.bounded fit.0 (le_refl n) fit.2 c.put_name.ensures
