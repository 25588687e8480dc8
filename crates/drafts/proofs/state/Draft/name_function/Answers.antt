-- 6 by its test, and else the name stands behind those of the functions and where the function in hand has none.
use mathlib.Core.Path.{refl, sym, ◌∙◌}
use native.Mathlib.Nat.{le_refl}
use Rattle.table.proofs.NamesLaws.{found_some, found_none}
use Rattle.drafts.proofs.Declaring.{function_known, function_put}
use Rattle.drafts.proofs.state.Draft.name_function.Goals as goal

pub returns-then-is_some : goal.returns-then-is_some
returns-then-is_some c m l b =
    function_known c.args.name.now c.args.p refl (found_some _ _ _ _ _ c.find_name.result c.find_name.ensures (sym c.is_some.ensures ∙ c.if-is_some.true))

pub returns : goal.returns
returns c m l b =
    let fit = c.requires.functions_lt_max_functions in
    let n = c.args.self.functions in
    function_put c.args.name.now c.args.p (found_none _ _ _ _ _ c.find_name.result c.find_name.ensures (sym c.is_some.ensures ∙ c.if-is_some.false))
    c.requires.bounded fit.0 (le_refl n) fit.3 fit.2 c.put_name.ensures c.put_name-2.ensures
