-- The first function of that name is an earlier one exactly if one is.
use mathlib.Core.Path.{ap, ◌∙◌}
use native.Mathlib.Omega.{arith}
use Rattle.laws.specs.Lists.{any, same}
use Rattle.table.proofs.NamesLaws.{found_if}
use Rattle.checker.specs.Parts.{table_names_before}
use Rattle.checker.proofs.NamesLaws.{named_before}
use Rattle.checker.proofs.sound.named_before.Goals as goal

pub find_name-requires : goal.find_name-requires
find_name-requires c = omega arith

pub returns : goal.returns
returns c =
    let args = c.args in
    let name = c.function_name-name.result.now in
    c.is_some.ensures ∙ found_if _ _ _ _ _ c.find_name.result c.find_name.ensures ∙ named_before args.t.now name args.i
    ∙ ap (λ n. any (same n) (table_names_before args.t.now args.i)) c.function_name-name.ensures
