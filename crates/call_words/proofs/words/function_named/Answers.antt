-- `function_named`: the names of a table's functions stand one function apart.
use native.Mathlib.Omega.{arith}
use Rattle.flow.proofs.Accepted.{accepted_length, accepted_count}
use mathlib.Core.Path.{◌∙◌}
use Rattle.table.proofs.NamesLaws.{found_or}
use Rattle.call_words.proofs.WordLaws.{named_is}
use Rattle.call_words.proofs.words.function_named.Goals as goal

pub function_count-n-requires : goal.function_count-n-requires
function_count-n-requires c =
    omega (arith, accepted_length c.args.t.now c.requires)

pub find_name-requires : goal.find_name-requires
find_name-requires c =
    omega (arith, accepted_length c.args.t.now c.requires, accepted_count c.args.t.now c.requires, c.function_count-n.ensures.0)

pub returns : goal.returns
returns c =
    named_is c.args.t.now c.args.word.now c.function_count-n.ensures.0 (c.unwrap_or.ensures ∙ found_or _ _ _ _ _ c.find_name.result c.find_name.ensures)
