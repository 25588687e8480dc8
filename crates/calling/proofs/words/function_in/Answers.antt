-- `function_in`: none in a table that its check refuses.
use mathlib.Core.Path.{refl, sym, ap, ◌∙◌}
use Rattle.answers.specs.Cases.{verdict_of}
use Rattle.calling.specs.Calls.{function_meant}
use Rattle.calling.proofs.AcceptingLaws.{accepted_table}
use Rattle.calling.proofs.words.function_in.Goals as goal

pub function_number-requires : goal.function_number-requires
function_number-requires c = accepted_table c.args.t.now c.check.ensures c.in-Ok.is

pub returns-in-Err : goal.returns-in-Err
unfolding function_meant
returns-in-Err c = rw (sym c.check.ensures ∙ ap verdict_of c.in-Err.is) refl

pub returns-in-Ok : goal.returns-in-Ok
unfolding function_meant
returns-in-Ok c =
    let t = c.args.t.now in
    rw (accepted_table t c.check.ensures c.in-Ok.is) c.function_number.ensures
