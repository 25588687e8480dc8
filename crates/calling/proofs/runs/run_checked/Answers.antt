-- `run_checked`: the line of the call of the function that the word means.
use Rattle.language.specs.Table.{decode}
use Rattle.call_words.specs.Arguments.{given_of}
use Rattle.calling.proofs.CallLaws.{run_line_law}
use Rattle.calling.proofs.runs.run_checked.Goals as goal

pub returns : goal.returns
returns c =
    let g = given_of c.args.count c.args.kept.now in (
      rw (run_line_law (decode c.args.t.now) c.args.word.now g c.args.budget c.function_number-i.ensures c.result_of.ensures c.call.ensures) c.put_answer.ensures.0,
      c.put_answer.ensures.1,
    )
