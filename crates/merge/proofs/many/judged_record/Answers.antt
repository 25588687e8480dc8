-- `judged_record`: the four numbers of test j, and the verdict by the third of its answer.
use mathlib.Core.Path.{◌∙◌, ap}
use mathlib.Core.Bool.{Bool, cond}
use lib.Dec.{eqb}
use Rattle.merge.proofs.JudgingLaws.{flag, failed_value}
use Prim.Native.Nat.{ℕ, ◌+◌, ◌*◌}
use lib.ListN.{get_or}
use Rattle.merge.proofs.many.judged_record.Goals as goal

pub returns : goal.returns
returns c =
    let f = c.from.ensures ∙ flag c.failed.result ∙ ap (λ (b : Bool). cond b 1 0) c.failed.ensures ∙ failed_value (eqb (get_or c.args.answers.now (4 * c.args.j + 2) 0) 1) in (
      c.record_of.ensures.0
          ∙ ap
          (λ (f : ℕ).
          record {
            appliance = get_or c.args.tests.now (4 * c.args.j) 0;
            time = get_or c.args.tests.now (4 * c.args.j + 1) 0;
            fail = f;
            tablet = get_or c.args.tests.now (4 * c.args.j + 2) 0;
            reading = get_or c.args.tests.now (4 * c.args.j + 3) 0;
          })
          f,
      c.record_of.ensures.1,
    )
