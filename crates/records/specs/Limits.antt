-- The limit function and the verdict (document 02, A8): "The verdict comes from running one accepted limit function (one `int64` parameter, the
-- reading; result `uint`) with one step budget, both the same for a whole store."
-- Assumes nothing.
use Rattle.std.specs.Prelude.{cond, ◌&&◌, List, [], ◌∷◌, ℕ, eqb, ltb, length}
use Rattle.language.specs.Instructions.{int64, uint}
use Rattle.language.specs.Programs.{max_registers, function_in, has_signature}
use Rattle.language.specs.Table.{decode}
use Rattle.language.specs.Checking.{Verdict}
use Rattle.language.specs.Answers.{Ran, if_accepted, check_answer, run_answer}
use Rattle.records.specs.declared.Record.{Record}

-- What a tablet hands in: a record that has no verdict yet.
pub record Test : Type 0 where
  pub appliance : ℕ
  pub time : ℕ
  pub tablet : ℕ
  pub reading : ℕ

-- "Refusals: .. 61 limit function missing or of another signature, tested after 9 to 17"
unfoldable pub limit_answer : List ℕ → ℕ → Verdict
limit_answer t i =
    if_accepted (check_answer t) Verdict.refused
    (cond (ltb i (length (decode t)) && has_signature (function_in (decode t) i) uint (int64 ∷ [])) Verdict.accepted (Verdict.refused 61 0))

-- "Result 1 is pass; any stop or other result is fail."
abbrev pub fail_of : Ran → ℕ
fail_of (Ran.returned v s) = cond (eqb v 1) 0 1
fail_of (Ran.left s) = 1
fail_of (Ran.stopped n p s) = 1
fail_of (Ran.refused n p) = 1

-- A test with its verdict, by function i of table t run on the reading for so many steps; no function has more registers.
unfoldable pub judged_test : List ℕ → ℕ → ℕ → Test → Record
judged_test t i budget x =
    record {
      appliance = x.appliance;
      time = x.time;
      fail = fail_of (run_answer t i (x.reading ∷ []) budget max_registers).answer;
      tablet = x.tablet;
      reading = x.reading;
    }
