-- A program is accepted exactly if its rules hold: what the check finds, with 17 over paths instead of its computation.
-- Assumes nothing.
use mathlib.Core.Path.{refl, subst}
use mathlib.Core.List.{List}
use Prim.Native.Nat.{ℕ, ◌≤◌}
use borrow.Author.Tests.{eq-eqb, le-leb}
use lib.Dec.{T, eqb, eqb→eq}
use lib.ListN.{length}
use Rattle.laws.proofs.Joining.{is_not}
use Rattle.laws.proofs.Tests.{of_true}
use Rattle.language.specs.Programs.{Func, function_in, max_functions}
use Rattle.language.specs.Checking.{spot_at, breaks17, sound, check}
use Rattle.language.specs.Table.{table_length, function_count, decode}
use Rattle.language.specs.Answers.{check_answer, signature_answer}
use Rattle.language.proofs.Paths.{missing_sound, missing_complete}
use Rattle.theorems.specs.Clean.{Clean}
use Rattle.theorems.specs.Accepted.{names_before, RulesHold, AcceptedExactly, TableAcceptedExactly, SignatureAccepted}
use Rattle.language.proofs.TableView.{function_count_law}
use Rattle.theorems.proofs.Judged.{accepted_each}
use Rattle.theorems.proofs.AcceptanceCheck.{in_blocks, sound_parts, parts_sound, tested, clean_of_check, sound_of_check, check_of_clean}

-- A function whose rules hold is clean, and back if its name is its own.
clean_of_rules : (names : List (List ℕ)) (f : Func) → RulesHold names f → Clean f
clean_of_rules names f h =
    record {
      head = parts_sound f (sound_parts names f h.head);
      filled = h.filled;
      rows = h.rows;
      paths =
          λ b j l. is_not (breaks17 f (spot_at f b j))
          (λ e. let m = missing_sound f (spot_at f b j) (of_true (breaks17 f (spot_at f b j)) e) in h.paths b j l m.0 m.1);
    }

rules_of_clean : (names : List (List ℕ)) (f : Func) → T (sound names f) → Clean f → RulesHold names f
rules_of_clean names f h c =
    record {
      head = h;
      filled = c.filled;
      rows = c.rows;
      paths = λ b j l ssa m. subst T (c.paths b j l) (missing_complete f (spot_at f b j) (in_blocks f b j l) ssa m);
    }

pub accepted_exactly : AcceptedExactly
accepted_exactly p = (
  λ e.
      record {
        count = (accepted_each p e).0;
        functions = λ i l. rules_of_clean (names_before p i) (function_in p i) (sound_of_check p i e l) (clean_of_check p i e l);
      },
  λ r. check_of_clean p r.count (λ i l. (r.functions i l).head) (λ i l. clean_of_rules (names_before p i) (function_in p i) (r.functions i l)),
)

pub table_accepted_exactly : TableAcceptedExactly
unfolding check_answer
table_accepted_exactly t = (
  λ e.
      let q = tested (eqb (length t) table_length) (check (decode t)) 9 0 e in
      (eqb→eq (length t) table_length q.0, (accepted_exactly (decode t)).0 q.1),
  λ r. rw (eq-eqb (length t) table_length r.0) ((accepted_exactly (decode t)).1 r.1),
)

-- The table's length and its function count are right.
pub signature_accepted : SignatureAccepted
unfolding signature_answer
signature_accepted t i result types e =
    let r = (table_accepted_exactly t).0 e in
    let few : function_count t ≤ max_functions = subst (λ (n : ℕ). n ≤ max_functions) (function_count_law t) r.1.count in
    rw (eq-eqb (length t) table_length r.0, le-leb (function_count t) max_functions few, function_count_law t) refl
