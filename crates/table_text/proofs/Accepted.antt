-- What the text of a table's functions needs, of a table that passes its check. Assumes nothing.
use mathlib.Core.Path.{◌≡◌, subst}
use mathlib.Core.List.{List, []}
use Prim.Native.Nat.{ℕ, ◌≤◌, ◌<◌}
use native.Mathlib.Omega.{arith}
use borrow.Author.Tests.{eq-eqb}
use lib.Dec.{ltb, ltb→lt}
use lib.ListN.{length}
use Rattle.laws.proofs.Indexing.{all_at}
use Rattle.language.specs.Instructions.{type_count}
use Rattle.language.specs.Programs.{no_register, max_functions}
use Rattle.language.specs.Table.{table_length, function_count, function_at, decode_function, decode}
use Rattle.language.specs.Checking.{Verdict, check}
use Rattle.language.specs.Answers.{check_answer}
use Rattle.theorems.specs.Clean.{Clean}
use Rattle.theorems.proofs.AcceptanceCheck.{sound_parts}
use Rattle.language.proofs.TableView.{register_count_law, type_is}
use Rattle.flow.specs.Sized.{Sized}
use Rattle.flow.proofs.Accepted.{accepted_count, accepted_clean, accepted_sized}
use Rattle.head_text.specs.Heads.{Declared}

-- an accepted function's head and registers
pub declared : {t : List ℕ} {a : ℕ} → Sized t a → Clean (decode_function t a) → Declared t a
unfolding decode_function
declared {t} {a} sized clean =
    let sound = sound_parts [] (decode_function t a) clean.head in
    record {
      within = sized.within;
      registers = sized.registers;
      result = sound.result;
      params = omega (arith, sound.params, register_count_law t a);
      types =
          λ r h.
          subst (λ (k : ℕ). k < type_count) (type_is t a r h)
          (ltb→lt _ type_count (all_at (λ x. ltb x.type type_count) (decode_function t a).registers r no_register sound.types (omega (arith, h, register_count_law t a))));
    }

-- ---- the functions of an accepted table

module _ (t : List ℕ) (size : length t ≡ table_length) (accepted : check (decode t) ≡ Verdict.accepted) where
  whole : check_answer t ≡ Verdict.accepted
  unfolding check_answer
  whole = rw (eq-eqb (length t) table_length size) accepted

  pub few : {n : ℕ} → n ≡ function_count t → n ≤ max_functions
  few e = omega (arith, e, accepted_count t whole)

  pub clean_each : (i : ℕ) → i < function_count t → Sized t (function_at i) × Clean (decode_function t (function_at i))
  clean_each i l = (accepted_sized t whole i l, accepted_clean t whole i l)
