-- What a table that passes its check whole gives of each of its functions: what runs, translations and texts ask for.
-- Assumes nothing.
use mathlib.Core.Path.{◌≡◌, subst, subst⁻¹}
use mathlib.Core.Bool.{true, ◌&&◌, and-eq-true_iff}
use mathlib.Core.List.{List, []}
use Prim.Native.Nat.{ℕ, ◌≤◌, ◌<◌}
use native.Mathlib.Omega.{arith}
use lib.Dec.{eqb, leb, eqb→eq, leb→le}
use lib.Ieee.Bits.{is_true}
use lib.ListN.{length}
use Rattle.language.specs.Programs.{max_functions}
use Rattle.language.specs.Table.{table_length, function_at, function_count, function_params, register_count, blocks_placed, phis_placed, predecessors_kept, decode, decode_function}
use Rattle.language.specs.Table.{InTable}
use Rattle.language.specs.Checking.{Verdict, check, judge_from}
use Rattle.language.specs.Answers.{check_answer}
use Rattle.theorems.specs.Clean.{Clean}
use Rattle.theorems.proofs.AcceptanceCheck.{Sound, sound_parts, tested, clean_of_check, accepted_program}
use Rattle.language.proofs.TableView.{function_count_law, function_is, register_count_law, block_count_law, rows_count, sequence_entries}
use Rattle.flow.specs.Sized.{Sized, Preparable}

module _ (t : List ℕ) (e : check_answer t ≡ Verdict.accepted) where
  pub accepted_length : length t ≡ table_length
  unfolding check_answer
  accepted_length = eqb→eq (length t) table_length (tested (eqb (length t) table_length) (check (decode t)) 9 0 e).0

  pub accepted_count : function_count t ≤ max_functions
  unfolding check
  accepted_count =
      omega (arith, function_count_law t, leb→le (length (decode t)) max_functions (tested (leb (length (decode t)) max_functions) (judge_from [] 0 (decode t)) 9 0 (accepted_program t e)).0)

  module _ (i : ℕ) (l : i < function_count t) where
    abbrev a : ℕ
    a = function_at i

    pub accepted_clean : Clean (decode_function t (function_at i))
    accepted_clean =
        subst Clean (function_is t i l) (clean_of_check (decode t) i (accepted_program t e) (subst⁻¹ (λ (n : ℕ). i < n) (function_count_law t) l))

    pub accepted_sound : Sound (decode_function t (function_at i))
    accepted_sound = sound_parts [] (decode_function t (function_at i)) accepted_clean.head

    pub accepted_within : InTable t (function_at i)
    accepted_within = omega (arith, accepted_length, accepted_count)

    pub accepted_sized : Sized t (function_at i)
    unfolding decode_function
    accepted_sized =
        let s = accepted_sound in
        let placed : (decode_function t a).placed ≡ true = is_true (decode_function t a).placed s.placed in
        record {
          within = accepted_within;
          registers = omega (arith, s.registers, register_count_law t a);
          blocks = omega (arith, s.blocks, block_count_law t a);
          rows = omega (arith, s.rows, rows_count t a);
          entries = omega (arith, s.entries, sequence_entries t a ((and-eq-true_iff (blocks_placed t a) (phis_placed t a && predecessors_kept t a)).0 placed).0);
          placed = placed;
        }

    pub accepted_preparable : Preparable t (function_at i)
    accepted_preparable = record { sized = accepted_sized; ranges = accepted_sound.ranges }

    pub accepted_params : function_params t (function_at i) ≤ register_count t (function_at i)
    unfolding decode_function
    accepted_params = omega (arith, accepted_sound.params, register_count_law t a)
