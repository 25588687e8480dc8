-- The stored lists: `placed` is false exactly where one differs, and nothing else that the check looks at goes by them.
-- Assumes nothing.
use mathlib.Core.Path.{◌≡◌, refl, sym, ap, ◌∙◌, subst}
use mathlib.Core.Bool.{Bool, true, false, ◌&&◌, and-true, and-false}
use mathlib.Core.List.{List, [], ◌∷◌, map}
use Prim.Native.Nat.{ℕ, ◌≤◌, ◌<◌}
use native.Mathlib.Nat.{zero-add, not-suc-le-zero, le_of_lt}
use native.Mathlib.Omega.{arith}
use lib.Dec.{T, eqb, ltb, ltb→lt}
use lib.Ieee.Bits.{is_true}
use lib.ListN.{length}
use Rattle.laws.specs.Lists.{below, same}
use Rattle.laws.proofs.Branches.{choose}
use Rattle.laws.proofs.Positions.{same_is, same_not}
use Rattle.laws.proofs.Ranges.{length_map_from, get_or_map_from, map_from_same, map_from_take, all_below, all_below_not}
use Rattle.laws.proofs.Storing.{get_or_zeros}
use Rattle.language.specs.Programs.{Func, Program, no_function, function_in, is_ssa, max_functions}
use Rattle.language.specs.Checking.{Verdict, predecessors, sound, judge, check}
use Rattle.language.specs.Reading.{Reading, read}
use Rattle.language.specs.Translating.{translation, translation_fits}
use Rattle.language.specs.Table.{function_count, function_at, function_name, block_count, stored_predecessors, blocks_placed, phis_placed, predecessors_kept}
use Rattle.language.specs.Table.{decode_at, decode_function, decode, cells, table_length}
use Rattle.language.specs.Answers.{Filled, zeros, refused_table, fill, filled_from, read_answer, check_answer, if_accepted, translate_function, translate_answer}
use Rattle.language.proofs.TableView.{function_count_law, function_is, predecessors_decoded, stored_is}
use Rattle.theorems.specs.Accepted.{names_before, Broken, Fault}
use Rattle.theorems.specs.TableLaw.{Fits}
use Rattle.theorems.specs.Predecessors.{ListRight, ListsRight, ListsInCells, ListsInRead, ListsInTranslation, AcceptedListsRight, DiffersIsFault, decode_apart, AcceptsExactlyRightLists, DiffersIs9}
use Rattle.theorems.proofs.Judged.{accepted_each, first_refused}
use Rattle.theorems.proofs.AcceptanceCheck.{sound_parts, sound_of_check, accepted_program}
use Rattle.theorems.proofs.Demand.{demand3}
use Rattle.theorems.proofs.ReadFits.{read_fits}
use Rattle.theorems.proofs.Table.{table, function_at_law}
use Rattle.theorems.proofs.TableFunction.{stored_back}
use Rattle.theorems.proofs.TableSound.{accepted_fits}

-- ---- where every function is placed, the lists are right

placed_right : (t : List ℕ) → ((i : ℕ) → i < function_count t → T (function_in (decode t) i).placed) → ListsRight t
placed_right t h i b c d =
    stored_is t (function_at i) (ap (λ (f : Func). f.placed) (sym (function_is t i c)) ∙ is_true (function_in (decode t) i).placed (h i c)) b d

pub accepted_lists_right : AcceptedListsRight
accepted_lists_right t e =
    placed_right t (λ i c. (sound_parts (names_before (decode t) i) (function_in (decode t) i) (sound_of_check (decode t) i e (rw (function_count_law t) c))).placed)

-- ---- the tables that are handed out

pub lists_in_cells : ListsInCells
lists_in_cells p fits i b c d = stored_back (function_in p i) (fits.functions i c) (function_at i) (function_at_law p fits i c) b d

cells_right : (p : Program) → Fits p → ListsRight (cells p)
unfolding cells
cells_right p fits =
    placed_right (cells p)
    (λ i c. subst (λ (q : Program). T (function_in q i).placed) (sym (table p fits).back) (subst T (sym (fits.functions i c).placed) tt))

zeros_right : (n : ℕ) → ListsRight (zeros n)
unfolding zeros
zeros_right n i b c d = absurd (not-suc-le-zero (rw (get_or_zeros n 0) at c))

refused_right : (n k p : ℕ) → ListsRight (refused_table n k p).table
unfolding refused_table
refused_right n k p = zeros_right n

abbrev Right : Filled → Type 0
Right x = ListsRight x.table

filled_right : (n : ℕ) (p : Program) → Fits p → Right (fill n p)
unfolding fill
filled_right n p fits = choose Right (eqb n table_length) (λ h. cells_right p fits) (refused_right n 22 0)

pub lists_in_read : ListsInRead
unfolding read_answer
lists_in_read text n h = by (read text) refl
  where
    by : (r : Reading) → read text ≡ r → Right (filled_from n r)
    by (Reading.refused k p) e = refused_right n k p
    by (Reading.program p) e = filled_right n p (read_fits text h p e)

translated_right : (p : Program) (i n : ℕ) → check p ≡ Verdict.accepted → Right (translate_function p i n)
unfolding translate_function
translated_right p i n e =
    let f = function_in p i in
    choose Right (ltb i (length p))
    (λ there. choose Right (is_ssa f)
    (λ marked. choose Right (translation_fits f)
    (λ sized.
    let accepted = (demand3 p i (record { passes = e; there = ltb→lt i (length p) there; marked = marked; sized = sized })).accepted in
    filled_right n (translation f ∷ []) (accepted_fits (translation f ∷ []) accepted))
    (refused_right n 31 0))
    (refused_right n 30 0))
    (refused_right n 21 0)

pub lists_in_translation : ListsInTranslation
unfolding translate_answer
lists_in_translation t i n = by (check_answer t) refl
  where
    by : (v : Verdict) → check_answer t ≡ v → Right (if_accepted v (refused_table n) (translate_function (decode t) i n))
    by Verdict.accepted e = translated_right (decode t) i n (accepted_program t e)
    by (Verdict.refused k p) e = refused_right n k p

-- ---- one function with its lists and without

module _ (t : List ℕ) (i : ℕ) where
  abbrev a : ℕ
  a = function_at i

  abbrev right : ℕ → Bool
  right b = same (stored_predecessors t a b) (predecessors (decode_at t a true) b)

  abbrev apart : Func
  apart = decode_at t a (blocks_placed t a && phis_placed t a)

  kept : ((b : ℕ) → b < block_count t a → ListRight t i b) → predecessors_kept t a ≡ true
  unfolding predecessors_kept
  kept h =
      all_below right (block_count t a)
      (λ b c. same_is (stored_predecessors t a b) (predecessors (decode_at t a true) b) (h b c ∙ predecessors_decoded t a b))

  not_kept : (b : ℕ) → b < block_count t a → ¬ ListRight t i b → predecessors_kept t a ≡ false
  unfolding predecessors_kept
  not_kept b c n =
      all_below_not right (block_count t a) b c
      (same_not (stored_predecessors t a b) (predecessors (decode_at t a true) b) (λ e. n (e ∙ sym (predecessors_decoded t a b))))

  right_apart : ((b : ℕ) → b < block_count t a → ListRight t i b) → decode_function t a ≡ apart
  unfolding decode_function
  right_apart h = rw (kept h, and-true (phis_placed t a))

  differs_unplaced : (b : ℕ) → b < block_count t a → ¬ ListRight t i b → (decode_function t a).placed ≡ false
  unfolding decode_function
  differs_unplaced b c n = rw (not_kept b c n, and-false (phis_placed t a), and-false (blocks_placed t a))

-- a function that is not placed is 9
unplaced_unsound : (names : List (List ℕ)) (f : Func) → f.placed ≡ false → sound names f ≡ false
unfolding sound
unplaced_unsound names f e = rw e

unsound_judged : (names : List (List ℕ)) (i : ℕ) (f : Func) → sound names f ≡ false → judge names i f ≡ Verdict.refused 9 i
unfolding judge
unsound_judged names i f e = rw e

-- ---- the whole table with its lists and without

module _ (t : List ℕ) where
  count_apart : length (decode_apart t) ≡ function_count t
  unfolding decode_apart
  count_apart = length_map_from (apart t) 0 (function_count t)

  function_apart : (i : ℕ) → i < function_count t → function_in (decode_apart t) i ≡ apart t i
  unfolding decode_apart
  function_apart i c = get_or_map_from (apart t) no_function 0 (function_count t) i c ∙ ap (apart t) (zero-add i)

  all_apart : ListsRight t → decode t ≡ decode_apart t
  unfolding decode decode_apart
  all_apart h =
      map_from_same (λ i. decode_function t (function_at i)) (apart t) 0 (function_count t)
      (λ i c. rw (zero-add i) (right_apart t i (λ b d. h i b c d)))

  -- names do not go by the lists
  named : (p : Program) → length p ≡ function_count t → ((i : ℕ) → i < function_count t → (function_in p i).name ≡ function_name t (function_at i)) → (i : ℕ) → i ≤ function_count t
      → names_before p i ≡ map (λ j. function_name t (function_at j)) (below i)
  named p l h i c =
      sym (map_from_take (λ j. function_name t (function_at j)) (λ f. f.name) no_function 0 p i (omega arith) (λ j d. rw (zero-add j) (sym (h j (omega arith)))))

  same_names : (i : ℕ) → i ≤ function_count t → names_before (decode t) i ≡ names_before (decode_apart t) i
  unfolding decode_function
  same_names i c =
      named (decode t) (function_count_law t) (λ j d. ap (λ (f : Func). f.name) (function_is t j d)) i c
      ∙ sym (named (decode_apart t) count_apart (λ j d. ap (λ (f : Func). f.name) (function_apart j d)) i c)

  unsound : (i b : ℕ) → i < function_count t → b < block_count t (function_at i) → ¬ ListRight t i b → sound (names_before (decode t) i) (function_in (decode t) i) ≡ false
  unsound i b c d n =
      unplaced_unsound (names_before (decode t) i) (function_in (decode t) i) (ap (λ (f : Func). f.placed) (function_is t i c) ∙ differs_unplaced t i b d n)

pub differs_is_fault : DiffersIsFault
differs_is_fault t i b c d n = Fault.function i 9 0 (rw (function_count_law t) c) (Broken.head (unsound t i b c d n))

pub accepts_exactly_right_lists : AcceptsExactlyRightLists
accepts_exactly_right_lists t apart = (accepted_lists_right t, λ h. rw (all_apart t h) apart)

pub differs_is_9 : DiffersIs9
differs_is_9 t i apart h =
    let passes = accepted_each (decode_apart t) apart in
    let few : length (decode t) ≤ max_functions = omega (arith, passes.0, function_count_law t, count_apart t) in
    first_refused (decode t) i 9 i few (omega (arith, function_count_law t))
    (λ j l.
    let c : j < function_count t = omega arith in
    let own : function_in (decode t) j ≡ function_in (decode_apart t) j =
    function_is t j c ∙ right_apart t j (λ b d. h.before j b l d) ∙ sym (function_apart t j c) in
    rw (same_names t j (le_of_lt c), own) (passes.1 j (rw (count_apart t) c)))
    (unsound_judged (names_before (decode t) i) i (function_in (decode t) i) (unsound t i h.block h.function h.inside h.differs))
