-- Arguments that lie in their parameters' ranges, and the numbers that the registers hold of them. Assumes nothing.
use mathlib.Core.Path.{◌≡◌, refl, sym, ap, ◌∙◌}
use mathlib.Core.Bool.{false}
use mathlib.Core.List.{List, [], ◌∷◌, map}
use Prim.Native.Nat.{ℕ, ◌+◌, ◌≤◌, ◌<◌}
use native.Mathlib.Nat.{not-suc-le-zero, zero-add}
use native.Mathlib.Decide.{ℕ_discrete}
use native.Mathlib.Omega.{arith}
use lib.ListN.{length, get_or, set, take, length-map}
use lib.Seq.{ext_get_or, get_or-take, length-take-le}
use Rattle.laws.specs.Lists.{below}
use Rattle.laws.proofs.Positions.{position_below}
use Rattle.laws.proofs.Ranges.{get_or_map_from}
use Rattle.laws.proofs.Indexing.{length_below, get_or_inside}
use Rattle.laws.proofs.OneMore.{fill_more}
use Rattle.language.specs.Programs.{Func}
use Rattle.language.specs.Table.{register_count, register_type, decode_function}
use Rattle.language.proofs.TableView.{type_is}
use Rattle.std.specs.Prelude.{Option, Some, None}
use Rattle.language.specs.Reading.{number_in_range, bits_of}
use Rattle.language.proofs.Computing.{computing}
use Rattle.language.proofs.ReadingFacts.{turn}
use Rattle.decimal.specs.Meanings.{bits_in, bits_from}
use Rattle.call_words.specs.Arguments.{Given, given_of, unkept, is_outside, bits_held, argument_bits, first_outside, arguments_of}

-- ---- one argument

-- Argument k of a function of a table, once its parameter's type is read.
pub argument_is :
    (t : List ℕ) (a : ℕ) (g : Given) (k : ℕ) {kind : ℕ} {r x : Option ℕ}
    → k < register_count t a
    → kind ≡ register_type t a k
    → r ≡ bits_from kind (get_or g.numbers k unkept)
    → r ≡ x
    → argument_bits (decode_function t a) g k ≡ x
argument_is t a g k l e h s = rw (type_is t a k l, ← e, ← h) s

-- The same of one that is kept.
pub kept_is :
    (t : List ℕ) (a : ℕ) (g : Given) (k : ℕ) {kind : ℕ} {r x : Option ℕ}
    → k < register_count t a
    → k < length g.numbers
    → kind ≡ register_type t a k
    → r ≡ bits_from kind (get_or g.numbers k None)
    → r ≡ x
    → argument_bits (decode_function t a) g k ≡ x
kept_is t a g k {kind} l m e h s =
    argument_is t a g k l e (h ∙ ap (bits_from kind) (sym (get_or_inside g.numbers k unkept None m))) s

-- ---- all of them

-- The first i arguments lie in their ranges, and the first i cells hold their bits.
pub record Upheld (f : Func) (g : Given) (out : List ℕ) (i : ℕ) : Type 0 where
  pub inside : (j : ℕ) → j < i → is_outside (argument_bits f g j) ≡ false
  pub held : (j : ℕ) → j < i → get_or out j 0 ≡ bits_held (argument_bits f g j)

module _ (f : Func) (g : Given) where
  pub upheld_none : (out : List ℕ) → Upheld f g out 0
  upheld_none out = record { inside = λ j l. absurd (not-suc-le-zero l); held = λ j l. absurd (not-suc-le-zero l) }

  pub upheld_more : (out : List ℕ) (i x : ℕ) → i < length out → argument_bits f g i ≡ Some x → Upheld f g out i → Upheld f g (set out i x) (i + 1)
  upheld_more out i x l e h =
      record {
        inside = inside;
        held = fill_more (λ j. bits_held (argument_bits f g j)) out i x l (sym (ap bits_held e)) h.held;
      }
    where
      inside : (j : ℕ) → j < i + 1 → is_outside (argument_bits f g j) ≡ false
      inside j m =
          elim (ℕ_discrete j i) [
            | yes d ↦ ap (λ k. is_outside (argument_bits f g k)) d ∙ ap is_outside e
            | no d ↦ h.inside j (omega arith)
          ]

  pub outside_found : (out : List ℕ) (i : ℕ) → i < g.count → argument_bits f g i ≡ None → Upheld f g out i → i ≡ first_outside f g
  unfolding first_outside
  outside_found out i l e h = position_below (λ k. is_outside (argument_bits f g k)) g.count i (omega arith) h.inside (λ m. ap is_outside e)

  pub outside_none : (out : List ℕ) (i : ℕ) → i ≡ g.count → Upheld f g out i → i ≡ first_outside f g
  unfolding first_outside
  outside_none out i l h = position_below (λ k. is_outside (argument_bits f g k)) g.count i (omega arith) h.inside (λ m. absurd (omega arith))

  pub all_held : (out : List ℕ) (i : ℕ) → i ≡ g.count → i ≤ length out → Upheld f g out i → take g.count out ≡ arguments_of f g
  unfolding arguments_of
  all_held out i e l h =
      let h' : Upheld f g out g.count = rw e at h in
      let room : g.count ≤ length out = omega arith in
      let short : length (take g.count out) ≡ g.count = length-take-le g.count out room in
      ext_get_or 0 (take g.count out) (map (λ k. bits_held (argument_bits f g k)) (below g.count)) (short ∙ sym (length-map (below g.count) (λ k. bits_held (argument_bits f g k)) ∙ length_below g.count))
      (λ j b.
      let c : j < g.count = rw short at b in
      get_or-take g.count out j 0 c ∙ h'.held j c ∙ sym (get_or_map_from (λ k. bits_held (argument_bits f g k)) 0 0 g.count j c ∙ ap (λ k. bits_held (argument_bits f g k)) (zero-add j)))

-- ---- an example, which a must-fail edit runs into

-- An argument of which nothing is kept lies inside.
unkept_inside : first_outside turn (given_of 3 []) ≡ 3
unfolding computing first_outside bits_in number_in_range bits_of turn
unkept_inside = refl

-- It counts as 0.
unkept_zero : arguments_of turn (given_of 3 []) ≡ 0 ∷ 0 ∷ 0 ∷ []
unfolding computing arguments_of bits_in number_in_range bits_of turn
unkept_zero = refl
