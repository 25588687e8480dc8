-- A line's parts from its tabs, and its numbers one after the other. Assumes nothing.
use mathlib.Core.Path.{◌≡◌, refl, sym, ap, ◌∙◌}
use mathlib.Core.Bool.{Bool, true, false, cond}
use mathlib.Core.List.{List, [], ◌∷◌}
use Prim.Native.Nat.{ℕ, zero, suc, ◌+◌, ◌-◌, ◌≤◌, ◌<◌}
use native.Mathlib.Nat.{not-suc-le-zero, le_of_suc-le-suc}
use native.Mathlib.Numerals.{add-one}
use native.Mathlib.Omega.{arith}
use lib.Dec.{eqb}
use lib.ListN.{length, take, drop, length-drop}
use lib.Seq.{take_all}
use Rattle.laws.specs.Lists.{position}
use Rattle.language.specs.Listing.{tab}
use Rattle.language.specs.Instructions.{uint64}
use Rattle.std.specs.Prelude.{Option, Some, None, IfSome, is_some}
use Rattle.std.specs.Option.{unwrap_or}
use Rattle.merge_lines.specs.declared.told.Line.{Line}
use Rattle.merge_lines.specs.Lines.{line_words, longer, number_in, if_fits, line_with, with_reading, number_then}

-- ---- parts

abbrev is_tab : ℕ → Bool
is_tab b = eqb b tab

-- up to the first tab, and the parts after it
pub parts_cut : (l : List ℕ) → position is_tab l < length l → line_words l ≡ take (position is_tab l) l ∷ line_words (drop (suc (position is_tab l)) l)
parts_cut [] h = absurd (not-suc-le-zero h)
parts_cut (b ∷ bs) h = by (eqb b tab) h (parts_cut bs)
  where
    by :
        (c : Bool) → cond c zero (suc (position is_tab bs)) < suc (length bs)
        → (position is_tab bs < length bs → line_words bs ≡ take (position is_tab bs) bs ∷ line_words (drop (suc (position is_tab bs)) bs))
        → cond c ([] ∷ line_words bs) (longer b (line_words bs))
        ≡ take (cond c zero (suc (position is_tab bs))) (b ∷ bs) ∷ line_words (drop (suc (cond c zero (suc (position is_tab bs)))) (b ∷ bs))
    by true l ih = refl
    by false l ih = ap (longer b) (ih (le_of_suc-le-suc l))

-- without a tab the line is one part
pub parts_whole : (l : List ℕ) → length l ≤ position is_tab l → line_words l ≡ l ∷ []
parts_whole [] h = refl
parts_whole (b ∷ bs) h = by (eqb b tab) h (parts_whole bs)
  where
    by :
        (c : Bool) → suc (length bs) ≤ cond c zero (suc (position is_tab bs)) → (length bs ≤ position is_tab bs → line_words bs ≡ bs ∷ [])
        → cond c ([] ∷ line_words bs) (longer b (line_words bs)) ≡ (b ∷ bs) ∷ []
    by true l ih = absurd (not-suc-le-zero l)
    by false l ih = ap (longer b) (ih (le_of_suc-le-suc l))

-- where the first tab is, by what the search for it gave
pub tab_found : (r : Option ℕ) {n p : ℕ} → unwrap_or r n ≡ p → IfSome r (λ i. i < n) → true ≡ is_some r → p < n
tab_found None e w h = absurd (cc)
tab_found (Some i) e w h = omega arith

pub tab_missing : (r : Option ℕ) {n p : ℕ} → unwrap_or r n ≡ p → false ≡ is_some r → n ≤ p
tab_missing None e h = omega arith
tab_missing (Some i) e h = absurd (cc)

-- ---- numbers

never : (x : Option ℕ) (next : ℕ → Option Line) → ((n : ℕ) → next n ≡ None) → None ≡ if_fits x next
never (Some n) next h = sym (h n)
never None next h = refl

module _ (next : ℕ → List (List ℕ) → Option Line) (l : List ℕ) {t : ℕ} (is : t ≡ position is_tab l) where
  -- nothing follows the number
  pub ends : ((n : ℕ) → next n [] ≡ None) → t ≡ length l → None ≡ number_then next (line_words l)
  ends h e = rw (parts_whole l (omega arith)) (never (number_in uint64 l) (λ n. next n []) h)

  cut : t < length l → line_words l ≡ take t l ∷ line_words (drop (t + 1) l)
  cut h = rw (is, add-one) (parts_cut l (omega arith))

  pub outside : t < length l → {x : Option ℕ} → x ≡ number_in uint64 (take t l) → x ≡ None → None ≡ number_then next (line_words l)
  outside h e f = rw (cut h, sym e, f)

  pub goes_on :
      t < length l → {x : Option ℕ} {n : ℕ} {r : Option Line} → x ≡ number_in uint64 (take t l) → x ≡ Some n
      → r ≡ next n (line_words (take (length l - (t + 1)) (drop (t + 1) l))) → r ≡ number_then next (line_words l)
  goes_on h {n = n} e f g =
      let all : take (length l - (t + 1)) (drop (t + 1) l) ≡ drop (t + 1) l = take_all (length l - (t + 1)) (drop (t + 1) l) (omega (arith, length-drop (t + 1) l)) in
      rw (cut h, sym e, f) (g ∙ ap (λ (k : List ℕ). next n (line_words k)) all)

-- a line has at least one part
parts_some : (l : List ℕ) → line_words l ≡ [] → ⊥
parts_some [] e = let z : ◌≡◌ {A = ℕ} 0 1 = cc in omega arith
parts_some (b ∷ bs) e = by (eqb b tab) (line_words bs) e
  where
    by : (c : Bool) (ws : List (List ℕ)) → cond c ([] ∷ ws) (longer b ws) ≡ [] → ⊥
    by true ws e = let z : ◌≡◌ {A = ℕ} 0 1 = cc in omega arith
    by false [] e = let z : ◌≡◌ {A = ℕ} 0 1 = cc in omega arith
    by false (w ∷ ws) e = let z : ◌≡◌ {A = ℕ} 0 1 = cc in omega arith

two_parts : (a b c : ℕ) (w : List ℕ) (ws : List (List ℕ)) → (ws ≡ [] → ⊥) → None ≡ with_reading a b c (w ∷ ws)
two_parts a b c w [] h = absurd (h refl)
two_parts a b c w (v ∷ ws) h = refl

-- the reading: no tab may follow, and it fits
module _ (a b c : ℕ) (l : List ℕ) {t : ℕ} (is : t ≡ position is_tab l) where
  pub too_many : t < length l → None ≡ with_reading a b c (line_words l)
  too_many h = rw (parts_cut l (omega arith)) (two_parts a b c (take (position is_tab l) l) (line_words (drop (suc (position is_tab l)) l)) (parts_some (drop (suc (position is_tab l)) l)))

  pub reads_outside : length l ≤ t → number_in 3 l ≡ None → None ≡ with_reading a b c (line_words l)
  reads_outside h e = rw (parts_whole l (omega arith), e)

  pub reads : {n : ℕ} → length l ≤ t → number_in 3 l ≡ Some n → line_with a b c n ≡ with_reading a b c (line_words l)
  reads h e = rw (parts_whole l (omega arith), e)
