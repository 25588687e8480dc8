-- The check function by function: its verdict is that of the first function that is refused.
-- Assumes nothing.
use mathlib.Core.Path.{◌≡◌, refl, sym, ap, ◌∙◌, subst}
use mathlib.Core.Bool.{Bool, true, false, cond, ◌||◌, or_comm, or-false}
use mathlib.Core.List.{List, [], ◌∷◌, map, map-append}
use Prim.Native.Nat.{ℕ, zero, suc, ◌≤◌, ◌<◌, zero-le}
use native.Mathlib.Omega.{arith}
use native.Mathlib.Decide.{ℕ_discrete, dec_lt}
use borrow.Author.Tests.{leb-true, leb-false}
use lib.Dec.{leb}
use lib.ListN.{length, take, drop, length-drop}
use lib.Seq.{take-suc}
use Rattle.laws.specs.Lists.{any, same}
use Rattle.laws.proofs.Indexing.{get_or_of_drop, drop_of_drop}
use Rattle.laws.proofs.Joining.{any_both}
use Rattle.language.specs.Programs.{Func, Program, no_function, max_functions, function_in}
use Rattle.language.specs.Checking.{Verdict, sound, judge, judge_from, check}
use Rattle.theorems.specs.Accepted.{names_before}

-- The verdict on function number i.
abbrev pub judged : Program → ℕ → Verdict
judged p i = judge (names_before p i) i (function_in p i)

-- A verdict, and what is said if it accepts.
abbrev after : Verdict → Verdict → Verdict
after v w = elim v [ Verdict.accepted ↦ w | Verdict.refused k r ↦ Verdict.refused k r ]

pub refused_not_accepted : {k r : ℕ} → Verdict.refused k r ≡ Verdict.accepted → ⊥
refused_not_accepted e = let z : ◌≡◌ {A = ℕ} 0 1 = cc in omega arith

-- The verdict on the functions from number i on.
data FromOn (p : Program) (i : ℕ) : Verdict → Type 0 where
  accepted : ((j : ℕ) → i ≤ j → j < length p → judged p j ≡ Verdict.accepted) → FromOn p i Verdict.accepted
  refused :
      (j k r : ℕ)
      → j < length p
      → ((m : ℕ) → i ≤ m → m < j → judged p m ≡ Verdict.accepted)
      → judged p j ≡ Verdict.refused k r
      → FromOn p i (Verdict.refused k r)

-- The verdict on the whole program.
pub data Checked (p : Program) : Verdict → Type 0 where
  many : max_functions < length p → Checked p (Verdict.refused 9 0)
  accepted : length p ≤ max_functions → ((j : ℕ) → j < length p → judged p j ≡ Verdict.accepted) → Checked p Verdict.accepted
  refused :
      (j k r : ℕ)
      → length p ≤ max_functions
      → j < length p
      → ((m : ℕ) → m < j → judged p m ≡ Verdict.accepted)
      → judged p j ≡ Verdict.refused k r
      → Checked p (Verdict.refused k r)

module _ (p : Program) where
  here_or_later :
      (i j : ℕ) → i ≤ j → judged p i ≡ Verdict.accepted → (suc i ≤ j → judged p j ≡ Verdict.accepted) → judged p j ≡ Verdict.accepted
  here_or_later i j l e h =
      elim (ℕ_discrete i j) [ yes q ↦ subst (λ x. judged p x ≡ Verdict.accepted) q e | no q ↦ h (omega arith) ]

  -- These are the names of the functions before number i, in whatever order.
  abbrev Named : ℕ → List (List ℕ) → Type 0
  Named i names = (t : List ℕ → Bool) → any t names ≡ any t (names_before p i)

  judge_named : (i : ℕ) (names : List (List ℕ)) → Named i names → judge names i (function_in p i) ≡ judged p i
  unfolding judge sound
  judge_named i names n = rw (n (same (function_in p i).name))

  named_next : (i : ℕ) (names : List (List ℕ)) → i < length p → Named i names → Named (suc i) ((function_in p i).name ∷ names)
  named_next i names h n t =
      let own = (function_in p i).name in
      ap (λ b. t own || b) (n t) ∙ or_comm (t own) (any t (names_before p i))
      ∙ ap (λ b. any t (names_before p i) || b) (sym (or-false (t own)))
      ∙ sym (any_both t (names_before p i) (own ∷ []))
      ∙ ap (any t) (sym (map-append (λ f. f.name) (take i p) (function_in p i ∷ [])))
      ∙ ap (λ fs. any t (map (λ f. f.name) fs)) (sym (take-suc p i no_function h))

  -- Function i, and those after it.
  here_on :
      (i : ℕ) (v w : Verdict) → i < length p → judged p i ≡ v → FromOn p (suc i) w → FromOn p i (after v w)
  here_on i Verdict.accepted w l e (FromOn.accepted h) = FromOn.accepted (λ j a b. here_or_later i j a e (λ m. h j m b))
  here_on i Verdict.accepted w l e (FromOn.refused j k r m before q) =
      FromOn.refused j k r m (λ j a b. here_or_later i j a e (λ m. before j m b)) q
  here_on i (Verdict.refused k r) w l e h = FromOn.refused i k r l (λ m a b. absurd (omega arith)) e

  from_on : (i : ℕ) (names : List (List ℕ)) (fs : List Func) → drop i p ≡ fs → Named i names → FromOn p i (judge_from names i fs)
  unfolding judge_from
  from_on i names [] e n = FromOn.accepted (λ j a b. absurd (omega (arith, length-drop i p, ap length e)))
  from_on i names (f ∷ fs) e n =
      let own : function_in p i ≡ f = get_or_of_drop p i no_function e in
      let inside : i < length p = omega (arith, length-drop i p, ap length e) in
      let named = subst (λ g. Named (suc i) (g.name ∷ names)) own (named_next i names inside n) in
      here_on i (judge names i f) (judge_from (f.name ∷ names) (suc i) fs) inside (sym (judge_named i names n) ∙ ap (judge names i) own)
      (from_on (suc i) (f.name ∷ names) fs (drop_of_drop p i e) named)

  pub checked : Checked p (check p)
  unfolding check
  checked = by (leb (length p) max_functions) refl
    where
      all : length p ≤ max_functions → (v : Verdict) → FromOn p zero v → Checked p v
      all h v (FromOn.accepted a) = Checked.accepted h (λ j l. a j zero-le l)
      all h v (FromOn.refused j k r l a e) = Checked.refused j k r h l (λ m b. a m zero-le b) e

      by : (b : Bool) → leb (length p) max_functions ≡ b → Checked p (cond b (judge_from [] zero p) (Verdict.refused 9 0))
      by true e = all (leb-true (length p) max_functions e) (judge_from [] zero p) (from_on zero [] p refl (λ t. refl))
      by false e = Checked.many (leb-false (length p) max_functions e)

  -- It accepts exactly if it accepts each.
  pub accepted_each : check p ≡ Verdict.accepted → (length p ≤ max_functions) × ((j : ℕ) → j < length p → judged p j ≡ Verdict.accepted)
  accepted_each = by (check p) checked
    where
      by : (v : Verdict) → Checked p v → v ≡ Verdict.accepted → (length p ≤ max_functions) × ((j : ℕ) → j < length p → judged p j ≡ Verdict.accepted)
      by v (Checked.many h) e = absurd (refused_not_accepted e)
      by v (Checked.accepted h a) e = (h, a)
      by v (Checked.refused j k r h l a q) e = absurd (refused_not_accepted e)

  pub each_accepted : length p ≤ max_functions → ((j : ℕ) → j < length p → judged p j ≡ Verdict.accepted) → check p ≡ Verdict.accepted
  each_accepted h a = by (check p) checked
    where
      by : (v : Verdict) → Checked p v → v ≡ Verdict.accepted
      by v (Checked.many m) = absurd (omega arith)
      by v (Checked.accepted m b) = refl
      by v (Checked.refused j k r m l b q) = absurd (refused_not_accepted (sym q ∙ a j l))

  -- It refuses as it does the first function that it refuses.
  pub first_refused :
      (i k r : ℕ)
      → length p ≤ max_functions
      → i < length p
      → ((j : ℕ) → j < i → judged p j ≡ Verdict.accepted)
      → judged p i ≡ Verdict.refused k r
      → check p ≡ Verdict.refused k r
  first_refused i k r h l a e = by (check p) checked
    where
      first : (j m n : ℕ) → ((x : ℕ) → x < j → judged p x ≡ Verdict.accepted) → judged p j ≡ Verdict.refused m n → i ≡ j
      first j m n b q =
          elim (dec_lt i j) [
            | yes x ↦ absurd (refused_not_accepted (sym e ∙ b i x))
            | no x ↦ elim (dec_lt j i) [ yes y ↦ absurd (refused_not_accepted (sym q ∙ a j y)) | no y ↦ omega arith ]
          ]

      by : (v : Verdict) → Checked p v → v ≡ Verdict.refused k r
      by v (Checked.many m) = absurd (omega arith)
      by v (Checked.accepted m b) = absurd (refused_not_accepted (sym e ∙ b i l))
      by v (Checked.refused j m n x y b q) = sym q ∙ ap (judged p) (sym (first j m n b q)) ∙ e
