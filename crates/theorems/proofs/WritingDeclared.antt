-- Names declared one after the other: each is found where it stands, and is new where it is declared. Assumes nothing.
use mathlib.Core.Bool.{Bool, true, not, ◌||◌}
use mathlib.Core.List.{List, [], ◌∷◌, ◌++◌, append_assoc}
use mathlib.Core.Logic.{◌⊎◌, inl, inr}
use mathlib.Core.Path.{◌≡◌, refl, sym, ◌∙◌, ap, subst}
use Prim.Native.Nat.{ℕ, zero, suc, ◌+◌, ◌<◌, suc-le-suc}
use native.Mathlib.Nat.{not-suc-le-zero, le_of_suc-le-suc, zero-lt-suc}
use native.Mathlib.Omega.{arith}
use lib.Dec.{T}
use lib.Ieee.Fits.{and_l, and_r, and_i}
use lib.ListN.{length, get_or, length-append, get_or-append}
use lib.Seq.{get_or-append_seam}
use mir.Facts.{or_yes}
use Rattle.laws.specs.Lists.{any, position, empty, same}
use Rattle.laws.proofs.Every.{every_of, none_every}
use Rattle.laws.proofs.Indexing.{any_at}
use Rattle.laws.proofs.Positions.{same_is, same_not}
use Rattle.laws.proofs.Searching.{either_right}
use Rattle.laws.proofs.Tests.{of_false}
use Rattle.language.specs.Checking.{distinct}
use Rattle.theorems.specs.RoundTrip.{AllApart}

module _ {A : Type 0} (name : A → List ℕ) where
  abbrev pub numbered : List A → List ℕ → ℕ
  numbered xs n = position (λ x. same (name x) n) xs

  -- No element has this name.
  abbrev pub New : List ℕ → List A → Type 0
  New n [] = Unit {0}
  New n (x ∷ xs) = (name x ≡ n → ⊥) × New n xs

  -- Each has a name that none before it has.
  abbrev pub Apart : List A → List A → Type 0
  Apart before [] = Unit {0}
  Apart before (x ∷ xs) = New (name x) before × Apart (before ++ (x ∷ [])) xs

  pub new_number : (n : List ℕ) (xs : List A) → New n xs → numbered xs n ≡ length xs
  new_number n [] h = refl
  new_number n (x ∷ xs) h = rw (same_not (name x) n h.0) (ap suc (new_number n xs h.1))

  -- the first element of this name
  pub own_number : (before : List A) (x : A) (xs : List A) → New (name x) before → numbered (before ++ (x ∷ xs)) (name x) ≡ length before
  own_number [] x xs h = rw (same_is (name x) (name x) refl)
  own_number (y ∷ ys) x xs h = rw (same_not (name y) (name x) h.0) (ap suc (own_number ys x xs h.1))

  -- where all names are apart, each is found at its place
  pub numbers :
      (before xs : List A) (d : A)
      → Apart before xs
      → (i : ℕ)
      → i < length xs
      → numbered (before ++ xs) (name (get_or xs i d)) ≡ length before + i
  numbers before [] d h i l = absurd (not-suc-le-zero l)
  numbers before (x ∷ xs) d h zero l = own_number before x xs h.0 ∙ omega arith
  numbers before (x ∷ xs) d h (suc i) l =
      let joined : before ++ (x ∷ []) ++ xs ≡ before ++ (x ∷ xs) = append_assoc before (x ∷ []) xs in
      let r : numbered (before ++ (x ∷ []) ++ xs) (name (get_or xs i d)) ≡ length (before ++ (x ∷ [])) + i =
      numbers (before ++ (x ∷ [])) xs d h.1 i (le_of_suc-le-suc l) in
      rw (← joined) (r ∙ simp length-append (omega arith))

  -- ---- names that are apart place by place

  new_at : (n : List ℕ) (xs : List A) (d : A) → ((i : ℕ) → i < length xs → name (get_or xs i d) ≡ n → ⊥) → New n xs
  new_at n [] d h = tt
  new_at n (x ∷ xs) d h = (h zero (zero-lt-suc (length xs)), new_at n xs d (λ i l. h (suc i) (suc-le-suc l)))

  apart_from :
      (before xs : List A) (d : A)
      → ((i j : ℕ) → i < j → j < length (before ++ xs) → name (get_or (before ++ xs) i d) ≡ name (get_or (before ++ xs) j d) → ⊥)
      → Apart before xs
  apart_from before [] d h = tt
  apart_from before (x ∷ xs) d h =
      let inside : length before < length (before ++ (x ∷ xs)) = simp length-append (omega arith) in (
        new_at (name x) before d
            (λ i l e.
            h i (length before) l inside
            (ap name (get_or-append before (x ∷ xs) d i l) ∙ e ∙ ap name (sym (get_or-append_seam before x xs d)))),
        apart_from (before ++ (x ∷ [])) xs d (rw append_assoc h),
      )

  pub apart_at : (xs : List A) (d : A) → ((i j : ℕ) → i < j → j < length xs → name (get_or xs i d) ≡ name (get_or xs j d) → ⊥) → Apart [] xs
  apart_at xs d h = apart_from [] xs d h

-- Names that the check finds distinct are so place by place, those of no bytes apart; and names that are so are distinct.
pub distinct_at :
    (ns : List (List ℕ)) → T (distinct ns) → (i j : ℕ) → i < j → j < length ns → get_or ns i [] ≡ get_or ns j [] → get_or ns i [] ≡ []
distinct_at [] h i j l m e = absurd (not-suc-le-zero m)
distinct_at (n ∷ ns) h i zero l m e = absurd (not-suc-le-zero l)
distinct_at (n ∷ ns) h zero (suc j) l m e =
    by n e (or_yes (empty n) (not (any (same n) ns)) (and_l (empty n || not (any (same n) ns)) (distinct ns) h))
  where
    by : (k : List ℕ) → k ≡ get_or ns j [] → T (empty k) ⊎ T (not (any (same k) ns)) → k ≡ []
    by [] e t = refl
    by (b ∷ k) e (inl t) = absurd t
    by (b ∷ k) e (inr t) =
        let there : any (same (b ∷ k)) ns ≡ true = any_at (same (b ∷ k)) ns j [] (le_of_suc-le-suc m) (same_is (b ∷ k) (get_or ns j []) e) in
        absurd (subst (λ (x : Bool). T (not x)) there t)
distinct_at (n ∷ ns) h (suc i) (suc j) l m e =
    distinct_at ns (and_r (empty n || not (any (same n) ns)) (distinct ns) h) i j (le_of_suc-le-suc l) (le_of_suc-le-suc m) e

pub at_distinct : (ns : List (List ℕ)) → AllApart ns → T (distinct ns)
at_distinct [] h = tt
at_distinct (n ∷ ns) h =
    and_i (empty n || not (any (same n) ns)) (distinct ns)
    (either_right (empty n) (not (any (same n) ns))
    (of_false (any (same n) ns)
    (none_every (same n) (every_of [] ns (λ i l. same_not n (get_or ns i []) (h zero (suc i) (zero-lt-suc i) (suc-le-suc l)))))))
    (at_distinct ns (λ i j l m. h (suc i) (suc j) (suc-le-suc l) (suc-le-suc m)))
