-- `distinct` of a list that grows at its end: the new name against those before it. Assumes nothing.
use mathlib.Core.Bool.{Bool, true, false, not, ◌&&◌, ◌||◌, and-true, and-false, and_assoc, or-true, or-false}
use mathlib.Core.List.{List, [], ◌∷◌, ◌++◌}
use mathlib.Core.Path.{◌≡◌, refl, sym, ap, ◌∙◌, subst}
use Prim.Native.Nat.{ℕ}
use lib.Dec.{T}
use lib.Ieee.Fits.{and_i, and_l, and_r}
use Rattle.laws.specs.Lists.{any, empty, same}
use Rattle.laws.proofs.Joining.{any_both}
use Rattle.laws.proofs.Positions.{same_eq, same_sym}
use Rattle.laws.proofs.Tests.{of_true}
use Rattle.language.specs.Checking.{distinct}

-- the name n has no bytes or is none of these
abbrev pub unlike : List ℕ → List (List ℕ) → Bool
unlike n ns = empty n || not (any (same n) ns)

-- m, then names ms, then n: m against those behind it, and n against those before it
apart : (a b d e c s : Bool) → (s ≡ true → a ≡ e)
    → ((a || not (b || (s || false))) && (d && (e || not c))) ≡ ((a || not b) && d && (e || not (s || c)))
apart a b d e c false h = rw (or-false b) (sym (and_assoc (a || not b) d (e || not c)))
apart true b d e c true h = rw (← h refl)
apart false b d e c true h = rw (or-true b, ← h refl) (sym (and-false (not b && d)))

pub distinct_more : (ns : List (List ℕ)) (n : List ℕ) → distinct (ns ++ (n ∷ [])) ≡ (distinct ns && unlike n ns)
distinct_more [] n = and-true (empty n || true)
distinct_more (m ∷ ms) n =
    ap (λ (b : Bool). (empty m || not b) && distinct (ms ++ (n ∷ []))) (any_both (same m) ms (n ∷ []))
    ∙ ap (λ (b : Bool). (empty m || not (any (same m) ms || (same m n || false))) && b) (distinct_more ms n)
    ∙ apart (empty m) (any (same m) ms) (distinct ms) (empty n) (any (same n) ms) (same m n) (λ e. ap empty (same_eq m n (of_true (same m n) e)))
    ∙ ap (λ (b : Bool). (empty m || not (any (same m) ms)) && distinct ms && (empty n || not (b || any (same n) ms))) (same_sym m n)

-- names that are distinct were so before the last of them came
fewer : (e a b : Bool) → T (e || not (a || b)) → T (e || not a)
fewer true a b t = tt
fewer false true b t = t
fewer false false b t = tt

distinct_front : (xs ys : List (List ℕ)) → T (distinct (xs ++ ys)) → T (distinct xs)
distinct_front [] ys t = tt
distinct_front (x ∷ xs) ys t =
    let here = and_l (unlike x (xs ++ ys)) (distinct (xs ++ ys)) t in
    and_i (unlike x xs) (distinct xs) (fewer (empty x) (any (same x) xs) (any (same x) ys) (rw (any_both (same x) xs ys) at here))
    (distinct_front xs ys (and_r (unlike x (xs ++ ys)) (distinct (xs ++ ys)) t))

pub distinct_not : (xs ys : List (List ℕ)) → distinct xs ≡ false → distinct (xs ++ ys) ≡ false
distinct_not xs ys e = by (distinct (xs ++ ys)) refl
  where
    by : (b : Bool) → distinct (xs ++ ys) ≡ b → b ≡ false
    by true p = absurd (subst (λ (b : Bool). T b) e (distinct_front xs ys (of_true _ p)))
    by false p = refl
