-- Tests that agree, on all elements or on those of a list, and what they find.
-- Assumes nothing.
use mathlib.Core.Path.{◌≡◌, refl, sym, ap, ap₂, ◌∙◌, subst}
use mathlib.Core.Logic.{◌⊎◌, inl, inr}
use mathlib.Core.Bool.{Bool, true, false, cond, ◌&&◌, ◌||◌}
use mathlib.Core.List.{List, [], ◌∷◌}
use Prim.Native.Nat.{ℕ, zero, suc, ◌+◌, ◌≤◌, ◌<◌, suc-le-suc}
use native.Mathlib.Nat.{zero-lt-suc, add-zero, add-suc, suc-add}
use native.Mathlib.Omega.{arith}
use lib.Dec.{T, eqb, eqb→eq}
use lib.Ieee.Fits.{and_l, and_r}
use mir.Facts.{or_yes}
use lib.ListN.{length, get_or}
use Rattle.laws.specs.Lists.{any, all, keep, gather, together, from, below, position, member}
use Rattle.laws.proofs.Every.{Every, none, more, every_at, every_member, every_below, none_every}
use Rattle.laws.proofs.Indexing.{any_at, length_below, get_or_below}
use Rattle.laws.proofs.Joining.{any_both}
use Rattle.laws.proofs.Positions.{position_below, position_of}

module _ {A : Type 0} where
  pub any_every : {p q : A → Bool} {xs : List A} → Every (λ x. p x ≡ q x) xs → any p xs ≡ any q xs
  any_every none = refl
  any_every (more e h) = ap₂ (λ a b. a || b) e (any_every h)

  pub all_agree : {p q : A → Bool} {xs : List A} → Every (λ x. p x ≡ q x) xs → all p xs ≡ all q xs
  all_agree none = refl
  all_agree (more e h) = ap₂ (λ a b. a && b) e (all_agree h)

  pub keep_every : {p q : A → Bool} {xs : List A} → Every (λ x. p x ≡ q x) xs → keep p xs ≡ keep q xs
  keep_every none = refl
  keep_every (more {x = x} e h) = ap₂ (λ c l. cond c (x ∷ l) l) e (keep_every h)

  pub all_same : (p q : A → Bool) → ((x : A) → p x ≡ q x) → (xs : List A) → all p xs ≡ all q xs
  all_same p q h [] = refl
  all_same p q h (x ∷ xs) = ap₂ (λ a b. a && b) (h x) (all_same p q h xs)

  pub any_gather : {B : Type 0} (p : A → Bool) (g : B → List A) (xs : List B) → any p (gather g xs) ≡ any (λ x. any p (g x)) xs
  any_gather p g [] = refl
  any_gather p g (x ∷ xs) = any_both p (g x) (gather g xs) ∙ ap (λ b. any p (g x) || b) (any_gather p g xs)

  -- the first element that passes, by its place
  pub position_is :
      (p : A → Bool) (d : A) (xs : List A) (i : ℕ) → i ≤ length xs → ((k : ℕ) → k < i → p (get_or xs k d) ≡ false)
      → (i < length xs → p (get_or xs i d) ≡ true) → i ≡ position p xs
  position_is p d xs i l before hit =
      position_below (λ k. p (get_or xs k d)) (length xs) i l before hit ∙ position_of p (λ k. p (get_or xs k d)) d xs (λ k h. refl)

-- no pairs with the elements of an empty list
pub together_none : {A B : Type 0} (H : A → B → Bool) (xs : List A) → any (λ b. b) (together H xs []) ≡ false
together_none H [] = refl
together_none H (x ∷ xs) = refl

-- pairs by their places
pub any_together :
    (H : ℕ → ℕ → Bool) (q : ℕ → Bool) (k : ℕ) (xs ys : List ℕ) → length xs ≡ length ys
    → ((i : ℕ) → i < length ys → q (k + i) ≡ H (get_or xs i 0) (get_or ys i 0))
    → any q (from k (length ys)) ≡ any (λ b. b) (together H xs ys)
any_together H q k [] [] e h = refl
any_together H q k [] (y ∷ ys) e h = absurd (omega arith)
any_together H q k (x ∷ xs) [] e h = absurd (omega arith)
any_together H q k (x ∷ xs) (y ∷ ys) e h =
    ap₂ (λ a b. a || b) (ap q (sym (add-zero k)) ∙ h zero (zero-lt-suc (length ys)))
    (any_together H q (suc k) xs ys (omega arith) (λ i l. ap q (suc-add k i ∙ sym (add-suc k i)) ∙ h (suc i) (suc-le-suc l)))

-- ---- members

pub all_member : (p : ℕ → Bool) (x : ℕ) (xs : List ℕ) → T (all p xs) → T (member x xs) → T (p x)
all_member p x [] t m = absurd m
all_member p x (y ∷ ys) t m = by (or_yes (eqb y x) (member x ys) m) (all_member p x ys (and_r (p y) (all p ys) t))
  where
    by : T (eqb y x) ⊎ T (member x ys) → (T (member x ys) → T (p x)) → T (p x)
    by (inl e) later = subst (λ z. T (p z)) (eqb→eq y x e) (and_l (p y) (all p ys) t)
    by (inr e) later = later e

pub member_at : (xs : List ℕ) (k d : ℕ) → k < length xs → T (member (get_or xs k d) xs)
member_at xs k d h = subst T (sym (every_at (every_member xs) d k h)) tt

-- ---- a number below n passes, or none does

pub some_passes : (test : ℕ → Bool) (n k : ℕ) → k < n → test k ≡ true → any test (below n) ≡ true
some_passes test n k h e = any_at test (below n) k 0 (rw length_below h) (ap test (get_or_below n k 0 h) ∙ e)

pub none_passes : (test : ℕ → Bool) (n : ℕ) → ((k : ℕ) → k < n → test k ≡ false) → any test (below n) ≡ false
none_passes test n h = none_every test (every_below n h)
