-- A search by halves: below `lo` the appliance numbers are smaller, from `hi` on they are not. Assumes nothing.
use mathlib.Core.Bool.{Bool, true, false, cond}
use mathlib.Core.List.{List}
use mathlib.Core.Path.{◌≡◌, refl, subst, subst⁻¹}
use Prim.Native.Nat.{ℕ, ◌+◌, ◌-◌, ◌/◌, ◌<◌, ◌≤◌}
use native.Mathlib.Decide.{dec_lt}
use native.Mathlib.Omega.{arith}
use lib.Dec.{ltb, leb}
use borrow.Author.Tests.{ltb-true, ltb-false, le-leb, lt-leb}
use Rattle.laws.proofs.Positions.{position_below}
use Rattle.records.specs.Stores.{record_at}
use Rattle.store.specs.Places.{Sorted, past_of, FirstPlace}

abbrev key_at : List ℕ → ℕ → ℕ
key_at s i = (record_at s i).appliance

pub record Between (s : List ℕ) (n a lo hi : ℕ) : Type 0 where
  pub order : lo ≤ hi
  pub within : hi ≤ n
  pub smaller : Sorted s n → (i : ℕ) → i < lo → (record_at s i).appliance < a
  pub others : Sorted s n → (i : ℕ) → hi ≤ i → i < n → a ≤ (record_at s i).appliance

pub all_of_them : (s : List ℕ) (n a : ℕ) → Between s n a 0 (0 + n)
all_of_them s n a =
    record { order = omega arith; within = omega arith; smaller = λ r i l. absurd (omega arith); others = λ r i l h. absurd (omega arith) }

-- numbers that rise keep the order of their places
sorted_le : (s : List ℕ) (n : ℕ) → Sorted s n → (i j : ℕ) → i ≤ j → j < n → key_at s i ≤ key_at s j
sorted_le s n r i j h m =
    elim (dec_lt i j) [
      | yes g ↦ (let x = r i j g m in omega arith)
      | no g ↦ (let d : i ≡ j = omega arith in subst (λ (x : ℕ). key_at s i ≤ key_at s x) d (omega arith))
    ]

pub halved : (s : List ℕ) (n a lo left : ℕ) → Between s n a lo (lo + left) → 0 < left → (r : ℕ) → r ≡ past_of s lo (lo + (left - 1) / 2) a
    → Between s n a r (r + left / 2)
unfolding past_of
halved s n a lo left k l r e = subst⁻¹ (λ (x : ℕ). Between s n a x (x + left / 2)) e (by (ltb (key_at s m) a) refl)
  where
    m : ℕ
    m = lo + (left - 1) / 2

    by : (b : Bool) → ltb (key_at s m) a ≡ b → Between s n a (cond b (m + 1) lo) (cond b (m + 1) lo + left / 2)
    by true i =
        let h = ltb-true (key_at s m) a i in
        record {
          order = omega arith;
          within = omega (arith, k.within);
          smaller = λ r i g. let x = sorted_le s n r i m (omega arith) (omega (arith, k.within)) in omega arith;
          others = λ r i g. k.others r i (omega arith);
        }
    by false i =
        let h = ltb-false (key_at s m) a i in
        record {
          order = omega arith;
          within = omega (arith, k.within);
          smaller = k.smaller;
          others = λ r i g c. let x = sorted_le s n r m i (omega arith) c in omega arith;
        }

pub halves_meet : (s : List ℕ) (n a lo left : ℕ) → Between s n a lo (lo + left) → left ≤ 0 → FirstPlace s n a lo
halves_meet s n a lo left k l =
    record {
      within = omega (arith, k.within, k.order);
      first =
          λ r.
          position_below (λ i. leb a (key_at s i)) n lo (omega (arith, k.within, k.order)) (λ i h. lt-leb a (key_at s i) (k.smaller r i h))
          (λ h. le-leb a (key_at s lo) (k.others r lo (omega arith) h));
    }
