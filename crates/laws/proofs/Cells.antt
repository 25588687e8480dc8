-- Laws of `sets`, a run of cells stored from a place on: in parts, what is read back, and what is left as it was.
-- Assumes nothing.
use mathlib.Core.Path.{◌≡◌, refl, sym, ap, ◌∙◌}
use mathlib.Core.List.{List, [], ◌∷◌, ◌++◌, append_assoc, append-nil}
use Prim.Native.Nat.{ℕ, zero, suc, ◌+◌, ◌≤◌, ◌<◌}
use native.Mathlib.Nat.{add-zero, add-suc, suc-add, zero-add}
use native.Mathlib.Omega.{arith}
use lib.ListN.{length, get_or, set, take, drop, take-append-drop, drop_of_length-le}
use lib.Seq.{sets, sets-eq, paste, take-length, take-nil, get_or-take, take-set-le, drop_at, length-take-le, take-append_seam}
use Rattle.laws.specs.Sections.{At}

module _ {A : Type 0} where
  -- two runs, the second where the first ends, are one
  pub sets_append : (xs ys l : List A) (i : ℕ) {k : ℕ} → k ≡ i + length xs → sets (sets l i xs) k ys ≡ sets l i (xs ++ ys)
  sets_append [] ys l i e = ap (λ (n : ℕ). sets l n ys) (e ∙ add-zero i)
  sets_append (x ∷ xs) ys l i e = sets_append xs ys (set l i x) (suc i) (e ∙ add-suc i (length xs) ∙ sym (suc-add i (length xs)))

  -- the same from what two stores in turn say
  pub sets_then : (l xs ys : List A) (i : ℕ) {k : ℕ} {m r : List A} → k ≡ i + length xs → m ≡ sets l i xs → r ≡ sets m k ys → r ≡ sets l i (xs ++ ys)
  sets_then l xs ys i {k} e p q = q ∙ ap (λ (u : List A). sets u k ys) p ∙ sets_append xs ys l i e

  -- a copy of all of s is a run
  pub paste_all : (l s : List A) (i : ℕ) → i + length s ≤ length l → paste l i s (length s) ≡ sets l i s
  paste_all l s i h = rw take-length (sym (sets-eq s l i h))

  -- a run over every cell is all that is left
  pub sets_all : (l xs : List A) → length xs ≡ length l → sets l 0 xs ≡ xs
  sets_all l xs e =
      sets-eq xs l 0 (omega arith)
      ∙ ap (λ (r : List A). xs ++ r) (drop_of_length-le l {i = 0 + length xs} (omega arith))
      ∙ append-nil xs

  -- the cells before the run, and those behind it, are as they were
  pub take_sets : (n : ℕ) (xs l : List A) (i : ℕ) → n ≤ i → take n (sets l i xs) ≡ take n l
  take_sets n [] l i h = refl
  take_sets n (x ∷ xs) l i h = take_sets n xs (set l i x) (suc i) (omega arith) ∙ take-set-le n l i x h

  pub get_d_sets_before : (d : A) (xs l : List A) (i k : ℕ) → k < i → get_or (sets l i xs) k d ≡ get_or l k d
  get_d_sets_before d xs l i k h =
      sym (get_or-take (suc k) (sets l i xs) k d (omega arith))
      ∙ ap (λ (r : List A). get_or r k d) (take_sets (suc k) xs l i h)
      ∙ get_or-take (suc k) l k d (omega arith)

  -- a part, cut from either end
  pub drop_take : (k n : ℕ) (l : List A) → drop k (take (k + n) l) ≡ take n (drop k l)
  drop_take zero n l = ap (λ (m : ℕ). take m l) (zero-add n)
  drop_take (suc k) n [] = ap (λ (r : List A). drop (suc k) r) (take-nil (suc k + n)) ∙ sym (take-nil n)
  drop_take (suc k) n (x ∷ xs) = ap (λ (m : ℕ). drop (suc k) (take m (x ∷ xs))) (suc-add k n) ∙ drop_take k n xs

  -- a part before the run is as it was
  pub part_sets_before : (k n : ℕ) (xs l : List A) (i : ℕ) → k + n ≤ i → take n (drop k (sets l i xs)) ≡ take n (drop k l)
  part_sets_before k n xs l i h =
      sym (drop_take k n (sets l i xs)) ∙ ap (λ (r : List A). drop k r) (take_sets (k + n) xs l i h) ∙ drop_take k n l

  -- the run is read back where it was stored
  pub at_sets : (xs l : List A) (i : ℕ) → i + length xs ≤ length l → At (sets l i xs) i xs
  at_sets xs l i h =
      record {
        rest = drop (i + length xs) l;
        holds =
            ap (λ (r : List A). drop i r) (sets-eq xs l i h ∙ append_assoc (take i l) xs (drop (i + length xs) l))
            ∙ drop_at (take i l) (xs ++ drop (i + length xs) l) i (length-take-le i l (omega arith));
      }

  -- what stands before the run stands there still
  pub at_sets_before : {k : ℕ} (ys xs l : List A) (i : ℕ) → k + length ys ≤ i → At l k ys → At (sets l i xs) k ys
  at_sets_before {k} ys xs l i h p =
      let rest : List A = drop (length ys) (drop k (sets l i xs)) in
      record {
        rest = rest;
        holds =
            sym (take-append-drop (length ys) (drop k (sets l i xs)))
            ∙ ap (λ (r : List A). r ++ rest)
            (part_sets_before k (length ys) xs l i h ∙ ap (λ (r : List A). take (length ys) r) p.holds ∙ take-append_seam ys p.rest);
      }
