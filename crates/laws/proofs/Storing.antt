-- Stores into sections: a run of cells stored at a place of a longer list, and what a section of one more element is.
-- Assumes nothing.
use mathlib.Core.Path.{◌≡◌, refl, sym, ap, ◌∙◌}
use mathlib.Core.List.{List, [], ◌∷◌, ◌++◌, append_assoc}
use Prim.Native.Nat.{ℕ, zero, suc, ◌+◌, ◌-◌, ◌*◌, ◌≤◌, ◌<◌, suc-le-suc}
use native.Mathlib.Nat.{add-zero, add-suc, not-suc-le-zero, zero-lt-suc, le_of_suc-le-suc}
use native.Mathlib.Omega.{arith}
use lib.ListN.{length, get_or, set, replicate, length-append, length-replicate, length-set, replicate-append-replicate}
use lib.Seq.{sets, length-sets, set-append_left}
use Rattle.laws.specs.Lists.{gather}
use Rattle.laws.specs.Sections.{pad, At, gather_from}
use Rattle.laws.proofs.Indexing.{set_append_add}
use Rattle.laws.proofs.Sections.{at_stride, gather_is_from, length_gather_from}

-- with vs stored from place k on, t becomes t'
pub record Stored {A : Type 0} (t : List A) (k : ℕ) (vs t' : List A) : Type 0 where
  pub cells : t' ≡ sets t k vs

-- ---- a run of stores in one part of a list

module _ {A : Type 0} where
  pub sets_left : (vs xs ys : List A) (k : ℕ) → k + length vs ≤ length xs → sets (xs ++ ys) k vs ≡ sets xs k vs ++ ys
  sets_left [] xs ys k h = refl
  sets_left (a ∷ vs) xs ys k h =
      ap (λ (l : List A). sets l (suc k) vs) (set-append_left xs ys k a (omega arith))
      ∙ sets_left vs (set xs k a) ys (suc k) (simp length-set (omega arith))

  pub sets_right : (vs xs ys : List A) (k : ℕ) → sets (xs ++ ys) (length xs + k) vs ≡ xs ++ sets ys k vs
  sets_right [] xs ys k = refl
  sets_right (a ∷ vs) xs ys k =
      ap (λ (l : List A). sets l (suc (length xs + k)) vs) (set_append_add xs ys k a)
      ∙ ap (λ (m : ℕ). sets (xs ++ set ys k a) m vs) (sym (add-suc (length xs) k))
      ∙ sets_right vs xs (set ys k a) (suc k)

  -- as many cells as were there before
  pub sets_over : (vs old ys : List A) → length old ≡ length vs → sets (old ++ ys) 0 vs ≡ vs ++ ys
  sets_over [] [] ys e = refl
  sets_over [] (x ∷ old) ys e = absurd (omega arith)
  sets_over (a ∷ vs) [] ys e = absurd (omega arith)
  sets_over (a ∷ vs) (x ∷ old) ys e =
      sets_right vs (a ∷ []) (old ++ ys) 0 ∙ ap (λ (r : List A). a ∷ r) (sets_over vs old ys (omega arith))

  pub sets_middle : (vs xs old ys : List A) → length old ≡ length vs → {k : ℕ} → k ≡ length xs → sets (xs ++ (old ++ ys)) k vs ≡ xs ++ (vs ++ ys)
  sets_middle vs xs old ys e p =
      rw (p, ← add-zero (length xs)) (sets_right vs xs (old ++ ys) 0 ∙ ap (λ (r : List A). xs ++ r) (sets_over vs old ys e))

-- ---- zeros at the end of a section

abbrev zeros : ℕ → List ℕ
zeros k = replicate k 0

pub pad_is : (n : ℕ) (xs : List ℕ) (k : ℕ) → length xs + k ≡ n → pad n xs ≡ xs ++ replicate k 0
unfolding pad
pad_is n xs k e = let r : n - length xs ≡ k = omega arith in rw r

-- a section does not show how many of its zeros were put down
pub pad_zeros : (n : ℕ) (xs : List ℕ) (k : ℕ) → length xs + k ≤ n → pad n (xs ++ replicate k 0) ≡ pad n xs
pad_zeros n xs k h =
    let j : ℕ = n - (length xs + k) in
    pad_is n (xs ++ zeros k) j (simp (length-append, length-replicate) (omega arith))
    ∙ append_assoc xs (zeros k) (zeros j)
    ∙ ap (λ (r : List ℕ). xs ++ r) (replicate-append-replicate k j 0)
    ∙ sym (pad_is n xs (k + j) (omega arith))

-- ys put down k cells behind xs: the zeros before and behind it need no store
pub pad_stored : (n : ℕ) (xs : List ℕ) (k : ℕ) (ys : List ℕ) (j : ℕ) → length xs + k + length ys + j ≤ n → {m : ℕ} → m ≡ length xs + k
    → Stored (pad n xs) m ys (pad n (xs ++ (replicate k 0 ++ (ys ++ replicate j 0))))
pad_stored n xs k ys j h {m} e =
    let r : ℕ = n - (length xs + k + length ys + j) in
    let cut : pad n xs ≡ xs ++ zeros k ++ (zeros (length ys) ++ zeros (j + r)) =
    pad_is n xs (k + (length ys + (j + r))) (omega arith)
    ∙ sym (rw (append_assoc, replicate-append-replicate, replicate-append-replicate)) in
    record {
      cells =
          rw cut
          (pad_is n (xs ++ (zeros k ++ (ys ++ zeros j))) r (simp (length-append, length-replicate) (omega arith))
          ∙ (simp (append_assoc, replicate-append-replicate))
          ∙ sym (sets_middle ys (xs ++ zeros k) (zeros (length ys)) (zeros (j + r)) (length-replicate (length ys) 0) (simp (length-append, length-replicate) (omega arith))));
    }

-- a cell past the end counts as 0, put down or not
pub get_or_zeros : (k i : ℕ) → get_or (zeros k) i 0 ≡ 0
get_or_zeros zero i = refl
get_or_zeros (suc k) zero = refl
get_or_zeros (suc k) (suc i) = get_or_zeros k i

pub get_or_behind : (xs : List ℕ) (k i : ℕ) → get_or (xs ++ zeros k) i 0 ≡ get_or xs i 0
get_or_behind [] k i = get_or_zeros k i
get_or_behind (x ∷ xs) k zero = refl
get_or_behind (x ∷ xs) k (suc i) = get_or_behind xs k i

-- ---- a store in a part is a store in the whole

module _ {A : Type 0} {t : List A} {k : ℕ} {vs t' : List A} (h : Stored t k vs t') where
  pub stored_left : (ys : List A) → k + length vs ≤ length t → Stored (t ++ ys) k vs (t' ++ ys)
  stored_left ys b = record { cells = rw h.cells (sym (sets_left vs t ys k b)) }

  pub stored_right : (xs : List A) {m : ℕ} → m ≡ length xs + k → Stored (xs ++ t) m vs (xs ++ t')
  stored_right xs e = record { cells = rw (h.cells, e) (sym (sets_right vs xs t k)) }

pub stored_pad : {t : List ℕ} {k : ℕ} {vs t' : List ℕ} → Stored t k vs t' → (n : ℕ) → k + length vs ≤ length t → Stored (pad n t) k vs (pad n t')
unfolding pad
stored_pad {t} {k} {vs} {t'} h n b =
    let l : length t' ≡ length t = rw h.cells (length-sets t k vs) in
    rw l (stored_left h (zeros (n - length t)) b)

-- ---- a section of lists of one length w

module _ {A B : Type 0} (f : B → List A) (w : ℕ) (d : B) (xs : List B) (l : (i : ℕ) → i < length xs → length (f (get_or xs i d)) ≡ w) where
  pub length_each : length (gather f xs) ≡ w * length xs
  length_each = rw (gather_is_from f 0 xs) (length_gather_from (λ x. 0) (λ m. f) w d 0 xs (λ m. l))

  pub at_each : (i : ℕ) → i < length xs → {t : List A} {k : ℕ} → At t k (gather f xs) → At t (k + w * i) (f (get_or xs i d))
  at_each i b h = at_stride (λ x. 0) (λ m. f) w d 0 xs (λ m. l) i b (rw (gather_is_from f 0 xs) at h)

-- ---- an element of a section is another one

-- of elements of w cells each, vs stored k cells into element i
pub element_stored :
    {A B : Type 0} (size : B → ℕ) (f : ℕ → B → List A) (w : ℕ) (d x : B) (k : ℕ) (vs : List A)
    → k + length vs ≤ w
    → (n : ℕ) (xs : List B)
    → ((m i : ℕ) → i < length xs → length (f m (get_or xs i d)) ≡ w)
    → (i : ℕ)
    → i < length xs
    → size x ≡ size (get_or xs i d)
    → ((m : ℕ) → Stored (f m (get_or xs i d)) k vs (f m x))
    → Stored (gather_from size f n xs) (w * i + k) vs (gather_from size f n (set xs i x))
element_stored size f w d x k vs r n [] l i b s h = absurd (not-suc-le-zero b)
element_stored size f w d x k vs r n (y ∷ xs) l zero b s h =
    let one : length (f n y) ≡ w = l n zero (zero-lt-suc (length xs)) in
    let at : w * 0 + k ≡ k = omega arith in
    rw (at, s) (stored_left (h n) (gather_from size f (n + size y) xs) (omega arith))
element_stored size f w d x k vs r n (y ∷ xs) l (suc i) b s h =
    let one : length (f n y) ≡ w = l n zero (zero-lt-suc (length xs)) in
    stored_right
    (element_stored size f w d x k vs r (n + size y) xs (λ m j c. l m (suc j) (suc-le-suc c)) i (le_of_suc-le-suc b) s h)
    (f n y) (omega arith)
