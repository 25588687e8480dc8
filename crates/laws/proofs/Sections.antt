-- Laws of sections: what stands in a list at a place that is known by an equation.
-- Assumes nothing.
use mathlib.Core.Logic.{◌⊎◌, inl, inr}
use mathlib.Core.Path.{◌≡◌, refl, sym, ap, ◌∙◌, subst}
use mathlib.Core.List.{List, [], ◌∷◌, ◌++◌, map, append_assoc, append-nil}
use Prim.Native.Nat.{ℕ, zero, suc, ◌+◌, ◌-◌, ◌*◌, ◌≤◌, ◌<◌, suc-le-suc}
use native.Mathlib.Nat.{not-suc-le-zero, le_of_suc-le-suc, zero-lt-suc, add-zero, add-suc, suc-add, add_assoc}
use native.Mathlib.Omega.{arith}
use lib.Dec.{lit<}
use lib.ListN.{length, get_or, take, drop, replicate, length-append, length-replicate, length-take, length-drop, get_or-append}
use lib.Seq.{ext_get_or, get_or-take, drop-drop, drop-append_seam, take-append_seam, get_or-drop}
use Rattle.laws.specs.Lists.{gather, sum}
use Rattle.laws.specs.Sections.{pad, gather_from, At, Bytes, ZeroOr}

module _ {A : Type 0} {t : List A} where
  pub at_move : {k l : ℕ} {xs : List A} → k ≡ l → At t k xs → At t l xs
  at_move {xs = xs} e h = subst (λ (n : ℕ). At t n xs) e h

  pub at_self : At t 0 t
  at_self = record { rest = []; holds = sym (append-nil t) }

  pub at_left : {k : ℕ} (xs ys : List A) → At t k (xs ++ ys) → At t k xs
  at_left xs ys h = record { rest = ys ++ h.rest; holds = h.holds ∙ append_assoc xs ys h.rest }

  pub at_right : {k : ℕ} (xs ys : List A) → At t k (xs ++ ys) → At t (k + length xs) ys
  at_right {k} xs ys h =
      record {
        rest = h.rest;
        holds =
            sym (drop-drop (length xs) k t)
            ∙ ap (λ (l : List A). drop (length xs) l) (h.holds ∙ append_assoc xs ys h.rest)
            ∙ drop-append_seam xs (ys ++ h.rest);
      }

  pub at_cell : {k : ℕ} {xs : List A} (d : A) → At t k xs → (j : ℕ) → j < length xs → {m : ℕ} → m ≡ k + j → get_or t m d ≡ get_or xs j d
  at_cell {k} {xs} d h j b e =
      ap (λ (n : ℕ). get_or t n d) e ∙ sym (get_or-drop k t j d) ∙ ap (λ (l : List A). get_or l j d) h.holds ∙ get_or-append xs h.rest d j b

  pub at_part : {k : ℕ} {xs : List A} → At t k xs → {m : ℕ} → m ≡ k → {n : ℕ} → n ≡ length xs → take n (drop m t) ≡ xs
  at_part {k} {xs} h e l = rw (e, l, h.holds) (take-append_seam xs h.rest)

  -- the list of element i, behind those of the elements before it
  pub at_gather : {B : Type 0} {k : ℕ} (f : B → List A) (d : B) (xs : List B) (i : ℕ) → i < length xs
      → At t k (gather f xs) → At t (k + sum (map (λ x. length (f x)) (take i xs))) (f (get_or xs i d))
  at_gather f d [] i b h = absurd (not-suc-le-zero b)
  at_gather f d (x ∷ xs) zero b h = at_move (omega arith) (at_left (f x) (gather f xs) h)
  at_gather {k = k} f d (x ∷ xs) (suc i) b h =
      at_move (omega arith) (at_gather {k = k + length (f x)} f d xs i (le_of_suc-le-suc b) (at_right (f x) (gather f xs) h))

  -- lists of one length w: element i's is w * i cells on
  pub at_stride : {B : Type 0} {k : ℕ} (size : B → ℕ) (f : ℕ → B → List A) (w : ℕ) (d : B) (n : ℕ) (xs : List B)
      → ((m i : ℕ) → i < length xs → length (f m (get_or xs i d)) ≡ w) → (i : ℕ) → i < length xs
      → At t k (gather_from size f n xs) → At t (k + w * i) (f (n + sum (map size (take i xs))) (get_or xs i d))
  at_stride size f w d n [] l i b h = absurd (not-suc-le-zero b)
  at_stride size f w d n (x ∷ xs) l zero b h = rw (add-zero n) (at_move (omega arith) (at_left (f n x) (gather_from size f (n + size x) xs) h))
  at_stride {k = k} size f w d n (x ∷ xs) l (suc i) b h =
      let one : length (f n x) ≡ w = l n zero (zero-lt-suc (length xs)) in
      let next : (m j : ℕ) → j < length xs → length (f m (get_or xs j d)) ≡ w = λ m j c. l m (suc j) (suc-le-suc c) in
      rw (← add_assoc n (size x))
      (at_move (omega arith)
      (at_stride {k = k + length (f n x)} size f w d (n + size x) xs next i (le_of_suc-le-suc b) (at_right (f n x) (gather_from size f (n + size x) xs) h)))

-- two lists of one length that agree on n cells from k on have that part in common
pub part_same : {A : Type 0} (d : A) (t u : List A) → length t ≡ length u → (n k : ℕ) → ((j : ℕ) → j < n → get_or t (k + j) d ≡ get_or u (k + j) d)
    → take n (drop k t) ≡ take n (drop k u)
part_same d t u l n k h =
    ext_get_or d (take n (drop k t)) (take n (drop k u)) (simp (length-take, length-drop, l))
    (λ j b.
    let c : j < n = omega (arith, b, length-take n (drop k t)) in
    rw (get_or-take n (drop k t) j d c, get_or-take n (drop k u) j d c, get_or-drop k t j d, get_or-drop k u j d) (h j c))

-- ---- lengths

module _ {A B : Type 0} where
  -- gather is the case in which no place is asked for
  pub gather_is_from : (f : B → List A) (n : ℕ) (xs : List B) → gather f xs ≡ gather_from (λ x. 0) (λ m. f) n xs
  gather_is_from f n [] = refl
  gather_is_from f n (x ∷ xs) = ap (λ (r : List A). f x ++ r) (gather_is_from f (n + 0) xs)

  pub length_gather_from : (size : B → ℕ) (f : ℕ → B → List A) (w : ℕ) (d : B) (n : ℕ) (xs : List B)
      → ((m i : ℕ) → i < length xs → length (f m (get_or xs i d)) ≡ w) → length (gather_from size f n xs) ≡ w * length xs
  length_gather_from size f w d n [] l = omega arith
  length_gather_from size f w d n (x ∷ xs) l =
      let one : length (f n x) ≡ w = l n zero (zero-lt-suc (length xs)) in
      let rest : length (gather_from size f (n + size x) xs) ≡ w * length xs =
      length_gather_from size f w d (n + size x) xs (λ m j c. l m (suc j) (suc-le-suc c)) in
      simp length-append (omega arith)

pub length_pad : (n : ℕ) (xs : List ℕ) → length xs ≤ n → length (pad n xs) ≡ n
unfolding pad
length_pad n xs h = simp (length-append, length-replicate) (omega arith)

pub at_pad : {t : List ℕ} {k : ℕ} (n : ℕ) (xs : List ℕ) → At t k (pad n xs) → At t k xs
unfolding pad
at_pad n xs h = at_left xs (replicate (n - length xs) 0) h

-- ---- bytes

pub byte_at : (xs : List ℕ) → Bytes xs → (k : ℕ) → get_or xs k 0 < 256
byte_at [] h k = lit< tt
byte_at (x ∷ xs) h zero = h.0
byte_at (x ∷ xs) h (suc k) = byte_at xs h.1 k

pub bytes_append : (xs ys : List ℕ) → Bytes xs → Bytes ys → Bytes (xs ++ ys)
bytes_append [] ys hx hy = hy
bytes_append (x ∷ xs) ys hx hy = (hx.0, bytes_append xs ys hx.1 hy)

pub bytes_zeros : (n : ℕ) → Bytes (replicate n 0)
bytes_zeros zero = tt
bytes_zeros (suc n) = (lit< tt, bytes_zeros n)

pub bytes_pad : (n : ℕ) (xs : List ℕ) → Bytes xs → Bytes (pad n xs)
unfolding pad
bytes_pad n xs h = bytes_append xs (replicate (n - length xs) 0) h (bytes_zeros (n - length xs))

pub bytes_gather_from : {B : Type 0} (size : B → ℕ) (f : ℕ → B → List ℕ) (d : B) (n : ℕ) (xs : List B)
    → ((m i : ℕ) → i < length xs → Bytes (f m (get_or xs i d))) → Bytes (gather_from size f n xs)
bytes_gather_from size f d n [] h = tt
bytes_gather_from size f d n (x ∷ xs) h =
    bytes_append (f n x) (gather_from size f (n + size x) xs) (h n zero (zero-lt-suc (length xs)))
    (bytes_gather_from size f d (n + size x) xs (λ m i b. h m (suc i) (suc-le-suc b)))

-- ---- cells that are 0 or stand at a place of P

module _ (P : ℕ → Type 0) where
  pub zero_or_at : (k : ℕ) (xs : List ℕ) → ZeroOr P k xs → (j : ℕ) → (get_or xs j 0 ≡ 0) ⊎ P (k + j)
  zero_or_at k [] h j = inl refl
  zero_or_at k (x ∷ xs) h zero = rw (add-zero k) h.0
  zero_or_at k (x ∷ xs) h (suc j) = rw (add-suc k j, ← suc-add k j) (zero_or_at (suc k) xs h.1 j)

  pub zero_or_append : (k : ℕ) (xs ys : List ℕ) → ZeroOr P k xs → {m : ℕ} → ZeroOr P m ys → m ≡ k + length xs → ZeroOr P k (xs ++ ys)
  zero_or_append k [] ys hx hy e = rw (e ∙ add-zero k) at hy
  zero_or_append k (x ∷ xs) ys hx hy e = (hx.0, zero_or_append (suc k) xs ys hx.1 hy (omega arith))

  pub zero_or_zeros : (k n : ℕ) → ZeroOr P k (replicate n 0)
  zero_or_zeros k zero = tt
  zero_or_zeros k (suc n) = (inl refl, zero_or_zeros (suc k) n)

  pub zero_or_pad : (k n : ℕ) (xs : List ℕ) → ZeroOr P k xs → ZeroOr P k (pad n xs)
  unfolding pad
  zero_or_pad k n xs h = zero_or_append k xs (replicate (n - length xs) 0) h (zero_or_zeros (k + length xs) (n - length xs)) refl

  -- every place of xs is one of P
  pub zero_or_all : (k : ℕ) (xs : List ℕ) → ((j : ℕ) → j < length xs → (m : ℕ) → m ≡ k + j → P m) → ZeroOr P k xs
  zero_or_all k [] h = tt
  zero_or_all k (x ∷ xs) h =
      (inr (h zero (zero-lt-suc (length xs)) k (omega arith)), zero_or_all (suc k) xs (λ j b m e. h (suc j) (suc-le-suc b) m (omega arith)))

  pub zero_or_gather : {B : Type 0} (k : ℕ) (f : B → List ℕ) (d : B) (xs : List B)
      → ((i : ℕ) → i < length xs → (m : ℕ) → m ≡ k + sum (map (λ x. length (f x)) (take i xs)) → ZeroOr P m (f (get_or xs i d)))
      → ZeroOr P k (gather f xs)
  zero_or_gather k f d [] h = tt
  zero_or_gather k f d (x ∷ xs) h =
      zero_or_append k (f x) (gather f xs) (h zero (zero-lt-suc (length xs)) k (omega arith))
      (zero_or_gather (k + length (f x)) f d xs (λ i b m e. h (suc i) (suc-le-suc b) m (omega arith)))
      refl

  pub zero_or_stride : {B : Type 0} (k : ℕ) (size : B → ℕ) (f : ℕ → B → List ℕ) (w : ℕ) (d : B) (n : ℕ) (xs : List B)
      → ((m i : ℕ) → i < length xs → length (f m (get_or xs i d)) ≡ w)
      → ((m i : ℕ) → i < length xs → (q : ℕ) → q ≡ k + w * i → ZeroOr P q (f m (get_or xs i d))) → ZeroOr P k (gather_from size f n xs)
  zero_or_stride k size f w d n [] l h = tt
  zero_or_stride k size f w d n (x ∷ xs) l h =
      let one : length (f n x) ≡ w = l n zero (zero-lt-suc (length xs)) in
      zero_or_append k (f n x) (gather_from size f (n + size x) xs) (h n zero (zero-lt-suc (length xs)) k (omega arith))
      (zero_or_stride (k + length (f n x)) size f w d (n + size x) xs (λ m i b. l m (suc i) (suc-le-suc b))
      (λ m i b q e. h m (suc i) (suc-le-suc b) q (omega arith)))
      refl

pub zero_or_map : (P Q : ℕ → Type 0) (a : ℕ) → ((j m : ℕ) → m ≡ a + j → P j → Q m) → (k : ℕ) (xs : List ℕ) → ZeroOr P k xs → ZeroOr Q (a + k) xs
zero_or_map P Q a g k [] h = tt
zero_or_map P Q a g k (x ∷ xs) h = (here h.0, rw (add-suc a k) at (zero_or_map P Q a g (suc k) xs h.1))
  where
    here : (x ≡ 0) ⊎ P k → (x ≡ 0) ⊎ Q (a + k)
    here (inl e) = inl e
    here (inr b) = inr (g k (a + k) refl b)
