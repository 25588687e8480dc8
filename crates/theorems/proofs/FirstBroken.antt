-- The lists of faults hold the rows that break each number, in rising order: the first of them is the refusal.
-- Assumes nothing.
use mathlib.Core.Path.{◌≡◌, refl, sym, ap, ◌∙◌, subst, subst⁻¹}
use mathlib.Core.Bool.{Bool, true, false, cond, true≢false}
use mathlib.Core.List.{List, [], ◌∷◌, map}
use Prim.Native.Nat.{ℕ, zero, suc, ◌+◌, ◌-◌, ◌≤◌, ◌<◌, zero-le}
use native.Mathlib.Nat.{le_refl, zero-add, zero-lt-suc, suc-ne-zero}
use native.Mathlib.Omega.{arith}
use native.Mathlib.Decide.{ℕ_discrete}
use lib.Dec.{T, lit<}
use borrow.Author.Tests.{ne_eqb}
use lib.ListN.{length, get_or}
use Rattle.laws.specs.Lists.{keep, gather, below, empty}
use Rattle.laws.proofs.Every.{Every, none, more, every_at, every_imp, every_map, every_keep, every_gather, every_gathered, every_below, every_below_at, kept_images}
use Rattle.laws.proofs.Gather.{keep_gather, map_gather}
use Rattle.laws.proofs.Rising.{Rising, StartsBy, rising_first, Span, rising_gather}
use Rattle.language.specs.Programs.{Row, Func, rows_at, first_row, row_place}
use Rattle.language.specs.Checking.{Spot, spot_at, spots_from, spots_in, spots_of, row_number, breaks10, breaks11, breaks12, breaks13, breaks14, breaks15, breaks16, breaks17, Verdict, rows_that, faults10, faults, first_fault, sound, judge}
use Rattle.language.proofs.Paths.{missing_sound, missing_complete}
use Rattle.theorems.specs.Accepted.{Breaks, Broken, fault_place}
use Rattle.theorems.proofs.AcceptanceCheck.{in_blocks, spots_from_law, from_spots, at_spots, every_spot}
use Rattle.theorems.proofs.Spots.{first_next}

-- ---- the rows of one block that pass a test

module _ (f : Func) where
  abbrev rows_in : (Spot → Bool) → ℕ → List ℕ
  rows_in t b = map (row_number f) (keep t (spots_in f b))

  rows_every :
      {P : ℕ → Type 0} (t : Spot → Bool) (b k : ℕ) (rows : List Row)
      → ((j : ℕ) → j < length rows → P (first_row f b + (k + j)))
      → Every P (map (row_number f) (keep t (spots_from b k rows)))
  unfolding row_number
  rows_every t b k rows h = every_map (row_number f) (λ s q. q) (every_keep t (λ s u q. q) (from_spots b k rows h))

  rising_more :
      (b k : ℕ) (r : Row) (c : Bool) (later : List Spot)
      → Every (λ y. first_row f b + suc k ≤ y) (map (row_number f) later)
      → Rising (map (row_number f) later)
      → Rising (map (row_number f) (cond c (record { block = b; index = k; row = r } ∷ later) later))
  unfolding row_number
  rising_more b k r true later a h = Rising.next {x = first_row f b + k} (every_imp (λ y l. omega arith) a) h
  rising_more b k r false later a h = h

  rising_rows : (t : Spot → Bool) (b k : ℕ) (rows : List Row) → Rising (map (row_number f) (keep t (spots_from b k rows)))
  rising_rows t b k [] = Rising.end
  rising_rows t b k (r ∷ rs) =
      rising_more b k r (t (record { block = b; index = k; row = r })) (keep t (spots_from b (suc k) rs))
      (rows_every t b (suc k) rs (λ j l. omega arith))
      (rising_rows t b (suc k) rs)

  rows_span : (t : Spot → Bool) (b : ℕ) → b < length f.blocks → Span (first_row f b) (first_row f (suc b)) (rows_in t b)
  unfolding spots_in
  rows_span t b h =
      let next = first_next f b h in
      record {
        ordered = omega arith;
        rising = rising_rows t b zero (rows_at f b);
        above = rows_every t b zero (rows_at f b) (λ j l. omega arith);
        under = rows_every t b zero (rows_at f b) (λ j l. omega arith);
      }

  -- ---- the rows of all blocks

  rising_that : (t : Spot → Bool) → Rising (rows_that f t)
  unfolding rows_that spots_of
  rising_that t =
      subst⁻¹ Rising
      (ap (map (row_number f)) (keep_gather t (spots_in f) (below (length f.blocks)))
      ∙ map_gather (row_number f) (λ b. keep t (spots_in f b)) (below (length f.blocks)))
      (rising_gather (rows_in t) (first_row f) zero (length f.blocks) (λ b l u. rows_span t b (omega arith))).0

  -- They are the rows of the spots that pass, no less and no more.
  that_sound :
      {P : ℕ → Type 0} (t : Spot → Bool)
      → ((b j : ℕ) → j < length (rows_at f b) → T (t (spot_at f b j)) → P (row_number f (spot_at f b j)))
      → Every P (rows_that f t)
  unfolding rows_that
  that_sound {P} t h =
      every_map (row_number f) (λ s q. q) (every_keep {P = λ s. T (t s) → P (row_number f s)} t (λ s u q. q u) (every_spot f h))

  that_complete :
      {P : ℕ → Type 0} (t : Spot → Bool)
      → Every P (rows_that f t)
      → (b j : ℕ)
      → j < length (rows_at f b)
      → T (t (spot_at f b j))
      → P (row_number f (spot_at f b j))
  unfolding rows_that
  that_complete t h = at_spots f (kept_images t (row_number f) (spots_of f) h)

  -- ---- 10, where a block with no rows is a fault of its own

  span10 : (rows : List Row) (low high : ℕ) (ys : List ℕ) → Span low high ys → Span low high (cond (empty rows) (low ∷ []) ys)
  span10 [] low high ys h =
      record {
        ordered = h.ordered;
        rising = Rising.next none Rising.end;
        above = more (le_refl low) none;
        under = more h.ordered none;
      }
  span10 (r ∷ rs) low high ys h = h

  rising10 : Rising (gather (faults10 f) (below (length f.blocks)))
  unfolding faults10
  rising10 =
      (rising_gather (faults10 f) (first_row f) zero (length f.blocks)
      (λ b l u.
      span10 (rows_at f b) (first_row f b) (first_row f (suc b)) (rows_in (breaks10 f) b) (rows_span (breaks10 f) b (omega arith)))
      ).0

  sound10 :
      {P : ℕ → Type 0}
      → ((b : ℕ) → b < length f.blocks → length (rows_at f b) ≡ 0 → P (first_row f b))
      → ((b j : ℕ) → j < length (rows_at f b) → T (breaks10 f (spot_at f b j)) → P (row_number f (spot_at f b j)))
      → Every P (gather (faults10 f) (below (length f.blocks)))
  unfolding faults10 spots_in
  sound10 {P} g h =
      every_gather (faults10 f)
      (every_below (length f.blocks)
      (λ b l.
      by (rows_at f b) (first_row f b) (rows_in (breaks10 f) b) (g b l)
      (every_map (row_number f) (λ s q. q)
      (every_keep {P = λ s. T (breaks10 f s) → P (row_number f s)} (breaks10 f) (λ s u q. q u) (from_spots b zero (rows_at f b) (λ j m. rw zero-add (h b j m)))))))
    where
      by : (rows : List Row) (x : ℕ) (ys : List ℕ) → (length rows ≡ 0 → P x) → Every P ys → Every P (cond (empty rows) (x ∷ []) ys)
      by [] x ys p h = more (p refl) none
      by (r ∷ rs) x ys p h = h

  complete10 :
      {P : ℕ → Type 0}
      → Every P (gather (faults10 f) (below (length f.blocks)))
      → (b : ℕ)
      → b < length f.blocks
      → (length (rows_at f b) ≡ 0 → P (first_row f b)) × (0 < length (rows_at f b) → Every P (rows_in (breaks10 f) b))
  unfolding faults10
  complete10 {P} h b l =
      by (rows_at f b) (first_row f b) (rows_in (breaks10 f) b)
      (every_below_at (length f.blocks) (every_gathered (faults10 f) (below (length f.blocks)) h) b l)
    where
      by :
          (rows : List Row) (x : ℕ) (ys : List ℕ)
          → Every P (cond (empty rows) (x ∷ []) ys)
          → (length rows ≡ 0 → P x) × (0 < length rows → Every P ys)
      by [] x ys (more p h) = (λ e. p, λ m. absurd (omega arith))
      by (r ∷ rs) x ys h = (λ e. absurd (suc-ne-zero (length rs) e), λ m. h)

  complete10_rows :
      {P : ℕ → Type 0}
      → Every P (gather (faults10 f) (below (length f.blocks)))
      → (b j : ℕ)
      → j < length (rows_at f b)
      → T (breaks10 f (spot_at f b j))
      → P (row_number f (spot_at f b j))
  unfolding spots_in
  complete10_rows h b j l =
      let own = (complete10 h b (in_blocks f b j l)).1 (omega arith) in
      rw zero-add at (spots_from_law b zero (rows_at f b) (kept_images (breaks10 f) (row_number f) (spots_in f b) own) j l)

-- ---- lists of rows by number

-- The list has rows of which P holds, the least of them first.
record Column (P : ℕ → Type 0) (l : List ℕ) : Type 0 where
  sound : Every P l
  first : (r : ℕ) → P r → StartsBy l r

-- The lists are those of number k and of the numbers after it.
data Listed (P : ℕ → ℕ → Type 0) : ℕ → List (List ℕ) → Type 0 where
  end : {k : ℕ} → ((m r : ℕ) → P m r → m < k) → Listed P k []
  next : {k : ℕ} {l : List ℕ} {ls : List (List ℕ)} → Column (P k) l → Listed P (suc k) ls → Listed P k (l ∷ ls)

-- The verdict on function i is the first number from k on that P has a row of, and the least row.
pub data First (P : ℕ → ℕ → Type 0) (i k : ℕ) : Verdict → Type 0 where
  accepted : ((m r : ℕ) → P m r → m < k) → First P i k Verdict.accepted
  refused :
      (m r : ℕ)
      → P m r
      → ((m' r' : ℕ) → P m' r' → m' < m → m' < k)
      → ((r' : ℕ) → P m r' → r ≤ r')
      → First P i k (Verdict.refused m (fault_place i m r))

module _ (P : ℕ → ℕ → Type 0) (i : ℕ) where
  none_at : (k : ℕ) → ((r : ℕ) → P k r → ⊥) → (m r : ℕ) → P m r → m < suc k → m < k
  none_at k h m r p l = elim (ℕ_discrete m k) [ yes e ↦ absurd (h r (subst (λ n. P n r) e p)) | no e ↦ omega arith ]

  -- A number that no row breaks is passed over.
  pass : (k : ℕ) (v : Verdict) → ((r : ℕ) → P k r → ⊥) → First P i (suc k) v → First P i k v
  pass k v h (First.accepted a) = First.accepted (λ m r p. none_at k h m r p (a m r p))
  pass k v h (First.refused m r p a b) = First.refused m r p (λ m' r' q l. none_at k h m' r' q (a m' r' q l)) b

  first_fault_law : {k : ℕ} {ls : List (List ℕ)} → 9 < k → Listed P k ls → First P i k (first_fault i k ls)
  first_fault_law l (Listed.end h) = First.accepted h
  first_fault_law l (Listed.next {k = k} {l = []} {ls = ls} c h) =
      pass k (first_fault i (suc k) ls) c.first (first_fault_law (omega arith) h)
  first_fault_law l (Listed.next {k = k} {l = x ∷ xs} {ls = ls} c h) =
      subst (λ n. First P i k (Verdict.refused k n)) (ap (λ b. cond b i (row_place i x)) (ne_eqb k 9 (λ e. omega arith)))
      (First.refused k x (every_at c.sound 0 0 (zero-lt-suc (length xs))) (λ m r p u. u) c.first)

-- ---- one function

-- What is broken of 11 or a later number is a row.
record RowOf (f : Func) (k r : ℕ) : Type 0 where
  block : ℕ
  index : ℕ
  inside : index < length (rows_at f block)
  breaks : Breaks f (spot_at f block index) k
  number : row_number f (spot_at f block index) ≡ r

-- The tests of 10 to 17, by number.
tests : Func → Spot → List Bool
tests f s = breaks10 f s ∷ breaks11 f s ∷ breaks12 f s ∷ breaks13 f s ∷ breaks14 f s ∷ breaks15 f s ∷ breaks16 f s ∷ breaks17 f s ∷ []

-- A number that a row breaks is one of them, and its test says so.
breaks_test : (f : Func) (s : Spot) (k : ℕ) → s.block < length f.blocks → Breaks f s k → (9 < k) × (k < 18) × T (get_or (tests f s) (k - 10) false)
unfolding tests
breaks_test f s k l (Breaks.unterminated t) = (lit< tt, lit< tt, t)
breaks_test f s k l (Breaks.mistyped t) = (lit< tt, lit< tt, t)
breaks_test f s k l (Breaks.reassigned t) = (lit< tt, lit< tt, t)
breaks_test f s k l (Breaks.unsuited t) = (lit< tt, lit< tt, t)
breaks_test f s k l (Breaks.misplaced t) = (lit< tt, lit< tt, t)
breaks_test f s k l (Breaks.uneven t) = (lit< tt, lit< tt, t)
breaks_test f s k l (Breaks.unassigned t) = (lit< tt, lit< tt, t)
breaks_test f s k l (Breaks.missing t m) = (lit< tt, lit< tt, missing_complete f s l t m)

module _ (names : List (List ℕ)) (f : Func) where
  row_of_law : (k r : ℕ) → 10 < k → Broken names f k r → RowOf f k r
  row_of_law k r l (Broken.head e) = absurd (omega arith)
  row_of_law k r l (Broken.block b h e) = absurd (omega arith)
  row_of_law k r l (Broken.row n b j h q) = record { block = b; index = j; inside = h; breaks = q; number = refl }

  -- The numbers are 9 to 17.
  pub numbers : (k r : ℕ) → Broken names f k r → (8 < k) × (k < 18)
  numbers k r (Broken.head e) = (lit< tt, lit< tt)
  numbers k r (Broken.block b h e) = (lit< tt, lit< tt)
  numbers k r (Broken.row n b j h q) = let w = breaks_test f (spot_at f b j) n (in_blocks f b j h) q in (omega arith, w.1)

  -- The list of number 11 or a later one.
  column :
      (k : ℕ) (t : Spot → Bool)
      → 10 < k
      → ((s : Spot) → T (t s) → Breaks f s k)
      → ((s : Spot) → T (get_or (tests f s) (k - 10) false) → T (t s))
      → Column (Broken names f k) (rows_that f t)
  column k t l to of =
      record {
        sound = that_sound f t (λ b j h u. Broken.row k b j h (to (spot_at f b j) u));
        first =
            λ r q.
            let w = row_of_law k r l q in
            let s = spot_at f w.block w.index in
            subst (StartsBy (rows_that f t)) w.number
            (that_complete f t (rising_first (rising_that f t)) w.block w.index w.inside
            (of s (breaks_test f s k (in_blocks f w.block w.index w.inside) w.breaks).2));
      }

  column10 : Column (Broken names f 10) (gather (faults10 f) (below (length f.blocks)))
  column10 =
      record {
        sound = sound10 f (λ b h e. Broken.block b h e) (λ b j h t. Broken.row 10 b j h (Breaks.unterminated t));
        first = first;
      }
    where
      first : (r : ℕ) → Broken names f 10 r → StartsBy (gather (faults10 f) (below (length f.blocks))) r
      first r (Broken.block b h e) = (complete10 f (rising_first (rising10 f)) b h).0 e
      first r (Broken.row k b j h (Breaks.unterminated t)) = complete10_rows f (rising_first (rising10 f)) b j h t

  listed : Listed (Broken names f) 10 (faults f)
  unfolding faults tests
  listed =
      Listed.next column10
      (Listed.next (column 11 (breaks11 f) (lit< tt) (λ s t. Breaks.mistyped t) (λ s t. t))
      (Listed.next (column 12 (breaks12 f) (lit< tt) (λ s t. Breaks.reassigned t) (λ s t. t))
      (Listed.next (column 13 (breaks13 f) (lit< tt) (λ s t. Breaks.unsuited t) (λ s t. t))
      (Listed.next (column 14 (breaks14 f) (lit< tt) (λ s t. Breaks.misplaced t) (λ s t. t))
      (Listed.next (column 15 (breaks15 f) (lit< tt) (λ s t. Breaks.uneven t) (λ s t. t))
      (Listed.next (column 16 (breaks16 f) (lit< tt) (λ s t. Breaks.unassigned t) (λ s t. t))
      (Listed.next (column 17 (breaks17 f) (lit< tt) (λ s t. let m = missing_sound f s t in Breaks.missing m.0 m.1) (λ s t. t))
      (Listed.end (λ k r q. (numbers k r q).1)))))))))

  -- The verdict on a function is the first of what it breaks; one that breaks nothing is accepted.
  pub first_broken : (i : ℕ) → First (Broken names f) i 9 (judge names i f)
  unfolding judge
  first_broken i = by (sound names f) refl
    where
      right : sound names f ≡ true → (r : ℕ) → Broken names f 9 r → ⊥
      right e r (Broken.head q) = true≢false (sym e ∙ q)
      right e r (Broken.row k b j h q) = let w = breaks_test f (spot_at f b j) 9 (in_blocks f b j h) q in absurd (omega arith)

      by : (c : Bool) → sound names f ≡ c → First (Broken names f) i 9 (cond c (first_fault i 10 (faults f)) (Verdict.refused 9 i))
      by true e = pass (Broken names f) i 9 (first_fault i 10 (faults f)) (right e) (first_fault_law (Broken names f) i (lit< tt) listed)
      by false e = First.refused 9 0 (Broken.head e) (λ m r q l. l) (λ r q. zero-le)
