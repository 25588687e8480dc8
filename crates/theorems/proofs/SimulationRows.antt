-- What an accepted function's rows are like: each is in range, the terminator is the last, the phi are the first.
-- Assumes nothing.
use mathlib.Core.Path.{◌≡◌, refl, sym, ap, ◌∙◌}
use mathlib.Core.Bool.{Bool, true, false, not, ◌||◌, beq, true≢false, false≢true}
use mathlib.Core.List.{List, [], ◌∷◌, ◌++◌}
use Prim.Native.Nat.{ℕ, zero, suc, ◌+◌, ◌≤◌, ◌<◌}
use native.Mathlib.Omega.{arith}
use lib.Dec.{T, eqb, ltb, leb, lit<, ltb→lt, leb→le}
use borrow.Author.Tests.{eqb-true, eqb-false, not-true}
use lib.ListN.{length, get_or, take, length-append, get_or-append}
use lib.Seq.{get_or-append-add}
use lib.Ieee.Fits.{and_l, and_r}
use Rattle.laws.specs.Lists.{any, all}
use Rattle.laws.proofs.Indexing.{none_at, all_append_left, all_append_right, get_or_lt, get_or_inside}
use Rattle.laws.proofs.Tests.{or_left, or_right}
use Rattle.laws.proofs.Keep.{keep_none, keep_leads, keep_passes}
use Rattle.language.specs.Programs.{Row, Func, no_row, rows_at, is_phi, is_terminator, targets_of, sources_of, entries_of, named_by}
use Rattle.language.specs.Checking.{spot_at, in_range, row_tests, breaks_row, breaks9, breaks10, breaks14, sound, numbers_right, entry_right, last_row}
use Rattle.language.specs.Running.{Place, phis_of, phi_target, entry_at, row_here}
use Rattle.language.specs.Translating.{kept_of}
use Rattle.theorems.specs.Clean.{Clean}

-- The row at place j of block b.
abbrev pub row_of : Func → ℕ → ℕ → Row
row_of f b j = get_or (rows_at f b) j Row.nop

-- Within its block it is the row that a run has to do there.
pub row_here_is : (f : Func) (p : Place) → p.row < length (rows_at f p.block) → row_here f p ≡ row_of f p.block p.row
unfolding row_here
row_here_is f p l = get_or_inside (rows_at f p.block) p.row no_row Row.nop l

-- The phi of block b and its other rows, and those at place j among them.
abbrev pub phis_at : Func → ℕ → List Row
phis_at f b = phis_of (rows_at f b)

abbrev pub phi_of : Func → ℕ → ℕ → Row
phi_of f b j = get_or (phis_at f b) j Row.nop

abbrev pub kept_at : Func → ℕ → List Row
kept_at f b = kept_of (rows_at f b)

abbrev pub kept_row : Func → ℕ → ℕ → Row
kept_row f b j = get_or (kept_at f b) j Row.nop

-- ---- a row in range

-- These are registers.
abbrev pub AreRegisters : Func → List ℕ → Type 0
AreRegisters f us = T (all (λ u. ltb u (length f.registers)) us)

module _ (f : Func) (r : Row) (t : T (in_range f r)) where
  registers_known : AreRegisters f (targets_of r ++ (sources_of r ++ entries_of r))
  unfolding in_range
  registers_known = search (and_l, and_r)

  pub targets_known : AreRegisters f (targets_of r)
  targets_known = all_append_left _ (targets_of r) (sources_of r ++ entries_of r) registers_known

  sources_and_entries : AreRegisters f (sources_of r ++ entries_of r)
  sources_and_entries = all_append_right _ (targets_of r) (sources_of r ++ entries_of r) registers_known

  pub sources_known : AreRegisters f (sources_of r)
  sources_known = all_append_left _ (sources_of r) (entries_of r) sources_and_entries

  pub entries_known : AreRegisters f (entries_of r)
  entries_known = all_append_right _ (sources_of r) (entries_of r) sources_and_entries

  pub named_known : T (all (λ b. ltb b (length f.blocks)) (named_by r))
  unfolding in_range
  named_known = search (and_l, and_r)

-- The first of a row's numbers, and the second.
pub first_lt : (n u : ℕ) (us : List ℕ) → T (all (λ x. ltb x n) (u ∷ us)) → u < n
first_lt n u us t = ltb→lt u n (and_l (ltb u n) (all (λ x. ltb x n) us) t)

pub second_lt : (n u w : ℕ) (us : List ℕ) → T (all (λ x. ltb x n) (u ∷ (w ∷ us))) → w < n
second_lt n u w us t = first_lt n w us (and_r (ltb u n) (all (λ x. ltb x n) (w ∷ us)) t)

-- A row that is a phi, with its parts.
pub record IsPhi (r : Row) : Type 0 where
  pub target : ℕ
  pub entries : List ℕ
  pub is : r ≡ Row.phi target entries

pub is_phi_law : (r : Row) → is_phi r ≡ true → IsPhi r
is_phi_law Row.nop e = absurd (false≢true e)
is_phi_law (Row.load op t n) e = absurd (false≢true e)
is_phi_law (Row.unary op t s) e = absurd (false≢true e)
is_phi_law (Row.binary op t l r) e = absurd (false≢true e)
is_phi_law (Row.phi t es) e = record { target = t; entries = es; is = refl }
is_phi_law (Row.jump b) e = absurd (false≢true e)
is_phi_law (Row.branch s x y) e = absurd (false≢true e)
is_phi_law (Row.return s) e = absurd (false≢true e)
is_phi_law Row.leave e = absurd (false≢true e)
is_phi_law (Row.unknown op) e = absurd (false≢true e)

target_lt : (f : Func) (r : Row) → is_phi r ≡ true → T (in_range f r) → phi_target r < length f.registers
target_lt f r e t =
    let p = is_phi_law r e in
    rw p.is (first_lt (length f.registers) p.target [] (rw p.is at (targets_known f r t)))

-- ---- the rows of an accepted function

pub last_row_at : (rs : List Row) (j : ℕ) → suc j ≡ length rs → last_row rs ≡ get_or rs j Row.nop
last_row_at [] j e = absurd (omega arith)
last_row_at (r ∷ []) zero e = refl
last_row_at (r ∷ []) (suc j) e = absurd (omega arith)
last_row_at (r ∷ (s ∷ rs)) zero e = absurd (omega arith)
last_row_at (r ∷ (s ∷ rs)) (suc j) e = last_row_at (s ∷ rs) j (omega arith)

module _ (f : Func) (c : Clean f) where
  -- each test of a row is passed
  passes :
      (b j i : ℕ)
      → j < length (rows_at f b)
      → (let tests = row_tests f (spot_at f b j) in i < length tests → get_or tests i false ≡ false)
  unfolding breaks_row
  passes b j i l h = none_at (λ b. b) (row_tests f (spot_at f b j)) i false (c.rows b j l) h

  -- 9
  pub in_range_law : (b j : ℕ) → j < length (rows_at f b) → T (in_range f (row_of f b j))
  unfolding row_tests breaks9
  in_range_law b j l = passed (in_range f (row_of f b j)) (passes b j 0 l (lit< tt))
    where
      passed : (t : Bool) → not t ≡ false → T t
      passed true e = tt
      passed false e = true≢false e

  -- 10: the terminator is the last row, and no other is
  last_ends : (b j : ℕ) → j < length (rows_at f b) → is_terminator (row_of f b j) ≡ eqb (suc j) (length (rows_at f b))
  unfolding row_tests breaks10
  last_ends b j l = same (is_terminator (row_of f b j)) (eqb (suc j) (length (rows_at f b))) (passes b j 1 l (lit< tt))
    where
      same : (s t : Bool) → not (beq s t) ≡ false → s ≡ t
      same true true e = refl
      same true false e = absurd (true≢false e)
      same false true e = absurd (true≢false e)
      same false false e = refl

  pub more_rows : (b j : ℕ) → j < length (rows_at f b) → is_terminator (row_of f b j) ≡ false → suc j < length (rows_at f b)
  more_rows b j l e = omega (arith, eqb-false (suc j) (length (rows_at f b)) (sym (last_ends b j l) ∙ e))

  pub last_place : (b j : ℕ) → j < length (rows_at f b) → is_terminator (row_of f b j) ≡ true → suc j ≡ length (rows_at f b)
  last_place b j l e = eqb-true (suc j) (length (rows_at f b)) (sym (last_ends b j l) ∙ e)

  pub last_row_law : (b j : ℕ) → j < length (rows_at f b) → is_terminator (row_of f b j) ≡ true → last_row (rows_at f b) ≡ row_of f b j
  last_row_law b j l e = last_row_at (rows_at f b) j (last_place b j l e)

  -- 14: a phi is not in entry, and no other row stands before it
  phi_fits :
      (b j : ℕ)
      → j < length (rows_at f b)
      → is_phi (row_of f b j) ≡ true
      → (eqb b f.entry || any (λ r. not (is_phi r)) (take j (rows_at f b))) ≡ false
  unfolding row_tests breaks14
  phi_fits b j l e = rw e at (passes b j 5 l (lit< tt))

  pub rows_split : (b : ℕ) → rows_at f b ≡ phis_at f b ++ kept_at f b
  unfolding phis_of kept_of
  rows_split b =
      keep_leads is_phi (rows_at f b) Row.nop
      (λ j l e. or_right (eqb b f.entry) (any (λ r. not (is_phi r)) (take j (rows_at f b))) (phi_fits b j l e))

  pub rows_count : (b : ℕ) → length (rows_at f b) ≡ length (phis_at f b) + length (kept_at f b)
  rows_count b = ap length (rows_split b) ∙ length-append (phis_at f b) (kept_at f b)

  pub entry_plain : phis_at f f.entry ≡ []
  unfolding phis_of
  entry_plain = keep_none is_phi (rows_at f f.entry) Row.nop (λ j l. plain j l (is_phi (row_of f f.entry j)) refl)
    where
      b : ℕ
      b = f.entry

      plain : (j : ℕ) → j < length (rows_at f b) → (t : Bool) → is_phi (row_of f b j) ≡ t → t ≡ false
      plain j l true e =
          absurd (eqb-false b b (or_left (eqb b b) (any (λ r. not (is_phi r)) (take j (rows_at f b))) (phi_fits b j l e)) refl)
      plain j l false e = refl

  -- the rows by place
  pub phi_at : (b j : ℕ) → j < length (phis_at f b) → row_of f b j ≡ phi_of f b j
  phi_at b j l =
      ap (λ (rs : List Row). get_or rs j Row.nop) (rows_split b) ∙ get_or-append (phis_at f b) (kept_at f b) Row.nop j l

  pub kept_at_law : (b j : ℕ) → row_of f b (length (phis_at f b) + j) ≡ kept_row f b j
  kept_at_law b j =
      ap (λ (rs : List Row). get_or rs (length (phis_at f b) + j) Row.nop) (rows_split b)
      ∙ get_or-append-add (phis_at f b) (kept_at f b) j Row.nop

  pub phi_is : (b j : ℕ) → j < length (phis_at f b) → is_phi (phi_of f b j) ≡ true
  unfolding phis_of
  phi_is b j l = keep_passes is_phi (rows_at f b) j Row.nop l

  pub kept_is : (b j : ℕ) → j < length (kept_at f b) → is_phi (kept_row f b j) ≡ false
  unfolding kept_of
  kept_is b j l = not-true (is_phi (kept_row f b j)) (keep_passes (λ r. not (is_phi r)) (rows_at f b) j Row.nop l)

  -- a phi's target and entries are registers
  phi_in_range : (b j : ℕ) → j < length (phis_at f b) → T (in_range f (phi_of f b j))
  phi_in_range b j l = rw (phi_at b j l) at (in_range_law b j (omega (arith, rows_count b)))

  pub phi_target_law : (b j : ℕ) → j < length (phis_at f b) → phi_target (phi_of f b j) < length f.registers
  phi_target_law b j l = target_lt f (phi_of f b j) (phi_is b j l) (phi_in_range b j l)

  pub phi_entry_law : (b j k : ℕ) → j < length (phis_at f b) → entry_at k (phi_of f b j) < length f.registers
  phi_entry_law b j k l =
      let known = entries_known f (phi_of f b j) (phi_in_range b j l) in
      get_or_lt (length f.registers) (entries_of (phi_of f b j)) k 0 known (omega (arith, phi_target_law b j l))

  pub entry_known : f.entry < length f.blocks
  unfolding sound entry_right
  entry_known =
      let h : T (sound [] f) = c.head in
      let t : T (ltb f.entry (length f.blocks)) = search (and_l, and_r) in
      ltb→lt f.entry (length f.blocks) t

  pub params_known : f.params ≤ length f.registers
  unfolding sound numbers_right
  params_known =
      let h : T (sound [] f) = c.head in
      let t : T (leb f.params (length f.registers)) = search (and_l, and_r) depth 8 in
      leb→le f.params (length f.registers) t
