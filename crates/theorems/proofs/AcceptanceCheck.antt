-- The check accepts a function exactly if it is clean: the verdict taken apart into the facts of `Clean`, and put together from them.
-- Assumes nothing.
use mathlib.Core.Path.{◌≡◌, refl, ap, ◌∙◌, subst}
use mathlib.Core.Bool.{Bool, true, false, cond, not}
use mathlib.Core.List.{List, [], ◌∷◌, map, map-eq-nil_iff}
use Prim.Native.Nat.{ℕ, zero, suc, ◌+◌, ◌-◌, ◌≤◌, ◌<◌, suc-le-suc}
use native.Mathlib.Nat.{not-suc-le-zero, le_of_suc-le-suc, zero-add, add-zero, zero-lt-suc, add-suc, suc-add}
use native.Mathlib.Omega.{arith}
use native.Mathlib.Decide.{dec_lt}
use lib.Dec.{T, eqb, ltb, ltb→lt, leb→le, le→leb, lit≤}
use lib.Ieee.Bits.{is_true}
use lib.Ieee.Fits.{and_l, and_r, and_i}
use lib.ListN.{length, get_or, get_or-eq_default}
use Rattle.laws.specs.Lists.{any, all, keep, gather, below, empty, same}
use Rattle.laws.proofs.Tests.{not_is_false}
use Rattle.laws.proofs.Every.{Every, none, more, every_at, every_imp, every_gather, every_gathered, every_below, every_below_at, every_all, every_none, none_every, every_kept, kept_every, every_empty, empty_every}
use Rattle.language.specs.Programs.{Row, Func, Program, no_block, max_registers, max_blocks, max_rows, max_entries, entry_count, block_at, rows_at, rows_of, first_row, max_functions, function_in}
use Rattle.language.specs.Checking.{Spot, spot_at, spots_from, spots_in, spots_of, in_range, breaks9, breaks10, breaks11, breaks12, breaks13, breaks14, breaks15, breaks16, breaks17, row_tests, breaks_row, Verdict, rows_that, faults10, faults, first_fault, sizes_right, numbers_right, entry_right, names_right, sound, judge, check, row_number, spellable_or_none, distinct}
use Rattle.language.specs.Instructions.{type_count, void}
use Rattle.language.specs.Table.{table_length, decode}
use Rattle.language.specs.Answers.{check_answer}
use Rattle.language.specs.Names.{spellable}
use Rattle.theorems.specs.Clean.{Clean}
use Rattle.theorems.specs.Accepted.{names_before}
use Rattle.theorems.proofs.Judged.{accepted_each, each_accepted}

-- ---- one row

-- A row that breaks none of 9 to 16 breaks none of them one by one, and back.
module _ (f : Func) (s : Spot) where
  tests_pass : breaks_row f s ≡ false → Every (λ b. b ≡ false) (row_tests f s)
  unfolding breaks_row
  tests_pass h = every_none (λ b. b) (row_tests f s) h

  -- number n of 9 to 16
  pub passes_each :
      breaks_row f s ≡ false → (n : ℕ) → T (ltb (n - 9) 8)
      → get_or (breaks9 f s ∷ breaks10 f s ∷ breaks11 f s ∷ breaks12 f s ∷ breaks13 f s ∷ breaks14 f s ∷ breaks15 f s ∷ breaks16 f s ∷ []) (n - 9) false ≡ false
  unfolding row_tests
  passes_each h n l = every_at (tests_pass h) false (n - 9) (ltb→lt (n - 9) 8 l)

  pub passes :
      breaks9 f s ≡ false
      → breaks10 f s ≡ false
      → breaks11 f s ≡ false
      → breaks12 f s ≡ false
      → breaks13 f s ≡ false
      → breaks14 f s ≡ false
      → breaks15 f s ≡ false
      → breaks16 f s ≡ false
      → breaks_row f s ≡ false
  unfolding breaks_row row_tests
  passes a b c d e g h i =
      none_every (λ b. b) (more a (more b (more c (more d (more e (more g (more h (more i none))))))))

-- ---- every row

-- Only a block of the function has rows.
pub in_blocks : (f : Func) (b j : ℕ) → j < length (rows_at f b) → b < length f.blocks
in_blocks f b j l = elim (dec_lt b (length f.blocks)) [ yes h ↦ h | no h ↦ absurd (outside h) ]
  where
    outside : ¬ (b < length f.blocks) → ⊥
    outside h =
        not-suc-le-zero (subst (λ k. j < length k.rows) (get_or-eq_default f.blocks no_block {n = b} (omega arith)) l)

-- The spots of one block, from place k on.
pub spots_from_law :
    {P : Spot → Type 0} (b k : ℕ) (rows : List Row)
    → Every P (spots_from b k rows)
    → (j : ℕ)
    → j < length rows
    → P (record { block = b; index = k + j; row = get_or rows j Row.nop })
spots_from_law b k [] h j l = absurd (not-suc-le-zero l)
spots_from_law b k (r ∷ rs) (more p h) zero l = rw add-zero p
spots_from_law b k (r ∷ rs) (more p h) (suc j) l = rw (add-suc, ← suc-add) (spots_from_law b (suc k) rs h j (le_of_suc-le-suc l))

pub from_spots :
    {P : Spot → Type 0} (b k : ℕ) (rows : List Row)
    → ((j : ℕ) → j < length rows → P (record { block = b; index = k + j; row = get_or rows j Row.nop }))
    → Every P (spots_from b k rows)
from_spots b k [] h = none
from_spots b k (r ∷ rs) h =
    more (rw add-zero at (h zero (zero-lt-suc _)))
    (from_spots b (suc k) rs (λ j l. rw suc-add (rw add-suc at (h (suc j) (suc-le-suc l)))))

-- What holds of every spot of a function holds at every place of every block, and back.
pub at_spots : {P : Spot → Type 0} (f : Func) → Every P (spots_of f) → (b j : ℕ) → j < length (rows_at f b) → P (spot_at f b j)
unfolding spots_of spots_in
at_spots f h b j l =
    let n = length f.blocks in
    let own = every_below_at n (every_gathered (spots_in f) (below n) h) b (in_blocks f b j l) in
    rw zero-add at (spots_from_law b zero (rows_at f b) own j l)

pub every_spot : {P : Spot → Type 0} (f : Func) → ((b j : ℕ) → j < length (rows_at f b) → P (spot_at f b j)) → Every P (spots_of f)
unfolding spots_of spots_in
every_spot f h =
    every_gather (spots_in f)
    (every_below (length f.blocks) (λ b l. from_spots b zero (rows_at f b) (λ j m. rw zero-add (h b j m))))

-- ---- the lists of faults

-- The verdict on the lists of faults is `accepted` exactly if all are empty.
pub no_faults : (i k : ℕ) (ls : List (List ℕ)) → first_fault i k ls ≡ Verdict.accepted → Every (λ l. l ≡ []) ls
no_faults i k [] e = none
no_faults i k ([] ∷ ls) e = more refl (no_faults i (suc k) ls e)
no_faults i k ((r ∷ rs) ∷ ls) e = absurd (let z : ◌≡◌ {A = ℕ} 0 1 = cc in omega arith)

faults_none : (i k : ℕ) (ls : List (List ℕ)) → Every (λ l. l ≡ []) ls → first_fault i k ls ≡ Verdict.accepted
faults_none i k [] h = refl
faults_none i k ([] ∷ ls) (more p h) = faults_none i (suc k) ls h
faults_none i k ((r ∷ rs) ∷ ls) (more p h) = absurd (let z : ◌≡◌ {A = ℕ} 0 1 = cc in omega arith)

-- No row at which a test fails: it fails nowhere.
module _ (f : Func) (test : Spot → Bool) where
  pub no_rows : rows_that f test ≡ [] → (b j : ℕ) → j < length (rows_at f b) → test (spot_at f b j) ≡ false
  unfolding rows_that
  no_rows e = at_spots f (every_kept test (spots_of f) ((map-eq-nil_iff (row_number f)).0 e))

  rows_none : ((b j : ℕ) → j < length (rows_at f b) → test (spot_at f b j) ≡ false) → rows_that f test ≡ []
  unfolding rows_that
  rows_none h = (map-eq-nil_iff (row_number f)).1 (kept_every test (every_spot f h))

-- The same of 10, where a block with no rows is a fault of its own.
filled_of : (rows : List Row) (x : ℕ) (ys : List ℕ) → cond (empty rows) (x ∷ []) ys ≡ [] → (0 < length rows) × (ys ≡ [])
filled_of [] x ys e = absurd (let z : ◌≡◌ {A = ℕ} 0 1 = cc in omega arith)
filled_of (r ∷ rs) x ys e = (zero-lt-suc _, e)

of_filled : (rows : List Row) (x : ℕ) (ys : List ℕ) → 0 < length rows → ys ≡ [] → cond (empty rows) (x ∷ []) ys ≡ []
of_filled [] x ys l e = absurd (not-suc-le-zero l)
of_filled (r ∷ rs) x ys l e = e

-- Block b has rows, and none breaks 10.
pub record Terminated (f : Func) (b : ℕ) : Type 0 where
  pub filled : 0 < length (rows_at f b)
  pub rows : Every (λ s. breaks10 f s ≡ false) (spots_in f b)

module _ (f : Func) where
  terminated : (b : ℕ) → faults10 f b ≡ [] → Terminated f b
  unfolding faults10
  terminated b e =
      let p = filled_of (rows_at f b) (first_row f b) (map (row_number f) (keep (breaks10 f) (spots_in f b))) e in
      record { filled = p.0; rows = every_kept (breaks10 f) (spots_in f b) ((map-eq-nil_iff (row_number f)).0 p.1) }

  pub no_faults10 : gather (faults10 f) (below (length f.blocks)) ≡ [] → Every (Terminated f) (below (length f.blocks))
  no_faults10 e = every_imp terminated (every_empty (faults10 f) (below (length f.blocks)) e)

  faults10_none :
      ((b : ℕ) → b < length f.blocks → 0 < length (rows_at f b))
      → ((b j : ℕ) → j < length (rows_at f b) → breaks10 f (spot_at f b j) ≡ false)
      → gather (faults10 f) (below (length f.blocks)) ≡ []
  unfolding faults10 spots_in
  faults10_none h g =
      empty_every (faults10 f)
      (every_below (length f.blocks)
      (λ b l.
      let broken = keep (breaks10 f) (spots_in f b) in
      let sound = kept_every (breaks10 f) (from_spots b zero (rows_at f b) (λ j m. rw zero-add (g b j m))) in
      of_filled (rows_at f b) (first_row f b) (map (row_number f) broken) (h b l) ((map-eq-nil_iff (row_number f)).1 sound)))

-- ---- 9 of the whole function

-- The parts of `sound`, the names of other functions apart.
pub record Sound (f : Func) : Type 0 where
  pub placed : T f.placed
  pub registers : length f.registers ≤ max_registers
  pub blocks : length f.blocks ≤ max_blocks
  pub rows : length (rows_of f) ≤ max_rows
  pub entries : entry_count f ≤ max_entries
  pub mark : f.ssa < 2
  pub result : f.result ≤ void
  pub params : f.params ≤ length f.registers
  pub types : T (all (λ r. ltb r.type type_count) f.registers)
  pub ranges : T (all (in_range f) (rows_of f))
  pub entry : f.entry < length f.blocks
  pub unnamed : T (empty (block_at f f.entry).name)
  pub name : T (spellable f.name)
  pub register_names : T (all (λ r. spellable_or_none r.name) f.registers)
  pub block_names : T (all (λ b. spellable_or_none b.name) f.blocks)
  pub registers_distinct : T (distinct (map (λ r. r.name) f.registers))
  pub blocks_distinct : T (distinct (map (λ b. b.name) f.blocks))

-- Other functions' names are a part of their own.
pub sound_parts : (names : List (List ℕ)) (f : Func) → T (sound names f) → Sound f
unfolding sound sizes_right numbers_right entry_right names_right
sound_parts names f h = search (and_l, and_r, leb→le) depth 9

pub sound_apart : (names : List (List ℕ)) (f : Func) → T (sound names f) → T (not (any (same f.name) names))
unfolding sound
sound_apart names f h = search and_r

pub parts_sound_among : (names : List (List ℕ)) (f : Func) → Sound f → T (not (any (same f.name) names)) → T (sound names f)
unfolding sound sizes_right numbers_right entry_right names_right
parts_sound_among names f h g = search (and_i, le→leb) depth 9

pub parts_sound : (f : Func) → Sound f → T (sound [] f)
parts_sound f h = parts_sound_among [] f h tt

-- 9 of a row is 9 of the function's rows.
pub all_in_range :
    (f : Func)
    → T (all (in_range f) (rows_of f))
    → (b j : ℕ)
    → j < length (rows_at f b)
    → breaks9 f (spot_at f b j) ≡ false
unfolding breaks9 rows_of
all_in_range f h b j l =
    let rows = every_gathered (λ k. k.rows) f.blocks (every_all (in_range f) (rows_of f) h) in
    not_is_false (in_range f (get_or (rows_at f b) j Row.nop)) (every_at (every_at rows no_block b (in_blocks f b j l)) Row.nop j l)

-- ---- one function

-- 10 of every row, from 10 of every block.
pub no_10 :
    (f : Func)
    → Every (Terminated f) (below (length f.blocks))
    → (b j : ℕ)
    → j < length (rows_at f b)
    → breaks10 f (spot_at f b j) ≡ false
unfolding spots_of
no_10 f h = at_spots f (every_gather (spots_in f) (every_imp (λ b t. t.rows) h))

-- The faults of a function against its being clean, both ways.
clean_of_faults : (f : Func) → Sound f → Every (λ l. l ≡ []) (faults f) → Clean f
unfolding faults
clean_of_faults f h (more e10 (more e11 (more e12 (more e13 (more e14 (more e15 (more e16 (more e17 none)))))))) =
    let ends = no_faults10 f e10 in
    record {
      head = parts_sound f h;
      filled = λ b l. (every_below_at (length f.blocks) ends b l).filled;
      rows =
          λ b j l. passes f (spot_at f b j) (all_in_range f h.ranges b j l) (no_10 f ends b j l)
          (no_rows f (breaks11 f) e11 b j l)
          (no_rows f (breaks12 f) e12 b j l)
          (no_rows f (breaks13 f) e13 b j l)
          (no_rows f (breaks14 f) e14 b j l)
          (no_rows f (breaks15 f) e15 b j l)
          (no_rows f (breaks16 f) e16 b j l);
      paths = no_rows f (breaks17 f) e17;
    }

faults_of_clean : (f : Func) → Clean f → Every (λ l. l ≡ []) (faults f)
unfolding faults
faults_of_clean f c =
    let row : (b j : ℕ) → j < length (rows_at f b) → breaks_row f (spot_at f b j) ≡ false = c.rows in
    more (faults10_none f c.filled (λ b j l. passes_each f (spot_at f b j) (row b j l) 10 tt))
    (more (rows_none f (breaks11 f) (λ b j l. passes_each f (spot_at f b j) (row b j l) 11 tt))
    (more (rows_none f (breaks12 f) (λ b j l. passes_each f (spot_at f b j) (row b j l) 12 tt))
    (more (rows_none f (breaks13 f) (λ b j l. passes_each f (spot_at f b j) (row b j l) 13 tt))
    (more (rows_none f (breaks14 f) (λ b j l. passes_each f (spot_at f b j) (row b j l) 14 tt))
    (more (rows_none f (breaks15 f) (λ b j l. passes_each f (spot_at f b j) (row b j l) 15 tt))
    (more (rows_none f (breaks16 f) (λ b j l. passes_each f (spot_at f b j) (row b j l) 16 tt))
    (more (rows_none f (breaks17 f) c.paths) none)))))))

-- A verdict behind a test, or behind another verdict.
pub tested : (b : Bool) (v : Verdict) (k r : ℕ) → cond b v (Verdict.refused k r) ≡ Verdict.accepted → T b × (v ≡ Verdict.accepted)
tested true v k r e = (tt, e)
tested false v k r e = absurd (let z : ◌≡◌ {A = ℕ} 0 1 = cc in omega arith)

clean_of_judge : (names : List (List ℕ)) (i : ℕ) (f : Func) → judge names i f ≡ Verdict.accepted → Clean f
unfolding judge
clean_of_judge names i f e =
    let p = tested (sound names f) (first_fault i 10 (faults f)) 9 i e in
    clean_of_faults f (sound_parts names f p.0) (no_faults i 10 (faults f) p.1)

judge_of_clean : (names : List (List ℕ)) (i : ℕ) (f : Func) → T (sound names f) → Clean f → judge names i f ≡ Verdict.accepted
unfolding judge
judge_of_clean names i f h c =
    ap (λ b. cond b (first_fault i 10 (faults f)) (Verdict.refused 9 i)) (is_true (sound names f) h)
    ∙ faults_none i 10 (faults f) (faults_of_clean f c)

-- ---- the whole check

-- A program is accepted exactly if it has no more functions than it may, and each is clean and has a name of its own.
pub clean_of_check : (p : Program) (i : ℕ) → check p ≡ Verdict.accepted → i < length p → Clean (function_in p i)
clean_of_check p i e l = clean_of_judge (names_before p i) i (function_in p i) ((accepted_each p e).1 i l)

pub sound_of_check : (p : Program) (i : ℕ) → check p ≡ Verdict.accepted → i < length p → T (sound (names_before p i) (function_in p i))
unfolding judge
sound_of_check p i e l =
    let f = function_in p i in
    (tested (sound (names_before p i) f) (first_fault i 10 (faults f)) 9 i ((accepted_each p e).1 i l)).0

pub check_of_clean :
    (p : Program)
    → length p ≤ max_functions
    → ((i : ℕ) → i < length p → T (sound (names_before p i) (function_in p i)))
    → ((i : ℕ) → i < length p → Clean (function_in p i))
    → check p ≡ Verdict.accepted
check_of_clean p h s c = each_accepted p h (λ i l. judge_of_clean (names_before p i) i (function_in p i) (s i l) (c i l))

-- A clean function alone is accepted.
pub alone_accepted : (f : Func) → Clean f → check (f ∷ []) ≡ Verdict.accepted
alone_accepted f c =
    check_of_clean (f ∷ []) (lit≤ tt) (λ i l. first i l (λ i. T (sound (names_before (f ∷ []) i) (function_in (f ∷ []) i))) c.head)
    (λ i l. first i l (λ i. Clean (function_in (f ∷ []) i)) c)
  where
    first : (i : ℕ) → i < 1 → (P : ℕ → Type 0) → P 0 → P i
    first i l P h = subst P (let e : ◌≡◌ {A = ℕ} 0 i = omega arith in e) h

-- A table that passes its check holds a program that does.
pub accepted_program : (t : List ℕ) → check_answer t ≡ Verdict.accepted → check (decode t) ≡ Verdict.accepted
unfolding check_answer
accepted_program t e = (tested (eqb (length t) table_length) (check (decode t)) 9 0 e).1
