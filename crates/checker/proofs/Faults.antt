-- What is noted of a function's rows is the first of its faults from 10 to 16.
-- Assumes nothing.
use mathlib.Core.Bool.{Bool, true, false, cond}
use mathlib.Core.Path.{◌≡◌, refl, sym, ap, ◌∙◌}
use mathlib.Core.List.{List, [], ◌∷◌, ◌++◌, map, foldl, foldl-append, foldl-map}
use Prim.Native.Nat.{ℕ, zero, ◌<◌}
use lib.Dec.{T, lit<}
use borrow.Author.Tests.{eq-eqb}
use lib.ListN.{length}
use Rattle.laws.specs.Lists.{all, keep, gather, below, empty}
use Rattle.laws.proofs.Every.{Every, none, more, every_below_at}
use Rattle.laws.proofs.Gather.{keep_gather, map_gather}
use Rattle.language.specs.Programs.{Row, Func, is_ssa, rows_at, rows_of, first_row}
use Rattle.language.specs.Checking.{Spot, spot_at, in_range, spots_from, spots_in, spots_of, row_number, breaks10, breaks11, breaks12, breaks13, breaks14, breaks15, breaks16, breaks17, rows_that, faults10, faults, first_fault}
use Rattle.theorems.proofs.AcceptanceCheck.{passes, no_faults, no_rows, no_faults10, no_10, all_in_range}
use Rattle.rules.specs.Tests.{form_fault}
use Rattle.paths.specs.Formed.{Formed}
use Rattle.checker.specs.Notes.{Lowest}
use Rattle.checker.specs.Notes.{unbroken, noted, noted_row, noted_in, noted_of}
use Rattle.checker.proofs.Notes.{column, note, answer, first_noted}

-- What is noted of: a row, or a block with no rows.
data Item : Type 0 where
  row : Spot → Item
  gap : ℕ → Item

-- A test of the rows, and what it is of a block without them.
abbrev holds : Bool → (Spot → Bool) → Item → Bool
holds d p (row s) = p s
holds d p (gap b) = d

module _ (f : Func) where
  abbrev place : Item → ℕ
  place (row s) = row_number f s
  place (gap b) = first_row f b

  abbrev items_of : ℕ → List Row → List Item
  items_of b [] = gap b ∷ []
  items_of b (r ∷ rs) = map row (spots_from b zero (r ∷ rs))

  abbrev items : ℕ → List Item
  items b = items_of b (rows_at f b)

  tests : List (Item → Bool)
  tests =
      holds true (breaks10 f) ∷ holds false (breaks11 f) ∷ holds false (breaks12 f) ∷ holds false (breaks13 f) ∷ holds false (breaks14 f)
      ∷ holds false (breaks15 f)
      ∷ holds false (breaks16 f)
      ∷ []

  -- The rows of a block that pass a test.
  kept : (d : Bool) (p : Spot → Bool) (xs : List Spot) → column place (holds d p) (map row xs) ≡ map (row_number f) (keep p xs)
  kept d p [] = refl
  kept d p (x ∷ xs) = by (p x) (kept d p xs)
    where
      by :
          (b : Bool)
          → column place (holds d p) (map row xs) ≡ map (row_number f) (keep p xs)
          → map place (cond b (row x ∷ keep (holds d p) (map row xs)) (keep (holds d p) (map row xs)))
          ≡ map (row_number f) (cond b (x ∷ keep p xs) (keep p xs))
      by true e = ap {B = List ℕ} (λ l. row_number f x ∷ l) e
      by false e = e

  column_in : (p : Spot → Bool) (b : ℕ) (rs : List Row) → column place (holds false p) (items_of b rs) ≡ map (row_number f) (keep p (spots_from b zero rs))
  column_in p b [] = refl
  column_in p b (r ∷ rs) = kept false p (spots_from b zero (r ∷ rs))

  column10_in :
      (b : ℕ) (rs : List Row)
      → column place (holds true (breaks10 f)) (items_of b rs)
      ≡ cond (empty rs) (first_row f b ∷ []) (map (row_number f) (keep (breaks10 f) (spots_from b zero rs)))
  column10_in b [] = refl
  column10_in b (r ∷ rs) = kept true (breaks10 f) (spots_from b zero (r ∷ rs))

  -- The rows of the function that pass a test, block by block.
  column_by : (p : Item → Bool) (bs : List ℕ) → column place p (gather items bs) ≡ gather (λ b. column place p (items b)) bs
  column_by p bs = ap (map place) (keep_gather p items bs) ∙ map_gather place (λ b. keep p (items b)) bs

  column_rows : (p : Spot → Bool) → column place (holds false p) (gather items (below (length f.blocks))) ≡ rows_that f p
  unfolding rows_that spots_of spots_in
  column_rows p =
      let bs = below (length f.blocks) in
      column_by (holds false p) bs
      ∙ ap (λ g. gather g bs) (λ j b. column_in p b (rows_at f b) j)
      ∙ sym (ap (map (row_number f)) (keep_gather p (spots_in f) bs) ∙ map_gather (row_number f) (λ b. keep p (spots_in f b)) bs)

  column_10 : column place (holds true (breaks10 f)) (gather items (below (length f.blocks))) ≡ gather (faults10 f) (below (length f.blocks))
  unfolding faults10 spots_in
  column_10 =
      let bs = below (length f.blocks) in
      column_by (holds true (breaks10 f)) bs ∙ ap (λ g. gather g bs) (λ j b. column10_in b (rows_at f b) j)

  -- ---- noted

  notes : Lowest → Item → Lowest
  unfolding tests
  notes = note place 10 tests

  noted_items : (s : Lowest) (b : ℕ) → foldl notes s (items b) ≡ noted_in f s b
  unfolding notes tests noted_in form_fault spots_in
  noted_items s b = by (rows_at f b)
    where
      by : (rs : List Row) → foldl notes s (items_of b rs) ≡ cond (empty rs) (noted s 10 (first_row f b)) (foldl (noted_row f) s (spots_from b zero rs))
      by [] = refl
      by (r ∷ rs) = foldl-map row notes (spots_from b zero (r ∷ rs)) s

  noted_all : (s : Lowest) (bs : List ℕ) → foldl notes s (gather items bs) ≡ foldl (noted_in f) s bs
  noted_all s [] = refl
  noted_all s (b ∷ bs) =
      foldl-append notes s (items b) (gather items bs) ∙ noted_all (foldl notes s (items b)) bs
      ∙ ap (λ z. foldl (noted_in f) z bs) (noted_items s b)

  -- The lists of faults for 10 to 16.
  forms : List (List ℕ)
  forms =
      gather (faults10 f) (below (length f.blocks)) ∷ rows_that f (breaks11 f) ∷ rows_that f (breaks12 f) ∷ rows_that f (breaks13 f)
      ∷ rows_that f (breaks14 f)
      ∷ rows_that f (breaks15 f)
      ∷ rows_that f (breaks16 f)
      ∷ []

  first_form : (i : ℕ) (rest : List (List ℕ)) → first_fault i 10 (forms ++ rest) ≡ answer i 17 (noted_of f) rest
  unfolding forms noted_of notes tests
  first_form i rest =
      let bs = below (length f.blocks) in
      let lists : map (λ p. column place p (gather items bs)) tests ≡ forms =
      λ j. column_10 j ∷ column_rows (breaks11 f) j ∷ column_rows (breaks12 f) j ∷ column_rows (breaks13 f) j ∷ column_rows (breaks14 f) j
      ∷ column_rows (breaks15 f) j
      ∷ column_rows (breaks16 f) j
      ∷ [] in
      ap (λ l. first_fault i 10 (l ++ rest)) (sym lists) ∙ first_noted place i 10 tests unbroken (gather items bs) rest (lit< tt) refl
      ∙ ap (λ s. answer i 17 s rest) (noted_all unbroken bs)

  pub first_fault_law : (i : ℕ) → first_fault i 10 (faults f) ≡ answer i 17 (noted_of f) (rows_that f (breaks17 f) ∷ [])
  unfolding faults forms
  first_fault_law i = first_form i (rows_that f (breaks17 f) ∷ [])

  -- Nothing noted: no row breaks 10 to 16, and every block has rows.
  no_forms : (noted_of f).number ≡ 17 → Every (λ l. l ≡ []) forms
  unfolding forms
  no_forms e = no_faults 0 10 forms (first_form 0 [] ∙ rw (eq-eqb (noted_of f).number 17 e))

  pub formed : T (is_ssa f) → f.entry < length f.blocks → T (all (in_range f) (rows_of f)) → (noted_of f).number ≡ 17 → Formed f
  unfolding forms
  formed s l h e = by (no_forms e)
    where
      by : Every (λ l. l ≡ []) forms → Formed f
      by (more e10 (more e11 (more e12 (more e13 (more e14 (more e15 (more e16 none))))))) =
          let ends = no_faults10 f e10 in
          record {
            ssa = s;
            entry = l;
            filled = λ b l. (every_below_at (length f.blocks) ends b l).filled;
            rows =
                λ b j l. passes f (spot_at f b j) (all_in_range f h b j l) (no_10 f ends b j l) (no_rows f (breaks11 f) e11 b j l)
                (no_rows f (breaks12 f) e12 b j l)
                (no_rows f (breaks13 f) e13 b j l)
                (no_rows f (breaks14 f) e14 b j l)
                (no_rows f (breaks15 f) e15 b j l)
                (no_rows f (breaks16 f) e16 b j l);
          }
