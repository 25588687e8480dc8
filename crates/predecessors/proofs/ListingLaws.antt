-- One block more in a list that stands in a table, and all lists as far as one block more gives them.
-- Assumes nothing.
use mathlib.Core.Bool.{Bool, true, false, cond, ◌||◌}
use mathlib.Core.Path.{◌≡◌, refl, sym, ap, ◌∙◌}
use mathlib.Core.List.{List, [], ◌∷◌, ◌++◌, append_assoc}
use Prim.Native.Nat.{ℕ, zero, suc, ◌+◌, ◌-◌, ◌*◌, ◌≤◌, ◌<◌}
use native.Mathlib.Omega.{arith}
use native.Mathlib.Nat.{zero-add}
use native.Mathlib.Numerals.{add-one}
use lib.Dec.{eqb, leb}
use lib.ListN.{length, get_or, take, set, replicate, length-append, length-set, take-append-drop}
use lib.Seq.{sets, set_at, set-append_left, ext_get_or, get_or-set_same, get_or-set_other, length-take-le}
use borrow.Author.Tests.{eqb-true, eqb-false, leb-true, leb-false, lt-leb}
use Rattle.laws.specs.Lists.{member}
use Rattle.laws.specs.Sections.{At, pad}
use Rattle.laws.proofs.Indexing.{set_append_add}
use Rattle.laws.proofs.Ranges.{length_map_from, get_or_map_from, map_from_same}
use Rattle.laws.proofs.Sections.{at_self, at_left, at_right, at_move}
use Rattle.laws.proofs.Storing.{pad_is, sets_middle, stored_left, stored_right}
use Rattle.language.specs.Programs.{Func, Row, max_blocks, max_rows, named_by, rows_at, rows_of, first_row}
use Rattle.language.specs.Table.{predecessor_cells, cells_listing, predecessor_lists, predecessor_count, InTable, block_count, block_first, block_rows, decode_row, decode_function}
use Rattle.language.specs.Table.{block_length, block_count_offset, predecessors_offset, predecessors_length}
use Rattle.language.specs.Checking.{goes_to, last_row, predecessors}
use Rattle.language.proofs.TableLaws.{length_predecessors}
use Rattle.language.proofs.TableView.{block_rows_count, block_row_is}
use Rattle.theorems.specs.TableLaw.{ListsFit}
use Rattle.theorems.proofs.TableFunction.{length_listing, list_at, predecessor_count_at, block_count_at, block_first_at, block_rows_at, named_at, rows_within, row_of_block}
use Rattle.theorems.proofs.SimulationRows.{last_row_at}
use Rattle.predecessors.specs.Ends.{GoesOn}
use Rattle.predecessors.specs.Ranked.{ranked_before, lists_before}
use Rattle.predecessors.specs.Listing.{FunctionStands, next_listed}
use Rattle.predecessors.proofs.RankedLaws.{ranked_suc, ranked_length, ranked_all}
use Rattle.predecessors.proofs.ListedLaws.{list_in_cells}

no_last : (rows : List Row) → length rows ≡ 0 → last_row rows ≡ Row.nop
no_last [] e = refl
no_last (r ∷ rows) e = absurd (omega arith)

-- ---- one number more, by two stores

-- the number goes behind the list, then the count is one more
list_grows : (list : List ℕ) (x : ℕ) → length list < 64
    → set (set (predecessor_cells list) (suc (length list)) x) 0 (length list + 1) ≡ predecessor_cells (list ++ (x ∷ []))
unfolding predecessor_cells
list_grows list x h =
    let k : ℕ = 63 - length list in
    let old : pad 64 list ≡ list ++ (0 ∷ replicate k 0) = pad_is 64 list (suc k) (omega arith) in
    let new : pad 64 (list ++ (x ∷ [])) ≡ list ++ (x ∷ replicate k 0) =
    pad_is 64 (list ++ (x ∷ [])) k (simp length-append (omega arith)) ∙ append_assoc list (x ∷ []) (replicate k 0) in
    let stored : set (pad 64 list) (length list) x ≡ list ++ (x ∷ replicate k 0) = ap (λ l. set l (length list) x) old ∙ set_at list 0 (replicate k 0) x (length list) refl in
    rw (stored, new, length-append list (x ∷ []))

-- in a longer list
list_grows_at : (t : List ℕ) (p : ℕ) (list : List ℕ) (x : ℕ) → length list < 64 → p + predecessors_length ≤ length t → At t p (predecessor_cells list)
    → set (set t (p + 1 + length list) x) p (length list + 1) ≡ sets t p (predecessor_cells (list ++ (x ∷ [])))
list_grows_at t p list x h r at =
    let before : List ℕ = take p t in
    let old : List ℕ = predecessor_cells list in
    let new : List ℕ = predecessor_cells (list ++ (x ∷ [])) in
    let behind : List ℕ = at.rest in
    let size : length before ≡ p = length-take-le p t (omega arith) in
    let whole : t ≡ before ++ (old ++ behind) = sym (take-append-drop p t) ∙ ap (λ l. before ++ l) at.holds in
    let long : length old ≡ predecessors_length = length_predecessors list (omega arith) in
    let place : p + 1 + length list ≡ length before + suc (length list) = omega arith in
    let first : set t (p + 1 + length list) x ≡ before ++ (set old (suc (length list)) x ++ behind) =
    rw (place) (ap (λ l. set l (length before + suc (length list)) x) whole
    ∙ set_append_add before (old ++ behind) (suc (length list)) x
    ∙ ap (λ l. before ++ l) (set-append_left old behind (suc (length list)) x (omega arith))) in
    let second : set (before ++ (set old (suc (length list)) x ++ behind)) p (length list + 1) ≡ before ++ (new ++ behind) =
    ap (λ k. set (before ++ (set old (suc (length list)) x ++ behind)) k (length list + 1)) (sym (omega (arith, size)))
    ∙ set_append_add before (set old (suc (length list)) x ++ behind) 0 (length list + 1)
    ∙ ap (λ l. before ++ l) (set-append_left (set old (suc (length list)) x) behind 0 (length list + 1) (simp length-set (omega arith)) ∙ ap (λ l. l ++ behind) (list_grows list x h)) in
    ap (λ l. set l p (length list + 1)) first ∙ second
    ∙ sym (ap (λ l. sets l p new) whole ∙ sets_middle new before old behind (long ∙ sym (length_predecessors (list ++ (x ∷ [])) (simp length-append (omega arith)))) (sym size))

-- ---- one number more in the table of a function

-- block x behind the list of block y, if y is a block
abbrev pub grown : List (List ℕ) → (n y x : ℕ) → List (List ℕ)
grown lists n y x = cond (leb n y) lists (set lists y (get_or lists y [] ++ (x ∷ [])))

module _ {t : List ℕ} {a : ℕ} {lists : List (List ℕ)} {g : Func} {before behind : List ℕ} (s : FunctionStands t a lists g before behind) (fit : ListsFit lists g) where
  pub stands_at : At t a (cells_listing lists g)
  stands_at =
      at_left (cells_listing lists g) behind
      (at_move (zero-add (length before) ∙ s.place)
      (at_right before (cells_listing lists g ++ behind) (rw s.cells at_self)))

  pub stands_within : InTable t a
  stands_within = rw s.cells (simp length-append (omega (arith, s.place, length_listing g s.laid lists fit)))

  -- ---- the same blocks are gone to

  same_rows : (x : ℕ) → x < length g.blocks → length (rows_at (decode_function t a) x) ≡ length (rows_at g x)
  same_rows x l =
      let here : x < block_count t a = rw (block_count_at g s.laid lists fit a stands_at) l in
      block_rows_count t a x here ∙ block_rows_at g s.laid lists fit a stands_at x l

  last_named : (x : ℕ) → x < length g.blocks → named_by (last_row (rows_at (decode_function t a) x)) ≡ named_by (last_row (rows_at g x))
  last_named x l = by (length (rows_at g x)) refl
    where
      by : (n : ℕ) → length (rows_at g x) ≡ n → named_by (last_row (rows_at (decode_function t a) x)) ≡ named_by (last_row (rows_at g x))
      by zero e = ap named_by (no_last (rows_at (decode_function t a) x) (same_rows x l ∙ e) ∙ sym (no_last (rows_at g x) e))
      by (suc n) e =
          let here : x < block_count t a = rw (block_count_at g s.laid lists fit a stands_at) l in
          let inside : n < length (rows_at g x) = omega arith in
          let rows : block_rows t a x ≡ length (rows_at g x) = block_rows_at g s.laid lists fit a stands_at x l in
          let k : ℕ = first_row g x + n in
          let within : k < length (rows_of g) = omega (arith, rows_within g x l) in
          ap named_by (last_row_at (rows_at (decode_function t a) x) n (sym (same_rows x l ∙ e)) ∙ block_row_is t a x here n (omega arith))
          ∙ ap (λ f. named_by (decode_row t a (f + n))) (block_first_at g s.laid lists fit a stands_at x l)
          ∙ named_at g s.laid lists fit a stands_at k within
          ∙ ap named_by (row_of_block g x n inside ∙ sym (last_row_at (rows_at g x) n (sym e)))

  same_targets : (x y : ℕ) → x < length g.blocks → goes_to (decode_function t a) x y ≡ goes_to g x y
  unfolding goes_to
  same_targets x y l = ap (member y) (last_named x l)

  pub goes_on : {x first second : ℕ} → x < length g.blocks → GoesOn (decode_function t a) x first second → GoesOn g x first second
  goes_on {x} l h = record { goes = λ y b. sym (same_targets x y l) ∙ h.goes y b; once = h.once }

  -- ---- one number more

  pub next_stands : (n y x : ℕ) → n ≡ length g.blocks → (y < n → length (get_or lists y []) < 64) → FunctionStands (next_listed t a n y x) a (grown lists n y x) g before behind
  unfolding next_listed
  next_stands n y x e h = by (leb n y) refl
    where
      p : ℕ
      p = a + predecessors_offset + block_length * y

      c : ℕ
      c = predecessor_count t a y

      by : (b : Bool) → leb n y ≡ b
          → FunctionStands (cond b t (cond (leb max_blocks c) t (set (set t (p + 1 + c) x) p (c + 1)))) a (cond b lists (set lists y (get_or lists y [] ++ (x ∷ [])))) g before behind
      by true q = s
      by false q =
          let l : y < length g.blocks = omega (arith, leb-false n y q, e) in
          let old : List ℕ = get_or lists y [] in
          let new : List ℕ = old ++ (x ∷ []) in
          let count : predecessor_count t a y ≡ length old = predecessor_count_at g s.laid lists fit a stands_at y l in
          let room : length old < 64 = h (omega arith) in
          let short : length new ≤ 64 = simp length-append (omega arith) in
          let stored = stored_right (stored_left (list_in_cells g s.laid lists fit y l new short) behind
          (omega (arith, length_listing g s.laid lists fit, length_predecessors new short, s.laid.block_count))) before {m = p} (omega (arith, s.place)) in
          record {
            laid = s.laid;
            place = s.place;
            cells =
                rw (count, lt-leb max_blocks (length old) room)
                (list_grows_at t p old x room (omega (arith, stands_within, s.laid.block_count)) (list_at g s.laid lists fit a stands_at y l)
                ∙ ap (λ u. sets u p (predecessor_cells new)) s.cells
                ∙ sym stored.cells);
          }

-- ---- lists, one block more

module _ (lists : List (List ℕ)) (n y x : ℕ) where
  pub length_grown : length (grown lists n y x) ≡ length lists
  length_grown = by (leb n y)
    where
      by : (b : Bool) → length (cond b lists (set lists y (get_or lists y [] ++ (x ∷ [])))) ≡ length lists
      by true = refl
      by false = length-set lists y (get_or lists y [] ++ (x ∷ []))

  -- the list of block b
  pub grown_at : (b : ℕ) → n ≡ length lists → b < n → get_or (grown lists n y x) b [] ≡ cond (eqb y b) (get_or lists b [] ++ (x ∷ [])) (get_or lists b [])
  grown_at b e l = by (leb n y) refl (eqb y b) refl
    where
      by : (c : Bool) → leb n y ≡ c → (d : Bool) → eqb y b ≡ d
          → get_or (cond c lists (set lists y (get_or lists y [] ++ (x ∷ [])))) b [] ≡ cond d (get_or lists b [] ++ (x ∷ [])) (get_or lists b [])
      by true q true r = absurd (omega (arith, leb-true n y q, eqb-true y b r))
      by true q false r = refl
      by false q true r =
          let same : y ≡ b = eqb-true y b r in
          rw same (get_or-set_same lists b (get_or lists b [] ++ (x ∷ [])) [] (omega arith))
      by false q false r = get_or-set_other lists y b (get_or lists y [] ++ (x ∷ [])) [] (λ i. eqb-false y b r (sym i))

module _ (g : Func) (x : ℕ) where
  pub length_before : length (lists_before g x) ≡ length g.blocks
  unfolding lists_before
  length_before = length_map_from (ranked_before g x) 0 (length g.blocks)

  pub before_at : (b : ℕ) → b < length g.blocks → get_or (lists_before g x) b [] ≡ ranked_before g x b
  unfolding lists_before
  before_at b l = get_or_map_from (ranked_before g x) [] 0 (length g.blocks) b l ∙ ap (ranked_before g x) (zero-add b)

  -- no block has more than there are
  pub before_fit : x ≤ max_blocks → ListsFit (lists_before g x) g
  before_fit h = record { count = length_before; short = λ b l. rw (before_at b l) (omega (arith, ranked_length g x b)) }

-- with all blocks they are document 01's
pub before_all : (g : Func) → lists_before g (length g.blocks) ≡ predecessor_lists g
unfolding lists_before predecessor_lists
before_all g = map_from_same (ranked_before g (length g.blocks)) (predecessors g) 0 (length g.blocks) (λ i l. ranked_all g (0 + i))

module _ (g : Func) (x first second n : ℕ) (e : n ≡ length g.blocks) (few : n ≤ 64) (h : GoesOn g x first second) where
  abbrev once : List (List ℕ)
  once = grown (lists_before g x) n first x

  length_once : n ≡ length once
  length_once = e ∙ sym (length_grown (lists_before g x) n first x ∙ length_before g x)

  once_at : (b : ℕ) → b < n → get_or once b [] ≡ cond (eqb first b) (ranked_before g x b ++ (x ∷ [])) (ranked_before g x b)
  once_at b l =
      grown_at (lists_before g x) n first x b (e ∙ sym (length_before g x)) l
      ∙ ap (λ r. cond (eqb first b) (r ++ (x ∷ [])) r) (before_at g x b (omega arith))

  both_at : (b : ℕ) → b < n → get_or (grown once n second x) b [] ≡ ranked_before g (suc x) b
  both_at b l =
      grown_at once n second x b length_once l
      ∙ ap (λ r. cond (eqb second b) (r ++ (x ∷ [])) r) (once_at b l)
      ∙ by (eqb first b) refl (eqb second b) refl (ranked_before g x b)
      ∙ sym (ap (λ c. cond c (ranked_before g x b ++ (x ∷ [])) (ranked_before g x b)) (h.goes b (omega arith)))
      ∙ sym (ranked_suc g x b)
    where
      by : (c : Bool) → eqb first b ≡ c → (d : Bool) → eqb second b ≡ d → (r : List ℕ)
          → cond d (cond c (r ++ (x ∷ [])) r ++ (x ∷ [])) (cond c (r ++ (x ∷ [])) r) ≡ cond (c || d) (r ++ (x ∷ [])) r
      by true p true q r = absurd (h.once (omega (arith, eqb-true first b p)) (eqb-true first b p ∙ sym (eqb-true second b q)))
      by true p false q r = refl
      by false p true q r = refl
      by false p false q r = refl

  pub lists_grow : grown once n second x ≡ lists_before g (suc x)
  lists_grow =
      ext_get_or [] (grown once n second x) (lists_before g (suc x)) (length_grown once n second x ∙ sym length_once ∙ e ∙ sym (length_before g (suc x)))
      (λ b l. let here : b < n = omega (arith, length_grown once n second x, length_once) in both_at b here ∙ sym (before_at g (suc x) b (omega arith)))

  -- there is room for one more
  pub first_room : x < 64 → first < n → length (get_or (lists_before g x) first []) < 64
  first_room q l = rw (before_at g x first (omega arith)) (omega (arith, ranked_length g x first))

  pub second_room : x < 64 → second < n → length (get_or once second []) < 64
  second_room q l = rw (once_at second l) (by (eqb first second) refl)
    where
      by : (c : Bool) → eqb first second ≡ c → length (cond c (ranked_before g x second ++ (x ∷ [])) (ranked_before g x second)) < 64
      by true p = absurd (h.once (omega (arith, eqb-true first second p)) (eqb-true first second p))
      by false p = omega (arith, ranked_length g x second)

  pub once_fit : x < n → ListsFit once g
  once_fit q =
      record { count = sym length_once ∙ e; short = λ b l. rw (once_at b (omega arith)) (by b (eqb first b)) }
    where
      by : (b : ℕ) (c : Bool) → length (cond c (ranked_before g x b ++ (x ∷ [])) (ranked_before g x b)) ≤ 64
      by b true = simp length-append (omega (arith, ranked_length g x b))
      by b false = omega (arith, ranked_length g x b)

-- ---- a block in hand: what the stores come to

-- a list is no head
pub next_count : (t : List ℕ) (a n y x : ℕ) → block_count (next_listed t a n y x) a ≡ block_count t a
unfolding next_listed
next_count t a n y x = by (leb n y) (leb max_blocks (predecessor_count t a y))
  where
    p : ℕ
    p = a + predecessors_offset + block_length * y

    c : ℕ
    c = predecessor_count t a y

    by : (b d : Bool) → block_count (cond b t (cond d t (set (set t (p + 1 + c) x) p (c + 1)))) a ≡ block_count t a
    by true d = refl
    by false true = refl
    by false false =
        get_or-set_other (set t (p + 1 + c) x) p (a + block_count_offset) (c + 1) 0 (λ e. absurd (omega arith))
        ∙ get_or-set_other t (p + 1 + c) (a + block_count_offset) x 0 (λ e. absurd (omega arith))

module _ {t : List ℕ} {a x : ℕ} {g : Func} {before behind : List ℕ} (s : FunctionStands t a (lists_before g x) g before behind) {n : ℕ} (count : n ≡ block_count t a) (few : n ≤ max_blocks) (l : x < n) where
  fit : ListsFit (lists_before g x) g
  fit = before_fit g x (omega arith)

  blocks : n ≡ length g.blocks
  blocks = count ∙ block_count_at g s.laid (lists_before g x) fit a (stands_at s fit)

  -- its rows are in sequence
  pub rows_right : block_first t a x + block_rows t a x ≤ max_rows
  rows_right =
      let at = stands_at s fit in
      let here : x < length g.blocks = omega (arith, blocks) in
      omega (
        arith,
        block_first_at g s.laid (lists_before g x) fit a at x here,
        block_rows_at g s.laid (lists_before g x) fit a at x here,
        rows_within g x here,
        s.laid.row_count,
      )

  pub block_listed :
      {first second : ℕ} → GoesOn (decode_function t a) x first second
      → {u v : List ℕ} → u ≡ next_listed t a n first x → v ≡ next_listed u a n second x
      → FunctionStands v a (lists_before g (x + 1)) g before behind
  block_listed {first} {second} found d f =
      let goes : GoesOn g x first second = goes_on s fit (omega (arith, blocks)) found in
      let once = next_stands s fit n first x blocks (first_room g x first second n blocks few goes (omega arith)) in
      let onceFit = once_fit g x first second n blocks few goes l in
      rw (f, d, add-one x, ← lists_grow g x first second n blocks few goes)
      (next_stands once onceFit n second x blocks (second_room g x first second n blocks few goes (omega arith)))
