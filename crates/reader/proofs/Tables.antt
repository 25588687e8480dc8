-- A table with functions closed: where the cells of the function in hand lie in it, and what it is with one function more.
-- Assumes nothing.
use mathlib.Core.Path.{◌≡◌, refl, sym, ap, ◌∙◌}
use mathlib.Core.Bool.{Bool, true, false, cond}
use mathlib.Core.List.{List, [], ◌∷◌, ◌++◌, append-nil, append_assoc}
use Prim.Native.Nat.{ℕ, ◌+◌, ◌-◌, ◌*◌, ◌≤◌, ◌<◌}
use native.Mathlib.Decide.{dec_lt}
use native.Mathlib.Omega.{arith}
use lib.Dec.{ltb}
use lib.ListN.{length, get_or, set, take, drop, replicate, length-append, length-replicate, get_or-append}
use lib.Seq.{take_at, drop_at, get_or-append_seam}
use borrow.Author.Tests.{lt-ltb, le-ltb}
use borrow.Rule.Slice.PartMut.{mid_of, put_mid}
use Rattle.laws.specs.Lists.{gather}
use Rattle.laws.specs.Sections.{pad}
use Rattle.laws.proofs.Appending.{gather_append}
use Rattle.laws.proofs.Storing.{pad_is, pad_zeros, length_each}
use Rattle.language.specs.Answers.{zeros}
use Rattle.language.specs.Programs.{Func, no_function, max_functions}
use Rattle.language.specs.Table.{function_at, function_length, functions_length, table_length, function_cells, cells}
use Rattle.reader.specs.Text.{end_of, table_with}

abbrev pub Whole : List Func → Type 0
Whole fs = (g : Func) (i : ℕ) → i < length fs → length (function_cells (get_or fs i g)) ≡ function_length

-- How many cells the function in hand has, so many being closed: behind the last there are none.
abbrev pub slot_length : ℕ → ℕ
slot_length n = cond (ltb n max_functions) function_length 0

pub end_is : (n : ℕ) → end_of n ≡ function_at n + slot_length n
end_is n = by (ltb n max_functions)
  where
    by : (b : Bool) → cond b (function_at n + function_length) (function_at n) ≡ function_at n + cond b function_length 0
    by true = refl
    by false = omega arith

slot_fits : (n : ℕ) → n ≤ max_functions → function_length * n + slot_length n ≤ functions_length
slot_fits n h = by (dec_lt n max_functions)
  where
    by : Dec (n < max_functions) → function_length * n + slot_length n ≤ functions_length
    by (yes c) = rw (lt-ltb n max_functions c) (omega arith)
    by (no c) = rw (le-ltb n max_functions (omega arith)) (omega arith)

pub length_slot : (n : ℕ) → length (zeros (slot_length n)) ≡ slot_length n
unfolding zeros
length_slot n = length-replicate (slot_length n) 0

-- ---- the slot

module _ (fs : List Func) (few : length fs ≤ max_functions) (whole : Whole fs) where
  abbrev closed_cells : List ℕ
  closed_cells = gather function_cells fs

  length_closed : length closed_cells ≡ function_length * length fs
  length_closed = length_each function_cells function_length no_function fs (whole no_function)

  abbrev zeros_behind : List ℕ
  zeros_behind = replicate (functions_length - (function_length * length fs + slot_length (length fs))) 0

  parts : (f : List ℕ) → length f ≡ slot_length (length fs) → table_with fs f ≡ (0 ∷ closed_cells) ++ (f ++ zeros_behind)
  unfolding table_with
  parts f l =
      ap (λ (r : List ℕ). 0 ∷ r)
      (pad_is functions_length (closed_cells ++ f) (functions_length - (function_length * length fs + slot_length (length fs)))
      (simp length-append (omega (arith, length_closed, l, slot_fits (length fs) few)))
      ∙ append_assoc closed_cells f zeros_behind)

  module _ {a e : ℕ} (p : a ≡ function_at (length fs)) (q : e ≡ end_of (length fs)) {t : List ℕ} (f : List ℕ) (l : length f ≡ slot_length (length fs)) (is : t ≡ table_with fs f) where
    begins : a ≡ length (0 ∷ closed_cells)
    begins = omega (arith, p, length_closed)

    as_long : e - a ≡ length f
    as_long = omega (arith, p, q, end_is (length fs), l)

    behind : drop a t ≡ f ++ zeros_behind
    behind = ap (drop a) (is ∙ parts f l) ∙ drop_at (0 ∷ closed_cells) (f ++ zeros_behind) a (sym begins)

    -- the part that is lent,
    pub in_slot : mid_of a (e - a) t ≡ f
    in_slot = ap (take (e - a)) behind ∙ take_at f zeros_behind (e - a) (sym as_long)

    -- and what is put back
    pub slot_back : (f' : List ℕ) → length f' ≡ length f → put_mid a (e - a) t f' ≡ table_with fs f'
    slot_back f' m =
        let before : take a t ≡ 0 ∷ closed_cells = ap (take a) (is ∙ parts f l) ∙ take_at (0 ∷ closed_cells) (f ++ zeros_behind) a (sym begins) in
        let rest : drop (e - a) (drop a t) ≡ zeros_behind = ap (drop (e - a)) behind ∙ drop_at f zeros_behind (e - a) (sym as_long) in
        rw (before, rest) (sym (parts f' (m ∙ l)))

    pub slot_within : (a ≤ e) × (e ≤ length t)
    slot_within = (omega (arith, p, q, end_is (length fs)), rw (is ∙ parts f l) (simp (length-append, length-replicate) (omega (arith, p, q, end_is (length fs), length_closed, l, slot_fits (length fs) few))))

  -- zeros at the end need no store
  pub slot_zero : table_with fs (zeros (slot_length (length fs))) ≡ table_with fs []
  unfolding table_with zeros
  slot_zero =
      ap (λ (r : List ℕ). 0 ∷ r)
      (pad_zeros functions_length closed_cells (slot_length (length fs)) (omega (arith, length_closed, slot_fits (length fs) few))
      ∙ ap (pad functions_length) (sym (append-nil closed_cells)))

-- ---- one function more

pub whole_more : (fs : List Func) (g : Func) → Whole fs → length (function_cells g) ≡ function_length → Whole (fs ++ (g ∷ []))
whole_more fs g h l z i b = by (dec_lt i (length fs))
  where
    by : Dec (i < length fs) → length (function_cells (get_or (fs ++ (g ∷ [])) i z)) ≡ function_length
    by (yes c) = rw (get_or-append fs (g ∷ []) z i c) (h z i c)
    by (no c) =
        let e : i ≡ length fs = omega (arith, length-append fs (g ∷ [])) in
        rw (e, get_or-append_seam fs g [] z) l

-- the cells of the one that is closed stand where those of the one in hand stood
pub table_more : (fs : List Func) (g : Func) → table_with fs (function_cells g) ≡ table_with (fs ++ (g ∷ [])) []
unfolding table_with
table_more fs g =
    ap (λ (r : List ℕ). 0 ∷ pad functions_length r)
    (sym (append-nil (gather function_cells (fs ++ (g ∷ []))) ∙ gather_append function_cells fs (g ∷ []) ∙ ap (λ (r : List ℕ). gather function_cells fs ++ r) (append-nil (function_cells g))))

-- ---- the first and the last

pub table_start : zeros table_length ≡ table_with [] []
unfolding table_with zeros
table_start = ap (λ (r : List ℕ). 0 ∷ r) (sym (pad_is functions_length [] functions_length refl))

pub table_end : (p : List Func) → set (table_with p []) 0 (length p) ≡ cells p
unfolding table_with cells
table_end p = ap (λ (r : List ℕ). length p ∷ pad functions_length r) (append-nil (gather function_cells p))
