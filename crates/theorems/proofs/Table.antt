-- The law of the table: each function stands at its place and is read back there.
-- Assumes nothing.
use mathlib.Core.Logic.{inr}
use mathlib.Core.Path.{◌≡◌, refl, ap, ◌∙◌}
use mathlib.Core.List.{[], ◌∷◌}
use Prim.Native.Nat.{ℕ, suc, ◌<◌}
use native.Mathlib.Nat.{zero-add}
use native.Mathlib.Omega.{arith}
use lib.ListN.{length, get_or}
use Rattle.laws.specs.Lists.{gather}
use Rattle.laws.specs.Sections.{At, Bytes, ZeroOr, pad}
use Rattle.laws.proofs.Ranges.{map_from}
use Rattle.laws.proofs.Sections.{at_self, at_right, at_pad, at_stride, gather_is_from, length_gather_from, length_pad, bytes_pad}
use Rattle.laws.proofs.Sections.{bytes_gather_from, zero_or_at, zero_or_pad, zero_or_stride, zero_or_map}
use Rattle.language.specs.Programs.{Func, Program, no_function}
use Rattle.language.specs.Table.{table_length, function_count, function_at, predecessor_lists, function_cells, cells, decode_function, decode, function_length, functions_length}
use Rattle.theorems.specs.TableLaw.{Laid, Fits, TableLaw}
use Rattle.theorems.specs.TableNeeds.{NeededIn, Needed, ZeroLaw}
use Rattle.theorems.proofs.TableFunction.{laid_of, lists_fit, length_function, function_back}
use Rattle.theorems.proofs.TableBytes.{function_bytes}
use Rattle.theorems.proofs.TableZero.{function_zero}

module _ (p : Program) (fits : Fits p) where
  functions_stride : (m i : ℕ) → i < length p → length (function_cells (get_or p i no_function)) ≡ function_length
  functions_stride m i b = length_function (get_or p i no_function) (fits.functions i b)

  functions_at : At (cells p) 1 (gather function_cells p)
  unfolding cells
  functions_at = at_pad functions_length (gather function_cells p) (at_right (length p ∷ []) (pad functions_length (gather function_cells p)) at_self)

  -- function i begins at its cell
  pub function_at_law : (i : ℕ) → i < length p → At (cells p) (function_at i) (function_cells (get_or p i no_function))
  function_at_law i b =
      at_stride (λ f. 0) (λ m. function_cells) function_length no_function 0 p functions_stride i b (rw (gather_is_from function_cells 0 p) at functions_at)

  function_count_back : function_count (cells p) ≡ length p
  unfolding cells
  function_count_back = refl

  back : decode (cells p) ≡ p
  unfolding decode
  back =
      rw function_count_back
      (map_from (λ i. decode_function (cells p) (function_at i)) no_function 0 p
      (λ i b. rw (zero-add i) (function_back (get_or p i no_function) (fits.functions i b) (function_at i) (function_at_law i b))))

  count : length (cells p) ≡ table_length
  unfolding cells
  count =
      ap suc
      (length_pad functions_length (gather function_cells p)
      (rw (gather_is_from function_cells 0 p, length_gather_from (λ f. 0) (λ m. function_cells) function_length no_function 0 p functions_stride)
      (omega (arith, fits.function_count))))

  bytes : Bytes (cells p)
  unfolding cells
  bytes = (
    omega (arith, fits.function_count),
    bytes_pad functions_length (gather function_cells p)
        (rw (gather_is_from function_cells 0 p)
        (bytes_gather_from (λ f. 0) (λ m. function_cells) no_function 0 p (λ m i b. function_bytes (get_or p i no_function) (fits.functions i b)))),
  )

  function_zero_or_needed : (i : ℕ) → i < length p → ZeroOr (Needed (cells p)) (function_at i) (function_cells (get_or p i no_function))
  unfolding function_cells
  function_zero_or_needed i b =
      let f : Func = get_or p i no_function in
      let laid : Laid f = laid_of f (fits.functions i b) in
      let inside : i < function_count (cells p) = rw function_count_back b in
      rw (zero-add (function_at i)) at
      (zero_or_map (NeededIn (cells p) (function_at i)) (Needed (cells p)) 0 (λ j m e n. rw (e ∙ zero-add j) (Needed.function i inside n)) (function_at i)
      (function_cells f) (function_zero f laid (predecessor_lists f) (lists_fit f laid) (function_at i) (function_at_law i b)))

  functions_zero_or_needed : ZeroOr (Needed (cells p)) 1 (gather function_cells p)
  functions_zero_or_needed =
      rw (gather_is_from function_cells 0 p)
      (zero_or_stride (Needed (cells p)) 1 (λ f. 0) (λ m. function_cells) function_length no_function 0 p functions_stride (λ m i b q e. rw e (function_zero_or_needed i b)))

  zero_or_needed : ZeroOr (Needed (cells p)) 0 (cells p)
  unfolding cells
  zero_or_needed = (inr (Needed.count refl), zero_or_pad (Needed (cells p)) 1 functions_length (gather function_cells p) functions_zero_or_needed)

pub table : TableLaw
table p fits = record { back = back p fits; count = count p fits; bytes = bytes p fits }

pub unneeded_zero : ZeroLaw
unneeded_zero p fits k = rw (zero-add k) at (zero_or_at (Needed (cells p)) 0 (cells p) (zero_or_needed p fits) k)
