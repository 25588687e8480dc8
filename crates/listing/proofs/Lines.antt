-- The parts of a line, and lines one after the other. Assumes nothing.
use mathlib.Core.Bool.{Bool, true, false, cond}
use mathlib.Core.List.{List, [], ◌∷◌, ◌++◌, map, append_assoc, append-nil}
use mathlib.Core.Path.{◌≡◌, sym, ap, ◌∙◌, subst}
use Prim.Native.Nat.{ℕ, suc, ◌+◌, ◌*◌, ◌≤◌, ◌<◌}
use native.Mathlib.Nat.{zero-add}
use native.Mathlib.Omega.{arith}
use lib.Dec.{eqb}
use lib.ListN.{length, length-append}
use lib.Seq.{sets}
use Rattle.laws.specs.Lists.{gather, below}
use Rattle.laws.proofs.Ranges.{map_from_append}
use Rattle.laws.proofs.Appending.{gather_append}
use Rattle.language.specs.Bytes.{bytes_of, line_feed, quote_byte, backslash}
use Rattle.language.specs.Checking.{Verdict, check}
use Rattle.language.specs.Listing.{tab, digits, line, function_line, listing_of, refused_line}
use Rattle.language.specs.Names.{plain_name, escaped, spelling}
use Rattle.language.specs.Programs.{Func, rows_of, max_name, max_text}
use Rattle.language.specs.Table.{function_count, function_at, function_name, function_ssa, decode_function, decode}
use Rattle.theorems.specs.TableLaw.{FunctionFits}
use Rattle.theorems.proofs.TableSound.{accepted_fits}
use Rattle.language.proofs.TableView.{function_count_law, function_is}
use Rattle.decimal.specs.Writing.{Written}
use Rattle.decimal.proofs.Writings.{written_then}
use Rattle.page.specs.Page.{Page, page, puts}
use Rattle.page.proofs.Pages.{puts_within}
use Rattle.listing.specs.Lines.{sizes_written, spelling_most, line_most, listing_most}

regroup_four : (s a b c d e : List ℕ) → s ++ (a ++ (b ++ (c ++ (d ++ [])))) ++ e ≡ s ++ a ++ (b ++ c ++ d ++ e)
regroup_four s a b c d e = simp (append_assoc, append-nil)

regroup_two : (s a b e : List ℕ) → s ++ (a ++ (b ++ [])) ++ e ≡ s ++ a ++ b ++ e
regroup_two s a b e = simp (append_assoc, append-nil)

-- a function's line in three parts
pub line_parts : (f : Func) → function_line f ≡ spelling f.name ++ (tab ∷ digits f.ssa) ++ sizes_written f
unfolding function_line line sizes_written
line_parts f =
    regroup_four (spelling f.name) (tab ∷ digits f.ssa) (tab ∷ digits (length f.registers)) (tab ∷ digits (length f.blocks)) (tab ∷ digits (length (rows_of f))) (line_feed ∷ [])

-- a refusal's in four
pub refusal_parts : (n p : ℕ) → refused_line n p ≡ bytes_of "refused" ++ (tab ∷ digits n) ++ (tab ∷ digits p) ++ (line_feed ∷ [])
unfolding refused_line line
refusal_parts n p = regroup_two (bytes_of "refused") (tab ∷ digits n) (tab ∷ digits p) (line_feed ∷ [])

-- the lines of the first i functions
unfoldable pub lines_of : List ℕ → ℕ → List ℕ
lines_of t i = listing_of (map (λ k. decode_function t (function_at k)) (below i))

pub lines_more : (t : List ℕ) (i : ℕ) → lines_of t (i + 1) ≡ lines_of t i ++ function_line (decode_function t (function_at i))
unfolding lines_of listing_of
lines_more t i =
    ap (gather function_line) (map_from_append (λ k. decode_function t (function_at k)) 0 i 1)
    ∙ gather_append function_line (map (λ k. decode_function t (function_at k)) (below i)) (decode_function t (function_at (0 + i)) ∷ [])
    ∙ rw (zero-add i, append-nil)

-- a number that was written, by what it is the number of
pub number_is : {n m : ℕ} → n ≡ m → {entry exit : List ℕ} {at end : ℕ} → Written entry at (tab ∷ digits n) exit end → Written entry at (tab ∷ digits m) exit end
number_is e {entry} {exit} {at} {end} w = subst (λ (k : ℕ). Written entry at (tab ∷ digits k) exit end) e w

-- ---- a name's spelling

escaped_short : (n : List ℕ) → length (escaped n) ≤ 2 * length n
unfolding escaped
escaped_short [] = omega arith
escaped_short (b ∷ n) = by (eqb b quote_byte) (escaped_short n)
  where
    by : (t : Bool) → length (escaped n) ≤ 2 * length n → length (cond t (backslash ∷ b ∷ []) (b ∷ []) ++ escaped n) ≤ 2 * suc (length n)
    by true h = omega arith
    by false h = omega arith

spelling_short : (n : List ℕ) → length n ≤ max_name → length (spelling n) ≤ spelling_most
unfolding spelling
spelling_short n h = by (plain_name n)
  where
    by : (t : Bool) → length (cond t n (quote_byte ∷ (escaped n ++ (quote_byte ∷ [])))) ≤ spelling_most
    by true = omega arith
    by false = simp length-append (omega (arith, escaped_short n))

-- bytes that have room on a page are written
page_written : {entry exit : List ℕ} {end : ℕ} (at : ℕ) (xs : List ℕ) → page exit end ≡ puts (page entry at) xs → at + length xs ≤ max_text → Written entry at xs exit end
page_written {entry} {exit} {end} at xs e h =
    let there : page exit end ≡ page (sets entry at xs) (at + length xs) = e ∙ puts_within entry at xs (omega arith) in
    record { bytes = ap (λ (p : Page). p.bytes) there; next = ap (λ (p : Page). p.place) there }

-- the name of a function that fits
pub name_written : (t : List ℕ) (a : ℕ) → FunctionFits (decode_function t a) → {name : List ℕ} → name ≡ function_name t a → {entry exit : List ℕ} {end : ℕ} (at : ℕ)
    → at + line_most ≤ listing_most → page exit end ≡ puts (page entry at) (spelling name) → Written entry at (spelling name) exit end × (end ≤ at + spelling_most)
unfolding decode_function
name_written t a fits {name} is at room e =
    let short = spelling_short name (rw is fits.name.short) in
    let w = page_written at (spelling name) e (omega arith) in
    (w, omega (arith, w.next))

-- a line written part by part
pub line_written : (t : List ℕ) (a : ℕ) {name : List ℕ} {ssa : ℕ} → name ≡ function_name t a → ssa ≡ function_ssa t a
    → {entry one two exit : List ℕ} {at b e end : ℕ} → Written entry at (spelling name) one b → Written one b (tab ∷ digits ssa) two e → Written two e (sizes_written (decode_function t a)) exit end
    → Written entry at (function_line (decode_function t a)) exit end
unfolding decode_function
line_written t a p q {entry} {one} {two} {exit} {at} {b} {e} {end} u v w =
    subst (λ (l : List ℕ). Written entry at l exit end) (sym (line_parts (decode_function t a)))
    (written_then (written_then (subst (λ (l : List ℕ). Written entry at (spelling l) one b) p u) (number_is q v)) w)

-- ---- a table that was accepted

module _ (t : List ℕ) (accepted : check (decode t) ≡ Verdict.accepted) where
  pub function_fits : (i : ℕ) → i < function_count t → FunctionFits (decode_function t (function_at i))
  function_fits i h = subst FunctionFits (function_is t i h) ((accepted_fits (decode t) accepted).functions i (rw (function_count_law t) h))
