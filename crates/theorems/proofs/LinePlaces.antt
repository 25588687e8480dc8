-- Line and column of every byte, by counting LF and the bytes behind the last of them. Assumes nothing.
use mathlib.Core.Bool.{Bool, true, false, cond, not}
use mathlib.Core.List.{List, [], ◌∷◌, ◌++◌, foldl-append}
use mathlib.Core.Path.{◌≡◌, refl, sym, ◌∙◌, ap}
use Prim.Native.Nat.{ℕ, ◌+◌}
use native.Mathlib.Omega.{arith}
use lib.Dec.{T, eqb}
use lib.Ieee.Bits.{is_false}
use lib.ListN.{length, length-append}
use lib.Seq.{take-append_seam}
use mir.Facts.{and_yes}
use Rattle.laws.specs.Lists.{all, keep}
use Rattle.laws.proofs.Gather.{keep_append}
use Rattle.language.specs.Bytes.{line_feed}
use Rattle.language.specs.LinePlaces.{LinePlace, at_line, first_place, past, past_all, line_place_in}
use Rattle.theorems.specs.LinePlaces.{WholeLines, line_feeds, LineAndColumn}

-- ---- the line and column of a byte

abbrev feed : ℕ → Bool
feed b = eqb b line_feed

-- the line counts LF
line_past : (p : LinePlace) (b : ℕ) → (past p b).line ≡ p.line + line_feeds (b ∷ [])
unfolding past
line_past p b = by (feed b)
  where
    by : (t : Bool) → (cond t (at_line (p.line + 1) 1) (at_line p.line (p.column + 1))).line ≡ p.line + length (cond t (b ∷ []) [])
    by true = refl
    by false = omega arith

lines_counted : (bs : List ℕ) (p : LinePlace) → (past_all p bs).line ≡ p.line + line_feeds bs
lines_counted [] p = omega arith
lines_counted (b ∷ bs) p =
    let on = lines_counted bs (past p b) in
    let one = line_past p b in
    let both = ap (λ (xs : List ℕ). length xs) (keep_append feed (b ∷ []) bs) ∙ length-append (keep feed (b ∷ [])) (keep feed bs) in
    omega (arith, on, one, both)

-- without LF only the column moves
columns_counted : (bs : List ℕ) (p : LinePlace) → T (all (λ b. not (feed b)) bs) → past_all p bs ≡ at_line p.line (p.column + length bs)
unfolding past
columns_counted [] p h = ap (at_line p.line) (omega arith)
columns_counted (b ∷ bs) p h =
    let a = and_yes (not (feed b)) (all (λ b. not (feed b)) bs) h in
    let none : feed b ≡ false = is_false (feed b) a.0 in
    let z : p.column + 1 + length bs ≡ p.column + length (b ∷ bs) = omega arith in
    rw none (columns_counted bs (at_line p.line (p.column + 1)) a.1 ∙ ap (at_line p.line) z)

-- behind whole lines a new one begins
behind_lines : {above : List ℕ} → WholeLines above → past_all first_place above ≡ at_line (1 + line_feeds above) 1
unfolding past
behind_lines WholeLines.none = refl
behind_lines (WholeLines.ended bs) =
    let counted = lines_counted bs first_place in
    let both = ap (λ (xs : List ℕ). length xs) (keep_append feed bs (line_feed ∷ [])) ∙ length-append (keep feed bs) (line_feed ∷ []) in
    let z : (past_all first_place bs).line + 1 ≡ 1 + line_feeds (bs ++ (line_feed ∷ [])) = omega (arith, counted, both) in
    foldl-append past first_place bs (line_feed ∷ []) ∙ ap (λ (n : ℕ). at_line n 1) z

place_behind : (xs ys : List ℕ) → line_place_in (xs ++ ys) (length xs) ≡ past_all first_place xs
unfolding line_place_in
place_behind xs ys = ap (λ (zs : List ℕ). past_all first_place zs) (take-append_seam xs ys)

pub line_and_column : LineAndColumn
line_and_column above left rest w h =
    let k = length-append above left in
    ap (λ (n : ℕ). line_place_in (above ++ left ++ rest) n) (sym k)
    ∙ place_behind (above ++ left) rest
    ∙ foldl-append past first_place above left
    ∙ ap (λ (p : LinePlace). past_all p left) (behind_lines w)
    ∙ columns_counted left (at_line (1 + line_feeds above) 1) h
