-- A name's bytes with their backslashes, run by run, and its spelling. Assumes nothing.
use mathlib.Core.Bool.{Bool, true, false}
use mathlib.Core.List.{List, [], ◌∷◌, ◌++◌, append_assoc}
use mathlib.Core.Path.{◌≡◌, sym, ap, ◌∙◌}
use Prim.Native.Nat.{ℕ, suc, ◌+◌, ◌-◌, ◌≤◌, ◌<◌}
use native.Mathlib.Numerals.{add-one}
use native.Mathlib.Omega.{arith}
use lib.ListN.{length, get_or, take, drop, length-drop}
use lib.Seq.{take-suc, take-add, take_all, drop-cons, drop-drop, get_or-drop}
use borrow.Author.Tests.{eq-eqb, ne_eqb}
use Rattle.laws.proofs.Appending.{gather_append}
use Rattle.language.specs.Bytes.{quote_byte, backslash}
use Rattle.language.specs.Names.{plain_name, escaped, spelling}
use Rattle.token_text.specs.Runs.{Run}

pub escaped_append : (xs ys : List ℕ) → escaped (xs ++ ys) ≡ escaped xs ++ escaped ys
unfolding escaped
escaped_append xs ys = gather_append _ xs ys

escaped_quote : (b : ℕ) (n : List ℕ) → b ≡ quote_byte → escaped (b ∷ n) ≡ backslash ∷ b ∷ escaped n
unfolding escaped
escaped_quote b n e = rw (eq-eqb b quote_byte e)

escaped_bare : (b : ℕ) (n : List ℕ) → (b ≡ quote_byte → ⊥) → escaped (b ∷ n) ≡ b ∷ escaped n
unfolding escaped
escaped_bare b n h = rw (ne_eqb b quote_byte h)

-- ---- runs: the bytes from place i up to place r

abbrev pub run : List ℕ → ℕ → ℕ → List ℕ
run n i r = take (r - i) (drop i n)

run_cons : (n : List ℕ) (i r : ℕ) → i < length n → i + 1 ≤ r → run n i r ≡ get_or n i 0 ∷ run n (i + 1) r
run_cons n i r w h =
    let more : r - i ≡ suc (r - (i + 1)) = omega arith in
    rw (more, drop-cons n i 0 w, add-one i)

module _ (n : List ℕ) (i : ℕ) where
  run_snoc : (k : ℕ) → i ≤ k → k < length n → run n i (k + 1) ≡ run n i k ++ (get_or n k 0 ∷ [])
  run_snoc k h w =
      let more : k + 1 - i ≡ suc (k - i) = omega arith in
      let there : i + (k - i) ≡ k = omega arith in
      let fits : k - i < length (drop i n) = simp length-drop (omega arith) in
      rw more (take-suc (drop i n) (k - i) 0 fits ∙ rw (get_or-drop, there))

  -- no byte yet, and one more that is no quote
  pub runs_none : [] ≡ escaped (run n i i)
  unfolding escaped
  runs_none = let none : i - i ≡ 0 = omega arith in rw none

  pub bare_none : escaped (run n i i) ≡ run n i i
  unfolding escaped
  bare_none = let none : i - i ≡ 0 = omega arith in rw none

  pub bare_more : (k : ℕ) → i ≤ k → k < length n → escaped (run n i k) ≡ run n i k → (get_or n k 0 ≡ quote_byte → ⊥) → escaped (run n i (k + 1)) ≡ run n i (k + 1)
  unfolding escaped
  bare_more k h w e b =
      rw (run_snoc k h w)
      (escaped_append (run n i k) (get_or n k 0 ∷ []) ∙ ap (λ (l : List ℕ). l ++ escaped (get_or n k 0 ∷ [])) e ∙ ap (λ (l : List ℕ). run n i k ++ l) (escaped_bare (get_or n k 0) [] b))

  run_join : (r k : ℕ) → i ≤ r → r ≤ k → run n i r ++ run n r k ≡ run n i k
  run_join r k h g =
      let there : i + (r - i) ≡ r = omega arith in
      let all : r - i + (k - r) ≡ k - i = omega arith in
      sym (rw (sym all) (take-add (r - i) (k - r) (drop i n) ∙ rw (drop-drop, there)))

  -- a run more, which the quote before it begins
  pub escaped_run : (r k : ℕ) → i ≤ r → r < length n → get_or n r 0 ≡ quote_byte → Run n (r + 1) k → escaped (run n i r) ++ (backslash ∷ []) ++ run n r k ≡ escaped (run n i k)
  escaped_run r k h w q u =
      let quoted : escaped (run n r k) ≡ backslash ∷ run n r k =
      rw (run_cons n r k w u.on) (escaped_quote (get_or n r 0) (run n (r + 1) k) q ∙ ap (λ (l : List ℕ). backslash ∷ get_or n r 0 ∷ l) u.bare) in
      append_assoc (escaped (run n i r)) (backslash ∷ []) (run n r k)
      ∙ ap (λ (l : List ℕ). escaped (run n i r) ++ l) (sym quoted)
      ∙ sym (escaped_append (run n i r) (run n r k))
      ∙ ap escaped (run_join r k h (omega (arith, u.on)))

-- the first run and all others
pub escaped_all : (n : List ℕ) (i r : ℕ) → Run n 0 i → i ≤ r → length n ≤ r → take i n ++ escaped (run n i r) ≡ escaped n
escaped_all n i r u h g =
    let first : i - 0 ≡ i = omega arith in
    let last : r - 0 ≡ r = omega arith in
    ap (λ (l : List ℕ). l ++ escaped (run n i r)) (sym (rw first at u.bare))
    ∙ sym (escaped_append (take i n) (run n i r))
    ∙ ap escaped (rw first at (run_join n 0 i r (omega arith) h) ∙ rw last (take_all r n g))

-- ---- plain or in quotes

module _ (n : List ℕ) {r : Bool} (is : r ≡ plain_name n) where
  pub spelled_plain : r ≡ true → n ≡ spelling n
  unfolding spelling
  spelled_plain e = rw (sym is ∙ e)

  pub spelled_quoted : r ≡ false → quote_byte ∷ (escaped n ++ (quote_byte ∷ [])) ≡ spelling n
  unfolding spelling
  spelled_quoted e = rw (sym is ∙ e)
