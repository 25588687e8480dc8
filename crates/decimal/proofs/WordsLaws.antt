-- Magnitudes of any size as they are kept, digit by digit, and the words that say them. Assumes nothing.
use mathlib.Core.Bool.{Bool, true, false, cond, not, ◌&&◌, and-false}
use mathlib.Core.List.{List, [], ◌∷◌, ◌++◌, foldl-append}
use mathlib.Core.Path.{◌≡◌, refl, sym, ap, ◌∙◌}
use Prim.Native.Nat.{ℕ, ◌+◌, ◌-◌, ◌*◌, ◌≤◌, ◌<◌}
use native.Mathlib.Numerals.{add-one}
use native.Mathlib.Omega.{arith}
use Rattle.std.specs.Prelude.{Option, Some, None}
use Rattle.std.specs.Option.{SomeIff}
use lib.Dec.{T, leb, ltb, leb→le, ltb→lt}
use lib.Ieee.Fits.{and_l, and_r}
use lib.ListN.{length, get_or, take, drop, take-append-drop}
use lib.Seq.{take-suc, take_all}
use borrow.Author.Tests.{lt-ltb, le-ltb, ltb-true, ltb-false, eq-eqb, ne_eqb, lt-leb, le-leb}
use Rattle.laws.specs.Lists.{all, empty}
use Rattle.laws.proofs.Joining.{all_both}
use Rattle.instructions.specs.Ranges.{beyond}
use Rattle.decimal.specs.declared.words.Decimal.{Decimal}
use Rattle.decimal.specs.Numbers.{is_digit, with_digit, value_of, amount_kept, decimal_from, unsigned, number_of}

-- ---- a number and how it is kept

pub amount_exact : {v n : ℕ} → Some v ≡ amount_kept n → (v ≡ n) × (n < beyond)
unfolding amount_kept
amount_exact {v} {n} e = by (ltb n beyond) refl e
  where
    by : (t : Bool) → ltb n beyond ≡ t → Some v ≡ cond t (Some n) None → (v ≡ n) × (n < beyond)
    by true p q = (cc, ltb-true n beyond p)
    by false p q = absurd (cc)

pub amount_large : {n : ℕ} → ◌≡◌ {A = Option ℕ} None (amount_kept n) → beyond ≤ n
unfolding amount_kept
amount_large {n} e = by (ltb n beyond) refl e
  where
    by : (t : Bool) → ltb n beyond ≡ t → ◌≡◌ {A = Option ℕ} None (cond t (Some n) None) → beyond ≤ n
    by true p q = absurd (cc)
    by false p q = ltb-false n beyond p

pub kept_exact : (n : ℕ) → n < beyond → Some n ≡ amount_kept n
unfolding amount_kept
kept_exact n h = rw (lt-ltb n beyond h)

pub kept_large : (n : ℕ) → beyond ≤ n → ◌≡◌ {A = Option ℕ} None (amount_kept n)
unfolding amount_kept
kept_large n h = rw (le-ltb n beyond h)

-- one digit more, where the product and the sum are kept
pub kept_sum : (r : Option ℕ) (v d n : ℕ) → v ≡ n * 10 → SomeIff r (v + d < beyond) (v + d) → r ≡ amount_kept (10 * n + d)
kept_sum None v d n e h = kept_large _ (omega (arith, h))
kept_sum (Some x) v d n e h = let p : x ≡ 10 * n + d = omega (arith, h.1) in rw p (kept_exact _ (omega (arith, h.0)))

-- ---- digits

pub digit_between : (b : ℕ) → 48 ≤ b → b < 58 → true ≡ is_digit b
unfolding is_digit
digit_between b h l = rw (le-leb 48 b h, lt-ltb b 58 l)

pub no_digit_below : (b : ℕ) → b < 48 → false ≡ is_digit b
unfolding is_digit
no_digit_below b h = rw (lt-leb 48 b h)

pub no_digit_above : (b : ℕ) → 58 ≤ b → false ≡ is_digit b
unfolding is_digit
no_digit_above b h = rw (le-ltb b 58 h, and-false (leb 48 b))

pub digit_low : (b : ℕ) → T (is_digit b) → 48 ≤ b
unfolding is_digit
digit_low b h = leb→le 48 b (and_l (leb 48 b) (ltb b 58) h)

pub digit_high : (b : ℕ) → T (is_digit b) → b < 58
unfolding is_digit
digit_high b h = ltb→lt b 58 (and_r (leb 48 b) (ltb b 58) h)

-- ---- a word up to its byte i

module _ (ds : List ℕ) (i : ℕ) (h : i < length ds) where
  upto : take (i + 1) ds ≡ take i ds ++ (get_or ds i 0 ∷ [])
  upto = rw (add-one, take-suc ds i 0 h)

  pub value_more : value_of (take (i + 1) ds) ≡ with_digit (value_of (take i ds)) (get_or ds i 0)
  value_more = ap value_of upto ∙ foldl-append with_digit 0 (take i ds) (get_or ds i 0 ∷ [])

  module _ {r : Bool} (so_far : all is_digit (take i ds) ≡ true) (here : r ≡ is_digit (get_or ds i 0)) where
    pub digits_on : r ≡ true → all is_digit (take (i + 1) ds) ≡ true
    digits_on e = ap (all is_digit) upto ∙ all_both is_digit (take i ds) (get_or ds i 0 ∷ []) ∙ rw (so_far, sym here ∙ e)

    -- another byte makes the word malformed
    pub digits_off : (s : Bool) → r ≡ false → None ≡ unsigned s ds
    unfolding unsigned
    digits_off s e =
        let front : all is_digit (take (i + 1) ds) ≡ false = ap (all is_digit) upto ∙ all_both is_digit (take i ds) (get_or ds i 0 ∷ []) ∙ rw (so_far, sym here ∙ e) in
        let whole : all is_digit ds ≡ false =
        ap (all is_digit) (sym (take-append-drop (i + 1) ds))
        ∙ all_both is_digit (take (i + 1) ds) (drop (i + 1) ds)
        ∙ ap (λ (t : Bool). t && all is_digit (drop (i + 1) ds)) front in
        rw whole (rw (and-false (not (empty ds))))

-- the whole word
pub says_none : (s : Bool) (ds : List ℕ) → length ds ≡ 0 → None ≡ unsigned s ds
unfolding unsigned
says_none s [] e = refl
says_none s (x ∷ xs) e = absurd (omega arith)

pub says_all : (s : Bool) (ds : List ℕ) (i : ℕ) → (length ds ≡ 0 → ⊥) → length ds ≤ i → all is_digit (take i ds) ≡ true → {r : Option Decimal} → r ≡ Some (decimal_from s (value_of (take i ds))) → r ≡ unsigned s ds
unfolding unsigned
says_all s [] i n h a e = absurd (n refl)
says_all s (x ∷ xs) i n h a e =
    let all_of : take i (x ∷ xs) ≡ x ∷ xs = take_all i (x ∷ xs) h in
    let digits : all is_digit (x ∷ xs) ≡ true = ap (all is_digit) (sym all_of) ∙ a in
    rw digits (e ∙ ap (λ (l : List ℕ). Some (decimal_from s (value_of l))) all_of)

-- with its sign
pub no_word : (word : List ℕ) → length word ≡ 0 → {r : Option Decimal} → r ≡ unsigned false word → r ≡ number_of word
unfolding number_of unsigned
no_word [] e p = p
no_word (b ∷ bs) e p = absurd (omega arith)

pub minus_word : (word : List ℕ) → (length word ≡ 0 → ⊥) → get_or word 0 0 ≡ 45 → {r : Option Decimal} → r ≡ unsigned true (take (length word - 1) (drop 1 word)) → r ≡ number_of word
unfolding number_of
minus_word [] n e p = absurd (n refl)
minus_word (b ∷ bs) n e p =
    let rest : take (length (b ∷ bs) - 1) bs ≡ bs = take_all (length (b ∷ bs) - 1) bs (omega arith) in
    rw (eq-eqb b 45 e) (p ∙ ap (unsigned true) rest)

pub plain_word : (word : List ℕ) → (get_or word 0 0 ≡ 45 → ⊥) → {r : Option Decimal} → r ≡ unsigned false word → r ≡ number_of word
unfolding number_of unsigned
plain_word [] e p = p
plain_word (b ∷ bs) e p = rw (ne_eqb b 45 e) p
