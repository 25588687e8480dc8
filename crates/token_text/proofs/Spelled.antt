-- A token's bytes and its space, as the code puts them down. Assumes nothing.
use mathlib.Core.Bool.{Bool, true, false, cond}
use mathlib.Core.List.{List, [], ◌∷◌, ◌++◌, append-nil, append_assoc}
use mathlib.Core.Path.{◌≡◌, refl, sym, ap, ◌∙◌}
use Prim.Native.Nat.{ℕ, ◌+◌, ◌≤◌, ◌<◌}
use native.Mathlib.Omega.{arith}
use lib.Dec.{T, leb, leb→le}
use lib.ListN.{length, take, replicate}
use lib.IntN.{ℤ, pos, negsuc}
use borrow.Author.Tests.{ne_eqb}
use Rattle.laws.specs.Lists.{same}
use Rattle.laws.proofs.Indexing.{all_at}
use Rattle.laws.proofs.Cells.{at_sets}
use Rattle.laws.proofs.Sections.{at_part}
use Rattle.laws.proofs.Positions.{same_eq}
use Rattle.language.specs.Arithmetic.{meaning}
use Rattle.language.specs.Bytes.{minus, quote_byte}
use Rattle.language.specs.Instructions.{void}
use Rattle.language.specs.Listing.{digits}
use Rattle.language.specs.MadeNames.{made_name}
use Rattle.language.specs.Names.{plain_name, escaped, spelling}
use Rattle.language.specs.Tokens.{Token}
use Rattle.language.specs.Words.{words, word_count, spelling_of}
use Rattle.language.specs.Writing.{space_byte, bytes_for, type_token, result_token, meant_token, number_token}
use Rattle.language.proofs.MadeNamesLaws.{plain_spelling}
use Rattle.naming.specs.Numbered.{plain_flag}
use Rattle.decimal.specs.declared.ranges.Meant.{Meant}
use Rattle.decimal.specs.Meanings.{meant_by}
use Rattle.decimal.specs.Writing.{Written}
use Rattle.page.specs.Page.{Page, puts}
use Rattle.page.proofs.Pages.{puts_append}
use Rattle.token_text.specs.Spaced.{spaced}
use Rattle.token_text.proofs.Lines.{spaced_append}
use Rattle.token_text.proofs.Escaping.{spelled_quoted}
use Rattle.vocabulary.specs.Letters.{letters_of, letter_count}

-- one part after the other
pub puts_then : {q r : Page} (p : Page) (xs ys : List ℕ) → q ≡ puts p xs → r ≡ puts q ys → r ≡ puts p (xs ++ ys)
puts_then p xs ys first second = second ∙ ap (λ (q : Page). puts q ys) first ∙ sym (puts_append p xs ys)

pub spaced_one : (t : Token) → bytes_for t ++ (space_byte ∷ []) ≡ spaced (t ∷ [])
spaced_one t = sym (append-nil (bytes_for t ++ (space_byte ∷ [])))

-- ---- the letters kept for a word, those of the word and a space: one test of all words, by computation

module _ {n : ℕ} {l : List ℕ} (w : ℕ) (h : w < word_count) (count : n ≡ letter_count w) (letters : l ≡ letters_of w) where
  pub word_letters : take (n + 1) l ≡ spaced (Token.word w ∷ [])
  unfolding bytes_for words letter_count letters_of
  word_letters =
      rw (count, letters)
      (same_eq (take (letter_count w + 1) (letters_of w)) (spelling_of w ++ (space_byte ∷ []))
      (all_at (λ n. same (take (length n + 1) (take 10 (n ++ replicate 10 space_byte))) (n ++ (space_byte ∷ []))) words w [] tt h)
      ∙ spaced_one (Token.word w))

  pub word_fits : n + 1 ≤ length l
  unfolding words letter_count letters_of
  word_fits =
      rw (count, letters)
      (leb→le (letter_count w + 1) (length (letters_of w)) (all_at (λ n. leb (length n + 1) (length (take 10 (n ++ replicate 10 space_byte)))) words w [] tt h))

  pub word_short : n + 1 ≤ 10
  unfolding words letter_count
  word_short = rw count (leb→le (letter_count w + 1) 10 (all_at (λ n. leb (length n + 1) 10) words w [] tt h))

-- a result: void, or a type
pub result_void : {k : ℕ} → k ≡ void → spaced (result_token void ∷ []) ≡ spaced (result_token k ∷ [])
result_void e = ap (λ (n : ℕ). spaced (result_token n ∷ [])) (sym e)

pub result_type : (k : ℕ) → (k ≡ void → ⊥) → spaced (type_token k ∷ []) ≡ spaced (result_token k ∷ [])
result_type k h = ap (λ (b : Bool). spaced (cond b (Token.word 2) (type_token k) ∷ [])) (sym (ne_eqb k void h))

-- a name; a made one, which is its own spelling
pub name_spaced : (n : List ℕ) → spelling n ++ (space_byte ∷ []) ≡ spaced (Token.name n ∷ [])
unfolding bytes_for
name_spaced n = spaced_one (Token.name n)

-- a given one, whose flag says that it is plain
pub flagged_spaced : (n : List ℕ) {k : ℕ} → k ≡ plain_flag n → k ≡ 1 → n ++ (space_byte ∷ []) ≡ spaced (Token.name n ∷ [])
flagged_spaced n {k} is one = by (plain_name n) refl (sym is ∙ one)
  where
    by : (t : Bool) → plain_name n ≡ t → cond {A = ℕ} t 1 0 ≡ 1 → n ++ (space_byte ∷ []) ≡ spaced (Token.name n ∷ [])
    by true e h = ap (λ (l : List ℕ). l ++ (space_byte ∷ [])) (sym (plain_spelling n (rw e tt))) ∙ name_spaced n
    by false e h = absurd (omega arith)

-- or that it is not
pub flagged_quoted : (n : List ℕ) {k : ℕ} → k ≡ plain_flag n → (k ≡ 1 → ⊥) → quote_byte ∷ (escaped n ++ (quote_byte ∷ space_byte ∷ [])) ≡ spaced (Token.name n ∷ [])
flagged_quoted n {k} is none = by (plain_name n) refl is
  where
    by : (t : Bool) → plain_name n ≡ t → k ≡ cond {A = ℕ} t 1 0 → quote_byte ∷ (escaped n ++ (quote_byte ∷ space_byte ∷ [])) ≡ spaced (Token.name n ∷ [])
    by true e h = absurd (none h)
    by false e h =
        ap (λ (l : List ℕ). quote_byte ∷ l) (sym (append_assoc (escaped n) (quote_byte ∷ []) (space_byte ∷ [])))
        ∙ ap (λ (l : List ℕ). l ++ (space_byte ∷ [])) (spelled_quoted n (sym e) refl) ∙ name_spaced n

pub made_spaced : (prefix : List ℕ) (n : ℕ) → T (plain_name (made_name prefix n)) → prefix ++ (digits n ++ (space_byte ∷ [])) ≡ spaced (Token.name (made_name prefix n) ∷ [])
made_spaced prefix n plain =
    sym (append_assoc prefix (digits n) (space_byte ∷ []))
    ∙ ap (λ (l : List ℕ). l ++ (space_byte ∷ [])) (sym (plain_spelling (made_name prefix n) plain)) ∙ name_spaced (made_name prefix n)

-- what was written from a buffer's beginning on
pub written_front : {entry exit xs : List ℕ} {end : ℕ} → Written entry 0 xs exit end → end ≤ length entry → take end exit ≡ xs
written_front {entry} {exit} {xs} {end} w fits =
    let count : end ≡ length xs = omega (arith, w.next) in
    rw w.bytes (at_part (at_sets xs entry 0 (omega arith)) {m = 0} refl count)

-- ---- a number by its meaning: a minus and digits, or digits

number_spaced : (negative : Bool) (n : ℕ) → cond negative (minus ∷ digits n) (digits n) ++ (space_byte ∷ []) ≡ spaced (Token.number negative n ∷ [])
unfolding bytes_for
number_spaced negative n = spaced_one (Token.number negative n)

meant_is : (z : ℤ) → Token.number (meant_by z).negative (meant_by z).magnitude ≡ meant_token z
meant_is (pos n) = refl
meant_is (negsuc n) = refl

module _ (kind x : ℕ) (m : Meant) (is : m ≡ meant_by (meaning kind x)) where
  told : spaced (Token.number m.negative m.magnitude ∷ []) ≡ spaced (number_token kind x ∷ [])
  unfolding number_token
  told = ap (λ (m : Meant). spaced (Token.number m.negative m.magnitude ∷ [])) is ∙ ap (λ (t : Token). spaced (t ∷ [])) (meant_is (meaning kind x))

  pub negative_spaced : m.negative ≡ true → (minus ∷ []) ++ (digits m.magnitude ++ (space_byte ∷ [])) ≡ spaced (number_token kind x ∷ [])
  negative_spaced e = number_spaced true m.magnitude ∙ ap (λ (b : Bool). spaced (Token.number b m.magnitude ∷ [])) (sym e) ∙ told

  pub positive_spaced : m.negative ≡ false → digits m.magnitude ++ (space_byte ∷ []) ≡ spaced (number_token kind x ∷ [])
  positive_spaced e = number_spaced false m.magnitude ∙ ap (λ (b : Bool). spaced (Token.number b m.magnitude ∷ [])) (sym e) ∙ told

-- ---- tokens, one part after the other

pub puts_none : (p : Page) → p ≡ puts p []
unfolding puts
puts_none p = refl

pub spaced_then : {q r : Page} (p : Page) (ts us : List Token) → q ≡ puts p (spaced ts) → r ≡ puts q (spaced us) → r ≡ puts p (spaced (ts ++ us))
spaced_then p ts us first second = puts_then p (spaced ts) (spaced us) first second ∙ ap (puts p) (sym (spaced_append ts us))
