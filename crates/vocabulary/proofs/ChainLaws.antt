-- From one candidate to the next, and what is found among them. What is computed is computed over the word list once. Assumes nothing.
use mathlib.Core.Bool.{◌||◌, true≢false}
use mathlib.Core.Logic.{◌⊎◌, inl, inr}
use mathlib.Core.Path.{◌≡◌, refl, sym, ap, ◌∙◌}
use mathlib.Core.List.{List, [], ◌∷◌, map}
use Prim.Native.Nat.{ℕ, ◌+◌, ◌-◌, ◌*◌, ◌/◌, ◌%◌, ◌^◌, ◌≤◌, ◌<◌}
use native.Mathlib.Omega.{arith}
use lib.Dec.{T, eqb, ltb, leb, eqb→eq, leb→le, ltb→lt}
use lib.Ieee.Fits.{and_l, and_r}
use lib.Ieee.Bits.{is_true}
use lib.ListN.{length, drop, get_or}
use borrow.Author.Tests.{eq-eqb, ne_eqb}
use Rattle.laws.specs.Lists.{any, all, keep, member, same, below}
use Rattle.laws.specs.Sections.{Bytes}
use Rattle.laws.proofs.Agreeing.{keep_every}
use Rattle.laws.proofs.Every.{Every, none, more, all_below_at, every_imp}
use Rattle.laws.proofs.Indexing.{all_at}
use Rattle.laws.proofs.Matches.{NoneOf, none_of}
use Rattle.laws.proofs.Positions.{same_eq}
use Rattle.laws.proofs.Ranges.{get_or_map_from}
use Rattle.language.specs.Words.{words, word_of, word_count, spelling_of}
use Rattle.language.specs.Candidates.{first_byte, candidates, first_of}
use Rattle.theorems.specs.Candidates.{Such}
use Rattle.theorems.proofs.Candidates.{every_such, of_each, found_among_candidates}
use Rattle.vocabulary.specs.Packed.{packed}
use Rattle.vocabulary.specs.Chains.{shortest, longest, lengths, first_candidates, next_alike, from_on, rest_among}
use Rattle.vocabulary.proofs.LetterLaws.{word_length}
use Rattle.vocabulary.proofs.Packing.{same_packed, packed_at}

-- ---- the first

-- where no such word can be, there is no candidate
no_such : (l b : ℕ) → ((w : ℕ) → Such l b w → ⊥) → candidates l b ≡ []
no_such l b h = by (candidates l b) (every_such l b)
  where
    by : (ws : List ℕ) → Every (Such l b) ws → ws ≡ []
    by [] none = refl
    by (w ∷ ws) (more s ss) = absurd (h w s)

-- the bytes with which words begin
unfoldable pub firsts : List ℕ
firsts = keep (λ b. any (λ w. eqb (first_byte (spelling_of w)) b) (below word_count)) (below 256)

-- a byte that is none of them
no_first_of : (ns : List ℕ) → T (all (λ w. member (first_byte (spelling_of w)) ns) (below word_count)) → (b : ℕ) → NoneOf ns b → (l : ℕ) → candidates l b ≡ []
no_first_of ns t b h l =
    no_such l b
    (λ w s.
    let begins = is_true (member (first_byte (spelling_of w)) ns) (all_below_at (λ w. member (first_byte (spelling_of w)) ns) word_count t w s.word) in
    true≢false (sym begins ∙ ap (λ x. member x ns) s.first ∙ none_of ns b h))

pub no_first : (b : ℕ) → NoneOf firsts b → (l : ℕ) → candidates l b ≡ []
unfolding firsts words
no_first = no_first_of firsts tt

pub first_known : (l b : ℕ) → first_of (candidates l b) ≤ word_count
unfolding candidates words
first_known l b = leb→le (first_of (candidates l b)) word_count (of_each (λ ws. leb (first_of ws) word_count) tt tt l b)

first_of_length : (l b : ℕ) → shortest ≤ l → l ≤ longest → get_or (map (λ l. first_of (candidates l b)) lengths) (l - shortest) 0 ≡ first_of (candidates l b)
first_of_length l b h u =
    let k : shortest + (l - shortest) ≡ l = omega arith in
    get_or_map_from (λ l. first_of (candidates l b)) 0 shortest 7 (l - shortest) (omega arith) ∙ ap (λ n. first_of (candidates n b)) k

bytes_map : (f : ℕ → ℕ) → ((n : ℕ) → f n < 256) → (ns : List ℕ) → Bytes (map f ns)
bytes_map f h [] = tt
bytes_map f h (n ∷ ns) = (h n, bytes_map f h ns)

-- one of those kept as one number
pub first_at : (l b : ℕ) → shortest ≤ l → l ≤ longest → first_candidates b / 2 ^ (8 * (l - shortest)) % 256 ≡ first_of (candidates l b)
unfolding first_candidates
first_at l b h u =
    packed_at (l - shortest) (map (λ l. first_of (candidates l b)) lengths) (bytes_map (λ l. first_of (candidates l b)) (λ l. omega (arith, first_known l b)) lengths)
    ∙ first_of_length l b h u

-- ---- the next

pub next_above : (w : ℕ) → w < word_count → (w < next_alike w) × (next_alike w ≤ word_count)
unfolding next_alike candidates words
next_above w h = (
  ltb→lt w (next_alike w) (all_below_at (λ w. ltb w (next_alike w)) word_count tt w h),
  leb→le (next_alike w) word_count (all_below_at (λ w. leb (next_alike w) word_count) word_count tt w h),
)

-- the words that another one alike comes after
unfoldable pub followed : List ℕ
followed = keep (λ w. ltb (next_alike w) word_count) (below word_count)

-- a word that is none of them
no_next_of :
    (ns : List ℕ) → T (all (λ w. member w ns || eqb word_count (next_alike w)) (below word_count))
    → (w : ℕ) → w < word_count → NoneOf ns w → word_count ≡ next_alike w
no_next_of ns t w h n =
    eqb→eq word_count (next_alike w) (rw (none_of ns w n) at (all_below_at (λ w. member w ns || eqb word_count (next_alike w)) word_count t w h))

pub no_next : (w : ℕ) → w < word_count → NoneOf followed w → word_count ≡ next_alike w
unfolding followed next_alike candidates words
no_next = no_next_of followed tt

pub links : (w : ℕ) → w < word_count → from_on w ≡ w ∷ from_on (next_alike w)
unfolding next_alike from_on candidates words
links w h = same_eq (from_on w) (w ∷ from_on (next_alike w)) (all_below_at (λ w. same (from_on w) (w ∷ from_on (next_alike w))) word_count tt w h)

pub from_first : (l b : ℕ) → from_on (first_of (candidates l b)) ≡ candidates l b
unfolding from_on candidates words
from_first l b =
    sym (same_eq (candidates l b) (from_on (first_of (candidates l b))) (of_each (λ ws. same ws (from_on (first_of ws))) tt tt l b))

pub from_none : from_on word_count ≡ []
unfolding from_on candidates words
from_none = refl

module _ (r w : ℕ) (h : w < word_count) where
  pub found_here : packed (drop 1 (spelling_of w)) ≡ r → w ≡ rest_among r (from_on w)
  found_here e = rw (links w h, eq-eqb (packed (drop 1 (spelling_of w))) r e)

  pub found_later : (packed (drop 1 (spelling_of w)) ≡ r → ⊥) → rest_among r (from_on (next_alike w)) ≡ rest_among r (from_on w)
  found_later e = rw (links w h, ne_eqb (packed (drop 1 (spelling_of w))) r e)

-- ---- all of them

bytes_tested : (xs : List ℕ) → T (all (λ x. ltb x 256) xs) → Bytes xs
bytes_tested [] t = tt
bytes_tested (x ∷ xs) t =
    (ltb→lt x 256 (and_l (ltb x 256) (all (λ x. ltb x 256) xs) t), bytes_tested xs (and_r (ltb x 256) (all (λ x. ltb x 256) xs) t))

word_bytes : (w : ℕ) → w < word_count → Bytes (spelling_of w)
unfolding words
word_bytes w h = bytes_tested (spelling_of w) (all_at (λ s. all (λ x. ltb x 256) s) words w [] tt h)

-- of one length and first byte, the bytes after the first tell two names apart
same_rest : (xs ys : List ℕ) → length xs ≡ length ys → first_byte xs ≡ first_byte ys → Bytes xs → Bytes ys → eqb (packed (drop 1 xs)) (packed (drop 1 ys)) ≡ same xs ys
same_rest [] [] l f a b = refl
same_rest [] (y ∷ ys) l f a b = absurd (omega arith)
same_rest (x ∷ xs) [] l f a b = absurd (omega arith)
same_rest (x ∷ xs) (y ∷ ys) l f a b = rw (eq-eqb x y f) (same_packed xs ys (omega arith) a.1 b.1)

found_word : (n : List ℕ) → Bytes n → rest_among (packed (drop 1 n)) (candidates (length n) (first_byte n)) ≡ word_of n
found_word n b =
    ap first_of
    (keep_every
    (every_imp (λ w s. same_rest (spelling_of w) n s.long s.first (word_bytes w s.word) b) (every_such (length n) (first_byte n))))
    ∙ found_among_candidates n

-- a name, by its first candidate and its bytes after the first
pub found_from : (n : List ℕ) (w r : ℕ) → Bytes n → w ≡ first_of (candidates (length n) (first_byte n)) → r ≡ packed (drop 1 n) → rest_among r (from_on w) ≡ word_of n
found_from n w r b e f = rw (e, f, from_first (length n) (first_byte n)) (found_word n b)

-- one that has no candidate
pub no_candidate : (n : List ℕ) (w : ℕ) → Bytes n → w ≡ first_of (candidates (length n) (first_byte n)) → w ≡ word_count → word_count ≡ word_of n
no_candidate n w b e f =
    ap (rest_among (packed (drop 1 n))) (sym (ap from_on f ∙ from_none)) ∙ found_from n w (packed (drop 1 n)) b e refl

-- one that is as long as no word
pub no_word : (n : List ℕ) → (length n < shortest) ⊎ (longest < length n) → word_count ≡ word_of n
no_word n h = rw (← found_among_candidates n, no_such (length n) (first_byte n) none)
  where
    none : (w : ℕ) → Such (length n) (first_byte n) w → ⊥
    none w s =
        let l = word_length w s.word in
        elim h [ inl u ↦ omega (arith, s.long, l.0, u) | inr u ↦ omega (arith, s.long, l.1, u) ]
