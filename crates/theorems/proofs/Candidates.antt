-- A word's candidates: all of its length and first byte, at most six, and enough to find it among. What is computed is computed over the word list
-- once; `of_each` turns it into the rule. Assumes nothing.
use mathlib.Core.Path.{◌≡◌, refl, ap, ◌∙◌}
use mathlib.Core.Bool.{Bool, true}
use mathlib.Core.List.{List, [], ◌∷◌}
use Prim.Native.Nat.{ℕ, ◌<◌}
use lib.Dec.{T, eqb, leb, eqb→eq, leb→le}
use lib.Ieee.Fits.{and_l, and_r}
use lib.ListN.{length, get_or}
use borrow.Author.Tests.{eq-eqb}
use Rattle.laws.specs.Lists.{all, same, below}
use Rattle.laws.proofs.Tests.{of_true}
use Rattle.laws.proofs.Every.{Every, none, more, every_keep, every_below, all_below_at, every_found, member_below, member_keep}
use Rattle.laws.proofs.Keep.{keep_twice}
use Rattle.laws.proofs.Positions.{position_of, first_kept, same_eq}
use Rattle.language.specs.Words.{words, word_of, word_count, spelling_of}
use Rattle.language.specs.Candidates.{first_byte, is_candidate, candidates, alike}
use Rattle.theorems.specs.Candidates.{Such, AllSuch, AtMostSix, ExactlySix, FoundAmongCandidates}

-- the test of one word, both ways
tested : (l b w : ℕ) → length (spelling_of w) ≡ l → first_byte (spelling_of w) ≡ b → is_candidate l b w ≡ true
tested l b w e f = rw (eq-eqb (length (spelling_of w)) l e, eq-eqb (first_byte (spelling_of w)) b f)

such : (l b w : ℕ) → T (is_candidate l b w) → w < word_count → Such l b w
such l b w t h =
    let long = eqb (length (spelling_of w)) l in
    let first = eqb (first_byte (spelling_of w)) b in
    record {
      word = h;
      long = eqb→eq (length (spelling_of w)) l (and_l long first t);
      first = eqb→eq (first_byte (spelling_of w)) b (and_r long first t);
    }

pub every_such : (l b : ℕ) → Every (Such l b) (candidates l b)
unfolding candidates
every_such l b = every_keep (is_candidate l b) (such l b) (every_below {P = λ w. w < word_count} word_count (λ w h. h))

-- what a test says of no words, and of the words alike each word, it says of all candidates
pub of_each : (t : List ℕ → Bool) → T (t []) → T (all (λ w. t (alike w)) (below word_count)) → (l b : ℕ) → T (t (candidates l b))
of_each t z h l b = by (candidates l b) refl (every_such l b)
  where
    by : (ws : List ℕ) → candidates l b ≡ ws → Every (Such l b) ws → T (t ws)
    by [] e none = z
    by (w ∷ ws) e (more s ss) =
        let here : T (t (alike w)) = all_below_at (λ w. t (alike w)) word_count h w s.word in
        rw (s.long, s.first, e) at here

pub all_such : AllSuch
unfolding candidates
all_such l b w = (
  λ s. member_keep (is_candidate l b) w (below word_count) (tested l b w s.long s.first) (member_below word_count w s.word),
  λ m. every_found w (every_such l b) m,
)

pub at_most_six : AtMostSix
unfolding candidates words
at_most_six l b = leb→le (length (candidates l b)) 6 (of_each (λ ws. leb (length ws) 6) tt tt l b)

pub exactly_six : ExactlySix
unfolding candidates words
exactly_six = refl

pub found_among_candidates : FoundAmongCandidates
unfolding candidates word_of words
found_among_candidates n =
    ap (λ ws. get_or ws 0 word_count)
    (keep_twice (is_candidate (length n) (first_byte n)) (λ w. same (spelling_of w) n) spelled (below word_count))
    ∙ first_kept (λ w. same (spelling_of w) n) word_count
    ∙ position_of (λ s. same s n) (λ w. same (spelling_of w) n) [] words (λ i h. refl)
  where
    spelled : (w : ℕ) → same (spelling_of w) n ≡ true → is_candidate (length n) (first_byte n) w ≡ true
    spelled w e =
        let s = same_eq (spelling_of w) n (of_true (same (spelling_of w) n) e) in
        tested (length n) (first_byte n) w (ap length s) (ap first_byte s)
