-- The predecessors found block by block: one block more, and what stays where it is.
-- Assumes nothing.
use mathlib.Core.Path.{◌≡◌, refl, sym, ap, ◌∙◌}
use mathlib.Core.Bool.{Bool, true, false, cond}
use mathlib.Core.List.{List, [], ◌∷◌, ◌++◌, append-nil}
use Prim.Native.Nat.{ℕ, suc, ◌+◌, ◌≤◌, ◌<◌}
use native.Mathlib.Numerals.{add-one}
use native.Mathlib.Omega.{arith}
use lib.ListN.{length, get_or, drop, length-append, take-append-drop, get_or-append}
use lib.Seq.{get_or-append_seam}
use Rattle.laws.specs.Lists.{below, keep}
use Rattle.laws.proofs.Gather.{keep_append}
use Rattle.laws.proofs.Indexing.{length_below, take_below}
use Rattle.laws.proofs.OneMore.{below_snoc}
use Rattle.laws.proofs.Sums.{length_keeps}
use Rattle.language.specs.Programs.{Func}
use Rattle.language.specs.Checking.{goes_to, predecessors}
use Rattle.predecessors.specs.Ranked.{ranked_before}

module _ (f : Func) where
  -- all blocks
  pub ranked_all : (b : ℕ) → ranked_before f (length f.blocks) b ≡ predecessors f b
  unfolding ranked_before predecessors
  ranked_all b = refl

  -- one block more
  pub ranked_suc : (x b : ℕ) → ranked_before f (suc x) b ≡ cond (goes_to f x b) (ranked_before f x b ++ (x ∷ [])) (ranked_before f x b)
  unfolding ranked_before
  ranked_suc x b =
      ap (keep (λ y. goes_to f y b)) (rw (add-one x) at (below_snoc x)) ∙ keep_append (λ y. goes_to f y b) (below x) (x ∷ [])
      ∙ by (goes_to f x b) (ranked_before f x b)
    where
      by : (c : Bool) (xs : List ℕ) → xs ++ cond c (x ∷ []) [] ≡ cond c (xs ++ (x ∷ [])) xs
      by true xs = refl
      by false xs = append-nil xs

  -- no more than there are blocks before
  pub ranked_length : (x b : ℕ) → length (ranked_before f x b) ≤ x
  unfolding ranked_before
  ranked_length x b = omega (arith, length_keeps (λ y. goes_to f y b) (below x), length_below x)

  -- those found so far stay in front
  ranked_more : (x n b : ℕ) → x ≤ n → ranked_before f n b ≡ ranked_before f x b ++ keep (λ y. goes_to f y b) (drop x (below n))
  unfolding ranked_before
  ranked_more x n b l =
      ap (keep (λ y. goes_to f y b)) (sym (take-append-drop x (below n)) ∙ ap (λ xs. xs ++ drop x (below n)) (take_below n x l))
      ∙ keep_append (λ y. goes_to f y b) (below x) (drop x (below n))

  pub ranked_grows : (x n b : ℕ) → x ≤ n → length (ranked_before f x b) ≤ length (ranked_before f n b)
  ranked_grows x n b l = rw (ranked_more x n b l, length-append) (omega arith)

  pub ranked_prefix : (x n b k : ℕ) → x ≤ n → k < length (ranked_before f x b) → get_or (ranked_before f n b) k 0 ≡ get_or (ranked_before f x b) k 0
  ranked_prefix x n b k l h =
      ap (λ xs. get_or xs k 0) (ranked_more x n b l) ∙ get_or-append (ranked_before f x b) (keep (λ y. goes_to f y b) (drop x (below n))) 0 k h

  -- a block that goes there is the next
  module _ (x b : ℕ) (goes : goes_to f x b ≡ true) where
    ranked_with : ranked_before f (suc x) b ≡ ranked_before f x b ++ (x ∷ [])
    ranked_with = rw goes at (ranked_suc x b)

    pub ranked_counts : length (ranked_before f (suc x) b) ≡ length (ranked_before f x b) + 1
    ranked_counts = ap length ranked_with ∙ length-append (ranked_before f x b) (x ∷ [])

    pub ranked_next : (n : ℕ) → x < n → get_or (ranked_before f n b) (length (ranked_before f x b)) 0 ≡ x
    ranked_next n l =
        ranked_prefix (suc x) n b (length (ranked_before f x b)) l (omega (arith, ranked_counts))
        ∙ ap (λ xs. get_or xs (length (ranked_before f x b)) 0) ranked_with
        ∙ get_or-append_seam (ranked_before f x b) x [] 0
