-- The closing brace: if a block has each name that is kept, then each name that is mentioned, there being no more names than blocks;
-- else the first mention that names no block is kept, with its place. Assumes nothing.
use mathlib.Core.Bool.{Bool, true, false, cond}
use mathlib.Core.Path.{◌≡◌, sym, ap, ◌∙◌}
use mathlib.Core.List.{List, [], ◌∷◌, ◌++◌, append-nil}
use Prim.Native.Nat.{ℕ, ◌≤◌, ◌<◌}
use native.Mathlib.Nat.{not-suc-le-zero}
use native.Mathlib.Decide.{dec_lt}
use native.Mathlib.Omega.{arith}
use lib.Dec.{eqb}
use lib.ListN.{length, get_or, length-append, get_or-append}
use lib.Seq.{get_or-append_seam}
use borrow.Author.Tests.{eq-eqb, ne_eqb}
use Rattle.laws.specs.Lists.{same, keep, gather}
use Rattle.laws.proofs.Every.{Every, every_imp, kept_every}
use Rattle.laws.proofs.Pigeonhole.{pigeonhole}
use Rattle.laws.proofs.Positions.{position_le, position_hit, same_eq}
use Rattle.laws.proofs.Tests.{of_true}
use Rattle.language.specs.Programs.{max_blocks}
use Rattle.language.specs.Reading.{Mention, no_mention, OpenBlock, no_open_block, Draft, mentions_in, rows_in, open_rows, block_number, undeclared}
use Rattle.drafts.specs.Mentions.{name_number, keep_mention, kept_of, mentions_of, kept}
use Rattle.drafts.specs.State.{NothingOpen}
use Rattle.drafts.proofs.MentionLaws.{Apart, keep_all, kept_cases, keep_new, keep_apart, all_prefix, settled, kept_apart}

-- the name at the number found is the one looked for
pub kept_name : (ks : List Mention) (n : List ℕ) → name_number ks n < length ks → (get_or ks (name_number ks n) no_mention).name ≡ n
unfolding name_number
kept_name ks n h = same_eq (get_or ks (name_number ks n) no_mention).name n (of_true (same (get_or ks (name_number ks n) no_mention).name n) (position_hit (λ k. same k.name n) no_mention ks h))

module _ (bs : List OpenBlock) where
  pub block_le : (n : List ℕ) → block_number bs n ≤ length bs
  unfolding block_number
  block_le n = position_le (λ b. same b.name n) bs

  block_name : (n : List ℕ) → block_number bs n < length bs → (get_or bs (block_number bs n) no_open_block).name ≡ n
  unfolding block_number
  block_name n h = same_eq (get_or bs (block_number bs n) no_open_block).name n (of_true (same (get_or bs (block_number bs n) no_open_block).name n) (position_hit (λ b. same b.name n) no_open_block bs h))

  -- A block has the name mentioned; of all in a list one has.
  abbrev pub Declared : Mention → Type 0
  Declared m = block_number bs m.name < length bs

  abbrev pub AllDeclared : List Mention → Type 0
  AllDeclared ks = (k : ℕ) → k < length ks → Declared (get_or ks k no_mention)

  abbrev unknown : Mention → Bool
  unknown m = eqb (block_number bs m.name) (length bs)

  known_fails : (m : Mention) → Declared m → unknown m ≡ false
  known_fails m h = ne_eqb (block_number bs m.name) (length bs) (λ e. absurd (omega arith))

  unknown_passes : (m : Mention) → (Declared m → ⊥) → unknown m ≡ true
  unknown_passes m h = eq-eqb (block_number bs m.name) (length bs) (omega (arith, block_le m.name, h))

  -- what is kept and declared is declared where it is mentioned
  declared_by : (ks : List Mention) → AllDeclared ks → (m : Mention) → name_number ks m.name < length ks → Declared m
  declared_by ks h m b = rw (kept_name ks m.name b) at (h (name_number ks m.name) b)

  -- names declared, no two alike, are no more than the blocks
  declared_few : (ks : List Mention) → Apart ks → AllDeclared ks → length ks ≤ length bs
  declared_few ks a h = pigeonhole (length ks) (length bs) (λ i. block_number bs (get_or ks i no_mention).name) h
      (λ i j l b e.
      a i j l b
      (sym (block_name (get_or ks i no_mention).name (h i (omega arith))) ∙ ap (λ (k : ℕ). (get_or bs k no_open_block).name) e
      ∙ block_name (get_or ks j no_mention).name (h j b)))

  module _ (few : length bs ≤ max_blocks) where
    -- ---- all that are kept are declared

    module _ (ms : List Mention) (h : AllDeclared (kept_of ms)) where
      pub kept_few : length (kept_of ms) ≤ length bs
      kept_few = declared_few (kept_of ms) (kept_apart ms) h

      pub all_kept : Every (λ m. name_number (kept_of ms) m.name < length (kept_of ms)) ms
      all_kept = every_imp (λ m s. s (omega (arith, kept_few))) (settled ms)

      pub all_declared : Every Declared ms
      all_declared = every_imp (λ m b. declared_by (kept_of ms) h m b) all_kept

      none_unknown : keep unknown ms ≡ []
      none_unknown = kept_every unknown (every_imp known_fails all_declared)

    -- ---- one of them is the first that is not

    declared_more : (ks : List Mention) (m : Mention) → AllDeclared ks → Declared m → AllDeclared (keep_mention ks m)
    declared_more ks m h c = kept_cases ks m AllDeclared (λ s. h) (λ r l k b. by k b (dec_lt k (length ks)))
      where
        by : (k : ℕ) → k < length (ks ++ (m ∷ [])) → Dec (k < length ks) → Declared (get_or (ks ++ (m ∷ [])) k no_mention)
        by k b (yes i) = rw (get_or-append ks (m ∷ []) no_mention k i) (h k i)
        by k b (no i) = let e : k ≡ length ks = omega (arith, length-append ks (m ∷ [])) in rw (e, get_or-append_seam ks m [] no_mention) c

    -- a name that is not declared is not among those that are
    unknown_new : (ks : List Mention) (m : Mention) → Apart ks → AllDeclared ks → (Declared m → ⊥) → keep_mention ks m ≡ ks ++ (m ∷ [])
    unknown_new ks m a h c =
        let new : name_number ks m.name < length ks → ⊥ = λ b. c (declared_by ks h m b) in
        keep_new ks m (omega (arith, declared_few ks a h)) (omega (arith, new))

    -- Of the names kept the r-th is the first that no block has.
    pub record FirstUnknown (ks : List Mention) (r : ℕ) : Type 0 where
      pub inside : r < length ks
      pub before : (k : ℕ) → k < r → Declared (get_or ks k no_mention)
      pub here : Declared (get_or ks r no_mention) → ⊥

    abbrev StartsWith : List Mention → Mention → Type 0
    StartsWith ms m = (rest : List Mention) × (keep unknown ms ≡ m ∷ rest)

    found_there : (ks : List Mention) (m : Mention) (ms : List Mention) (r : ℕ) → Apart ks → AllDeclared ks → (Declared m → ⊥)
        → FirstUnknown (keep_all ks (m ∷ ms)) r → get_or (keep_all ks (m ∷ ms)) r no_mention ≡ m
    found_there ks m ms r a h c z =
        let all : List Mention = keep_all (ks ++ (m ∷ [])) ms in
        let same-list : keep_all ks (m ∷ ms) ≡ all = ap (λ (l : List Mention). keep_all l ms) (unknown_new ks m a h c) in
        let at-seam : get_or all (length ks) no_mention ≡ m =
        all_prefix (ks ++ (m ∷ [])) ms (length ks) (simp length-append (omega arith)) ∙ get_or-append_seam ks m [] no_mention in
        let there : get_or (keep_all ks (m ∷ ms)) (length ks) no_mention ≡ m = ap (λ (l : List Mention). get_or l (length ks) no_mention) same-list ∙ at-seam in
        let not-later : length ks < r → ⊥ = λ l. c (rw there at (z.before (length ks) l)) in
        let not-sooner : r < length ks → ⊥ = λ l. z.here (rw (all_prefix ks (m ∷ ms) r l) (h r l)) in
        let e : r ≡ length ks = omega (arith, not-later, not-sooner) in
        ap (λ (k : ℕ). get_or (keep_all ks (m ∷ ms)) k no_mention) e ∙ there

    first_unknown : (ks ms : List Mention) (r : ℕ) → Apart ks → AllDeclared ks → FirstUnknown (keep_all ks ms) r
        → StartsWith ms (get_or (keep_all ks ms) r no_mention)
    first_unknown ks [] r a h z = absurd (z.here (h r z.inside))
    first_unknown ks (m ∷ ms) r a h z = by (dec_lt (block_number bs m.name) (length bs)) (λ c. first_unknown (keep_mention ks m) ms r (keep_apart ks m a) (declared_more ks m h c) z)
      where
        rest_of : (b : Bool) → unknown m ≡ b → keep unknown (m ∷ ms) ≡ cond b (m ∷ keep unknown ms) (keep unknown ms)
        rest_of b e = ap (λ (x : Bool). cond x (m ∷ keep unknown ms) (keep unknown ms)) e

        by : Dec (Declared m) → (Declared m → StartsWith ms (get_or (keep_all ks (m ∷ ms)) r no_mention)) → StartsWith (m ∷ ms) (get_or (keep_all ks (m ∷ ms)) r no_mention)
        by (yes c) later = let w = later c in (w.0, rest_of false (known_fails m c) ∙ w.1)
        by (no c) later =
            (keep unknown ms, rest_of true (unknown_passes m c) ∙ ap (λ (x : Mention). x ∷ keep unknown ms) (sym (found_there ks m ms r a h c z)))

    kept_unknown : (ms : List Mention) (r : ℕ) → FirstUnknown (kept_of ms) r → StartsWith ms (get_or (kept_of ms) r no_mention)
    unfolding kept_of
    kept_unknown ms r z = first_unknown [] ms r (λ i j l b e. absurd (not-suc-le-zero b)) (λ k b. absurd (not-suc-le-zero b)) z

-- ---- the function in hand

module _ (d : Draft) (few : length d.blocks ≤ max_blocks) (none : NothingOpen d) where
  pub all_rows : open_rows d ≡ rows_in d.blocks
  unfolding open_rows
  all_rows = ap (λ (b : OpenBlock). rows_in d.blocks ++ b.rows) none.0 ∙ append-nil (rows_in d.blocks)

  pub all_mentions : mentions_of d ≡ gather mentions_in (rows_in d.blocks)
  unfolding mentions_of
  all_mentions = rw (all_rows, none.1.1) (append-nil (gather mentions_in (rows_in d.blocks)))

  pub none_undeclared : AllDeclared d.blocks (kept d) → undeclared d.blocks ≡ []
  unfolding kept undeclared
  none_undeclared h = rw all_mentions at (none_unknown d.blocks few (mentions_of d) h)

  pub first_undeclared : (r : ℕ) → FirstUnknown d.blocks few (kept d) r
      → (rest : List Mention) × (undeclared d.blocks ≡ get_or (kept d) r no_mention ∷ rest)
  unfolding kept undeclared
  first_undeclared r z =
      let w = kept_unknown d.blocks few (mentions_of d) r z in
      (w.0, ap (keep (λ m. eqb (block_number d.blocks m.name) (length d.blocks))) (sym all_mentions) ∙ w.1)
