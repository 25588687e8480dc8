-- The names kept of those mentioned: each once, 65 at the most, and the number of one that is kept, or comes too late to be kept, stays.
-- Assumes nothing.
use mathlib.Core.Bool.{true≢false}
use mathlib.Core.Path.{◌≡◌, refl, sym, ap, ◌∙◌}
use mathlib.Core.List.{List, [], ◌∷◌, ◌++◌, map, foldl, foldl-append}
use Prim.Native.Nat.{ℕ, ◌≤◌, ◌<◌}
use native.Mathlib.Nat.{not-suc-le-zero}
use native.Mathlib.Decide.{dec_lt}
use native.Mathlib.Omega.{arith}
use lib.ListN.{length, get_or, length-append, get_or-append}
use lib.Seq.{get_or-append_seam}
use borrow.Author.Tests.{lt-ltb, le-ltb}
use Rattle.laws.specs.Lists.{same, gather}
use Rattle.laws.proofs.Every.{Every, every_left, every_gathered}
use Rattle.laws.proofs.Positions.{position_le, position_before, position_left, position_seam, same_refl, same_is}
use Rattle.language.specs.Programs.{Row}
use Rattle.language.specs.Reading.{Mention, no_mention, OpenRow, Draft, mentions_in, open_rows}
use Rattle.drafts.specs.Mentions.{max_names, name_number, keep_mention, kept_of, mentions_of, kept}
use Rattle.drafts.specs.Cells.{numbered_row, numbered_rows}

-- ---- one more mention

pub number_le : (ks : List Mention) (n : List ℕ) → name_number ks n ≤ length ks
unfolding name_number
number_le ks n = position_le (λ k. same k.name n) ks

number_left : (ks : List Mention) (m : Mention) (n : List ℕ) → name_number ks n < length ks → name_number (ks ++ (m ∷ [])) n ≡ name_number ks n
unfolding name_number
number_left ks m n h = position_left (λ k. same k.name n) ks (m ∷ []) h

number_seam : (ks : List Mention) (m : Mention) → length ks ≤ name_number ks m.name → name_number (ks ++ (m ∷ [])) m.name ≡ length ks
unfolding name_number
number_seam ks m h = position_seam (λ k. same k.name m.name) ks m h (same_refl m.name)

-- A name is settled: it is kept, or there is no room left.
abbrev pub Settled : List Mention → List ℕ → Type 0
Settled ks n = length ks < max_names → name_number ks n < length ks

module _ (ks : List Mention) (m : Mention) where
  pub keep_settled : Settled ks m.name → keep_mention ks m ≡ ks
  unfolding keep_mention
  keep_settled h = by (dec_lt (length ks) max_names) (dec_lt (name_number ks m.name) (length ks))
    where
      by : Dec (length ks < max_names) → Dec (name_number ks m.name < length ks) → keep_mention ks m ≡ ks
      by r (yes c) = rw (lt-ltb (name_number ks m.name) (length ks) c)
      by (yes r) (no c) = absurd (c (h r))
      by (no r) (no c) = rw (le-ltb (name_number ks m.name) (length ks) (omega arith), le-ltb (length ks) max_names (omega arith))

  pub keep_new : length ks < max_names → length ks ≤ name_number ks m.name → keep_mention ks m ≡ ks ++ (m ∷ [])
  unfolding keep_mention
  keep_new r c = rw (le-ltb (name_number ks m.name) (length ks) c, lt-ltb (length ks) max_names r)

  -- What holds of the list as it was and, the mention being new, of the one with it at its end, holds of the list that is kept.
  pub kept_cases : (P : List Mention → Type 0) → (Settled ks m.name → P ks)
      → (length ks < max_names → length ks ≤ name_number ks m.name → P (ks ++ (m ∷ []))) → P (keep_mention ks m)
  kept_cases P old new = by (dec_lt (length ks) max_names) (dec_lt (name_number ks m.name) (length ks))
    where
      by : Dec (length ks < max_names) → Dec (name_number ks m.name < length ks) → P (keep_mention ks m)
      by r (yes c) = let s : Settled ks m.name = λ l. c in rw (keep_settled s) (old s)
      by (no r) (no c) = let s : Settled ks m.name = λ l. absurd (r l) in rw (keep_settled s) (old s)
      by (yes r) (no c) = let l : length ks ≤ name_number ks m.name = omega arith in rw (keep_new r l) (new r l)

  -- its own number, kept or not, is the one found before
  pub own_number : name_number (keep_mention ks m) m.name ≡ name_number ks m.name
  own_number =
      kept_cases (λ l. name_number l m.name ≡ name_number ks m.name) (λ s. refl)
      (λ r c. number_seam ks m c ∙ omega (arith, number_le ks m.name))

  pub settles : Settled (keep_mention ks m) m.name
  settles =
      kept_cases (λ l. Settled l m.name) (λ s. s)
      (λ r c l. simp length-append (omega (arith, number_seam ks m c)))

  module _ (n : List ℕ) (s : Settled ks n) where
    pub stays : name_number (keep_mention ks m) n ≡ name_number ks n
    stays = kept_cases (λ l. name_number l n ≡ name_number ks n) (λ o. refl) (λ r c. number_left ks m n (s r))

    pub settled_stays : Settled (keep_mention ks m) n
    settled_stays =
        kept_cases (λ l. Settled l n) (λ o. s)
        (λ r c l. simp length-append (omega (arith, number_left ks m n (s r), s r)))

  pub length_keep : length ks ≤ max_names → length (keep_mention ks m) ≤ max_names
  length_keep h = kept_cases (λ l. length l ≤ max_names) (λ s. h) (λ r c. simp length-append (omega arith))

  pub keep_grows : length ks ≤ length (keep_mention ks m)
  keep_grows = kept_cases (λ l. length ks ≤ length l) (λ s. omega arith) (λ r c. simp length-append (omega arith))

  pub keep_prefix : (i : ℕ) → i < length ks → get_or (keep_mention ks m) i no_mention ≡ get_or ks i no_mention
  keep_prefix i b = kept_cases (λ l. get_or l i no_mention ≡ get_or ks i no_mention) (λ s. refl) (λ r c. get_or-append ks (m ∷ []) no_mention i b)

-- ---- more mentions

abbrev pub keep_all : List Mention → List Mention → List Mention
keep_all ks ms = foldl keep_mention ks ms

module _ (n : List ℕ) where
  pub all_stays : (ks ms : List Mention) → Settled ks n → name_number (keep_all ks ms) n ≡ name_number ks n
  all_stays ks [] s = refl
  all_stays ks (m ∷ ms) s = all_stays (keep_mention ks m) ms (settled_stays ks m n s) ∙ stays ks m n s

  pub all_settled_stays : (ks ms : List Mention) → Settled ks n → Settled (keep_all ks ms) n
  all_settled_stays ks [] s = s
  all_settled_stays ks (m ∷ ms) s = all_settled_stays (keep_mention ks m) ms (settled_stays ks m n s)

pub all_settle : (ks ms : List Mention) → Every (λ m. Settled (keep_all ks ms) m.name) ms
all_settle ks [] = Every.none
all_settle ks (m ∷ ms) = Every.more (all_settled_stays m.name (keep_mention ks m) ms (settles ks m)) (all_settle (keep_mention ks m) ms)

pub all_length : (ks ms : List Mention) → length ks ≤ max_names → length (keep_all ks ms) ≤ max_names
all_length ks [] h = h
all_length ks (m ∷ ms) h = all_length (keep_mention ks m) ms (length_keep ks m h)

pub all_prefix : (ks ms : List Mention) (i : ℕ) → i < length ks → get_or (keep_all ks ms) i no_mention ≡ get_or ks i no_mention
all_prefix ks [] i b = refl
all_prefix ks (m ∷ ms) i b = all_prefix (keep_mention ks m) ms i (omega (arith, keep_grows ks m)) ∙ keep_prefix ks m i b

-- every mention is settled in what is kept of them
pub settled : (ms : List Mention) → Every (λ m. Settled (kept_of ms) m.name) ms
unfolding kept_of
settled ms = all_settle [] ms

pub kept_length : (ms : List Mention) → length (kept_of ms) ≤ max_names
unfolding kept_of
kept_length ms = all_length [] ms (omega arith)

pub kept_append : (ms ns : List Mention) → kept_of (ms ++ ns) ≡ keep_all (kept_of ms) ns
unfolding kept_of
kept_append ms ns = foldl-append keep_mention [] ms ns

pub kept_more : (ms : List Mention) (m : Mention) → kept_of (ms ++ (m ∷ [])) ≡ keep_mention (kept_of ms) m
kept_more ms m = kept_append ms (m ∷ [])

-- ---- no name stands twice

abbrev pub Apart : List Mention → Type 0
Apart ks = (i j : ℕ) → i < j → j < length ks → (get_or ks i no_mention).name ≡ (get_or ks j no_mention).name → ⊥

module _ (ks : List Mention) (m : Mention) (h : Apart ks) where
  not_before : length ks ≤ name_number ks m.name → (i : ℕ) → i < length ks → (get_or ks i no_mention).name ≡ m.name → ⊥
  unfolding name_number
  not_before c i b e =
      true≢false (sym (same_is (get_or ks i no_mention).name m.name e) ∙ position_before (λ k. same k.name m.name) no_mention ks i (omega arith))

  appended_apart : length ks ≤ name_number ks m.name → Apart (ks ++ (m ∷ []))
  appended_apart c i j l b e = by (dec_lt j (length ks))
    where
      here : i < length ks
      here = omega (arith, length-append ks (m ∷ []))

      left : get_or (ks ++ (m ∷ [])) i no_mention ≡ get_or ks i no_mention
      left = get_or-append ks (m ∷ []) no_mention i here

      by : Dec (j < length ks) → ⊥
      by (yes k) = h i j l k (sym (ap (λ (x : Mention). x.name) left) ∙ e ∙ ap (λ (x : Mention). x.name) (get_or-append ks (m ∷ []) no_mention j k))
      by (no k) =
          let q : j ≡ length ks = omega (arith, length-append ks (m ∷ [])) in
          let right : get_or (ks ++ (m ∷ [])) j no_mention ≡ m = rw (q, get_or-append_seam ks m [] no_mention) in
          not_before c i here (sym (ap (λ (x : Mention). x.name) left) ∙ e ∙ ap (λ (x : Mention). x.name) right)

  pub keep_apart : Apart (keep_mention ks m)
  keep_apart = kept_cases ks m Apart (λ s. h) (λ r c. appended_apart c)

pub all_apart : (ks ms : List Mention) → Apart ks → Apart (keep_all ks ms)
all_apart ks [] h = h
all_apart ks (m ∷ ms) h = all_apart (keep_mention ks m) ms (keep_apart ks m h)

pub kept_apart : (ms : List Mention) → Apart (kept_of ms)
unfolding kept_of
kept_apart ms = all_apart [] ms (λ i j l b e. absurd (not-suc-le-zero b))

-- ---- rows whose mentions are settled keep their numbers

pub numbered_stays : (ks ms : List Mention) (r : OpenRow) → Every (λ m. Settled ks m.name) (mentions_in r)
    → numbered_row (keep_all ks ms) r ≡ numbered_row ks r
numbered_stays ks ms (OpenRow.row r) h = refl
numbered_stays ks ms (OpenRow.jump m) (Every.more s h) = ap Row.jump (all_stays m.name ks ms s)
numbered_stays ks ms (OpenRow.branch x m n) (Every.more s (Every.more z h)) = rw (all_stays m.name ks ms s, all_stays n.name ks ms z)

pub all_numbered_stay : (ks ms : List Mention) (rows : List OpenRow) → Every (λ r. Every (λ m. Settled ks m.name) (mentions_in r)) rows
    → map (numbered_row (keep_all ks ms)) rows ≡ map (numbered_row ks) rows
all_numbered_stay ks ms [] h = refl
all_numbered_stay ks ms (r ∷ rows) (Every.more s h) = rw (numbered_stays ks ms r s, all_numbered_stay ks ms rows h)

module _ (d : Draft) where
  -- every mention of the function in hand is settled, in its rows and in the instruction in hand
  pub draft_settled : Every (λ m. Settled (kept d) m.name) (gather mentions_in (open_rows d) ++ d.parts.mentions)
  unfolding kept mentions_of
  draft_settled = settled (mentions_of d)

  pub rows_settled : Every (λ r. Every (λ m. Settled (kept d) m.name) (mentions_in r)) (open_rows d)
  rows_settled = every_gathered mentions_in (open_rows d) (every_left (gather mentions_in (open_rows d)) d.parts.mentions draft_settled)

  -- the numbers in the rows stay when more is mentioned
  pub rows_stay : (ms : List Mention) → map (numbered_row (keep_all (kept d) ms)) (open_rows d) ≡ numbered_rows d
  unfolding numbered_rows
  rows_stay ms = all_numbered_stay (kept d) ms (open_rows d) rows_settled
