-- Made names are new, different from each other, and spellable. Assumes nothing.
use mathlib.Core.Bool.{Bool, true, false, cond, not, ◌||◌, false≢true}
use mathlib.Core.List.{List, [], ◌∷◌}
use mathlib.Core.Logic.{◌⊎◌, inl, inr, ⊎_elim}
use mathlib.Core.Path.{◌≡◌, refl, sym, ◌∙◌, ap, subst}
use Prim.Native.Nat.{ℕ, zero, suc, ◌+◌, ◌-◌, ◌*◌, ◌≤◌, ◌<◌, suc-le-suc}
use native.Mathlib.Nat.{not-suc-le-zero, le_of_suc-le-suc, zero-lt-suc}
use native.Mathlib.Decide.{dec_lt}
use native.Mathlib.Omega.{arith}
use lib.Dec.{T, lit<}
use lib.ListN.{length, get_or, drop, length-append}
use lib.Seq.{drop-append_seam}
use borrow.Author.Tests.{not-true, not-false}
use Rattle.laws.specs.Lists.{any, keep, position, same, from}
use Rattle.laws.proofs.Positions.{position_le, position_hit, position_before, same_eq}
use Rattle.laws.proofs.Indexing.{get_or_from, length_from}
use Rattle.laws.proofs.Tests.{of_true}
use Rattle.laws.specs.Sections.{Bytes}
use Rattle.laws.proofs.Sections.{bytes_append}
use Rattle.language.specs.Names.{spellable}
use Rattle.language.specs.Listing.{digits}
use Rattle.language.proofs.Digits.{digits_apart, digits_short, digits_bytes}
use Rattle.language.proofs.MadeNamesLaws.{Prefix, prefix_short, made_plain_name}
use Rattle.language.proofs.SpelledNames.{plain_spellable}
use Rattle.language.specs.MadeNames.{Title, given, wanted, made_name, in_use, next_free, entitled}

-- ---- numbers and names

pub made_apart : (prefix : List ℕ) (i j : ℕ) → made_name prefix i ≡ made_name prefix j → i ≡ j
made_apart prefix i j e =
    digits_apart i j (sym (drop-append_seam prefix (digits i)) ∙ ap (drop (length prefix)) e ∙ drop-append_seam prefix (digits j))

-- ---- as many numbers cannot be in use as one more than there are names

module _ (a : List ℕ) where
  abbrev others : List (List ℕ) → List (List ℕ)
  others used = keep (λ u. not (same a u)) used

  fewer : (used : List (List ℕ)) → length (others used) ≤ length used
  fewer [] = omega arith
  fewer (u ∷ used) = by (same a u) (fewer used)
    where
      by : (b : Bool) → length (others used) ≤ length used → length (cond (not b) (u ∷ others used) (others used)) ≤ suc (length used)
      by true h = omega arith
      by false h = omega arith

  one_fewer : (used : List (List ℕ)) → any (same a) used ≡ true → length (others used) < length used
  one_fewer [] e = absurd (false≢true e)
  one_fewer (u ∷ used) e = by (same a u) e (one_fewer used)
    where
      by :
          (b : Bool)
          → (b || any (same a) used) ≡ true
          → (any (same a) used ≡ true → length (others used) < length used)
          → length (cond (not b) (u ∷ others used) (others used)) < suc (length used)
      by true e h = omega (arith, fewer used)
      by false e h = omega (arith, h e)

  still_there : (b : List ℕ) → (b ≡ a → ⊥) → (used : List (List ℕ)) → any (same b) used ≡ true → any (same b) (others used) ≡ true
  still_there b d [] e = e
  still_there b d (u ∷ used) e = by (same a u) refl (same b u) refl e (still_there b d used)
    where
      by :
          (x : Bool) → same a u ≡ x → (y : Bool) → same b u ≡ y → (y || any (same b) used) ≡ true
          → (any (same b) used ≡ true → any (same b) (others used) ≡ true) → any (same b) (cond (not x) (u ∷ others used) (others used)) ≡ true
      by true p true q e h = absurd (d (same_eq b u (of_true _ q) ∙ sym (same_eq a u (of_true _ p))))
      by true p false q e h = h e
      by false p true q e h = ap (λ (t : Bool). t || any (same b) (others used)) q
      by false p false q e h = ap (λ (t : Bool). t || any (same b) (others used)) q ∙ h e

pigeonhole : (prefix : List ℕ) (m k : ℕ) (used : List (List ℕ)) → ((j : ℕ) → k ≤ j → j < k + m → in_use prefix used j ≡ true) → m ≤ length used
pigeonhole prefix zero k used h = omega arith
pigeonhole prefix (suc m) k used h =
    let here : any (same (made_name prefix k)) used ≡ true = h k (omega arith) (omega arith) in
    let rest : m ≤ length (others (made_name prefix k) used) =
    pigeonhole prefix m (suc k) (others (made_name prefix k) used)
    (λ j l r. still_there (made_name prefix k) (made_name prefix j) (λ e. absurd (omega (arith, made_apart prefix j k e))) used (h j (omega arith) (omega arith))) in
    omega (arith, one_fewer (made_name prefix k) used here)

module _ (prefix : List ℕ) (used : List (List ℕ)) where
  free_from : (k : ℕ) → k ≤ next_free prefix used k
  unfolding next_free
  free_from k = omega arith

  free_most : (k : ℕ) → next_free prefix used k ≤ k + length used
  unfolding next_free
  free_most k = omega (arith, position_le (λ j. not (in_use prefix used j)) (from k (length used)), length_from k (length used))

  -- "not in use"
  pub free : (k : ℕ) → in_use prefix used (next_free prefix used k) ≡ false
  unfolding next_free
  free k = by (dec_lt at n) (in_use prefix used (k + at)) refl
    where
      p : ℕ → Bool
      p j = not (in_use prefix used j)

      n : ℕ
      n = length used

      at : ℕ
      at = position p (from k n)

      most : at ≤ n
      most = omega (arith, position_le p (from k n), length_from k n)

      before : (i : ℕ) → i < at → i < n → in_use prefix used (k + i) ≡ true
      before i l m = not-false (in_use prefix used (k + i)) (ap p (sym (get_or_from k n i 0 m)) ∙ position_before p 0 (from k n) i l)

      by : Dec (at < n) → (b : Bool) → in_use prefix used (k + at) ≡ b → in_use prefix used (k + at) ≡ false
      by (yes l) b e =
          not-true (in_use prefix used (k + at)) (ap p (sym (get_or_from k n at 0 l)) ∙ position_hit p 0 (from k n) (rw length_from l))
      by (no l) false e = e
      by (no l) true e =
          let too_many : suc n ≤ length used =
          pigeonhole prefix (suc n) k used
          (λ j a b.
          let i = j - k in
          let same-j : k + i ≡ j = omega arith in
          elim (dec_lt i n) [
            | yes c ↦ subst (λ (j : ℕ). in_use prefix used j ≡ true) same-j (before i (omega (arith, most)) c)
            | no c ↦ subst (λ (j : ℕ). in_use prefix used j ≡ true) (let z : k + at ≡ j = omega (arith, most) in z) e
          ]) in
          absurd (omega arith)

  -- "the smallest"
  pub smallest : (k j : ℕ) → k ≤ j → j < next_free prefix used k → in_use prefix used j ≡ true
  unfolding next_free
  smallest k j l h =
      let p : ℕ → Bool = λ j. not (in_use prefix used j) in
      let n = length used in
      let i = j - k in
      let same-j : k + i ≡ j = omega arith in
      let m : i < n = omega (arith, position_le p (from k n), length_from k n) in
      not-false (in_use prefix used j) (ap p (sym same-j) ∙ ap p (sym (get_or_from k n i 0 m)) ∙ position_before p 0 (from k n) i (omega arith))

-- ---- which number each title gets

-- The i-th title wants a name; it gives n.
abbrev pub Wants : List Title → ℕ → Type 0
Wants ts i = get_or ts i (given []) ≡ wanted

abbrev pub Gives : List Title → ℕ → List ℕ → Type 0
Gives ts i n = get_or ts i (given []) ≡ given n

pub wants_none : {A : Type 0} {n : List ℕ} → given n ≡ wanted → A
wants_none e = absurd (let z : ◌≡◌ {A = ℕ} 0 1 = cc in omega arith)

none_given : {A : Type 0} {n : List ℕ} → wanted ≡ given n → A
none_given e = wants_none (sym e)

same_given : (m n : List ℕ) → given m ≡ given n → m ≡ n
same_given m n e = cc

module _ (prefix : List ℕ) (used : List (List ℕ)) where
  -- The number that the i-th title gets, from k on.
  abbrev pub number_at : ℕ → List Title → ℕ → ℕ
  number_at k [] i = 0
  number_at k (given n ∷ ts) zero = 0
  number_at k (given n ∷ ts) (suc i) = number_at k ts i
  number_at k (wanted ∷ ts) zero = next_free prefix used k
  number_at k (wanted ∷ ts) (suc i) = number_at (suc (next_free prefix used k)) ts i

  pub name_given : (k : ℕ) (ts : List Title) (i : ℕ) (n : List ℕ) → Gives ts i n → get_or (entitled prefix used k ts) i [] ≡ n
  name_given k [] i n e = same_given [] n e
  name_given k (given m ∷ ts) zero n e = same_given m n e
  name_given k (given m ∷ ts) (suc i) n e = name_given k ts i n e
  name_given k (wanted ∷ ts) zero n e = none_given e
  name_given k (wanted ∷ ts) (suc i) n e = name_given (suc (next_free prefix used k)) ts i n e

  pub name_made : (k : ℕ) (ts : List Title) (i : ℕ) → Wants ts i → get_or (entitled prefix used k ts) i [] ≡ made_name prefix (number_at k ts i)
  name_made k [] i e = wants_none e
  name_made k (given m ∷ ts) zero e = wants_none e
  name_made k (given m ∷ ts) (suc i) e = name_made k ts i e
  name_made k (wanted ∷ ts) zero e = refl
  name_made k (wanted ∷ ts) (suc i) e = name_made (suc (next_free prefix used k)) ts i e

  pub number_free : (k : ℕ) (ts : List Title) (i : ℕ) → Wants ts i → in_use prefix used (number_at k ts i) ≡ false
  number_free k [] i e = wants_none e
  number_free k (given m ∷ ts) zero e = wants_none e
  number_free k (given m ∷ ts) (suc i) e = number_free k ts i e
  number_free k (wanted ∷ ts) zero e = free prefix used k
  number_free k (wanted ∷ ts) (suc i) e = number_free (suc (next_free prefix used k)) ts i e

  number_from : (k : ℕ) (ts : List Title) (i : ℕ) → Wants ts i → k ≤ number_at k ts i
  number_from k [] i e = wants_none e
  number_from k (given m ∷ ts) zero e = wants_none e
  number_from k (given m ∷ ts) (suc i) e = number_from k ts i e
  number_from k (wanted ∷ ts) zero e = free_from prefix used k
  number_from k (wanted ∷ ts) (suc i) e =
      let least = free_from prefix used k in
      let later = number_from (suc (next_free prefix used k)) ts i e in
      omega arith

  pub number_rises : (k : ℕ) (ts : List Title) (i j : ℕ) → i < j → Wants ts i → Wants ts j → number_at k ts i < number_at k ts j
  number_rises k [] i j l e d = wants_none e
  number_rises k (t ∷ ts) i zero l e d = absurd (not-suc-le-zero l)
  number_rises k (given m ∷ ts) zero (suc j) l e d = wants_none e
  number_rises k (given m ∷ ts) (suc i) (suc j) l e d = number_rises k ts i j (le_of_suc-le-suc l) e d
  number_rises k (wanted ∷ ts) zero (suc j) l e d = number_from (suc (next_free prefix used k)) ts j d
  number_rises k (wanted ∷ ts) (suc i) (suc j) l e d = number_rises (suc (next_free prefix used k)) ts i j (le_of_suc-le-suc l) e d

  -- no name's number is too large
  pub number_most : length used ≤ 256 → (k : ℕ) (ts : List Title) (i : ℕ) → Wants ts i → number_at k ts i < k + 257 * suc i
  number_most few k [] i e = wants_none e
  number_most few k (given m ∷ ts) zero e = wants_none e
  number_most few k (given m ∷ ts) (suc i) e = let later = number_most few k ts i e in omega arith
  number_most few k (wanted ∷ ts) zero e = let most = free_most prefix used k in omega arith
  number_most few k (wanted ∷ ts) (suc i) e =
      let most = free_most prefix used k in
      let later = number_most few (suc (next_free prefix used k)) ts i e in
      omega arith

  -- n went to a title before the i-th
  abbrev pub Earlier : ℕ → List Title → ℕ → ℕ → Type 0
  Earlier k ts i n = (j : ℕ) × (j < i) × Wants ts j × (number_at k ts j ≡ n)

  pub number_smallest :
      (k : ℕ) (ts : List Title) (i n : ℕ)
      → Wants ts i
      → k ≤ n
      → n < number_at k ts i
      → (in_use prefix used n ≡ true) ⊎ Earlier k ts i n
  number_smallest k [] i n e l h = wants_none e
  number_smallest k (given m ∷ ts) zero n e l h = wants_none e
  number_smallest k (given m ∷ ts) (suc i) n e l h =
      ⊎_elim (λ u. inl u) (λ u. inr (suc u.0, suc-le-suc u.1, u.2, u.3)) (number_smallest k ts i n e l h)
  number_smallest k (wanted ∷ ts) zero n e l h = inl (smallest prefix used k n l h)
  number_smallest k (wanted ∷ ts) (suc i) n e l h =
      let m = next_free prefix used k in
      elim (dec_lt n m) [
        | yes c ↦ inl (smallest prefix used k n l c)
        | no c ↦
            elim (dec_lt m n) [
              | yes d ↦ ⊎_elim (λ u. inl u) (λ u. inr (suc u.0, suc-le-suc u.1, u.2, u.3)) (number_smallest (suc m) ts i n e d h)
              | no d ↦ inr (zero, zero-lt-suc i, refl, let z : m ≡ n = omega arith in z)
            ]
      ]

-- ---- made names are spellable

prefix_bytes : {prefix : List ℕ} → Prefix prefix → Bytes prefix
prefix_bytes Prefix.registers = (lit< tt, (lit< tt, tt))
prefix_bytes Prefix.blocks = (lit< tt, (lit< tt, tt))

pub made_spellable : {prefix : List ℕ} → Prefix prefix → (j : ℕ) → j < 100000 → T (spellable (made_name prefix j))
made_spellable {prefix} p j h =
    plain_spellable (made_name prefix j) (bytes_append prefix (digits j) (prefix_bytes p) (digits_bytes j)) (made_plain_name p j)
    (omega (arith, length-append prefix (digits j), prefix_short p, digits_short 4 j h))
