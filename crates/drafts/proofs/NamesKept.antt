-- A name mentioned, in the cells of those that are kept: where it is found, and one more behind the others.
-- Assumes nothing.
use mathlib.Core.Path.{◌≡◌, refl, sym, ap, ◌∙◌}
use mathlib.Core.List.{List, [], ◌∷◌, ◌++◌}
use Prim.Native.Nat.{ℕ, ◌+◌, ◌*◌, ◌/◌, ◌%◌, ◌≤◌, ◌<◌}
use native.Mathlib.Nat.{zero-add, zero-lt-suc}
use native.Mathlib.Decide.{dec_lt}
use native.Mathlib.Omega.{arith}
use lib.Dec.{lit<}
use lib.ListN.{length, get_or, length-append, get_or-append}
use lib.Seq.{sets, length-sets, get_or-append_seam}
use Rattle.laws.specs.Lists.{same, position, below}
use Rattle.laws.specs.Sections.{At}
use Rattle.laws.proofs.Positions.{position_of}
use Rattle.laws.proofs.Sections.{at_right, at_cell, at_part}
use Rattle.laws.proofs.Cells.{get_d_sets_before, part_sets_before, at_sets, at_sets_before}
use Rattle.language.specs.Programs.{max_name}
use Rattle.language.specs.Table.{name_at, four, four_bytes, name_length}
use Rattle.language.specs.Reading.{Mention, no_mention}
use Rattle.table.specs.Named.{is_named, first_named}
use Rattle.drafts.specs.Mentions.{max_names, name_number}
use Rattle.drafts.specs.State.{Pending, NameKept, mention_length, pending_length}
use Rattle.drafts.proofs.MentionLaws.{keep_settled, keep_new}

module _ (n : ℕ) (name : List ℕ) (p : ℕ) (pend : List ℕ) where
  abbrev new : Mention
  new = record { name = name; place = p }

  -- ---- a name looked for

  module _ {k : ℕ} (f : k ≡ first_named pend 0 mention_length n name) where
    looked_for : (ks : List Mention) → n ≡ length ks → Pending ks pend → k ≡ name_number ks name
    unfolding first_named name_number
    looked_for ks e held =
        f
        ∙ ap (λ (c : ℕ). position (is_named pend 0 mention_length name) (below c)) e
        ∙ position_of (λ (m : Mention). same m.name name) (is_named pend 0 mention_length name) no_mention ks
        (λ i l.
        let at : name_at pend (0 + mention_length * i) ≡ (get_or ks i no_mention).name = ap (name_at pend) (zero-add (mention_length * i)) ∙ (held i l).0 in
        ap (λ (l : List ℕ). same l name) at)

    pub name_known : k < n → NameKept n name p pend pend k
    name_known less =
        record {
          size = refl;
          number = looked_for;
          all = λ ks e held. let is = looked_for ks e held in rw (keep_settled ks new (λ r. omega arith)) held;
        }

    module _ (last : k ≤ n) (none : n ≤ k) where
      number_new : (ks : List Mention) → n ≡ length ks → Pending ks pend → n ≡ name_number ks name
      number_new ks e held = let is = looked_for ks e held in omega arith

      pub name_full : max_names ≤ n → NameKept n name p pend pend n
      name_full full =
          record {
            size = refl;
            number = number_new;
            all = λ ks e held. let is = number_new ks e held in rw (keep_settled ks new (λ r. absurd (omega arith))) held;
          }

  -- ---- a name put down behind the others

  module _ (whole : length pend ≡ pending_length) (less : n < max_names) (short : length name ≤ max_name) (low : p < 4294967296) where
    abbrev here : ℕ
    here = mention_length * n

    abbrev once : List ℕ
    once = sets pend here (length name ∷ name)

    abbrev twice : List ℕ
    twice = sets once (here + name_length) (four_bytes p)

    at_name : At twice here (length name ∷ name)
    at_name =
        at_sets_before (length name ∷ name) (four_bytes p) once (here + name_length) (omega arith)
        (at_sets (length name ∷ name) pend here (omega arith))

    new_count : get_or twice here 0 ≡ length name
    new_count = at_cell 0 at_name 0 (zero-lt-suc (length name)) (omega arith)

    new_name : name_at twice here ≡ name
    new_name = at_part (at_right (length name ∷ []) name at_name) {m = here + 1} (omega arith) new_count

    new_place : four twice (here + name_length) ≡ p
    new_place =
        let h : At twice (here + name_length) (four_bytes p) = at_sets (four_bytes p) once (here + name_length) (rw (length-sets pend here (length name ∷ name)) (omega arith)) in
        let c₀ : get_or twice (here + name_length) 0 ≡ p % 256 = at_cell 0 h 0 (lit< tt) (omega arith) in
        let c₁ : get_or twice (here + name_length + 1) 0 ≡ p / 256 % 256 = at_cell 0 h 1 (lit< tt) (omega arith) in
        let c₂ : get_or twice (here + name_length + 2) 0 ≡ p / 65536 % 256 = at_cell 0 h 2 (lit< tt) (omega arith) in
        let c₃ : get_or twice (here + name_length + 2 + 1) 0 ≡ p / 65536 / 256 % 256 = at_cell 0 h 3 (lit< tt) (omega arith) in
        rw (c₀, c₁, c₂, c₃) (omega arith)

    module _ (i : ℕ) (before : i < n) where
      old_cell : (j : ℕ) → j < here → get_or twice j 0 ≡ get_or pend j 0
      old_cell j h = get_d_sets_before 0 (four_bytes p) once (here + name_length) j (omega arith) ∙ get_d_sets_before 0 (length name ∷ name) pend here j h

      old_name : get_or pend (mention_length * i) 0 ≤ max_name → name_at twice (mention_length * i) ≡ name_at pend (mention_length * i)
      old_name small =
          rw (old_cell (mention_length * i) (omega arith))
          (part_sets_before (mention_length * i + 1) (get_or pend (mention_length * i) 0) (four_bytes p) once (here + name_length) (omega arith)
          ∙ part_sets_before (mention_length * i + 1) (get_or pend (mention_length * i) 0) (length name ∷ name) pend here (omega arith))

      old_place : four twice (mention_length * i + name_length) ≡ four pend (mention_length * i + name_length)
      old_place =
          rw (old_cell (mention_length * i + name_length) (omega arith), old_cell (mention_length * i + name_length + 1) (omega arith), old_cell (mention_length * i + name_length + 2) (omega arith), old_cell (mention_length * i + name_length + 2 + 1) (omega arith))

    one_more : (ks : List Mention) → n ≡ length ks → Pending ks pend → Pending (ks ++ (new ∷ [])) twice
    one_more ks e held i b = by (dec_lt i (length ks))
      where
        by : Dec (i < length ks)
            → (name_at twice (mention_length * i) ≡ (get_or (ks ++ (new ∷ [])) i no_mention).name)
            × (four twice (mention_length * i + name_length) ≡ (get_or (ks ++ (new ∷ [])) i no_mention).place)
            × (get_or twice (mention_length * i) 0 ≤ max_name)
        by (yes q) =
            let h = held i q in
            let r : i < n = rw e q in
            let g : get_or (ks ++ (new ∷ [])) i no_mention ≡ get_or ks i no_mention = get_or-append ks (new ∷ []) no_mention i q in (
              old_name i r h.2 ∙ h.0 ∙ ap (λ (m : Mention). m.name) (sym g),
              old_place i r ∙ h.1 ∙ ap (λ (m : Mention). m.place) (sym g),
              rw (old_cell i r (mention_length * i) (omega arith)) h.2,
            )
        by (no q) =
            let r : i ≡ n = omega (arith, length-append ks (new ∷ [])) in
            let g : get_or (ks ++ (new ∷ [])) n no_mention ≡ new = rw e (get_or-append_seam ks new [] no_mention) in
            rw r (
              new_name ∙ ap (λ (m : Mention). m.name) (sym g),
              new_place ∙ ap (λ (m : Mention). m.place) (sym g),
              rw new_count short,
            )

    pub name_added : {k : ℕ} → k ≡ first_named pend 0 mention_length n name → k ≤ n → n ≤ k → {m r : List ℕ} → m ≡ once
        → r ≡ sets m (here + name_length) (four_bytes p) → NameKept n name p pend r n
    name_added f last none g h =
        rw (h, g)
        (record {
          size = length-sets once (here + name_length) (four_bytes p) ∙ length-sets pend here (length name ∷ name);
          number = number_new f last none;
          all =
              λ ks e held.
              let is = number_new f last none ks e held in
              rw (keep_new ks new (omega arith) (omega arith)) (one_more ks e held);
        })
