-- What a mention comes to: its name's number behind those of the instruction in hand, the name among those kept.
-- Assumes nothing.
use mathlib.Core.Bool.{Bool, true, false, cond}
use mathlib.Core.Path.{◌≡◌, refl, sym, ap, ◌∙◌}
use mathlib.Core.List.{List, [], ◌∷◌, ◌++◌, map-append}
use Prim.Native.Nat.{ℕ, ◌+◌, ◌≤◌, ◌<◌}
use native.Mathlib.Decide.{dec_lt}
use native.Mathlib.Omega.{arith}
use lib.Dec.{ltb}
use lib.ListN.{length, length-append}
use borrow.Author.Tests.{lt-ltb, le-ltb}
use Rattle.laws.specs.Lists.{gather}
use Rattle.laws.proofs.Every.{Every, every_right}
use Rattle.language.specs.Reading.{Draft as Draftᴸ, Mention, open_rows, mentions_in, add_mention}
use Rattle.drafts.specs.Mentions.{max_names, name_number, keep_mention, kept}
use Rattle.drafts.specs.State.{Bounded, Acts, Always, NameKept, Stands, lent_of, with_name_at}
use Rattle.drafts.specs.declared.state.Draft.{Draft}
use Rattle.std.specs.Prelude.{Ok}
use Rattle.text_place.specs.declared.TextPlace.{TextPlace}
use Rattle.drafts.proofs.FirstTwo.{Pushed}
use Rattle.drafts.proofs.InHand.{held, bounded, numbers_of, sources_in, mentions_in_law, counted}
use Rattle.drafts.proofs.MentionLaws.{Settled, keep_all, all_stays, own_number, draft_settled}
use Rattle.drafts.proofs.PartsLaws.{rows_same, entries_same, mentioned, kept_mentioned, adds_mention}
use Rattle.drafts.proofs.StateLaws.{stored, proceeding}

-- ---- how many names are kept

abbrev counting : (k n : ℕ) → ℕ
counting k n = cond (ltb k n) n (cond (ltb n max_names) (n + 1) n)

counting_most : (k n : ℕ) → n ≤ max_names → counting k n ≤ max_names
counting_most k n h = by (dec_lt n max_names) (ltb k n)
  where
    by : Dec (n < max_names) → (b : Bool) → cond b n (cond (ltb n max_names) (n + 1) n) ≤ max_names
    by q true = h
    by (yes q) false = rw (lt-ltb n max_names q) (omega arith)
    by (no q) false = rw (le-ltb n max_names (omega arith)) h

counting_kept : (ks : List Mention) (m : Mention) → counting (name_number ks m.name) (length ks) ≡ length (keep_mention ks m)
unfolding keep_mention
counting_kept ks m = by (ltb (name_number ks m.name) (length ks)) (ltb (length ks) max_names)
  where
    by : (b c : Bool) → cond b (length ks) (cond c (length ks + 1) (length ks)) ≡ length (cond b ks (cond c (ks ++ (m ∷ [])) ks))
    by true c = refl
    by false true = sym (length-append ks (m ∷ []))
    by false false = refl

-- ---- the numbers of the names in hand

numbers_stay : (ks more ms : List Mention) → Every (λ m. Settled ks m.name) ms → numbers_of (keep_all ks more) ms ≡ numbers_of ks ms
numbers_stay ks more [] h = refl
numbers_stay ks more (m ∷ ms) (Every.more s h) = rw (all_stays m.name ks more s, numbers_stay ks more ms h)

module _ (d : Draftᴸ) (m : Mention) where
  numbers_mentioned : numbers_of (kept (mentioned d m)) (d.parts.mentions ++ (m ∷ [])) ≡ numbers_of (kept d) d.parts.mentions ++ (name_number (kept d) m.name ∷ [])
  numbers_mentioned =
      let ms = d.parts.mentions in
      let now = keep_mention (kept d) m in
      ap (λ (ks : List Mention). numbers_of ks (ms ++ (m ∷ []))) (kept_mentioned d m)
      ∙ map-append (λ (k : Mention). name_number now k.name) ms (m ∷ [])
      ∙ rw (numbers_stay (kept d) (m ∷ []) ms (every_right (gather mentions_in (open_rows d)) ms (draft_settled d)), own_number (kept d) m)

-- ---- the act

module _ {s : Draft} (b : Bounded s) (name : List ℕ) (p : TextPlace) {pend pend' : List ℕ} {k : ℕ} (is : NameKept s.blocks.names name p.byte pend pend' k) where
  abbrev new : Mention
  new = record { name = name; place = p.byte }

  -- with the numbers i and j of the first two names, of u
  abbrev mentioned_at : Draft → (i j u : ℕ) → Draft
  mentioned_at t i j u =
      held t t.blocks.rows t.blocks.entries t.blocks.names t.parts.op t.parts.target t.parts.left t.parts.right t.parts.sources t.parts.number
      t.parts.entries i j u

  module _ (f n l q : List ℕ) {i j u : ℕ} where
    mentions : Pushed k s.parts.one s.parts.other s.parts.mentions i j u → (d : Draftᴸ) → Stands d s (lent_of f n pend l q)
        → Stands (mentioned d new) (mentioned_at (with_name_at s k) i j u) (lent_of f n pend' l q)
    mentions push d h =
        let c = h.counts in
        let ks = kept d in
        let x = (mentioned d new).parts in
        let number : k ≡ name_number ks name = is.number ks c.blocks.names h.pending in
        let names : counting k s.blocks.names ≡ length (keep_mention ks new) = rw (number, c.blocks.names) (counting_kept ks new) in
        stored h (adds_mention d new h.within) refl
        (counted c d.block x (rw (rows_same d x) c.blocks.rows) (rw (entries_same d x refl) c.blocks.entries) (rw (kept_mentioned d new) names) c.parts.op c.parts.target
        (sources_in c) c.parts.number c.parts.entries
        (rw (numbers_mentioned d new, ← number) (push (numbers_of ks d.parts.mentions) (mentions_in_law c))))
        h.names (rw (kept_mentioned d new) (is.all ks c.blocks.names h.pending)) h.indexed

    mention_acts : Pushed k s.parts.one s.parts.other s.parts.mentions i j u → i ≤ max_names → j ≤ max_names
        → Acts Always (add_mention name p.byte) s (lent_of f n pend l q) (Ok (mentioned_at (with_name_at s k) i j u)) (lent_of f n pend' l q)
    unfolding add_mention
    mention_acts push bi bj =
        record {
          kept =
              bounded b (omega arith) b.rows b.entries (counting_most k s.blocks.names b.names) b.op b.target b.left b.right b.own bi bj;
          whole = λ w. record { cells = w.cells; names = w.names; pending = is.size ∙ w.pending; last = w.last; before = w.before };
          meaning = λ d h fit. proceeding refl (mentions push d h);
        }

    pub mention_proceeds : {t : Draft} → t ≡ with_name_at s k → Pushed k t.parts.one t.parts.other t.parts.mentions i j u → i ≤ max_names → j ≤ max_names
        → Acts Always (add_mention name p.byte) s (lent_of f n pend l q) (Ok (mentioned_at t i j u)) (lent_of f n pend' l q)
    mention_proceeds e push bi bj = rw e (mention_acts (rw e at push) bi bj)
