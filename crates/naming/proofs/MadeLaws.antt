-- The names given and made, one by one in table order. Assumes nothing.
use mathlib.Core.Bool.{Bool, true, false, cond, not, ◌&&◌, true≢false}
use mathlib.Core.List.{List, [], ◌∷◌, map}
use mathlib.Core.Path.{◌≡◌, refl, sym, ap, ◌∙◌}
use Prim.Native.Nat.{ℕ, zero, suc, ◌+◌, ◌-◌, ◌*◌, ◌≤◌, ◌<◌}
use native.Mathlib.Numerals.{add-one}
use native.Mathlib.Omega.{arith}
use lib.Dec.{eqb}
use lib.ListN.{length, get_or, set, take, drop, length-drop}
use lib.Seq.{get_or-set_same, get_or-set_other}
use Rattle.laws.specs.Lists.{empty, from, below, sum}
use Rattle.laws.proofs.Indexing.{get_or_of_drop, drop_of_drop}
use Rattle.laws.proofs.OneMore.{range_more}
use Rattle.laws.proofs.Sums.{sum_drop}
use Rattle.language.specs.Table.{name_at}
use Rattle.language.specs.MadeNames.{Title, given, wanted, made_name, entitled, block_title}
use Rattle.naming.specs.Numbered.{plain_flag, Marked, Free, Numbered}
use Rattle.naming.proofs.Marks.{names, next_free_law}
use Rattle.table.specs.Named.{NameWithin}

-- a name has no bytes exactly if its length is 0, since cells follow
pub no_bytes : (t : List ℕ) (c : ℕ) → get_or t c 0 ≡ 0 → empty (name_at t c) ≡ true
no_bytes t c e = rw e

pub some_bytes : (t : List ℕ) (c : ℕ) → NameWithin t c → (get_or t c 0 ≡ 0 → ⊥) → empty (name_at t c) ≡ false
some_bytes t c h n = by (get_or t c 0) (drop (c + 1) t) n (omega (arith, length-drop (c + 1) t))
  where
    by : (k : ℕ) (l : List ℕ) → (k ≡ 0 → ⊥) → 1 ≤ length l → empty (take k l) ≡ false
    by zero l z s = absurd (z refl)
    by (suc k) [] z s = absurd (omega arith)
    by (suc k) (x ∷ l) z s = refl

module _ (prefix t : List ℕ) (at stride count kept : ℕ) where
  abbrev name : ℕ → List ℕ
  name i = name_at t (at + stride * i)

  abbrev unnamed : ℕ → Bool
  unnamed i = empty (name i) && not (eqb i kept)

  abbrev used : List (List ℕ)
  used = names prefix t at stride count

  abbrev title : ℕ → Title
  title i = block_title kept i (name i)

  abbrev whole : List (List ℕ)
  whole = entitled prefix used 0 (map title (below count))

  -- Those before i are done; `next` is the number to look from.
  pub record Going (marks : List ℕ) (i next : ℕ) (made : List ℕ) : Type 0 where
    pub upto : i ≤ count
    pub rest : drop i whole ≡ entitled prefix used next (map title (from i (count - i)))
    pub room : next + sum (drop next marks) ≤ i + count
    pub done : (b : ℕ) → b < i → get_or whole b [] ≡ cond (unnamed b) (made_name prefix (get_or made b 0)) (name b)
    pub plain : (b : ℕ) → b < i → empty (name b) ≡ false → get_or made b 0 ≡ plain_flag (name b)

  pub going_first : {marks : List ℕ} → Marked prefix t at stride count marks → (made : List ℕ) → Going marks 0 0 made
  going_first m made =
      record {
        upto = omega arith;
        rest = let e : count ≡ count - 0 = omega arith in ap (λ (n : ℕ). entitled prefix used 0 (map title (from 0 n))) e;
        room = omega (arith, m.few);
        done = λ b h. absurd (omega arith);
        plain = λ b h. absurd (omega arith);
      }

  module _ {marks : List ℕ} {i next : ℕ} {made : List ℕ} (g : Going marks i next made) (h : i < count) where
    -- the title of name i, then the others
    opened : drop i whole ≡ entitled prefix used next (title i ∷ map title (from (suc i) (count - suc i)))
    opened = g.rest ∙ ap (λ (n : ℕ). entitled prefix used next (map title (from i n))) (let e : count - i ≡ suc (count - suc i) = omega arith in e)

    -- what holds of those before i, and of i
    one_more : (P : ℕ → Type 0) → ((b : ℕ) → b < i → P b) → P i → (b : ℕ) → b < i + 1 → P b
    one_more P f p b l = range_more P 0 i (λ k a u. f k u) p b (omega arith) l

    -- a cell more, and those before it
    module _ (x : ℕ) (l : i < length made) where
      done_before : (b : ℕ) → b < i → get_or whole b [] ≡ cond (unnamed b) (made_name prefix (get_or (set made i x) b 0)) (name b)
      done_before b u = g.done b u ∙ ap (λ (n : ℕ). cond (unnamed b) (made_name prefix n) (name b)) (sym (get_or-set_other made i b x 0 (λ q. omega arith)))

      plain_before : (b : ℕ) → b < i → empty (name b) ≡ false → get_or (set made i x) b 0 ≡ plain_flag (name b)
      plain_before b u e = get_or-set_other made i b x 0 (λ q. omega arith) ∙ g.plain b u e

    pub going_given : unnamed i ≡ false → {x : ℕ} → x ≡ plain_flag (name i) → i < length made → Going marks (i + 1) next (set made i x)
    going_given e {x} p l =
        let o : drop i whole ≡ name i ∷ entitled prefix used next (map title (from (suc i) (count - suc i))) =
        opened ∙ ap (λ (x : Bool). entitled prefix used next (cond x wanted (given (name i)) ∷ map title (from (suc i) (count - suc i)))) e in
        record {
          upto = omega arith;
          rest = rw (add-one i) (drop_of_drop whole i o);
          room = omega (arith, g.room);
          done =
              one_more (λ b. get_or whole b [] ≡ cond (unnamed b) (made_name prefix (get_or (set made i x) b 0)) (name b)) (done_before x l)
              (get_or_of_drop whole i [] o ∙ sym (ap (λ (y : Bool). cond y (made_name prefix (get_or (set made i x) i 0)) (name i)) e));
          plain = one_more (λ b. empty (name b) ≡ false → get_or (set made i x) b 0 ≡ plain_flag (name b)) (plain_before x l) (λ s. get_or-set_same made i x 0 l ∙ p);
        }

    pub going_made :
        Marked prefix t at stride count marks → unnamed i ≡ true → {r : ℕ} → Free marks next r → i < length made
        → Going marks (i + 1) (r + 1) (set made i r)
    going_made m e {r} f l =
        let others : List Title = map title (from (suc i) (count - suc i)) in
        let o : drop i whole ≡ made_name prefix r ∷ entitled prefix used (suc r) others =
        opened ∙ ap (λ (x : Bool). entitled prefix used next (cond x wanted (given (name i)) ∷ others)) e
        ∙ ap (λ (n : ℕ). made_name prefix n ∷ entitled prefix used (suc n) others) (next_free_law prefix t at stride count m f) in
        let here : get_or (set made i r) i 0 ≡ r = get_or-set_same made i r 0 l in
        record {
          upto = omega arith;
          rest = rw (add-one i, add-one r) (drop_of_drop whole i o);
          room = rw (add-one r) (omega (arith, sum_drop marks r (omega (arith, m.size, f.within)), f.free, f.room, g.room));
          done =
              one_more (λ b. get_or whole b [] ≡ cond (unnamed b) (made_name prefix (get_or (set made i r) b 0)) (name b))
              (done_before r l)
              (get_or_of_drop whole i [] o ∙ ap (made_name prefix) (sym here)
              ∙ sym (ap (λ (x : Bool). cond x (made_name prefix (get_or (set made i r) i 0)) (name i)) e));
          plain =
              one_more (λ b. empty (name b) ≡ false → get_or (set made i r) b 0 ≡ plain_flag (name b)) (plain_before r l)
              (λ s. absurd (true≢false (sym e ∙ ap (λ (y : Bool). y && not (eqb i kept)) s)));
        }

  pub going_last : {marks : List ℕ} {i next : ℕ} {made : List ℕ} → Going marks i next made → count ≤ i → Numbered prefix t at stride count kept made
  going_last g h = record { named = λ b l. g.done b (omega arith); plain = λ b l. g.plain b (omega arith) }
