-- Rows noted one by one: what holds of every register after k of them holds after one more.
-- Assumes nothing.
use mathlib.Core.Path.{◌≡◌, refl, sym, ap, ◌∙◌, subst}
use mathlib.Core.Bool.{Bool, true, false, cond, not, ◌||◌, true≢false}
use mathlib.Core.List.{List, [], ◌∷◌}
use Prim.Native.Nat.{ℕ, suc, ◌+◌, ◌≤◌, ◌<◌}
use native.Mathlib.Nat.{zero-lt-suc, not-suc-le-zero}
use native.Mathlib.Numerals.{add-one}
use native.Mathlib.Decide.{ℕ_discrete, dec_lt}
use native.Mathlib.Omega.{arith}
use lib.Dec.{T, eqb, leb}
use borrow.Author.Tests.{eq-eqb, ne_eqb, le-leb, lt-leb, leb-true, leb-false}
use borrow.Author.Count.{below_more}
use lib.ListN.{length, get_or, set, length-set}
use lib.Seq.{get_or-set_same, get_or-set_other}
use Rattle.laws.specs.Lists.{all, below, member, position}
use Rattle.laws.proofs.Indexing.{any_at, all_at}
use Rattle.laws.proofs.Sums.{sum_below_le}
use Rattle.laws.proofs.OneMore.{sum_below_suc}
use Rattle.laws.proofs.Every.{every_at}
use Rattle.language.specs.Instructions.{form_of, has_target, instruction_count, jump_op, nop_op}
use Rattle.language.specs.Programs.{Func, Row, no_block, rows_at, rows_of, targets_of, max_registers}
use Rattle.language.specs.Table.{register_count, block_count, block_first, block_rows, rows_before, row_op, row_target, decode_row, decode_function}
use Rattle.language.specs.Checking.{in_range, assigned_in}
use Rattle.language.proofs.TableView.{block_first_is, block_count_law, block_rows_count, block_row_is, row_is, row_count_law, register_count_law, targets_as}
use Rattle.theorems.proofs.AcceptanceRows.{range_parts}
use Rattle.flow.specs.Layout.{homes_offset, flow_length, assignment_in, home_in}
use Rattle.flow.specs.Sized.{Sized, Preparable}
use Rattle.flow.specs.Assignments.{assigned_at, home_of, assigns_at, Seen, never, since, Noted, with_note, with_notes}
use Rattle.flow.proofs.Firsts.{position_at, any_nowhere}
use Rattle.language.proofs.FormLaws.{each, unknown_past}
use Rattle.flow.proofs.Standing.{row_within}
use Rattle.instructions.specs.Shapes.{is_terminator_op}

-- ---- which rows have a target

with_target : all (λ op. cond (has_target (form_of op)) (not (eqb op nop_op || leb jump_op op)) (eqb op nop_op || leb jump_op op)) (below instruction_count) ≡ true
unfolding form_of
with_target = refl

module _ (t : List ℕ) (a k : ℕ) where
  targets_by : (b : Bool) → has_target (form_of (row_op t a k)) ≡ b → targets_of (decode_row t a k) ≡ cond b (row_target t a k ∷ []) []
  unfolding decode_row
  targets_by b e = targets_as t a k (form_of (row_op t a k)) ∙ ap (λ x. cond x (row_target t a k ∷ []) []) e

  pub nop_targets : (op : ℕ) → op ≡ row_op t a k → op ≡ nop_op → targets_of (decode_row t a k) ≡ []
  unfolding form_of
  nop_targets op p e = targets_by false (ap (λ o. has_target (form_of o)) (sym p ∙ e))

  pub end_targets : (op : ℕ) {b : Bool} → op ≡ row_op t a k → b ≡ is_terminator_op op → b ≡ true → targets_of (decode_row t a k) ≡ []
  end_targets op p r s = targets_by false (ap (λ o. has_target (form_of o)) (sym p) ∙ elim (dec_lt op instruction_count) [ yes h ↦ inside h | no h ↦ ap has_target (unknown_past op (omega arith)) ])
    where
      l : jump_op ≤ op
      l = leb-true jump_op op (sym r ∙ s)

      by : (b : Bool) → cond b (not (eqb op nop_op || leb jump_op op)) (eqb op nop_op || leb jump_op op) ≡ true → b ≡ false
      by true e = absurd (true≢false (sym e ∙ rw (ne_eqb op nop_op (λ z. omega (arith, l)), le-leb jump_op op l)))
      by false e = refl

      inside : op < instruction_count → has_target (form_of op) ≡ false
      inside h = by (has_target (form_of op)) (each (λ op. cond (has_target (form_of op)) (not (eqb op nop_op || leb jump_op op)) (eqb op nop_op || leb jump_op op)) with_target op h)

  pub own_target : (op : ℕ) → op ≡ row_op t a k → (op ≡ nop_op → ⊥) → {b : Bool} → b ≡ is_terminator_op op → b ≡ false → targets_of (decode_row t a k) ≡ row_target t a k ∷ []
  own_target op p n r s = targets_by true (ap (λ o. has_target (form_of o)) (sym p) ∙ inside)
    where
      l : op < jump_op
      l = leb-false jump_op op (sym r ∙ s)

      by : (b : Bool) → cond b (not (eqb op nop_op || leb jump_op op)) (eqb op nop_op || leb jump_op op) ≡ true → b ≡ true
      by true e = refl
      by false e = absurd (true≢false (sym e ∙ rw (ne_eqb op nop_op n, lt-leb jump_op op l)))

      inside : has_target (form_of op) ≡ true
      inside = by (has_target (form_of op)) (each (λ op. cond (has_target (form_of op)) (not (eqb op nop_op || leb jump_op op)) (eqb op nop_op || leb jump_op op)) with_target op (omega (arith, l)))

-- ---- where a register is first assigned

module _ (t : List ℕ) (a : ℕ) (h : Sized t a) where
  abbrev f : Func
  f = decode_function t a

  -- row i of block c, in the block and in the function
  row_same : (c i : ℕ) → c < block_count t a → i < block_rows t a c → get_or (rows_at f c) i Row.nop ≡ get_or (rows_of f) (block_first t a c + i) Row.nop
  row_same c i l n = block_row_is t a c l i n ∙ sym (row_is t a h.placed (block_first t a c + i) (row_within t a h c i l n))

  -- the rows of an earlier block stand before
  earlier : (c b : ℕ) → c < b → b < block_count t a → block_first t a c + block_rows t a c ≤ block_first t a b
  earlier c b l n =
      rw (block_first_is t a h.placed c (omega arith), block_first_is t a h.placed b n) (sum_below_le (block_rows t a) c b l)

  -- the block of the first row that assigns u is the first that does
  home_here :
      (b j u : ℕ)
      → b < block_count t a
      → j < block_rows t a b
      → assigns_at f (block_first t a b + j) u ≡ true
      → ((i : ℕ) → i < block_first t a b + j → assigns_at f i u ≡ false)
      → home_of f u ≡ b
  unfolding home_of assigned_in
  home_here b j u l n e g =
      position_at (λ x. assigned_in x.rows u) f.blocks b no_block (rw (block_count_law t a) l)
      (λ c o.
      any_nowhere (λ r. member u (targets_of r)) (rows_at f c) Row.nop
      (λ i q.
      let q' : i < block_rows t a c = rw (block_rows_count t a c (omega arith)) at q in
      ap (λ r. member u (targets_of r)) (row_same c i (omega arith) q') ∙ g (block_first t a c + i) (omega (arith, earlier c b o l))))
      (any_at (λ r. member u (targets_of r)) (rows_at f b) j Row.nop (rw (block_rows_count t a b l) n)
      (ap (λ r. member u (targets_of r)) (row_same b j l n) ∙ e))

-- ---- one more row

-- a register whose numbers stay, and which the row does not assign
kept_seen :
    (f : Func) (m m' : List ℕ) (k u : ℕ)
    → get_or m' u 0 ≡ get_or m u 0
    → get_or m' (homes_offset + u) 0 ≡ get_or m (homes_offset + u) 0
    → assigns_at f k u ≡ false
    → Seen f m k u
    → Seen f m' (k + 1) u
kept_seen f m m' k u p q n (never e h) = never (p ∙ e) (below_more (λ i. assigns_at f i u ≡ false) k h n)
kept_seen f m m' k u p q n (since i l e w y h) = since i (omega arith) (p ∙ e) (q ∙ w) y h

length_note : (m : List ℕ) (u b k : ℕ) → length (with_note m u b k) ≡ length m
unfolding with_note
length_note m u b k = by (eqb (get_or m u 0) 0)
  where
    by : (c : Bool) → length (cond c (set (set m u (k + 1)) (homes_offset + u) b) m) ≡ length m
    by true = simp length-set
    by false = refl

module _ (t : List ℕ) (a : ℕ) (fit : Preparable t a) (b j : ℕ) (lb : b < block_count t a) (lj : j < block_rows t a b) (m : List ℕ) where
  abbrev k : ℕ
  k = block_first t a b + j

  abbrev g : Func
  g = decode_function t a

  row_k : get_or (rows_of g) k Row.nop ≡ decode_row t a k
  row_k = row_is t a fit.sized.placed k (row_within t a fit.sized b j lb lj)

  -- a target is a register of the function
  target_few : (v : ℕ) → targets_of (decode_row t a k) ≡ v ∷ [] → v < max_registers
  target_few v e =
      let inside : k < length (rows_of g) = rw (row_count_law t a fit.sized.placed) (row_within t a fit.sized b j lb lj) in
      let right : T (in_range g (decode_row t a k)) = rw row_k at (all_at (in_range g) (rows_of g) k Row.nop fit.ranges inside) in
      let l : v < length g.registers = every_at (rw e at (range_parts g (decode_row t a k) right).registers) 0 0 (zero-lt-suc _) in
      let q : register_count t a ≤ max_registers = fit.sized.registers in
      omega (arith, register_count_law t a)

  -- the row assigns v alone
  module _ (v : ℕ) (target : targets_of (decode_row t a k) ≡ v ∷ []) (count : length m ≡ flow_length) where
    small : v < max_registers
    small = target_few v target

    others : (u : ℕ) → (u ≡ v → ⊥) → assigns_at g k u ≡ false
    others u n = ap (λ r. member u (targets_of r)) row_k ∙ ap (member u) target ∙ ap (λ c. c || false) (ne_eqb v u (λ e. n (sym e)))

    itself : assigns_at g k v ≡ true
    itself = ap (λ r. member v (targets_of r)) row_k ∙ ap (member v) target ∙ ap (λ c. c || false) (eq-eqb v v refl)

    -- where it is the first to
    abbrev new : List ℕ
    new = set (set m v (k + 1)) (homes_offset + v) b

    new_other : (i : ℕ) → (i ≡ v → ⊥) → (i ≡ homes_offset + v → ⊥) → get_or new i 0 ≡ get_or m i 0
    new_other i p q = get_or-set_other (set m v (k + 1)) (homes_offset + v) i b 0 q ∙ get_or-set_other m v i (k + 1) 0 p

    new_row : get_or new v 0 ≡ suc k
    new_row =
        get_or-set_other (set m v (k + 1)) (homes_offset + v) v b 0 (λ e. omega arith) ∙ get_or-set_same m v (k + 1) 0 (omega (arith, small)) ∙ add-one k

    new_home : get_or new (homes_offset + v) 0 ≡ b
    new_home = get_or-set_same (set m v (k + 1)) (homes_offset + v) b 0 (simp length-set (omega (arith, small)))

    fresh : ((i : ℕ) → i < k → assigns_at g i v ≡ false) → (u : ℕ) → u < max_registers → Seen g m k u → Seen g new (k + 1) u
    fresh h u l s = elim (ℕ_discrete u v) [
      | yes p ↦ subst (λ x. Seen g new (k + 1) x) (sym p) (since k (omega arith) new_row (new_home ∙ sym (home_here t a fit.sized b j v lb lj itself h)) itself h)
      | no p ↦ kept_seen g m new k u (new_other u p (λ q. omega arith)) (new_other (homes_offset + u) (λ q. omega (arith, small)) (λ q. p (omega arith))) (others u p) s
    ]

    -- where an earlier row is
    stale : (i : ℕ) → Seen g m k v → get_or m v 0 ≡ suc i → (u : ℕ) → u < max_registers → Seen g m k u → Seen g m (k + 1) u
    stale i (never e h) q u l s = absurd (omega arith)
    stale i (since o r e w y h) q u l s = elim (ℕ_discrete u v) [
      | yes p ↦ subst (λ x. Seen g m (k + 1) x) (sym p) (since o (omega arith) e w y h)
      | no p ↦ kept_seen g m m k u refl refl (others u p) s
    ]

    step : Seen g m k v → (u : ℕ) → u < max_registers → Seen g m k u → Seen g (with_note m v b k) (k + 1) u
    unfolding with_note
    step (never e h) u l s = rw (eq-eqb (get_or m v 0) 0 e) (fresh h u l s)
    step (since i r e w y h) u l s = rw (ne_eqb (get_or m v 0) 0 (λ z. omega (arith, l))) (stale i (since i r e w y h) e u l s)

  -- the row assigns nothing
  pub none_more : targets_of (decode_row t a k) ≡ [] → Noted g m k → Noted g m (k + 1)
  none_more e n =
      record {
        count = n.count;
        seen = λ u l. kept_seen g m m k u refl refl (ap (λ r. member u (targets_of r)) row_k ∙ ap (member u) e) (n.seen u l);
      }

  pub one_more : (v : ℕ) → targets_of (decode_row t a k) ≡ v ∷ [] → Noted g m k → Noted g (with_note m v b k) (k + 1)
  one_more v e n =
      record {
        count = length_note m v b k ∙ n.count;
        seen = λ u l. step v e n.count (n.seen v (target_few v e)) u l (n.seen u l);
      }

  pub row_more : Noted g m k → Noted g (with_notes m b k (targets_of (decode_row t a k))) (k + 1)
  unfolding decode_row
  row_more n = by (has_target (form_of (row_op t a k))) refl
    where
      by : (c : Bool) → has_target (form_of (row_op t a k)) ≡ c → Noted g (with_notes m b k (targets_of (decode_row t a k))) (k + 1)
      by true e = let q : targets_of (decode_row t a k) ≡ row_target t a k ∷ [] = targets_by t a k true e in rw q (one_more (row_target t a k) q n)
      by false e = let q : targets_of (decode_row t a k) ≡ [] = targets_by t a k false e in rw q (none_more q n)

-- ---- before the first row, and from block to block

pub none_noted : (f : Func) (m : List ℕ) → length m ≡ flow_length → ((u : ℕ) → u < max_registers → assignment_in m u ≡ 0) → Noted f m 0
none_noted f m e h = record { count = e; seen = λ u l. never (h u l) (λ i n. absurd (not-suc-le-zero n)) }

-- the rows before the next block are those before this one and its own
pub rows_more : (t : List ℕ) (a b : ℕ) → rows_before t a (b + 1) ≡ rows_before t a b + block_rows t a b
rows_more t a b = rw (add-one b) (sum_below_suc (block_rows t a) b)

-- ---- after the last row

module _ (f : Func) (m : List ℕ) where
  pub first_noted : (u : ℕ) → Seen f m (length (rows_of f)) u → assignment_in m u ≡ assigned_at f u
  unfolding assigned_at assigned_in
  first_noted u (never e h) = e ∙ sym (ap (λ b. cond b (suc (position (λ r. member u (targets_of r)) (rows_of f))) 0) (any_nowhere (λ r. member u (targets_of r)) (rows_of f) Row.nop h))
  first_noted u (since i l e w y h) =
      let p : Row → Bool = λ r. member u (targets_of r) in
      e
      ∙ ap suc (sym (position_at p (rows_of f) i Row.nop l h y))
      ∙ sym (ap (λ b. cond b (suc (position p (rows_of f))) 0) (any_at p (rows_of f) i Row.nop l y))

  pub home_noted : (u : ℕ) → Seen f m (length (rows_of f)) u → T (assigned_in (rows_of f) u) → home_in m u ≡ home_of f u
  unfolding assigned_in
  home_noted u (never e h) q = absurd (subst T (any_nowhere (λ r. member u (targets_of r)) (rows_of f) Row.nop h) q)
  home_noted u (since i l e w y h) q = w
