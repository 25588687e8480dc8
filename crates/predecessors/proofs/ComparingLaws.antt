-- Stored lists compared with terminators, block by block.
-- Assumes nothing.
use mathlib.Core.Path.{◌≡◌, refl, sym, ap, ◌∙◌}
use mathlib.Core.Bool.{Bool, true, false, cond, not, ◌||◌, or-true, true≢false}
use mathlib.Core.List.{List}
use Prim.Native.Nat.{ℕ, suc, ◌+◌, ◌*◌, ◌≤◌, ◌<◌}
use native.Mathlib.Nat.{add-zero, zero-add, not-suc-le-zero}
use native.Mathlib.Decide.{dec_lt}
use native.Mathlib.Numerals.{add-one}
use native.Mathlib.Omega.{arith}
use lib.Dec.{eqb, leb}
use mir.Syntax.{w8}
use mir.Val.{Fits}
use borrow.Author.Tests.{lt-leb, leb-true, leb-false, eqb-true, eqb-false, eq-eqb, ne_eqb, not-true, not-false}
use lib.ListN.{length, get_or, set, length-set}
use lib.Seq.{get_or-set_same, get_or-set_other, ext_get_or}
use Rattle.laws.specs.Lists.{all, below, same}
use Rattle.laws.proofs.Positions.{same_is, same_not}
use Rattle.laws.proofs.Ranges.{all_below_not, all_from_same}
use Rattle.language.specs.Programs.{Func, max_blocks}
use Rattle.language.specs.Table.{block_count, predecessor_count, predecessor_at, stored_predecessors, decode_at, decode_function, predecessors_kept, predecessors_offset, block_length, InTable}
use Rattle.language.specs.Checking.{goes_to, predecessors}
use Rattle.language.proofs.TableView.{block_count_law, predecessor_is, stored_count, predecessors_decoded}
use Rattle.predecessors.specs.Ends.{GoesOn}
use Rattle.predecessors.specs.Ranked.{ranked_before}
use Rattle.predecessors.specs.Comparing.{Agreed, next_agrees, next_seen}
use Rattle.predecessors.proofs.RankedLaws.{ranked_all, ranked_suc, ranked_length, ranked_grows, ranked_prefix, ranked_counts, ranked_next}

-- ---- one block

-- what the code has at hand of a block that is one of n
module _ (seen : List ℕ) (y n c : ℕ) (l : y < n) (e : c ≡ get_or seen y 0) where
  pub one_agrees : (t : List ℕ) (a x r : ℕ) → r ≡ predecessor_at t a y c → eqb r x ≡ next_agrees t a n seen y x
  one_agrees t a x r q = rw (lt-leb n y l, ← e, ← q)

  pub one_seen : set seen y (c + 1) ≡ next_seen n seen y
  one_seen = rw (lt-leb n y l, ← e)

-- what is told of it
module _ (t : List ℕ) (a n : ℕ) (seen : List ℕ) (y x : ℕ) where
  agrees_is : next_agrees t a n seen y x ≡ true → y < n → predecessor_at t a y (get_or seen y 0) ≡ x
  agrees_is h l = eqb-true _ _ (rw (lt-leb n y l) at h)

  agrees_not : next_agrees t a n seen y x ≡ false → (y < n) × (predecessor_at t a y (get_or seen y 0) ≡ x → ⊥)
  agrees_not h = by (leb n y) refl h
    where
      by : (b : Bool) → leb n y ≡ b → cond b true (eqb (predecessor_at t a y (get_or seen y 0)) x) ≡ false → (y < n) × (predecessor_at t a y (get_or seen y 0) ≡ x → ⊥)
      by true e r = absurd (true≢false r)
      by false e r = (leb-false n y e, eqb-false _ _ r)

-- what is seen after it
module _ (n : ℕ) (seen : List ℕ) (y : ℕ) where
  length_seen : length (next_seen n seen y) ≡ length seen
  length_seen = by (leb n y)
    where
      by : (b : Bool) → length (cond b seen (set seen y (get_or seen y 0 + 1))) ≡ length seen
      by true = refl
      by false = length-set seen y (get_or seen y 0 + 1)

  seen_at : (b : ℕ) → b < n → n ≤ length seen → get_or (next_seen n seen y) b 0 ≡ get_or seen b 0 + cond (eqb y b) 1 0
  seen_at b l h = by (leb n y) refl (eqb y b) refl
    where
      by :
          (c : Bool) → leb n y ≡ c → (d : Bool) → eqb y b ≡ d
          → get_or (cond c seen (set seen y (get_or seen y 0 + 1))) b 0 ≡ get_or seen b 0 + cond d 1 0
      by true e true d = absurd (omega (arith, leb-true n y e, eqb-true y b d))
      by true e false d = sym (add-zero (get_or seen b 0))
      by false e true d = rw (eqb-true y b d) (get_or-set_same seen b (get_or seen b 0 + 1) 0 (omega arith))
      by false e false d = get_or-set_other seen y b (get_or seen y 0 + 1) 0 (λ k. eqb-false y b d (sym k)) ∙ sym (add-zero (get_or seen b 0))

-- ---- a table's lists

module _ (t : List ℕ) (a n : ℕ) (pre : (InTable t a) × (n ≡ block_count t a) × (n ≤ max_blocks)) (bytes : (i : ℕ) → Fits w8 (get_or t i 0)) where
  abbrev f : Func
  f = decode_function t a

  -- the definition's list is found with the last block
  right_is : (b : ℕ) → predecessors (decode_at t a true) b ≡ ranked_before f n b
  right_is b = sym (predecessors_decoded t a b) ∙ sym (ranked_all f b) ∙ ap (λ m. ranked_before f m b) (block_count_law t a ∙ sym pre.1)

  count_is : (b : ℕ) → b < n → length (stored_predecessors t a b) ≡ predecessor_count t a b
  count_is b l = stored_count t a pre.0 b (omega arith) (bytes (a + predecessors_offset + block_length * b)).fits

  -- a block that goes to y and is not the next there
  wrong : (x y : ℕ) → x < n → y < n → goes_to f x y ≡ true → (predecessor_at t a y (length (ranked_before f x y)) ≡ x → ⊥) → false ≡ predecessors_kept t a
  unfolding predecessors_kept
  wrong x y k l g d =
      sym
      (all_below_not (λ b. same (stored_predecessors t a b) (predecessors (decode_at t a true) b)) (block_count t a) y (omega arith)
      (same_not (stored_predecessors t a y) (predecessors (decode_at t a true) y)
      (λ e.
      let c : ℕ = length (ranked_before f x y) in
      let list : stored_predecessors t a y ≡ ranked_before f n y = e ∙ right_is y in
      let inside : c < predecessor_count t a y = omega (arith, ranked_counts f x y g, ranked_grows f (suc x) n y k, ap length list, count_is y l) in
      d (sym (predecessor_is t a y c inside) ∙ ap (λ xs. get_or xs c 0) list ∙ ranked_next f x y g n k))))

  -- all blocks seen, each list is right if as many were seen as it has
  module _ {seen : List ℕ} (h : Agreed t a seen n) where
    list_is : (b : ℕ) → b < n → eqb (predecessor_count t a b) (get_or seen b 0) ≡ same (stored_predecessors t a b) (predecessors (decode_at t a true) b)
    list_is b l = by (eqb (predecessor_count t a b) (get_or seen b 0)) refl
      where
        lengths : length (predecessors (decode_at t a true) b) ≡ get_or seen b 0
        lengths = ap length (right_is b) ∙ sym (h.count b (omega arith))

        by : (c : Bool) → eqb (predecessor_count t a b) (get_or seen b 0) ≡ c → c ≡ same (stored_predecessors t a b) (predecessors (decode_at t a true) b)
        by true e =
            let d : predecessor_count t a b ≡ get_or seen b 0 = eqb-true _ _ e in
            sym
            (same_is (stored_predecessors t a b) (predecessors (decode_at t a true) b)
            (ext_get_or 0 (stored_predecessors t a b) (predecessors (decode_at t a true) b) (count_is b l ∙ d ∙ sym lengths)
            (λ k q.
            let inside : k < predecessor_count t a b = omega (arith, count_is b l) in
            predecessor_is t a b k inside ∙ h.cells b k (omega arith) (omega (arith, h.count b (omega arith))) ∙ ap (λ xs. get_or xs k 0) (sym (right_is b)))))
        by false e =
            sym
            (same_not (stored_predecessors t a b) (predecessors (decode_at t a true) b)
            (λ d. eqb-false _ _ e (sym (count_is b l) ∙ ap length d ∙ lengths)))

    pub lists_are : all (λ b. eqb (predecessor_count t a b) (get_or seen b 0)) (below n) ≡ predecessors_kept t a
    unfolding predecessors_kept
    lists_are =
        all_from_same (λ b. eqb (predecessor_count t a b) (get_or seen b 0)) (λ b. same (stored_predecessors t a b) (predecessors (decode_at t a true) b)) 0 n (λ b l. rw (zero-add b) (list_is b l))
        ∙ ap (λ m. all (λ b. same (stored_predecessors t a b) (predecessors (decode_at t a true) b)) (below m)) pre.1

  -- before the first block
  pub none_agreed : (seen : List ℕ) → length seen ≡ max_blocks → ((b : ℕ) → b < max_blocks → get_or seen b 0 ≡ 0) → Agreed t a seen 0
  unfolding ranked_before
  none_agreed seen l h = record { size = l; count = λ b k. h b (omega arith); cells = λ b i k m. absurd (not-suc-le-zero m) }

  -- ---- one block more: it goes to `first` and `second`, and `after` is seen with the first

  module _ {seen : List ℕ} {x : ℕ} (h : Agreed t a seen x) (k : x < n) {first second : ℕ} (on : GoesOn f x first second) where
    counted : (b : ℕ) → b < n → get_or seen b 0 ≡ length (ranked_before f x b)
    counted b l = h.count b (omega arith)

    pub first_small : first < n → get_or seen first 0 < max_blocks
    first_small l = omega (arith, counted first l, ranked_length f x first)

    pub first_wrong : {r : Bool} → r ≡ next_agrees t a n seen first x → not r ≡ true → false ≡ predecessors_kept t a
    first_wrong {r} p e =
        let d = agrees_not t a n seen first x (sym p ∙ not-true r e) in
        wrong x first k d.0 (on.goes first (omega arith) ∙ rw (eq-eqb first first refl))
        (λ z. d.1 (ap (predecessor_at t a first) (counted first d.0) ∙ z))

    module _ {after : List ℕ} (one : after ≡ next_seen n seen first) where
      pub after_size : length after ≡ max_blocks
      after_size = ap length one ∙ length_seen n seen first ∙ h.size

      -- the two are not one block
      second_counted : second < n → get_or after second 0 ≡ length (ranked_before f x second)
      second_counted l =
          ap (λ m. get_or m second 0) one ∙ seen_at n seen first second l (omega (arith, h.size))
          ∙ rw (ne_eqb first second (λ d. on.once (omega arith) d)) (add-zero (get_or seen second 0) ∙ counted second l)

      pub second_small : second < n → get_or after second 0 < max_blocks
      second_small l = omega (arith, second_counted l, ranked_length f x second)

      pub second_wrong : {r : Bool} → r ≡ next_agrees t a n after second x → not r ≡ true → false ≡ predecessors_kept t a
      second_wrong {r} q e =
          let d = agrees_not t a n after second x (sym q ∙ not-true r e) in
          wrong x second k d.0 (on.goes second (omega arith) ∙ rw (eq-eqb second second refl) (or-true (eqb first second)))
          (λ z. d.1 (ap (predecessor_at t a second) (second_counted d.0) ∙ z))

      -- both agree: one more is seen of each
      module _ (p : next_agrees t a n seen first x ≡ true) (q : next_agrees t a n after second x ≡ true) where
        next_is : (b : ℕ) → b < n → goes_to f x b ≡ true → predecessor_at t a b (length (ranked_before f x b)) ≡ x
        next_is b l g = by (eqb first b) refl (eqb second b) refl (sym (on.goes b (omega arith)) ∙ g)
          where
            by :
                (c : Bool) → eqb first b ≡ c → (d : Bool) → eqb second b ≡ d → (c || d) ≡ true
                → predecessor_at t a b (length (ranked_before f x b)) ≡ x
            by true u d v z =
                let e : first ≡ b = eqb-true first b u in
                rw e at (ap (predecessor_at t a first) (sym (counted first (omega arith))) ∙ agrees_is t a n seen first x p (omega arith))
            by false u true v z =
                let e : second ≡ b = eqb-true second b v in
                rw e at (ap (predecessor_at t a second) (sym (second_counted (omega arith))) ∙ agrees_is t a n after second x q (omega arith))
            by false u false v z = absurd (true≢false (sym z))

        count_more : (b : ℕ) → b < n → get_or (next_seen n after second) b 0 ≡ length (ranked_before f (suc x) b)
        count_more b l =
            seen_at n after second b l (omega (arith, after_size))
            ∙ ap (λ m. m + cond (eqb second b) 1 0) (ap (λ m. get_or m b 0) one ∙ seen_at n seen first b l (omega (arith, h.size)))
            ∙ by (eqb first b) refl (eqb second b) refl
          where
            goes : (c d : Bool) → eqb first b ≡ c → eqb second b ≡ d → goes_to f x b ≡ (c || d)
            goes c d u v = on.goes b (omega arith) ∙ rw (u, v)

            by :
                (c : Bool) → eqb first b ≡ c → (d : Bool) → eqb second b ≡ d
                → get_or seen b 0 + cond c 1 0 + cond d 1 0 ≡ length (ranked_before f (suc x) b)
            by true u true v = absurd (on.once (omega (arith, eqb-true first b u)) (eqb-true first b u ∙ sym (eqb-true second b v)))
            by true u false v = omega (arith, counted b l, ranked_counts f x b (goes true false u v))
            by false u true v = omega (arith, counted b l, ranked_counts f x b (goes false true u v))
            by false u false v = omega (arith, counted b l, ap length (rw (goes false false u v) at (ranked_suc f x b)))

        cells_more :
            (b i : ℕ) → b < n → i < length (ranked_before f (suc x) b)
            → predecessor_at t a b i ≡ get_or (ranked_before f (suc x) b) i 0
        cells_more b i l m = by (dec_lt i (length (ranked_before f x b))) (goes_to f x b) refl
          where
            by :
                Dec (i < length (ranked_before f x b)) → (c : Bool) → goes_to f x b ≡ c
                → predecessor_at t a b i ≡ get_or (ranked_before f (suc x) b) i 0
            by (yes d) c e = h.cells b i (omega arith) d ∙ sym (ranked_prefix f x (suc x) b i (omega arith) d)
            by (no d) true e =
                let w : i ≡ length (ranked_before f x b) = omega (arith, ranked_counts f x b e) in
                rw w (next_is b l e ∙ sym (ranked_next f x b e (suc x) (omega arith)))
            by (no d) false e = absurd (d (rw (rw e at (ranked_suc f x b)) at m))

        more : Agreed t a (next_seen n after second) (x + 1)
        more =
            record {
              size = length_seen n after second ∙ after_size;
              count = λ b l. rw (add-one x) (count_more b (omega arith));
              cells = λ b i l. rw (add-one x) (cells_more b i (omega arith));
            }

      pub agreed_more :
          {r s : Bool} {both : List ℕ}
          → r ≡ next_agrees t a n seen first x
          → not r ≡ false
          → s ≡ next_agrees t a n after second x
          → not s ≡ false
          → both ≡ next_seen n after second
          → Agreed t a both (x + 1)
      agreed_more {r} {s} p u q v e = rw e (more (sym p ∙ not-false r u) (sym q ∙ not-false s v))
