-- The chains of names by hash: a walk of one, a name found, and a name added to its own. Assumes nothing.
use mathlib.Core.Bool.{Bool, true, false, false≢true, and-false, or-true}
use mathlib.Core.List.{List, [], ◌∷◌, ◌++◌}
use mathlib.Core.Path.{◌≡◌, refl, sym, ap, ◌∙◌, subst}
use Prim.Native.Nat.{ℕ, zero, suc, ◌+◌, ◌-◌, ◌≤◌, ◌<◌, zero-le}
use native.Mathlib.Decide.{ℕ_discrete}
use native.Mathlib.Omega.{arith}
use native.Mathlib.Nat.{le_refl}
use native.Mathlib.Numerals.{add-one}
use borrow.Author.Tests.{lt-ltb, le-ltb}
use lib.ListN.{length, get_or, set, replicate, length-append, length-set, length-replicate, get_or-append}
use lib.Seq.{get_or-append_seam, get_or-set_same, get_or-set_other}
use Rattle.laws.specs.Lists.{any, empty, position, same}
use Rattle.laws.proofs.Indexing.{empty_none, empty_some}
use Rattle.laws.proofs.Joining.{is_not}
use Rattle.laws.proofs.Positions.{same_eq, same_sym, any_position, position_below}
use Rattle.laws.proofs.Tests.{of_true}
use Rattle.language.specs.Checking.{distinct}
use Rattle.table.specs.Named.{is_named, first_named}
use Rattle.theorems.proofs.WritingDeclared.{distinct_at}
use Rattle.name_index.specs.Chains.{Chained, Falling, Indexed, Adds, IndexedIf}
use Rattle.name_index.specs.Hashes.{end_of, end_hash, hash_of}
use Rattle.name_index.specs.Names.{names_in}
use Rattle.name_index.proofs.Distinct.{distinct_more, distinct_not}
use Rattle.name_index.proofs.InTable.{name, names_length_law, names_at, names_more, names_rest, first_named_law}

-- ---- a walk

pub chain_some : {before : List ℕ} {x j : ℕ} → Chained before x j → 1 ≤ x
chain_some (Chained.here j) = omega arith
chain_some (Chained.on x j h) = omega arith

-- past the first name of a chain
pub chain_next : {before : List ℕ} {x y j : ℕ} → Chained before x j → y ≡ get_or before (x - 1) 0 → (j ≡ x - 1 → ⊥) → Chained before y j
chain_next (Chained.here j) e n = absurd (n (omega arith))
chain_next {before} {y = y} (Chained.on x j k) e n =
    let p : y ≡ get_or before x 0 = e ∙ ap (λ (m : ℕ). get_or before m 0) (omega arith) in
    rw p k

-- a store past the chain leaves it
chain_set : {before : List ℕ} (i v : ℕ) → Falling before → {x j : ℕ} → x ≤ i → Chained before x j → Chained (set before i v) x j
chain_set i v f l (Chained.here j) = Chained.here j
chain_set {before} i v f l (Chained.on x j h) =
    let other : get_or (set before i v) x 0 ≡ get_or before x 0 = get_or-set_other before i x v 0 (omega arith) in
    let k : get_or before x 0 ≤ i = omega (arith, f.falls x) in
    Chained.on x j (rw other (chain_set i v f k h))

-- ---- a name found

module _ (t : List ℕ) (at stride count : ℕ) (n : List ℕ) where
  named_is : (j : ℕ) → j < count → is_named t at stride n j ≡ true → get_or (names_in t at stride count) j [] ≡ n
  named_is j l e = names_at t at stride count j l ∙ same_eq (name t at stride j) n (of_true _ e)

  pub none_found : ((j : ℕ) → j < count → is_named t at stride n j ≡ true → ⊥) → count ≡ first_named t at stride count n
  unfolding first_named
  none_found h =
      position_below (is_named t at stride n) count count (le_refl count) (λ j l. is_not (is_named t at stride n j) (h j l)) (λ l. absurd (omega arith))

  module _ {last before : List ℕ} (k : Indexed (names_in t at stride count) last before) (some : length n ≡ 0 → ⊥) where
    -- a name of these bytes is in the chain of their hash
    pub found_chained : {x h y : ℕ} → x ≡ end_of n → h ≡ end_hash x → y ≡ get_or last h 0 → (j : ℕ) → j < count → is_named t at stride n j ≡ true → Chained before y j
    found_chained {x} {h} {y} p q e j l m =
        let is = named_is j l m in
        let hash : h ≡ hash_of (get_or (names_in t at stride count) j []) = q ∙ ap end_hash p ∙ ap hash_of (sym is) in
        let from : y ≡ get_or last (hash_of (get_or (names_in t at stride count) j [])) 0 = e ∙ ap (λ (g : ℕ). get_or last g 0) hash in
        rw from (k.finds j (rw (names_length_law t at stride count) l) (ap empty is ∙ empty_some n some))

    -- and the only one
    pub first_found : (j : ℕ) → j < count → is_named t at stride n j ≡ true → j ≡ first_named t at stride count n
    unfolding first_named
    first_found j l m =
        position_below (is_named t at stride n) count j (omega arith)
        (λ i b.
        is_not (is_named t at stride n i)
        (λ p.
        let is = named_is i (omega arith) p in
        some (ap length (sym is ∙ distinct_at (names_in t at stride count) (of_true _ k.once) i j b (rw (names_length_law t at stride count) l) (is ∙ sym (named_is j l m))))))
        (λ b. m)

-- ---- the chains of no names, and of one more

pub indexed_none : Indexed [] (replicate 512 0) (replicate 256 0)
indexed_none =
    record {
      lasts = length-replicate {A = ℕ} 512 0;
      befores = length-replicate {A = ℕ} 256 0;
      few = zero-le;
      once = refl;
      falling = record { falls = λ x. rw (zeros 256 x) zero-le };
      within = λ h. rw (zeros 512 h) zero-le;
      finds = λ j h. absurd (omega arith);
    }
  where
    zeros : (n k : ℕ) → get_or {A = ℕ} (replicate n 0) k 0 ≡ 0
    zeros zero k = refl
    zeros (suc n) zero = refl
    zeros (suc n) (suc k) = zeros n k

any_flip : (n : List ℕ) (ns : List (List ℕ)) → any (λ m. same m n) ns ≡ any (same n) ns
any_flip n [] = refl
any_flip n (m ∷ ms) = rw (same_sym m n, any_flip n ms)

module _ (names : List (List ℕ)) (new : List ℕ) where
  abbrev more : List (List ℕ)
  more = names ++ (new ∷ [])

  more_length : length more ≡ length names + 1
  more_length = length-append names (new ∷ [])

  old : (j : ℕ) → j < length names → get_or more j [] ≡ get_or names j []
  old j l = get_or-append names (new ∷ []) [] j l

  last_is : (j : ℕ) → j ≡ length names → get_or more j [] ≡ new
  last_is j e = ap (λ (i : ℕ). get_or more i []) e ∙ get_or-append_seam names new [] []

  -- a name found stands twice
  pub twice : (length new ≡ 0 → ⊥) → position (λ m. same m new) names < length names → distinct more ≡ false
  twice n h =
      let found : any (same new) names ≡ true = sym (any_flip new names) ∙ any_position (λ m. same m new) names ∙ lt-ltb _ _ h in
      distinct_more names new ∙ rw (empty_some new n, found) (and-false (distinct names))

  module _ {last before : List ℕ} (k : Indexed names last before) where
    -- a name of no bytes is in no chain
    pub indexed_empty : length new ≡ 0 → length names < 256 → Indexed more last before
    indexed_empty e small =
        record {
          lasts = k.lasts;
          befores = k.befores;
          few = rw more_length (omega arith);
          once = distinct_more names new ∙ rw (k.once, empty_none new e);
          falling = k.falling;
          within = λ h. rw more_length (omega (arith, k.within h));
          finds = λ j l n. by j (rw more_length at l) n (ℕ_discrete j (length names));
        }
      where
        by : (j : ℕ) → j < length names + 1 → empty (get_or more j []) ≡ false → Dec (j ≡ length names) → Chained before (get_or last (hash_of (get_or more j [])) 0) j
        by j l n (yes p) = absurd (false≢true (sym n ∙ ap empty (last_is j p) ∙ empty_none new e))
        by j l n (no p) = let b : j < length names = omega arith in rw (old j b) (k.finds j b (ap empty (sym (old j b)) ∙ n))

    -- any other goes before the rest of its chain
    pub indexed_more : (i : ℕ) {h x : ℕ} → i ≡ length names → i < 256 → h < 512 → h ≡ hash_of new → x ≡ get_or last h 0
        → position (λ m. same m new) names ≡ length names → Indexed more (set last h (i + 1)) (set before i x)
    indexed_more i {h} {x} is small short e p fresh =
        record {
          lasts = length-set last h (i + 1) ∙ k.lasts;
          befores = length-set before i x ∙ k.befores;
          few = rw more_length (omega arith);
          once = distinct_more names new ∙ rw (k.once, none) (or-true (empty new));
          falling = record { falls = λ y. falls y (ℕ_discrete y i) };
          within = λ g. rw (more_length, ← is) (within g (ℕ_discrete g h));
          finds = λ j l n. finds j (rw (more_length, ← is) at l) n (ℕ_discrete j i) (ℕ_discrete (hash_of (get_or more j [])) h);
        }
      where
        none : any (same new) names ≡ false
        none = sym (any_flip new names) ∙ any_position (λ m. same m new) names ∙ le-ltb (position (λ m. same m new) names) (length names) (omega (arith, fresh))

        below_i : (g : ℕ) → get_or last g 0 ≤ i
        below_i g = rw is (k.within g)

        at_i : get_or (set before i x) i 0 ≡ x
        at_i = get_or-set_same before i x 0 (rw k.befores small)

        at_h : get_or (set last h (i + 1)) h 0 ≡ i + 1
        at_h = get_or-set_same last h (i + 1) 0 (rw k.lasts short)

        falls : (y : ℕ) → Dec (y ≡ i) → get_or (set before i x) y 0 ≤ y
        falls y (yes q) = rw (q, at_i, p) (below_i h)
        falls y (no q) = rw (get_or-set_other before i y x 0 q) (k.falling.falls y)

        within : (g : ℕ) → Dec (g ≡ h) → get_or (set last h (i + 1)) g 0 ≤ i + 1
        within g (yes q) = rw (q, at_h) (le_refl (i + 1))
        within g (no q) = rw (get_or-set_other last h g (i + 1) 0 q) (omega (arith, below_i g))

        -- the chain of hash h begins at i now
        begins : (j : ℕ) → Chained (set before i x) (i + 1) j → (g : ℕ) → g ≡ h → Chained (set before i x) (get_or (set last h (i + 1)) g 0) j
        begins j c g q = rw (q, at_h) c

        -- and any other name is in the chain in which it was
        was : (j : ℕ) → j < length names → empty (get_or more j []) ≡ false → Chained before (get_or last (hash_of (get_or more j [])) 0) j
        was j b n = rw (old j b) (k.finds j b (ap empty (sym (old j b)) ∙ n))

        finds : (j : ℕ) → j < i + 1 → empty (get_or more j []) ≡ false → Dec (j ≡ i) → Dec (hash_of (get_or more j []) ≡ h)
            → Chained (set before i x) (get_or (set last h (i + 1)) (hash_of (get_or more j [])) 0) j
        finds j l n (yes q) d = begins j (rw (q, add-one i) (Chained.here i)) (hash_of (get_or more j [])) (ap hash_of (last_is j (q ∙ is)) ∙ sym e)
        finds j l n (no q) (yes d) =
            let there : Chained before x j = rw p (subst (λ (g : ℕ). Chained before (get_or last g 0) j) d (was j (omega arith) n)) in
            begins j (rw (add-one i) (Chained.on i j (rw at_i (chain_set i x k.falling (rw p (below_i h)) there)))) (hash_of (get_or more j [])) d
        finds j l n (no q) (no d) =
            rw (get_or-set_other last h (hash_of (get_or more j [])) (i + 1) 0 d)
            (chain_set i x k.falling (below_i (hash_of (get_or more j []))) (was j (omega arith) n))

-- ---- what is answered of the names

module _ {names : List (List ℕ)} {last before : List ℕ} where
  pub indexed_so : Indexed names last before → IndexedIf names last before true
  indexed_so k = record { tells = sym k.once; indexed = λ e. k }

  pub indexed_not : distinct names ≡ false → IndexedIf names last before false
  indexed_not e = record { tells = sym e; indexed = λ p. absurd (false≢true p) }

module _ (t : List ℕ) (at stride i : ℕ) {part : List ℕ} (is : part ≡ name t at stride i) where
  names_next : names_in t at stride (i + 1) ≡ names_in t at stride i ++ (part ∷ [])
  names_next = names_more t at stride i ∙ ap (λ (n : List ℕ). names_in t at stride i ++ (n ∷ [])) (sym is)

  place : {r : ℕ} → r ≡ first_named t at stride i part → position (λ m. same m part) (names_in t at stride i) ≡ r
  place e = sym (e ∙ first_named_law t at stride i part)

  module _ {last before : List ℕ} where
    pub next_twice : {r : ℕ} → (length part ≡ 0 → ⊥) → r ≡ first_named t at stride i part → r < i → IndexedIf (names_in t at stride (i + 1)) last before false
    next_twice n e h =
        indexed_not (ap distinct names_next ∙ twice (names_in t at stride i) part n (rw (place e, names_length_law t at stride i) h))

    module _ (k : Indexed (names_in t at stride i) last before) where
      pub next_empty : length part ≡ 0 → i < 256 → IndexedIf (names_in t at stride (i + 1)) last before true
      next_empty e small = indexed_so (rw names_next (indexed_empty (names_in t at stride i) part k e (rw (names_length_law t at stride i) small)))

      pub next_new : {r : ℕ} {last' before' : List ℕ} → r ≡ first_named t at stride i part → r ≡ i → Adds i part last before last' before'
          → IndexedIf (names_in t at stride (i + 1)) last' before' true
      next_new e q adds =
          let all = sym (names_length_law t at stride i) in
          indexed_so (rw names_next (adds (names_in t at stride i) k all (place e ∙ q ∙ all)))

-- names that are not distinct stay so
pub twice_on : (t : List ℕ) (at stride i : ℕ) {last before : List ℕ} {r : Bool} (count : ℕ) → i < count → IndexedIf (names_in t at stride (i + 1)) last before r
    → r ≡ false → IndexedIf (names_in t at stride count) last before false
twice_on t at stride i count h a e =
    indexed_not
    (ap distinct (names_rest t at stride (i + 1) count (omega arith)) ∙ distinct_not (names_in t at stride (i + 1)) _ (sym a.tells ∙ e))
