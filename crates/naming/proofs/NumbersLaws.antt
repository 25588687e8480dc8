-- A name against the made names with numbers below 512, byte by byte: their digits are one, two or three, by computation.
-- Assumes nothing.
use mathlib.Core.Bool.{Bool, true, false, cond}
use mathlib.Core.List.{List, [], ◌∷◌, map}
use mathlib.Core.Path.{◌≡◌, refl, sym, ap, ◌∙◌, subst}
use Prim.Native.Nat.{ℕ, ◌+◌, ◌*◌, ◌-◌, ◌/◌, ◌%◌, ◌≤◌, ◌<◌}
use native.Mathlib.Nat.{zero-add, div-add-mod, mod-lt}
use native.Mathlib.Decide.{dec_lt}
use native.Mathlib.Omega.{arith}
use lib.Dec.{eqb, ltb, lit<}
use lib.ListN.{length, get_or}
use borrow.Author.Tests.{eq-eqb, ne_eqb, eqb-true, lt-ltb, le-ltb}
use Rattle.laws.specs.Lists.{all, below, same}
use Rattle.laws.proofs.Joining.{equal_tests}
use Rattle.laws.proofs.Positions.{same_eq, same_is, same_not}
use Rattle.laws.proofs.Ranges.{all_from_at, map_from}
use Rattle.laws.proofs.Tests.{of_true}
use Rattle.language.specs.Listing.{digits}
use Rattle.language.specs.MadeNames.{made_name}
use Rattle.naming.specs.Numbers.{prefix_of, digit_from, bounded, Numbers}

-- ---- digits

shortest : ℕ → List ℕ
shortest j =
    cond (ltb j 10) ((48 + j) ∷ [])
    (cond (ltb j 100) ((48 + j / 10) ∷ (48 + j % 10) ∷ []) ((48 + j / 10 / 10) ∷ (48 + j / 10 % 10) ∷ (48 + j % 10) ∷ []))

all_shortest : all (λ j. same (digits j) (shortest j)) (below 512) ≡ true
unfolding digits shortest
all_shortest = refl

digits_below : (j : ℕ) → j < 512 → digits j ≡ shortest j
digits_below j h =
    let e : same (digits (0 + j)) (shortest (0 + j)) ≡ true = all_from_at (λ j. same (digits j) (shortest j)) 0 512 all_shortest j h in
    same_eq (digits j) (shortest j) (of_true _ (rw zero-add at e))

one_digit : (j : ℕ) → j < 10 → digits j ≡ (48 + j) ∷ []
unfolding shortest
one_digit j h = digits_below j (omega arith) ∙ rw (lt-ltb j 10 h)

two_digits : (j : ℕ) → 10 ≤ j → j < 100 → digits j ≡ (48 + j / 10) ∷ (48 + j % 10) ∷ []
unfolding shortest
two_digits j l h = digits_below j (omega arith) ∙ rw (le-ltb j 10 l, lt-ltb j 100 h)

three_digits : (j : ℕ) → 100 ≤ j → j < 512 → digits j ≡ (48 + j / 10 / 10) ∷ (48 + j / 10 % 10) ∷ (48 + j % 10) ∷ []
unfolding shortest
three_digits j l h = digits_below j h ∙ rw (le-ltb j 10 (omega arith), le-ltb j 100 l)

-- ---- a digit's number, and a number kept below 513

digit_most : (l b : ℕ) → digit_from l b ≤ 512
unfolding digit_from
digit_most l b = by (ltb b l) (dec_lt 57 b)
  where
    by : (x : Bool) → Dec (57 < b) → cond x 512 (cond (ltb 57 b) 512 (b - 48)) ≤ 512
    by true d = omega arith
    by false (yes p) = rw (lt-ltb 57 b p) (omega arith)
    by false (no p) = rw (le-ltb 57 b (omega arith)) (omega arith)

-- a digit has its number
digit_is : (l b : ℕ) → l ≤ b → b ≤ 57 → digit_from l b ≡ b - 48
unfolding digit_from
digit_is l b p q = rw (le-ltb b l p, le-ltb 57 b q)

-- what has a number is a digit
is_digit : (l b : ℕ) → digit_from l b < 512 → (l ≤ b) × (b ≤ 57)
unfolding digit_from
is_digit l b h = by (dec_lt b l) (dec_lt 57 b)
  where
    by : Dec (b < l) → Dec (57 < b) → (l ≤ b) × (b ≤ 57)
    by (yes p) d = absurd (let z : cond (ltb b l) 512 (cond (ltb 57 b) 512 (b - 48)) ≡ 512 = rw (lt-ltb b l p) in omega arith)
    by (no p) (yes q) = absurd (let z : cond (ltb b l) 512 (cond (ltb 57 b) 512 (b - 48)) ≡ 512 = rw (le-ltb b l (omega arith), lt-ltb 57 b q) in omega arith)
    by (no p) (no q) = (omega arith, omega arith)

pub bounded_is : (n : ℕ) → n < 512 → bounded n ≡ n
unfolding bounded
bounded_is n h = rw (lt-ltb n 512 h)

pub bounded_other : (n : ℕ) → 512 ≤ n → bounded n ≡ 512
unfolding bounded
bounded_other n h = rw (le-ltb n 512 h)

bounded_most : (n : ℕ) → bounded n ≤ 512
bounded_most n = elim (dec_lt n 512) [ yes h ↦ omega (arith, bounded_is n h) | no h ↦ omega (arith, bounded_other n (omega arith)) ]

is_bounded : (n : ℕ) → bounded n < 512 → bounded n ≡ n
is_bounded n l = elim (dec_lt n 512) [ yes h ↦ bounded_is n h | no h ↦ absurd (omega (arith, bounded_other n (omega arith))) ]

-- ---- a name and the number of it

module _ (first : ℕ) (name : List ℕ) where
  -- The bytes of the made name with number j.
  record Bytes (j : ℕ) : Type 0 where
    few : 3 ≤ length name
    most : length name ≤ 5
    head : get_or name 0 0 ≡ first
    dot : get_or name 1 0 ≡ 46
    one : length name ≡ 3 → (j < 10) × (get_or name 2 0 ≡ 48 + j)
    two : length name ≡ 4 → (10 ≤ j) × (j < 100) × (get_or name 2 0 ≡ 48 + j / 10) × (get_or name 3 0 ≡ 48 + j % 10)
    three :
        length name ≡ 5
        → (100 ≤ j) × (get_or name 2 0 ≡ 48 + j / 10 / 10) × (get_or name 3 0 ≡ 48 + j / 10 % 10) × (get_or name 4 0 ≡ 48 + j % 10)

  bytes_of : (j : ℕ) → j < 512 → made_name (prefix_of first) j ≡ name → Bytes j
  bytes_of j h e = by (dec_lt j 10) (dec_lt j 100)
    where
      cell : {ds : List ℕ} → digits j ≡ ds → (k : ℕ) → get_or name k 0 ≡ get_or (first ∷ 46 ∷ ds) k 0
      cell p k = ap (λ (l : List ℕ). get_or l k 0) (sym e ∙ ap (λ (ds : List ℕ). first ∷ 46 ∷ ds) p)

      size : {ds : List ℕ} → digits j ≡ ds → length name ≡ length (first ∷ 46 ∷ ds)
      size p = ap length (sym e ∙ ap (λ (ds : List ℕ). first ∷ 46 ∷ ds) p)

      by : Dec (j < 10) → Dec (j < 100) → Bytes j
      by (yes a) b =
          let p = one_digit j a in
          let n = size p in
          record {
            few = omega arith;
            most = omega arith;
            head = cell p 0;
            dot = cell p 1;
            one = λ q. (a, cell p 2);
            two = λ q. absurd (omega arith);
            three = λ q. absurd (omega arith);
          }
      by (no a) (yes b) =
          let p = two_digits j (omega arith) b in
          let n = size p in
          record {
            few = omega arith;
            most = omega arith;
            head = cell p 0;
            dot = cell p 1;
            one = λ q. absurd (omega arith);
            two = λ q. (omega arith, b, cell p 2, cell p 3);
            three = λ q. absurd (omega arith);
          }
      by (no a) (no b) =
          let p = three_digits j (omega arith) h in
          let n = size p in
          record {
            few = omega arith;
            most = omega arith;
            head = cell p 0;
            dot = cell p 1;
            one = λ q. absurd (omega arith);
            two = λ q. absurd (omega arith);
            three = λ q. (omega arith, cell p 2, cell p 3, cell p 4);
          }

  -- no made name
  none_of : ((j : ℕ) → Bytes j → ⊥) → Numbers (prefix_of first) name 512
  none_of n =
      record {
        within = omega arith;
        told = λ j h. same_not (made_name (prefix_of first) j) name (λ e. n j (bytes_of j h e)) ∙ sym (ne_eqb j 512 (λ p. omega arith));
      }

  pub too_short : length name < 3 → Numbers (prefix_of first) name 512
  too_short h = none_of (λ j b. omega (arith, b.few))

  pub too_long : 5 < length name → Numbers (prefix_of first) name 512
  too_long h = none_of (λ j b. omega (arith, b.most))

  pub other_first : (get_or name 0 0 ≡ first → ⊥) → Numbers (prefix_of first) name 512
  other_first h = none_of (λ j b. h b.head)

  pub no_dot : (get_or name 1 0 ≡ 46 → ⊥) → Numbers (prefix_of first) name 512
  no_dot h = none_of (λ j b. h b.dot)

  -- the number r is right if its made name is this one, and only its
  number_is :
      (r : ℕ) → r ≤ 512 → ((j : ℕ) → j < 512 → Bytes j → r ≡ j) → ((j : ℕ) → j < 512 → r ≡ j → made_name (prefix_of first) j ≡ name)
      → Numbers (prefix_of first) name r
  number_is r l f g =
      record {
        within = l;
        told =
            λ j h.
            equal_tests (same (made_name (prefix_of first) j) name) (eqb j r)
            (λ e. eq-eqb j r (sym (f j h (bytes_of j h (same_eq (made_name (prefix_of first) j) name (of_true _ e))))))
            (λ e. same_is (made_name (prefix_of first) j) name (g j h (sym (eqb-true j r e))));
      }

  -- its bytes, one by one
  listed : (n : ℕ) → length name ≡ n → map (λ i. get_or name i 0) (below n) ≡ name
  listed n e =
      subst (λ (m : ℕ). map (λ i. get_or name i 0) (below m) ≡ name) e (map_from (λ i. get_or name i 0) 0 0 name (λ i b. ap (λ (m : ℕ). get_or name m 0) (zero-add i)))

  -- begun like one, it is told by its digits
  module _ (head : get_or name 0 0 ≡ first) (dot : get_or name 1 0 ≡ 46) where
    begun : (n j : ℕ) {ds : List ℕ} → length name ≡ n → digits j ≡ ds → get_or name 0 0 ∷ get_or name 1 0 ∷ ds ≡ map (λ i. get_or name i 0) (below n) → made_name (prefix_of first) j ≡ name
    begun n j {ds} e p q = (λ i. sym head i ∷ sym dot i ∷ p i) ∙ q ∙ listed n e

    pub of_one : length name ≡ 3 → {x r : ℕ} → x ≡ get_or name 2 0 → r ≡ digit_from 48 x → Numbers (prefix_of first) name r
    of_one n {x} {r} p q =
        number_is r (omega (arith, q, digit_most 48 x)) (λ j h b. there j (b.one n)) (λ j h e. back j e (is_digit 48 x (omega arith)))
      where
        there : (j : ℕ) → (j < 10) × (get_or name 2 0 ≡ 48 + j) → r ≡ j
        there j b = omega (arith, b.0, b.1, p, q, digit_is 48 x (omega (arith, p, b.1)) (omega (arith, p, b.0, b.1)))

        back : (j : ℕ) → r ≡ j → (48 ≤ x) × (x ≤ 57) → made_name (prefix_of first) j ≡ name
        back j e d =
            let v : j ≡ x - 48 = sym e ∙ q ∙ digit_is 48 x d.0 d.1 in
            let c : 48 + j ≡ get_or name 2 0 = omega (arith, p, v, d.0) in
            begun 3 j n (one_digit j (omega (arith, v, d.1))) (λ i. get_or name 0 0 ∷ get_or name 1 0 ∷ c i ∷ [])

    pub of_two :
        length name ≡ 4 → {x y u v r : ℕ} → x ≡ get_or name 2 0 → y ≡ get_or name 3 0 → u ≡ digit_from 49 x → v ≡ digit_from 48 y
        → r ≡ bounded (10 * u + v) → Numbers (prefix_of first) name r
    of_two n {x} {y} {u} {v} {r} p p' q q' z =
        number_is r (omega (arith, z, bounded_most (10 * u + v))) (λ j h b. there j (b.two n))
        (λ j h e.
        let s : 10 * u + v ≡ j = sym (is_bounded (10 * u + v) (omega arith)) ∙ sym z ∙ e in
        back j s (is_digit 49 x (omega arith)) (is_digit 48 y (omega arith)))
      where
        there : (j : ℕ) → (10 ≤ j) × (j < 100) × (get_or name 2 0 ≡ 48 + j / 10) × (get_or name 3 0 ≡ 48 + j % 10) → r ≡ j
        there j b =
            let d = div-add-mod j 10 in
            let m : j % 10 < 10 = mod-lt j (lit< tt) in
            let e : u ≡ j / 10 = q ∙ digit_is 49 x (omega (arith, p, b.0, b.2, d, m)) (omega (arith, p, b.1, b.2, d)) ∙ omega (arith, p, b.2) in
            let f : v ≡ j % 10 = q' ∙ digit_is 48 y (omega (arith, p', b.3)) (omega (arith, p', b.3, m)) ∙ omega (arith, p', b.3) in
            z ∙ bounded_is (10 * u + v) (omega (arith, e, f, d, b.1)) ∙ omega (arith, e, f, d)

        back : (j : ℕ) → 10 * u + v ≡ j → (49 ≤ x) × (x ≤ 57) → (48 ≤ y) × (y ≤ 57) → made_name (prefix_of first) j ≡ name
        back j s a b =
            let e : u ≡ x - 48 = q ∙ digit_is 49 x a.0 a.1 in
            let f : v ≡ y - 48 = q' ∙ digit_is 48 y b.0 b.1 in
            let d = div-add-mod j 10 in
            let m : j % 10 < 10 = mod-lt j (lit< tt) in
            let c : 48 + j / 10 ≡ get_or name 2 0 = omega (arith, p, e, f, s, d, m, a.0, b.0, b.1) in
            let c' : 48 + j % 10 ≡ get_or name 3 0 = omega (arith, p', e, f, s, d, m, a.0, b.0, b.1) in
            begun 4 j n (two_digits j (omega (arith, s, e, a.0)) (omega (arith, s, e, f, a.1, b.1)))
            (λ i. get_or name 0 0 ∷ get_or name 1 0 ∷ c i ∷ c' i ∷ [])

    pub of_three :
        length name ≡ 5 → {x y w u v k r : ℕ} → x ≡ get_or name 2 0 → y ≡ get_or name 3 0 → w ≡ get_or name 4 0 → u ≡ digit_from 49 x → v ≡ digit_from 48 y
        → k ≡ digit_from 48 w → r ≡ bounded (100 * u + 10 * v + k) → Numbers (prefix_of first) name r
    of_three n {x} {y} {w} {u} {v} {k} {r} p p' p'' q q' q'' z =
        number_is r (omega (arith, z, bounded_most (100 * u + 10 * v + k))) (λ j h b. there j h (b.three n))
        (λ j h e.
        let s : 100 * u + 10 * v + k ≡ j = sym (is_bounded (100 * u + 10 * v + k) (omega arith)) ∙ sym z ∙ e in
        back j h s (is_digit 49 x (omega arith)) (is_digit 48 y (omega arith)) (is_digit 48 w (omega arith)))
      where
        there :
            (j : ℕ) → j < 512 → (100 ≤ j) × (get_or name 2 0 ≡ 48 + j / 10 / 10) × (get_or name 3 0 ≡ 48 + j / 10 % 10) × (get_or name 4 0 ≡ 48 + j % 10) → r ≡ j
        there j h b =
            let d = div-add-mod j 10 in
            let d' = div-add-mod (j / 10) 10 in
            let m : j % 10 < 10 = mod-lt j (lit< tt) in
            let m' : j / 10 % 10 < 10 = mod-lt (j / 10) (lit< tt) in
            let e : u ≡ j / 10 / 10 = q ∙ digit_is 49 x (omega (arith, p, b.0, b.1, d, m, d', m')) (omega (arith, p, h, b.1, d, d')) ∙ omega (arith, p, b.1) in
            let f : v ≡ j / 10 % 10 = q' ∙ digit_is 48 y (omega (arith, p', b.2)) (omega (arith, p', b.2, m')) ∙ omega (arith, p', b.2) in
            let g : k ≡ j % 10 = q'' ∙ digit_is 48 w (omega (arith, p'', b.3)) (omega (arith, p'', b.3, m)) ∙ omega (arith, p'', b.3) in
            z ∙ bounded_is (100 * u + 10 * v + k) (omega (arith, e, f, g, d, d', h)) ∙ omega (arith, e, f, g, d, d')

        back :
            (j : ℕ) → j < 512 → 100 * u + 10 * v + k ≡ j → (49 ≤ x) × (x ≤ 57) → (48 ≤ y) × (y ≤ 57) → (48 ≤ w) × (w ≤ 57)
            → made_name (prefix_of first) j ≡ name
        back j h s a b o =
            let e : u ≡ x - 48 = q ∙ digit_is 49 x a.0 a.1 in
            let f : v ≡ y - 48 = q' ∙ digit_is 48 y b.0 b.1 in
            let g : k ≡ w - 48 = q'' ∙ digit_is 48 w o.0 o.1 in
            let d = div-add-mod j 10 in
            let d' = div-add-mod (j / 10) 10 in
            let m : j % 10 < 10 = mod-lt j (lit< tt) in
            let m' : j / 10 % 10 < 10 = mod-lt (j / 10) (lit< tt) in
            let t : j / 10 ≡ 10 * u + v = omega (arith, g, s, d, m, o.0, o.1) in
            let c : 48 + j / 10 / 10 ≡ get_or name 2 0 = omega (arith, p, e, f, t, d', m', a.0, b.0, b.1) in
            let c' : 48 + j / 10 % 10 ≡ get_or name 3 0 = omega (arith, p', f, t, d', m', b.0, b.1) in
            let c'' : 48 + j % 10 ≡ get_or name 4 0 = omega (arith, p'', g, s, t, d, o.0) in
            begun 5 j n (three_digits j (omega (arith, s, e, a.0)) h) (λ i. get_or name 0 0 ∷ get_or name 1 0 ∷ c i ∷ c' i ∷ c'' i ∷ [])
