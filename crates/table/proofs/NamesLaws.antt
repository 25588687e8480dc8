-- Names that stand at one distance from each other, and the last eight bytes of one. Assumes nothing.
use mathlib.Core.Path.{◌≡◌, sym, ap, subst, ◌∙◌}
use mathlib.Core.Bool.{Bool, true, false}
use mathlib.Core.List.{List}
use Prim.Native.Nat.{ℕ, suc, ◌+◌, ◌*◌, ◌-◌, ◌≤◌, ◌<◌}
use native.Mathlib.Nat.{mul-suc, mul-le-mul_left}
use native.Mathlib.Omega.{arith}
use lib.Dec.{ltb}
use borrow.Author.Tests.{lt-ltb, le-ltb}
use lib.ListN.{length, get_or, take, drop, length-take}
use lib.Seq.{get_or-take, get_or-drop}
use Rattle.laws.specs.Lists.{same}
use Rattle.language.specs.Table.{eight, name_at}
use Rattle.std.specs.Prelude.{Option, Some, None, is_some, unwrap_or}
use Rattle.table.specs.Named.{is_named, first_named, FindsName}

-- name i ends before name i + 1 begins
pub room : (stride : ℕ) {i count : ℕ} → i < count → stride * i + stride ≤ stride * count
room stride {i} h = rw (← mul-suc stride i) (mul-le-mul_left stride h)

-- one name further
pub step_on : (at stride i k : ℕ) → k ≡ at + stride * i → k + stride ≡ at + stride * (i + 1)
step_on at stride i k e =
    let q : suc i ≡ i + 1 = omega arith in
    subst (λ (n : ℕ). k + stride ≡ at + stride * n) q (omega (arith, e, mul-suc stride i))

-- what is said of the name at k, which is name i
pub named_at : (t name : List ℕ) (at stride i k : ℕ) {r b : Bool} → k ≡ at + stride * i → r ≡ same (name_at t k) name → r ≡ b → is_named t at stride name i ≡ b
named_at t name at stride i k e p q = ap (λ (n : ℕ). same (name_at t n) name) (sym e) ∙ sym p ∙ q

-- whether a name is found, and where
module _ (t : List ℕ) (at stride count : ℕ) (name : List ℕ) (o : Option ℕ) where
  pub found_some : FindsName t at stride count name o → is_some o ≡ true → first_named t at stride count name < count
  found_some = by o
    where
      by : (o : Option ℕ) → FindsName t at stride count name o → is_some o ≡ true → first_named t at stride count name < count
      by None h e = absurd (cc)
      by (Some i) h e = omega (arith, h.0, h.1)

  pub found_none : FindsName t at stride count name o → is_some o ≡ false → count ≡ first_named t at stride count name
  found_none = by o
    where
      by : (o : Option ℕ) → FindsName t at stride count name o → is_some o ≡ false → count ≡ first_named t at stride count name
      by None h e = h
      by (Some i) h e = absurd (cc)

  pub found_if : FindsName t at stride count name o → is_some o ≡ ltb (first_named t at stride count name) count
  found_if = by o
    where
      by : (o : Option ℕ) → FindsName t at stride count name o → is_some o ≡ ltb (first_named t at stride count name) count
      by None h = sym (le-ltb (first_named t at stride count name) count (omega (arith, h)))
      by (Some i) h = sym (lt-ltb (first_named t at stride count name) count (omega (arith, h.0, h.1)))

  -- its number, or the count of the names
  pub found_or : FindsName t at stride count name o → unwrap_or o count ≡ first_named t at stride count name
  found_or = by o
    where
      by : (o : Option ℕ) → FindsName t at stride count name o → unwrap_or o count ≡ first_named t at stride count name
      by None h = h
      by (Some i) h = h.0

module _ (t name : List ℕ) (k : ℕ) (e : name_at t k ≡ name) where
  byte_of : (x y : ℕ) → x < length name → k + 1 + x ≡ y → get_or name x 0 ≡ get_or t y 0
  byte_of x y h q =
      let m : length name ≡ length (take (get_or t k 0) (drop (k + 1) t)) = ap length (sym e) in
      ap (λ (l : List ℕ). get_or l x 0) (sym e) ∙ get_or-take (get_or t k 0) (drop (k + 1) t) x 0 (omega (arith, m, length-take (get_or t k 0) (drop (k + 1) t)))
      ∙ get_or-drop (k + 1) t x 0 ∙ ap (λ (n : ℕ). get_or t n 0) q

  pub tail_of : 8 ≤ length name → eight t (k + length name - 7) ≡ eight name (length name - 8)
  tail_of h =
      let a = length name - 8 in
      let b = k + length name - 7 in
      omega (
        arith,
        byte_of a b (omega arith) (omega arith),
        byte_of (a + 1) (b + 1) (omega arith) (omega arith),
        byte_of (a + 2) (b + 2) (omega arith) (omega arith),
        byte_of (a + 2 + 1) (b + 2 + 1) (omega arith) (omega arith),
        byte_of (a + 4) (b + 4) (omega arith) (omega arith),
        byte_of (a + 4 + 1) (b + 4 + 1) (omega arith) (omega arith),
        byte_of (a + 4 + 2) (b + 4 + 2) (omega arith) (omega arith),
        byte_of (a + 4 + 2 + 1) (b + 4 + 2 + 1) (omega arith) (omega arith),
      )
