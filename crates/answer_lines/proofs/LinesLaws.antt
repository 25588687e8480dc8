-- The lines of answers in their parts, and a value by meaning. Assumes nothing.
use mathlib.Core.Path.{◌≡◌, sym, ap}
use mathlib.Core.Bool.{true, false}
use mathlib.Core.List.{List, [], ◌∷◌, ◌++◌, append_assoc, append-nil}
use Prim.Native.Nat.{ℕ, ◌%◌, ◌^◌, ◌<◌}
use native.Mathlib.Nat.{mod-lt, mod-eq_of_lt}
use native.Mathlib.Omega.{arith}
use lib.IntN.{ℤ, pos, negsuc}
use lib.Pow.{pow_pos}
use Rattle.language.specs.Bytes.{bytes_of, line_feed, minus}
use Rattle.language.specs.Instructions.{width}
use Rattle.language.specs.Arithmetic.{meaning}
use Rattle.language.specs.Answers.{Ran as Ranᴸ}
use Rattle.language.specs.Listing.{tab, digits, line}
use Rattle.decimal.specs.Meanings.{meant_by}
use Rattle.decimal.specs.Writing.{Written}
use Rattle.decimal.specs.declared.ranges.Meant.{Meant}
use Rattle.std.specs.Prelude.{Ok}
use Rattle.std.specs.declared.result.Result.{Result}
use Rattle.answers.specs.declared.reasons.Refusal.{Refusal}
use Rattle.answers.specs.declared.Ran.{Ran}
use Rattle.answers.specs.Cases.{ran_of}
use Rattle.answer_lines.specs.Lines.{decimal_of, value_written, ran_line}

-- ---- the lowest bits

module _ (kind v : ℕ) where
  pub lowest_below : {x : ℕ} → x ≡ v % 2 ^ width kind → x < 2 ^ width kind
  lowest_below e = rw e (mod-lt v (pow_pos (width kind)))

  pub lowest_all : width kind ≡ 64 → v < 18446744073709551616 → v ≡ v % 2 ^ width kind
  lowest_all e l = rw e (sym (mod-eq_of_lt l))

-- ---- a value

plain : (z : ℤ) {m : Meant} → m ≡ meant_by z → m.negative ≡ false → decimal_of z ≡ digits m.magnitude
plain (pos n) e h = ap (λ (m : Meant). digits m.magnitude) (sym e)
plain (negsuc n) e h =
    let s = ap (λ (m : Meant). m.negative) e in
    absurd (let z : ◌≡◌ {A = ℕ} 0 1 = cc in omega arith)

negative : (z : ℤ) {m : Meant} → m ≡ meant_by z → m.negative ≡ true → decimal_of z ≡ minus ∷ digits m.magnitude
negative (pos n) e h =
    let s = ap (λ (m : Meant). m.negative) e in
    absurd (let z : ◌≡◌ {A = ℕ} 0 1 = cc in omega arith)
negative (negsuc n) e h = ap (λ (m : Meant). minus ∷ digits m.magnitude) (sym e)

module _ (kind v : ℕ) {x : ℕ} {m : Meant} (low : x ≡ v % 2 ^ width kind) (means : m ≡ meant_by (meaning kind x)) where
  pub value_plain : m.negative ≡ false → value_written kind v ≡ digits m.magnitude
  unfolding value_written
  value_plain h = rw (← low) (plain (meaning kind x) means h)

  pub value_negative : m.negative ≡ true → value_written kind v ≡ minus ∷ digits m.magnitude
  unfolding value_written
  value_negative h = rw (← low) (negative (meaning kind x) means h)

-- ---- lines

regroup_value : (a v d e : List ℕ) → (a ++ (tab ∷ v)) ++ (d ++ []) ++ e ≡ (a ++ (tab ∷ [])) ++ v ++ d ++ e
regroup_value a v d e = simp (append_assoc, append-nil)

pub returned_parts : (kind v s : ℕ) → ran_line kind (Ranᴸ.returned v s) ≡ (bytes_of "returned" ++ (tab ∷ [])) ++ value_written kind v ++ (tab ∷ digits s) ++ (line_feed ∷ [])
unfolding line
returned_parts kind v s = regroup_value (bytes_of "returned") (value_written kind v) (tab ∷ digits s) (line_feed ∷ [])

regroup_one : (s a e : List ℕ) → s ++ (a ++ []) ++ e ≡ s ++ a ++ e
regroup_one s a e = simp (append_assoc, append-nil)

pub left_parts : (s : ℕ) → line (bytes_of "left") (s ∷ []) ≡ bytes_of "left" ++ (tab ∷ digits s) ++ (line_feed ∷ [])
unfolding line
left_parts s = regroup_one (bytes_of "left") (tab ∷ digits s) (line_feed ∷ [])

regroup_three : (s a b c e : List ℕ) → s ++ (a ++ (b ++ (c ++ []))) ++ e ≡ s ++ a ++ b ++ c ++ e
regroup_three s a b c e = simp (append_assoc, append-nil)

pub stopped_parts : (n p s : ℕ) → line (bytes_of "stopped") (n ∷ p ∷ s ∷ []) ≡ bytes_of "stopped" ++ (tab ∷ digits n) ++ (tab ∷ digits p) ++ (tab ∷ digits s) ++ (line_feed ∷ [])
unfolding line
stopped_parts n p s = regroup_three (bytes_of "stopped") (tab ∷ digits n) (tab ∷ digits p) (tab ∷ digits s) (line_feed ∷ [])

-- the line of an answer that is known
pub answered :
    (kind : ℕ) {r x : Result Ran Refusal} → r ≡ x → {entry exit : List ℕ} {end : ℕ} → Written entry 0 (ran_line kind (ran_of x)) exit end
    → Written entry 0 (ran_line kind (ran_of r)) exit end
answered kind e w = rw e w

pub ended :
    (kind : ℕ) {r x : Ran} → r ≡ x → {entry exit : List ℕ} {end : ℕ} → Written entry 0 (ran_line kind (ran_of (Ok x))) exit end
    → Written entry 0 (ran_line kind (ran_of (Ok r))) exit end
ended kind e w = rw e w
