-- A type by its room, how many of the 64 bits stand above its own, and by whether its sign matters: what an instruction needs of it.
-- Assumes nothing.
use Rattle.std.specs.Prelude.{◌≡◌, ℕ, ◌-◌, ◌^◌, ◌<◌, Bool, true, false, cond, ◌&&◌, ℤ, pos, negsuc, ◌==◌, nat_le, nat_lt}
use Rattle.language.specs.Instructions.{width, signed, second_type, ari_div_op, ari_neg_op, shr_op, cmp_gt_op, copy_op}
use Rattle.language.specs.Arithmetic.{flip}

-- Whether an instruction goes by what its first source means: shr; ari.div, ari.rem; cmp.gt to cmp.lteq and conv.
unfoldable pub sign_matters : ℕ → Bool
sign_matters op =
    cond (op == shr_op) true
    (cond (nat_lt op ari_div_op) false (cond (nat_lt op ari_neg_op) true (cond (nat_lt op cmp_gt_op) false (nat_lt op copy_op))))

-- Whether it goes by the sign of its first source's type t.
abbrev pub sign_for : (op t : ℕ) → Bool
sign_for op t = cond (sign_matters op) (signed t) false

-- What x means in a type of the room s: with a sign, the upper half is counted down from -1.
unfoldable pub reading : (s : ℕ) (sign : Bool) (x : ℕ) → ℤ
reading s sign x = cond (sign && nat_le (2 ^ (64 - s - 1)) x) (negsuc (flip (64 - s) x)) (pos x)

-- s and sign are those of the type t, where its sign matters.
pub record StandFor (s : ℕ) (sign : Bool) (t : ℕ) : Type 0 where
  pub above : s ≡ 64 - width t
  pub reads : sign ≡ signed t

-- Two sources hold numbers of a type whose room is s, and of the type that the instruction asks of the second.
pub record Sources (op s a b : ℕ) : Type 0 where
  pub kind : ℕ
  pub above : s ≡ 64 - width kind
  pub first : a < 2 ^ width kind
  pub second : b < 2 ^ width (second_type op kind)

-- One source holds a number of a type whose room is s; r is the room of the target's type.
pub record Source (s r x : ℕ) : Type 0 where
  pub kind : ℕ
  pub target : ℕ
  pub above : s ≡ 64 - width kind
  pub above_target : r ≡ 64 - width target
  pub fits : x < 2 ^ width kind
