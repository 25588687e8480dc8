-- An instruction by its number: what is known of its sources, and a number that is none of theirs.
-- Assumes nothing.
use Rattle.std.proofs.Common.{◌≡◌, ℕ, ◌-◌, ◌^◌, ◌<◌, Bool, true, false, ap, ◌∙◌, subst, ne_eqb}
use Rattle.std.specs.Int.{from_bool}
use Rattle.language.specs.Instructions.{width, second_type}
use Rattle.language.specs.Instructions.{ari_add_op, ari_div_op, ari_mul_op, ari_rem_op, ari_sub_op, bit_and_op, bit_or_op, bit_xor_op, cmp_eq_op, cmp_gt_op, cmp_gteq_op, cmp_lt_op, cmp_lteq_op, cmp_neq_op, rol_op, ror_op, shl_op, shr_op}
use Rattle.language.specs.Arithmetic.{Computed, truth, binary_of}
use Rattle.arithmetic.specs.Rooms.{sign_matters, sign_for, StandFor, Sources}
use Rattle.arithmetic.proofs.Meanings.{width_is, room_below}

-- a number of a type is one of 64 - s bits
pub fits_in : (t : ℕ) {s x : ℕ} → s ≡ 64 - width t → x < 2 ^ width t → x < 2 ^ (64 - s)
fits_in t h l = rw (width_is t h) l

-- room and sign are the type's where the instruction is k, whose sign matters
pub stands : {op k s t : ℕ} {sign : Bool} → op ≡ k → sign_matters k ≡ true → s ≡ 64 - width t → sign ≡ sign_for op t → StandFor s sign t
stands e m h g = record { above = h; reads = g ∙ rw (e, m) }

-- ---- two sources

module _ {op s a b : ℕ} (q : Sources op s a b) where
  pub room_in : s < 64
  room_in = room_below q.kind q.above

  pub first_in : a < 2 ^ (64 - s)
  first_in = fits_in q.kind q.above q.first

  -- of the first one's type, if that is what instruction k asks
  pub second_in : {k : ℕ} → op ≡ k → ((t : ℕ) → second_type k t ≡ t) → b < 2 ^ (64 - s)
  second_in e f =
      fits_in q.kind q.above
      (subst (λ (t : ℕ). b < 2 ^ width t) (ap (λ (n : ℕ). second_type n q.kind) e ∙ f q.kind) q.second)

-- a comparison's bit, as std converts it
pub truth_of : (b : Bool) {n : ℕ} → n ≡ from_bool b → n ≡ truth b
truth_of true e = e
truth_of false e = e

-- instruction k
pub arm : (t a b : ℕ) {op k : ℕ} {x : Computed} → op ≡ k → x ≡ binary_of k t a b → x ≡ binary_of op t a b
arm t a b e f = rw e f

-- what a `match` on these numbers leaves
abbrev pub None : ℕ → Type 0
None n = (((((((((((((((((Unit × (n ≡ ari_add_op → ⊥)) × (n ≡ ari_sub_op → ⊥)) × (n ≡ ari_mul_op → ⊥)) × (n ≡ ari_div_op → ⊥)) × (n ≡ ari_rem_op → ⊥)) × (n ≡ bit_and_op → ⊥)) × (n ≡ bit_or_op → ⊥)) × (n ≡ bit_xor_op → ⊥)) × (n ≡ shl_op → ⊥)) × (n ≡ shr_op → ⊥)) × (n ≡ rol_op → ⊥)) × (n ≡ ror_op → ⊥)) × (n ≡ cmp_eq_op → ⊥)) × (n ≡ cmp_neq_op → ⊥)) × (n ≡ cmp_gt_op → ⊥)) × (n ≡ cmp_lt_op → ⊥)) × (n ≡ cmp_gteq_op → ⊥)) × (n ≡ cmp_lteq_op → ⊥)

pub binary_else : (op t : ℕ) → None op → (a b : ℕ) → binary_of op t a b ≡ Computed.value 0
unfolding binary_of
binary_else op t r a b = simp (ne_eqb op ari_add_op r.0.0.0.0.0.0.0.0.0.0.0.0.0.0.0.0.0.1, ne_eqb op ari_sub_op r.0.0.0.0.0.0.0.0.0.0.0.0.0.0.0.0.1, ne_eqb op ari_mul_op r.0.0.0.0.0.0.0.0.0.0.0.0.0.0.0.1, ne_eqb op ari_div_op r.0.0.0.0.0.0.0.0.0.0.0.0.0.0.1, ne_eqb op ari_rem_op r.0.0.0.0.0.0.0.0.0.0.0.0.0.1, ne_eqb op bit_and_op r.0.0.0.0.0.0.0.0.0.0.0.0.1, ne_eqb op bit_or_op r.0.0.0.0.0.0.0.0.0.0.0.1, ne_eqb op bit_xor_op r.0.0.0.0.0.0.0.0.0.0.1, ne_eqb op shl_op r.0.0.0.0.0.0.0.0.0.1, ne_eqb op shr_op r.0.0.0.0.0.0.0.0.1, ne_eqb op rol_op r.0.0.0.0.0.0.0.1, ne_eqb op ror_op r.0.0.0.0.0.0.1, ne_eqb op cmp_eq_op r.0.0.0.0.0.1, ne_eqb op cmp_neq_op r.0.0.0.0.1, ne_eqb op cmp_gt_op r.0.0.0.1, ne_eqb op cmp_lt_op r.0.0.1, ne_eqb op cmp_gteq_op r.0.1, ne_eqb op cmp_lteq_op r.1)
