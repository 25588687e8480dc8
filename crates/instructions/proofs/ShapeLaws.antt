-- A number that is none of the single numbers of a definition goes by its ranges. Assumes nothing.
use mathlib.Core.Path.{◌≡◌}
use mathlib.Core.Bool.{cond}
use mathlib.Core.Logic.{◌⊎◌, inl, inr}
use Prim.Native.Nat.{ℕ, ◌<◌, ◌≤◌, ◌*◌, ◌^◌, ◌%◌}
use native.Mathlib.Nat.{mod-eq_of_lt}
use native.Mathlib.Omega.{arith}
use lib.Dec.{ltb}
use lib.Pow.{pow_mono}
use borrow.Author.Tests.{lt-ltb, le-ltb, ne_eqb}
use Rattle.language.specs.Instructions.{Form, form_of, width, ari_add_op, ari_neg_op, bit_neg_op, conv_op, jump_cond_op, jump_op, leave_op, phi_op, return_op}
use Rattle.instructions.specs.Shapes.{shape_as, shape_of}

-- what a `match` on these single numbers leaves
abbrev pub None : ℕ → Type 0
None n = (((((((Unit × (n ≡ 0 → ⊥)) × ((n ≡ ari_neg_op) ⊎ (n ≡ bit_neg_op) → ⊥)) × (n ≡ phi_op → ⊥)) × (n ≡ jump_op → ⊥)) × (n ≡ jump_cond_op → ⊥)) × (n ≡ return_op → ⊥)) × (n ≡ leave_op → ⊥))

pub form_by_range : (n : ℕ) → None n → form_of n ≡ cond (ltb n ari_add_op) Form.load (cond (ltb n conv_op) Form.binary (cond (ltb n phi_op) Form.unary Form.unknown))
unfolding form_of
form_by_range n r = simp (ne_eqb n 0 r.0.0.0.0.0.0.1, ne_eqb n ari_neg_op (λ e. r.0.0.0.0.0.1 (inl e)), ne_eqb n bit_neg_op (λ e. r.0.0.0.0.0.1 (inr e)), ne_eqb n phi_op r.0.0.0.0.1, ne_eqb n jump_op r.0.0.0.1, ne_eqb n jump_cond_op r.0.0.1, ne_eqb n return_op r.0.1, ne_eqb n leave_op r.1)

module _ (n : ℕ) (r : None n) where
  pub shape_load : n < ari_add_op → shape_of n ≡ shape_as Form.load
  unfolding shape_of
  shape_load h = simp (form_by_range n r, lt-ltb n ari_add_op h)

  pub shape_binary : ari_add_op ≤ n → n < conv_op → shape_of n ≡ shape_as Form.binary
  unfolding shape_of
  shape_binary l h = simp (form_by_range n r, le-ltb n ari_add_op l, lt-ltb n conv_op h)

  pub shape_unary : conv_op ≤ n → n < phi_op → shape_of n ≡ shape_as Form.unary
  unfolding shape_of
  shape_unary l h = simp (form_by_range n r, le-ltb n ari_add_op (omega arith), le-ltb n conv_op l, lt-ltb n phi_op h)

  pub shape_unknown : phi_op ≤ n → shape_of n ≡ shape_as Form.unknown
  unfolding shape_of
  shape_unknown l = simp (form_by_range n r, le-ltb n ari_add_op (omega arith), le-ltb n conv_op (omega arith), le-ltb n phi_op l)

-- the widths below 64 fit a byte
pub width_small : (t : ℕ) → t < 8 → (8 * 2 ^ (t % 4)) % 256 ≡ width t
unfolding width
width_small t h =
    let l : 2 ^ (t % 4) ≤ 2 ^ 3 = let k : t % 4 ≤ 3 = omega arith in pow_mono k in
    simp (lt-ltb t 8 h, mod-eq_of_lt {n = 8 * 2 ^ (t % 4)} {m = 256} (omega arith))
