-- A function's closing brace: what its parts in code leave in the cells is what the laws of drafts ask.
-- Assumes nothing.
use mathlib.Core.Logic.{◌≢◌}
use mathlib.Core.Path.{◌≡◌, sym, ap, ◌∙◌}
use mathlib.Core.List.{List}
use Prim.Native.Nat.{ℕ, ◌+◌, ◌*◌, ◌%◌, ◌<◌}
use native.Mathlib.Omega.{arith}
use lib.ListN.{length, get_or, set}
use lib.Seq.{sets, get_or-set_same, get_or-set_other}
use borrow.Author.Tests.{eq-eqb, ne_eqb}
use borrow.Author.Count.{below_more}
use Rattle.table.specs.Named.{first_named}
use Rattle.language.specs.Table.{name_at, two_bytes, row_op, block_length, block_names_offset, operands_offset, row_length}
use Rattle.language.specs.Instructions.{jump_cond_op, jump_op}
use Rattle.drafts.specs.Cells.{head_bytes}
use Rattle.drafts.specs.Ending.{block_named, patch_row}
use Rattle.drafts.specs.State.{mention_length}

-- ---- the parts of the code

-- one name more is put down
pub found_more : (g : ℕ → ℕ) (n : ℕ) (found : List ℕ) (k : ℕ) {b : ℕ} → k < length found → ((j : ℕ) → j < k → (get_or found j 0 ≡ g j) × (g j < n)) → b ≡ g k → b < n
    → (j : ℕ) → j < k + 1 → (get_or (set found k b) j 0 ≡ g j) × (g j < n)
found_more g n found k {b} l h e s =
    below_more (λ (j : ℕ). (get_or (set found k b) j 0 ≡ g j) × (g j < n)) k
    (λ j i. (get_or-set_other found k j b 0 (λ p. absurd (omega arith)) ∙ (h j i).0, (h j i).1))
    (get_or-set_same found k b 0 l ∙ e, omega arith)

-- the name that was looked for is the one kept
pub named_by : (f : List ℕ) (n : ℕ) (pend : List ℕ) (k : ℕ) {part : List ℕ} {b : ℕ} → part ≡ name_at pend (mention_length * k) → b ≡ first_named f block_names_offset block_length n part
    → b ≡ block_named f n pend k
named_by f n pend k p q = q ∙ ap (λ (name : List ℕ). first_named f block_names_offset block_length n name) p

module _ (f found : List ℕ) (r : ℕ) {op : ℕ} (o : op ≡ row_op f 0 r) where
  abbrev k : ℕ
  k = operands_offset + row_length * r

  pub patch_jump : op ≡ jump_op → {m : ℕ} → m ≡ get_or f k 0 → set f k (get_or found m 0) ≡ patch_row f found r
  unfolding patch_row
  patch_jump h p = rw (eq-eqb (row_op f 0 r) jump_op (sym o ∙ h), ← p)

  pub patch_branch : op ≡ jump_cond_op → {m n : ℕ} → m ≡ get_or f k 0 → n ≡ get_or (set f k (get_or found m 0)) (k + 1) 0
      → set (set f k (get_or found m 0)) (k + 1) (get_or found n 0) ≡ patch_row f found r
  unfolding patch_row
  patch_branch h {m} {n} p q =
      let e : row_op f 0 r ≡ jump_cond_op = sym o ∙ h in
      let later : n ≡ get_or f (k + 1) 0 = q ∙ get_or-set_other f k (k + 1) (get_or found m 0) 0 (λ z. absurd (omega arith)) in
      rw (ne_eqb (row_op f 0 r) jump_op (λ z. omega arith), eq-eqb (row_op f 0 r) jump_cond_op e, ← p, ← later)

  pub patch_other : op ≢ 32 → op ≢ 33 → f ≡ patch_row f found r
  unfolding patch_row
  patch_other h l = rw (ne_eqb (row_op f 0 r) jump_op (λ z. h (o ∙ z)), ne_eqb (row_op f 0 r) jump_cond_op (λ z. l (o ∙ z)))

-- the eight cells of a head, stored in six steps
pub head_put : (f : List ℕ) {x y s t : ℕ} (p q n e : ℕ) {f₁ f₂ : List ℕ} → x ≡ s % 256 → s < 256 → y ≡ t % 256 → t < 256 → f₁ ≡ sets (set (set f 0 x) 1 y) 2 (two_bytes p)
    → f₂ ≡ sets f₁ 4 (two_bytes q) → set (set f₂ 6 n) 7 e ≡ sets f 0 (head_bytes s t p q n e)
head_put f {x} {y} {s} {t} p q n e a b c d h k =
    let u : x ≡ s = omega arith in
    let v : y ≡ t = omega arith in
    rw (k, h, u, v)
