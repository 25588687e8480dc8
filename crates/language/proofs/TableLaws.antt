-- The cells of names, registers and blocks: how many they are, and what is read back where they stand.
-- Assumes nothing.
use mathlib.Core.Path.{◌≡◌, refl, ap, ap₂, ◌∙◌}
use mathlib.Core.List.{List, [], ◌∷◌, ◌++◌}
use Prim.Native.Nat.{ℕ, suc, ◌+◌, ◌-◌, ◌*◌, ◌/◌, ◌%◌, ◌≤◌, ◌<◌}
use native.Mathlib.Nat.{zero-lt-suc}
use native.Mathlib.Omega.{arith}
use lib.ListN.{length, get_or, replicate, length-append}
use Rattle.laws.specs.Sections.{At, pad}
use Rattle.laws.proofs.Sections.{at_right, at_cell, at_part, at_pad, length_pad}
use Rattle.language.specs.Answers.{zeros}
use Rattle.language.specs.Programs.{Register}
use Rattle.language.specs.Table.{eight_bytes, name_at, list_at, BlockRecord, name_cells, register_cells, predecessor_cells, block_cells, block_length, name_length, predecessors_length, register_length}

-- ---- lengths

pub length_name : (name : List ℕ) → length name ≤ 64 → length (name_cells name) ≡ name_length
unfolding name_cells
length_name name h = ap suc (length_pad 64 name h)

pub length_register : (r : Register) → length r.name ≤ 64 → length (register_cells r) ≡ register_length
unfolding register_cells
length_register r h = ap suc (length_name r.name h)

pub length_predecessors : (list : List ℕ) → length list ≤ 64 → length (predecessor_cells list) ≡ predecessors_length
unfolding predecessor_cells
length_predecessors list h = ap suc (length_pad 64 list h)

pub length_block : (n : ℕ) (b : BlockRecord) → length b.block.name ≤ 64 → length b.list ≤ 64 → length (block_cells n b) ≡ block_length
unfolding block_cells
length_block n b h l =
    let parts : length (name_cells b.block.name ++ predecessor_cells b.list) ≡ name_length + predecessors_length =
    length-append (name_cells b.block.name) (predecessor_cells b.list)
    ∙ ap₂ (λ x y. x + y) (length_name b.block.name h) (length_predecessors b.list l) in
    ap (λ k. suc (suc (suc (suc k)))) parts

-- ---- names

-- a name's cells, of which its length and bytes are stored
pub name_cells_law : (name : List ℕ) → name_cells name ≡ (length name ∷ name) ++ replicate (64 - length name) 0
unfolding name_cells pad
name_cells_law name = refl

pub no_name_cells : name_cells [] ≡ replicate name_length 0
unfolding name_cells pad
no_name_cells = refl

-- ---- predecessors

pub no_predecessor_cells : predecessor_cells [] ≡ replicate predecessors_length 0
unfolding predecessor_cells pad
no_predecessor_cells = refl

-- a list of numbers stands like a name
list_cells : (list : List ℕ) → predecessor_cells list ≡ name_cells list
unfolding predecessor_cells name_cells
list_cells list = refl

-- ---- read back

module _ {t : List ℕ} where
  pub name_length_back : {k : ℕ} (name : List ℕ) → At t k (name_cells name) → {m : ℕ} → m ≡ k → get_or t m 0 ≡ length name
  unfolding name_cells
  name_length_back name h e = at_cell 0 h 0 (zero-lt-suc (length (pad 64 name))) (omega arith)

  pub name_back : {k : ℕ} (name : List ℕ) → At t k (name_cells name) → {m : ℕ} → m ≡ k → name_at t m ≡ name
  unfolding name_cells
  name_back {k} name h {m} e =
      let bytes : At t (k + 1) name = at_pad 64 name (at_right (length name ∷ []) (pad 64 name) h) in
      at_part bytes {m = m + 1} (omega arith) (name_length_back name h e)

  pub predecessor_count_back : {k : ℕ} (list : List ℕ) → At t k (predecessor_cells list) → {m : ℕ} → m ≡ k → get_or t m 0 ≡ length list
  predecessor_count_back list h e = name_length_back list (rw (list_cells list) at h) e

  pub predecessors_back : {k : ℕ} (list : List ℕ) → At t k (predecessor_cells list) → {m : ℕ} → m ≡ k → list_at t m ≡ list
  predecessors_back list h e = name_back list (rw (list_cells list) at h) e

-- cells that are all zero, as a new array has them
pub zeros_made : (n : ℕ) → replicate n 0 ≡ zeros n
unfolding zeros
zeros_made n = refl

-- ---- small numbers in eight cells

pub eight_of_ones : (x y : ℕ) → x < 256 → y < 256 → eight_bytes (x + 256 * y) ≡ x ∷ y ∷ replicate 6 0
eight_of_ones x y h k =
    let n : ℕ = x + 256 * y in
    let a : n % 256 ≡ x = omega arith in
    let q : n / 256 ≡ y = omega arith in
    let b : y % 256 ≡ y = omega arith in
    let p : n / 65536 ≡ 0 = omega arith in
    let e : n / 4294967296 ≡ 0 = omega arith in
    rw (e, p, q, a, b)

pub eight_of_one : (x : ℕ) → x < 256 → eight_bytes x ≡ x ∷ replicate 7 0
eight_of_one x h =
    let e : x ≡ x + 256 * 0 = omega arith in
    ap (λ n. eight_bytes n) e ∙ eight_of_ones x 0 h (omega arith)
