-- The head and the registers of a translation, put down one after the other.
-- Assumes nothing.
use mathlib.Core.Path.{◌≡◌, refl, sym, ap, ◌∙◌}
use mathlib.Core.Bool.{Bool, true, false, not}
use mathlib.Core.List.{List, [], ◌∷◌, ◌++◌}
use Prim.Native.Nat.{ℕ, suc, ◌+◌, ◌-◌, ◌*◌, ◌≤◌, ◌<◌}
use native.Mathlib.Omega.{arith}
use lib.Dec.{T}
use lib.ListN.{length, get_or, set, replicate, length-append}
use lib.Seq.{sets}
use Rattle.laws.specs.Lists.{any, gather}
use Rattle.laws.proofs.Every.{Every, every_none, every_imp, empty_every}
use Rattle.language.specs.Programs.{Register, Func, no_register, rows_of, is_phi, entries_of}
use Rattle.language.specs.Answers.{zeros}
use Rattle.language.specs.Table.{two_bytes, head_cells, function_result, function_params, function_entry, function_name, table_length}
use Rattle.language.specs.Table.{register_count, register_type, register_name, block_count, block_first, row_target, register_cells, decode_register, decode_function}
use Rattle.language.specs.Table.{function_at, name_length, register_length, registers_offset}
use Rattle.language.specs.Translating.{phis_before, new_register, translation, translated_registers, translated_blocks}
use Rattle.theorems.specs.TableLaw.{Laid}
use Rattle.theorems.proofs.Acceptance.{no_phi_law, clean_translation}
use Rattle.theorems.proofs.AcceptanceCheck.{sound_parts}
use Rattle.theorems.proofs.AcceptanceRows.{entries_none}
use Rattle.theorems.proofs.TableFunction.{laid_of}
use Rattle.theorems.proofs.TableSound.{sound_fits}
use Rattle.language.proofs.TableView.{register_count_law, block_count_law}
use Rattle.language.proofs.TableLaws.{name_cells_law, no_name_cells}
use Rattle.theorems.proofs.Size.{size_registers, size_blocks}
use Rattle.theorems.proofs.SimulationBlocks.{phis_fit}
use Rattle.theorems.proofs.SimulationRows.{phis_at}
use Rattle.translator.specs.Source.{TranslatableAt, translated, declared, head_of}
use Rattle.translator.proofs.Counting.{phis_next, phis_all}
use Rattle.translator.proofs.Filling.{length_filled, register_stored, head_stored}
use Rattle.translator.proofs.Items.{register_kept, register_new, new_within}

register_cells_law : (r : Register) → register_cells r ≡ (r.type ∷ length r.name ∷ r.name) ++ replicate (64 - length r.name) 0
unfolding register_cells
register_cells_law r = ap (λ (x : List ℕ). r.type ∷ x) (name_cells_law r.name)

module _ (t : List ℕ) (a : ℕ) (h : TranslatableAt t a) where
  abbrev f : Func
  f = decode_function t a

  abbrev g : Func
  g = translated t a

  pub target_laid : Laid g
  target_laid = laid_of g (sound_fits g (sound_parts [] g (clean_translation f h.clean h.ssa h.fits).head))

  pub plain : Every (λ r. is_phi r ≡ false) (rows_of g)
  plain = every_none is_phi (rows_of g) (of_not (any is_phi (rows_of g)) (no_phi_law f))
    where
      of_not : (b : Bool) → T (not b) → b ≡ false
      of_not true n = absurd n
      of_not false n = refl

  pub no_entries : gather entries_of (rows_of g) ≡ []
  no_entries = empty_every entries_of (every_imp (λ r e. entries_none r e) plain)

  pub length_declared : (i : ℕ) → i ≤ length g.registers → length (declared t a i) ≡ table_length
  length_declared i l = length_filled g target_laid i 0 0 l (omega arith) (omega arith)

  -- one more register
  module _ (i : ℕ) (out next vs : List ℕ) (z : ℕ) (l : i < length g.registers) (e : out ≡ declared t a i) where
    pub one_declared : register_cells (get_or g.registers i no_register) ≡ vs ++ replicate z 0 → next ≡ sets out (function_at 0 + registers_offset + register_length * i) vs → next ≡ declared t a (suc i)
    one_declared c s = s ∙ ap (λ (u : List ℕ). sets u (function_at 0 + registers_offset + register_length * i) vs) e ∙ sym (register_stored g target_laid i 0 0 (omega arith) (omega arith) (omega arith) vs z l c).cells

  pub kept_within : (i : ℕ) → i ≤ register_count t a → i ≤ length g.registers
  unfolding translation
  kept_within i l = simp length-append (omega (arith, register_count_law t a))

  pub kept_short : (i : ℕ) → i < register_count t a → length (register_name t a i) ≤ 64
  unfolding decode_register
  kept_short i l = rw (register_kept t a h.sized h.clean i l) at (target_laid.register_names i (kept_within (suc i) l))

  pub one_kept : (i kind : ℕ) (out name next : List ℕ) → i < register_count t a → out ≡ declared t a i → kind ≡ register_type t a i → name ≡ register_name t a i
      → next ≡ sets out (function_at 0 + registers_offset + register_length * i) (kind ∷ length name ∷ name) → next ≡ declared t a (suc i)
  unfolding decode_register
  one_kept i kind out name next l e k n s =
      let within : i < length g.registers = kept_within (suc i) l in
      let is : get_or g.registers i no_register ≡ record { type = kind; name = name } = register_kept t a h.sized h.clean i l ∙ rw (k, n) in
      one_declared i out next (kind ∷ length name ∷ name) (64 - length name) within e (ap register_cells is ∙ register_cells_law (record { type = kind; name = name })) s

  pub one_new : (y n i kind : ℕ) (out next : List ℕ) → n ≡ new_register f y → y < block_count t a → i < length (phis_at f y) → out ≡ declared t a (n + i)
      → kind ≡ register_type t a (row_target t a (block_first t a y + i)) → next ≡ set out (function_at 0 + registers_offset + register_length * (n + i)) kind → next ≡ declared t a (n + (i + 1))
  unfolding register_cells
  one_new y n i kind out next d l b e k s =
      let more : n + (i + 1) ≡ suc (n + i) = omega arith in
      let within : n + i < length g.registers = rw d (new_within t a h.sized h.clean y i l b) in
      let is : get_or g.registers (n + i) no_register ≡ record { type = kind; name = [] } = rw (d, k) (register_new t a h.sized h.clean y i l b) in
      rw more (one_declared (n + i) out next (kind ∷ []) name_length within e (ap register_cells is ∙ ap (λ (r : List ℕ). kind ∷ r) no_name_cells) s)

  -- ---- the head

  pub name_short : length (function_name t a) ≤ 64
  unfolding decode_function translation
  name_short = target_laid.name

  pub head_declared : (registers blocks : ℕ) (out next : List ℕ) → registers ≡ translated_registers f → blocks ≡ translated_blocks f → out ≡ zeros table_length
      → next ≡ sets out 0 (head_of t a registers blocks) → next ≡ declared t a 0
  unfolding head_of head_cells translation decode_function
  head_declared registers blocks out next r b e s =
      let name = function_name t a in
      let vs : List ℕ = 0 ∷ function_result t a ∷ (two_bytes (function_params t a) ++ (two_bytes registers ++ (blocks ∷ function_entry t a ∷ length name ∷ name))) in
      let cells : head_cells g ≡ vs ++ replicate (64 - length name) 0 = rw (size_registers f, size_blocks f, ← r, ← b, name_cells_law name) in
      s ∙ ap (λ (u : List ℕ). sets u 0 (1 ∷ vs)) e ∙ sym (head_stored g target_laid no_entries vs (64 - length name) cells).cells

  -- ---- all new registers

  pub new_first : new_register f 0 ≡ register_count t a
  unfolding new_register phis_before
  new_first = omega (arith, register_count_law t a)

  pub new_next : (y : ℕ) → y < block_count t a → new_register f (suc y) ≡ new_register f y + length (phis_at f y)
  unfolding new_register
  new_next y l = omega (arith, phis_next f y (rw (block_count_law t a) l))

  pub new_all : new_register f (block_count t a) ≡ length g.registers
  unfolding new_register translated_registers
  new_all = rw (size_registers f, ← block_count_law t a) (ap (λ n. length f.registers + n) (phis_all f))

  pub new_within_all : (y : ℕ) → y < block_count t a → new_register f y + length (phis_at f y) ≤ length g.registers
  unfolding new_register translated_registers
  new_within_all y l = omega (arith, phis_fit f y (rw (block_count_law t a) l), size_registers f)

  pub new_most : (y n p : ℕ) → y < block_count t a → n ≡ new_register f y → p ≡ length (phis_at f y) → n + p ≤ 256
  new_most y n p l d e = omega (arith, new_within_all y l, target_laid.register_count)

  pub length_new : (y n : ℕ) (out : List ℕ) → y < block_count t a → n ≡ new_register f y → out ≡ declared t a n → length out ≡ table_length
  length_new y n out l d e = ap length e ∙ length_declared n (omega (arith, new_within_all y l))

-- ---- the stores of a head, one behind the other

pub head_stores : (t : List ℕ) (a registers blocks result entry : ℕ) (out second third last name : List ℕ) → result ≡ function_result t a → (params : ℕ) → params ≡ function_params t a
    → second ≡ sets (set (set (set out 0 1) 1 0) 2 result) 3 (two_bytes params) → third ≡ sets second 5 (two_bytes registers) → entry ≡ function_entry t a
    → name ≡ function_name t a → last ≡ sets (set (set third 7 blocks) 8 entry) 9 (length name ∷ name) → last ≡ sets out 0 (head_of t a registers blocks)
unfolding head_of
head_stores t a registers blocks result entry out second third last name er params ep h2 h3 ee en h4 =
    rw (← er, ← ep, ← ee, ← en)
    (h4 ∙ ap (λ (l : List ℕ). sets (set (set l 7 blocks) 8 entry) 9 (length name ∷ name)) (h3 ∙ ap (λ (l : List ℕ). sets l 5 (two_bytes registers)) h2))
