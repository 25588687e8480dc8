-- A program that the check accepts fits its cells, so that decoding its cells gives it back.
-- Assumes nothing.
use mathlib.Core.Path.{◌≡◌, refl, sym, ◌∙◌, ap, subst⁻¹}
use mathlib.Core.Bool.{Bool, true, false, cond}
use mathlib.Core.List.{List, [], ◌∷◌, ◌++◌}
use mathlib.Core.Logic.{inl, inr}
use Prim.Native.Nat.{ℕ, zero, ◌*◌, ◌%◌, ◌^◌, ◌≤◌, ◌<◌}
use native.Mathlib.Nat.{lt_of_lt_of_le, mod-lt, zero-lt-suc}
use native.Mathlib.Omega.{arith}
use lib.Dec.{T, ltb, leb, ltb→lt, leb→le, eqb→eq, lit<, lit≤}
use lib.ListN.{length, get_or}
use lib.Pow.{pow_mono}
use lib.Ieee.Fits.{and_l, and_r}
use mir.Facts.{and_yes, or_yes}
use Rattle.laws.specs.Lists.{all, empty}
use Rattle.laws.specs.Sections.{Bytes}
use Rattle.laws.proofs.Every.{every_all, every_at, every_left, every_right}
use Rattle.language.specs.Instructions.{Form, form_of, form_number, width, load_type, instruction_count}
use Rattle.language.specs.Names.{spellable}
use Rattle.language.specs.Programs.{Row, Func, Program, no_register, no_block, no_function, rows_of, op_of, form_in, targets_of, sources_of, entries_of, max_functions}
use Rattle.language.specs.Checking.{Verdict, check, judge_from, shaped, in_range, number_fits, spellable_or_none}
use Rattle.theorems.specs.Statements.{AcceptedBack}
use Rattle.theorems.specs.TableLaw.{NameFits, RowFits, FunctionFits, Fits, Held, loaded_number}
use Rattle.theorems.proofs.AcceptanceCheck.{clean_of_check, Sound, sound_parts}
use Rattle.theorems.proofs.AcceptanceRows.{range_parts}
use Rattle.theorems.proofs.TableBytes.{bytes_under}
use Rattle.theorems.proofs.Table.{table}

-- ---- names

spellable_bytes : (n : List ℕ) → T (all (λ b. ltb b 256) n) → Bytes n
spellable_bytes [] h = tt
spellable_bytes (b ∷ n) h = let a = and_yes (ltb b 256) (all (λ b. ltb b 256) n) h in (ltb→lt b 256 a.0, spellable_bytes n a.1)

pub spellable_fits : (n : List ℕ) → T (spellable n) → NameFits n
unfolding spellable
spellable_fits n h =
    record { short = search (and_l, and_r, leb→le); bytes = spellable_bytes n (search (and_l, and_r)) }

none_fits : (n : List ℕ) → T (empty n) → NameFits n
none_fits [] h = record { short = lit≤ tt; bytes = tt }
none_fits (x ∷ n) h = absurd h

or_none_fits : (n : List ℕ) → T (spellable_or_none n) → NameFits n
unfolding spellable_or_none
or_none_fits n h = elim (or_yes (empty n) (spellable n) h) [ inl e ↦ none_fits n e | inr e ↦ spellable_fits n e ]

-- ---- rows

-- a form by its number
form_by : ℕ → Form
form_by n =
    get_or
    (Form.nop ∷ Form.load ∷ Form.unary ∷ Form.binary ∷ Form.phi ∷ Form.jump ∷ Form.branch ∷ Form.return ∷ Form.leave ∷ []) n Form.unknown

form_back : (x : Form) → form_by (form_number x) ≡ x
unfolding form_by
form_back Form.nop = refl
form_back Form.load = refl
form_back Form.unary = refl
form_back Form.binary = refl
form_back Form.phi = refl
form_back Form.jump = refl
form_back Form.branch = refl
form_back Form.return = refl
form_back Form.leave = refl
form_back Form.unknown = refl

pub same_form : (x y : Form) → form_number x ≡ form_number y → x ≡ y
same_form x y e = sym (form_back x) ∙ ap form_by e ∙ form_back y

pub width_most : (t : ℕ) → width t ≤ 64
unfolding width
width_most t = by (ltb t 8)
  where
    by : (c : Bool) → cond c (8 * 2 ^ (t % 4)) 64 ≤ 64
    by true =
        let h : t % 4 ≤ 3 = omega (arith, mod-lt t (zero-lt-suc 3)) in
        omega (arith, pow_mono h)
    by false = lit≤ tt

number_fits_law : (r : Row) → T (number_fits r) → loaded_number r < 2 ^ 64
number_fits_law Row.nop h = lit< tt
number_fits_law (Row.load op t n) h = lt_of_lt_of_le (ltb→lt n (2 ^ width (load_type op)) h) (pow_mono (width_most (load_type op)))
number_fits_law (Row.unary op t s) h = lit< tt
number_fits_law (Row.binary op t l r) h = lit< tt
number_fits_law (Row.phi t es) h = lit< tt
number_fits_law (Row.jump b) h = lit< tt
number_fits_law (Row.branch s x y) h = lit< tt
number_fits_law (Row.return s) h = lit< tt
number_fits_law Row.leave h = lit< tt
number_fits_law (Row.unknown op) h = lit< tt

row_fits : (f : Func) (r : Row) → Sound f → T (in_range f r) → RowFits r
unfolding shaped
row_fits f r s h =
    let q = range_parts f r h in
    let ts = targets_of r in
    let rest = sources_of r ++ entries_of r in
    let l = bytes_under {xs = rest} s.registers (every_right ts rest q.registers) in
    record {
      form = same_form (form_of (op_of r)) (form_in r) (eqb→eq _ _ (and_r (ltb (op_of r) instruction_count) _ q.shape));
      op = lt_of_lt_of_le (ltb→lt (op_of r) instruction_count (and_l (ltb (op_of r) instruction_count) _ q.shape)) (lit≤ tt);
      targets = bytes_under s.registers (every_left ts rest q.registers);
      sources = bytes_under s.registers (every_left (sources_of r) (entries_of r) (every_right ts rest q.registers));
      entries = bytes_under s.registers (every_right (sources_of r) (entries_of r) (every_right ts rest q.registers));
      blocks = bytes_under (omega (arith, s.blocks)) q.blocks;
      number = number_fits_law r q.number;
    }

-- ---- functions and programs

pub true_of : (b : Bool) → T b → b ≡ true
true_of true t = refl
true_of false t = absurd t

pub sound_fits : (f : Func) → Sound f → FunctionFits f
sound_fits f s =
    record {
      name = spellable_fits f.name s.name;
      ssa = omega (arith, s.mark);
      result = omega (arith, s.result);
      params = omega (arith, s.params, s.registers);
      entry = omega (arith, s.entry, s.blocks);
      placed = true_of f.placed s.placed;
      register_count = s.registers;
      block_count = s.blocks;
      row_count = s.rows;
      entry_count = s.entries;
      registers =
          λ r h.
          record {
            type = lt_of_lt_of_le (ltb→lt _ _ (every_at (every_all _ f.registers s.types) no_register r h)) (lit≤ tt);
            name = or_none_fits _ (every_at (every_all _ f.registers s.register_names) no_register r h);
          };
      block_names = λ b h. or_none_fits _ (every_at (every_all _ f.blocks s.block_names) no_block b h);
      rows = λ r h. row_fits f _ s (every_at (every_all _ (rows_of f) s.ranges) Row.nop r h);
    }

pub accepted_fits : (p : Program) → check p ≡ Verdict.accepted → Fits p
unfolding check
accepted_fits p e =
    record {
      function_count = count (leb (length p) max_functions) refl e;
      functions = λ i h. sound_fits (get_or p i no_function) (sound_parts [] (get_or p i no_function) (clean_of_check p i e h).head);
    }
  where
    count : (b : Bool) → leb (length p) max_functions ≡ b → cond b (judge_from [] zero p) (Verdict.refused 9 0) ≡ Verdict.accepted → length p ≤ max_functions
    count true l e = leb→le (length p) max_functions (subst⁻¹ (λ (c : Bool). T c) l tt)
    count false l e = let z : ◌≡◌ {A = ℕ} 0 1 = cc in absurd (omega arith)

pub accepted_held : (p : Program) → check p ≡ Verdict.accepted → Held p
accepted_held p e = table p (accepted_fits p e)

pub accepted_back : AcceptedBack
accepted_back p e = (accepted_held p e).back
