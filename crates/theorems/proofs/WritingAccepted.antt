-- The text of an accepted program is read as that program with the made names filled in: such a program is accepted, and all its names are there.
-- Assumes nothing.
use mathlib.Core.Bool.{Bool, true, false, not, ◌&&◌, ◌||◌, true≢false}
use mathlib.Core.List.{List, [], ◌∷◌, ◌++◌, map}
use mathlib.Core.Path.{◌≡◌, sym, ◌∙◌, ap, subst}
use Prim.Native.Nat.{ℕ, ◌<◌}
use native.Mathlib.Omega.{arith}
use lib.Dec.{T, eqb, ltb, ltb→lt, eqb→eq}
use lib.ListN.{length, get_or, take, length-map, get_or-map}
use lib.Ieee.Fits.{and_l, and_r}
use lib.Seq.{length-take-le, get_or-take}
use Rattle.laws.specs.Lists.{any, empty, same, gather}
use Rattle.laws.proofs.Every.{Every, every_all, every_imp, every_at, every_of, every_left, every_right, every_gather, every_unmap}
use Rattle.laws.proofs.Indexing.{any_at}
use Rattle.laws.proofs.Positions.{same_is}
use Rattle.language.specs.Instructions.{form_of, form_number, type_count, instruction_count}
use Rattle.language.specs.Programs.{Row, Func, Program, no_register, no_block, no_function, function_in, block_at, rows_at, rows_of, entry_count, op_of, form_in, targets_of, sources_of, entries_of, named_by, is_phi}
use Rattle.language.specs.Checking.{Verdict, check, shaped, in_range, spellable_or_none, predecessors, spot_at, breaks15}
use Rattle.language.specs.MadeNames.{named, written}
use Rattle.theorems.specs.Clean.{Clean}
use Rattle.theorems.specs.Accepted.{names_before}
use Rattle.theorems.specs.RoundTrip.{TokensFound, ReadsBack}
use Rattle.theorems.proofs.Judged.{accepted_each}
use Rattle.theorems.proofs.AcceptanceCheck.{clean_of_check, sound_of_check, Sound, sound_parts, sound_apart, passes_each}
use Rattle.theorems.proofs.AcceptanceRows.{Source, source_rows, range_parts}
use Rattle.theorems.proofs.TableSound.{same_form, true_of}
use Rattle.theorems.proofs.WritingDeclared.{Apart, apart_at}
use Rattle.theorems.proofs.WritingHeads.{name_of, function_name}
use Rattle.theorems.proofs.WritingRows.{RowReady}
use Rattle.theorems.proofs.WritingBlocks.{block_name, BlockReady}
use Rattle.theorems.proofs.WritingRead.{FunctionReady, ProgramReady, program_found, program_read}
use Rattle.theorems.proofs.WritingNamed.{AllNamed, all_named, no_bytes_none, still_accepted}

-- ---- a function

module _ (f : Func) (c : Clean f) (n : AllNamed f) where
  s : Sound f
  s = sound_parts [] f c.head

  row_ready : (y : ℕ) (r : Row) → Source f y r → (T (is_phi r) → 0 < length (entries_of r)) → RowReady f r
  unfolding shaped
  row_ready y r h some =
      let k = h.range in
      let rest = every_right (targets_of r) (sources_of r ++ entries_of r) k.registers in
      record {
        form = same_form (form_of (op_of r)) (form_in r) (eqb→eq _ _ (and_r (ltb (op_of r) instruction_count) _ k.shape));
        op = ltb→lt (op_of r) instruction_count (and_l (ltb (op_of r) instruction_count) (eqb (form_number (form_of (op_of r))) (form_number (form_in r))) k.shape);
        targets = every_left (targets_of r) (sources_of r ++ entries_of r) k.registers;
        sources = every_left (sources_of r) (entries_of r) rest;
        entries = every_right (sources_of r) (entries_of r) rest;
        number = k.number;
        some = some;
      }

  phi_some : (b j : ℕ) → j < length (rows_at f b) → T (is_phi (spot_at f b j).row) → 0 < length (entries_of (spot_at f b j).row)
  unfolding breaks15
  phi_some b j l t =
      let r = (spot_at f b j).row in
      by (is_phi r) t (entries_of r) (passes_each f (spot_at f b j) (c.rows b j l) 15 tt)
    where
      by : (p : Bool) → T p → (es : List ℕ) → (p && (empty es || not (eqb (length es) (length (predecessors f b))))) ≡ false → 0 < length es
      by true t [] e = absurd (true≢false e)
      by true t (x ∷ es) e = omega arith
      by false t es e = absurd t

  block_ready : (b : ℕ) → b < length f.blocks → BlockReady f (block_at f b)
  block_ready b l =
      record {
        rows =
            every_of Row.nop (rows_at f b)
            (λ j h. row_ready b (get_or (rows_at f b) j Row.nop) (every_at (source_rows f c b) Row.nop j h) (phi_some b j h));
        some = c.filled b l;
      }

  named_blocks : Every (λ b. b < length f.blocks) (gather named_by (rows_of f))
  named_blocks = every_gather named_by (every_imp (λ r h. (range_parts f r h).blocks) (every_all (in_range f) (rows_of f) s.ranges))

  registers_declared : Apart name_of [] f.registers
  registers_declared =
      apart_at name_of f.registers no_register
      (λ i j l m e.
      n.registers i j l (rw length-map m)
      (get_or-map name_of f.registers i no_register ∙ e ∙ sym (get_or-map name_of f.registers j no_register)))

  function_ready : FunctionReady f
  unfolding rows_of entry_count
  function_ready =
      record {
        name = s.name;
        placed = true_of f.placed s.placed;
        ssa = s.mark;
        result = s.result;
        params = s.params;
        register_count = s.registers;
        types = every_imp (λ r h. ltb→lt r.type type_count h) (every_all (λ r. ltb r.type type_count) f.registers s.types);
        register_names = every_unmap name_of f.registers n.all_spellable;
        registers = registers_declared;
        block_names = every_all (λ b. spellable_or_none b.name) f.blocks s.block_names;
        blocks = every_of no_block f.blocks block_ready;
        rooms =
            record {
              blocks = omega (arith, s.blocks);
              rows = omega (arith, s.rows);
              entries = omega (arith, s.entries);
              names = apart_at (λ n. n) (map block_name f.blocks) [] n.blocks;
            };
        entry = s.entry;
        unnamed = no_bytes_none (block_at f f.entry).name s.unnamed;
        named = named_blocks;
      }

-- ---- a program

-- each function's name is its own
functions_declared : (p : Program) → check p ≡ Verdict.accepted → Apart function_name [] p
functions_declared p e =
    apart_at function_name p no_function
    (λ i j l m d.
    let before = names_before p j in
    let count : length before ≡ j = length-map (take j p) function_name ∙ length-take-le j p (omega arith) in
    let at : get_or before i [] ≡ (function_in p i).name = get_or-map function_name (take j p) i no_function ∙ ap function_name (get_or-take j p i no_function l) in
    let clash : any (same (function_in p j).name) before ≡ true =
    any_at (same (function_in p j).name) before i [] (omega (arith, count)) (same_is (function_in p j).name (get_or before i []) (sym (at ∙ d))) in
    absurd (subst (λ (b : Bool). T (not b)) clash (sound_apart before (function_in p j) (sound_of_check p j e m))))

program_ready : (p : Program) → check p ≡ Verdict.accepted → Every AllNamed p → ProgramReady p
program_ready p e n =
    record {
      functions = every_of no_function p (λ i l. function_ready (function_in p i) (clean_of_check p i e l) (every_at n no_function i l));
      names = functions_declared p e;
      count = (accepted_each p e).0;
    }

pub named_ready : (p : Program) → check p ≡ Verdict.accepted → ProgramReady (named p)
named_ready p e = program_ready (named p) (still_accepted p e) (all_named p e)

-- ---- the text

pub tokens_found : TokensFound
unfolding written
tokens_found p e = program_found (named p) (named_ready p e)

pub reads_back : ReadsBack
unfolding written
reads_back p e h = program_read (named p) (named_ready p e) h
