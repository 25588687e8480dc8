-- What the acts on the instruction in hand come to: the numbers of the draft after each, its cells and its names.
-- Assumes nothing.
use mathlib.Core.Bool.{Bool, true, false}
use mathlib.Core.Path.{◌≡◌, refl, sym, ap, ◌∙◌}
use mathlib.Core.List.{List, [], ◌∷◌, ◌++◌}
use Prim.Native.Nat.{ℕ, ◌+◌, ◌*◌, ◌%◌, ◌≤◌, ◌<◌}
use native.Mathlib.Nat.{mod-eq_of_lt}
use native.Mathlib.Omega.{arith}
use lib.Dec.{ltb, lit<}
use lib.ListN.{length, length-append}
use lib.Seq.{sets}
use borrow.Author.Tests.{lt-ltb, le-ltb}
use Rattle.language.specs.Instructions.{Operand, form_of, operand_of, load_type}
use Rattle.language.specs.Programs.{max_rows, max_entries}
use Rattle.language.specs.Table.{entries_offset, row_length, rows_offset}
use Rattle.language.specs.Reading.{Draft as Draftᴸ, Parts, ActOutcome, parts_of, with_parts, draft_rows, phi_entries, register_number, no_parts}
use Rattle.language.specs.Reading.{begin_instruction, set_target, set_instruction, add_source, add_entry, number_in_range, bits_of, set_number, end_instruction}
use Rattle.instructions.specs.Ranges.{beyond}
use Rattle.instructions.proofs.RangesLaws.{range_large}
use Rattle.drafts.specs.Mentions.{kept}
use Rattle.drafts.specs.Cells.{operand_cell, instruction_cells}
use Rattle.drafts.specs.State.{NumberOf, fault_at, Bounded, Counts, Stands, Lent, lent_of, ActsOn, ActsAlone, Always, NoParts, WholeRow, KeptAs, operand_at, row_at}
use Rattle.drafts.specs.declared.state.Draft.{Draft}
use Rattle.std.specs.Prelude.{Option, Some, Ok, Err}
use Rattle.answers.specs.declared.reasons.Reason.TheVariants as reasons
use Rattle.text_place.specs.declared.TextPlace.{TextPlace}
use Rattle.drafts.proofs.FirstTwo.{Firsts, Pushed, no_firsts}
use Rattle.drafts.proofs.InHand.{held, bounded, sources_in, mentions_in_law, counted, same_names}
use Rattle.drafts.proofs.PartsLaws.{rows_same, kept_same, entries_same, keeps_parts, entered, more_entered, adds_entry}
use Rattle.drafts.proofs.RowCells.{written, in_rows, in_rows_and_hand, more_rows, more_entries, kept_written, ends_instruction}
use Rattle.drafts.proofs.StateLaws.{Step, refusing, storing, changing}

-- ---- other parts, with the entries and mentions that were there

module _ {d : Draftᴸ} {s : Draft} (c : Counts d s) where
  pub counts_parts : (x : Parts) {op t l r k v : ℕ} → x.entries ≡ d.parts.entries → x.mentions ≡ d.parts.mentions → op ≡ x.op → t ≡ x.target
      → Firsts x.sources l r k → v ≡ x.number
      → Counts (with_parts d x)
      (held s s.blocks.rows s.blocks.entries s.blocks.names op t l r k v s.parts.entries s.parts.one s.parts.other s.parts.mentions)
  counts_parts x e m cop ct cs cv =
      counted c d.block x (rw (rows_same d x) c.blocks.rows) (rw (entries_same d x (ap length e)) c.blocks.entries) (rw (kept_same d x m) c.blocks.names) cop ct cs cv
      (rw e c.parts.entries) (rw (kept_same d x m, m) (mentions_in_law c))

  pub step_parts : {act : Draftᴸ → ActOutcome} {s' : Draft} {y : Lent} → Stands d s y → (x : Parts) → x.entries ≡ d.parts.entries → x.mentions ≡ d.parts.mentions
      → act d ≡ ActOutcome.proceed (with_parts d x) → Counts (with_parts d x) s' → Step act d s' 0 []
  step_parts h x e m is counts =
      record {
        draft = with_parts d x;
        steps = is;
        counts = counts;
        names = same_names d d.block x (kept_same d x m);
        stores = keeps_parts d x h.within e m;
      }

-- ---- an instruction begins

-- new parts stand for an instruction that has only its number and target so far
abbrev pub begun : Draft → (op target : ℕ) → Draft
begun s op t = held s s.blocks.rows s.blocks.entries s.blocks.names op t 0 0 0 0 0 0 0 0

bounded_begun : {s : Draft} → Bounded s → (op target : ℕ) → op < 256 → target < 256 → Bounded (begun s op target)
bounded_begun b op t small less =
    bounded b (omega arith) b.rows b.entries b.names small less (lit< tt) (lit< tt) (omega arith) (omega arith) (omega arith)

step_begun : {d : Draftᴸ} {s : Draft} {y : Lent} {act : Draftᴸ → ActOutcome} → Stands d s y → NoParts d → (op target : ℕ)
    → act d ≡ ActOutcome.proceed (with_parts d (parts_of op target [] 0 [] [])) → Step act d (begun s op target) 0 []
step_begun {d} {s} h free op t is =
    let x = parts_of op t [] 0 [] [] in
    let c = h.counts in
    step_parts c h x (sym free.0) (sym free.1) is
    (counted c d.block x (rw (rows_same d x) c.blocks.rows) (rw (entries_same d x (ap length (sym free.0))) c.blocks.entries)
    (rw (kept_same d x (sym free.1)) c.blocks.names) refl refl no_firsts refl refl no_firsts)

rows_in : {d : Draftᴸ} {s : Draft} {y : Lent} → Stands d s y → draft_rows d ≡ s.blocks.rows
unfolding draft_rows
rows_in h = sym h.counts.blocks.rows

module _ {s : Draft} (b : Bounded s) (p : TextPlace) where
  pub begin_refused : (op : ℕ) → max_rows ≤ s.blocks.rows → ActsAlone NoParts (begin_instruction op p.byte) s (Err (fault_at reasons.SizeExceeded p))
  unfolding begin_instruction
  begin_refused op full y = refusing reasons.SizeExceeded p (λ d h fit. rw (rows_in h, le-ltb s.blocks.rows max_rows full))

  pub begin_proceeds : (op : ℕ) → op < 256 → s.blocks.rows < max_rows → ActsAlone NoParts (begin_instruction op p.byte) s (Ok (begun s op 0))
  unfolding begin_instruction
  begin_proceeds op small room =
      changing (bounded_begun b op 0 small (lit< tt)) (λ d y h free. step_begun h free op 0 (rw (rows_in h, lt-ltb s.blocks.rows max_rows room)))

pub instruction_proceeds : {s : Draft} → Bounded s → (op : ℕ) → op < 256 → ActsAlone NoParts (set_instruction op) s (Ok (begun s op s.parts.target))
unfolding set_instruction
instruction_proceeds {s} b op small =
    changing (bounded_begun b op s.parts.target small b.target) (λ d y h free. step_begun h free op s.parts.target (rw (← h.counts.parts.target)))

-- ---- a name among the registers of the function in hand

module _ {s : Draft} (b : Bounded s) (name : List ℕ) (p : TextPlace) (f last before : List ℕ) where
  pub target_refused : max_rows ≤ s.blocks.rows → ActsOn NoParts (set_target name p.byte) s f last before (Err (fault_at reasons.SizeExceeded p)) f
  unfolding set_target
  target_refused full n m = refusing reasons.SizeExceeded p (λ d h fit. rw (rows_in h, le-ltb s.blocks.rows max_rows full))

  pub entry_refused : max_entries ≤ s.blocks.entries → ActsOn Always (add_entry name p.byte) s f last before (Err (fault_at reasons.SizeExceeded p)) f
  unfolding add_entry
  entry_refused full n m = refusing reasons.SizeExceeded p (λ d h fit. rw (← h.counts.blocks.entries, le-ltb s.blocks.entries max_entries full))

  module _ {r : ℕ} (is : NumberOf s f name r) where
    unknown : s.head.registers ≤ r → {d : Draftᴸ} {n m : List ℕ} → Stands d s (lent_of f n m last before)
        → ltb (register_number d.function.registers name) (length d.function.registers) ≡ false
    unknown out {d} {n} {m} h = rw (← is d n m last before h, ← h.counts.head.registers) (le-ltb r s.head.registers out)

    known : r < s.head.registers → {d : Draftᴸ} {n m : List ℕ} → Stands d s (lent_of f n m last before)
        → ltb (register_number d.function.registers name) (length d.function.registers) ≡ true
    known less {d} {n} {m} h = rw (← is d n m last before h, ← h.counts.head.registers) (lt-ltb r s.head.registers less)

    pub target_unknown : s.blocks.rows < max_rows → s.head.registers ≤ r → ActsOn NoParts (set_target name p.byte) s f last before (Err (fault_at reasons.NotDeclared p)) f
    unfolding set_target
    target_unknown room out n m = refusing reasons.NotDeclared p (λ d h fit. rw (rows_in h, lt-ltb s.blocks.rows max_rows room, unknown out h))

    pub target_proceeds : s.blocks.rows < max_rows → r < s.head.registers → ActsOn NoParts (set_target name p.byte) s f last before (Ok (begun s 0 r)) f
    unfolding set_target
    target_proceeds room less n m =
        storing 0 [] refl (bounded_begun b 0 r (lit< tt) (omega (arith, b.registers)))
        (λ d h free. step_begun h free 0 r (rw (rows_in h, lt-ltb s.blocks.rows max_rows room, known less h, ← is d n m last before h)))

    pub source_unknown : s.head.registers ≤ r → ActsOn Always (add_source name p.byte) s f last before (Err (fault_at reasons.NotDeclared p)) f
    unfolding add_source
    source_unknown out n m = refusing reasons.NotDeclared p (λ d h fit. rw (unknown out h))

    pub source_proceeds : r < s.head.registers → {l g k : ℕ} → Pushed r s.parts.left s.parts.right s.parts.sources l g k → l < 256 → g < 256
        → ActsOn Always (add_source name p.byte) s f last before
        (Ok
        (held s s.blocks.rows s.blocks.entries s.blocks.names s.parts.op s.parts.target l g k s.parts.number s.parts.entries s.parts.one s.parts.other
        s.parts.mentions))
        f
    unfolding add_source
    source_proceeds less push bl bg n m =
        storing 0 [] refl (bounded b (omega arith) b.rows b.entries b.names b.op b.target bl bg b.own b.one b.other)
        (λ d h fit.
        let c = h.counts in
        let x = d.parts in
        let y = parts_of x.op x.target (x.sources ++ (r ∷ [])) x.number x.entries x.mentions in
        step_parts c h y refl refl (rw (known less h, ← is d n m last before h))
        (counts_parts c y refl refl c.parts.op c.parts.target (push x.sources (sources_in c)) c.parts.number))

    pub entry_unknown : s.blocks.entries < max_entries → s.head.registers ≤ r → ActsOn Always (add_entry name p.byte) s f last before (Err (fault_at reasons.NotDeclared p)) f
    unfolding add_entry
    entry_unknown room out n m = refusing reasons.NotDeclared p (λ d h fit. rw (← h.counts.blocks.entries, lt-ltb s.blocks.entries max_entries room, unknown out h))

    pub entry_proceeds : s.blocks.entries < max_entries → r < s.head.registers → {f' : List ℕ} → f' ≡ sets f (entries_offset + s.blocks.entries) (r ∷ [])
        → ActsOn Always (add_entry name p.byte) s f last before
        (Ok
        (held s s.blocks.rows (s.blocks.entries + 1) s.blocks.names s.parts.op s.parts.target s.parts.left s.parts.right s.parts.sources s.parts.number
        (s.parts.entries + 1) s.parts.one s.parts.other s.parts.mentions))
        f'
    unfolding add_entry
    entry_proceeds room less e n m =
        storing (entries_offset + s.blocks.entries) (r ∷ []) e
        (bounded b (omega arith) b.rows (omega arith) b.names b.op b.target b.left b.right (omega (arith, b.own)) b.one b.other)
        (λ d h fit.
        let c = h.counts in
        let x = (entered d r).parts in
        let few : phi_entries d < max_entries = omega (arith, c.blocks.entries) in
        record {
          draft = entered d r;
          steps = rw (← c.blocks.entries, lt-ltb s.blocks.entries max_entries room, known less h, ← is d n m last before h);
          counts =
              counted c d.block x (rw (rows_same d x) c.blocks.rows) (omega (arith, more_entered d h.within r few, c.blocks.entries)) (rw (kept_same d x refl) c.blocks.names)
              c.parts.op c.parts.target (sources_in c) c.parts.number (omega (arith, length-append d.parts.entries (r ∷ []), c.parts.entries))
              (rw (kept_same d x refl) (mentions_in_law c));
          names = same_names d d.block x (kept_same d x refl);
          stores = adds_entry d h.within r few (omega (arith, c.blocks.entries));
        })

-- ---- a load's number

value_exact : {n v : ℕ} {m : Option ℕ} → KeptAs n m → m ≡ Some v → v ≡ n
value_exact {n} {v} KeptAs.exact e = sym cc
value_exact (KeptAs.large h) e = absurd cc

value_over : {n : ℕ} {m : Option ℕ} → KeptAs n m → ((v : ℕ) → m ≡ Some v → ⊥) → beyond ≤ n
value_over {n} KeptAs.exact e = absurd (e n refl)
value_over (KeptAs.large h) e = h

-- the low byte of the instruction's number is all of it
pub kind_known : {s : Draft} → Bounded s → {i k : ℕ} → i ≡ s.parts.op % 256 → k ≡ load_type i → k ≡ load_type s.parts.op
kind_known b low e = e ∙ ap load_type (low ∙ mod-eq_of_lt b.op)

module _ {s : Draft} (b : Bounded s) (neg : Bool) {m : Option ℕ} (p : TextPlace) (n : ℕ) (a : KeptAs n m) where
  pub number_over : ((v : ℕ) → m ≡ Some v → ⊥) → ActsAlone Always (set_number neg n p.byte) s (Err (fault_at reasons.NumberOutOfRange p))
  unfolding set_number
  number_over q y = refusing reasons.NumberOutOfRange p (λ d h fit. rw (range_large (load_type d.parts.op) neg n (value_over a q)))

  module _ {v k : ℕ} (e : m ≡ Some v) (kind : k ≡ load_type s.parts.op) where
    kind_is : {d : Draftᴸ} {y : Lent} → Stands d s y → k ≡ load_type d.parts.op
    kind_is h = kind ∙ ap load_type h.counts.parts.op

    pub number_refused : number_in_range k neg v ≡ false → ActsAlone Always (set_number neg n p.byte) s (Err (fault_at reasons.NumberOutOfRange p))
    unfolding set_number
    number_refused q y = refusing reasons.NumberOutOfRange p (λ d h fit. rw (← kind_is h, ← value_exact a e, q))

    pub number_proceeds : number_in_range k neg v ≡ true → {r : ℕ} → r ≡ bits_of k neg v
        → ActsAlone Always (set_number neg n p.byte) s
        (Ok
        (held s s.blocks.rows s.blocks.entries s.blocks.names s.parts.op s.parts.target s.parts.left s.parts.right s.parts.sources r s.parts.entries
        s.parts.one s.parts.other s.parts.mentions))
    unfolding set_number
    number_proceeds q {r} is =
        changing (bounded b (omega arith) b.rows b.entries b.names b.op b.target b.left b.right b.own b.one b.other)
        (λ d y h fit.
        let c = h.counts in
        let x = d.parts in
        let z = parts_of x.op x.target x.sources (bits_of (load_type x.op) neg n) x.entries x.mentions in
        let m : r ≡ bits_of (load_type x.op) neg n = is ∙ ap (λ (i : ℕ). bits_of k neg i) (value_exact a e) ∙ ap (λ (j : ℕ). bits_of j neg n) (kind_is h) in
        step_parts c h z refl refl (rw (← kind_is h, ← value_exact a e, q))
        (counts_parts c z refl refl c.parts.op c.parts.target (sources_in c) m))

-- ---- a row is put down

module _ {d : Draftᴸ} {s : Draft} (c : Counts d s) where
  operand_is : (o : Operand) → operand_at o s ≡ operand_cell o (kept d) (in_rows d) d.parts
  operand_is Operand.none = refl
  operand_is Operand.number = c.parts.number
  operand_is Operand.registers = omega (arith, in_rows_and_hand d, c.blocks.entries, c.parts.entries)
  operand_is Operand.block = c.parts.one
  operand_is Operand.blocks = rw (c.parts.one, c.parts.other)

  row_is : row_at s ≡ instruction_cells (kept d) (in_rows d) d.parts
  unfolding instruction_cells
  row_is = rw (operand_is (operand_of (form_of s.parts.op)), c.parts.op, c.parts.target, c.parts.left, c.parts.right)

  counts_written : WholeRow d → Counts (written d) (held s (s.blocks.rows + 1) s.blocks.entries s.blocks.names 0 0 0 0 0 0 0 0 0 0)
  counts_written whole =
      counted c (written d).block no_parts (rw (more_rows d) (simp length-append (omega (arith, c.blocks.rows)))) (rw (more_entries d whole) c.blocks.entries)
      (rw (kept_written d whole) c.blocks.names) refl refl no_firsts refl refl no_firsts

pub row_proceeds : {s : Draft} → Bounded s → s.blocks.rows < max_rows → (f last before : List ℕ) {f' : List ℕ}
    → f' ≡ sets f (rows_offset + row_length * s.blocks.rows) (row_at s)
    → ActsOn WholeRow end_instruction s f last before
    (Ok (held s (s.blocks.rows + 1) s.blocks.entries s.blocks.names 0 0 0 0 0 0 0 0 0 0)) f'
unfolding end_instruction
row_proceeds {s} b room f last before e n m =
    storing (rows_offset + row_length * s.blocks.rows) (row_at s) e
    (bounded b (omega arith) (omega arith) b.entries b.names (lit< tt) (lit< tt) (lit< tt) (lit< tt) (omega arith) (omega arith) (omega arith))
    (λ d h whole.
    let c = h.counts in
    record {
      draft = written d;
      steps = refl;
      counts = counts_written c whole;
      names = same_names d (written d).block no_parts (kept_written d whole);
      stores = rw (row_is c) (ends_instruction d whole h.within (omega (arith, c.blocks.rows)) (omega (arith, c.blocks.rows)));
    })
