-- The numbers after an act stand for the draft after it: what an act of the code has to show, and what a name looked for among the cells is.
-- Assumes nothing.
use mathlib.Core.Path.{◌≡◌, refl, sym, ap, ◌∙◌}
use mathlib.Core.List.{List, [], ◌∷◌, ◌++◌, map, map-append}
use Prim.Native.Nat.{ℕ, ◌+◌, ◌*◌, ◌<◌}
use native.Mathlib.Nat.{zero-add}
use native.Mathlib.Omega.{arith}
use lib.ListN.{length, get_or, length-append, length-map, get_or-append}
use lib.Seq.{sets, length-sets}
use Rattle.laws.specs.Lists.{same}
use Rattle.laws.proofs.Indexing.{get_d_map}
use Rattle.laws.proofs.Positions.{position_of_from}
use Rattle.laws.proofs.Ranges.{map_from_same}
use Rattle.laws.proofs.Sums.{map_get_or}
use Rattle.table.specs.Named.{first_named, is_named}
use Rattle.name_index.specs.Chains.{Indexed}
use Rattle.name_index.specs.Names.{names_in}
use Rattle.language.specs.Programs.{Register, Func, no_function, no_register}
use Rattle.language.specs.Table.{name_at, name_length, block_length, block_names_offset, function_length, register_length, register_names_offset}
use Rattle.language.specs.Reading.{Draft as Draftᴸ, ActOutcome, no_open_block, function_number, register_number, block_number}
use Rattle.drafts.specs.Cells.{Stores, open_cells}
use Rattle.drafts.specs.Mentions.{kept}
use Rattle.drafts.specs.State.{fault_at, Bounded, Counts, Lent, lent_of, NamesHeld, function_names, draft_names, Pending, CellsIndexed, Stands, Comes, Acts}
use Rattle.drafts.specs.declared.state.Draft.{Draft}
use Rattle.std.specs.Prelude.{Ok, Err}
use Rattle.answers.specs.declared.reasons.Reason.{Reason}
use Rattle.answers.specs.Reasons.{reason_number}
use Rattle.text_place.specs.declared.TextPlace.{TextPlace}
use Rattle.drafts.proofs.CellNames.{register_name_back, block_name_back}
use Rattle.drafts.proofs.Sections.{length_open_cells}

-- ---- acts

abbrev pub register_names : Draftᴸ → List (List ℕ)
register_names d = map (λ r. r.name) d.function.registers

-- An act that takes d to d' leaves the names as they are: those of the functions, of the registers, and of blocks mentioned.
pub record SameNames (d d' : Draftᴸ) : Type 0 where
  pub functions : draft_names d' ≡ draft_names d
  pub registers : register_names d' ≡ register_names d
  pub mentions : kept d' ≡ kept d

-- The definition's act takes d to a draft that has the numbers of s and the same names, with vs stored from cell k on.
pub record Step (act : Draftᴸ → ActOutcome) (d : Draftᴸ) (s : Draft) (k : ℕ) (vs : List ℕ) : Type 0 where
  pub draft : Draftᴸ
  pub steps : act d ≡ ActOutcome.proceed draft
  pub counts : Counts draft s
  pub names : SameNames d draft
  pub stores : Stores d draft k vs

-- what is lent after the store of an act, whose names are held
pub stored : {d d' : Draftᴸ} {s s' : Draft} {x x' : Lent} {k : ℕ} {vs : List ℕ} → Stands d s x → Stores d d' k vs → x'.cells ≡ sets x.cells k vs
    → Counts d' s' → NamesHeld (draft_names d') x'.names → Pending (kept d') x'.pending → Indexed (register_names d') x'.last x'.before
    → Stands d' s' x'
stored {k = k} {vs} h st e c n m i =
    record {
      counts = c;
      within = st.within;
      cells = e ∙ ap (λ (l : List ℕ). sets l k vs) h.cells ∙ sym st.cells;
      names = n;
      pending = m;
      indexed = i;
    }

pub proceeding : {x : Lent} {o : ActOutcome} {d : Draftᴸ} {s : Draft} → o ≡ ActOutcome.proceed d → Stands d s x → Comes x o (Ok s)
proceeding {d = d} {s} e h = rw e (Comes.proceeds d s h)

module _ {Fit : Draftᴸ → Type 0} {act : Draftᴸ → ActOutcome} {s : Draft} where
  pub refusing : {x : Lent} (r : Reason) (p : TextPlace) → ((d : Draftᴸ) → Stands d s x → Fit d → act d ≡ ActOutcome.refuse (reason_number r) p.byte) → Acts Fit act s x (Err (fault_at r p)) x
  refusing r p same = record { kept = tt; whole = λ w. w; meaning = λ d h fit. rw (same d h fit) (Comes.refuses (fault_at r p)) }

  -- an act that stores among the cells and keeps all names
  pub storing : {s' : Draft} {f f' n m l b : List ℕ} (k : ℕ) (vs : List ℕ) → f' ≡ sets f k vs → Bounded s'
      → ((d : Draftᴸ) → Stands d s (lent_of f n m l b) → Fit d → Step act d s' k vs)
      → Acts Fit act s (lent_of f n m l b) (Ok s') (lent_of f' n m l b)
  storing {f = f} {n = n} {m} {l} {b} k vs e bounds step =
      record {
        kept = bounds;
        whole =
            λ w.
            record {
              cells = ap length e ∙ length-sets f k vs ∙ w.cells;
              names = w.names;
              pending = w.pending;
              last = w.last;
              before = w.before;
            };
        meaning =
            λ d h fit.
            let y = step d h fit in
            let z = y.names in
            proceeding y.steps
            (stored h y.stores e y.counts (rw z.functions h.names) (rw z.mentions h.pending) (rw z.registers h.indexed));
      }

  -- an act that changes numbers alone
  pub changing : {s' : Draft} → Bounded s' → ((d : Draftᴸ) (x : Lent) → Stands d s x → Fit d → Step act d s' 0 []) → (x : Lent) → Acts Fit act s x (Ok s') x
  changing bounds step x = storing 0 [] refl bounds (λ d h fit. step d x h fit)

-- ---- names looked for

module _ {d : Draftᴸ} {s : Draft} {x : Lent} (h : Stands d s x) where
  -- the name of a function closed stands where that of its number does
  function_name_at : (i : ℕ) → i < length d.functions → name_at x.names (0 + name_length * (0 + i)) ≡ (get_or d.functions i no_function).name
  function_name_at i b =
      let fs = d.functions in
      let at : 0 + name_length * (0 + i) ≡ name_length * i = omega arith in
      let short : i < length (function_names fs) = omega (arith, length-map fs (λ (f : Func). f.name)) in
      ap (name_at x.names) at
      ∙ (h.names.held i (omega (arith, length-append (function_names fs) (d.function.name ∷ [])))).0
      ∙ get_or-append (function_names fs) (d.function.name ∷ []) [] i short
      ∙ get_d_map (λ (f : Func). f.name) fs i no_function [] b

  pub function_found : (n : List ℕ) → first_named x.names 0 name_length s.functions n ≡ function_number d.functions n
  unfolding first_named function_number
  function_found n =
      rw h.counts.functions
      (position_of_from (λ f. same f.name n) (is_named x.names 0 name_length n) no_function 0 d.functions
      (λ i b. ap (λ (m : List ℕ). same m n) (function_name_at i b)))

  -- a function that is closed keeps its name
  pub names_closed : (g : Func) → g.name ≡ d.function.name → NamesHeld (function_names (d.functions ++ (g ∷ []))) x.names
  names_closed g e = rw (map-append (λ (f : Func). f.name) d.functions (g ∷ []), e) h.names

  name_at_law : (i : ℕ) → i < length d.function.registers → name_at x.cells (register_names_offset + register_length * (0 + i)) ≡ (get_or d.function.registers i no_register).name
  name_at_law i b = rw h.cells (register_name_back d h.within i b (omega arith))

  pub register_found : (n : List ℕ) → first_named x.cells register_names_offset register_length s.head.registers n ≡ register_number d.function.registers n
  unfolding first_named register_number
  register_found n =
      rw h.counts.head.registers
      (position_of_from (λ r. same r.name n) (is_named x.cells register_names_offset register_length n) no_register 0 d.function.registers
      (λ i b. ap (λ (m : List ℕ). same m n) (name_at_law i b)))

  pub block_found : (n : List ℕ) → first_named x.cells block_names_offset block_length s.blocks.closed n ≡ block_number d.blocks n
  unfolding first_named block_number
  block_found n =
      rw (h.cells, h.counts.blocks.closed)
      (position_of_from (λ b. same b.name n) (is_named (open_cells d) block_names_offset block_length n) no_open_block 0 d.blocks
      (λ i b. ap (λ (m : List ℕ). same m n) (block_name_back d h.within i b (omega arith))))

  -- the names of registers among the cells are those of the draft, and so they are in the chains
  pub names_back : names_in x.cells register_names_offset register_length s.head.registers ≡ register_names d
  unfolding names_in
  names_back =
      let rs = d.function.registers in
      rw h.counts.head.registers
      (map_from_same (λ i. name_at x.cells (register_names_offset + register_length * i)) (λ i. (get_or rs i no_register).name) 0 (length rs)
      (λ i b. name_at_law i b ∙ ap (λ (j : ℕ). (get_or rs j no_register).name) (sym (zero-add i)))
      ∙ map_get_or (λ (r : Register). r.name) no_register rs)

  pub cells_indexed : CellsIndexed s x.cells x.last x.before
  cells_indexed = rw names_back h.indexed

  pub length_lent : length x.cells ≡ function_length
  length_lent = rw h.cells (length_open_cells d h.within)
