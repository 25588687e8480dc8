-- The blocks of a clean function's translation: each row is in range and typed, and a terminator ends each block.
-- Assumes nothing.
use mathlib.Core.Path.{◌≡◌, refl, sym, ap, ◌∙◌}
use mathlib.Core.Bool.{Bool, true, false, not}
use mathlib.Core.List.{List, [], ◌∷◌, ◌++◌, map, append_assoc, map-append}
use Prim.Native.Nat.{ℕ, ◌+◌, ◌<◌}
use borrow.Author.Tests.{eq-eqb}
use lib.Dec.{T, eqb}
use lib.Ieee.Bits.{is_false}
use lib.ListN.{length, get_or}
use Rattle.laws.specs.Lists.{gather, together, from, below, member}
use Rattle.laws.proofs.Tests.{of_true}
use Rattle.laws.proofs.Every.{Every, none, more, every_append, every_at, every_imp, every_passes, every_both, every_map, every_keep, every_gather, every_numbered, every_below, every_member}
use Rattle.language.specs.Instructions.{form_of}
use Rattle.language.specs.Programs.{Row, Block, Func, rows_at, type_at, is_phi, is_terminator, targets_of, sources_of, entries_of, named_by, has_phi}
use Rattle.language.specs.Checking.{goes_to, predecessors, shaped, number_fits, typed}
use Rattle.language.specs.Running.{phis_of, phi_target, entry_at}
use Rattle.language.specs.Translating.{kept_of, phi_blocks, new_register, retargeted, retarget, copy_row, edge_rows, edges_to, kept_block, translation}
use Rattle.theorems.specs.Clean.{Clean}
use Rattle.theorems.proofs.AcceptanceRows.{names_last, kept_split, InRange, Ended, ended_last, Source, source_rows, source_ended, source_phis}
use Rattle.theorems.proofs.AcceptanceNumbers.{kept_lt, new_lt, type_new, block_lt, retargeted_lt}
use Rattle.theorems.proofs.SimulationBlocks.{type_kept}

-- A row that breaks neither 9 nor 11.
pub record Fine (t : Func) (r : Row) : Type 0 where
  pub range : InRange t r
  pub types : T (typed t r)

-- ---- kept rows

-- All that `retarget` keeps of a row.
abbrev kept : Row → Bool × List ℕ × Bool × Bool × Bool
kept r = (shaped r, targets_of r ++ (sources_of r ++ entries_of r), number_fits r, is_terminator r, is_phi r)

module _ (f : Func) (x : ℕ) where
  retarget_keeps : (r : Row) → kept (retarget f x r) ≡ kept r
  unfolding retarget shaped
  retarget_keeps Row.nop = refl
  retarget_keeps (Row.load op t n) = refl
  retarget_keeps (Row.unary op t s) = refl
  retarget_keeps (Row.binary op t l r) = refl
  retarget_keeps (Row.phi t es) = refl
  retarget_keeps (Row.jump b) = refl
  retarget_keeps (Row.branch s y z) = refl
  retarget_keeps (Row.return s) = refl
  retarget_keeps Row.leave = refl
  retarget_keeps (Row.unknown op) = refl

  retarget_names : (r : Row) → named_by (retarget f x r) ≡ map (retargeted f x) (named_by r)
  unfolding retarget
  retarget_names Row.nop = refl
  retarget_names (Row.load op t n) = refl
  retarget_names (Row.unary op t s) = refl
  retarget_names (Row.binary op t l r) = refl
  retarget_names (Row.phi t es) = refl
  retarget_names (Row.jump b) = refl
  retarget_names (Row.branch s y z) = refl
  retarget_names (Row.return s) = refl
  retarget_names Row.leave = refl
  retarget_names (Row.unknown op) = refl

  result_kept : (translation f).result ≡ f.result
  unfolding translation
  result_kept = refl

  retarget_typed :
      (r : Row)
      → Every (λ u. u < length f.registers) (targets_of r ++ (sources_of r ++ entries_of r))
      → T (not (is_phi r))
      → T (typed f r)
      → T (typed (translation f) (retarget f x r))
  unfolding retarget typed
  retarget_typed Row.nop k p h = tt
  retarget_typed (Row.load op t n) (more a none) p h = rw (type_kept f t a) h
  retarget_typed (Row.unary op t s) (more a (more b none)) p h = rw (type_kept f t a, type_kept f s b) h
  retarget_typed (Row.binary op t l r) (more a (more b (more c none))) p h =
      rw (type_kept f t a, type_kept f l b, type_kept f r c) h
  retarget_typed (Row.phi t es) k p h = absurd p
  retarget_typed (Row.jump b) k p h = tt
  retarget_typed (Row.branch s y z) (more a none) p h = rw (type_kept f s a) h
  retarget_typed (Row.return s) (more a none) p h = rw (type_kept f s a, result_kept) h
  retarget_typed Row.leave k p h = rw result_kept h
  retarget_typed (Row.unknown op) k p h = tt

  retarget_terminates : (r : Row) → is_terminator (retarget f x r) ≡ is_terminator r
  retarget_terminates r = ap (λ k. k.3) (retarget_keeps r)

  retarget_phi : (r : Row) → is_phi (retarget f x r) ≡ is_phi r
  retarget_phi r = ap (λ k. k.4) (retarget_keeps r)

-- A row of block x that is kept: it is no phi, and names only targets of x.
record KeptRow (f : Func) (x : ℕ) (r : Row) : Type 0 where
  plain : T (not (is_phi r))
  source : Source f x r
  targets : Every (λ y. goes_to f x y ≡ true) (named_by r)

module _ (f : Func) (x : ℕ) (l : x < length f.blocks) where
  kept_fine : (r : Row) → KeptRow f x r → Fine (translation f) (retarget f x r)
  kept_fine r k =
      let same = retarget_keeps f x r in
      let range = k.source.range in
      record {
        range = record {
          shape = rw (ap (λ k. k.0) same) range.shape;
          registers = rw (ap (λ k. k.1) same) (every_imp (kept_lt f) range.registers);
          blocks =
              rw retarget_names
              (every_map (retargeted f x) (λ y k. retargeted_lt f x y l k.0 k.1) (every_both range.blocks k.targets));
          number = rw (ap (λ k. k.2) same) range.number;
        };
        types = retarget_typed f x r range.registers k.plain k.source.types;
      }

  -- A block's rows name only its targets: its terminator is its last row.
  names_targets : Ended (rows_at f x) → Every (λ r. Every (λ y. goes_to f x y ≡ true) (named_by r)) (rows_at f x)
  unfolding goes_to
  names_targets e =
      names_last (rows_at f x) e
      (every_imp (λ y m. ap (λ r. member y (named_by r)) (ended_last (rows_at f x) e) ∙ m) (every_member (named_by e.last)))

  kept_rows : Clean f → Every (Fine (translation f)) (map (retarget f x) (kept_of (rows_at f x)))
  unfolding kept_of
  kept_rows c =
      every_map (retarget f x) kept_fine
      (every_keep (λ r. not (is_phi r)) (λ r h k. record { plain = h; source = k.0; targets = k.1 })
      (every_both (source_rows f c x) (names_targets (source_ended f c x l))))

  -- A block without its phi ends as it did.
  kept_ended : Ended (rows_at f x) → Ended (map (retarget f x) (kept_of (rows_at f x)))
  unfolding kept_of
  kept_ended e =
      record {
        body = map (retarget f x) (kept_of e.body);
        last = retarget f x e.last;
        split =
            ap (map (retarget f x)) (kept_split (rows_at f x) e) ∙ map-append (retarget f x) (kept_of e.body) (e.last ∷ []);
        plain =
            every_map (retarget f x) (λ r q. retarget_terminates f x r ∙ q)
            (every_keep (λ r. not (is_phi r)) (λ r h q. q) e.plain);
        ends = retarget_terminates f x e.last ∙ e.ends;
      }

-- ---- an edge block

-- `copy` between registers of one type, and the jump to the phi block.
copy_fine :
    (t : Func) (a s : ℕ)
    → a < length t.registers
    → s < length t.registers
    → type_at t a ≡ type_at t s
    → Fine t (copy_row a s)
unfolding shaped form_of typed
copy_fine t a s p q e =
    record {
      range = record { shape = tt; registers = more p (more q none); blocks = none; number = tt };
      types = of_true (eqb (type_at t a) (type_at t s)) (eq-eqb (type_at t a) (type_at t s) e);
    }

jump_fine : (t : Func) (y : ℕ) → y < length t.blocks → Fine t (Row.jump y)
unfolding shaped form_of typed
jump_fine t y l = record { range = record { shape = tt; registers = none; blocks = more l none; number = tt }; types = tt }

-- The edge block of the k-th predecessor of block y.
module _ (f : Func) (c : Clean f) (y : ℕ) (l : y < length f.blocks) (k : ℕ) (q : k < length (predecessors f y)) where
  entry_copied :
      (i : ℕ)
      → i < length (phis_of (rows_at f y))
      → Fine (translation f) (copy_row (new_register f y + i) (entry_at k (get_or (phis_of (rows_at f y)) i Row.nop)))
  entry_copied i m =
      let r = get_or (phis_of (rows_at f y)) i Row.nop in
      let p = every_at (source_phis f c y) Row.nop i m in
      let j : k < length (entries_of r) = rw p.count q in
      let e = every_at p.entries 0 k j in
      copy_fine (translation f) (new_register f y + i) (entry_at k r) (new_lt f y l i m) (kept_lt f (entry_at k r) e)
      (type_new f y l i m ∙ sym (type_kept f (entry_at k r) e ∙ every_at p.types 0 k j))

  target_copied :
      (i : ℕ)
      → i < length (phis_of (rows_at f y))
      → Fine (translation f) (copy_row (phi_target (get_or (phis_of (rows_at f y)) i Row.nop)) (new_register f y + i))
  target_copied i m =
      let r = get_or (phis_of (rows_at f y)) i Row.nop in
      let p = every_at (source_phis f c y) Row.nop i m in
      copy_fine (translation f) (phi_target r) (new_register f y + i) (kept_lt f (phi_target r) p.target) (new_lt f y l i m)
      (type_kept f (phi_target r) p.target ∙ sym (type_new f y l i m))

  edge_rows_law : Every (Fine (translation f)) (edge_rows (new_register f y) k y (phis_of (rows_at f y)))
  unfolding edge_rows
  edge_rows_law =
      let n = new_register f y in
      let phis = phis_of (rows_at f y) in
      every_append (every_numbered (λ m r. copy_row m (entry_at k r)) Row.nop n phis entry_copied)
      (every_append (every_numbered (λ m r. copy_row (phi_target r) m) Row.nop n phis target_copied)
      (more (jump_fine (translation f) y (block_lt f y l)) none))

edge_ended : (n k y : ℕ) (phis : List Row) → Ended (edge_rows n k y phis)
unfolding edge_rows
edge_ended n k y phis =
    let first = together (λ m r. copy_row m (entry_at k r)) (from n (length phis)) phis in
    let second = together (λ m r. copy_row (phi_target r) m) (from n (length phis)) phis in
    record {
      body = first ++ second;
      last = Row.jump y;
      split = sym (append_assoc first second (Row.jump y ∷ []));
      plain =
          every_append (every_numbered (λ m r. copy_row m (entry_at k r)) Row.nop n phis (λ i l. refl))
          (every_numbered (λ m r. copy_row (phi_target r) m) Row.nop n phis (λ i l. refl));
      ends = refl;
    }

-- ---- every block

-- The block for the k-th predecessor of block y.
abbrev pub edge_block : Func → ℕ → ℕ → Block
edge_block f y k = record { name = []; rows = edge_rows (new_register f y) k y (phis_of (rows_at f y)) }

-- What holds of every kept block and of every edge block holds of every block of the translation.
module _ {P : Block → Type 0} (f : Func) where
  every_kept_block :
      ((x : ℕ) → x < length f.blocks → P (kept_block f x))
      → Every P (map (kept_block f) (below (length f.blocks)))
  every_kept_block g = every_map (kept_block f) g (every_below (length f.blocks) (λ x l. l))

  pub every_edge :
      ((y k : ℕ) → y < length f.blocks → k < length (predecessors f y) → P (edge_block f y k))
      → Every P (gather (edges_to f) (phi_blocks f))
  unfolding edges_to phi_blocks
  every_edge h =
      every_gather (edges_to f)
      (every_keep (has_phi f)
      (λ y i l. every_map (edge_block f y) (λ k. h y k l) (every_below (length (predecessors f y)) (λ k q. q)))
      (every_below (length f.blocks) (λ y l. l)))

  pub every_block :
      ((x : ℕ) → x < length f.blocks → P (kept_block f x))
      → ((y k : ℕ) → y < length f.blocks → k < length (predecessors f y) → P (edge_block f y k))
      → Every P (translation f).blocks
  unfolding translation
  every_block g h = every_append (every_kept_block g) (every_edge h)

-- A block whose rows are in range and typed, with a terminator at its end alone.
pub record FineBlock (t : Func) (b : Block) : Type 0 where
  pub rows : Every (Fine t) b.rows
  pub ended : Ended b.rows

pub blocks_fine : (f : Func) → Clean f → Every (FineBlock (translation f)) (translation f).blocks
unfolding kept_block
blocks_fine f c =
    every_block f (λ x l. record { rows = kept_rows f x l c; ended = kept_ended f x l (source_ended f c x l) })
    (λ y k l q. record { rows = edge_rows_law f c y l k q; ended = edge_ended (new_register f y) k y (phis_of (rows_at f y)) })

-- No row of the translation is a phi, whatever the function.
pub rows_plain : (f : Func) → Every (λ b. Every (λ r. is_phi r ≡ false) b.rows) (translation f).blocks
unfolding kept_block kept_of edge_rows
rows_plain f =
    every_block f
    (λ x l.
    every_map (retarget f x) (λ r h. retarget_phi f x r ∙ is_false (is_phi r) h)
    (every_passes (λ r. not (is_phi r)) (rows_at f x)))
    (λ y k l q.
    let n = new_register f y in
    let phis = phis_of (rows_at f y) in
    every_append (every_numbered (λ m r. copy_row m (entry_at k r)) Row.nop n phis (λ i m. refl))
    (every_append (every_numbered (λ m r. copy_row (phi_target r) m) Row.nop n phis (λ i m. refl)) (more refl none)))
