-- An edge block performs the parallel copy of its block's phi: the entries' values go to new registers, which no entry names,
-- before any target is written.
-- Assumes nothing.
use mathlib.Core.Path.{◌≡◌, refl, sym, ap, ◌∙◌}
use mathlib.Core.Bool.{true}
use mathlib.Core.List.{List, [], ◌∷◌, ◌++◌, map, append_assoc}
use Prim.Native.Nat.{ℕ, zero, suc, ◌+◌, ◌*◌, ◌≤◌, ◌<◌, suc-le-suc}
use native.Mathlib.Nat.{add-suc, add-zero, zero-lt-suc, zero-add}
use native.Mathlib.Numerals.{add-one}
use native.Mathlib.Omega.{arith}
use lib.ListN.{length, get_or, drop, set, length-append, length-map, length-set, get_or-append}
use lib.Seq.{sets, length-sets, append_snoc, get_or-append_seam, get_or-append-add, set-append_left}
use Rattle.laws.specs.Lists.{together, from}
use Rattle.laws.proofs.Indexing.{length_together_from, set_append_add, drop_sets, get_or_of_drop, drop_of_drop}
use Rattle.language.specs.Arithmetic.{unary_of}
use Rattle.language.specs.Programs.{Row, Func, no_row, rows_at, has_phi}
use Rattle.language.specs.Checking.{predecessors}
use Rattle.language.specs.Running.{Place, Next, onward, value_at, phis_of, phi_target, entry_at, write_all, perform, step, row_here}
use Rattle.language.specs.Translating.{copy_row, edge_rows, translation, new_register, pairs_before, phis_before, phi_total}
use Rattle.theorems.specs.Clean.{Clean}
use Rattle.theorems.proofs.SimulationRuns.{Goes, goes_one, goes_more}
use Rattle.theorems.proofs.SimulationRows.{phi_target_law, phi_entry_law}
use Rattle.theorems.proofs.SimulationBlocks.{edge_rows_law, phis_fit}

-- The translation's registers h are the source's g, and the new ones after them.
pub record Beside (f : Func) (g h : List ℕ) : Type 0 where
  pub size : length g ≡ length f.registers
  pub extra : List ℕ
  pub room : length extra ≡ phi_total f
  pub is : h ≡ g ++ extra

-- n steps lead to row j of block b with the registers h'.
pub record Reaches (t : Func) (q : Place) (h : List ℕ) (n b j : ℕ) (h' : List ℕ) : Type 0 where
  pub place : Place
  pub goes : Goes t q h n place h'
  pub block : place.block ≡ b
  pub row : place.row ≡ j

-- one part of a run after the other
reaches_more :
    {t : Func} {q : Place} {h h' h'' : List ℕ} {m n b j b' j' : ℕ}
    → Reaches t q h m b j h'
    → ((u : Place) → u.block ≡ b → u.row ≡ j → Reaches t u h' n b' j' h'')
    → Reaches t q h (m + n) b' j' h''
reaches_more r s =
    let k = s r.place r.block r.row in
    record { place = k.place; goes = goes_more r.goes k.goes; block = k.block; row = k.row }

-- ---- rows of copies

-- For each number m and row r a copy of the register `of m r` to the register `to m r`.
abbrev copies_of : (to of : ℕ → Row → ℕ) → List ℕ → List Row → List Row
copies_of to of ms ps = together (λ m r. copy_row (to m r) (of m r)) ms ps

-- The registers after those copies.
abbrev copied : (to of : ℕ → Row → ℕ) → List ℕ → List Row → List ℕ → List ℕ
copied to of [] ps h = h
copied to of (m ∷ ms) [] h = h
copied to of (m ∷ ms) (r ∷ ps) h = copied to of ms ps (set h (to m r) (value_at h (of m r)))

module _ (t : Func) where
  -- the row that stands at a seam is performed
  step_at :
      (q : Place) (h : List ℕ) (done : List Row) (r : Row) (rest : List Row)
      → rows_at t q.block ≡ done ++ r ∷ rest
      → q.row ≡ length done
      → step t q h ≡ perform t q h r
  unfolding step row_here
  step_at q h done r rest e i = ap (perform t q h) (rw (e, i) (get_or-append_seam done r rest no_row))

  -- a copy
  copy_step : (q : Place) (h : List ℕ) (a b : ℕ) → perform t q h (copy_row a b) ≡ onward q (set h a (value_at h b))
  unfolding perform unary_of
  copy_step q h a b = refl

  -- no copy
  copied_none : (q : Place) (h : List ℕ) (j : ℕ) → q.row ≡ j → Reaches t q h 0 q.block (j + 0) h
  copied_none q h j i = record { place = q; goes = Goes.here; block = refl; row = i ∙ sym (add-zero j) }

  copies_run :
      (to of : ℕ → Row → ℕ) (ms : List ℕ) (ps done tail : List Row) (q : Place) (h : List ℕ)
      → rows_at t q.block ≡ done ++ (copies_of to of ms ps ++ tail)
      → q.row ≡ length done
      → (let n = length (copies_of to of ms ps) in Reaches t q h n q.block (length done + n) (copied to of ms ps h))
  copies_run to of [] ps done tail q h e i = copied_none q h (length done) i
  copies_run to of (m ∷ ms) [] done tail q h e i = copied_none q h (length done) i
  copies_run to of (m ∷ ms) (r ∷ ps) done tail q h e i =
      let x = copy_row (to m r) (of m r) in
      let rest = copies_of to of ms ps ++ tail in
      let h' = set h (to m r) (value_at h (of m r)) in
      let q' : Place = record { block = q.block; before = q.before; row = suc q.row; steps = suc q.steps } in
      let s : step t q h ≡ Next.go q' h' = step_at q h done x rest e i ∙ copy_step q h (to m r) (of m r) in
      let l : length (done ++ (x ∷ [])) ≡ suc (length done) = length-append done (x ∷ []) ∙ add-one (length done) in
      let e' = e ∙ sym (append_snoc done x rest) in
      let k = copies_run to of ms ps (done ++ (x ∷ [])) tail q' h' e' (ap suc i ∙ sym l) in
      record { place = k.place; goes = Goes.on s k.goes; block = k.block; row = k.row ∙ omega (arith, l) }

  -- a jump
  jump_run :
      (y : ℕ) (done rest : List Row) (q : Place) (h : List ℕ)
      → rows_at t q.block ≡ done ++ Row.jump y ∷ rest
      → q.row ≡ length done
      → Reaches t q h 1 y 0 h
  unfolding perform
  jump_run y done rest q h e i =
      let p : Place = record { block = y; before = q.block; row = zero; steps = suc q.steps } in
      record { place = p; goes = goes_one (step_at q h done (Row.jump y) rest e i); block = refl; row = refl }

-- ---- the values copied

-- Entries go to new registers, the entries of predecessor k; and from these to targets.
abbrev moved_in : ℕ → List ℕ → List Row → List ℕ → List ℕ
moved_in k ms ps h = copied (λ m r. m) (λ m r. entry_at k r) ms ps h

abbrev moved_out : List ℕ → List Row → List ℕ → List ℕ
moved_out ms ps h = copied (λ m r. phi_target r) (λ m r. m) ms ps h

-- What the k-th entries of the phi hold.
abbrev values_of : List ℕ → ℕ → List Row → List ℕ
values_of g k ps = map (λ r. value_at g (entry_at k r)) ps

-- The entries are registers of g, and their values come to stand from c on in what is after g.
moved_in_law :
    (g : List ℕ) (k : ℕ) (ps : List Row) (c : ℕ) (e : List ℕ)
    → ((i : ℕ) → i < length ps → entry_at k (get_or ps i Row.nop) < length g)
    → moved_in k (from (length g + c) (length ps)) ps (g ++ e) ≡ g ++ sets e c (values_of g k ps)
moved_in_law g k [] c e b = refl
moved_in_law g k (r ∷ ps) c e b =
    let v = value_at g (entry_at k r) in
    let held : value_at (g ++ e) (entry_at k r) ≡ v = get_or-append g e 0 (entry_at k r) (b zero (zero-lt-suc (length ps))) in
    let stored = ap (set (g ++ e) (length g + c)) held ∙ set_append_add g e c v in
    ap (λ (h : List ℕ). moved_in k (from (suc (length g + c)) (length ps)) ps h) stored
    ∙ ap (λ (i : ℕ). moved_in k (from i (length ps)) ps (g ++ set e c v)) (sym (add-suc (length g) c))
    ∙ moved_in_law g k ps (suc c) (set e c v) (λ i l. b (suc i) (suc-le-suc l))

-- The targets are registers of g, and take the values that stand from c on in e, as the phi's writing gives them.
moved_out_law :
    (old : List ℕ) (k n : ℕ) (ps : List Row) (g : List ℕ) (c : ℕ) (e rest : List ℕ)
    → length g ≡ n
    → drop c e ≡ values_of old k ps ++ rest
    → ((i : ℕ) → i < length ps → phi_target (get_or ps i Row.nop) < n)
    → moved_out (from (n + c) (length ps)) ps (g ++ e) ≡ write_all old k g ps ++ e
moved_out_law old k n [] g c e rest l d b = refl
moved_out_law old k n (r ∷ ps) g c e rest l d b =
    let v = value_at old (entry_at k r) in
    let u = phi_target r in
    let held : value_at (g ++ e) (n + c) ≡ v =
    ap (λ (i : ℕ). value_at (g ++ e) (i + c)) (sym l) ∙ get_or-append-add g e c 0 ∙ get_or_of_drop e c 0 d in
    let known : u < length g = rw l (b zero (zero-lt-suc (length ps))) in
    let stored = ap (set (g ++ e) u) held ∙ set-append_left g e u v known in
    let next = drop_of_drop e c d in
    ap (λ (h : List ℕ). moved_out (from (suc (n + c)) (length ps)) ps h) stored
    ∙ ap (λ (i : ℕ). moved_out (from i (length ps)) ps (set g u v ++ e)) (sym (add-suc n c))
    ∙ moved_out_law old k n ps (set g u v) (suc c) e rest (length-set g u v ∙ l) next (λ i l. b (suc i) (suc-le-suc l))

length_write_all : (old : List ℕ) (k : ℕ) (g : List ℕ) (ps : List Row) → length (write_all old k g ps) ≡ length g
length_write_all old k g [] = refl
length_write_all old k g (r ∷ ps) =
    let v = value_at old (entry_at k r) in
    length_write_all old k (set g (phi_target r) v) ps ∙ length-set g (phi_target r) v

-- ---- the edge block

-- "2p + 1 for each pair, p being the phi of that block"
abbrev pub edge_length : Func → ℕ → ℕ
edge_length f y = 2 * length (phis_of (rows_at f y)) + 1

module _ (f : Func) (c : Clean f) (y k : ℕ) (l : y < length f.blocks) where
  abbrev ps : List Row
  ps = phis_of (rows_at f y)

  abbrev ms : List ℕ
  ms = from (length f.registers + phis_before f y) (length ps)

  abbrev ins : List Row
  ins = copies_of (λ m r. m) (λ m r. entry_at k r) ms ps

  abbrev outs : List Row
  outs = copies_of (λ m r. phi_target r) (λ m r. m) ms ps

  edge_length_law : length ins + (length outs + 1) ≡ edge_length f y
  edge_length_law =
      let n = length f.registers + phis_before f y in
      let i : length ins ≡ length ps = length_together_from (λ m r. copy_row m (entry_at k r)) n ps in
      let o : length outs ≡ length ps = length_together_from (λ m r. copy_row (phi_target r) m) n ps in
      omega arith

  -- the run of its rows
  rows_run :
      (q : Place) (h : List ℕ)
      → rows_at (translation f) q.block ≡ ins ++ (outs ++ (Row.jump y ∷ []))
      → q.row ≡ 0
      → Reaches (translation f) q h (length ins + (length outs + 1)) y 0 (moved_out ms ps (moved_in k ms ps h))
  rows_run q h e i =
      let t = translation f in
      let j = Row.jump y ∷ [] in
      let h' = moved_in k ms ps h in
      let e' : rows_at t q.block ≡ ins ++ outs ++ j = e ∙ sym (append_assoc ins outs j) in
      reaches_more (copies_run t (λ m r. m) (λ m r. entry_at k r) ms ps [] (outs ++ j) q h e i)
      λ u b a.
      reaches_more (copies_run t (λ m r. phi_target r) (λ m r. m) ms ps ins j u h' (rw b e) (a ∙ zero-add (length ins)))
      λ u' b' a'.
      jump_run t y (ins ++ outs) [] u' (moved_out ms ps h') (rw (b', b) e') (a' ∙ sym (length-append ins outs))

  -- what they do to the registers
  moved :
      (g e : List ℕ)
      → length g ≡ length f.registers
      → length e ≡ phi_total f
      → moved_out ms ps (moved_in k ms ps (g ++ e)) ≡ write_all g k g ps ++ sets e (phis_before f y) (values_of g k ps)
  moved g e size room =
      let vs = values_of g k ps in
      let a = phis_before f y in
      let rest = drop (a + length vs) e in
      let fits : a + length vs ≤ length e = rw (room, length-map) (phis_fit f y l) in
      let first : moved_in k ms ps (g ++ e) ≡ g ++ sets e a vs =
      rw (← size) (moved_in_law g k ps a e (λ i m. rw size (phi_entry_law f c y i k m))) in
      let held = drop_sets vs e a fits in
      ap (moved_out ms ps) first
      ∙ moved_out_law g k (length f.registers) ps g a (sets e a vs) rest size held (λ i m. phi_target_law f c y i m)

  -- "it copies entries to new registers, then these to targets, each by row, and jumps to the phi block"
  pub edge_run :
      (q : Place) (g h : List ℕ)
      → has_phi f y ≡ true
      → k < length (predecessors f y)
      → q.block ≡ length f.blocks + pairs_before f y + k
      → q.row ≡ 0
      → Beside f g h
      → (h' : List ℕ) × Beside f (write_all g k g ps) h' × Reaches (translation f) q h (edge_length f y) y 0 h'
  unfolding edge_rows new_register
  edge_run q g h phi came block row b =
      let w = write_all g k g ps in
      let vs = values_of g k ps in
      let e = sets b.extra (phis_before f y) vs in
      let room = length-sets b.extra (phis_before f y) vs ∙ b.room in
      let rows : rows_at (translation f) q.block ≡ ins ++ (outs ++ (Row.jump y ∷ [])) = rw block (edge_rows_law f y k l phi came) in
      let is : moved_out ms ps (moved_in k ms ps h) ≡ w ++ e = rw b.is (moved g b.extra b.size b.room) in
      let beside : Beside f w (w ++ e) = record { size = length_write_all g k g ps ∙ b.size; extra = e; room = room; is = refl } in
      (w ++ e, beside, rw (← is, ← edge_length_law) (rows_run q h rows row))
