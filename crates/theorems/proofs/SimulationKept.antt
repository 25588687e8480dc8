-- A step of a kept row: the translation performs the same row, but that a terminator to a block with phi goes to the edge block.
-- Assumes nothing.
use mathlib.Core.Path.{◌≡◌, refl, ap, ◌∙◌}
use mathlib.Core.Bool.{Bool, true, false, cond, true≢false}
use mathlib.Core.List.{List, [], ◌∷◌, map}
use Prim.Native.Nat.{ℕ, zero, suc, ◌+◌, ◌<◌}
use native.Mathlib.Omega.{arith}
use lib.Dec.{T, eqb, lit<}
use borrow.Author.Tests.{eq-eqb}
use lib.ListN.{length, get_or, set, length-map, length-set, get_or-append, get_or-map}
use lib.Seq.{set-append_left}
use Rattle.laws.specs.Lists.{keep, position, member, below}
use Rattle.laws.proofs.Indexing.{any_at, position_lt, length_below, get_or_below}
use Rattle.laws.proofs.Keep.{any_none, any_keep, any_kept_at}
use Rattle.language.specs.Arithmetic.{Computed, binary_of, unary_of}
use Rattle.language.specs.Programs.{Row, Func, rows_at, type_at, is_phi, is_terminator, has_phi, named_by}
use Rattle.language.specs.Checking.{goes_to, predecessors, in_range, last_row}
use Rattle.language.specs.Running.{Place, Outcome, Next, onward, enter, value_at, phis_of, came_by, assign, perform, step, row_here}
use Rattle.language.specs.Translating.{kept_of, retarget, retargeted, edge_of, translation}
use Rattle.theorems.specs.Clean.{Clean}
use Rattle.theorems.proofs.SimulationRuns.{goes_one}
use Rattle.theorems.proofs.AcceptanceRows.{unknown_out}
use Rattle.theorems.proofs.SimulationRows.{row_of, in_range_law, rows_count, kept_at_law, kept_is, more_rows, last_row_law, row_here_is, targets_known, sources_known, named_known, first_lt, second_lt}
use Rattle.theorems.proofs.SimulationBlocks.{kept_rows, type_kept}
use Rattle.theorems.proofs.SimulationEdges.{Beside}
use Rattle.theorems.proofs.SimulationRelation.{Level, Crossing, Related, Matched, cost, next_row, entered}

-- ---- registers

module _ {f : Func} {g h : List ℕ} (b : Beside f g h) where
  value_same : (r : ℕ) → r < length f.registers → value_at h r ≡ value_at g r
  value_same r l = rw b.is (get_or-append g b.extra 0 r (rw b.size l))

  store_same : (r v : ℕ) → r < length f.registers → Beside f (set g r v) (set h r v)
  store_same r v l =
      record {
        size = length-set g r v ∙ b.size;
        extra = b.extra;
        room = b.room;
        is = ap (λ (x : List ℕ). set x r v) b.is ∙ set-append_left g b.extra r v (rw b.size l);
      }

-- ---- predecessors

-- A block that goes to y is among its predecessors.
came_from :
    (f : Func) (x y : ℕ)
    → x < length f.blocks
    → goes_to f x y ≡ true
    → position (λ z. eqb z x) (predecessors f y) < length (predecessors f y)
unfolding predecessors
came_from f x y l e =
    let bs = below (length f.blocks) in
    let at : get_or bs x 0 ≡ x = get_or_below (length f.blocks) x 0 l in
    let goes : goes_to f (get_or bs x 0) y ≡ true = ap (λ (z : ℕ). goes_to f z y) at ∙ e in
    position_lt (λ z. eqb z x) (keep (λ z. goes_to f z y) bs)
    (any_kept_at (λ z. goes_to f z y) (λ z. eqb z x) bs x 0 (rw length_below l) goes (eq-eqb (get_or bs x 0) x at))

-- ---- by the row's form

module _ (f : Func) (c : Clean f) (p : Place) (g : List ℕ) (q : Place) (h : List ℕ) (v : Level f p g q h) where
  -- to the next row
  onward_matched :
      (r : Row) (g' h' : List ℕ)
      → cost f r p.block ≡ 0
      → suc p.row < length (rows_at f p.block)
      → Beside f g' h'
      → step (translation f) q h ≡ onward q h'
      → Matched f r q h 0 (onward p g')
  onward_matched r g' h' e l b s =
      let w : Level f (next_row p) g' (next_row q) h' =
      record { block = v.block; known = v.known; row = omega (arith, v.row); inside = l; beside = b } in
      record {
        made = 1;
        owed = 0;
        place = next_row q;
        registers = h';
        goes = goes_one s;
        related = Related.level w refl;
        count = omega (arith, e);
      }

  -- to the next row with what an instruction computed, or the same stop
  assign_matched :
      (r : Row) (t : ℕ) (x : Computed)
      → is_phi r ≡ false
      → cost f r p.block ≡ 0
      → suc p.row < length (rows_at f p.block)
      → t < length f.registers
      → step (translation f) q h ≡ assign q h t x
      → Matched f r q h 0 (assign p g t x)
  unfolding assign
  assign_matched r t (Computed.value x) n e l m s = onward_matched r (set g t x) (set h t x) e l (store_same v.beside t x m) s
  assign_matched r t (Computed.stops x) n e l m s = record { plain = n; none = refl; stop = s }

  -- to block y, which the terminator r names
  module _ (r : Row) (y : ℕ) (n : is_phi r ≡ false) (t : is_terminator r ≡ true) (l : y < length f.blocks) where
    -- a block with phi: to the edge block
    edge_matched :
        has_phi f y ≡ true
        → goes_to f p.block y ≡ true
        → step (translation f) q h ≡ enter q h (edge_of f p.block y)
        → Matched f r q h 0 (enter p g y)
    unfolding came_by phis_of
    edge_matched e goes s =
        let came = came_from f p.block y v.known goes in
        let inside = any_keep is_phi (rows_at f y) e in
        let w : Crossing f (entered p y) g (entered q (edge_of f p.block y)) h =
        record { known = l; came = came; block = refl; row = refl; inside = inside; beside = v.beside } in
        record {
          made = 1;
          owed = 1;
          place = entered q (edge_of f p.block y);
          registers = h;
          goes = goes_one s;
          related = Related.crossing w refl;
          count = rw (n, t, e);
        }

    -- another block: to its first row
    block_matched : has_phi f y ≡ false → step (translation f) q h ≡ enter q h y → Matched f r q h 0 (enter p g y)
    unfolding phis_of
    block_matched e s =
        let row : zero ≡ length (phis_of (rows_at f y)) + zero = omega (arith, ap length (any_none is_phi (rows_at f y) e)) in
        let w : Level f (entered p y) g (entered q y) h =
        record { block = refl; known = l; row = row; inside = c.filled y l; beside = v.beside } in
        record {
          made = 1;
          owed = 0;
          place = entered q y;
          registers = h;
          goes = goes_one s;
          related = Related.level w refl;
          count = rw (n, t, e);
        }

    enter_matched :
        last_row (rows_at f p.block) ≡ r
        → member y (named_by r) ≡ true
        → step (translation f) q h ≡ enter q h (retargeted f p.block y)
        → Matched f r q h 0 (enter p g y)
    unfolding retargeted goes_to
    enter_matched last m s = case (has_phi f y) refl
      where
        gone : (b : Bool) → has_phi f y ≡ b → step (translation f) q h ≡ enter q h (cond b (edge_of f p.block y) y)
        gone b e = s ∙ ap (λ (b : Bool). enter q h (cond b (edge_of f p.block y) y)) e

        case : (b : Bool) → has_phi f y ≡ b → Matched f r q h 0 (enter p g y)
        case true e = edge_matched e (ap (λ (x : Row). member y (named_by x)) last ∙ m) (gone true e)
        case false e = block_matched e (gone false e)

  -- one of two blocks
  branch_matched :
      (s y z : ℕ) (b : Bool)
      → last_row (rows_at f p.block) ≡ Row.branch s y z
      → T (in_range f (Row.branch s y z))
      → step (translation f) q h ≡ enter q h (cond b (retargeted f p.block z) (retargeted f p.block y))
      → Matched f (Row.branch s y z) q h 0 (enter p g (cond b z y))
  branch_matched s y z true last t e =
      let l = second_lt (length f.blocks) y z [] (named_known f (Row.branch s y z) t) in
      let m = any_at (λ x. eqb x z) (y ∷ (z ∷ [])) 1 0 (lit< tt) (eq-eqb z z refl) in
      enter_matched (Row.branch s y z) z refl refl l last m e
  branch_matched s y z false last t e =
      let l = first_lt (length f.blocks) y (z ∷ []) (named_known f (Row.branch s y z) t) in
      let m = any_at (λ x. eqb x y) (y ∷ (z ∷ [])) 0 0 (lit< tt) (eq-eqb y y refl) in
      enter_matched (Row.branch s y z) y refl refl l last m e

  perform_matched :
      (r : Row)
      → is_phi r ≡ false
      → T (in_range f r)
      → (is_terminator r ≡ false → suc p.row < length (rows_at f p.block))
      → (is_terminator r ≡ true → last_row (rows_at f p.block) ≡ r)
      → step (translation f) q h ≡ perform (translation f) q h (retarget f p.block r)
      → Matched f r q h 0 (perform f p g r)
  unfolding perform retarget
  perform_matched Row.nop n t more last s = onward_matched Row.nop g h refl (more refl) v.beside s
  perform_matched (Row.load op u x) n t more last s =
      let r = Row.load op u x in
      let lu = first_lt (length f.registers) u [] (targets_known f r t) in
      onward_matched r (set g u x) (set h u x) refl (more refl) (store_same v.beside u x lu) s
  perform_matched (Row.unary op u a) n t more last s =
      let r = Row.unary op u a in
      let lu = first_lt (length f.registers) u [] (targets_known f r t) in
      let la = first_lt (length f.registers) a [] (sources_known f r t) in
      let x = unary_of op (type_at f a) (type_at f u) (value_at g a) in
      let e : unary_of op (type_at (translation f) a) (type_at (translation f) u) (value_at h a) ≡ x =
      rw (type_kept f a la, type_kept f u lu, value_same v.beside a la) in
      let s' = s ∙ ap (λ (x : ℕ). onward q (set h u x)) e in
      onward_matched r (set g u x) (set h u x) refl (more refl) (store_same v.beside u x lu) s'
  perform_matched (Row.binary op u a b) n t more last s =
      let r = Row.binary op u a b in
      let lu = first_lt (length f.registers) u [] (targets_known f r t) in
      let la = first_lt (length f.registers) a (b ∷ []) (sources_known f r t) in
      let lb = second_lt (length f.registers) a b [] (sources_known f r t) in
      let x = binary_of op (type_at f a) (value_at g a) (value_at g b) in
      let e : binary_of op (type_at (translation f) a) (value_at h a) (value_at h b) ≡ x =
      rw (type_kept f a la, value_same v.beside a la, value_same v.beside b lb) in
      assign_matched r u x n refl (more refl) lu (s ∙ ap (assign q h u) e)
  perform_matched (Row.phi u es) n t more last s = absurd (true≢false n)
  perform_matched (Row.jump y) n t more last s =
      let r = Row.jump y in
      let l = first_lt (length f.blocks) y [] (named_known f r t) in
      let m = any_at (λ x. eqb x y) (y ∷ []) 0 0 (lit< tt) (eq-eqb y y refl) in
      enter_matched r y refl refl l (last refl) m s
  perform_matched (Row.branch a y z) n t more last s =
      let la = first_lt (length f.registers) a [] (sources_known f (Row.branch a y z) t) in
      let to : ℕ → Next = λ x. enter q h (cond (eqb x 0) (retargeted f p.block z) (retargeted f p.block y)) in
      branch_matched a y z (eqb (value_at g a) 0) (last refl) t (s ∙ ap to (value_same v.beside a la))
  perform_matched (Row.return a) n t more last s =
      let la = first_lt (length f.registers) a [] (sources_known f (Row.return a) t) in
      let s' = s ∙ ap (λ (x : ℕ). Next.end (Outcome.returned x)) (value_same v.beside a la) in
      record { plain = n; none = refl; stop = s' }
  perform_matched Row.leave n t more last s = record { plain = n; none = refl; stop = s }
  perform_matched (Row.unknown op) n t more last s = absurd (unknown_out f op t)

-- ---- the rows of both runs

module _
    (f : Func) (c : Clean f)
    (p : Place) (g : List ℕ) (q : Place) (h : List ℕ) (v : Level f p g q h) where
  abbrev kept : List Row
  kept = kept_of (rows_at f p.block)

  kept_row : Row
  kept_row = get_or kept q.row Row.nop

  kept_inside : q.row < length kept
  kept_inside = omega (arith, v.row, v.inside, rows_count f c p.block)

  plain : is_phi kept_row ≡ false
  unfolding kept_row
  plain = kept_is f c p.block q.row kept_inside

  -- the source's row
  here : row_of f p.block p.row ≡ kept_row
  unfolding kept_row
  here = ap (row_of f p.block) v.row ∙ kept_at_law f c p.block q.row

  -- the translation's
  rows_there : rows_at (translation f) q.block ≡ map (retarget f p.block) kept
  rows_there = ap (rows_at (translation f)) v.block ∙ kept_rows f p.block v.known

  there : row_here (translation f) q ≡ retarget f p.block kept_row
  unfolding kept_row retarget
  there =
      row_here_is (translation f) q (rw (rows_there, length-map) kept_inside)
      ∙ ap (λ (rs : List Row). get_or rs q.row Row.nop) rows_there
      ∙ get_or-map (retarget f p.block) kept q.row Row.nop

  pub level_step : Matched f (row_here f p) q h 0 (step f p g)
  unfolding step
  level_step =
      let b = p.block in
      let i = v.inside in
      let range : T (in_range f kept_row) = rw here at (in_range_law f c b p.row i) in
      rw (row_here_is f p i, here)
      (perform_matched f c p g q h v kept_row plain range (λ e. more_rows f c b p.row i (ap is_terminator here ∙ e))
      (λ e. last_row_law f c b p.row i (ap is_terminator here ∙ e) ∙ here)
      (ap (perform (translation f) q h) there))
