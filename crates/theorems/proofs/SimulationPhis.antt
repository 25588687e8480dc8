-- A step of a phi: the translation waits at the edge block, and runs it with the last phi.
-- Assumes nothing.
use mathlib.Core.Path.{◌≡◌, refl, sym, ap, ◌∙◌}
use mathlib.Core.Bool.{true, false}
use mathlib.Core.List.{List}
use Prim.Native.Nat.{ℕ, suc, ◌<◌}
use native.Mathlib.Nat.{add-zero}
use native.Mathlib.Decide.{dec_lt}
use native.Mathlib.Omega.{arith}
use lib.ListN.{length, drop, length-drop}
use lib.Seq.{get_or-drop, drop_at}
use Rattle.laws.specs.Lists.{any}
use Rattle.laws.proofs.Indexing.{any_at}
use Rattle.laws.proofs.Keep.{any_failed}
use Rattle.language.specs.Programs.{Row, Func, rows_at, is_phi, is_terminator, has_phi}
use Rattle.language.specs.Running.{Place, onward, write_all, phis_of, came_by, phi_step, perform, step, row_here}
use Rattle.language.specs.Translating.{kept_of, edge_of, translation}
use Rattle.theorems.specs.Clean.{Clean}
use Rattle.theorems.proofs.SimulationRuns.{Goes, goes_less}
use Rattle.theorems.proofs.SimulationRows.{IsPhi, is_phi_law, row_of, rows_count, rows_split, phi_at, phi_is, more_rows, row_here_is}
use Rattle.theorems.proofs.SimulationEdges.{Beside, Reaches, edge_length, edge_run}
use Rattle.theorems.proofs.SimulationRelation.{Level, Crossing, Related, Matched, owed_at, next_row}

module _
    (f : Func) (c : Clean f)
    (p : Place) (g : List ℕ) (q : Place) (h : List ℕ) (v : Crossing f p g q h) where
  abbrev rows : List Row
  rows = rows_at f p.block

  phi_inside : p.row < length rows
  phi_inside = omega (arith, v.inside, rows_count f c p.block)

  -- the source's row is a phi
  phi_here : IsPhi (row_of f p.block p.row)
  phi_here =
      is_phi_law (row_of f p.block p.row)
      (ap is_phi (phi_at f c p.block p.row v.inside) ∙ phi_is f c p.block p.row v.inside)

  phi_row : Row
  phi_row = Row.phi phi_here.target phi_here.entries

  phi_stepped : step f p g ≡ phi_step f p g
  unfolding step perform
  phi_stepped = ap (perform f p g) (row_here_is f p phi_inside ∙ phi_here.is)

  -- whether another phi comes after it
  not_last : suc p.row < length (phis_of rows) → any is_phi (drop (suc p.row) rows) ≡ true
  not_last l =
      let j = suc p.row in
      let next = get_or-drop j rows 0 Row.nop ∙ ap (row_of f p.block) (add-zero j) ∙ phi_at f c p.block j l in
      let inside : 0 < length (drop j rows) = rw length-drop (omega (arith, rows_count f c p.block)) in
      any_at is_phi (drop j rows) 0 Row.nop inside (ap is_phi next ∙ phi_is f c p.block j l)

  last : suc p.row ≡ length (phis_of rows) → any is_phi (drop (suc p.row) rows) ≡ false
  unfolding kept_of
  last e =
      let j = suc p.row in
      ap (λ (rs : List Row). any is_phi (drop j rs)) (rows_split f c p.block)
      ∙ ap (any is_phi) (drop_at (phis_of rows) (kept_of rows) j (sym e))
      ∙ any_failed is_phi rows

  -- the edge block's run, from here to the phi's block
  abbrev written : List ℕ
  written = write_all g (came_by f p) g (phis_of rows)

  crossed : (h' : List ℕ) × Beside f written h' × Reaches (translation f) q h (edge_length f p.block) p.block 0 h'
  unfolding edge_of came_by
  crossed =
      let has : has_phi f p.block ≡ true = any_at is_phi rows p.row Row.nop phi_inside (ap is_phi phi_here.is) in
      edge_run f c p.block (came_by f p) v.known q g h has v.came v.block v.row v.beside

  -- an earlier phi: the translation waits
  earlier : suc p.row < length (phis_of rows) → Matched f phi_row q h (owed_at p.row) (onward p g)
  unfolding phi_row came_by
  earlier l =
      let w : Crossing f (next_row p) g q h =
      record { known = v.known; came = v.came; block = v.block; row = v.row; inside = l; beside = v.beside } in
      record {
        made = 0;
        owed = owed_at (suc p.row);
        place = q;
        registers = h;
        goes = Goes.here;
        related = Related.crossing w refl;
        count = omega arith;
      }

  -- the last phi: the translation copies and jumps
  final : suc p.row ≡ length (phis_of rows) → Matched f phi_row q h (owed_at p.row) (onward p written)
  unfolding phi_row
  final e =
      let h' = crossed.0 in
      let r = crossed.2 in
      let more = more_rows f c p.block p.row phi_inside (ap is_terminator phi_here.is) in
      let w : Level f (next_row p) written r.place h' =
      record { block = r.block; known = v.known; row = omega (arith, r.row); inside = more; beside = crossed.1 } in
      record {
        made = edge_length f p.block;
        owed = 0;
        place = r.place;
        registers = h';
        goes = r.goes;
        related = Related.level w refl;
        count = omega arith;
      }

  pub crossing_step : Matched f (row_here f p) q h (owed_at p.row) (step f p g)
  unfolding phi_step phi_row
  crossing_step = rw (phi_stepped, row_here_is f p phi_inside, phi_here.is) (case (dec_lt (suc p.row) (length (phis_of rows))))
    where
      case : Dec (suc p.row < length (phis_of rows)) → Matched f phi_row q h (owed_at p.row) (phi_step f p g)
      case (yes l) = rw (not_last l) (earlier l)
      case (no l) = let e : suc p.row ≡ length (phis_of rows) = omega (arith, v.inside) in rw (last e) (final e)

  -- the steps owed do not end the run
  pub crossing_owed : (q' : Place) × (h' : List ℕ) × Goes (translation f) q h (owed_at p.row) q' h'
  crossing_owed = goes_less (owed_at p.row) (omega (arith, v.inside)) crossed.2.goes
