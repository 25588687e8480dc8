-- The translation's run is the source's: it ends exactly if the source's does, with the same outcome, after the formula's steps.
-- Assumes nothing.
use mathlib.Core.Path.{◌≡◌, refl, sym, ap, ◌∙◌}
use mathlib.Core.Bool.{Bool, true, false, cond, ◌&&◌}
use mathlib.Core.List.{List}
use Prim.Native.Nat.{ℕ, zero, suc, ◌+◌, ◌*◌, ◌≤◌}
use native.Mathlib.Omega.{arith}
use lib.Dec.{T, eqb, eqb→eq, lit≤}
use lib.ListN.{length, replicate, length-replicate}
use lib.Ieee.Fits.{and_l}
use Rattle.language.specs.Programs.{Row, Func, rows_at, is_phi, is_terminator, has_phi}
use Rattle.language.specs.Running.{Place, Outcome, Next, Run, Ends, NotEnded, phis_of, step, run_of, row_here, start, start_registers, phi_steps, edge_steps, first_unfit, arguments_fit}
use Rattle.language.specs.Translating.{translation, step_formula, phi_total}
use Rattle.theorems.specs.Demand3.{RunsAlike}
use Rattle.theorems.specs.Clean.{Clean}
use Rattle.theorems.proofs.SimulationRuns.{First, first, Goes, goes_more, goes_less, goes_after, after_goes, Stops, stops_once, ended_stops, stops_ends, ends_stops}
use Rattle.theorems.proofs.SimulationRows.{entry_plain, entry_known, params_known}
use Rattle.theorems.proofs.SimulationBlocks.{start_registers_law, start_length}
use Rattle.theorems.proofs.SimulationEdges.{Beside}
use Rattle.theorems.proofs.SimulationRelation.{Related, Meets, EndsToo, Matched, cost}
use Rattle.theorems.proofs.SimulationKept.{level_step}
use Rattle.theorems.proofs.SimulationPhis.{crossing_step, crossing_owed}

-- ---- the step formula

-- The formula for n steps from p.
formula : ℕ → Func → Place → List ℕ → ℕ
formula n f p g = n + phi_steps n f p g + edge_steps n f p g

-- One for a flag that is set.
abbrev flag : Bool → ℕ
flag b = cond b 1 0

flag_le : (b : Bool) → flag b ≤ 1
flag_le true = lit≤ tt
flag_le false = lit≤ tt

module _ (f : Func) (p : Place) (g : List ℕ) where
  formula_zero : formula zero f p g ≡ 0
  unfolding formula phi_steps edge_steps
  formula_zero = refl

  formula_go :
      {q : Place} {h : List ℕ} (n : ℕ)
      → step f p g ≡ Next.go q h
      → formula (suc n) f p g ≡ suc (cost f (row_here f p) q.block + formula n f q h)
  unfolding formula phi_steps edge_steps
  formula_go {q} {h} n e =
      let r = row_here f p in
      let a : phi_steps (suc n) f p g ≡ flag (is_phi r) + phi_steps n f q h = rw e in
      let b : edge_steps (suc n) f p g ≡ flag (is_terminator r && has_phi f q.block) + edge_steps n f q h = rw (e, edge_steps) in
      omega arith

  formula_end : {o : Outcome} (n : ℕ) → step f p g ≡ Next.end o → formula (suc n) f p g ≡ suc n + flag (is_phi (row_here f p))
  unfolding formula phi_steps edge_steps
  formula_end n e =
      let a : phi_steps (suc n) f p g ≡ flag (is_phi (row_here f p)) + 0 = rw e in
      let b : edge_steps (suc n) f p g ≡ 0 = rw (e, edge_steps) in
      omega arith

-- A step more, that ends the run.
formula_last :
    {f : Func} {p q : Place} {g h : List ℕ} {n : ℕ} {o : Outcome}
    → Goes f p g n q h
    → step f q h ≡ Next.end o
    → formula (suc n) f p g ≡ suc (formula n f p g) + flag (is_phi (row_here f q))
formula_last {f} (Goes.here {p = p} {g = g}) e = omega (arith, formula_zero f p g, formula_end f p g 0 e)
formula_last {f} (Goes.on {p = p} {g = g} {n = n} s w) e =
    omega (arith, formula_go f p g (suc n) s, formula_go f p g n s, formula_last w e)

-- A step counts for at most one of f and e.
cost_le : (f : Func) (r : Row) (b : ℕ) → cost f r b ≤ 1
cost_le f Row.nop b = lit≤ tt
cost_le f (Row.load op t n) b = lit≤ tt
cost_le f (Row.unary op t s) b = lit≤ tt
cost_le f (Row.binary op t l r) b = lit≤ tt
cost_le f (Row.phi t es) b = lit≤ tt
cost_le f (Row.jump y) b = omega (arith, flag_le (has_phi f b))
cost_le f (Row.branch s x y) b = omega (arith, flag_le (has_phi f b))
cost_le f (Row.return s) b = omega (arith, flag_le (has_phi f b))
cost_le f Row.leave b = omega (arith, flag_le (has_phi f b))
cost_le f (Row.unknown op) b = lit≤ tt

formula_le : (n : ℕ) (f : Func) (p : Place) (g : List ℕ) → formula n f p g ≤ n + n
formula_le zero f p g = omega (arith, formula_zero f p g)
formula_le (suc n) f p g =
    elim (first f p g) [
      | First.goes q h e ↦ omega (arith, formula_go f p g n e, cost_le f (row_here f p) q.block, formula_le n f q h)
      | First.ends o e ↦ omega (arith, formula_end f p g n e, flag_le (is_phi (row_here f p)))
    ]

-- ---- the run

module _ (f : Func) (c : Clean f) where
  -- "Each instruction .. is one step": one of the source's, matched
  step_matched :
      (p : Place) (g : List ℕ) (q : Place) (h : List ℕ) (d : ℕ)
      → Related f p g q h d
      → Matched f (row_here f p) q h d (step f p g)
  step_matched p g q h d (Related.level v e) = rw e (level_step f c p g q h v)
  step_matched p g q h d (Related.crossing v e) = rw e (crossing_step f c p g q h v)

  -- the steps owed do not end the run
  owed_run :
      {p q : Place} {g h : List ℕ} {d : ℕ}
      → Related f p g q h d
      → (q' : Place) × (h' : List ℕ) × Goes (translation f) q h d q' h'
  owed_run {q = q} {h = h} (Related.level v e) = (q, h, rw e Goes.here)
  owed_run {p} {q} {g} {h} (Related.crossing v e) = rw e (crossing_owed f c p g q h v)

  -- As long as the source's run goes on, the translation's meets it.
  follows :
      {p p' : Place} {g g' : List ℕ} {n : ℕ} (q : Place) (h : List ℕ) (d : ℕ)
      → Goes f p g n p' g'
      → Related f p g q h d
      → Meets f q h p' g' (d + formula n f p g)
  follows q h d (Goes.here {p = p} {g = g}) r =
      record {
        made = 0;
        owed = d;
        place = q;
        registers = h;
        goes = Goes.here;
        related = r;
        count = omega (arith, formula_zero f p g);
      }
  follows q h d (Goes.on {p = p} {q = p₁} {g = g} {h = g₁} {n = n} s w) r =
      let a : Meets f q h p₁ g₁ (suc (d + cost f (row_here f p) p₁.block)) = rw s at (step_matched p g q h d r) in
      let b = follows a.place a.registers a.owed w a.related in
      record {
        made = a.made + b.made;
        owed = b.owed;
        place = b.place;
        registers = b.registers;
        goes = goes_more a.goes b.goes;
        related = b.related;
        count = omega (arith, a.count, b.count, formula_go f p g n s);
      }

  -- The source's last step is the translation's.
  stops_follow :
      {p : Place} {g : List ℕ} {n : ℕ} {o : Outcome} (q : Place) (h : List ℕ)
      → Related f p g q h 0
      → Stops f p g n o
      → (m : ℕ) × (suc m ≡ formula (suc n) f p g) × Stops (translation f) q h m o
  stops_follow {o = o} q h r s =
      let a = follows q h 0 s.goes r in
      let b : EndsToo f (row_here f s.place) a.place a.registers a.owed o =
      rw s.stop at (step_matched s.place s.registers a.place a.registers a.owed a.related) in (
        a.made,
        omega (arith, a.count, b.none, formula_last s.goes s.stop, ap flag b.plain),
        record { place = a.place; registers = a.registers; goes = a.goes; stop = b.stop },
      )

-- ---- demand 3

module _ (f : Func) (args : List ℕ) (c : Clean f) (fit : T (arguments_fit f args)) where
  args_known : length args ≤ length f.registers
  unfolding arguments_fit
  args_known =
      let count = and_l (eqb (length args) f.params) (eqb (first_unfit f args) (length args)) fit in
      omega (arith, eqb→eq (length args) f.params count, params_known f c)

  -- entry has no phi, so the runs start at the same row
  start_related : Related f (start f) (start_registers f args) (start (translation f)) (start_registers (translation f) args) 0
  unfolding start translation
  start_related =
      let row : zero ≡ length (phis_of (rows_at f f.entry)) + zero = omega (arith, ap length (entry_plain f c)) in
      let b : Beside f (start_registers f args) (start_registers (translation f) args) =
      record {
        size = start_length f args args_known;
        extra = replicate (phi_total f) 0;
        room = length-replicate (phi_total f) 0;
        is = start_registers_law f args args_known;
      } in
      let known = entry_known f c in
      Related.level (record { block = refl; known = known; row = row; inside = c.filled f.entry known; beside = b }) refl

  -- "If the source ends after n steps, the translation ends", "after exactly the steps that document 01's step formula counts"
  sim_ends : (n : ℕ) (o : Outcome) → Ends f args n o → Ends (translation f) args (step_formula f args n) o
  unfolding step_formula formula
  sim_ends n o e =
      let s = ends_stops f args e in
      let t = stops_follow f c (start (translation f)) (start_registers (translation f) args) start_related s.2 in
      rw (s.1, ← t.1) (stops_ends (translation f) args t.2)

  -- "if the source has not ended after n steps, the translation has not ended after n steps either"
  sim_not_ended : (n : ℕ) → NotEnded f args n → NotEnded (translation f) args n
  unfolding run_of formula
  sim_not_ended n e =
      let w = after_goes n f (start f) (start_registers f args) e.place e.registers e.run in
      let a = follows f c (start (translation f)) (start_registers (translation f) args) 0 w start_related in
      let all = goes_more a.goes (owed_run f c a.related).2 in
      let r = goes_less n (omega (arith, a.count)) all in
      record { place = r.0; registers = r.1; run = goes_after r.2 }

  -- and only then: a source that had not ended by then would have kept the translation going
  sim_only_if :
      (m : ℕ) (o : Outcome)
      → Ends (translation f) args m o
      → (n : ℕ) × Ends f args n o × (m ≡ step_formula f args n)
  unfolding run_of
  sim_only_if m o e = case (run_of f args m) refl
    where
      case : (r : Run) → run_of f args m ≡ r → (n : ℕ) × Ends f args n o × (m ≡ step_formula f args n)
      case (Run.going p g) s =
          let t = sim_not_ended m (record { place = p; registers = g; run = s }) in
          absurd (let z : ◌≡◌ {A = ℕ} 0 1 = cc (t.run, e.run) in omega arith)
      case (Run.ended u p g) s =
          let k = ended_stops m f (start f) (start_registers f args) u p g s in
          let source = stops_ends f args k.2 in
          let a = ends_stops (translation f) args e in
          let b = ends_stops (translation f) args (sim_ends (suc k.0) u source) in
          let same = stops_once a.2 b.2 in
          (suc k.0, rw same.1 source, a.1 ∙ ap suc same.0 ∙ sym b.1)

  -- "at least n and at most 3n"
  sim_at_least : (n : ℕ) (o : Outcome) → Ends f args n o → n ≤ step_formula f args n
  unfolding step_formula
  sim_at_least n o e = omega arith

  sim_at_most : (n : ℕ) (o : Outcome) → Ends f args n o → step_formula f args n ≤ 3 * n
  unfolding step_formula formula
  sim_at_most n o e = omega (arith, formula_le n f (start f) (start_registers f args))

  pub runs_alike : RunsAlike f (translation f) args
  runs_alike = record { only_if = sim_only_if; ends = sim_ends; at_least = sim_at_least; at_most = sim_at_most; not_ended = sim_not_ended }
