-- How the runs of a function and of its translation stand to each other, and what it is for a step to be matched.
-- Assumes nothing.
use mathlib.Core.Path.{◌≡◌}
use mathlib.Core.Bool.{false, cond, ◌&&◌}
use mathlib.Core.List.{List}
use Prim.Native.Nat.{ℕ, suc, ◌+◌, ◌<◌}
use lib.ListN.{length}
use Rattle.language.specs.Programs.{Row, Func, rows_at, is_phi, is_terminator, has_phi}
use Rattle.language.specs.Checking.{predecessors}
use Rattle.language.specs.Running.{Place, Outcome, Next, phis_of, came_by, step}
use Rattle.language.specs.Translating.{edge_of, translation}
use Rattle.theorems.proofs.SimulationRuns.{Goes}
use Rattle.theorems.proofs.SimulationEdges.{Beside}

-- Past the phi of a block: both runs are at the same row of the same block.
pub record Level (f : Func) (p : Place) (g : List ℕ) (q : Place) (h : List ℕ) : Type 0 where
  pub block : q.block ≡ p.block
  pub known : p.block < length f.blocks
  pub row : p.row ≡ length (phis_of (rows_at f p.block)) + q.row
  pub inside : p.row < length (rows_at f p.block)
  pub beside : Beside f g h

-- At a phi: the translation waits at the first row of the edge block.
pub record Crossing (f : Func) (p : Place) (g : List ℕ) (q : Place) (h : List ℕ) : Type 0 where
  pub known : p.block < length f.blocks
  pub came : came_by f p < length (predecessors f p.block)
  pub block : q.block ≡ edge_of f p.before p.block
  pub row : q.row ≡ 0
  pub inside : p.row < length (phis_of (rows_at f p.block))
  pub beside : Beside f g h

-- The steps that the translation owes at phi j: one for the terminator that came here, two for each phi before.
abbrev pub owed_at : ℕ → ℕ
owed_at j = suc (j + j)

-- One of the two, with d steps owed.
pub data Related (f : Func) (p : Place) (g : List ℕ) (q : Place) (h : List ℕ) (d : ℕ) : Type 0 where
  level : Level f p g q h → d ≡ 0 → Related f p g q h d
  crossing : Crossing f p g q h → d ≡ owed_at p.row → Related f p g q h d

-- What the step formula adds for a step that performs row r and goes to block b.
abbrev pub cost : Func → Row → ℕ → ℕ
cost f r b = cond (is_phi r) 1 0 + cond (is_terminator r && has_phi f b) 1 0

-- The translation's run from q meets the source's, which has come to p' with g': the steps it makes and those it then owes are
-- `total`.
pub record Meets (f : Func) (q : Place) (h : List ℕ) (p' : Place) (g' : List ℕ) (total : ℕ) : Type 0 where
  pub made : ℕ
  pub owed : ℕ
  pub place : Place
  pub registers : List ℕ
  pub goes : Goes (translation f) q h made place registers
  pub related : Related f p' g' place registers owed
  pub count : made + owed ≡ total

-- The source's step of row r has ended its run, and the translation's next step ends its own in the same way.
pub record EndsToo (f : Func) (r : Row) (q : Place) (h : List ℕ) (d : ℕ) (o : Outcome) : Type 0 where
  pub plain : is_phi r ≡ false
  pub none : d ≡ 0
  pub stop : step (translation f) q h ≡ Next.end o

-- What the source's step of row r hands back is matched by the translation from q, with d steps owed: the runs meet again after
-- those and the formula's for this step, or both end.
abbrev pub Matched : Func → Row → Place → List ℕ → ℕ → Next → Type 0
Matched f r q h d (Next.go p' g') = Meets f q h p' g' (suc (d + cost f r p'.block))
Matched f r q h d (Next.end o) = EndsToo f r q h d o

-- Where `onward` and `enter` go.
abbrev pub next_row : Place → Place
next_row p = record { block = p.block; before = p.before; row = suc p.row; steps = suc p.steps }

abbrev pub entered : Place → ℕ → Place
entered p b = record { block = b; before = p.block; row = 0; steps = suc p.steps }
