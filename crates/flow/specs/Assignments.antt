-- Where each register is first assigned, and what holds while the rows are noted one by one.
-- Assumes nothing.
use Rattle.std.specs.Prelude.{Bool, true, false, cond, ◌≡◌, List, [], ◌∷◌, ℕ, suc, ◌+◌, ◌<◌, eqb, length, get_or, set}
use Rattle.laws.specs.Lists.{member, position}
use Rattle.language.specs.Programs.{Func, Row, max_registers, rows_of, targets_of}
use Rattle.language.specs.Checking.{assigned_in}
use Rattle.flow.specs.Layout.{homes_offset, flow_length, assignment_in, home_in}

-- 1 and the first row that assigns register u, or 0 if none does.
unfoldable pub assigned_at : Func → ℕ → ℕ
assigned_at f u = cond (assigned_in (rows_of f) u) (suc (position (λ r. member u (targets_of r)) (rows_of f))) 0

-- The first block that assigns register u.
unfoldable pub home_of : Func → ℕ → ℕ
home_of f u = position (λ b. assigned_in b.rows u) f.blocks

-- Row i assigns register u.
abbrev pub assigns_at : Func → ℕ → ℕ → Bool
assigns_at f i u = member u (targets_of (get_or (rows_of f) i Row.nop))

-- Register u after k rows: none of them assigns it, or row i is the first to.
pub data Seen (f : Func) (m : List ℕ) (k u : ℕ) : Type 0 where
  never : assignment_in m u ≡ 0 → ((i : ℕ) → i < k → assigns_at f i u ≡ false) → Seen f m k u
  since :
      (i : ℕ)
      → i < k
      → assignment_in m u ≡ suc i
      → home_in m u ≡ home_of f u
      → assigns_at f i u ≡ true
      → ((j : ℕ) → j < i → assigns_at f j u ≡ false)
      → Seen f m k u

-- The first k rows are noted.
pub record Noted (f : Func) (m : List ℕ) (k : ℕ) : Type 0 where
  pub count : length m ≡ flow_length
  pub seen : (u : ℕ) → u < max_registers → Seen f m k u

-- Row k of block b assigns register u, noted if none did before.
unfoldable pub with_note : List ℕ → ℕ → ℕ → ℕ → List ℕ
with_note m u b k = cond (eqb (assignment_in m u) 0) (set (set m u (k + 1)) (homes_offset + u) b) m

-- The same for the registers that it assigns, of which there is at most one.
abbrev pub with_notes : List ℕ → ℕ → ℕ → List ℕ → List ℕ
with_notes m b k [] = m
with_notes m b k (u ∷ us) = with_notes (with_note m u b k) b k us
