-- The check by computation: a smallest refused program with its place for each clause of 9 to 17, and the order between them.
-- Assumes nothing.
use mathlib.Core.Path.{◌≡◌, refl}
use mathlib.Core.Bool.{false}
use mathlib.Core.List.{List, [], ◌∷◌, map}
use Prim.Native.Nat.{ℕ}
use lib.ListN.{replicate}
use Rattle.language.specs.Bytes.{bytes_of}
use Rattle.language.specs.Instructions.{uint, void}
use Rattle.language.specs.Programs.{Row, Func, Program}
use Rattle.language.specs.Checking.{Verdict, check}
use Rattle.language.proofs.Computing.{computing}
use Rattle.language.proofs.Examples.{func, named, with_names, plain_blocks, plain_registers}

-- A program and what the check says of it.
pub record Case : Type 0 where
  pub program : Program
  pub verdict : Verdict

abbrev one : Func → ℕ → ℕ → Case
one f k r = record { program = f ∷ []; verdict = Verdict.refused k r }

abbrev fine : Program → Case
fine p = record { program = p; verdict = Verdict.accepted }

-- `f` with one block that leaves, and these registers' types.
abbrev leaving : List Row → Func
leaving rows = func 0 void 0 (4 ∷ []) (rows ∷ [])

abbrev stop : List Row
stop = Row.leave ∷ []

-- One block that leaves, with this name on a register.
abbrev register_named : List ℕ → Func
register_named n = with_names (record { type = 4; name = n } ∷ []) (plain_blocks (stop ∷ []))

abbrev accepts : List Case
accepts =
    fine [] ∷ fine (leaving stop ∷ [])
    -- a name of no bytes is compared with nothing; contents may be a word's letters, or a quote alone
    ∷ fine (with_names (plain_registers (4 ∷ 4 ∷ [])) (plain_blocks (stop ∷ stop ∷ [])) ∷ [])
    ∷ fine (register_named (bytes_of "entry") ∷ [])
    ∷ fine (register_named (bytes_of "'") ∷ [])
    ∷ []

-- 9, placed at the function
abbrev ranges : List Case
ranges =
    record { program = replicate 17 (leaving stop); verdict = Verdict.refused 9 0 }
    ∷ one (func 2 void 0 [] (stop ∷ [])) 9 0
    ∷ one (func 0 11 0 [] (stop ∷ [])) 9 0
    ∷ one (func 0 void 1 [] (stop ∷ [])) 9 0
    ∷ one (func 0 void 0 (10 ∷ []) (stop ∷ [])) 9 0
    -- an instruction's number, a register, a block, a load's number
    ∷ one (leaving (Row.unknown 36 ∷ stop)) 9 0
    ∷ one (leaving (Row.unary 9 0 0 ∷ stop)) 9 0
    ∷ one (leaving (Row.load 2 1 0 ∷ stop)) 9 0
    ∷ one (leaving (Row.jump 1 ∷ [])) 9 0
    ∷ one (leaving (Row.load 2 0 256 ∷ stop)) 9 0
    -- sizes
    ∷ one (func 0 void 0 (replicate 257 4) (stop ∷ [])) 9 0
    ∷ one (func 0 void 0 [] (replicate 65 stop)) 9 0
    -- block rows not in sequence, no entry block, a named one
    ∷ one (record { name = bytes_of "f"; ssa = 0; result = void; params = 0; registers = []; blocks = plain_blocks (stop ∷ []); entry = 0; placed = false }) 9 0
    ∷ one (func 0 void 0 [] []) 9 0
    ∷ one (with_names [] (record { name = bytes_of "b"; rows = stop } ∷ [])) 9 0
    ∷ []

-- 9: names
abbrev names : List Case
names =
    one (named "" 0 void 0 [] (stop ∷ [])) 9 0
    ∷ one (named "a\\" 0 void 0 [] (stop ∷ [])) 9 0
    ∷ one (register_named (bytes_of "\\")) 9 0
    ∷ one (register_named (bytes_of "'a\\")) 9 0
    ∷ one (register_named (replicate 65 97)) 9 0
    ∷ fine (register_named (replicate 64 97) ∷ [])
    ∷ fine (register_named (bytes_of "1a") ∷ [])
    ∷ fine (register_named (bytes_of "''") ∷ [])
    ∷ fine (register_named (bytes_of "\\'\n\0 b") ∷ [])
    ∷ one (with_names (record { type = 4; name = bytes_of "a" } ∷ record { type = 4; name = bytes_of "a" } ∷ []) (plain_blocks (stop ∷ []))) 9 0
    ∷ record { program = leaving stop ∷ leaving stop ∷ []; verdict = Verdict.refused 9 1 }
    ∷ []

-- 10 to 17, placed at the row; the ssa examples return nothing and have registers of `uint8` (4) and one `uint`
abbrev ssa : ℕ → List (List Row) → Func
ssa params blocks = func 1 void params (4 ∷ 4 ∷ uint ∷ []) blocks

abbrev rows : List Case
rows =
    one (leaving (Row.nop ∷ [])) 10 0
    ∷ one (leaving (Row.leave ∷ Row.nop ∷ Row.leave ∷ [])) 10 0
    ∷ one (func 0 void 0 [] (stop ∷ [] ∷ stop ∷ [])) 10 1
    ∷ one (leaving (Row.load 1 0 0 ∷ stop)) 11 0
    ∷ one (func 0 4 0 [] (stop ∷ [])) 11 0
    ∷ one (func 0 4 0 (3 ∷ []) ((Row.return 0 ∷ []) ∷ [])) 11 0
    ∷ one (ssa 0 ((Row.load 2 0 1 ∷ Row.load 2 0 1 ∷ stop) ∷ [])) 12 1
    ∷ one (ssa 1 ((Row.load 2 0 1 ∷ stop) ∷ [])) 12 0
    ∷ one (ssa 1 ((Row.unary 30 1 0 ∷ stop) ∷ [])) 13 0
    ∷ one (func 0 void 0 (4 ∷ []) ((Row.jump 1 ∷ []) ∷ (Row.phi 0 (0 ∷ []) ∷ stop) ∷ [])) 13 1
    ∷ one (ssa 1 ((Row.phi 1 (0 ∷ []) ∷ Row.jump 0 ∷ []) ∷ [])) 14 0
    ∷ one (ssa 1 ((Row.jump 1 ∷ []) ∷ (Row.nop ∷ Row.phi 1 (0 ∷ []) ∷ stop) ∷ [])) 14 2
    ∷ one (ssa 1 ((Row.jump 1 ∷ []) ∷ (Row.phi 1 (0 ∷ 0 ∷ []) ∷ stop) ∷ [])) 15 1
    ∷ one (ssa 1 (stop ∷ (Row.phi 1 [] ∷ stop) ∷ [])) 15 1
    -- an unreachable block has no path: 16 is given there, 17 is not
    ∷ one (ssa 0 (stop ∷ (Row.unary 14 0 1 ∷ stop) ∷ [])) 16 1
    ∷ fine (ssa 0 (stop ∷ (Row.unary 14 0 1 ∷ Row.load 2 1 1 ∷ stop) ∷ []) ∷ [])
    ∷ one (ssa 0 ((Row.unary 14 0 1 ∷ Row.load 2 1 1 ∷ stop) ∷ [])) 17 0
    -- lowest number first, then earliest row; functions in order, each with its number in its places
    ∷ one (ssa 0 ((Row.unary 14 0 1 ∷ Row.load 2 0 1 ∷ stop) ∷ [])) 12 1
    ∷ record { program = named "g" 0 void 0 [] (stop ∷ []) ∷ leaving (Row.nop ∷ []) ∷ []; verdict = Verdict.refused 10 2048 }
    ∷ []

-- The check says of each program what stands beside it.
pub Right : List Case → Type 0
Right cs = map (λ c. check c.program) cs ≡ map (λ c. c.verdict) cs

pub accepts_right : Right accepts
unfolding computing Right
accepts_right = refl

pub ranges_right : Right ranges
unfolding computing Right
ranges_right = refl

pub names_right : Right names
unfolding computing Right
names_right = refl

pub rows_right : Right rows
unfolding computing Right
rows_right = refl
