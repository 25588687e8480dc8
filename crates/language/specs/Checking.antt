-- The check: numbers 9 to 17 (document 01, "Numbers we answer"), in its order and with its places.
-- Assumes nothing.
use Rattle.std.specs.Prelude.{Bool, true, false, cond, not, ◌&&◌, ◌||◌, List, [], ◌∷◌, ◌++◌, map, ℕ, zero, suc, ◌+◌, ◌^◌, eqb, leb, ltb, T, length, get_or, take}
use Rattle.std.specs.Bool.{beq}
use Rattle.laws.specs.Lists.{any, all, keep, empty, gather, together, below, member, same}
use Rattle.language.specs.Instructions.{form_of, form_number, instruction_count, type_count, load_type, width, uint, void, shl_op, cmp_eq_op, conv_op, copy_op}
use Rattle.language.specs.Programs.{Row, Func, Program, max_functions, max_registers, max_blocks, max_rows, max_entries, is_ssa, block_at, rows_at, type_at, rows_of, first_row, row_place, is_phi, is_terminator, targets_of, sources_of, entries_of, named_by, op_of, form_in, entry_count}
use Rattle.language.specs.Names.{spellable}

-- ---- predecessors

-- A block's last row; a block with no rows has none, and `nop` stands for it.
abbrev pub last_row : List Row → Row
last_row [] = Row.nop
last_row (r ∷ []) = r
last_row (r ∷ (s ∷ rs)) = last_row (s ∷ rs)

-- Block y is a target of block x: x's terminator names it.
unfoldable pub goes_to : Func → ℕ → ℕ → Bool
goes_to f x y = member y (named_by (last_row (rows_at f x)))

-- "A block's predecessors are the blocks whose terminator names it, each once, in the order declared."
unfoldable pub predecessors : Func → ℕ → List ℕ
predecessors f b = keep (λ x. goes_to f x b) (below (length f.blocks))

-- ---- the row tests, 9 to 16

-- A row and where it stands: its block, and its place in it.
pub record Spot : Type 0 where
  pub block : ℕ
  pub index : ℕ
  pub row : Row

-- The row at place j of block b.
abbrev pub spot_at : Func → ℕ → ℕ → Spot
spot_at f b j = record { block = b; index = j; row = get_or (rows_at f b) j Row.nop }

abbrev pub spots_from : ℕ → ℕ → List Row → List Spot
spots_from b j [] = []
spots_from b j (r ∷ rs) = record { block = b; index = j; row = r } ∷ spots_from b (suc j) rs

-- The rows of a block.
unfoldable pub spots_in : Func → ℕ → List Spot
spots_in f b = spots_from b zero (rows_at f b)

-- The rows of a function, in order.
unfoldable pub spots_of : Func → List Spot
spots_of f = gather (spots_in f) (below (length f.blocks))

-- "Rows count from 0 through a function"
unfoldable pub row_number : Func → Spot → ℕ
row_number f s = first_row f s.block + s.index

-- Some row assigns the register u.
unfoldable pub assigned_in : List Row → ℕ → Bool
assigned_in rows u = any (λ r. member u (targets_of r)) rows

-- "A parameter is a register assigned at entry."
abbrev pub is_parameter : Func → ℕ → Bool
is_parameter f u = ltb u f.params

-- The row's number is that of an instruction of the row's form.
unfoldable pub shaped : Row → Bool
shaped r = ltb (op_of r) instruction_count && eqb (form_number (form_of (op_of r))) (form_number (form_in r))

-- A load's number is below 2^w.
abbrev pub number_fits : Row → Bool
number_fits Row.nop = true
number_fits (Row.load op t n) = ltb n (2 ^ width (load_type op))
number_fits (Row.unary op t s) = true
number_fits (Row.binary op t l r) = true
number_fits (Row.phi t es) = true
number_fits (Row.jump b) = true
number_fits (Row.branch s x y) = true
number_fits (Row.return s) = true
number_fits Row.leave = true
number_fits (Row.unknown op) = true

-- Every number of the row is in its range: the instruction, its registers, its blocks, a load's number.
unfoldable pub in_range : Func → Row → Bool
in_range f r =
    shaped r && all (λ u. ltb u (length f.registers)) (targets_of r ++ (sources_of r ++ entries_of r))
    && all (λ b. ltb b (length f.blocks)) (named_by r)
    && number_fits r

-- The types of a row's registers are as "The 36 instructions" say.
unfoldable pub typed : Func → Row → Bool
typed f Row.nop = true
typed f (Row.load op t n) = eqb (type_at f t) (load_type op)
-- ari.neg, bit.neg, copy: one type; conv: any to any
typed f (Row.unary op t s) = eqb op conv_op || eqb (type_at f t) (type_at f s)
-- arithmetic and bits: one type throughout; shifts: second source `uint`, the rest one type;
-- comparisons: sources of one type, target `uint`
typed f (Row.binary op t l r) =
    cond (ltb op shl_op) (eqb (type_at f t) (type_at f l) && eqb (type_at f l) (type_at f r))
    (cond (ltb op cmp_eq_op) (eqb (type_at f t) (type_at f l) && eqb (type_at f r) uint) (eqb (type_at f l) (type_at f r) && eqb (type_at f t) uint))
typed f (Row.phi t es) = all (λ e. eqb (type_at f e) (type_at f t)) es
typed f (Row.jump b) = true
typed f (Row.branch s x y) = eqb (type_at f s) uint
typed f (Row.return s) = eqb (type_at f s) f.result
typed f Row.leave = eqb f.result void
typed f (Row.unknown op) = true

-- 9: "number outside its range", in this row
unfoldable pub breaks9 : Func → Spot → Bool
breaks9 f s = not (in_range f s.row)

-- 10: "block without terminator at its end, or one earlier"
unfoldable pub breaks10 : Func → Spot → Bool
breaks10 f s = not (beq (is_terminator s.row) (eqb (suc s.index) (length (rows_at f s.block))))

-- 11: "types wrong, `leave` outside a void function"
unfoldable pub breaks11 : Func → Spot → Bool
breaks11 f s = not (typed f s.row)

-- 12: "ssa: register assigned twice, parameter assigned", at the "second row"
unfoldable pub breaks12 : Func → Spot → Bool
breaks12 f s =
    is_ssa f && any (λ t. is_parameter f t || assigned_in (take (row_number f s) (rows_of f)) t) (targets_of s.row)

-- 13: "`copy` in ssa, `phi` outside it"
unfoldable pub breaks13 : Func → Spot → Bool
breaks13 f s = cond (is_ssa f) (eqb (op_of s.row) copy_op) (is_phi s.row)

-- 14: "phi in entry, or after another instruction"
unfoldable pub breaks14 : Func → Spot → Bool
breaks14 f s =
    is_phi s.row && (eqb s.block f.entry || any (λ r. not (is_phi r)) (take s.index (rows_at f s.block)))

-- 15: "phi entries differ in number from predecessors, or are none"
unfoldable pub breaks15 : Func → Spot → Bool
breaks15 f s =
    let es = entries_of s.row in
    is_phi s.row && (empty es || not (eqb (length es) (length (predecessors f s.block))))

-- 16: "ssa: register used, never assigned"
unfoldable pub breaks16 : Func → Spot → Bool
breaks16 f s =
    is_ssa f && any (λ u. not (is_parameter f u || assigned_in (rows_of f) u)) (sources_of s.row ++ entries_of s.row)

-- The tests of a row for 9 to 16, by number.
unfoldable pub row_tests : Func → Spot → List Bool
row_tests f s =
    breaks9 f s ∷ breaks10 f s ∷ breaks11 f s ∷ breaks12 f s ∷ breaks13 f s ∷ breaks14 f s ∷ breaks15 f s ∷ breaks16 f s ∷ []

-- A row breaks one of 9 to 16: what is said of rows of an accepted function, in one test.
unfoldable pub breaks_row : Func → Spot → Bool
breaks_row f s = any (λ b. b) (row_tests f s)

-- ---- 17

-- "paths are sequences of blocks from entry, each a target of the one before": a path to b that went through xs, last first.
pub data Path (f : Func) : ℕ → List ℕ → Type 0 where
  here : Path f f.entry []
  on : {x : ℕ} {xs : List ℕ} → Path f x xs → (y : ℕ) → T (goes_to f x y) → Path f y (x ∷ xs)

-- Register u can be without an assignment at place j of block b: it is no parameter, some path reaches b whose earlier
-- blocks do not assign it, and no row of b before j does.
pub record Late (f : Func) (u b j : ℕ) : Type 0 where
  pub local : T (not (is_parameter f u))
  pub through : List ℕ
  pub path : Path f b through
  pub unassigned : T (all (λ x. not (assigned_in (rows_at f x) u)) through)
  pub before : T (not (assigned_in (take j (rows_at f b)) u))

-- 17: "some path from entry reaches the use without an assignment". A source is used at its row; "A phi entry is a use at the
-- end of its predecessor, placed at the phi's row", and "The k-th phi entry belongs to the k-th predecessor."
pub data Missing (f : Func) (s : Spot) : Type 0 where
  source : (u : ℕ) → T (member u (sources_of s.row)) → Late f u s.block s.index → Missing f s
  entry :
      (k : ℕ)
      → T (ltb k (length (entries_of s.row)))
      → T (ltb k (length (predecessors f s.block)))
      → (let x = get_or (predecessors f s.block) k 0 in Late f (get_or (entries_of s.row) k 0) x (length (rows_at f x)))
      → Missing f s

-- The same by computation: the blocks that some path reaches without an assignment of u, found by as many rounds as there
-- are blocks.
unfoldable pub reached_in : Func → ℕ → ℕ → List Bool
reached_in f u zero = map (λ b. eqb b f.entry) (below (length f.blocks))
reached_in f u (suc n) =
    let s = reached_in f u n in
    map (λ b. get_or s b false || any (λ x. get_or s x false && not (assigned_in (rows_at f x) u)) (predecessors f b))
    (below (length f.blocks))

unfoldable pub late : Func → ℕ → ℕ → ℕ → Bool
late f u b j =
    not (is_parameter f u) && get_or (reached_in f u (length f.blocks)) b false && not (assigned_in (take j (rows_at f b)) u)

unfoldable pub breaks17 : Func → Spot → Bool
breaks17 f s =
    is_ssa f
    && (any (λ u. late f u s.block s.index) (sources_of s.row)
    || any (λ b. b) (together (λ x u. late f u x (length (rows_at f x))) (predecessors f s.block) (entries_of s.row)))

-- ---- the order

-- What the check says: accepted, or refused with a number and its place.
pub data Verdict : Type 0 where
  accepted : Verdict
  refused : (number place : ℕ) → Verdict

-- The rows at which a test fails.
unfoldable pub rows_that : Func → (Spot → Bool) → List ℕ
rows_that f test = map (row_number f) (keep test (spots_of f))

-- 10 of a block: "A block with no rows is placed at the row where it would begin."
unfoldable pub faults10 : Func → ℕ → List ℕ
faults10 f b = cond (empty (rows_at f b)) (first_row f b ∷ []) (map (row_number f) (keep (breaks10 f) (spots_in f b)))

-- The rows at which a function breaks the numbers 10 to 17, a list for each number.
unfoldable pub faults : Func → List (List ℕ)
faults f =
    gather (faults10 f) (below (length f.blocks))
    ∷ rows_that f (breaks11 f)
    ∷ rows_that f (breaks12 f)
    ∷ rows_that f (breaks13 f)
    ∷ rows_that f (breaks14 f)
    ∷ rows_that f (breaks15 f)
    ∷ rows_that f (breaks16 f)
    ∷ rows_that f (breaks17 f)
    ∷ []

-- "lowest number first, then earliest row": the first row of the first list that has one, the lists being those of number k
-- and of the numbers after it.
abbrev pub first_fault : ℕ → ℕ → List (List ℕ) → Verdict
first_fault i k [] = Verdict.accepted
first_fault i k ([] ∷ ls) = first_fault i (suc k) ls
first_fault i k ((r ∷ rs) ∷ ls) = Verdict.refused k (row_place i r)

-- ---- 9

-- No name stands twice; "a name of no bytes" is "compared with nothing".
abbrev pub distinct : List (List ℕ) → Bool
distinct [] = true
distinct (n ∷ ns) = (empty n || not (any (same n) ns)) && distinct ns

-- "Registers and blocks may have a name of no bytes"; any other is one that a text can spell.
unfoldable pub spellable_or_none : List ℕ → Bool
spellable_or_none n = empty n || spellable n

-- "size exceeded"
unfoldable pub sizes_right : Func → Bool
sizes_right f =
    leb (length f.registers) max_registers && leb (length f.blocks) max_blocks && leb (length (rows_of f)) max_rows
    && leb (entry_count f) max_entries

-- "number outside its range"
unfoldable pub numbers_right : Func → Bool
numbers_right f =
    ltb f.ssa 2 && leb f.result void && leb f.params (length f.registers)
    && all (λ r. ltb r.type type_count) f.registers
    && all (in_range f) (rows_of f)

-- "no entry block"; entry always has a name of no bytes
unfoldable pub entry_right : Func → Bool
entry_right f = ltb f.entry (length f.blocks) && empty (block_at f f.entry).name

-- "a name no text can spell .., or one declared twice"
unfoldable pub names_right : Func → Bool
names_right f =
    spellable f.name && all (λ r. spellable_or_none r.name) f.registers && all (λ b. spellable_or_none b.name) f.blocks
    && distinct (map (λ r. r.name) f.registers)
    && distinct (map (λ b. b.name) f.blocks)

-- Function-wide 9 does not hold, the functions before having these names; `placed`: "block rows not in sequence".
unfoldable pub sound : List (List ℕ) → Func → Bool
sound names f =
    f.placed && sizes_right f && numbers_right f && entry_right f && names_right f && not (any (same f.name) names)

-- ---- the whole check

-- Function number i, those before it having these names.
unfoldable pub judge : List (List ℕ) → ℕ → Func → Verdict
judge names i f = cond (sound names f) (first_fault i 10 (faults f)) (Verdict.refused 9 i)

-- "functions in order"
unfoldable pub judge_from : List (List ℕ) → ℕ → List Func → Verdict
judge_from names i [] = Verdict.accepted
judge_from names i (f ∷ fs) =
    elim (judge names i f) [ Verdict.accepted ↦ judge_from (f.name ∷ names) (suc i) fs | Verdict.refused k r ↦ Verdict.refused k r ]

-- The check of a program: 9 at 0 for the function count, then each function.
unfoldable pub check : Program → Verdict
check p = cond (leb (length p) max_functions) (judge_from [] zero p) (Verdict.refused 9 0)
