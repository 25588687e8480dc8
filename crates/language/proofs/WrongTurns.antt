-- "Wrong turns seen here": a fact for each of document 01's five, over the smallest function that tells the right way from the wrong.
-- Assumes nothing.
use mathlib.Core.Path.{◌≡◌, refl}
use mathlib.Core.List.{List, [], ◌∷◌, map}
use Prim.Native.Nat.{ℕ}
use Rattle.language.specs.Instructions.{uint, copy_op}
use Rattle.language.specs.Programs.{Row, Func}
use Rattle.language.specs.Checking.{Verdict, check, predecessors}
use Rattle.language.specs.Running.{Outcome, run_of}
use Rattle.language.specs.Translating.{translation}
use Rattle.language.proofs.Computing.{computing}
use Rattle.language.proofs.Examples.{func}
use Rattle.language.proofs.ReadingFacts.{turn}
use Rattle.language.proofs.RunFacts.{summary}

-- "Phi turned into copies in row order: P3 then gives 9." `turn` with its copies in row order: parameters a 0, b 1, n 2; x 3, y 4, k 5, one 6, z 7, m 8,
-- c 9.
abbrev pub in_row_order : Func
in_row_order =
    func 0 7 3 (7 ∷ 7 ∷ 4 ∷ 7 ∷ 7 ∷ 4 ∷ 4 ∷ 4 ∷ 4 ∷ uint ∷ [])
    ((Row.load 2 6 1 ∷ Row.load 2 7 0 ∷ Row.unary copy_op 3 0 ∷ Row.unary copy_op 4 1 ∷ Row.unary copy_op 5 2 ∷ Row.jump 1 ∷ [])
    ∷ (Row.binary 23 9 5 7 ∷ Row.branch 9 3 2 ∷ [])
    ∷ (Row.binary 10 8 5 6 ∷ Row.unary copy_op 3 4 ∷ Row.unary copy_op 4 3 ∷ Row.unary copy_op 5 8 ∷ Row.jump 1 ∷ [])
    ∷ (Row.return 3 ∷ [])
    ∷ [])

abbrev given : List ℕ
given = 7 ∷ 9 ∷ 2 ∷ []

pub parallel : (summary (run_of turn given 23)).outcome ≡ Outcome.returned 7
unfolding computing turn
parallel = refl

pub parallel_translated : (summary (run_of (translation turn) given 35)).outcome ≡ Outcome.returned 7
unfolding computing turn
parallel_translated = refl

pub row_order_differs : (summary (run_of in_row_order given 99)).outcome ≡ Outcome.returned 9
unfolding computing
row_order_differs = refl

-- "Copies placed at the end of a predecessor with two targets: they run on the wrong branch too." Block 1 goes to itself or out, and out returns
-- the phi's target: parameters a 0, one 1, again 2; x 3, y 4.
abbrev pub leaves_loop : Func
leaves_loop =
    func 1 4 3 (4 ∷ 4 ∷ uint ∷ 4 ∷ 4 ∷ [])
    ((Row.jump 1 ∷ [])
    ∷ (Row.phi 3 (0 ∷ 4 ∷ []) ∷ Row.binary 9 4 3 1 ∷ Row.branch 2 1 2 ∷ [])
    ∷ (Row.return 3 ∷ [])
    ∷ [])

pub one_branch : check (leaves_loop ∷ []) ≡ Verdict.accepted
unfolding computing
one_branch = refl

pub one_branch_translated : (summary (run_of (translation leaves_loop) (5 ∷ 1 ∷ 0 ∷ []) 99)).outcome ≡ Outcome.returned 5
unfolding computing
one_branch_translated = refl

-- "A use counted as defined because some path assigns it." Block 1 assigns register 1, block 2 does not, block 3 uses it in row 4.
pub some_path :
    check
    (func 1 4 1 (uint ∷ 4 ∷ [])
    ((Row.branch 0 1 2 ∷ []) ∷ (Row.load 2 1 5 ∷ Row.jump 3 ∷ []) ∷ (Row.jump 3 ∷ []) ∷ (Row.return 1 ∷ []) ∷ []) ∷ [])
    ≡ Verdict.refused 17 4
unfolding computing
some_path = refl

-- "A phi entry checked at the phi, not at its predecessor's end." Row 1 assigns register 1, which row 2 has as an entry: at the end of block 0 it is
-- not assigned.
pub entry_early :
    check
    (func 1 4 1 (4 ∷ 4 ∷ 4 ∷ [])
    ((Row.jump 1 ∷ []) ∷ (Row.phi 1 (0 ∷ []) ∷ Row.phi 2 (1 ∷ []) ∷ Row.return 2 ∷ []) ∷ []) ∷ [])
    ≡ Verdict.refused 17 2
unfolding computing
entry_early = refl

-- `jump.cond` "with twice the same block counted as two predecessors": it is one, and its phi has one entry.
abbrev twice : List ℕ → Func
twice entries = func 1 4 2 (uint ∷ 4 ∷ 4 ∷ []) ((Row.branch 0 1 1 ∷ []) ∷ (Row.phi 2 entries ∷ Row.return 2 ∷ []) ∷ [])

pub one_predecessor : predecessors (twice (1 ∷ [])) 1 ≡ 0 ∷ []
unfolding computing
one_predecessor = refl

pub one_entry : map (λ es. check (twice es ∷ [])) ((1 ∷ []) ∷ (1 ∷ 1 ∷ []) ∷ []) ≡ Verdict.accepted ∷ Verdict.refused 15 1 ∷ []
unfolding computing
one_entry = refl

-- Both names of that `jump.cond` change in the translation.
pub both_names : (summary (run_of (translation (twice (1 ∷ []))) (0 ∷ 6 ∷ []) 99)).outcome ≡ Outcome.returned 6
unfolding computing
both_names = refl
