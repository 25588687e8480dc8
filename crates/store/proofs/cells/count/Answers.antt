-- `store::count` meets its contract: a count above 1,024 counts as 1,024. Assumes nothing.
use mathlib.Core.Path.{refl}
use Prim.Native.Nat.{ℕ}
use native.Mathlib.Omega.{arith}
use Rattle.laws.proofs.Branches.{by_lt, by_not_lt}
use Rattle.language.specs.Table.{eight}
use Rattle.records.specs.Stores.{count_of}
use Rattle.store.proofs.cells.count.Goals as goal

pub returns-then-n : goal.returns-then-n
unfolding count_of
returns-then-n c =
    let n : ℕ = eight c.args.s.now 0 in
    (by_lt _ _ _ 1024 n (omega (arith, c.eight_at-n.ensures)) refl, omega arith)

pub returns : goal.returns
unfolding count_of
returns c =
    let n : ℕ = eight c.args.s.now 0 in
    (by_not_lt _ _ _ 1024 n (omega (arith, c.eight_at-n.ensures)) c.eight_at-n.ensures, omega arith)
