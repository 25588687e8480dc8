-- Four stores, one after the other.
use mathlib.Core.Path.{refl}
use native.Mathlib.Numerals.{add-one, add-two, add-three}
use native.Mathlib.Omega.{arith}
use lib.ListN.{length-set}
use Rattle.language.specs.Answers.{number_cells}
use Rattle.answers.proofs.figures.Answer.put.Goals as goal

pub bounds-out-k-2 : goal.bounds-out-k-2
bounds-out-k-2 c = simp length-set (omega arith)

pub bounds-out-k-3 : goal.bounds-out-k-3
bounds-out-k-3 c = simp length-set (omega arith)

pub bounds-out-k-4 : goal.bounds-out-k-4
bounds-out-k-4 c = simp length-set (omega arith)

pub returns : goal.returns
unfolding number_cells
returns c = let k = c.args.k in rw (← add-three k, ← add-two k, ← add-one k) refl
