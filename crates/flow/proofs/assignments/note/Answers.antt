-- The definition's own test and stores.
use native.Mathlib.Omega.{arith}
use borrow.Author.Tests.{eq-eqb, ne_eqb}
use lib.ListN.{length-set}
use Rattle.flow.specs.Assignments.{with_note}
use Rattle.flow.proofs.assignments.note.Goals as goal

pub returns-then-m-u-ne0 : goal.returns-then-m-u-ne0
unfolding with_note
returns-then-m-u-ne0 c = rw (ne_eqb _ _ c.if-m-u-ne0.true)

pub bounds-m-u-3 : goal.bounds-m-u-3
unfolding with_note
bounds-m-u-3 c = simp length-set (omega arith)

pub returns : goal.returns
unfolding with_note
returns c = rw (eq-eqb _ _ c.if-m-u-ne0.false)
