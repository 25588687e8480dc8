-- `lexer::contents::contents_of`: what is gathered, or a part of the text.
use mathlib.Core.Path.{refl, sym}
use native.Mathlib.Nat.{add-sub_cancel_left, min-le_left}
use native.Mathlib.Omega.{arith}
use lib.ListN.{drop, length-take}
use lib.Seq.{length-take-le}
use borrow.Author.Tests.{eq-eqb, ne_eqb}
use Rattle.lexer.specs.Contents.{gathered_place, contents_in}
use Rattle.lexer.proofs.contents.contents_of.Goals as goal

pub slice_bounds-result-end : goal.slice_bounds-result-end
slice_bounds-result-end c = let a = c.args in sym (length-take-le a.n a.held.now c.requires.0)

pub returns-then-from-eq-GATHERED : goal.returns-then-from-eq-GATHERED
unfolding contents_in
returns-then-from-eq-GATHERED c =
    let a = c.args in
    rw (eq-eqb a.from gathered_place c.if-from-eq-GATHERED.true) (refl, rw (length-take a.n a.held.now) (min-le_left a.n _))

pub overflow_add-end : goal.overflow_add-end
overflow_add-end c = omega (arith, c.requires.1 c.if-from-eq-GATHERED.false)

pub slice_bounds-result-end-2 : goal.slice_bounds-result-end-2
slice_bounds-result-end-2 c = c.requires.1 c.if-from-eq-GATHERED.false

pub returns : goal.returns
unfolding contents_in
returns c =
    let a = c.args in
    rw (ne_eqb a.from gathered_place c.if-from-eq-GATHERED.false, add-sub_cancel_left a.from a.n)
    (refl, rw (length-take a.n (drop a.from a.text.now)) (min-le_left a.n _))
