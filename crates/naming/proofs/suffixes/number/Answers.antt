-- `naming::suffixes::number`: a name of another form is no made one, and one of the form is told by its digits.
use mathlib.Core.Path.{refl, sym}
use native.Mathlib.Omega.{arith}
use Rattle.naming.proofs.NumbersLaws.{too_short, too_long, other_first, no_dot, bounded_is, bounded_other, of_one, of_two, of_three}
use Rattle.naming.proofs.suffixes.number.Goals as goal
use Rattle.naming.proofs.suffixes.number.Goals.{then-n-lt3-via-then-n-lt3, then-n-lt3-via-else-n-lt3+then-n-gt5, then-n-lt3-via-else-n-lt3+else-n-gt5+then-name-first, then-n-lt3-via-else-n-lt3+else-n-gt5+else-name-first+then-name-ne46}

pub returns-then-n-lt3 : goal.returns-then-n-lt3
returns-then-n-lt3 c =
    let s = c.args in
    elim c.then-n-lt3.branch [
      | then-n-lt3-via-then-n-lt3 w ↦ too_short s.first s.name.now w.if-n-lt3.true
      | then-n-lt3-via-else-n-lt3+then-n-gt5 w ↦ too_long s.first s.name.now w.if-n-gt5.true
      | then-n-lt3-via-else-n-lt3+else-n-gt5+then-name-first w ↦ other_first s.first s.name.now w.if-name-first.true
      | then-n-lt3-via-else-n-lt3+else-n-gt5+else-name-first+then-name-ne46 w ↦ no_dot s.first s.name.now w.if-name-ne46.true
    ]

pub returns-then-n-eq3 : goal.returns-then-n-eq3
returns-then-n-eq3 c =
    let s = c.args in
    of_one s.first s.name.now c.if-name-first.false c.if-name-ne46.false c.if-n-eq3.true refl c.digit.ensures.value

pub returns-in_err-digit : goal.returns-in_err-digit
returns-in_err-digit c =
    let s = c.args in
    rw c.from_residual.ensures
    (of_two s.first s.name.now c.if-name-first.false c.if-name-ne46.false c.if-n-eq4.true refl refl c.in_err-digit.ensures.value refl (sym (bounded_other _ (omega arith))))

pub returns-in_err-digit-2 : goal.returns-in_err-digit-2
returns-in_err-digit-2 c =
    let s = c.args in
    rw c.from_residual-in_err-digit-2.ensures
    (of_two s.first s.name.now c.if-name-first.false c.if-name-ne46.false c.if-n-eq4.true refl refl c.in_ok-digit.ensures.value c.in_err-digit-2.ensures.value (sym (bounded_other _ (omega arith))))

pub returns-then-n-eq4 : goal.returns-then-n-eq4
returns-then-n-eq4 c =
    let s = c.args in
    of_two s.first s.name.now c.if-name-first.false c.if-name-ne46.false c.if-n-eq4.true refl refl c.in_ok-digit.ensures.value c.in_ok-digit-2.ensures.value
    (sym (bounded_is _ (omega (arith, c.in_ok-digit.ensures.within, c.in_ok-digit-2.ensures.within))))

pub returns-in_err-digit-3 : goal.returns-in_err-digit-3
returns-in_err-digit-3 c =
    let s = c.args in
    rw c.from_residual-in_err-digit-3.ensures
    (of_three s.first s.name.now c.if-name-first.false c.if-name-ne46.false (omega arith) refl refl refl c.in_err-digit-3.ensures.value refl refl (sym (bounded_other _ (omega arith))))

pub returns-in_err-digit-4 : goal.returns-in_err-digit-4
returns-in_err-digit-4 c =
    let s = c.args in
    rw c.from_residual-in_err-digit-4.ensures
    (of_three s.first s.name.now c.if-name-first.false c.if-name-ne46.false (omega arith) refl refl refl c.in_ok-digit-3.ensures.value c.in_err-digit-4.ensures.value refl (sym (bounded_other _ (omega arith))))

pub returns-in_err-j : goal.returns-in_err-j
returns-in_err-j c =
    let s = c.args in
    rw c.from_residual-in_err-j.ensures
    (of_three s.first s.name.now c.if-name-first.false c.if-name-ne46.false (omega arith) refl refl refl c.in_ok-digit-3.ensures.value c.in_ok-digit-4.ensures.value c.in_err-j.ensures.value (sym (bounded_other _ (omega arith))))

pub returns-then-j-lt-OTHER : goal.returns-then-j-lt-OTHER
returns-then-j-lt-OTHER c =
    let s = c.args in
    of_three s.first s.name.now c.if-name-first.false c.if-name-ne46.false (omega arith) refl refl refl c.in_ok-digit-3.ensures.value c.in_ok-digit-4.ensures.value c.in_ok-j.ensures.value (sym (bounded_is _ c.if-j-lt-OTHER.true))

pub returns : goal.returns
returns c =
    let s = c.args in
    of_three s.first s.name.now c.if-name-first.false c.if-name-ne46.false (omega arith) refl refl refl c.in_ok-digit-3.ensures.value c.in_ok-digit-4.ensures.value c.in_ok-j.ensures.value (sym (bounded_other _ c.if-j-lt-OTHER.false))
