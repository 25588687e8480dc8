use native.Mathlib.Omega.{arith}
use Rattle.decimal.proofs.DigitsLaws.{digits_one, digits_more, count_one, count_more}
use Rattle.decimal.proofs.Writings.{written_then, written_one, written_length}
use Rattle.decimal.proofs.digits.+put.Goals as goal

pub bounds-out-at : goal.bounds-out-at
bounds-out-at t c = omega (arith, count_one c.args.n c.if-n-lt10.true)

pub returns-then-n-lt10 : goal.returns-then-n-lt10
returns-then-n-lt10 t c =
    rw (digits_one c.args.n c.if-n-lt10.true) (written_one c.args.out.now c.args.at c.digit.ensures)

pub put-e-requires : goal.put-e-requires
put-e-requires t c =
    let more = count_more c.args.n c.if-n-lt10.false in
    (omega arith, omega (arith, more))

pub bounds-out-e : goal.bounds-out-e
bounds-out-e t c =
    omega (arith, count_more c.args.n c.if-n-lt10.false, c.put-e.ensures.next, written_length c.put-e.ensures)

pub overflow_add-result-2 : goal.overflow_add-result-2
overflow_add-result-2 t c =
    omega (arith, count_more c.args.n c.if-n-lt10.false, c.put-e.ensures.next)

pub returns : goal.returns
returns t c =
    rw (digits_more c.args.n c.if-n-lt10.false)
    (written_then c.put-e.ensures (written_one _ _ c.digit-2.ensures))
