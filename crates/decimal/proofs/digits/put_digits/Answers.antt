-- `decimal::digits::put_digits`: 2^64 is below 10^20.
use native.Mathlib.Omega.{arith}
use Rattle.decimal.proofs.DigitsLaws.{digits_twenty}
use Rattle.decimal.proofs.digits.put_digits.Goals as goal

pub put-requires : goal.put-requires
put-requires c = omega (arith, digits_twenty c.args.n c.ranges.n.fits)

pub returns : goal.returns
returns c =
    let written = c.put.ensures in
    (written, omega (arith, written.next, digits_twenty c.args.n c.ranges.n.fits))
