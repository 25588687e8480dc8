-- `vocabulary::lookup::rest_of`: the last bytes, shifted to their place behind the second byte or the next four.
use native.Mathlib.Omega.{arith}
use lib.Pow.{shr_le}
use lib.ListN.{length}
use Prim.Native.Nat.{◌-◌, ◌*◌}
use Rattle.vocabulary.proofs.Packing.{bytes_each, rest_short, rest_long}
use Rattle.vocabulary.proofs.lookup.rest_of.Goals as goal

pub overflow_mul-result-then-n-lt5 : goal.overflow_mul-result-then-n-lt5
overflow_mul-result-then-n-lt5 c =
    let n = length c.args.name.now in
    record { fits = omega (arith, shr_le c.two_at.result (8 * (4 - n)), c.two_at.ensures.1) }

pub overflow_add-result : goal.overflow_add-result
overflow_add-result c =
    let n = length c.args.name.now in
    record { fits = omega (arith, shr_le c.two_at.result (8 * (4 - n)), c.two_at.ensures.1, c.from.ensures, (c.type_inv.name 1).fits) }

pub returns-then-n-lt5 : goal.returns-then-n-lt5
returns-then-n-lt5 c =
    let name = c.args.name.now in
    let bytes = bytes_each name (λ k. (c.shared_slice_known-1.given k).fits) in
    rw (c.from.ensures, c.two_at.ensures.0) (rest_short name bytes c.requires.0 c.if-n-lt5.true)

pub overflow_mul-result-3 : goal.overflow_mul-result-3
overflow_mul-result-3 c =
    let n = length c.args.name.now in
    record { fits = omega (arith, shr_le c.four_at-2.result (8 * (9 - n)), c.four_at-2.ensures.1) }

pub overflow_add-result-2 : goal.overflow_add-result-2
overflow_add-result-2 c =
    let n = length c.args.name.now in
    record { fits = omega (arith, shr_le c.four_at-2.result (8 * (9 - n)), c.four_at-2.ensures.1, c.four_at.ensures.1) }

pub returns : goal.returns
returns c =
    let name = c.args.name.now in
    let bytes = bytes_each name (λ k. (c.shared_slice_known-1.given k).fits) in
    rw (c.four_at.ensures.0, c.four_at-2.ensures.0) (rest_long name bytes c.if-n-lt5.false c.requires.1)
