-- `Kind::rol`: the bits shifted out at the top come in at the bottom; the two parts do not overlap, so the sum is below 2^w.
use Rattle.std.proofs.Common.{◌-◌, lt_of_lt_of_le, arith}
use Rattle.language.proofs.Fitting.{rol_below}
use Rattle.arithmetic.proofs.Words.{all_bits, turned_left, runs, stops}
use Rattle.arithmetic.proofs.kinds.Kind.rol.Goals as goal

pub returns-in_err-below_width : goal.returns-in_err-below_width
returns-in_err-below_width c =
    stops (64 - c.args.self.room) c.args.k _ c.from_residual.result c.from_residual.ensures.1 c.in_err-below_width.ensures

pub overflow_add-result : goal.overflow_add-result
overflow_add-result c =
    let v = c.args in
    record { fits = rw (turned_left v.self.room v.a v.k c.args.self.below c.in_ok-below_width.ensures c.keep.ensures) (lt_of_lt_of_le (rol_below (64 - v.self.room) v.a v.k c.requires (omega arith)) (all_bits v.self.room c.args.self.below)) }

pub returns : goal.returns
returns c =
    let v = c.args in
    runs (64 - v.self.room) v.k _ c.in_ok-below_width.ensures (turned_left v.self.room v.a v.k c.args.self.below c.in_ok-below_width.ensures c.keep.ensures)
