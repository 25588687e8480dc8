-- `Kind::shl`: what is right modulo 2^64 is right modulo 2^w.
use Rattle.std.proofs.Common.{◌-◌, ◌*◌, ◌^◌, refl}
use Rattle.arithmetic.proofs.Words.{reduced, runs, stops}
use Rattle.arithmetic.proofs.kinds.Kind.shl.Goals as goal

pub returns-in_err-below_width : goal.returns-in_err-below_width
returns-in_err-below_width c =
    stops (64 - c.args.self.room) c.args.k _ c.from_residual.result c.from_residual.ensures.1 c.in_err-below_width.ensures

pub returns : goal.returns
returns c =
    runs (64 - c.args.self.room) c.args.k _ c.in_ok-below_width.ensures (reduced c.args.self.room c.args.self.below (c.args.a * 2 ^ c.args.k) refl c.keep.ensures)
