-- `Kind::shr`: a negative number is counted down from -1, so its flipped number is shifted and flipped back.
use Rattle.std.proofs.Common.{◌-◌, ◌^◌, sym, ◌∙◌, div-le_self, arith}
use Rattle.arithmetic.proofs.Words.{runs, stops}
use Rattle.arithmetic.proofs.Meanings.{shifted_negative, shifted_positive}
use Rattle.arithmetic.proofs.kinds.Kind.shr.Goals as goal

pub returns-in_err-below_width : goal.returns-in_err-below_width
returns-in_err-below_width c t k =
    stops (64 - c.args.self.room) c.args.k _ c.from_residual.result c.from_residual.ensures.1 c.in_err-below_width.ensures

pub flip-requires-then-negative : goal.flip-requires-then-negative
flip-requires-then-negative c = let h = div-le_self c.flip.result (2 ^ c.args.k) in omega (arith, c.flip.ensures)

pub returns-then-negative : goal.returns-then-negative
returns-then-negative c t k =
    runs (64 - c.args.self.room) c.args.k _ c.in_ok-below_width.ensures
    (shifted_negative k c.args.a c.requires c.args.k (sym c.negative.ensures ∙ c.if-negative.true) c.flip.ensures c.flip-then-negative.ensures)

pub returns : goal.returns
returns c t k =
    runs (64 - c.args.self.room) c.args.k _ c.in_ok-below_width.ensures (shifted_positive k c.args.a c.requires c.args.k (sym c.negative.ensures ∙ c.if-negative.false))
