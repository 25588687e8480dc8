-- `Kind::conv`: a negative meaning is counted down from -1, so its flipped number is cut to the width and flipped back.
use Rattle.std.proofs.Common.{◌-◌, sym, ◌∙◌, mod-lt, pow_pos}
use Rattle.arithmetic.proofs.Meanings.{converted_negative, converted_positive}
use Rattle.arithmetic.proofs.kinds.Kind.conv.Goals as goal

pub flip-requires-then-negative : goal.flip-requires-then-negative
flip-requires-then-negative c = (rw c.keep.ensures (mod-lt c.flip.result (pow_pos (64 - c.args.to.room))))

pub returns-then-negative : goal.returns-then-negative
returns-then-negative c t k =
    converted_negative k c.args.x c.requires (64 - c.args.to.room) (sym c.negative.ensures ∙ c.if-negative.true) c.flip.ensures c.keep.ensures c.flip-then-negative.ensures

pub returns-else-negative : goal.returns-else-negative
returns-else-negative c t k =
    converted_positive k c.args.x c.requires (64 - c.args.to.room) (sym c.negative.ensures ∙ c.if-negative.false) c.keep-else-negative.ensures
