-- `Kind::less`: signed numbers stand as their ranks do, the others are their own meanings.
use Rattle.std.proofs.Common.{◌-◌, sym, ◌∙◌}
use Rattle.arithmetic.specs.Results.{rank_of}
use Rattle.arithmetic.proofs.Words.{shifted_less}
use Rattle.arithmetic.proofs.Meanings.{less_by_rank, less_unsigned}
use Rattle.arithmetic.proofs.kinds.Kind.less.Goals as goal

pub returns-then-self : goal.returns-then-self
returns-then-self c t k =
    rw (c.rank.ensures, c.rank-then-self.ensures)
    (shifted_less (rank_of (64 - c.args.self.room) c.args.a) (rank_of (64 - c.args.self.room) c.args.b) c.args.self.room
    ∙ sym (less_by_rank k c.args.a c.args.b c.requires.0 c.requires.1 c.if-self.true))

pub returns-else-self : goal.returns-else-self
returns-else-self c t k = sym (less_unsigned k c.args.a c.args.b c.requires.0 c.requires.1 c.if-self.false)
