-- `lexer::runs::class_of`: the table has the class of each byte.
use Rattle.vocabulary.proofs.ByteClasses.{class_at}
use Rattle.lexer.proofs.runs.class_of.Goals as goal

pub returns : goal.returns
returns c = rw c.from.ensures (class_at c.args.classes.now c.args.b c.requires c.ranges.b.fits)
