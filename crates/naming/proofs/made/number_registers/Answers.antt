-- `naming::number_registers`: the names of the registers, where the table has them.
use Rattle.naming.proofs.InFunction.{registers_numbered}
use Rattle.naming.proofs.made.number_registers.Goals as goal

pub returns : goal.returns
returns c =
    registers_numbered c.args.t.now c.args.a c.requires.1 c.register_count-count.ensures.0
    c.number_names.ensures
