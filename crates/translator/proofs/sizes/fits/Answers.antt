-- Each size is held to its limit in the order of the definition.
use Rattle.language.specs.Table.{decode_function}
use Rattle.translator.proofs.SizesLaws.{over_registers, over_blocks, by_rows}
use Rattle.translator.proofs.sizes.fits.Goals as goal

pub measure-s-requires : goal.measure-s-requires
measure-s-requires c = record { sized = c.requires.sized; prepared = c.requires.prepared; clean = c.requires.clean }

pub returns-then-s-gt-MAX_REGISTERS : goal.returns-then-s-gt-MAX_REGISTERS
returns-then-s-gt-MAX_REGISTERS c =
    let args = c.args in
    over_registers (decode_function args.t.now args.a) c.measure-s.result c.measure-s.ensures c.if-s-gt-MAX_REGISTERS.true

pub returns-then-s-gt-MAX_BLOCKS : goal.returns-then-s-gt-MAX_BLOCKS
returns-then-s-gt-MAX_BLOCKS c =
    let args = c.args in
    over_blocks (decode_function args.t.now args.a) c.measure-s.result c.measure-s.ensures c.if-s-gt-MAX_REGISTERS.false c.if-s-gt-MAX_BLOCKS.true

pub returns : goal.returns
returns c =
    let args = c.args in
    by_rows (decode_function args.t.now args.a) c.measure-s.result c.measure-s.ensures c.if-s-gt-MAX_REGISTERS.false c.if-s-gt-MAX_BLOCKS.false
