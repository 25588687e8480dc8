-- `listing::put_line`: the name's spelling, the ssa mark, the sizes.
use native.Mathlib.Omega.{arith}
use Rattle.decimal.proofs.Writings.{written_length}
use Rattle.listing.proofs.Lines.{line_written, name_written}
use Rattle.listing.proofs.put_line.Goals as goal

pub put_field-f-requires : goal.put_field-f-requires
put_field-f-requires c =
    let name = name_written c.args.t.now c.args.a c.requires.1 c.function_name.ensures c.args.at c.requires.3 c.put_spelling-e.ensures in
    omega (arith, c.requires.2, name.1, written_length name.0)

pub put_sizes-requires : goal.put_sizes-requires
put_sizes-requires c =
    let name = name_written c.args.t.now c.args.a c.requires.1 c.function_name.ensures c.args.at c.requires.3 c.put_spelling-e.ensures in
    let mark = c.put_field-f.ensures in
    (c.requires.0, c.requires.1, omega (arith, c.requires.2, name.1, mark.1, written_length name.0, written_length mark.0))

pub returns : goal.returns
returns c =
    let name = name_written c.args.t.now c.args.a c.requires.1 c.function_name.ensures c.args.at c.requires.3 c.put_spelling-e.ensures in
    let mark = c.put_field-f.ensures in
    let sizes = c.put_sizes.ensures in (
      line_written c.args.t.now c.args.a c.function_name.ensures c.function_ssa.ensures name.0 mark.0 sizes.0,
      omega (arith, name.1, mark.1, sizes.1),
    )
