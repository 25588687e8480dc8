-- Two numbers one behind the other.
use Prim.Native.Nat.{◌+◌, ◌*◌}
use native.Mathlib.Omega.{arith}
use Rattle.laws.proofs.Cells.{sets_then}
use Rattle.language.specs.Table.{two_bytes, block_length, blocks_offset, function_at}
use Rattle.translator.proofs.kept.put_place.Goals as goal

pub returns : goal.returns
returns c =
    let args = c.args in
    sets_then args.out.now (two_bytes args.first) (two_bytes args.rows) (function_at 0 + blocks_offset + block_length * args.b) (omega arith) c.put_two.ensures c.put_two-2.ensures
