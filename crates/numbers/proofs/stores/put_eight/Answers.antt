-- Two runs, the second where the first ends.
use Prim.Native.Nat.{◌/◌}
use mathlib.Core.Path.{refl}
use Rattle.laws.proofs.Cells.{sets_then}
use Rattle.language.specs.Table.{four_bytes}
use Rattle.numbers.proofs.stores.put_eight.Goals as goal

pub returns : goal.returns
returns c =
    let args = c.args in
    sets_then args.t.now (four_bytes args.n) (four_bytes (args.n / 4294967296)) args.k refl c.put_four.ensures c.put_four-2.ensures
