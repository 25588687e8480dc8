-- Two runs, the second where the first ends.
use Prim.Native.Nat.{◌/◌}
use mathlib.Core.Path.{refl}
use Rattle.laws.proofs.Cells.{sets_then}
use Rattle.language.specs.Table.{two_bytes}
use Rattle.numbers.proofs.stores.put_four.Goals as goal

pub returns : goal.returns
returns c =
    let args = c.args in
    sets_then args.t.now (two_bytes args.n) (two_bytes (args.n / 65536)) args.k refl c.put_two.ensures c.put_two-2.ensures
