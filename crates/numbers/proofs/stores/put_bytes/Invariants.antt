-- The loop's invariant: the first i bytes are copied.
use Prim.Native.Nat.{◌≤◌}
use mathlib.Core.Path.{◌≡◌}
use lib.ListN.{length}
use lib.Seq.{paste}
use Rattle.numbers.proofs.stores.put_bytes.Given as goal

abbrev pub invariant-loop-i : goal.invariant-loop-i
invariant-loop-i l = (l.i ≤ length l.s) × (length l.t ≡ length l.initial.t) × (l.t ≡ paste l.initial.t l.k l.s l.i)
