-- The loop's invariant: the bytes from i up to here have no quote.
use Prim.Native.Nat.{◌-◌, ◌≤◌}
use mathlib.Core.Path.{◌≡◌}
use lib.ListN.{length, take, drop}
use Rattle.language.specs.Names.{escaped}
use Rattle.token_text.proofs.spellings.next_quote.Given as goal

abbrev pub invariant-loop-k : goal.invariant-loop-k
invariant-loop-k l = (l.i ≤ l.k) × (l.k ≤ length l.name) × (escaped (take (l.k - l.i) (drop l.i l.name)) ≡ take (l.k - l.i) (drop l.i l.name))
