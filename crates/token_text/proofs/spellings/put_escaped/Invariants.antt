-- The loop's invariant: the runs from the first quote up to place i stand on the page with their backslashes, and at i stands a quote or the end.
use Prim.Native.Nat.{◌-◌, ◌≤◌, ◌<◌}
use mathlib.Core.Path.{◌≡◌}
use lib.ListN.{length, get_or}
use Rattle.language.specs.Bytes.{quote_byte}
use Rattle.language.specs.Names.{escaped}
use Rattle.page.specs.Page.{page, puts}
use Rattle.token_text.proofs.Escaping.{run}
use Rattle.token_text.proofs.spellings.put_escaped.Given as goal

abbrev pub invariant-loop-i : goal.invariant-loop-i
invariant-loop-i l =
    (l.initial.i ≤ l.i) × (l.i ≤ length l.name) × (l.i < length l.name → get_or l.name l.i 0 ≡ quote_byte) × (page l.out l.e ≡ puts (page l.initial.out l.initial.e) (escaped (run l.name l.initial.i l.i)))

abbrev pub decreases-loop-i : goal.decreases-loop-i
decreases-loop-i l = length l.name - l.i
