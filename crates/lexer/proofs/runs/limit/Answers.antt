-- `lexer::runs::limit`: 64 bytes on, or the text's end.
use mathlib.Core.Path.{◌≡◌}
use Prim.Native.Nat.{◌+◌, ◌-◌, ◌<◌}
use native.Mathlib.Decide.{dec_lt}
use native.Mathlib.Nat.{le_refl, min-le_left, min-le_right, le-min}
use native.Mathlib.Omega.{arith}
use lib.ListN.{length}
use borrow.Author.Tests.{lt-ltb, le-ltb}
use Rattle.lexer.specs.Runs.{name_limit}
use Rattle.lexer.proofs.runs.limit.Goals as goal

pub returns : goal.returns
unfolding name_limit
returns c = by (dec_lt (length c.args.text.now - c.args.start) 64)
  where
    by : Dec (length c.args.text.now - c.args.start < 64) → c.args.start + c.min.result ≡ name_limit (length c.args.text.now) c.args.start
    by (yes l) =
        let d = length c.args.text.now - c.args.start in
        rw (lt-ltb d 64 l) (omega (arith, c.min.ensures, min-le_right 64 d, le-min {k = d} {a = 64} {b = d} (omega arith) (le_refl d)))
    by (no l) =
        let d = length c.args.text.now - c.args.start in
        rw (le-ltb d 64 (omega arith)) (omega (arith, c.min.ensures, min-le_left 64 d, le-min {k = 64} {a = 64} {b = d} (le_refl 64) (omega arith)))
