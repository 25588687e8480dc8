-- `some_end`: by the test.
use mathlib.Core.Bool.{Bool, cond}
use mathlib.Core.Path.{sym, ap}
use Prim.Native.Nat.{◌+◌, ◌-◌}
use native.Mathlib.Omega.{arith}
use borrow.Author.Tests.{lt-ltb, le-ltb}
use Rattle.merge.proofs.many.some_end.Goals as goal

pub overflow_sub-n : goal.overflow_sub-n
overflow_sub-n c = c.requires.0

pub returns-then-n-k-lt-NUMBERS : goal.returns-then-n-k-lt-NUMBERS
returns-then-n-k-lt-NUMBERS c =
    sym (ap (λ (b : Bool). cond b c.args.n (c.args.k + 256)) (lt-ltb (c.args.n - c.args.k) 256 c.if-n-k-lt-NUMBERS.true))

pub overflow_add-result : goal.overflow_add-result
overflow_add-result c = record { fits = omega (arith, c.requires.0, c.requires.1) }

pub returns : goal.returns
returns c =
    sym (ap (λ (b : Bool). cond b c.args.n (c.args.k + 256)) (le-ltb (c.args.n - c.args.k) 256 c.if-n-k-lt-NUMBERS.false))
