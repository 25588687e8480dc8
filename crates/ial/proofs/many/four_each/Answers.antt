-- A number is four times another exactly if nothing is left over and the quotient is that.
use mathlib.Core.Path.{sym}
use Prim.Native.Nat.{◌*◌}
use native.Mathlib.Omega.{arith}
use borrow.Author.Tests.{ne_eqb}
use Rattle.ial.proofs.EachLaws.{four_each}
use Rattle.ial.proofs.many.four_each.Goals as goal

pub returns-then-m-ne0 : goal.returns-then-m-ne0
returns-then-m-ne0 c = let s = c.args in sym (ne_eqb s.m (4 * s.n) (λ e. c.if-m-ne0.true (omega arith)))

pub returns : goal.returns
returns c = let s = c.args in four_each s.m s.n c.if-m-ne0.false
