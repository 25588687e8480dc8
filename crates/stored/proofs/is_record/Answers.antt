-- `is_record`: all but the verdict are numbers of 64 bits.
use native.Mathlib.Omega.{arith}
use borrow.Author.Rules.{rules}
use borrow.Author.Tests.{ltb-false}
use Rattle.stored.proofs.is_record.Goals as goal

pub returns : goal.returns
returns c = record { yes = search rules; no = λ e z. omega (arith, ltb-false c.args.r.fail 2 e, z.fail) }
