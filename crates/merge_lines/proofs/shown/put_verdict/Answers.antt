-- `put_verdict`: `pass` exactly for 0.
use native.Mathlib.Omega.{arith}
use borrow.Author.Tests.{eq-eqb, ne_eqb}
use Rattle.language.specs.Bytes.{bytes_of}
use Rattle.decimal.proofs.Writings.{written_bytes}
use Rattle.merge_lines.proofs.shown.put_verdict.Goals as goal

pub returns-then-fail-eq0 : goal.returns-then-fail-eq0
returns-then-fail-eq0 c = (
  rw (eq-eqb c.args.fail 0 c.if-fail-eq0.true) (written_bytes c.args.at (bytes_of "\tpass\n") c.put_bytes.ensures),
  omega arith,
)

pub returns : goal.returns
returns c = (
  rw (ne_eqb c.args.fail 0 c.if-fail-eq0.false) (written_bytes c.args.at (bytes_of "\tfail\n") c.put_bytes-2.ensures),
  omega arith,
)
