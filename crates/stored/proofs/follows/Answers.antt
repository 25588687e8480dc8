-- `follows`: the record's verdict, then the numbers of the two.
use mathlib.Core.Path.{sym, subst}
use native.Mathlib.Omega.{arith}
use borrow.Author.Tests.{not-true, not-false}
use Rattle.records.specs.Records.{SizedRecord}
use Rattle.stored.proofs.LibLaws.{told, told_not, compared}
use Rattle.stored.proofs.follows.Goals as goal

pub returns-then-not-is_record : goal.returns-then-not-is_record
returns-then-not-is_record c = told_not (λ p. c.is_record.ensures.no (not-true _ c.if-not-is_record.true-raw) (subst SizedRecord (sym c.record_at.ensures) p.0))

pub returns-then-i-eq0 : goal.returns-then-i-eq0
returns-then-i-eq0 c =
    told (subst SizedRecord c.record_at.ensures (c.is_record.ensures.yes (not-false _ c.if-not-is_record.false-raw)), λ j e. absurd (omega arith))

pub returns : goal.returns
returns c =
    let s = c.args in
    compared s.s.now s.i (subst SizedRecord c.record_at.ensures (c.is_record.ensures.yes (not-false _ c.if-not-is_record.false-raw)))
    c.if-i-eq0.false c.appliance_at.ensures c.appliance_at-2.ensures
