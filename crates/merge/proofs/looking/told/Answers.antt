-- `told`: a place from the count on says none, any other its record.
use mathlib.Core.Path.{sym, ◌∙◌, ap}
use native.Mathlib.Omega.{arith}
use Rattle.records.specs.declared.Record.{Record}
use Rattle.records.specs.Stores.{FoundRecord}
use Rattle.records.specs.Answers.{Looked}
use Rattle.merge.specs.Calls.{look_of}
use Rattle.merge.proofs.LookingLaws.{looked_none, looked_found}
use Rattle.merge.proofs.looking.told.Goals as goal

pub returns-then-count-p : goal.returns-then-count-p
returns-then-count-p c =
    let n = c.count.ensures in
    c.nothing.ensures ∙ sym (ap (λ (f : FoundRecord). look_of (Looked.looked f)) (looked_none c.args.s.now c.args.p (omega (arith, c.if-count-p.true, n.0))))

pub returns : goal.returns
returns c =
    let n = c.count.ensures in
    ap (λ (e : Record). look_of (Looked.looked (FoundRecord.found e))) c.record_at-e.ensures
    ∙ sym (ap (λ (f : FoundRecord). look_of (Looked.looked f)) (looked_found c.args.s.now c.args.p (omega (arith, c.if-count-p.false, n.0))))
