-- `store::insert` meets its contract: one of three outcomes, by what stands at the record's place and whether there is room. Assumes nothing.
use mathlib.Core.Path.{sym, ◌∙◌}
use native.Mathlib.Omega.{arith}
use Rattle.store.proofs.Finding.{stands_yes}
use Rattle.store.proofs.InsertingLaws.{kept_over, kept_full, kept_between}
use Rattle.store.proofs.inserting.insert.Goals as goal

pub put_over-requires : goal.put_over-requires
put_over-requires c =
    let there = stands_yes _ _ _ _ (sym c.stands.ensures ∙ c.if-stands.true) in
    omega (arith, there.0, c.count-n.ensures.1, c.requires)

pub returns-then-stands : goal.returns-then-stands
returns-then-stands c =
    kept_over _ _ _ _ c.count-n.ensures.0 c.place-p.ensures (sym c.stands.ensures ∙ c.if-stands.true) _
    c.put_over.ensures

pub returns-then-n-eq-CAPACITY : goal.returns-then-n-eq-CAPACITY
returns-then-n-eq-CAPACITY c =
    kept_full _ _ _ _ c.count-n.ensures.0 c.place-p.ensures (sym c.stands.ensures ∙ c.if-stands.false) c.if-n-eq-CAPACITY.true

pub returns : goal.returns
returns c =
    kept_between _ _ _ _ c.count-n.ensures.0 c.place-p.ensures (sym c.stands.ensures ∙ c.if-stands.false)
    c.requires (omega (arith, c.count-n.ensures.1, c.if-n-eq-CAPACITY.false)) _ c.put_between.ensures
