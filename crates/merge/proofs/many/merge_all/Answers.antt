-- `merge_all`: the copy goes over all of the store, or none of it does.
use mathlib.Core.Bool.{Bool}
use mathlib.Core.List.{List}
use mathlib.Core.Path.{◌∙◌, ap, subst, subst⁻¹}
use Prim.Native.Nat.{ℕ}
use lib.ListN.{length}
use borrow.Author.Tests.{not-true, not-false}
use Rattle.laws.proofs.Cells.{sets_all}
use Rattle.records.specs.Stores.{StoreHolds}
use Rattle.merge.specs.Tries.{Tried}
use Rattle.merge.proofs.ManyLaws.{all, kept_whole, kept_unchanged}
use Rattle.merge.proofs.many.merge_all.Goals as goal

pub returns-then-not-fill_aside : goal.returns-then-not-fill_aside
returns-then-not-fill_aside c =
    let g = all c.args.table.now c.args.function c.args.budget c.args.records.now in
    let no = subst (λ (b : Bool). Tried c.args.store.now g b c.fill_aside.new.aside) (not-true c.fill_aside.result c.if-not-fill_aside.true-raw) c.fill_aside.ensures in
    kept_unchanged c.args.store.now g c.done.result c.done.ensures no.held

pub returns : goal.returns
returns c =
    let g = all c.args.table.now c.args.function c.args.budget c.args.records.now in
    let yes = subst (λ (b : Bool). Tried c.args.store.now g b c.fill_aside.new.aside) (not-false c.fill_aside.result c.if-not-fill_aside.false-raw) c.fill_aside.ensures in
    let copied = c.put_bytes.ensures ∙ sets_all c.args.store.now c.fill_aside.new.aside yes.size in
    kept_whole c.args.store.now c.put_bytes.new.t g c.done-2.result c.done-2.ensures (ap length copied ∙ yes.size)
    (λ es h. subst⁻¹ (λ (x : List ℕ). StoreHolds x (g es)) copied (yes.held es h))
