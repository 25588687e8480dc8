use Prim.Native.Nat.{ℕ}
use mathlib.Core.Path.{◌≡◌, refl, sym, ap, ◌∙◌}
use native.Mathlib.Omega.{arith}
use borrow.Author.Tests.{not-true, not-false}
use Rattle.laws.specs.Lists.{all}
use Rattle.language.specs.Checking.{spellable_or_none}
use Rattle.name_index.specs.Names.{names_in}
use Rattle.table.proofs.NamesLaws.{room}
use Rattle.name_index.proofs.InTable.{all_on, all_off}
use Rattle.spelling.proofs.names.all_spellable.Goals as goal

pub loop-i-init : goal.loop-i-init
unfolding names_in
loop-i-init c = refl

pub overflow_mul-stride : goal.overflow_mul-stride
overflow_mul-stride c = omega (arith, room c.args.stride c.loop-i-test.true)

pub overflow_add-at : goal.overflow_add-at
overflow_add-at c = omega (arith, room c.args.stride c.loop-i-test.true)

pub name_at-requires : goal.name_at-requires
name_at-requires c = omega (arith, room c.args.stride c.loop-i-test.true)

pub returns-then-not-spellable_or_none : goal.returns-then-not-spellable_or_none
returns-then-not-spellable_or_none c =
    let args = c.args in
    all_off args.t.now args.at args.stride spellable_or_none c.loop-i.i c.loop-i.invariant (c.spellable_or_none.ensures ∙ ap spellable_or_none c.name_at.ensures)
    args.count c.loop-i-test.true (not-true _ c.if-not-spellable_or_none.true-raw)

pub loop-i-preserved : goal.loop-i-preserved
loop-i-preserved c =
    let args = c.args in
    all_on args.t.now args.at args.stride spellable_or_none c.loop-i.i c.loop-i.invariant (c.spellable_or_none.ensures ∙ ap spellable_or_none c.name_at.ensures)
    (not-false _ c.if-not-spellable_or_none.false-raw)

pub returns : goal.returns
returns c =
    let args = c.args in
    let done : args.count ≡ c.loop-i.i = omega arith in
    sym (ap (λ (n : ℕ). all spellable_or_none (names_in args.t.now args.at args.stride n)) done ∙ c.loop-i.invariant)
