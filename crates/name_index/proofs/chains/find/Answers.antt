use Prim.Native.Nat.{ℕ, ◌+◌, ◌-◌, ◌*◌, ◌≤◌}
use mathlib.Core.Bool.{Bool, true≢false}
use mathlib.Core.List.{List}
use mathlib.Core.Path.{◌≡◌, sym, ap, ◌∙◌}
use native.Mathlib.Omega.{arith}
use borrow.Author.Tests.{eqb-true, eqb-false}
use Rattle.laws.specs.Lists.{same}
use Rattle.language.specs.Table.{name_at}
use Rattle.table.specs.Named.{is_named}
use Rattle.table.proofs.NamesLaws.{room}
use Rattle.name_index.proofs.InTable.{no_bytes, names_length_law}
use Rattle.name_index.proofs.ChainLaws.{chain_some, chain_next, found_chained, first_found, none_found}
use Rattle.name_index.proofs.chains.find.Goals as goal

-- the name met ends before the last one of the table
within : (stride : ℕ) {y x : ℕ} → (y ≡ 0 → ⊥) → y ≤ x → stride * (y - 1) + stride ≤ stride * x
within stride n h = room stride (omega arith)

-- what the call of `is_name` says of the name met
named : (t : List ℕ) (at stride : ℕ) (name : List ℕ) (i : ℕ) {part : List ℕ} {r b : Bool} → part ≡ name_at t (at + stride * i) → r ≡ same part name → r ≡ b
    → is_named t at stride name i ≡ b
named t at stride name i p q e = ap (λ (l : List ℕ). same l name) (sym p) ∙ sym q ∙ e

pub find_none-requires : goal.find_none-requires
find_none-requires c = c.requires.names_within

pub returns-then-is_empty : goal.returns-then-is_empty
returns-then-is_empty c =
    let args = c.args in
    rw (no_bytes args.name.now (eqb-true _ 0 (sym c.is_empty.ensures ∙ c.if-is_empty.true))) c.find_none.ensures

pub bounds-last-hash : goal.bounds-last-hash
bounds-last-hash c = omega (arith, c.hash.ensures.1, c.requires.indexed.lasts)

pub loop-y-init : goal.loop-y-init
loop-y-init c =
    let args = c.args in
    let t = args.t.now in (
      omega (arith, c.from-y.ensures, c.requires.indexed.within c.hash.result, names_length_law t args.at args.stride args.count),
      found_chained t args.at args.stride args.count args.name.now c.requires.indexed (eqb-false _ 0 (sym c.is_empty.ensures ∙ c.if-is_empty.false)) c.end-x.ensures
          c.hash.ensures.0 c.from-y.ensures,
    )

pub overflow_sub-j : goal.overflow_sub-j
overflow_sub-j c = omega arith

pub overflow_mul-stride : goal.overflow_mul-stride
overflow_mul-stride c = omega (arith, within c.args.stride c.loop-y-test.true c.loop-y.invariant.0)

pub overflow_add-at : goal.overflow_add-at
overflow_add-at c = omega (arith, within c.args.stride c.loop-y-test.true c.loop-y.invariant.0)

pub name_at-requires : goal.name_at-requires
name_at-requires c = omega (arith, within c.args.stride c.loop-y-test.true c.loop-y.invariant.0)

pub is_name-requires : goal.is_name-requires
is_name-requires c = c.end-x.ensures

pub returns-then-is_name : goal.returns-then-is_name
returns-then-is_name c =
    let args = c.args in
    let t = args.t.now in
    let here = named t args.at args.stride args.name.now (c.loop-y.y - 1) c.name_at.ensures c.is_name.ensures c.if-is_name.true in
    (first_found t args.at args.stride args.count args.name.now c.requires.indexed (eqb-false _ 0 (sym c.is_empty.ensures ∙ c.if-is_empty.false)) (c.loop-y.y - 1) (omega arith) here, omega arith)

pub offset_bounds-before-j : goal.offset_bounds-before-j
offset_bounds-before-j c =
    let args = c.args in
    omega (arith, c.requires.indexed.few, names_length_law args.t.now args.at args.stride args.count)

pub bounds-before-j : goal.bounds-before-j
bounds-before-j c =
    let args = c.args in
    omega (arith, c.requires.indexed.befores, c.requires.indexed.few, names_length_law args.t.now args.at args.stride args.count)

pub loop-y-smaller : goal.loop-y-smaller
loop-y-smaller c =
    omega (arith, c.from-y-in-loop-y.ensures, c.requires.indexed.falling.falls (c.loop-y.y - 1))

pub loop-y-preserved : goal.loop-y-preserved
loop-y-preserved c =
    let args = c.args in
    let t = args.t.now in
    let y = c.loop-y.y in
    let differs = named t args.at args.stride args.name.now (y - 1) c.name_at.ensures c.is_name.ensures c.if-is_name.false in (
      omega (arith, c.from-y-in-loop-y.ensures, c.requires.indexed.falling.falls (y - 1)),
      λ j l e.
          chain_next (c.loop-y.invariant.1 j l e) c.from-y-in-loop-y.ensures
          (λ p. true≢false (sym e ∙ ap (λ (k : ℕ). is_named t args.at args.stride args.name.now k) p ∙ differs)),
    )

pub returns : goal.returns
returns c =
    let args = c.args in
    none_found args.t.now args.at args.stride args.count args.name.now (λ j l e. let z = chain_some (c.loop-y.invariant.1 j l e) in omega arith)
