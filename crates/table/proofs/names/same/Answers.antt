use Prim.Native.Nat.{ℕ, ◌<◌, ◌-◌}
use mathlib.Core.Path.{◌≡◌, sym, ap, ◌∙◌}
use mathlib.Core.List.{List}
use native.Mathlib.Omega.{arith}
use borrow.Author.Tests.{eqb-true, eqb-false}
use borrow.Author.Count.{below_more}
use lib.ListN.{length, get_or}
use lib.Seq.{ext_get_or}
use Rattle.laws.proofs.Positions.{same_is, same_not}
use Rattle.table.proofs.names.same.Goals as goal

pub returns-then-a-b : goal.returns-then-a-b
returns-then-a-b c =
    let args = c.args in
    sym (same_not args.a.now args.b.now (λ e. c.if-a-b.true (ap length e)))

-- nothing and nothing
pub returns-then-is_empty : goal.returns-then-is_empty
returns-then-is_empty c =
    let a = c.args.a.now in
    let b = c.args.b.now in
    let none : (i : ℕ) → i < length a → get_or a i 0 ≡ get_or b i 0 = λ i h. absurd (omega (arith, eqb-true (length a) 0 (sym c.is_empty.ensures ∙ c.if-is_empty.true))) in
    sym (same_is a b (ext_get_or 0 a b c.if-a-b.false none))

pub overflow_sub-last : goal.overflow_sub-last
overflow_sub-last c = omega (arith, eqb-false (length c.args.a.now) 0 (sym c.is_empty.ensures ∙ c.if-is_empty.false))

pub bounds-a-last : goal.bounds-a-last
bounds-a-last c = omega (arith, eqb-false (length c.args.a.now) 0 (sym c.is_empty.ensures ∙ c.if-is_empty.false))

pub bounds-b-last : goal.bounds-b-last
bounds-b-last c = omega (arith, eqb-false (length c.args.a.now) 0 (sym c.is_empty.ensures ∙ c.if-is_empty.false), c.if-a-b.false)

pub returns-then-a-last : goal.returns-then-a-last
returns-then-a-last c =
    let args = c.args in
    sym (same_not args.a.now args.b.now (λ e. c.if-a-last.true (ap (λ (l : List ℕ). get_or l (length args.a.now - 1) 0) e)))

pub agreeing-done-requires : goal.agreeing-done-requires
agreeing-done-requires c = c.if-a-b.false

pub loop-i-init : goal.loop-i-init
loop-i-init c = c.agreeing-done.ensures

pub bounds-a-i : goal.bounds-a-i
bounds-a-i c = omega arith

pub bounds-b-i : goal.bounds-b-i
bounds-b-i c = omega (arith, c.if-a-b.false)

pub returns-then-a-i : goal.returns-then-a-i
returns-then-a-i c =
    let args = c.args in
    sym (same_not args.a.now args.b.now (λ e. c.if-a-i.true (ap (λ (l : List ℕ). get_or l c.loop-i.i 0) e)))

pub loop-i-preserved : goal.loop-i-preserved
loop-i-preserved c = record { within = omega arith; cells = below_more _ _ c.loop-i.invariant.cells c.if-a-i.false }

pub returns : goal.returns
returns c =
    let a = c.args.a.now in
    let b = c.args.b.now in
    let all : (i : ℕ) → i < length a → get_or a i 0 ≡ get_or b i 0 = λ i h. c.loop-i.invariant.cells i (omega arith) in
    sym (same_is a b (ext_get_or 0 a b c.if-a-b.false all))
