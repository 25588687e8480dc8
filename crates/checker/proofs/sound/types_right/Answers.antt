use mathlib.Core.Path.{sym}
use native.Mathlib.Omega.{arith}
use lib.Dec.{ltb}
use borrow.Author.Count.{below_none, below_more}
use borrow.Author.Tests.{lt-ltb, le-ltb}
use Rattle.laws.proofs.Ranges.{all_below, all_below_not}
use Rattle.language.specs.Table.{register_type, register_count}
use Rattle.checker.specs.Parts.{types_right}
use Rattle.checker.proofs.sound.types_right.Goals as goal

pub loop-i-init : goal.loop-i-init
loop-i-init c = (omega arith, below_none _)

pub register_type-requires : goal.register_type-requires
register_type-requires c = (omega arith, omega arith)

pub returns-then-register_type-ge-COUNT : goal.returns-then-register_type-ge-COUNT
unfolding types_right
returns-then-register_type-ge-COUNT c =
    let args = c.args in
    let i = c.loop-i.i in
    sym
    (all_below_not (λ r. ltb (register_type args.t.now args.a r) 10) (register_count args.t.now args.a) i (omega arith)
    (le-ltb (register_type args.t.now args.a i) 10 (omega arith)))

pub loop-i-preserved : goal.loop-i-preserved
loop-i-preserved c =
    let args = c.args in
    let i = c.loop-i.i in
    (omega arith, below_more _ _ c.loop-i.invariant.1 (lt-ltb (register_type args.t.now args.a i) 10 (omega arith)))

pub returns : goal.returns
unfolding types_right
returns c =
    let args = c.args in
    sym
    (all_below (λ r. ltb (register_type args.t.now args.a r) 10) (register_count args.t.now args.a)
    (λ j h. c.loop-i.invariant.1 j (omega arith)))
