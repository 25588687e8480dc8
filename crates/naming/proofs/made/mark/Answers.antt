use Prim.Native.Nat.{ℕ}
use mathlib.Core.List.{List}
use mathlib.Core.Path.{◌≡◌, sym, ap, ◌∙◌, subst}
use native.Mathlib.Omega.{arith}
use lib.ListN.{length, length-replicate}
use Rattle.std.specs.Option.{unwrap_or}
use Rattle.naming.specs.Numbers.{prefix_of, Numbers}
use Rattle.naming.specs.Numbered.{Marked}
use Rattle.table.proofs.NamesLaws.{room}
use Rattle.naming.proofs.Marks.{marked_none, marked_more}
use Rattle.naming.proofs.made.mark.Goals as goal

pub loop-i-init : goal.loop-i-init
loop-i-init c =
    let args = c.args in
    (omega arith, marked_none (prefix_of args.first) args.t.now args.at args.stride c.requires.1)

pub overflow_mul-stride : goal.overflow_mul-stride
overflow_mul-stride c = omega (arith, room c.args.stride c.loop-i-test.true)

pub overflow_add-at : goal.overflow_add-at
overflow_add-at c = omega (arith, room c.args.stride c.loop-i-test.true)

pub name_at-requires : goal.name_at-requires
name_at-requires c = omega (arith, room c.args.stride c.loop-i-test.true)

pub bounds-marks-j : goal.bounds-marks-j
bounds-marks-j c = omega (arith, c.number.ensures.within, c.unwrap_or-j.ensures, c.loop-i.invariant.1.size)

pub loop-i-preserved : goal.loop-i-preserved
loop-i-preserved c =
    let args = c.args in (
      omega arith,
      marked_more (prefix_of args.first) args.t.now args.at args.stride c.loop-i.invariant.1
          (rw c.unwrap_or-j.ensures (subst (λ (n : List ℕ). Numbers (prefix_of args.first) n (unwrap_or c.number.result 512)) c.name_at.ensures c.number.ensures)),
    )

pub shape_of-marks : goal.shape_of-marks
shape_of-marks c = c.loop-i.invariant.1.size ∙ sym (ap length c.requires.1 ∙ length-replicate {A = ℕ} 513 0)

pub returns : goal.returns
returns c =
    let args = c.args in
    let done : c.loop-i.i ≡ args.count = omega arith in
    subst (λ (n : ℕ). Marked (prefix_of args.first) args.t.now args.at args.stride n c.loop-i.marks) done c.loop-i.invariant.1
