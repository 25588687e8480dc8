use mathlib.Core.Path.{refl, sym, ap, ◌∙◌}
use native.Mathlib.Omega.{arith}
use lib.ListN.{length-set}
use Rattle.table.proofs.NamesLaws.{room}
use Rattle.naming.specs.Numbers.{prefix_of}
use Rattle.naming.specs.Numbered.{plain_flag}
use Rattle.naming.proofs.MadeLaws.{going_first, going_given, going_made, going_last}
use Rattle.naming.proofs.made.number_names.Goals as goal

pub mark-requires : goal.mark-requires
mark-requires c = (c.requires.0, refl)

pub loop-i-init : goal.loop-i-init
loop-i-init c =
    let args = c.args in
    (going_first (prefix_of args.first) args.t.now args.at args.stride args.count args.kept c.mark.ensures args.made.now, refl)

pub overflow_mul-c : goal.overflow_mul-c
overflow_mul-c c = omega (arith, room c.args.stride c.loop-i-test.true)

pub overflow_add-c : goal.overflow_add-c
overflow_add-c c = omega (arith, room c.args.stride c.loop-i-test.true)

pub unnamed-requires : goal.unnamed-requires
unnamed-requires c = omega (arith, room c.args.stride c.loop-i-test.true)

pub name_at-requires : goal.name_at-requires
name_at-requires c = omega (arith, room c.args.stride c.loop-i-test.true)

pub plain_flag-requires : goal.plain_flag-requires
plain_flag-requires c = c.classes-table.ensures

pub bounds-made-i : goal.bounds-made-i
bounds-made-i c = omega (arith, c.loop-i.invariant.1)

pub loop-i-preserved-then-not-unnamed : goal.loop-i-preserved-then-not-unnamed
loop-i-preserved-then-not-unnamed c =
    let args = c.args in (
      going_given (prefix_of args.first) args.t.now args.at args.stride args.count args.kept c.loop-i.invariant.0 c.loop-i-test.true (sym c.unnamed.ensures ∙ c.if-not-unnamed.true) (c.plain_flag.ensures ∙ ap plain_flag c.name_at.ensures) (omega (arith, c.loop-i.invariant.1)),
      length-set c.loop-i.made c.loop-i.i c.plain_flag.result ∙ c.loop-i.invariant.1,
    )

pub slice_bounds-free-end : goal.slice_bounds-free-end
slice_bounds-free-end c = sym c.mark.ensures.size

pub free-j-requires : goal.free-j-requires
free-j-requires c = (c.mark.ensures.size, omega (arith, c.loop-i.invariant.0.room))

pub overflow_cast-made : goal.overflow_cast-made
overflow_cast-made c = omega (arith, c.free-j.ensures.within)

pub bounds-made-i-in-loop-i : goal.bounds-made-i-in-loop-i
bounds-made-i-in-loop-i c = omega (arith, c.loop-i.invariant.1)

pub overflow_add-next : goal.overflow_add-next
overflow_add-next c = omega (arith, c.free-j.ensures.within)

pub loop-i-preserved : goal.loop-i-preserved
loop-i-preserved c =
    let args = c.args in (
      going_made (prefix_of args.first) args.t.now args.at args.stride args.count args.kept c.loop-i.invariant.0 c.loop-i-test.true c.mark.ensures (sym c.unnamed.ensures ∙ c.if-not-unnamed.false) c.free-j.ensures (omega (arith, c.loop-i.invariant.1)),
      length-set c.loop-i.made c.loop-i.i c.free-j.result ∙ c.loop-i.invariant.1,
    )

pub shape_of-made : goal.shape_of-made
shape_of-made c = c.loop-i.invariant.1

pub returns : goal.returns
returns c =
    let args = c.args in
    going_last (prefix_of args.first) args.t.now args.at args.stride args.count args.kept c.loop-i.invariant.0 c.loop-i-test.false
