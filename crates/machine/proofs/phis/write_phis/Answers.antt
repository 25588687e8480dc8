use mathlib.Core.Path.{◌≡◌, refl, ap, ◌∙◌}
use native.Mathlib.Omega.{arith}
use lib.ListN.{length}
use Rattle.machine.specs.Phis.{phis_written}
use Rattle.machine.proofs.PhiLoops.{written_more, written_length}
use Rattle.machine.proofs.phis.write_phis.Goals as goal

pub loop-i-init : goal.loop-i-init
loop-i-init c = (omega arith, refl)

pub bounds-registers-row_target : goal.bounds-registers-row_target
bounds-registers-row_target c =
    rw (c.row_target.ensures.0, c.loop-i.invariant.1, written_length c.args.t.now c.args.a c.args.first c.args.k c.args.registers.now c.loop-i.i)
    (c.requires.readable.target c.loop-i.i c.loop-i-test.true)

pub loop-i-preserved : goal.loop-i-preserved
loop-i-preserved c = (
  omega arith,
  written_more c.args.t.now c.args.a c.args.first c.args.k c.args.registers.now c.loop-i.i c.loop-i.registers c.row_target.result _ c.loop-i.invariant.1 c.row_target.ensures.0 (c.requires.taken.each c.loop-i.i c.loop-i-test.true),
)

pub shape_of-registers : goal.shape_of-registers
shape_of-registers c =
    ap length c.loop-i.invariant.1 ∙ written_length c.args.t.now c.args.a c.args.first c.args.k c.args.registers.now c.loop-i.i

pub returns : goal.returns
returns c =
    let e : c.loop-i.i ≡ c.args.n = omega arith in
    c.loop-i.invariant.1 ∙ ap (phis_written c.args.t.now c.args.a c.args.first c.args.k c.args.registers.now) e
