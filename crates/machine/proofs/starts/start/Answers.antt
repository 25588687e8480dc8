use mathlib.Core.Path.{◌≡◌, refl}
use native.Mathlib.Omega.{arith}
use lib.ListN.{length, length-set}
use Rattle.machine.specs.Phis.{Upto}
use Rattle.machine.proofs.PhiLoops.{upto_none, upto_more}
use Rattle.machine.proofs.StartsLaws.{start_cell, started, past_zero}
use Rattle.machine.proofs.starts.start.Goals as goal

pub loop-i-init : goal.loop-i-init
loop-i-init c = (omega arith, refl, upto_none _ _)

pub loop-i-preserved : goal.loop-i-preserved
loop-i-preserved c = (
  omega arith,
  simp length-set c.loop-i.invariant.1,
  upto_more (start_cell c.args.args.now) c.loop-i.i c.loop-i.registers _ (omega arith) refl c.loop-i.invariant.2,
)

pub loop-i-2-init : goal.loop-i-2-init
loop-i-2-init c =
    let done : c.loop-i.i ≡ length c.args.args.now = omega arith in
    (omega arith, omega arith, refl, rw done at c.loop-i.invariant.2)

pub loop-i-2-preserved : goal.loop-i-2-preserved
loop-i-2-preserved c =
    let a = c.args.args.now in (
      omega arith,
      omega arith,
      simp length-set c.loop-i-2.invariant.2,
      upto_more (start_cell a) c.loop-i-2.i c.loop-i-2.registers 0 (omega arith) (past_zero a c.loop-i-2.i c.loop-i-2.invariant.0) c.loop-i-2.invariant.3,
    )

pub returns : goal.returns
returns c =
    let e : length c.loop-i-2.registers ≡ length c.args.registers.now = omega arith in
    let f : c.loop-i-2.i ≡ length c.args.registers.now = omega arith in
    started c.args.args.now c.loop-i-2.registers (length c.args.registers.now) e c.requires (rw f at c.loop-i-2.invariant.3)
