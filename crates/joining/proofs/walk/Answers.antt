use native.Mathlib.Omega.{arith}
use Rattle.joining.proofs.Steps.{joining_none, joining_length, joining_kept, joining_more, stepped_counts}
use Rattle.joining.proofs.walk.Goals as goal

pub loop-x-init : goal.loop-x-init
loop-x-init c =
    joining_none c.args.s.now c.args.u.now c.args.n c.args.k c.args.out.now c.requires.2

pub step-x-requires : goal.step-x-requires
step-x-requires c =
    let size = joining_length c.args.s.now c.args.u.now c.args.n c.args.k c.loop-x.invariant in
    (omega arith, omega arith, omega arith)

pub loop-x-smaller : goal.loop-x-smaller
loop-x-smaller c = omega (arith, stepped_counts c.step-x.ensures)

pub loop-x-preserved : goal.loop-x-preserved
loop-x-preserved c =
    let args = c.args in
    joining_more args.s.now args.u.now args.n args.k c.loop-x.invariant (omega arith) (omega arith) (omega arith) c.step-x.ensures

pub shape_of-out : goal.shape_of-out
shape_of-out c = joining_kept _ _ _ _ c.loop-x.invariant c.requires.2

pub returns : goal.returns
returns c = record { joining = c.loop-x.invariant; stop = λ a b. omega arith }
