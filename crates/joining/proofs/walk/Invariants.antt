-- The loop's invariant: what is written, with what is to come of both stores, is all of them joined.
use Prim.Native.Nat.{◌-◌}
use Rattle.joining.specs.Joints.{Joining}
use Rattle.records.specs.Stores.{capacity}
use Rattle.joining.proofs.walk.Given as goal

abbrev pub invariant-loop-x : goal.invariant-loop-x
invariant-loop-x l = Joining l.s l.u l.n l.k l.x.i l.x.j l.x.w l.out

abbrev pub decreases-loop-x : goal.decreases-loop-x
decreases-loop-x l = capacity - l.x.w
