-- `run_here`: the run's answer with 256 registers.
use Prim.Native.Nat.{ℕ}
use lib.ListN.{length-replicate}
use Rattle.calling.proofs.CallLaws.{run_answered}
use Rattle.calling.proofs.runs.run_here.Goals as goal

pub returns : goal.returns
returns c =
    run_answered c.args.t.now c.args.function c.args.args.now c.args.budget c.run.result c.requires (length-replicate {A = ℕ} 256 0) c.run.ensures
