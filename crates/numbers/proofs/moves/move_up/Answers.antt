use mathlib.Core.Path.{◌≡◌, refl, ap, ◌∙◌}
use Prim.Native.Nat.{ℕ}
use native.Mathlib.Omega.{arith}
use lib.ListN.{length-set}
use Rattle.std.proofs.lemmas.Grind.{common_steps}
use Rattle.numbers.specs.Moving.{moved}
use Rattle.numbers.proofs.MovesLaws.{moved_none, moved_step}
use Rattle.numbers.proofs.moves.move_up.Goals as goal

pub loop-j-init : goal.loop-j-init
loop-j-init c = (omega arith, omega arith, refl, moved_none _ _ _ (omega arith))

pub loop-j-preserved : goal.loop-j-preserved
loop-j-preserved c =
    let k = c.loop-j.invariant in
    (omega arith, omega arith, simp length-set k.2, grind (arith, common_steps, moved_step c.args.s.now c.loop-j.s c.loop-j.j c.args.end c.args.by (omega arith) (omega arith) (omega arith) k.3))

pub shape_of-s : goal.shape_of-s
shape_of-s c = c.loop-j.invariant.2

pub returns : goal.returns
returns c =
    let args = c.args in
    let done : c.loop-j.j ≡ args.at = omega arith in
    c.loop-j.invariant.3 ∙ ap (λ (k : ℕ). moved args.s.now k args.end args.by) done
