use Prim.Native.Nat.{ℕ, ◌+◌, ◌-◌}
use mathlib.Core.Path.{◌≡◌, ap, ◌∙◌}
use native.Mathlib.Omega.{arith}
use lib.ListN.{length, take, drop, replicate, length-replicate, length-take, length-drop}
use Rattle.language.specs.Answers.{zeros}
use Rattle.numbers.proofs.Parts.{part_set}
use Rattle.numbers.proofs.stores.zero_part.Goals as goal

pub returns : goal.returns
unfolding zeros
returns c =
    let args = c.args in
    let t = args.t.now in
    let size : length (take (args.a + args.n - args.a) (drop args.a t)) ≡ args.n = simp (length-take, length-drop) (omega arith) in
    part_set args.a args.n t c.fill.new.self (zeros args.n) (c.fill.ensures.after (λ y h. h) ∙ ap (λ (k : ℕ). replicate k 0) size)
    (length-replicate args.n 0) c.requires
