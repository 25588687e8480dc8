use Prim.Native.Nat.{ℕ}
use mathlib.Core.Path.{◌≡◌, refl, ap, ◌∙◌}
use native.Mathlib.Numerals.{add-one}
use native.Mathlib.Omega.{arith}
use lib.ListN.{length, length-set}
use lib.Seq.{paste, paste-zero, paste-suc}
use Rattle.laws.proofs.Cells.{paste_all}
use Rattle.numbers.proofs.stores.put_bytes.Goals as goal

pub loop-i-init : goal.loop-i-init
loop-i-init c = (omega arith, refl, paste-zero c.args.t.now c.args.k c.args.s.now)

pub loop-i-preserved : goal.loop-i-preserved
loop-i-preserved c =
    let args = c.args in (
      omega arith,
      simp length-set (omega arith),
      rw (c.loop-i.invariant.2, add-one) (paste-suc args.t.now args.k args.s.now c.loop-i.i 0 (omega arith) (omega arith)),
    )

pub returns : goal.returns
returns c =
    let args = c.args in
    let done : c.loop-i.i ≡ length args.s.now = omega arith in
    c.loop-i.invariant.2 ∙ ap (λ (n : ℕ). paste args.t.now args.k args.s.now n) done ∙ paste_all args.t.now args.s.now args.k (omega arith)
