use mathlib.Core.Path.{refl, ap, ◌∙◌}
use native.Mathlib.Omega.{arith}
use lib.ListN.{length}
use lib.Seq.{length-sets}
use Rattle.joining.proofs.Parts.{put_none, put_more, put_all}
use Rattle.joining.proofs.rest.Goals as goal

pub loop-d-init : goal.loop-d-init
loop-d-init c =
    let args = c.args in
    (omega arith, refl, put_none args.s.now args.out.now args.i args.w)

pub overflow_add-w : goal.overflow_add-w
overflow_add-w c = omega arith

pub overflow_add-i : goal.overflow_add-i
overflow_add-i c = omega arith

pub record_at-requires : goal.record_at-requires
record_at-requires c = omega arith

pub put_record-requires : goal.put_record-requires
put_record-requires c = omega arith

pub loop-d-preserved : goal.loop-d-preserved
loop-d-preserved c =
    let args = c.args in
    let put = c.put_record.ensures in (
      omega arith,
      ap length put ∙ simp length-sets c.loop-d.invariant.1,
      put_more args.s.now args.out.now args.i args.w c.loop-d.d c.loop-d.invariant.2 c.record_at.ensures put,
    )

pub shape_of-out : goal.shape_of-out
shape_of-out c = c.loop-d.invariant.1

pub returns : goal.returns
returns c =
    let args = c.args in
    put_all args.s.now args.out.now args.i args.w c.loop-d.d args.n c.loop-d.invariant.2 (omega arith)
