-- Six stores in a row are the run of the eight cells.
use native.Mathlib.Omega.{arith}
use lib.ListN.{length, length-set}
use mathlib.Core.Path.{◌≡◌, ◌∙◌}
use Rattle.drafts.proofs.EndingLaws.{head_put}
use Rattle.drafts.proofs.state.Draft.put_head.Goals as goal

pub put_two-requires : goal.put_two-requires
put_two-requires c = simp length-set (omega arith)

pub put_two-requires-2 : goal.put_two-requires-2
put_two-requires-2 c = omega (arith, simp length-set at c.put_two.auto.t)

-- the cells keep their length over the first four stores
pub bounds-f-6 : goal.bounds-f-6
bounds-f-6 c =
    let stored : length c.put_two-2.new.t ≡ length c.args.f.now = c.put_two-2.auto.t ∙ c.put_two.auto.t ∙ simp length-set in
    omega (arith, stored)

pub bounds-f-7 : goal.bounds-f-7
bounds-f-7 c =
    let stored : length c.put_two-2.new.t ≡ length c.args.f.now = c.put_two-2.auto.t ∙ c.put_two.auto.t ∙ simp length-set in
    simp length-set (omega (arith, stored))

pub shape_of-f : goal.shape_of-f
shape_of-f c =
    let stored : length c.put_two-2.new.t ≡ length c.args.f.now = c.put_two-2.auto.t ∙ c.put_two.auto.t ∙ simp length-set in
    simp length-set stored

pub returns : goal.returns
returns c =
    let args = c.args in
    let self = args.self in
    let pre = c.requires.bounded in
    head_put args.f.now self.head.params self.head.registers self.blocks.closed args.entry c.low.ensures pre.ssa c.low-2.ensures pre.result c.put_two.ensures c.put_two-2.ensures
