-- `drafts::state::Draft::put`: the cells go by the shape of the instruction.
use mathlib.Core.Bool.{cond}
use mathlib.Core.Path.{◌≡◌}
use Prim.Native.Nat.{◌+◌, ◌*◌}
use lib.Dec.{ltb}
use borrow.Author.Tests.{lt-ltb, le-ltb}
use Rattle.drafts.proofs.Operands.{row_put}
use Rattle.language.specs.Table.{row_length, rows_offset}
use Rattle.drafts.proofs.state.Draft.put.Goals as goal
use Rattle.drafts.proofs.state.Draft.put.Goals.{then-shape, else-shape, then-sources-gt0, else-sources-gt0, then-sources-gt1, else-sources-gt1}

pub returns : goal.returns
returns c =
    let a = c.args in
    let shape = c.shape_of-shape.result in
    let target : c.if-shape.target ≡ cond shape.target a.self.parts.target 0 =
    elim c.if-shape.branch [ then-shape w ↦ rw w.if-shape.true w.target-is | else-shape w ↦ rw w.if-shape.false w.target-is ] in
    let left : c.if-sources-gt0.left ≡ cond (ltb 0 shape.sources) a.self.parts.left 0 =
    elim c.if-sources-gt0.branch [
      | then-sources-gt0 w ↦ rw (lt-ltb 0 shape.sources w.if-sources-gt0.true) w.left-is
      | else-sources-gt0 w ↦ rw (le-ltb 0 shape.sources w.if-sources-gt0.false) w.left-is
    ] in
    let right : c.if-sources-gt1.right ≡ cond (ltb 1 shape.sources) a.self.parts.right 0 =
    elim c.if-sources-gt1.branch [
      | then-sources-gt1 w ↦ rw (lt-ltb 1 shape.sources w.if-sources-gt1.true) w.right-is
      | else-sources-gt1 w ↦ rw (le-ltb 1 shape.sources w.if-sources-gt1.false) w.right-is
    ] in
    row_put a.self a.f.now (rows_offset + row_length * a.r) c.requires.bounded.op c.low-op.ensures c.shape_of-shape.ensures target left right
    c.operand.ensures c.put_row.ensures
