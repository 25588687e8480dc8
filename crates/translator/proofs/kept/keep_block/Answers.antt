-- The block's place and name, then its rows.
use Prim.Native.Nat.{◌+◌, ◌-◌, ◌≤◌}
use mathlib.Core.Path.{ap₂}
use native.Mathlib.Omega.{arith}
use lib.ListN.{length}
use Rattle.translator.proofs.KeptLaws.{block_length_law, name_short, fewer_phis, rows_left, kept_next, kept_most, keeps_block}
use Rattle.translator.proofs.kept.keep_block.Goals as goal

pub overflow_sub-n : goal.overflow_sub-n
overflow_sub-n c =
    let args = c.args in
    fewer_phis args.t.now args.a c.requires.translatable_at args.m.now args.plan.now c.requires.prepared c.requires.planned args.x c.phis-p.result c.block_rows.result c.requires.x_bound.0
    c.phis-p.ensures.0 c.block_rows.ensures.0

pub put_place-requires : goal.put_place-requires
put_place-requires c =
    let args = c.args in
    let b = c.requires.x_bound in
    (block_length_law args.t.now args.a c.requires.translatable_at args.x args.k args.out.now b.0 b.1 b.2, omega (arith, b.0, c.requires.translatable_at.sized.blocks))

pub put_name-requires : goal.put_name-requires
put_name-requires c =
    let args = c.args in
    let b = c.requires.x_bound in
    let short : length c.block_name.result.now ≤ 64 = rw c.block_name.ensures (name_short args.t.now args.a c.requires.translatable_at args.x b.0) in
    let long = block_length_law args.t.now args.a c.requires.translatable_at args.x args.k args.out.now b.0 b.1 b.2 in
    (omega arith, omega (arith, c.put_place.auto.out, b.0, c.requires.translatable_at.sized.blocks))

pub keep_rows-requires : goal.keep_rows-requires
keep_rows-requires c =
    let args = c.args in
    let t = args.t.now in
    let a = args.a in
    let b = c.requires.x_bound in
    let left = rows_left t a c.requires.translatable_at args.m.now args.plan.now c.requires.prepared c.requires.planned args.x c.phis-p.result c.block_rows.result b.0 c.phis-p.ensures.0
    c.block_rows.ensures.0 in record {
      translatable_at = c.requires.translatable_at;
      prepared = c.requires.prepared;
      planned = c.requires.planned;
      kept_rows = record { block = b.0; first = ap₂ (λ i j. i + j) c.block_first.ensures.0 c.phis-p.ensures.0; count = left; place = b.1 };
      out_value = keeps_block t a c.requires.translatable_at args.m.now args.plan.now c.requires.prepared c.requires.planned args.x (c.block_rows.result - c.phis-p.result) args.k b.0 b.1 left
          args.out.now c.put_place.new.out c.put_name.new.t c.block_name.result.now b.2 c.put_place.ensures c.block_name.ensures
          c.put_name.ensures;
    }

pub overflow_add-result : goal.overflow_add-result
overflow_add-result c =
    let args = c.args in
    let b = c.requires.x_bound in
    let left = rows_left args.t.now args.a c.requires.translatable_at args.m.now args.plan.now c.requires.prepared c.requires.planned args.x c.phis-p.result c.block_rows.result b.0 c.phis-p.ensures.0
    c.block_rows.ensures.0 in
    omega (arith, kept_most args.t.now args.a c.requires.translatable_at args.m.now args.plan.now c.requires.prepared c.requires.planned args.x (c.block_rows.result - c.phis-p.result) args.k b.0 b.1 left)

pub returns : goal.returns
returns c =
    let args = c.args in
    let b = c.requires.x_bound in
    let left = rows_left args.t.now args.a c.requires.translatable_at args.m.now args.plan.now c.requires.prepared c.requires.planned args.x c.phis-p.result c.block_rows.result b.0 c.phis-p.ensures.0
    c.block_rows.ensures.0 in (
      kept_next args.t.now args.a c.requires.translatable_at args.m.now args.plan.now c.requires.prepared c.requires.planned args.x (c.block_rows.result - c.phis-p.result) args.k b.0 b.1 left,
      c.keep_rows.ensures,
    )
