use mathlib.Core.Path.{refl, sym, ◌∙◌, subst⁻¹}
use native.Mathlib.Omega.{arith}
use Prim.Native.Nat.{◌-◌}
use lib.ListN.{length, drop, length-drop}
use lib.Seq.{length-take-le}
use Rattle.laws.proofs.Cells.{sets_all}
use Rattle.merge.specs.Tries.{Underway}
use Rattle.merge.proofs.ManyLaws.{next_end, all, rest_of, whole_begins, whole_on, whole_full, whole_done}
use Rattle.merge.proofs.many.fill_aside.Goals as goal

pub put_bytes-requires : goal.put_bytes-requires
put_bytes-requires c = omega (arith, c.requires.0, c.requires.1)

pub loop-k-init : goal.loop-k-init
loop-k-init c =
    let copied = c.put_bytes.ensures ∙ sets_all c.args.aside.now c.args.store.now (c.requires.0 ∙ sym c.requires.1) in (
      c.put_bytes.auto.t ∙ c.requires.1,
      refl,
      omega arith,
      subst⁻¹ (Underway c.args.store.now (all c.args.table.now c.args.function c.args.budget c.args.records.now) (rest_of c.args.table.now c.args.function c.args.budget c.args.records.now 0)) copied
          (whole_begins c.args.table.now c.args.function c.args.budget c.args.records.now c.args.store.now),
    )

pub some_end-e-requires : goal.some_end-e-requires
some_end-e-requires c = (c.loop-k.invariant.2, omega (arith, c.well_formed))

pub offset_bounds-records-k : goal.offset_bounds-records-k
offset_bounds-records-k c =
    let x = next_end (length c.args.records.now) c.loop-k.k c.some_end-e.result c.requires.2 c.loop-k.invariant.1 c.loop-k-test.true c.some_end-e.ensures in
    omega (arith, x.more, x.within)

pub slice_bounds-merge_some-count : goal.slice_bounds-merge_some-count
slice_bounds-merge_some-count c =
    let x = next_end (length c.args.records.now) c.loop-k.k c.some_end-e.result c.requires.2 c.loop-k.invariant.1 c.loop-k-test.true c.some_end-e.ensures in
    omega (arith, x.more)

pub slice_bounds-merge_some-start : goal.slice_bounds-merge_some-start
slice_bounds-merge_some-start c =
    let x = next_end (length c.args.records.now) c.loop-k.k c.some_end-e.result c.requires.2 c.loop-k.invariant.1 c.loop-k-test.true c.some_end-e.ensures in
    omega (arith, x.more, x.within)

pub slice_bounds-merge_some-end : goal.slice_bounds-merge_some-end
slice_bounds-merge_some-end c =
    let x = next_end (length c.args.records.now) c.loop-k.k c.some_end-e.result c.requires.2 c.loop-k.invariant.1 c.loop-k-test.true c.some_end-e.ensures in
    omega (arith, x.more, x.within)

pub merge_some-requires : goal.merge_some-requires
merge_some-requires c =
    let x = next_end (length c.args.records.now) c.loop-k.k c.some_end-e.result c.requires.2 c.loop-k.invariant.1 c.loop-k-test.true c.some_end-e.ensures in
    let e = c.some_end-e.result in
    let size = length-take-le (e - c.loop-k.k) (drop c.loop-k.k c.args.records.now) (rw length-drop (omega (arith, x.within))) in
    record { s_len = c.loop-k.invariant.0; tests_len_bound = (omega (arith, size, x.few), omega (arith, size, x.whole, c.loop-k.invariant.1, x.more)) }

pub shape_of-aside-then-not-merge_some : goal.shape_of-aside-then-not-merge_some
shape_of-aside-then-not-merge_some c = c.merge_some.auto.s ∙ c.loop-k.invariant.0 ∙ sym c.requires.1

pub returns-then-not-merge_some : goal.returns-then-not-merge_some
returns-then-not-merge_some c =
    let x = next_end (length c.args.records.now) c.loop-k.k c.some_end-e.result c.requires.2 c.loop-k.invariant.1 c.loop-k-test.true c.some_end-e.ensures in
    record {
      held =
          whole_full c.args.table.now c.args.function c.args.budget c.args.records.now c.args.store.now c.loop-k.aside c.merge_some.new.s c.loop-k.k
          c.some_end-e.result c.requires.2 c.loop-k.invariant.1 x c.loop-k.invariant.3 c.merge_some.result c.if-not-merge_some.true-raw c.merge_some.ensures;
      size = c.merge_some.auto.s ∙ c.loop-k.invariant.0 ∙ sym c.requires.0;
    }

pub loop-k-smaller : goal.loop-k-smaller
loop-k-smaller c =
    let x = next_end (length c.args.records.now) c.loop-k.k c.some_end-e.result c.requires.2 c.loop-k.invariant.1 c.loop-k-test.true c.some_end-e.ensures in
    omega (arith, x.more, x.within)

pub loop-k-preserved : goal.loop-k-preserved
loop-k-preserved c =
    let x = next_end (length c.args.records.now) c.loop-k.k c.some_end-e.result c.requires.2 c.loop-k.invariant.1 c.loop-k-test.true c.some_end-e.ensures in (
      c.merge_some.auto.s ∙ c.loop-k.invariant.0,
      x.whole,
      x.within,
      whole_on c.args.table.now c.args.function c.args.budget c.args.records.now c.args.store.now c.loop-k.aside c.merge_some.new.s c.loop-k.k
          c.some_end-e.result c.requires.2 c.loop-k.invariant.1 x c.loop-k.invariant.3 c.merge_some.result c.if-not-merge_some.false-raw c.merge_some.ensures,
    )

pub shape_of-aside : goal.shape_of-aside
shape_of-aside c = c.loop-k.invariant.0 ∙ sym c.requires.1

pub returns : goal.returns
returns c =
    record {
      held =
          whole_done c.args.table.now c.args.function c.args.budget c.args.records.now c.args.store.now c.loop-k.aside c.loop-k.k
          (omega (arith, c.loop-k-test.false)) c.loop-k.invariant.3;
      size = c.loop-k.invariant.0 ∙ sym c.requires.0;
    }
