-- `put_some`: the readings, their runs' answers and the records stand in the front of what is lent.
use mathlib.Core.List.{List}
use mathlib.Core.Path.{◌≡◌, sym, ◌∙◌, subst}
use native.Mathlib.Omega.{arith}
use Prim.Native.Nat.{◌/◌}
use lib.ListN.{length}
use Rattle.records.specs.declared.Record.{Record}
use Rattle.records.specs.Stores.{inserts}
use Rattle.merge.specs.Tries.{Tried}
use Rattle.merge.proofs.Fours.{front_length, front_is, front_still, front_within, judged_together}
use Rattle.merge.proofs.many.put_some.Goals as goal

pub slice_bounds-take_readings-end : goal.slice_bounds-take_readings-end
slice_bounds-take_readings-end c = omega (arith, c.requires.tests_len_bound.0)

pub slice_bounds-take_readings-end-2 : goal.slice_bounds-take_readings-end-2
slice_bounds-take_readings-end-2 c =
    front_length c.args.readings.now (length c.args.tests.now / 4) (omega (arith, c.requires.tests_len_bound.0))

pub take_readings-requires : goal.take_readings-requires
take_readings-requires c =
    let n = front_length c.args.readings.now (length c.args.tests.now / 4) (omega (arith, c.requires.tests_len_bound.0)) in
    omega (arith, n, c.requires.s_len.1)

pub slice_bounds-ial_run_each-end : goal.slice_bounds-ial_run_each-end
slice_bounds-ial_run_each-end c =
    let n = length c.args.tests.now / 4 in
    front_within c.take_readings.new.out _ n (c.take_readings.auto.out ∙ sym (front_length c.args.readings.now n (omega (arith, c.requires.tests_len_bound.0))))

pub slice_bounds-ial_run_each-end-2 : goal.slice_bounds-ial_run_each-end-2
slice_bounds-ial_run_each-end-2 c =
    let n = length c.args.tests.now / 4 in
    front_still c.take_readings.new.out _ n (c.take_readings.auto.out ∙ sym (front_length c.args.readings.now n (omega (arith, c.requires.tests_len_bound.0))))

pub slice_bounds-ial_run_each-end-3 : goal.slice_bounds-ial_run_each-end-3
slice_bounds-ial_run_each-end-3 c = c.requires.tests_len_bound.1

pub slice_bounds-ial_run_each-end-4 : goal.slice_bounds-ial_run_each-end-4
slice_bounds-ial_run_each-end-4 c =
    front_length c.args.answers.now (length c.args.tests.now) c.requires.tests_len_bound.1

pub slice_bounds-insert_all-end : goal.slice_bounds-insert_all-end
slice_bounds-insert_all-end c =
    let k = length c.args.tests.now in
    front_within c.ial_run_each.new.out _ k (c.ial_run_each.auto.out ∙ sym (front_length c.args.answers.now k c.requires.tests_len_bound.1))

pub slice_bounds-insert_all-end-2 : goal.slice_bounds-insert_all-end-2
slice_bounds-insert_all-end-2 c =
    let k = length c.args.tests.now in
    front_still c.ial_run_each.new.out _ k (c.ial_run_each.auto.out ∙ sym (front_length c.args.answers.now k c.requires.tests_len_bound.1))

pub insert_all-requires : goal.insert_all-requires
insert_all-requires c =
    let k = length c.args.tests.now in record { s_len = c.requires.s_len.0; answers_len = sym (front_still c.ial_run_each.new.out _ k (c.ial_run_each.auto.out ∙ sym (front_length c.args.answers.now k c.requires.tests_len_bound.1))) }

pub returns : goal.returns
returns c =
    let ns = c.args.tests.now in
    let n = length ns / 4 in
    let read : length c.take_readings.new.out ≡ n = c.take_readings.auto.out ∙ sym (front_length c.args.readings.now n (omega (arith, c.requires.tests_len_bound.0))) in
    let answered : length c.ial_run_each.new.out ≡ length ns = c.ial_run_each.auto.out ∙ sym (front_length c.args.answers.now (length ns) c.requires.tests_len_bound.1) in
    subst (λ (rs : List Record). Tried c.args.s.now (inserts rs) c.insert_all.result c.insert_all.new.s)
    (judged_together c.args.table.now c.args.function c.args.budget ns _ _ _ _ c.requires.s_len.1 (front_is c.take_readings.new.out _ n read ∙ c.take_readings.ensures) c.requires.tests_len_bound.2
    (sym (front_length c.args.answers.now (length ns) c.requires.tests_len_bound.1))
    (front_is c.ial_run_each.new.out _ (length ns) answered ∙ c.ial_run_each.ensures.1))
    c.insert_all.ensures
