use mathlib.Core.List.{List, map}
use mathlib.Core.Path.{◌≡◌, refl, ◌∙◌}
use native.Mathlib.Omega.{arith}
use Prim.Native.Nat.{ℕ, ◌-◌, ◌/◌}
use lib.ListN.{length}
use Rattle.laws.specs.Lists.{from}
use Rattle.records.specs.Stores.{inserts}
use Rattle.merge.specs.Tries.{record_by, records_by, Underway}
use Rattle.merge.proofs.Underway.{underway_begins, number_on, number_full, numbers_done}
use Rattle.merge.proofs.many.insert_all.Goals as goal

begins : (s ts vs : List ℕ) → Underway s (inserts (records_by ts vs)) (map (record_by ts vs) (from 0 (length ts / 4 - 0))) s
begins s ts vs = let e : length ts / 4 - 0 ≡ length ts / 4 = omega arith in rw e (underway_begins s (records_by ts vs))

pub loop-j-init : goal.loop-j-init
loop-j-init c = (refl, begins c.args.s.now c.args.tests.now c.args.answers.now)

pub judged_record-requires : goal.judged_record-requires
judged_record-requires c =
    (omega (arith, c.loop-j-test.true), omega (arith, c.loop-j-test.true, c.requires.answers_len))

pub insert-requires : goal.insert-requires
insert-requires c = c.loop-j.invariant.0 ∙ c.requires.s_len

pub shape_of-s-then-not-insert : goal.shape_of-s-then-not-insert
shape_of-s-then-not-insert c = c.insert.auto.s ∙ c.loop-j.invariant.0

pub returns-then-not-insert : goal.returns-then-not-insert
returns-then-not-insert c =
    record {
      held =
          number_full c.args.s.now (inserts (records_by c.args.tests.now c.args.answers.now)) (record_by c.args.tests.now c.args.answers.now) c.loop-j.j
          (length c.args.tests.now / 4) (omega (arith, c.loop-j-test.true)) c.loop-j.s c.loop-j.invariant.1 c.insert.new.s
          c.judged_record.result c.judged_record.ensures.0 c.insert.result c.if-not-insert.true-raw c.insert.ensures;
      size = c.insert.auto.s ∙ c.loop-j.invariant.0;
    }

pub overflow_add-j : goal.overflow_add-j
overflow_add-j c = record { fits = omega (arith, c.loop-j-test.true, c.well_formed.1.0.0) }

pub loop-j-smaller : goal.loop-j-smaller
loop-j-smaller c = omega (arith, c.loop-j-test.true)

pub loop-j-preserved : goal.loop-j-preserved
loop-j-preserved c = (
  c.insert.auto.s ∙ c.loop-j.invariant.0,
  number_on c.args.s.now (inserts (records_by c.args.tests.now c.args.answers.now)) (record_by c.args.tests.now c.args.answers.now) c.loop-j.j
      (length c.args.tests.now / 4) (omega (arith, c.loop-j-test.true)) c.loop-j.s c.loop-j.invariant.1 c.insert.new.s
      c.judged_record.result c.judged_record.ensures.0 c.insert.result c.if-not-insert.false-raw
      c.judged_record.ensures.1 c.insert.ensures,
)

pub shape_of-s : goal.shape_of-s
shape_of-s c = c.loop-j.invariant.0

pub returns : goal.returns
returns c =
    record {
      held =
          numbers_done c.args.s.now (inserts (records_by c.args.tests.now c.args.answers.now)) (record_by c.args.tests.now c.args.answers.now) c.loop-j.j
          (length c.args.tests.now / 4) (omega (arith, c.loop-j-test.false)) c.loop-j.s c.loop-j.invariant.1;
      size = c.loop-j.invariant.0;
    }
