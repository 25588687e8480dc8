-- The parts in the order of the definition: the first that fails is the answer.
use mathlib.Core.Path.{◌∙◌}
use native.Mathlib.Omega.{arith}
use Rattle.checker.proofs.TestLaws.{fell, held}
use Rattle.checker.proofs.SoundLaws.{head_counts, placed_right, rows_among, head_fails, types_fail, blocks_fail, rows_fail, lists_fail, none_fails}
use Rattle.checker.proofs.sound.sound_at.Goals as goal

pub returns-then-not-head_right : goal.returns-then-not-head_right
returns-then-not-head_right c =
    let args = c.args in
    head_fails args.t.now args.i args.a (fell c.head_right.ensures c.if-not-head_right.true-raw)

pub types_right-requires : goal.types_right-requires
types_right-requires c =
    let counts = head_counts c.args.t.now c.args.a (held c.head_right.ensures c.if-not-head_right.false-raw) in
    (omega arith, omega arith, omega arith)

pub returns-then-not-types_right : goal.returns-then-not-types_right
returns-then-not-types_right c =
    let args = c.args in
    types_fail args.t.now args.i args.a (held c.head_right.ensures c.if-not-head_right.false-raw) (fell c.types_right.ensures c.if-not-types_right.true-raw)

pub placed_rows-requires : goal.placed_rows-requires
placed_rows-requires c =
    let counts = head_counts c.args.t.now c.args.a (held c.head_right.ensures c.if-not-head_right.false-raw) in
    (omega arith, omega arith, omega arith)

pub returns-in_default : goal.returns-in_default
returns-in_default c =
    let args = c.args in
    (blocks_fail args.t.now args.i args.a (held c.head_right.ensures c.if-not-head_right.false-raw) (held c.types_right.ensures c.if-not-types_right.false-raw) (omega (arith, c.in_default.ensures.rows)))

pub rows_right-requires : goal.rows_right-requires
rows_right-requires c =
    let rows = placed_right c.args.t.now c.args.a (omega (arith, c.in-Some.ensures.rows, c.in-Some.ensures.few)) in
    record { in_table = (omega arith, omega arith, omega arith); rows_value = (c.in-Some.ensures.rows ∙ rows.1, c.in-Some.ensures.few) }

pub returns-then-not-rows_right : goal.returns-then-not-rows_right
returns-then-not-rows_right c =
    let args = c.args in
    rows_fail args.t.now args.i args.a (held c.head_right.ensures c.if-not-head_right.false-raw) (held c.types_right.ensures c.if-not-types_right.false-raw) (omega (arith, c.in-Some.ensures.rows, c.in-Some.ensures.few))
    (fell c.rows_right.ensures c.if-not-rows_right.true-raw)

pub predecessors_kept-requires : goal.predecessors_kept-requires
predecessors_kept-requires c =
    let counts = head_counts c.args.t.now c.args.a (held c.head_right.ensures c.if-not-head_right.false-raw) in
    record { in_table = (omega arith, omega arith, omega arith); by_index = λ b l. rows_among c.args.t.now c.args.a (omega (arith, c.in-Some.ensures.rows, c.in-Some.ensures.few)) b (omega arith) }

pub returns-then-not-predecessors_kept : goal.returns-then-not-predecessors_kept
returns-then-not-predecessors_kept c =
    let args = c.args in
    lists_fail args.t.now args.i args.a (held c.head_right.ensures c.if-not-head_right.false-raw) (held c.types_right.ensures c.if-not-types_right.false-raw) (omega (arith, c.in-Some.ensures.rows, c.in-Some.ensures.few))
    (held c.rows_right.ensures c.if-not-rows_right.false-raw)
    (fell c.predecessors_kept.ensures c.if-not-predecessors_kept.true-raw)

pub names_right-requires : goal.names_right-requires
names_right-requires c =
    let counts = head_counts c.args.t.now c.args.a (held c.head_right.ensures c.if-not-head_right.false-raw) in
    record { t_len = c.requires; registers_value = (omega arith, omega arith, omega arith, omega arith) }

pub returns : goal.returns
returns c =
    let args = c.args in
    c.names_right.ensures
    ∙ none_fails args.t.now args.i args.a (held c.head_right.ensures c.if-not-head_right.false-raw) (held c.types_right.ensures c.if-not-types_right.false-raw) (omega (arith, c.in-Some.ensures.rows, c.in-Some.ensures.few))
    (held c.rows_right.ensures c.if-not-rows_right.false-raw)
    (held c.predecessors_kept.ensures c.if-not-predecessors_kept.false-raw)
