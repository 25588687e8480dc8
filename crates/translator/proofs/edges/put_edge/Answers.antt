-- The edge's place, its copies to new registers and to targets, its jump.
use mathlib.Core.Path.{◌∙◌}
use native.Mathlib.Omega.{arith}
use Rattle.translator.proofs.EdgesLaws.{edge_few, edge_long, edge_last, placed, jumped}
use Rattle.translator.proofs.edges.put_edge.Goals as goal

pub put_place-requires : goal.put_place-requires
put_place-requires c =
    let args = c.args in
    let e = c.requires.b_value in
    (edge_long args.t.now args.a c.requires.translatable_at args.m.now c.requires.prepared args.y args.j args.n args.k c.requires.edge args.b c.phis-p.result e.0 c.phis-p.ensures.0 args.out.now e.1, edge_few args.t.now args.a c.requires.translatable_at args.m.now c.requires.prepared args.y args.j args.n args.k c.requires.edge args.b c.phis-p.result e.0 c.phis-p.ensures.0)

pub copy_entries-requires : goal.copy_entries-requires
copy_entries-requires c =
    let args = c.args in
    let e = c.requires.b_value in
    record { translatable_at = c.requires.translatable_at; prepared = c.requires.prepared; edge = c.requires.edge; out_value = placed args.t.now args.a c.requires.translatable_at args.m.now c.requires.prepared args.y args.j args.n args.k c.requires.edge args.b c.phis-p.result e.0 c.phis-p.ensures.0 args.out.now c.put_place.new.out e.1 c.put_place.ensures }

pub copy_targets-requires : goal.copy_targets-requires
copy_targets-requires c =
    record { translatable_at = c.requires.translatable_at; prepared = c.requires.prepared; edge = c.requires.edge; out_value = c.copy_entries.ensures }

pub overflow_add-k : goal.overflow_add-k
overflow_add-k c =
    let args = c.args in
    let e = c.requires.b_value in
    omega (arith, edge_last args.t.now args.a c.requires.translatable_at args.m.now c.requires.prepared args.y args.j args.n args.k c.requires.edge args.b c.phis-p.result e.0 c.phis-p.ensures.0)

pub put_row-requires : goal.put_row-requires
put_row-requires c =
    let args = c.args in
    let e = c.requires.b_value in
    let long = edge_long args.t.now args.a c.requires.translatable_at args.m.now c.requires.prepared args.y args.j args.n args.k c.requires.edge args.b c.phis-p.result e.0 c.phis-p.ensures.0 args.out.now e.1 in record { in_table = (omega (arith, c.copy_targets.auto.out ∙ c.copy_entries.auto.out ∙ c.put_place.auto.out), edge_last args.t.now args.a c.requires.translatable_at args.m.now c.requires.prepared args.y args.j args.n args.k c.requires.edge args.b c.phis-p.result e.0 c.phis-p.ensures.0); target_bound = (omega arith, omega arith, omega arith) }

pub overflow_add-result : goal.overflow_add-result
overflow_add-result c =
    let args = c.args in
    let e = c.requires.b_value in
    omega (arith, edge_last args.t.now args.a c.requires.translatable_at args.m.now c.requires.prepared args.y args.j args.n args.k c.requires.edge args.b c.phis-p.result e.0 c.phis-p.ensures.0)

pub overflow_add-result-2 : goal.overflow_add-result-2
overflow_add-result-2 c =
    let args = c.args in
    let e = c.requires.b_value in
    omega (arith, edge_last args.t.now args.a c.requires.translatable_at args.m.now c.requires.prepared args.y args.j args.n args.k c.requires.edge args.b c.phis-p.result e.0 c.phis-p.ensures.0)

pub returns : goal.returns
returns c =
    let args = c.args in
    let e = c.requires.b_value in
    jumped args.t.now args.a c.requires.translatable_at args.m.now c.requires.prepared args.y args.j args.n args.k c.requires.edge args.b c.phis-p.result e.0 c.phis-p.ensures.0 c.copy_targets.new.out c.put_row.new.t c.copy_targets.ensures c.put_row.ensures
