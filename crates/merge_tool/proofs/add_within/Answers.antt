-- `add_within`: the arrays of the store and of the table are lent whole. The lengths are written out, since antt cannot count them cell by cell.
use Rattle.std.proofs.Common.{ℕ}
use mathlib.Core.Path.{sym, ◌∙◌}
use lib.ListN.{length-replicate}
use Rattle.merge_tool.proofs.add_within.Goals as goal

pub slice_bounds-load_table-end : goal.slice_bounds-load_table-end
slice_bounds-load_table-end g c = sym (length-replicate {A = ℕ} 621713 0)

pub slice_bounds-add_by-end : goal.slice_bounds-add_by-end
slice_bounds-add_by-end g c = sym (c.load_store.auto.store ∙ length-replicate {A = ℕ} 40968 0)

pub slice_bounds-add_by-end-2 : goal.slice_bounds-add_by-end-2
slice_bounds-add_by-end-2 g c = sym (c.load_table.auto.t ∙ length-replicate {A = ℕ} 621713 0)
