-- `compare`: the array of the cells is lent whole. Its length is written out, since antt cannot count it cell by cell.
use Rattle.std.proofs.Common.{ℕ}
use mathlib.Core.Path.{sym, ◌∙◌}
use lib.ListN.{length-replicate}
use Rattle.cases.proofs.tables.compare.Goals as goal

pub slice_bounds-put_cells-end : goal.slice_bounds-put_cells-end
slice_bounds-put_cells-end g c = sym (length-replicate {A = ℕ} 621714 0)

pub slice_bounds-differing-end : goal.slice_bounds-differing-end
slice_bounds-differing-end g c = sym (c.put_cells.auto.t ∙ length-replicate {A = ℕ} 621714 0)
