-- `script`: the arrays of the two tables are lent whole. Their length is written out, since antt cannot count it cell by cell.
use Rattle.std.proofs.Common.{ℕ}
use mathlib.Core.Path.{sym}
use lib.ListN.{length-replicate}
use Rattle.cases.proofs.scripts.script.Goals as goal

pub slice_bounds-play_all-end : goal.slice_bounds-play_all-end
slice_bounds-play_all-end g c = sym (length-replicate {A = ℕ} 621714 0)

pub slice_bounds-play_all-end-2 : goal.slice_bounds-play_all-end-2
slice_bounds-play_all-end-2 g c = sym (length-replicate {A = ℕ} 621714 0)
