-- All rows are noted, then the leading phi of all blocks.
use mathlib.Core.List.{List}
use Prim.Native.Nat.{ℕ}
use Rattle.language.specs.Table.{block_count, row_count, decode_function}
use Rattle.language.proofs.TableView.{block_count_law, row_count_law}
use Rattle.flow.specs.Sized.{Preparable}
use Rattle.flow.specs.Assignments.{Noted}
use Rattle.flow.specs.Leading.{Led}
use Rattle.flow.specs.Prepared.{Prepared}
use Rattle.flow.proofs.PreparedLaws.{all_prepared}
use Rattle.flow.proofs.prepare.Goals as goal

done : (t : List ℕ) (a : ℕ) (m m' : List ℕ) → Preparable t a → Noted (decode_function t a) m (row_count t a) → Led (decode_function t a) m m' (block_count t a) → Prepared (decode_function t a) m'
done t a m m' fit n l = all_prepared (decode_function t a) m m' (rw (row_count_law t a fit.sized.placed) n) (rw (block_count_law t a) l)

pub returns : goal.returns
returns c = search done
