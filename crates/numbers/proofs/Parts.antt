-- A part of a slice written whole is a run of its cells. Assumes nothing.
use mathlib.Core.List.{List}
use mathlib.Core.Path.{◌≡◌, ◌∙◌}
use Prim.Native.Nat.{ℕ, ◌+◌, ◌-◌, ◌≤◌}
use native.Mathlib.Omega.{arith}
use borrow.Rule.Slice.PartMut.{put_mid}
use lib.ListN.{length}
use lib.Seq.{sets}
use Rattle.std.proofs.lemmas.Slice.{put_mid-paste}
use Rattle.laws.proofs.Cells.{paste_all}

pub part_set : (a n : ℕ) (l ys xs : List ℕ) → ys ≡ xs → length xs ≡ n → a + n ≤ length l → put_mid a (a + n - a) l ys ≡ sets l a xs
part_set a n l ys xs e m h =
    put_mid-paste a (a + n - a) l ys xs (length xs) e (omega arith) (omega arith) ∙ paste_all l xs a (omega arith)
