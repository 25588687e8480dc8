-- Cells moved up. Assumes nothing.
use Rattle.std.specs.Prelude.{List, ◌++◌, ℕ, ◌+◌, ◌-◌, take, drop}

-- The cells from `at` up to `end` stand `by` further on; those that they leave are as they were.
unfoldable pub moved : List ℕ → ℕ → ℕ → ℕ → List ℕ
moved s at end by = take (at + by) s ++ (take (end - at) (drop at s) ++ drop (end + by) s)
