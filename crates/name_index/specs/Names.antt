-- Names in a table, as a list. Assumes nothing.
use Rattle.std.specs.Prelude.{List, map, ℕ, ◌+◌, ◌*◌}
use Rattle.laws.specs.Lists.{below}
use Rattle.language.specs.Table.{name_at}

-- The first `count` names whose length cells stand `stride` apart, from cell `at` on.
unfoldable pub names_in : List ℕ → ℕ → ℕ → ℕ → List (List ℕ)
names_in t at stride count = map (λ i. name_at t (at + stride * i)) (below count)
