-- That the promises of histories speak of something: with so many appliances at most, each history is one that calls can bring about.
-- Assumes nothing.
use Rattle.std.specs.Prelude.{List, ◌≡◌, ℕ, ◌%◌, ◌≤◌, T, length}
use Rattle.laws.specs.Lists.{member}
use Rattle.language.specs.Checking.{Verdict}
use Rattle.records.specs.Stores.{capacity}
use Rattle.records.specs.Limits.{Test, limit_answer}
use Rattle.merge.specs.Histories.{History, Leaves, Merges, SizedTests}

-- Tests merged at once are four numbers each, none left over.
abbrev pub Whole : History → Type 0
Whole History.empty = Unit {0}
Whole (History.add x h) = Whole h
Whole (History.many ns h) = (length ns % 4 ≡ 0) × Whole h
Whole (History.join h k) = Whole h × Whole k
Whole (History.refused h) = Whole h

-- "A store holds 1,024 appliances; for so many at most": the calls of a history can all be made, with the answers that it names.
abbrev pub CanBeLeft : Type 0
CanBeLeft =
    (t : List ℕ) (i budget : ℕ) (h : History) (appliances : List ℕ)
    → limit_answer t i ≡ Verdict.accepted
    → SizedTests h
    → Whole h
    → ((y : Test) → Merges y h → T (member y.appliance appliances))
    → length appliances ≤ capacity
    → (s : List ℕ) × Leaves t i budget h s
