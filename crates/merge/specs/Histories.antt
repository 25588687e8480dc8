-- A8's promise of the entry points themselves: a call is known here by what its contract says of it, and by nothing else. "any order and grouping of
-- merges gives the same record, and a record merged twice changes nothing. A store, begun empty and handed on unchanged, answers for an
-- appliance the winner of its accepted records, or none."
-- Assumes nothing.
use Rattle.std.specs.Prelude.{List, [], ◌∷◌, ◌⊎◌, ◌↔◌, ◌≡◌, ℕ, ◌%◌, ◌<◌, ◌≤◌, ◌^◌, T, length}
use Rattle.laws.specs.Lists.{member}
use Rattle.language.specs.Checking.{Verdict}
use Rattle.records.specs.Stores.{FoundRecord, nth, capacity, StoreHolds}
use Rattle.records.specs.Limits.{Test, limit_answer, judged_test}
use Rattle.records.specs.Answers.{Looked, tests_of}
use Rattle.records.specs.Trees.{Tree, Winner, store_of}
use Rattle.merge.specs.declared.figures.Merged.{Merged}
use Rattle.merge.specs.declared.figures.Look.{Look}
use Rattle.merge.specs.Calls.{merged_verdict, look_of, EmptyCalled, RecordCalled, RecordsCalled, StoreCalled, LookCalled, NthCalled}

-- The calls that brought a store about, one store's within another's: emptied; a test merged; many at once; a store merged into it; a call refused.
pub data History : Type 0 where
  empty : History
  add : Test → History → History
  many : (numbers : List ℕ) → History → History
  join : History → History → History
  refused : History → History

-- A call that may change store s was refused, whatever it was called with, and left s'.
pub data RefusedCall (s s' : List ℕ) : Type 0 where
  by_record :
      (t : List ℕ) (i budget : ℕ) (x : Test) (r : Merged) (k p : ℕ)
      → RecordCalled t i budget x s r s'
      → merged_verdict r ≡ Verdict.refused k p
      → RefusedCall s s'
  by_records :
      (t : List ℕ) (i budget : ℕ) (numbers : List ℕ) (r : Merged) (k p : ℕ)
      → RecordsCalled t i budget numbers s r s'
      → merged_verdict r ≡ Verdict.refused k p
      → RefusedCall s s'
  by_store : (u : List ℕ) (r : Merged) (k p : ℕ) → StoreCalled u s r s' → merged_verdict r ≡ Verdict.refused k p → RefusedCall s s'
  by_empty : (r : Merged) (k p : ℕ) → EmptyCalled s r s' → merged_verdict r ≡ Verdict.refused k p → RefusedCall s s'

module _ (t : List ℕ) (i budget : ℕ) where
  -- The history leaves store s, "begun empty and handed on unchanged", with table t, function i and this budget "the same for a whole store"; but for
  -- those so named no call was refused.
  abbrev pub Leaves : History → List ℕ → Type 0
  Leaves History.empty s = (s₀ : List ℕ) × ((r : Merged) × (EmptyCalled s₀ r s × (merged_verdict r ≡ Verdict.accepted)))
  Leaves (History.add x h) s =
      (s₀ : List ℕ) × ((r : Merged) × (Leaves h s₀ × (RecordCalled t i budget x s₀ r s × (merged_verdict r ≡ Verdict.accepted))))
  Leaves (History.many ns h) s =
      (s₀ : List ℕ) × ((r : Merged) × (Leaves h s₀ × (RecordsCalled t i budget ns s₀ r s × (merged_verdict r ≡ Verdict.accepted))))
  Leaves (History.join h k) s =
      (s₀ : List ℕ) × ((u : List ℕ) × ((r : Merged) × (Leaves h s₀ × (Leaves k u × (StoreCalled u s₀ r s × (merged_verdict r ≡ Verdict.accepted))))))
  Leaves (History.refused h) s = (s₀ : List ℕ) × (Leaves h s₀ × RefusedCall s₀ s)

  -- "its accepted records": each test that was merged, with its verdict.
  abbrev pub adds : List Test → Tree → Tree
  adds [] u = u
  adds (x ∷ xs) u = adds xs (Tree.add (judged_test t i budget x) u)

  abbrev pub accepted_in : History → Tree
  accepted_in History.empty = Tree.empty
  accepted_in (History.add x h) = Tree.add (judged_test t i budget x) (accepted_in h)
  accepted_in (History.many ns h) = adds (tests_of ns) (accepted_in h)
  accepted_in (History.join h k) = Tree.join (accepted_in h) (accepted_in k)
  accepted_in (History.refused h) = accepted_in h

-- The test is one of these; one of those merged.
abbrev pub OneOf : Test → List Test → Type 0
OneOf x [] = ⊥
OneOf x (y ∷ ys) = (x ≡ y) ⊎ OneOf x ys

abbrev pub Merges : Test → History → Type 0
Merges x History.empty = ⊥
Merges x (History.add y h) = (x ≡ y) ⊎ Merges x h
Merges x (History.many ns h) = OneOf x (tests_of ns) ⊎ Merges x h
Merges x (History.join h k) = Merges x h ⊎ Merges x k
Merges x (History.refused h) = Merges x h

-- "each below 2^64", as the numbers of a call are.
pub record SizedTest (x : Test) : Type 0 where
  pub appliance : x.appliance < 2 ^ 64
  pub time : x.time < 2 ^ 64
  pub tablet : x.tablet < 2 ^ 64
  pub reading : x.reading < 2 ^ 64

abbrev pub SizedTests : History → Type 0
SizedTests h = (x : Test) → Merges x h → SizedTest x

-- ---- the promises

-- What a history leaves are the bytes of a store that holds the winners of its accepted records.
abbrev pub LeavesWinners : Type 0
LeavesWinners =
    (t : List ℕ) (i budget : ℕ) (h : History) (s : List ℕ)
    → SizedTests h
    → Leaves t i budget h s
    → StoreHolds s (store_of (accepted_in t i budget h))

-- "any order and grouping of merges gives the same record": two histories that merge the same set of tests, in whatever order, grouping and
-- repetition, leave the same bytes.
abbrev pub AnyOrderOfCalls : Type 0
AnyOrderOfCalls =
    (t : List ℕ) (i budget : ℕ) (h k : History) (s u : List ℕ)
    → SizedTests h
    → ((x : Test) → Merges x h ↔ Merges x k)
    → Leaves t i budget h s
    → Leaves t i budget k u
    → s ≡ u

-- "a record merged twice changes nothing", and is not refused.
abbrev pub TwiceOfCalls : Type 0
TwiceOfCalls =
    (t : List ℕ) (i budget : ℕ) (h : History) (s : List ℕ) (x : Test) (r : Merged) (s' : List ℕ)
    → SizedTests h
    → Leaves t i budget h s
    → Merges x h
    → RecordCalled t i budget x s r s'
    → (merged_verdict r ≡ Verdict.accepted) × (s' ≡ s)

-- So for many at once, each merged before; where there are none of them, the limit function has still to be allowed.
abbrev pub TwiceOfRecords : Type 0
TwiceOfRecords =
    (t : List ℕ) (i budget : ℕ) (h : History) (s numbers : List ℕ) (r : Merged) (s' : List ℕ)
    → SizedTests h
    → Leaves t i budget h s
    → ((x : Test) → OneOf x (tests_of numbers) → Merges x h)
    → length numbers % 4 ≡ 0
    → limit_answer t i ≡ Verdict.accepted
    → RecordsCalled t i budget numbers s r s'
    → (merged_verdict r ≡ Verdict.accepted) × (s' ≡ s)

-- "answers for an appliance the winner of its accepted records, or none"
abbrev pub LookOfCalls : Type 0
LookOfCalls =
    (t : List ℕ) (i budget : ℕ) (h : History) (s : List ℕ) (a : ℕ) (r : Look)
    → SizedTests h
    → Leaves t i budget h s
    → LookCalled s a r
    → (f : FoundRecord) × (Winner (accepted_in t i budget h) a f × (r ≡ look_of (Looked.looked f)))

-- One after the other, the winners by rising appliance numbers; none past the last.
abbrev pub NthOfCalls : Type 0
NthOfCalls =
    (t : List ℕ) (i budget : ℕ) (h : History) (s : List ℕ) (n : ℕ) (r : Look)
    → SizedTests h
    → Leaves t i budget h s
    → NthCalled s n r
    → r ≡ look_of (Looked.looked (nth n (store_of (accepted_in t i budget h))))

-- "A store holds 1,024 appliances; for so many at most": a test is then refused for no other reason than its limit function.
abbrev pub RoomOfCalls : Type 0
RoomOfCalls =
    (t : List ℕ) (i budget : ℕ) (h : History) (s : List ℕ) (x : Test) (r : Merged) (s' appliances : List ℕ)
    → SizedTests (History.add x h)
    → Leaves t i budget h s
    → ((y : Test) → Merges y (History.add x h) → T (member y.appliance appliances))
    → length appliances ≤ capacity
    → RecordCalled t i budget x s r s'
    → merged_verdict r ≡ limit_answer t i

-- So for many at once, four numbers each.
abbrev pub RoomOfRecords : Type 0
RoomOfRecords =
    (t : List ℕ) (i budget : ℕ) (h : History) (s numbers : List ℕ) (r : Merged) (s' appliances : List ℕ)
    → SizedTests (History.many numbers h)
    → Leaves t i budget h s
    → ((y : Test) → Merges y (History.many numbers h) → T (member y.appliance appliances))
    → length appliances ≤ capacity
    → length numbers % 4 ≡ 0
    → RecordsCalled t i budget numbers s r s'
    → merged_verdict r ≡ limit_answer t i

-- Two stores of so many appliances together: a merge of the one into the other is not refused.
abbrev pub RoomOfStores : Type 0
RoomOfStores =
    (t : List ℕ) (i budget : ℕ) (h k : History) (s u : List ℕ) (r : Merged) (s' appliances : List ℕ)
    → SizedTests (History.join h k)
    → Leaves t i budget h s
    → Leaves t i budget k u
    → ((y : Test) → Merges y (History.join h k) → T (member y.appliance appliances))
    → length appliances ≤ capacity
    → StoreCalled u s r s'
    → merged_verdict r ≡ Verdict.accepted

-- "any refusal leaves the store unchanged", whatever its bytes.
abbrev pub RefusalsLeave : Type 0
RefusalsLeave = (s s' : List ℕ) → RefusedCall s s' → s' ≡ s

-- 60 exactly where the "store [is] full and appliance new": 1,024 appliances, none of them the test's.
abbrev pub FullExactly : Type 0
FullExactly =
    (t : List ℕ) (i budget : ℕ) (h : History) (s : List ℕ) (x : Test) (r : Merged) (s' : List ℕ)
    → SizedTests h
    → Leaves t i budget h s
    → limit_answer t i ≡ Verdict.accepted
    → RecordCalled t i budget x s r s'
    → (merged_verdict r ≡ Verdict.refused 60 0)
    ↔ ((length (store_of (accepted_in t i budget h)) ≡ capacity) × ((y : Test) → Merges y h → y.appliance ≡ x.appliance → ⊥))
