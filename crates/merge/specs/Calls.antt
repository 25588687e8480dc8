-- What the entry points promise of a call: the answer in numbers, and every byte of the store, are those that `records` defines.
-- Assumes nothing.
use Rattle.std.specs.Prelude.{cond, ◌&&◌, List, ◌≡◌, ℕ, eqb}
use Rattle.language.specs.Checking.{Verdict}
use Rattle.records.specs.Stores.{FoundRecord}
use Rattle.records.specs.Limits.{Test}
use Rattle.records.specs.Answers.{MergedStore, Looked, emptied, RecordMerged, RecordsMerged, StoreMerged, LookedUp, LookedNth}
use Rattle.merge.specs.declared.figures.Merged.{Merged}
use Rattle.merge.specs.declared.figures.Look.{Look}

-- A test by its numbers.
abbrev pub test : (appliance time tablet reading : ℕ) → Test
test a b c d = record { appliance = a; time = b; tablet = c; reading = d }

-- An answer 0 0 says that it is done, any other is a refusal.
abbrev pub merged_verdict : Merged → Verdict
merged_verdict r = cond (eqb r.number 0 && eqb r.place 0) Verdict.accepted (Verdict.refused r.number r.place)

abbrev pub merged_of : Merged → List ℕ → MergedStore
merged_of r s = record { answer = merged_verdict r; store = s }

-- The numbers of a look-up.
abbrev pub look_of : Looked → Look
look_of (Looked.refused n) = record { number = n; found = 0; appliance = 0; time = 0; fail = 0; tablet = 0; reading = 0 }
look_of (Looked.looked FoundRecord.none) = record { number = 0; found = 0; appliance = 0; time = 0; fail = 0; tablet = 0; reading = 0 }
look_of (Looked.looked (FoundRecord.found e)) =
    record {
      number = 0;
      found = 1;
      appliance = e.appliance;
      time = e.time;
      fail = e.fail;
      tablet = e.tablet;
      reading = e.reading;
    }

-- `merge_empty` with store s answered r and left s'.
abbrev pub EmptyCalled : (s : List ℕ) (r : Merged) (s' : List ℕ) → Type 0
EmptyCalled s r s' = merged_of r s' ≡ emptied s

-- `merge_record` with table t, function i, a budget and test x, on store s, answered r and left s'.
abbrev pub RecordCalled : (t : List ℕ) (i budget : ℕ) (x : Test) (s : List ℕ) (r : Merged) (s' : List ℕ) → Type 0
RecordCalled t i budget x s r s' = RecordMerged t i budget x s (merged_of r s')

-- `merge_records` with the tests in these numbers.
abbrev pub RecordsCalled : (t : List ℕ) (i budget : ℕ) (numbers s : List ℕ) (r : Merged) (s' : List ℕ) → Type 0
RecordsCalled t i budget numbers s r s' = RecordsMerged t i budget numbers s (merged_of r s')

-- `merge_store` of store u into store s.
abbrev pub StoreCalled : (u s : List ℕ) (r : Merged) (s' : List ℕ) → Type 0
StoreCalled u s r s' = StoreMerged u s (merged_of r s')

-- `merge_look` for appliance a in store s, and `merge_nth`, answered r.
abbrev pub LookCalled : (s : List ℕ) (a : ℕ) (r : Look) → Type 0
LookCalled s a r = (l : Looked) × (LookedUp s a l × (r ≡ look_of l))

abbrev pub NthCalled : (s : List ℕ) (n : ℕ) (r : Look) → Type 0
NthCalled s n r = (l : Looked) × (LookedNth s n l × (r ≡ look_of l))
