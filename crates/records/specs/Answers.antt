-- What the calls answer, with the store as it is afterwards.
-- Assumes nothing.
use Rattle.std.specs.Prelude.{Bool, true, false, cond, ◌&&◌, List, [], map, ◌⊎◌, ◌≡◌, ℕ, ◌+◌, ◌*◌, ◌/◌, ◌%◌, eqb, leb, length, get_or}
use Rattle.laws.specs.Lists.{below}
use Rattle.language.specs.Checking.{Verdict}
use Rattle.records.specs.declared.Record.{Record}
use Rattle.records.specs.Stores.{FoundRecord, insert, inserts, joined, lookup, nth, capacity, store_length, store_cells, StoreHolds, Among, records_of}
use Rattle.records.specs.Limits.{Test, limit_answer, judged_test}

pub record MergedStore : Type 0 where
  pub answer : Verdict
  pub store : List ℕ

-- "any refusal leaves the store unchanged"
abbrev pub unchanged : List ℕ → ℕ → ℕ → MergedStore
unchanged s k p = record { answer = Verdict.refused k p; store = s }

-- A store that held s now holds these records, or is as it was: 60, "store full and appliance new".
unfoldable pub kept : List ℕ → List Record → MergedStore
kept s es = cond (leb (length es) capacity) (record { answer = Verdict.accepted; store = store_cells es }) (unchanged s 60 0)

-- Merged with the store as it is then, or no room.
abbrev pub kept_as : Bool → List ℕ → MergedStore
kept_as true s = record { answer = Verdict.accepted; store = s }
kept_as false s = unchanged s 60 0

-- Bytes of the right length that are no store's get an answer too, done or 60, and nothing past them is touched: what is in them then is free, but a
-- refusal leaves them unchanged.
pub record Harmless (s : List ℕ) (m : MergedStore) : Type 0 where
  pub size : length m.store ≡ length s
  pub either : (m.answer ≡ Verdict.accepted) ⊎ (m ≡ unchanged s 60 0)

-- The bytes s have become those of f of the records that they held, or are as they were, with 60.
pub record Kept (s : List ℕ) (f : List Record → List Record) (m : MergedStore) : Type 0 where
  pub held : (es : List Record) → StoreHolds s es → m ≡ kept s (f es)
  pub harmless : Harmless s m

-- 22, which is never 60: lent bytes or numbers of another length than the call's.
abbrev pub IfLent : Bool → List ℕ → (MergedStore → Type 0) → MergedStore → Type 0
IfLent true s P m = P m
IfLent false s P m = m ≡ unchanged s 22 0

-- A limit function that is refused, before all else.
abbrev pub Allowed : Verdict → List ℕ → (MergedStore → Type 0) → MergedStore → Type 0
Allowed Verdict.accepted s P m = P m
Allowed (Verdict.refused k p) s P m = m ≡ unchanged s k p

-- ---- merging: the store was s, and m is the answer with the store afterwards

-- The store is emptied, whatever it held.
unfoldable pub emptied : List ℕ → MergedStore
emptied s = cond (eqb (length s) store_length) (record { answer = Verdict.accepted; store = store_cells [] }) (unchanged s 22 0)

-- Test x is merged, with its verdict by function i of table t and a budget.
abbrev pub RecordMerged : List ℕ → ℕ → ℕ → Test → List ℕ → MergedStore → Type 0
RecordMerged t i budget x s = Allowed (limit_answer t i) s (IfLent (eqb (length s) store_length) s (Kept s (insert (judged_test t i budget x))))

-- The tests that these numbers say, four each; numbers left over say none.
abbrev pub test_at : List ℕ → ℕ → Test
test_at ns j =
    record {
      appliance = get_or ns (4 * j) 0;
      time = get_or ns (4 * j + 1) 0;
      tablet = get_or ns (4 * j + 2) 0;
      reading = get_or ns (4 * j + 3) 0;
    }

abbrev pub tests_of : List ℕ → List Test
tests_of ns = map (test_at ns) (below (length ns / 4))

-- Many tests are merged, all or none.
abbrev pub RecordsMerged : List ℕ → ℕ → ℕ → List ℕ → List ℕ → MergedStore → Type 0
RecordsMerged t i budget ns s =
    Allowed (limit_answer t i) s
    (IfLent (eqb (length s) store_length && eqb (length ns % 4) 0) s (Kept s (inserts (map (judged_test t i budget) (tests_of ns)))))

-- Store u is merged: its records one after the other, all or none. Of any bytes of the right length it is the records in them, taken in one pass from
-- the front.
pub record StoreJoined (u s : List ℕ) (m : MergedStore) : Type 0 where
  pub exact : m ≡ kept s (joined (records_of s) (records_of u))
  pub held : (es fs : List Record) → StoreHolds s es → StoreHolds u fs → m ≡ kept s (inserts fs es)
  pub harmless : Harmless s m

abbrev pub StoreMerged : List ℕ → List ℕ → MergedStore → Type 0
StoreMerged u s = IfLent (eqb (length s) store_length && eqb (length u) store_length) s (StoreJoined u s)

-- ---- looking

-- What a look-up answers: a record or none, or 22 for a store of another length.
pub data Looked : Type 0 where
  looked : FoundRecord → Looked
  refused : (number : ℕ) → Looked

abbrev pub LentToLook : Bool → (Looked → Type 0) → Looked → Type 0
LentToLook true P l = P l
LentToLook false P l = l ≡ Looked.refused 22

-- Appliance a is looked up. Of bytes that are no store's a record of that appliance, or none: which is free.
pub record LookedIn (s : List ℕ) (a : ℕ) (l : Looked) : Type 0 where
  pub held : (es : List Record) → StoreHolds s es → l ≡ Looked.looked (lookup a es)
  pub among :
      (l ≡ Looked.looked FoundRecord.none)
      ⊎ ((r : Record) × ((l ≡ Looked.looked (FoundRecord.found r)) × (Among r (records_of s) × (r.appliance ≡ a))))

abbrev pub LookedUp : List ℕ → ℕ → Looked → Type 0
LookedUp s a = LentToLook (eqb (length s) store_length) (LookedIn s a)

-- The n-th record, of any bytes of the right length.
abbrev pub LookedNth : List ℕ → ℕ → Looked → Type 0
LookedNth s n = LentToLook (eqb (length s) store_length) (λ l. l ≡ Looked.looked (nth n (records_of s)))
