-- All tests, up to 64 at a time: where the next ones end, and what is still to come. Assumes nothing.
use mathlib.Core.Bool.{Bool, true, false, cond, not}
use mathlib.Core.List.{List, [], ◌++◌, map, map-append}
use mathlib.Core.Logic.{inl, inr}
use mathlib.Core.Path.{◌≡◌, refl, sym, ◌∙◌, ap, subst, subst⁻¹}
use Prim.Native.Nat.{ℕ, ◌+◌, ◌-◌, ◌/◌, ◌%◌, ◌<◌, ◌≤◌}
use native.Mathlib.Omega.{arith}
use lib.Dec.{ltb}
use lib.ListN.{length, take, drop}
use borrow.Author.Tests.{ltb-true, ltb-false, not-true, not-false}
use Rattle.laws.specs.Lists.{from}
use Rattle.language.specs.Checking.{Verdict}
use Rattle.records.specs.declared.Record.{Record}
use Rattle.records.specs.Stores.{inserts, capacity, StoreHolds}
use Rattle.records.specs.Limits.{judged_test}
use Rattle.records.specs.Answers.{unchanged, Kept, test_at, tests_of}
use Rattle.merge.specs.declared.figures.Merged.{Merged}
use Rattle.merge.specs.Calls.{merged_verdict, merged_of}
use Rattle.merge.specs.Tries.{Tried, Underway}
use Rattle.merge.proofs.Refusing.{kept_room, kept_none}
use Rattle.merge.proofs.Fours.{tests_split}
use Rattle.merge.proofs.Underway.{underway_begins, underway_some, underway_some_full, underway_ends, none_from}

-- Where the next tests end: further on, within all, at most 64 of them, and none taken apart.
pub record Next (n k e : ℕ) : Type 0 where
  pub more : k < e
  pub within : e ≤ n
  pub few : e - k ≤ 256
  pub whole : e % 4 ≡ 0

pub next_end : (n k e : ℕ) → n % 4 ≡ 0 → k % 4 ≡ 0 → k < n → e ≡ cond (ltb (n - k) 256) n (k + 256) → Next n k e
next_end n k e a b l d = by (ltb (n - k) 256) refl d
  where
    by : (c : Bool) → ltb (n - k) 256 ≡ c → e ≡ cond c n (k + 256) → Next n k e
    by true i h = let m = ltb-true (n - k) 256 i in record { more = omega arith; within = omega arith; few = omega arith; whole = rw h a }
    by false i h = let m = ltb-false (n - k) 256 i in record { more = omega arith; within = omega arith; few = omega arith; whole = omega arith }

module _ (t : List ℕ) (i budget : ℕ) (ns : List ℕ) where
  abbrev pub all : List Record → List Record
  all = inserts (map (judged_test t i budget) (tests_of ns))

  -- the tests from number k of the numbers on
  abbrev pub rest_of : ℕ → List Record
  rest_of k = map (judged_test t i budget) (map (test_at ns) (from (k / 4) (length ns / 4 - k / 4)))

  pub whole_begins : (s : List ℕ) → Underway s all (rest_of 0) s
  whole_begins s =
      let e : length ns / 4 - 0 ≡ length ns / 4 = omega arith in
      subst⁻¹ (λ (n : ℕ). Underway s all (map (judged_test t i budget) (map (test_at ns) (from 0 n))) s) e (underway_begins s (map (judged_test t i budget) (tests_of ns)))

  module _ (s₀ s s' : List ℕ) (k e : ℕ) (four : length ns % 4 ≡ 0) (begins : k % 4 ≡ 0) (x : Next (length ns) k e) (u : Underway s₀ all (rest_of k) s) where
    abbrev part : List Record
    part = map (judged_test t i budget) (tests_of (take (e - k) (drop k ns)))

    split : Underway s₀ all (part ++ rest_of e) s
    split =
        let order : k ≤ e = omega (arith, x.more) in
        subst (λ (rs : List Record). Underway s₀ all rs s)
        (ap (map (judged_test t i budget)) (tests_split ns k e order x.within begins x.whole four)
        ∙ map-append (judged_test t i budget) (tests_of (take (e - k) (drop k ns))) (map (test_at ns) (from (e / 4) (length ns / 4 - e / 4))))
        u

    pub whole_on : (b : Bool) → not b ≡ false → Tried s (inserts part) b s' → Underway s₀ all (rest_of e) s'
    whole_on b d h = underway_some s₀ all s part (rest_of e) split s' (subst (λ (b : Bool). Tried s (inserts part) b s') (not-false b d) h)

    pub whole_full : (b : Bool) → not b ≡ true → Tried s (inserts part) b s' → (es : List Record) → StoreHolds s₀ es → capacity < length (all es)
    whole_full b d h = underway_some_full s₀ all s part (rest_of e) split s' (subst (λ (b : Bool). Tried s (inserts part) b s') (not-true b d) h)

  pub whole_done : (s₀ s : List ℕ) (k : ℕ) → length ns ≤ k → Underway s₀ all (rest_of k) s → (es : List Record) → StoreHolds s₀ es → StoreHolds s (all es)
  whole_done s₀ s k l u =
      let none : rest_of k ≡ [] = ap (map (judged_test t i budget)) (none_from (test_at ns) (k / 4) (length ns / 4) (omega arith)) in
      underway_ends s₀ all s (subst (λ (rs : List Record). Underway s₀ all rs s) none u)

-- ---- what was done, as an answer

pub kept_whole :
    (s s' : List ℕ) (f : List Record → List Record) (r : Merged) → merged_verdict r ≡ Verdict.accepted → length s' ≡ length s
    → ((es : List Record) → StoreHolds s es → StoreHolds s' (f es)) → Kept s f (merged_of r s')
kept_whole s s' f r e l h =
    record {
      held =
          λ es g.
          let d = h es g in
          ap (λ (v : Verdict). record { answer = v; store = s' }) e ∙ ap (λ (s : List ℕ). record { answer = Verdict.accepted; store = s }) d.bytes ∙ sym (kept_room s (f es) d.room);
      harmless = record { size = l; either = inl e };
    }

pub kept_unchanged :
    (s : List ℕ) (f : List Record → List Record) (r : Merged) → merged_verdict r ≡ Verdict.refused 60 0
    → ((es : List Record) → StoreHolds s es → capacity < length (f es)) → Kept s f (merged_of r s)
kept_unchanged s f r e h =
    let is : merged_of r s ≡ unchanged s 60 0 = ap (λ (v : Verdict). record { answer = v; store = s }) e in
    record { held = λ es g. is ∙ sym (kept_none s (f es) (h es g)); harmless = record { size = refl; either = inr is } }
