-- What an answer says of the call: done means that nothing stood in the way, a refusal that the store is as it was. Assumes nothing.
use mathlib.Core.Bool.{Bool, true, false, cond}
use mathlib.Core.List.{List}
use mathlib.Core.Logic.{◌⊎◌, inl, inr}
use mathlib.Core.Path.{◌≡◌, refl, sym, ◌∙◌, ap}
use Prim.Native.Nat.{ℕ, ◌≤◌, ◌<◌}
use native.Mathlib.Omega.{arith}
use lib.Dec.{leb}
use lib.ListN.{length}
use borrow.Author.Tests.{le-leb, lt-leb, leb-true, leb-false}
use Rattle.language.specs.Checking.{Verdict}
use Rattle.records.specs.declared.Record.{Record}
use Rattle.records.specs.Stores.{capacity, store_cells}
use Rattle.records.specs.Answers.{MergedStore, unchanged, kept, Harmless, IfLent, Allowed}

pub not_both : {k p : ℕ} → Verdict.accepted ≡ Verdict.refused k p → ⊥
not_both e = let z : ◌≡◌ {A = ℕ} 0 1 = cc in omega arith

-- ---- done

module _ (s : List ℕ) (P : MergedStore → Type 0) (m : MergedStore) where
  pub allowed_done : (v : Verdict) → Allowed v s P m → m.answer ≡ Verdict.accepted → (v ≡ Verdict.accepted) × P m
  allowed_done Verdict.accepted h e = (refl, h)
  allowed_done (Verdict.refused k p) h e = absurd (not_both (sym e ∙ ap (λ (m : MergedStore). m.answer) h))

  pub lent_done : (b : Bool) → IfLent b s P m → m.answer ≡ Verdict.accepted → P m
  lent_done true h e = h
  lent_done false h e = absurd (not_both (sym e ∙ ap (λ (m : MergedStore). m.answer) h))

  -- ---- refused

  pub lent_refused : (b : Bool) → (P m → m.store ≡ s) → IfLent b s P m → m.store ≡ s
  lent_refused true f h = f h
  lent_refused false f h = ap (λ (m : MergedStore). m.store) h

  pub allowed_refused : (v : Verdict) → (P m → m.store ≡ s) → Allowed v s P m → m.store ≡ s
  allowed_refused Verdict.accepted f h = f h
  allowed_refused (Verdict.refused n q) f h = ap (λ (m : MergedStore). m.store) h

pub harmless_refused : {s : List ℕ} {m : MergedStore} {k p : ℕ} → Harmless s m → m.answer ≡ Verdict.refused k p → m.store ≡ s
harmless_refused {s} {m} {k} {p} h e = by h.either
  where
    by : (m.answer ≡ Verdict.accepted) ⊎ (m ≡ unchanged s 60 0) → m.store ≡ s
    by (inl d) = absurd (not_both (sym d ∙ e))
    by (inr d) = ap (λ (m : MergedStore). m.store) d

-- ---- room

module _ (s : List ℕ) (es : List Record) where
  pub kept_room : length es ≤ capacity → kept s es ≡ record { answer = Verdict.accepted; store = store_cells es }
  unfolding kept
  kept_room l = ap (λ (b : Bool). cond b (record { answer = Verdict.accepted; store = store_cells es }) (unchanged s 60 0)) (le-leb (length es) capacity l)

  pub kept_none : capacity < length es → kept s es ≡ unchanged s 60 0
  unfolding kept
  kept_none l = ap (λ (b : Bool). cond b (record { answer = Verdict.accepted; store = store_cells es }) (unchanged s 60 0)) (lt-leb (length es) capacity l)

  pub kept_either : ((length es ≤ capacity) × (kept s es ≡ record { answer = Verdict.accepted; store = store_cells es })) ⊎ ((capacity < length es) × (kept s es ≡ unchanged s 60 0))
  kept_either = by (leb (length es) capacity) refl
    where
      by :
          (b : Bool) → leb (length es) capacity ≡ b
          → ((length es ≤ capacity) × (kept s es ≡ record { answer = Verdict.accepted; store = store_cells es })) ⊎ ((capacity < length es) × (kept s es ≡ unchanged s 60 0))
      by true e = let l = leb-true (length es) capacity e in inl (l, kept_room l)
      by false e = let l = leb-false (length es) capacity e in inr (omega arith, kept_none (omega arith))

  pub kept_done : (kept s es).answer ≡ Verdict.accepted → (length es ≤ capacity) × ((kept s es).store ≡ store_cells es)
  kept_done e = by kept_either
    where
      by :
          ((length es ≤ capacity) × (kept s es ≡ record { answer = Verdict.accepted; store = store_cells es })) ⊎ ((capacity < length es) × (kept s es ≡ unchanged s 60 0))
          → (length es ≤ capacity) × ((kept s es).store ≡ store_cells es)
      by (inl h) = (h.0, ap (λ (m : MergedStore). m.store) h.1)
      by (inr h) = absurd (not_both (sym e ∙ ap (λ (m : MergedStore). m.answer) h.1))

  -- 60 exactly if there is no room
  pub kept_full : (kept s es).answer ≡ Verdict.refused 60 0 → capacity < length es
  kept_full e = by kept_either
    where
      by :
          ((length es ≤ capacity) × (kept s es ≡ record { answer = Verdict.accepted; store = store_cells es })) ⊎ ((capacity < length es) × (kept s es ≡ unchanged s 60 0))
          → capacity < length es
      by (inl h) = absurd (not_both (sym (ap (λ (m : MergedStore). m.answer) h.1) ∙ e))
      by (inr h) = h.0
