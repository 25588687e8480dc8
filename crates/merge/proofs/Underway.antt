-- Records put into a store one after the other: what is still to come, from one to the next. Assumes nothing.
use mathlib.Core.Bool.{Bool, true, false, not}
use mathlib.Core.List.{List, [], ◌∷◌, ◌++◌, map}
use mathlib.Core.Path.{◌≡◌, refl, sym, ◌∙◌, ap, subst}
use Prim.Native.Nat.{ℕ, suc, ◌+◌, ◌-◌, ◌<◌, ◌≤◌}
use native.Mathlib.Omega.{arith}
use lib.ListN.{length}
use borrow.Author.Tests.{not-true, not-false}
use Rattle.laws.specs.Lists.{from}
use Rattle.records.specs.declared.Record.{Record}
use Rattle.records.specs.Records.{SizedRecord}
use Rattle.records.specs.Stores.{insert, inserts, capacity, StoreHolds}
use Rattle.records.specs.Answers.{MergedStore, kept_as, Kept}
use Rattle.records.proofs.Storing.{rising_insert, sized_insert, inserts_longer}
use Rattle.merge.specs.Tries.{Tried, Underway}
use Rattle.merge.proofs.Refusing.{kept_done, kept_full}

inserts_first : (r : Record) (rs es : List Record) → inserts (r ∷ rs) es ≡ inserts rs (insert r es)
unfolding inserts
inserts_first r rs es = refl

inserts_append : (rs qs es : List Record) → inserts (rs ++ qs) es ≡ inserts qs (inserts rs es)
unfolding inserts
inserts_append [] qs es = refl
inserts_append (r ∷ rs) qs es = inserts_append rs qs (insert r es)

inserts_none : (es : List Record) → inserts [] es ≡ es
unfolding inserts
inserts_none es = refl

pub underway_begins : (s : List ℕ) (rs : List Record) → Underway s (inserts rs) rs s
underway_begins s rs es h = (es, (h, refl))

module _ (s₀ : List ℕ) (f : List Record → List Record) (s : List ℕ) where
  pub underway_ends : Underway s₀ f [] s → (es : List Record) → StoreHolds s₀ es → StoreHolds s (f es)
  underway_ends u es h = let g = u es h in subst (StoreHolds s) (sym (inserts_none g.0) ∙ g.1.1) g.1.0

  module _ (r : Record) (rest : List Record) (u : Underway s₀ f (r ∷ rest) s) (s' : List ℕ) where
    -- there was room for the first
    pub underway_on : SizedRecord r → Kept s (insert r) (kept_as true s') → Underway s₀ f rest s'
    underway_on z k es h =
        let g = u es h in
        let is = k.held g.0 g.1.0 in
        let d = kept_done s (insert r g.0) (sym (ap (λ (m : MergedStore). m.answer) is)) in (
          insert r g.0,
          (
            record {
              rising = rising_insert r g.0 g.1.0.rising;
              sized = sized_insert r g.0 z g.1.0.sized;
              room = d.0;
              bytes = ap (λ (m : MergedStore). m.store) is ∙ d.1;
            },
            sym (inserts_first r rest g.0) ∙ g.1.1,
          ),
        )

    -- there was none
    pub underway_full : Kept s (insert r) (kept_as false s') → (es : List Record) → StoreHolds s₀ es → capacity < length (f es)
    underway_full k es h =
        let g = u es h in
        let is = k.held g.0 g.1.0 in
        let more = kept_full s (insert r g.0) (sym (ap (λ (m : MergedStore). m.answer) is)) in
        let all : inserts rest (insert r g.0) ≡ f es = sym (inserts_first r rest g.0) ∙ g.1.1 in
        subst (λ (es : List Record). capacity < length es) all (omega (arith, more, inserts_longer rest (insert r g.0)))

  module _ (rs rest : List Record) (u : Underway s₀ f (rs ++ rest) s) (s' : List ℕ) where
    -- some at once
    pub underway_some : Tried s (inserts rs) true s' → Underway s₀ f rest s'
    underway_some k es h = let g = u es h in (inserts rs g.0, (k.held g.0 g.1.0, sym (inserts_append rs rest g.0) ∙ g.1.1))

    pub underway_some_full : Tried s (inserts rs) false s' → (es : List Record) → StoreHolds s₀ es → capacity < length (f es)
    underway_some_full k es h =
        let g = u es h in
        let all : inserts rest (inserts rs g.0) ≡ f es = sym (inserts_append rs rest g.0) ∙ g.1.1 in
        subst (λ (es : List Record). capacity < length es) all (omega (arith, k.held g.0 g.1.0, inserts_longer rest (inserts rs g.0)))

-- ---- by numbers

-- the records from number j on, one fewer each time
pub next_from : {A : Type 0} (f : ℕ → A) (j n : ℕ) → j < n → map f (from j (n - j)) ≡ f j ∷ map f (from (j + 1) (n - (j + 1)))
next_from f j n l =
    let e : n - j ≡ suc (n - (j + 1)) = omega arith in
    let d : suc j ≡ j + 1 = omega arith in
    ap (λ (k : ℕ). map f (from j k)) e ∙ ap (λ (k : ℕ). f j ∷ map f (from k (n - (j + 1)))) d

pub none_from : {A : Type 0} (f : ℕ → A) (j n : ℕ) → n ≤ j → map f (from j (n - j)) ≡ []
none_from f j n l = let e : n - j ≡ 0 = omega arith in ap (λ (k : ℕ). map f (from j k)) e

-- ---- tests by their numbers

module _ (s₀ : List ℕ) (f : List Record → List Record) (g : ℕ → Record) (j n : ℕ) (l : j < n) (s : List ℕ) (u : Underway s₀ f (map g (from j (n - j))) s) (s' : List ℕ) (r : Record) (e : r ≡ g j) where
  here : Underway s₀ f (r ∷ map g (from (j + 1) (n - (j + 1)))) s
  here = subst (λ (rs : List Record). Underway s₀ f rs s) (next_from g j n l ∙ ap (λ (r : Record). r ∷ map g (from (j + 1) (n - (j + 1)))) (sym e)) u

  pub number_on : (b : Bool) → not b ≡ false → SizedRecord r → Kept s (insert r) (kept_as b s') → Underway s₀ f (map g (from (j + 1) (n - (j + 1)))) s'
  number_on b d z k = underway_on s₀ f s r (map g (from (j + 1) (n - (j + 1)))) here s' z (subst (λ (b : Bool). Kept s (insert r) (kept_as b s')) (not-false b d) k)

  pub number_full : (b : Bool) → not b ≡ true → Kept s (insert r) (kept_as b s') → (es : List Record) → StoreHolds s₀ es → capacity < length (f es)
  number_full b d k = underway_full s₀ f s r (map g (from (j + 1) (n - (j + 1)))) here s' (subst (λ (b : Bool). Kept s (insert r) (kept_as b s')) (not-true b d) k)

pub numbers_done :
    (s₀ : List ℕ) (f : List Record → List Record) (g : ℕ → Record) (j n : ℕ) → n ≤ j → (s : List ℕ) → Underway s₀ f (map g (from j (n - j))) s
    → (es : List Record) → StoreHolds s₀ es → StoreHolds s (f es)
numbers_done s₀ f g j n l s u = underway_ends s₀ f s (subst (λ (rs : List Record). Underway s₀ f rs s) (none_from g j n l) u)
