-- Many tests at once, as the code takes them: four numbers each, with the four numbers of each one's run. Assumes nothing.
use Rattle.std.specs.Prelude.{Bool, true, false, cond, List, map, ◌≡◌, ℕ, ◌+◌, ◌*◌, ◌/◌, ◌<◌, eqb, length, get_or}
use Rattle.laws.specs.Lists.{below}
use Rattle.records.specs.declared.Record.{Record}
use Rattle.records.specs.Stores.{capacity, inserts, StoreHolds}
use Rattle.records.specs.Answers.{tests_of}

abbrev pub readings_of : List ℕ → List ℕ
readings_of ns = map (λ x. x.reading) (tests_of ns)

-- Test j with the verdict by the value of its run, and all of them.
abbrev pub record_by : (tests answers : List ℕ) (j : ℕ) → Record
record_by ts vs j =
    record {
      appliance = get_or ts (4 * j) 0;
      time = get_or ts (4 * j + 1) 0;
      fail = cond (eqb (get_or vs (4 * j + 2) 0) 1) 0 1;
      tablet = get_or ts (4 * j + 2) 0;
      reading = get_or ts (4 * j + 3) 0;
    }

abbrev pub records_by : (tests answers : List ℕ) → List Record
records_by ts vs = map (record_by ts vs) (below (length ts / 4))

-- Bytes that were to become those of gs are s': so it is, or there was no room.
abbrev pub Became : Bool → List Record → List ℕ → Type 0
Became true gs s' = StoreHolds s' gs
Became false gs s' = capacity < length gs

-- The bytes s, taken as a store, were to become those of f of its records.
pub record Tried (s : List ℕ) (f : List Record → List Record) (b : Bool) (s' : List ℕ) : Type 0 where
  pub held : (es : List Record) → StoreHolds s es → Became b (f es) s'
  pub size : length s' ≡ length s

-- Of what was to be put into the bytes s₀ so much is still to come, and they are now s.
abbrev pub Underway : (s₀ : List ℕ) (f : List Record → List Record) (rest : List Record) (s : List ℕ) → Type 0
Underway s₀ f rest s = (es : List Record) → StoreHolds s₀ es → (gs : List Record) × (StoreHolds s gs × (inserts rest gs ≡ f es))
