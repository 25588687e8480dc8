-- Names of functions and of registers, one more being declared: where they are held, all others stay.
-- Assumes nothing.
use mathlib.Core.Path.{◌≡◌, refl, sym, ap, ◌∙◌}
use mathlib.Core.List.{List, [], ◌∷◌, ◌++◌}
use Prim.Native.Nat.{ℕ, suc, ◌+◌, ◌*◌, ◌≤◌, ◌<◌}
use native.Mathlib.Nat.{zero-lt-suc}
use native.Mathlib.Decide.{dec_lt}
use native.Mathlib.Omega.{arith}
use lib.ListN.{length, get_or, set, take, drop, length-append, get_or-append}
use lib.Seq.{sets, get_or-append_seam, get_or-set_other}
use Rattle.laws.specs.Lists.{position, same}
use Rattle.laws.specs.Sections.{At}
use Rattle.laws.proofs.Cells.{get_d_sets_before, part_sets_before, at_sets}
use Rattle.laws.proofs.Sections.{at_right, at_cell, at_part}
use Rattle.language.specs.Programs.{max_functions, max_name}
use Rattle.language.specs.Table.{name_at, name_length, register_length, register_names_offset}
use Rattle.table.specs.Named.{first_named}
use Rattle.name_index.specs.Chains.{Indexed, Adds}
use Rattle.name_index.specs.Names.{names_in}
use Rattle.name_index.proofs.InTable.{first_named_law, names_length_law}
use Rattle.drafts.specs.State.{NamesHeld, names_length}

-- a cell behind those stored
get_or_sets_behind : (vs l : List ℕ) (i k : ℕ) → i + length vs ≤ k → get_or (sets l i vs) k 0 ≡ get_or l k 0
get_or_sets_behind [] l i k h = refl
get_or_sets_behind (a ∷ vs) l i k h = get_or_sets_behind vs (set l i a) (suc i) k (omega arith) ∙ get_or-set_other l i k a 0 (omega arith)

-- the last of the names is another one
module _ (ns : List (List ℕ)) (n : List ℕ) (short : length n ≤ max_name) (names : List ℕ) (whole : length names ≡ names_length) (few : length ns < max_functions) where
  abbrev here : ℕ
  here = name_length * length ns

  abbrev after : List ℕ
  after = sets names here (length n ∷ n)

  at_name : At after here (length n ∷ n)
  at_name = at_sets (length n ∷ n) names here (omega arith)

  new_count : get_or after here 0 ≡ length n
  new_count = at_cell 0 at_name 0 (zero-lt-suc (length n)) (omega arith)

  new_name : name_at after here ≡ n
  new_name = at_part (at_right (length n ∷ []) n at_name) {m = here + 1} (omega arith) new_count

  module _ (i : ℕ) (before : i < length ns) where
    old_count : get_or after (name_length * i) 0 ≡ get_or names (name_length * i) 0
    old_count = get_d_sets_before 0 (length n ∷ n) names here (name_length * i) (omega arith)

    old_name : get_or names (name_length * i) 0 ≤ max_name → name_at after (name_length * i) ≡ name_at names (name_length * i)
    old_name small = rw old_count (part_sets_before (name_length * i + 1) (get_or names (name_length * i) 0) (length n ∷ n) names here (omega arith))

  pub held_after : (m : List ℕ) → NamesHeld (ns ++ (m ∷ [])) names → NamesHeld (ns ++ (n ∷ [])) after
  held_after m h =
      record {
        held = λ i b. by i b (dec_lt i (length ns));
        free =
            λ i b.
            let l = length-append ns (n ∷ []) in
            get_or_sets_behind (length n ∷ n) names here (name_length * i) (omega arith) ∙ h.free i (omega (arith, length-append ns (m ∷ [])));
      }
    where
      by : (i : ℕ) → i < length (ns ++ (n ∷ [])) → Dec (i < length ns)
          → (name_at after (name_length * i) ≡ get_or (ns ++ (n ∷ [])) i []) × (get_or after (name_length * i) 0 ≤ max_name)
      by i b (yes q) =
          let x = h.held i (omega (arith, length-append ns (m ∷ []))) in (
            old_name i q x.1 ∙ x.0 ∙ get_or-append ns (m ∷ []) [] i q ∙ sym (get_or-append ns (n ∷ []) [] i q),
            rw (old_count i q) x.1,
          )
      by i b (no q) =
          let r : i ≡ length ns = omega (arith, length-append ns (n ∷ [])) in
          rw r (new_name ∙ sym (get_or-append_seam ns n [] []), rw new_count short)

-- where there is no name yet, that of no bytes stands
pub held_none : (ns : List (List ℕ)) (names : List ℕ) → NamesHeld ns names → NamesHeld (ns ++ ([] ∷ [])) names
held_none ns names h =
    record {
      held = λ i b. by i b (dec_lt i (length ns));
      free = λ i b. h.free i (omega (arith, length-append {A = List ℕ} ns ([] ∷ [])));
    }
  where
    by : (i : ℕ) → i < length (ns ++ ([] ∷ [])) → Dec (i < length ns)
        → (name_at names (name_length * i) ≡ get_or (ns ++ ([] ∷ [])) i []) × (get_or names (name_length * i) 0 ≤ max_name)
    by i b (yes q) = let x = h.held i q in (x.0 ∙ sym (get_or-append ns ([] ∷ []) [] i q), x.1)
    by i b (no q) =
        let r : i ≡ length ns = omega (arith, length-append {A = List ℕ} ns ([] ∷ [])) in
        let none : get_or names (name_length * i) 0 ≡ 0 = h.free i (omega arith) in (
          ap (λ (k : ℕ). take k (drop (name_length * i + 1) names)) none ∙ sym (ap (λ (k : ℕ). get_or (ns ++ ([] ∷ [])) k []) r ∙ get_or-append_seam ns [] [] []),
          omega arith,
        )

-- a register's name that is found nowhere goes into the chains
pub chained : (f n : List ℕ) {count i : ℕ} → i ≡ first_named f register_names_offset register_length count n → i ≤ count → count ≤ i → {l b l' b' : List ℕ}
    → Adds count n l b l' b' → (names : List (List ℕ)) → names_in f register_names_offset register_length count ≡ names → Indexed names l b → Indexed (names ++ (n ∷ [])) l' b'
chained f n {count} {i} found most new adds names e x =
    let all : count ≡ length names = sym (names_length_law f register_names_offset register_length count) ∙ ap length e in
    let place : i ≡ position (λ m. same m n) names = found ∙ first_named_law f register_names_offset register_length count n ∙ ap (position (λ (m : List ℕ). same m n)) e in
    adds names x all (omega arith)
