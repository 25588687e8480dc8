-- A signature by its tests, in their order: each test that fails gives false, and past them the types decide.
-- Assumes nothing.
use mathlib.Core.Path.{◌≡◌, refl, sym, ap, ◌∙◌}
use mathlib.Core.Bool.{Bool, true, false}
use mathlib.Core.List.{List, map}
use Prim.Native.Nat.{ℕ, ◌≤◌, ◌<◌}
use native.Mathlib.Nat.{zero-add}
use native.Mathlib.Omega.{arith}
use borrow.Author.Tests.{eq-eqb, ne_eqb, le-leb, lt-leb, lt-ltb, le-ltb}
use lib.ListN.{length, get_or, take, length-map}
use lib.Seq.{take_all}
use Rattle.laws.specs.Lists.{below, same}
use Rattle.laws.proofs.Positions.{same_is, same_not}
use Rattle.laws.proofs.Ranges.{get_or_map_from, map_from, map_from_take}
use Rattle.language.specs.Programs.{Func, Register, has_signature, max_functions, no_register}
use Rattle.language.specs.Table.{table_length, function_at, function_count, function_result, function_params, register_count, register_type, decode_function}
use Rattle.language.specs.Answers.{signature_answer}
use Rattle.language.proofs.TableView.{function_is, register_count_law, type_is}

-- ---- types one after the other

module _ (t : List ℕ) (a : ℕ) (types : List ℕ) where
  abbrev held : List ℕ
  held = map (register_type t a) (below (length types))

  at : (i : ℕ) → i < length types → get_or held i 0 ≡ register_type t a i
  at i h = get_or_map_from (register_type t a) 0 0 (length types) i h ∙ ap (register_type t a) (zero-add i)

  pub types_differ : (i : ℕ) → i < length types → (register_type t a i ≡ get_or types i 0 → ⊥) → false ≡ same (map (register_type t a) (below (length types))) types
  types_differ i h d = sym (same_not held types (λ e. d (sym (at i h) ∙ ap (λ (l : List ℕ). get_or l i 0) e)))

  pub types_agree : ((i : ℕ) → i < length types → register_type t a i ≡ get_or types i 0) → true ≡ same (map (register_type t a) (below (length types))) types
  types_agree h = sym (same_is held types (map_from (register_type t a) 0 0 types (λ i b. rw (zero-add i) (h i b))))

-- ---- the tests

module _ (t : List ℕ) (i result : ℕ) (types : List ℕ) where
  abbrev a : ℕ
  a = function_at i

  abbrev f : Func
  f = decode_function t a

  abbrev types_of : List Register → List ℕ
  types_of = map (λ r. r.type)

  pub of_other_length : (length t ≡ table_length → ⊥) → false ≡ signature_answer t i result types
  unfolding signature_answer
  of_other_length h = rw (ne_eqb (length t) table_length h) refl

  module _ (l : length t ≡ table_length) where
    pub of_too_many : max_functions < function_count t → false ≡ signature_answer t i result types
    unfolding signature_answer
    of_too_many h = rw (eq-eqb (length t) table_length l, lt-leb (function_count t) max_functions h) refl

    module _ (few : function_count t ≤ max_functions) where
      pub of_missing : function_count t ≤ i → false ≡ signature_answer t i result types
      unfolding signature_answer
      of_missing h =
          rw (eq-eqb (length t) table_length l, le-leb (function_count t) max_functions few, le-ltb i (function_count t) h) refl

      module _ (there : i < function_count t) where
        opened : signature_answer t i result types ≡ has_signature f result types
        unfolding signature_answer
        opened =
            rw (eq-eqb (length t) table_length l, le-leb (function_count t) max_functions few, lt-ltb i (function_count t) there, function_is t i there) refl

        pub of_other_result : (function_result t (function_at i) ≡ result → ⊥) → false ≡ signature_answer t i result types
        unfolding has_signature decode_function
        of_other_result h = rw (opened, ne_eqb (function_result t a) result h) refl

        module _ (gives : function_result t (function_at i) ≡ result) where
          pub of_other_count : (function_params t (function_at i) ≡ length types → ⊥) → false ≡ signature_answer t i result types
          unfolding has_signature decode_function
          of_other_count h = rw (opened, eq-eqb (function_result t a) result gives, ne_eqb (function_params t a) (length types) h) refl

          module _ (takes : function_params t (function_at i) ≡ length types) where
            by_types : signature_answer t i result types ≡ same (types_of (take (length types) f.registers)) types
            unfolding has_signature decode_function
            by_types =
                rw (opened, eq-eqb (function_result t a) result gives, eq-eqb (function_params t a) (length types) takes, takes) refl

            pub of_too_few : register_count t (function_at i) < length types → false ≡ signature_answer t i result types
            of_too_few h =
                let all : take (length types) f.registers ≡ f.registers = take_all (length types) f.registers (omega (arith, register_count_law t a)) in
                let count : length (types_of f.registers) ≡ register_count t a = length-map f.registers (λ r. r.type) ∙ register_count_law t a in
                sym (by_types ∙ rw all (same_not (types_of f.registers) types (λ e. omega (arith, ap length e))))

            pub of_types : length types ≤ register_count t (function_at i) → {r : Bool}
                → r ≡ same (map (register_type t (function_at i)) (below (length types))) types
                → r ≡ signature_answer t i result types
            of_types h e =
                let first : map (register_type t a) (below (length types)) ≡ types_of (take (length types) f.registers) =
                map_from_take (register_type t a) (λ r. r.type) no_register 0 f.registers (length types) (omega (arith, register_count_law t a))
                (λ k b. rw (zero-add k) (sym (type_is t a k (omega arith)))) in
                e ∙ ap (λ (l : List ℕ). same l types) first ∙ sym by_types
