-- The names of a function, test by test, and its own among those before it.
-- Assumes nothing.
use mathlib.Core.Bool.{true, false, ◌||◌, or_comm}
use mathlib.Core.Path.{◌≡◌, refl, sym, ap, ◌∙◌}
use mathlib.Core.List.{List}
use Prim.Native.Nat.{ℕ, zero, suc, ◌+◌, ◌*◌}
use native.Mathlib.Omega.{arith}
use lib.Dec.{ltb}
use Rattle.laws.specs.Lists.{any, all, below, same, position}
use Rattle.laws.proofs.Indexing.{length_below}
use Rattle.laws.proofs.Positions.{any_position, same_sym}
use Rattle.laws.proofs.Ranges.{any_below_suc}
use Rattle.language.specs.Names.{spellable}
use Rattle.language.specs.Table.{name_at, function_at, function_name, register_count, block_count}
use Rattle.language.specs.Table.{block_length, block_names_offset, function_length, function_names_offset, register_length, register_names_offset}
use Rattle.language.specs.Checking.{spellable_or_none, distinct}
use Rattle.table.specs.Named.{is_named, first_named}
use Rattle.name_index.specs.Names.{names_in}
use Rattle.checker.specs.Parts.{table_names_before, listed_right, all_names_right}

-- ---- among the names before

any_named : (t n : List ℕ) (i : ℕ) → any (same n) (table_names_before t i) ≡ any (is_named t function_names_offset function_length n) (below i)
unfolding table_names_before
any_named t n zero = refl
any_named t n (suc i) =
    let here : function_name t (function_at i) ≡ name_at t (function_names_offset + function_length * i) = ap (name_at t) (omega arith) in
    let first : same n (function_name t (function_at i)) ≡ is_named t function_names_offset function_length n i = ap (same n) here ∙ same_sym n (name_at t (function_names_offset + function_length * i)) in
    ap (λ b. b || any (same n) (table_names_before t i)) first ∙ ap (λ b. is_named t function_names_offset function_length n i || b) (any_named t n i)
    ∙ or_comm (is_named t function_names_offset function_length n i) (any (is_named t function_names_offset function_length n) (below i))
    ∙ sym (any_below_suc (is_named t function_names_offset function_length n) i)

pub named_before : (t n : List ℕ) (i : ℕ) → ltb (first_named t function_names_offset function_length i n) i ≡ any (same n) (table_names_before t i)
unfolding first_named
named_before t n i =
    ap (ltb (position (is_named t function_names_offset function_length n) (below i))) (sym (length_below i)) ∙ sym (any_position (is_named t function_names_offset function_length n) (below i))
    ∙ sym (any_named t n i)

-- ---- all of them

module _ (t : List ℕ) (at stride n : ℕ) where
  pub listed_wrong : all spellable_or_none (names_in t at stride n) ≡ false → false ≡ listed_right t at stride n
  unfolding listed_right
  listed_wrong e = rw e

  pub listed_spellable : all spellable_or_none (names_in t at stride n) ≡ true → distinct (names_in t at stride n) ≡ listed_right t at stride n
  unfolding listed_right
  listed_spellable e = rw e

module _ (t : List ℕ) (i a : ℕ) where
  pub own_wrong : spellable (function_name t a) ≡ false → false ≡ all_names_right t i a
  unfolding all_names_right
  own_wrong e = rw e

  module _ (own : spellable (function_name t a) ≡ true) where
    pub own_twice : any (same (function_name t a)) (table_names_before t i) ≡ true → false ≡ all_names_right t i a
    unfolding all_names_right
    own_twice e = rw (own, e)

    module _ (once : any (same (function_name t a)) (table_names_before t i) ≡ false) where
      pub registers_wrong : listed_right t (a + register_names_offset) register_length (register_count t a) ≡ false → false ≡ all_names_right t i a
      unfolding all_names_right
      registers_wrong e = rw (own, once, e)

      pub registers_named : listed_right t (a + register_names_offset) register_length (register_count t a) ≡ true → listed_right t (a + block_names_offset) block_length (block_count t a) ≡ all_names_right t i a
      unfolding all_names_right
      registers_named e = rw (own, once, e)
