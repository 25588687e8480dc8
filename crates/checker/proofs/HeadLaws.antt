-- The head of a function, test by test: the first that fails is the answer.
-- Assumes nothing.
use mathlib.Core.Bool.{Bool, true, false}
use mathlib.Core.Path.{◌≡◌, refl, sym, ap, ◌∙◌}
use mathlib.Core.List.{List, [], ◌∷◌}
use Prim.Native.Nat.{ℕ, ◌≤◌, ◌<◌}
use lib.Dec.{eqb, eqb-suc-zero}
use lib.ListN.{length}
use native.Mathlib.Omega.{arith}
use borrow.Author.Tests.{lt-ltb, le-ltb, le-leb, lt-leb, eq-eqb, ne_eqb}
use Rattle.laws.specs.Lists.{empty}
use Rattle.language.specs.Table.{function_ssa, function_result, function_params, register_count, block_count, function_entry, block_name}
use Rattle.checker.specs.Parts.{head_right}
use Rattle.language.specs.Programs.{max_blocks, max_registers}
use Rattle.language.specs.Instructions.{void}

empty_length : (xs : List ℕ) → eqb (length xs) 0 ≡ empty xs
empty_length [] = refl
empty_length (x ∷ xs) = eqb-suc-zero (length xs)

module _ (t : List ℕ) (a : ℕ) where
  pub mark_wrong : 2 ≤ function_ssa t a → false ≡ head_right t a
  unfolding head_right
  mark_wrong h = simp (le-ltb (function_ssa t a) 2 h)

  module _ (mark : function_ssa t a < 2) where
    pub result_wrong : 10 < function_result t a → false ≡ head_right t a
    unfolding head_right
    result_wrong h = simp (lt-ltb (function_ssa t a) 2 mark, lt-leb (function_result t a) void h)

    module _ (result : function_result t a ≤ 10) where
      pub registers_wrong : max_registers < register_count t a → false ≡ head_right t a
      unfolding head_right
      registers_wrong h = simp (lt-ltb (function_ssa t a) 2 mark, le-leb (function_result t a) void result, lt-leb (register_count t a) max_registers h)

      module _ (registers : register_count t a ≤ max_registers) where
        pub blocks_wrong : max_blocks < block_count t a → false ≡ head_right t a
        unfolding head_right
        blocks_wrong h =
            simp (lt-ltb (function_ssa t a) 2 mark, le-leb (function_result t a) void result, le-leb (register_count t a) max_registers registers, lt-leb (block_count t a) max_blocks h)

        module _ (blocks : block_count t a ≤ max_blocks) where
          pub params_wrong : register_count t a < function_params t a → false ≡ head_right t a
          unfolding head_right
          params_wrong h =
              simp
              (lt-ltb (function_ssa t a) 2 mark, le-leb (function_result t a) void result, le-leb (register_count t a) max_registers registers, le-leb (block_count t a) max_blocks blocks, lt-leb (function_params t a) (register_count t a) h)

          module _ (params : function_params t a ≤ register_count t a) where
            pub entry_wrong : block_count t a ≤ function_entry t a → false ≡ head_right t a
            unfolding head_right
            entry_wrong h =
                simp
                (lt-ltb (function_ssa t a) 2 mark, le-leb (function_result t a) void result, le-leb (register_count t a) max_registers registers, le-leb (block_count t a) max_blocks blocks, le-leb (function_params t a) (register_count t a) params, le-ltb (function_entry t a) (block_count t a) h)

            pub entry_unnamed : function_entry t a < block_count t a → (n : List ℕ) → n ≡ block_name t a (function_entry t a) → eqb (length n) 0 ≡ head_right t a
            unfolding head_right
            entry_unnamed h n e =
                simp
                (lt-ltb (function_ssa t a) 2 mark, le-leb (function_result t a) void result, le-leb (register_count t a) max_registers registers, le-leb (block_count t a) max_blocks blocks, le-leb (function_params t a) (register_count t a) params, lt-ltb (function_entry t a) (block_count t a) h)
                (empty_length n ∙ ap empty e)

            -- a test that holds just of a name of no bytes
            pub entry_tested : function_entry t a < block_count t a → (n : List ℕ) → n ≡ block_name t a (function_entry t a) → (r : Bool) → (r ≡ true → length n ≡ 0) → (r ≡ false → 0 < length n) → r ≡ head_right t a
            entry_tested h n e true none some = sym (eq-eqb (length n) 0 (none refl)) ∙ entry_unnamed h n e
            entry_tested h n e false none some =
                sym (ne_eqb (length n) 0 (λ z. absurd (omega (arith, z, some refl)))) ∙ entry_unnamed h n e
