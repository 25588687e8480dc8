-- The name of a table's register or block, with the made names filled in: given, made, or none for entry. Assumes nothing.
use mathlib.Core.Bool.{Bool, false, cond, not, ◌&&◌}
use mathlib.Core.List.{List, [], ◌∷◌}
use mathlib.Core.Path.{◌≡◌, refl, sym, ap, ◌∙◌, subst}
use Prim.Native.Nat.{ℕ, ◌<◌}
use native.Mathlib.Omega.{arith}
use lib.Dec.{eqb}
use lib.ListN.{length, get_or}
use borrow.Author.Tests.{eq-eqb, ne_eqb}
use Rattle.laws.specs.Lists.{empty}
use Rattle.laws.proofs.Indexing.{empty_some}
use Rattle.language.specs.Programs.{Register, Block, no_register, block_at}
use Rattle.language.specs.MadeNames.{made_name, register_prefix, block_prefix, named_function}
use Rattle.language.specs.Table.{register_count, block_count, function_entry, register_name, block_name, decode_register, decode_block, decode_function}
use Rattle.language.specs.Tokens.{Token}
use Rattle.language.specs.Writing.{block_token}
use Rattle.language.proofs.TableView.{register_count_law, register_is, block_count_law, block_is}
use Rattle.naming.proofs.Filled.{filled_register_name, filled_block_name}
use Rattle.naming.specs.Numbered.{plain_flag, RegistersNumbered, BlocksNumbered}

no_bytes : (n : List ℕ) → length n ≡ 0 → n ≡ []
no_bytes [] h = refl
no_bytes (b ∷ n) h = absurd (omega arith)

pub named_token : (n : List ℕ) → (length n ≡ 0 → ⊥) → Token.name n ≡ block_token n
named_token [] h = absurd (h refl)
named_token (b ∷ n) h = refl

-- ---- a table's registers and blocks, with the numbers of their made names

module _ (t : List ℕ) (a : ℕ) (made : List ℕ) (r : ℕ) (h : r < register_count t a) (numbers : RegistersNumbered (decode_function t a) made) where
  name_of : (get_or (named_function (decode_function t a)).registers r no_register).name ≡ cond (empty (register_name t a r)) (made_name register_prefix (get_or made r 0)) (register_name t a r)
  unfolding decode_register
  name_of =
      let within : r < length (decode_function t a).registers = omega (arith, register_count_law t a) in
      filled_register_name (decode_function t a) r within ∙ numbers.named r within
      ∙ ap (λ (x : Register). cond (empty x.name) (made_name register_prefix (get_or made r 0)) x.name) (register_is t a r h)

  pub register_made : length (register_name t a r) ≡ 0 → made_name register_prefix (get_or made r 0) ≡ (get_or (named_function (decode_function t a)).registers r no_register).name
  register_made none = sym (name_of ∙ ap (λ (n : List ℕ). cond (empty n) (made_name register_prefix (get_or made r 0)) n) (no_bytes (register_name t a r) none))

  pub register_flag : (length (register_name t a r) ≡ 0 → ⊥) → get_or made r 0 ≡ plain_flag (register_name t a r)
  unfolding decode_register
  register_flag some =
      let within : r < length (decode_function t a).registers = omega (arith, register_count_law t a) in
      subst (λ (x : Register). empty x.name ≡ false → get_or made r 0 ≡ plain_flag x.name) (register_is t a r h) (numbers.plain r within)
      (empty_some (register_name t a r) some)

  pub register_given : (length (register_name t a r) ≡ 0 → ⊥) → register_name t a r ≡ (get_or (named_function (decode_function t a)).registers r no_register).name
  register_given some = sym (name_of ∙ ap (λ (x : Bool). cond x (made_name register_prefix (get_or made r 0)) (register_name t a r)) (empty_some (register_name t a r) some))

module _ (t : List ℕ) (a : ℕ) (made : List ℕ) (b : ℕ) (h : b < block_count t a) (numbers : BlocksNumbered (decode_function t a) made) where
  block_name_of : (block_at (named_function (decode_function t a)) b).name ≡ cond (empty (block_name t a b) && not (eqb b (function_entry t a))) (made_name block_prefix (get_or made b 0)) (block_name t a b)
  unfolding decode_block decode_function
  block_name_of =
      let within : b < length (decode_function t a).blocks = omega (arith, block_count_law t a) in
      filled_block_name (decode_function t a) b within
      ∙ numbers.named b within
      ∙ ap (λ (x : Block). cond (empty x.name && not (eqb b (function_entry t a))) (made_name block_prefix (get_or made b 0)) x.name) (block_is t a b h)

  pub block_flag : (length (block_name t a b) ≡ 0 → ⊥) → get_or made b 0 ≡ plain_flag (block_name t a b)
  unfolding decode_block decode_function
  block_flag some =
      let within : b < length (decode_function t a).blocks = omega (arith, block_count_law t a) in
      subst (λ (x : Block). empty x.name ≡ false → get_or made b 0 ≡ plain_flag x.name) (block_is t a b h) (numbers.plain b within) (empty_some (block_name t a b) some)

  pub block_given : (length (block_name t a b) ≡ 0 → ⊥) → block_name t a b ≡ (block_at (named_function (decode_function t a)) b).name
  block_given some =
      sym
      (block_name_of
      ∙ ap (λ (x : Bool). cond (x && not (eqb b (function_entry t a))) (made_name block_prefix (get_or made b 0)) (block_name t a b)) (empty_some (block_name t a b) some))

  module _ (none : length (block_name t a b) ≡ 0) where
    bare : (block_at (named_function (decode_function t a)) b).name ≡ cond (not (eqb b (function_entry t a))) (made_name block_prefix (get_or made b 0)) []
    bare =
        block_name_of
        ∙ ap (λ (n : List ℕ). cond (empty n && not (eqb b (function_entry t a))) (made_name block_prefix (get_or made b 0)) n) (no_bytes (block_name t a b) none)

    pub block_entry : b ≡ function_entry t a → [] ≡ (block_at (named_function (decode_function t a)) b).name
    block_entry e = sym (bare ∙ ap (λ (x : Bool). cond (not x) (made_name block_prefix (get_or made b 0)) []) (eq-eqb b (function_entry t a) e))

    pub block_made : (b ≡ function_entry t a → ⊥) → made_name block_prefix (get_or made b 0) ≡ (block_at (named_function (decode_function t a)) b).name
    block_made e = sym (bare ∙ ap (λ (x : Bool). cond (not x) (made_name block_prefix (get_or made b 0)) []) (ne_eqb b (function_entry t a) e))
