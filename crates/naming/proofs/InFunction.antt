-- The names of a function's registers and blocks, where the table has them. Assumes nothing.
use mathlib.Core.Bool.{Bool, false, cond, not, ◌&&◌, and-true}
use mathlib.Core.List.{List, [], map, map-map}
use mathlib.Core.Path.{◌≡◌, sym, ap, ◌∙◌, subst}
use Prim.Native.Nat.{ℕ, ◌+◌, ◌≤◌, ◌<◌}
use native.Mathlib.Omega.{arith}
use lib.Dec.{eqb}
use lib.ListN.{length, get_or}
use borrow.Author.Tests.{ne_eqb}
use Rattle.laws.specs.Lists.{empty, below, together}
use Rattle.laws.proofs.Indexing.{together_from}
use Rattle.laws.proofs.Ranges.{length_map_from, map_from_same}
use Rattle.language.specs.Programs.{Register, Block, block_at, max_registers}
use Rattle.language.specs.Table.{register_count, block_count, register_name, block_name, function_entry, decode_register, decode_block, decode_function}
use Rattle.language.specs.Table.{block_length, block_names_offset, register_length, register_names_offset}
use Rattle.language.specs.MadeNames.{Title, given, wanted, made_name, entitled, register_title, block_title, register_prefix, block_prefix, register_names, block_names}
use Rattle.language.proofs.TableView.{register_count_law, register_is, block_count_law, block_is, entry_is}
use Rattle.naming.specs.Numbers.{prefix_of}
use Rattle.naming.specs.Numbered.{plain_flag, Numbered, RegistersNumbered, BlocksNumbered}

module _ (t : List ℕ) (a : ℕ) where
  -- ---- registers

  module _ (few : register_count t a ≤ max_registers) where
    -- no register is number 256, so that none keeps a name of no bytes
    unnamed_is : (i : ℕ) → i < register_count t a → (n : List ℕ) → (empty n && not (eqb i 256)) ≡ empty n
    unnamed_is i h n = ap (λ (b : Bool). empty n && not b) (ne_eqb i 256 (λ p. omega arith)) ∙ and-true (empty n)

    title_is : (i : ℕ) → i < register_count t a → register_title (register_name t a (0 + i)) ≡ block_title 256 (0 + i) (register_name t a (0 + i))
    title_is i h =
        let n : List ℕ = register_name t a (0 + i) in
        sym (ap (λ (b : Bool). cond b wanted (given n)) (unnamed_is (0 + i) (omega arith) n))

    registers_titled :
        register_names (decode_function t a)
        ≡ entitled register_prefix (map (register_name t a) (below (register_count t a))) 0
        (map (λ i. block_title 256 i (register_name t a i)) (below (register_count t a)))
    unfolding register_names decode_function decode_register
    registers_titled =
        let n = register_count t a in
        let ns : map (λ (r : Register). r.name) (map (decode_register t a) (below n)) ≡ map (register_name t a) (below n) =
        map-map (λ (r : Register). r.name) (decode_register t a) (below n) in
        ap (λ (l : List (List ℕ)). entitled register_prefix l 0 (map register_title l)) ns
        ∙ ap (entitled register_prefix (map (register_name t a) (below n)) 0)
        (map-map register_title (register_name t a) (below n) ∙ map_from_same (λ i. register_title (register_name t a i)) (λ i. block_title 256 i (register_name t a i)) 0 n title_is)

    pub registers_numbered :
        {n : ℕ} {made : List ℕ} → n ≡ register_count t a → Numbered (prefix_of 112) t (a + register_names_offset) register_length n 256 made → RegistersNumbered (decode_function t a) made
    unfolding decode_register
    registers_numbered {n} {made} c m =
        let k : Numbered (prefix_of 112) t (a + register_names_offset) register_length (register_count t a) max_registers made = subst (λ (n : ℕ). Numbered (prefix_of 112) t (a + register_names_offset) register_length n 256 made) c m in
        record {
          named =
              λ r h.
              let l : r < register_count t a = omega (arith, register_count_law t a) in
              ap (λ (ns : List (List ℕ)). get_or ns r []) registers_titled ∙ k.named r l
              ∙ ap (λ (b : Bool). cond b (made_name register_prefix (get_or made r 0)) (register_name t a r)) (unnamed_is r l (register_name t a r))
              ∙ ap (λ (n : List ℕ). cond (empty n) (made_name register_prefix (get_or made r 0)) n) (sym (ap (λ (x : Register). x.name) (register_is t a r l)));
          plain =
              λ r h.
              let l : r < register_count t a = omega (arith, register_count_law t a) in
              subst (λ (n : List ℕ). empty n ≡ false → get_or made r 0 ≡ plain_flag n) (sym (ap (λ (x : Register). x.name) (register_is t a r l))) (k.plain r l);
        }

  -- ---- blocks

  blocks_titled :
      block_names (decode_function t a)
      ≡ entitled block_prefix (map (block_name t a) (below (block_count t a))) 0
      (map (λ i. block_title (function_entry t a) i (block_name t a i)) (below (block_count t a)))
  unfolding block_names decode_function decode_block
  blocks_titled =
      let n = block_count t a in
      let title : ℕ → List ℕ → Title = block_title (function_entry t a) in
      let ns : List (List ℕ) = map (block_name t a) (below n) in
      let e : map (λ (b : Block). b.name) (map (decode_block t a) (below n)) ≡ ns = map-map (λ (b : Block). b.name) (decode_block t a) (below n) in
      ap (λ (l : List (List ℕ)). entitled block_prefix l 0 (together title (below (length l)) l)) e
      ∙ ap (λ (k : ℕ). entitled block_prefix ns 0 (together title (below k) ns)) (length_map_from (block_name t a) 0 n)
      ∙ ap (entitled block_prefix ns 0) (together_from title (block_name t a) 0 n)

  pub blocks_numbered :
      {n e : ℕ} {made : List ℕ} → n ≡ block_count t a → e ≡ function_entry t a → Numbered (prefix_of 101) t (a + block_names_offset) block_length n e made → BlocksNumbered (decode_function t a) made
  unfolding decode_block
  blocks_numbered {n} {e} {made} c d m =
      let k : Numbered (prefix_of 101) t (a + block_names_offset) block_length (block_count t a) (function_entry t a) made =
      subst (λ (n : ℕ). Numbered (prefix_of 101) t (a + block_names_offset) block_length n (function_entry t a) made) c
      (subst (λ (e : ℕ). Numbered (prefix_of 101) t (a + block_names_offset) block_length n e made) d m) in
      record {
        named =
            λ b h.
            let l : b < block_count t a = omega (arith, block_count_law t a) in
            ap (λ (ns : List (List ℕ)). get_or ns b []) blocks_titled ∙ k.named b l
            ∙ ap (λ (n : List ℕ). cond (empty n && not (eqb b (function_entry t a))) (made_name block_prefix (get_or made b 0)) n) (sym (ap (λ (x : Block). x.name) (block_is t a b l)))
            ∙ ap (λ (e : ℕ). cond (empty (block_at (decode_function t a) b).name && not (eqb b e)) (made_name block_prefix (get_or made b 0)) (block_at (decode_function t a) b).name) (sym (entry_is t a));
        plain =
            λ b h.
            let l : b < block_count t a = omega (arith, block_count_law t a) in
            subst (λ (n : List ℕ). empty n ≡ false → get_or made b 0 ≡ plain_flag n) (sym (ap (λ (x : Block). x.name) (block_is t a b l))) (k.plain b l);
      }
