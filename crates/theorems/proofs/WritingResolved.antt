-- At a function's closing brace the mentions become the blocks they name, and the draft the function. Assumes nothing.
use mathlib.Core.Bool.{true}
use mathlib.Core.List.{List, [], ◌∷◌, ◌++◌, map, map-append, map-map}
use mathlib.Core.Path.{◌≡◌, refl, sym, ◌∙◌, ap}
use Prim.Native.Nat.{ℕ, ◌<◌}
use native.Mathlib.Nat.{zero-add}
use native.Mathlib.Omega.{arith}
use lib.Dec.{eqb}
use lib.ListN.{length, get_or, length-map, get_or-map}
use borrow.Author.Tests.{lt-ltb, ne_eqb}
use Rattle.laws.specs.Lists.{gather, keep}
use Rattle.laws.proofs.Every.{Every, more as every_cons, every_left, every_right, every_imp, every_map, kept_every}
use Rattle.laws.proofs.Appending.{gather_append}
use Rattle.language.specs.Bytes.{right_brace}
use Rattle.language.specs.Programs.{Row, Block, Func, no_block, block_at, named_by}
use Rattle.language.specs.Tokens.{Token}
use Rattle.language.specs.Grammar.{Stage, Act, next_move}
use Rattle.language.specs.Reading.{OpenRow, OpenBlock, head_of, rows_in, mentions_in, block_number, resolve_row, resolve_block, resolve, undeclared, end_function, perform_act}
use Rattle.theorems.proofs.WritingStates.{Takes, step}
use Rattle.theorems.proofs.WritingDeclared.{Apart, numbered, numbers}
use Rattle.theorems.proofs.WritingHeads.{name_of, between}
use Rattle.theorems.proofs.WritingRows.{aim, drafted}
use Rattle.theorems.proofs.WritingBlocks.{block_name, open_name, block_rows, as_drafted, drafted_blocks, by_names, at_block}

-- ---- rows and blocks with their mentions resolved

module _ (F : Func) (bs : List OpenBlock) where
  -- The block's name is found at its number.
  abbrev Found : ℕ → Type 0
  Found b = block_number bs (block_at F b).name ≡ b

  resolve_row_law : (r : Row) → Every Found (named_by r) → resolve_row bs (drafted F r) ≡ r
  resolve_row_law Row.nop e = refl
  resolve_row_law (Row.load op t n) e = refl
  resolve_row_law (Row.unary op t s) e = refl
  resolve_row_law (Row.binary op t l r) e = refl
  resolve_row_law (Row.phi t es) e = refl
  resolve_row_law (Row.jump b) (every_cons e h) = ap Row.jump e
  resolve_row_law (Row.branch s x y) (every_cons e (every_cons g h)) = λ i. Row.branch s (e i) (g i)
  resolve_row_law (Row.return s) e = refl
  resolve_row_law Row.leave e = refl
  resolve_row_law (Row.unknown op) e = refl

  resolve_rows : (rs : List Row) → Every Found (gather named_by rs) → map (resolve_row bs) (map (drafted F) rs) ≡ rs
  resolve_rows [] e = refl
  resolve_rows (r ∷ rs) e =
      let first = resolve_row_law r (every_left (named_by r) (gather named_by rs) e) in
      let others = resolve_rows rs (every_right (named_by r) (gather named_by rs) e) in
      λ i. first i ∷ others i

  resolve_blocks : (ks : List Block) → Every Found (gather named_by (block_rows ks)) → map (resolve_block bs) (drafted_blocks F ks) ≡ ks
  resolve_blocks [] e = refl
  resolve_blocks (k ∷ ks) e =
      let now = gather named_by k.rows in
      let later = gather named_by (block_rows ks) in
      let both : Every Found (now ++ later) = rw (gather_append named_by k.rows (block_rows ks)) at e in
      let rows = resolve_rows k.rows (every_left now later both) in
      let others = resolve_blocks ks (every_right now later both) in
      λ i. record { name = k.name; rows = rows i } ∷ others i

-- ---- what drafts mention

mentions_row : (F : Func) (r : Row) → mentions_in (drafted F r) ≡ map (aim F) (named_by r)
mentions_row F Row.nop = refl
mentions_row F (Row.load op t n) = refl
mentions_row F (Row.unary op t s) = refl
mentions_row F (Row.binary op t l r) = refl
mentions_row F (Row.phi t es) = refl
mentions_row F (Row.jump b) = refl
mentions_row F (Row.branch s x y) = refl
mentions_row F (Row.return s) = refl
mentions_row F Row.leave = refl
mentions_row F (Row.unknown op) = refl

mentions_rows : (F : Func) (rs : List Row) → gather mentions_in (map (drafted F) rs) ≡ map (aim F) (gather named_by rs)
mentions_rows F [] = refl
mentions_rows F (r ∷ rs) = rw (mentions_row F r, mentions_rows F rs) (sym (map-append (aim F) (named_by r) (gather named_by rs)))

drafted_rows : (F : Func) (bs : List Block) → rows_in (drafted_blocks F bs) ≡ map (drafted F) (block_rows bs)
drafted_rows F [] = refl
drafted_rows F (b ∷ bs) =
    ap (λ (rs : List OpenRow). map (drafted F) b.rows ++ rs) (drafted_rows F bs) ∙ sym (map-append (drafted F) b.rows (block_rows bs))

module _ (fs : List Func) (F : Func) (registers : Apart name_of [] F.registers) where
  -- What the closing brace needs of the function.
  pub record Closing : Type 0 where
    pub placed : F.placed ≡ true
    pub names : Apart (λ n. n) [] (map block_name F.blocks)
    pub entry : F.entry < length F.blocks
    pub unnamed : (block_at F F.entry).name ≡ []
    pub named : Every (λ b. b < length F.blocks) (gather named_by (block_rows F.blocks))

  module _ (c : Closing) where
    abbrev drafts : List OpenBlock
    drafts = drafted_blocks F F.blocks

    drafts_count : length drafts ≡ length F.blocks
    drafts_count = length-map F.blocks (as_drafted F)

    number : (b : ℕ) → b < length F.blocks → block_number drafts (block_at F b).name ≡ b
    unfolding block_number
    number b h =
        let names = map block_name F.blocks in
        let n = (block_at F b).name in
        let named : get_or names b [] ≡ n = get_or-map block_name F.blocks b no_block in
        let l : b < length names = rw length-map h in
        by_names drafts n ∙ ap (λ (l : List (List ℕ)). numbered (λ n. n) l n) (map-map open_name (as_drafted F) F.blocks)
        ∙ ap (λ (m : List ℕ). numbered (λ n. n) names m) (sym named)
        ∙ numbers (λ n. n) [] names [] c.names b l
        ∙ zero-add b

    entry_number : block_number drafts [] ≡ F.entry
    entry_number = ap (block_number drafts) (sym c.unnamed) ∙ number F.entry c.entry

    resolved : resolve (head_of F.name F.ssa F.result F.params F.registers) drafts ≡ F
    unfolding resolve
    resolved =
        let blocks = resolve_blocks F drafts F.blocks (every_imp number c.named) in
        λ i.
        record {
          name = F.name;
          ssa = F.ssa;
          result = F.result;
          params = F.params;
          registers = F.registers;
          blocks = blocks i;
          entry = entry_number i;
          placed = sym c.placed i;
        }

    none_undeclared : undeclared drafts ≡ []
    unfolding undeclared
    none_undeclared =
        let all : gather mentions_in (rows_in drafts) ≡ map (aim F) (gather named_by (block_rows F.blocks)) =
        ap (gather mentions_in) (drafted_rows F F.blocks) ∙ mentions_rows F (block_rows F.blocks) in
        ap (keep (λ m. eqb (block_number drafts m.name) (length drafts))) all
        ∙ kept_every (λ m. eqb (block_number drafts m.name) (length drafts))
        (every_map (aim F)
        (λ b l. ne_eqb (block_number drafts (block_at F b).name) (length drafts) (λ d. absurd (omega (arith, drafts_count, number b l))))
        c.named)

    -- the closing brace
    pub closed : Takes (at_block fs F registers Stage.blocks drafts) (Token.mark right_brace ∷ []) (between (fs ++ (F ∷ [])))
    unfolding next_move perform_act end_function
    closed =
        step (at_block fs F registers Stage.blocks drafts) (between (fs ++ (F ∷ []))) (Token.mark right_brace) Act.end_function refl
        (rw (entry_number, lt-ltb F.entry (length drafts) (omega (arith, drafts_count, c.entry)), none_undeclared, resolved))
