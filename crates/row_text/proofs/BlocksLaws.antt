-- The lines of a block and of all blocks, as the code puts them down. Assumes nothing.
use mathlib.Core.List.{List, [], ◌∷◌, ◌++◌, map, append_assoc}
use mathlib.Core.Path.{◌≡◌, sym, ap, ◌∙◌}
use Prim.Native.Nat.{ℕ, ◌+◌, ◌<◌, ◌≤◌}
use native.Mathlib.Nat.{zero-add}
use native.Mathlib.Omega.{arith}
use lib.ListN.{length}
use Rattle.laws.specs.Lists.{gather, from, below}
use Rattle.laws.proofs.Ranges.{map_from}
use Rattle.laws.proofs.Sums.{gather_map, gather_gather, sum_below_le}
use Rattle.laws.proofs.Appending.{gather_append}
use Rattle.language.specs.Bytes.{line_feed, left_brace, right_brace}
use Rattle.language.specs.Programs.{Row, Block, no_block, block_at}
use Rattle.language.specs.Table.{block_count, block_first, block_rows, row_count, decode_row, decode_block, decode_function}
use Rattle.language.specs.Tokens.{Token}
use Rattle.language.specs.Words.{block_word}
use Rattle.language.specs.Writing.{bytes_for, line_bytes, block_token, row_line, closing, block_lines}
use Rattle.language.proofs.TableView.{block_count_law, block_is, block_first_is}
use Rattle.flow.specs.Sized.{Sized}
use Rattle.token_text.specs.Spaced.{spaced}
use Rattle.token_text.proofs.Lines.{line_ends}
use Rattle.naming.proofs.Filled.{filled_blocks, filled_block_rows}
use Rattle.row_text.specs.Ready.{titled}
use Rattle.row_text.proofs.Parts.{lines_more}

module _ (t : List ℕ) (a : ℕ) where
  -- the line of row r
  line : ℕ → List ℕ
  line r = line_bytes (row_line (titled t a) (decode_row t a r))

  -- the rows of a block are the function's
  pub rows_within : Sized t a → (b : ℕ) → b < block_count t a → {first count : ℕ} → first ≡ block_first t a b → count ≡ block_rows t a b → first + count ≤ row_count t a
  rows_within s b l d e = omega (arith, block_first_is t a s.placed b l, sum_below_le (block_rows t a) b (block_count t a) l)

  rows_of : (b : ℕ) → b < block_count t a → (block_at (titled t a) b).rows ≡ map (decode_row t a) (from (block_first t a b) (block_rows t a b))
  unfolding decode_block
  rows_of b l =
      let within : b < length (decode_function t a).blocks = omega (arith, block_count_law t a) in
      filled_block_rows (decode_function t a) b within ∙ ap (λ (x : Block). x.rows) (block_is t a b l)

  -- head, rows and `}`
  pub block_text : (b : ℕ) → b < block_count t a → {first count : ℕ} → first ≡ block_first t a b → count ≡ block_rows t a b
      → ((spaced (Token.word block_word ∷ block_token (block_at (titled t a) b).name ∷ []) ++ (left_brace ∷ line_feed ∷ []))
      ++ gather (λ r. line_bytes (row_line (titled t a) (decode_row t a r))) (from first count)) ++ (right_brace ∷ line_feed ∷ [])
      ≡ gather line_bytes (block_lines (titled t a) (block_at (titled t a) b))
  unfolding bytes_for block_lines
  block_text b l {first} {count} d e =
      let g = titled t a in
      let row : ℕ → List ℕ = λ r. line_bytes (row_line g (decode_row t a r)) in
      let rows : List Row = (block_at g b).rows in
      let head : List Token = Token.word block_word ∷ block_token (block_at g b).name ∷ [] in
      let top : List ℕ = spaced head ++ (left_brace ∷ line_feed ∷ []) in
      let middle : gather row (from first count) ≡ gather line_bytes (map (row_line g) rows) =
      ap (λ (k : ℕ). gather row (from k count)) d
      ∙ ap (λ (n : ℕ). gather row (from (block_first t a b) n)) e
      ∙ sym (ap (λ (rs : List Row). gather line_bytes (map (row_line g) rs)) (rows_of b l)
      ∙ gather_map line_bytes (row_line g) (map (decode_row t a) (from (block_first t a b) (block_rows t a b)))
      ∙ gather_map (λ r. line_bytes (row_line g r)) (decode_row t a) (from (block_first t a b) (block_rows t a b))) in
      append_assoc top (gather row (from first count)) (right_brace ∷ line_feed ∷ [])
      ∙ ap (λ (l : List ℕ). top ++ (l ++ (right_brace ∷ line_feed ∷ []))) middle
      ∙ ap (λ (l : List ℕ). top ++ l) (sym (gather_append line_bytes (map (row_line g) rows) (closing ∷ [])))
      ∙ ap (λ (l : List ℕ). l ++ gather line_bytes (map (row_line g) rows ++ (closing ∷ []))) (sym (line_ends head (Token.mark left_brace)))

  -- ---- all blocks

  -- the lines of block b
  abbrev pub lines_at : ℕ → List ℕ
  lines_at b = gather line_bytes (block_lines (titled t a) (block_at (titled t a) b))

  pub blocks_more : (b : ℕ) → gather lines_at (below b) ++ lines_at b ≡ gather lines_at (below (b + 1))
  blocks_more b = ap (λ (k : ℕ). gather lines_at (below b) ++ lines_at k) (sym (zero-add b)) ∙ lines_more lines_at 0 b

  pub blocks_all : {n : ℕ} → n ≡ block_count t a → gather lines_at (below n) ≡ gather line_bytes (gather (block_lines (titled t a)) (titled t a).blocks)
  blocks_all d =
      let g = titled t a in
      let lines : Block → List ℕ = λ x. gather line_bytes (block_lines g x) in
      let count = d ∙ sym (block_count_law t a) ∙ sym (filled_blocks (decode_function t a)) in
      ap (λ (n : ℕ). gather lines_at (below n)) count
      ∙ sym (gather_map lines (block_at g) (below (length g.blocks)))
      ∙ ap (gather lines) (map_from (block_at g) no_block 0 g.blocks (λ i l. ap (block_at g) (zero-add i)))
      ∙ sym (gather_gather line_bytes (block_lines g) g.blocks)
