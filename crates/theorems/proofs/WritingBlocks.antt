-- The blocks of a function, read back as drafts. Assumes nothing.
use mathlib.Core.Bool.{cond}
use mathlib.Core.List.{List, [], ◌∷◌, ◌++◌, map, append_assoc, append-nil, map-append}
use mathlib.Core.Path.{◌≡◌, refl, sym, ◌∙◌, ap}
use Prim.Native.Nat.{ℕ, zero, suc, ◌+◌, ◌≤◌, ◌<◌}
use native.Mathlib.Omega.{arith}
use lib.ListN.{length, length-append, length-map}
use borrow.Author.Tests.{lt-ltb, le-ltb}
use Rattle.laws.specs.Lists.{gather, sum}
use Rattle.laws.proofs.Every.{Every, more as every_cons}
use Rattle.laws.proofs.Appending.{gather_append, sum_append}
use Rattle.language.specs.Bytes.{right_brace}
use Rattle.language.specs.Words.{block_word}
use Rattle.language.specs.Programs.{Row, Block, Func, entries_of, max_rows, max_entries, max_blocks}
use Rattle.language.specs.Tokens.{Token}
use Rattle.language.specs.Grammar.{Stage, Act, to, next_move}
use Rattle.language.specs.Reading.{OpenRow, OpenBlock, no_parts, rows_in, entries_in, block_number, begin_block, name_block, end_block, perform_act}
use Rattle.language.specs.Writing.{block_token, row_line, block_lines, closing}
use Rattle.language.proofs.Rooms.{entry_total, entries_append, rows_closed}
use Rattle.theorems.proofs.WritingStates.{State, Takes, nothing, then, after, step, pass_then}
use Rattle.theorems.proofs.WritingDeclared.{New, Apart, numbered, new_number}
use Rattle.theorems.proofs.WritingHeads.{name_of}
use Rattle.theorems.proofs.WritingRows.{drafted, RowReady, rowing, Starts, row_read}

abbrev pub block_name : Block → List ℕ
block_name b = b.name

-- The rows of blocks, and how many phi entries rows have.
abbrev pub block_rows : List Block → List Row
block_rows bs = gather (λ b. b.rows) bs

abbrev pub entry_count_in : List Row → ℕ
entry_count_in rs = sum (map (λ r. length (entries_of r)) rs)

-- Blocks as the draft has them.
abbrev pub as_drafted : Func → Block → OpenBlock
as_drafted f b = record { name = b.name; rows = map (drafted f) b.rows }

abbrev pub drafted_blocks : Func → List Block → List OpenBlock
drafted_blocks f bs = map (as_drafted f) bs

drafted_entries : (f : Func) (r : Row) → entries_in (drafted f r) ≡ entries_of r
drafted_entries f Row.nop = refl
drafted_entries f (Row.load op t x) = refl
drafted_entries f (Row.unary op t s) = refl
drafted_entries f (Row.binary op t l r) = refl
drafted_entries f (Row.phi t es) = refl
drafted_entries f (Row.jump b) = refl
drafted_entries f (Row.branch s x y) = refl
drafted_entries f (Row.return s) = refl
drafted_entries f Row.leave = refl
drafted_entries f (Row.unknown op) = refl

drafted_all_entries : (f : Func) (rs : List Row) → entry_total (map (drafted f) rs) ≡ entry_count_in rs
drafted_all_entries f [] = refl
drafted_all_entries f (r ∷ rs) = rw (drafted_entries f r, drafted_all_entries f rs)

abbrev pub open_name : OpenBlock → List ℕ
open_name b = b.name

-- the number of a block goes by the names alone
pub by_names : (bs : List OpenBlock) (n : List ℕ) → numbered open_name bs n ≡ numbered (λ m. m) (map open_name bs) n
by_names [] n = refl
by_names (b ∷ bs) n = ap (λ (k : ℕ). cond (Rattle.laws.specs.Lists.same b.name n) zero (suc k)) (by_names bs n)

-- What is known of a block of the function.
pub record BlockReady (f : Func) (b : Block) : Type 0 where
  pub rows : Every (RowReady f) b.rows
  pub some : 0 < length b.rows

-- There is room for these blocks after those read, and their names are new.
pub record Rooms (bs : List OpenBlock) (rest : List Block) : Type 0 where
  pub blocks : length bs + length rest ≤ max_blocks
  pub rows : length (rows_in bs) + length (block_rows rest) ≤ max_rows
  pub entries : entry_total (rows_in bs) + entry_count_in (block_rows rest) ≤ max_entries
  pub names : Apart (λ n. n) (map open_name bs) (map block_name rest)

module _ (fs : List Func) (F : Func) (apart : Apart name_of [] F.registers) where
  -- The state in a block, and between two.
  abbrev pub in_block : Stage → List OpenBlock → List ℕ → List OpenRow → State
  in_block s bs nm rows = rowing fs F apart s bs nm rows no_parts

  abbrev pub at_block : Stage → List OpenBlock → State
  at_block s bs = in_block s bs [] []

  starts_first : Starts Stage.first_instruction
  unfolding next_move
  starts_first = record { names = λ n. refl; words = λ w. refl }

  starts_next : Starts Stage.next_instruction
  unfolding next_move
  starts_next = record { names = λ n. refl; words = λ w. refl }

  module _ (bs : List OpenBlock) (nm : List ℕ) where
    -- There is room for more rows and entries.
    record Room (pre : List OpenRow) (rs : List Row) : Type 0 where
      rows : length (rows_in bs) + (length pre + length rs) ≤ max_rows
      entries : entry_total (rows_in bs ++ pre) + entry_count_in rs ≤ max_entries

    -- What the rows come to, from a stage where an instruction may begin.
    abbrev Rows-read : Stage → List OpenRow → List Row → Type 0
    Rows-read s pre rs =
        Takes (in_block s bs nm pre) (gather (λ l. l) (map (row_line F) rs)) (in_block Stage.next_instruction bs nm (pre ++ map (drafted F) rs))

    -- one row, then the others
    cons_read :
        (s : Stage)
        → Starts s
        → (pre : List OpenRow) (r : Row) (rs : List Row)
        → RowReady F r
        → Room pre (r ∷ rs)
        → (Room (pre ++ (drafted F r ∷ [])) rs → Rows-read Stage.next_instruction (pre ++ (drafted F r ∷ [])) rs)
        → Rows-read s pre (r ∷ rs)
    cons_read s st pre r rs k room later =
        let d = drafted F r in
        let rows_more : length (pre ++ (d ∷ [])) ≡ length pre + 1 = length-append pre (d ∷ []) in
        let entries-more : entry_total (rows_in bs ++ (pre ++ (d ∷ []))) ≡ entry_total (rows_in bs ++ pre) + (length (entries_of r) + 0) =
        ap entry_total (sym (append_assoc (rows_in bs) pre (d ∷ [])))
        ∙ entries_append (rows_in bs ++ pre) (d ∷ [])
        ∙ ap (λ (es : List ℕ). entry_total (rows_in bs ++ pre) + (length es + 0)) (drafted_entries F r) in
        let joined : pre ++ (d ∷ []) ++ map (drafted F) rs ≡ pre ++ (d ∷ map (drafted F) rs) = append_assoc pre (d ∷ []) (map (drafted F) rs) in
        after (row_line F r) _ _ _ _
        (row_read fs F apart bs nm pre s st no_parts (omega (arith, room.rows)) r k (omega (arith, room.entries)))
        (rw (← joined) (later (record { rows = omega (arith, room.rows); entries = omega (arith, room.entries) })))

    rows_read : (rs : List Row) (pre : List OpenRow) → Every (RowReady F) rs → Room pre rs → Rows-read Stage.next_instruction pre rs
    rows_read [] pre h room = rw (append-nil pre) (nothing (in_block Stage.next_instruction bs nm pre))
    rows_read (r ∷ rs) pre (every_cons k h) room = cons_read Stage.next_instruction starts_next pre r rs k room (λ room. rows_read rs _ h room)

    first_rows : (rs : List Row) → Every (RowReady F) rs → 0 < length rs → Room [] rs → Rows-read Stage.first_instruction [] rs
    first_rows [] h some room = absurd (omega arith)
    first_rows (r ∷ rs) (every_cons k h) some room = cons_read Stage.first_instruction starts_first [] r rs k room (λ room. rows_read rs _ h room)

  -- ---- a block

  named_block : (n : List ℕ) → next_move Stage.block_name (block_token n) ≡ to Stage.block_body (Act.name_block n)
  unfolding next_move
  named_block [] = refl
  named_block (b ∷ n) = refl

  block_read :
      (s : Stage)
      → next_move s (Token.word block_word) ≡ to Stage.block_name Act.begin_block
      → (bs : List OpenBlock) (b : Block)
      → BlockReady F b
      → New (λ n. n) b.name (map open_name bs)
      → length bs < max_blocks → Room bs b.name [] b.rows
      → Takes (at_block s bs) (gather (λ l. l) (block_lines F b)) (at_block Stage.blocks (bs ++ (as_drafted F b ∷ [])))
  unfolding block_lines next_move perform_act begin_block name_block end_block block_number
  block_read s g bs b k new few room =
      let n = b.name in
      let count : numbered open_name bs n ≡ length bs = by_names bs n ∙ new_number (λ n. n) n (map open_name bs) new ∙ length-map bs open_name in
      let after-rows = in_block Stage.next_instruction bs n (map (drafted F) b.rows) in
      let parted : gather (λ l. l) (map (row_line F) b.rows ++ (closing ∷ [])) ≡ gather (λ l. l) (map (row_line F) b.rows) ++ closing =
      gather_append (λ l. l) (map (row_line F) b.rows) (closing ∷ []) in
      then _ (at_block Stage.block_name bs) _ _ _
      (step (at_block s bs) (at_block Stage.block_name bs) (Token.word block_word) Act.begin_block g (rw (lt-ltb (length bs) max_blocks few)))
      (then _ (in_block Stage.block_body bs n []) _ _ _
      (step (at_block Stage.block_name bs) (in_block Stage.block_body bs n []) (block_token n) (Act.name_block n) (named_block n)
      (rw (count, le-ltb (length bs) (length bs) (omega arith))))
      (pass_then (in_block Stage.block_body bs n []) Stage.first_instruction _ _ _ refl
      (rw parted
      (after (gather (λ l. l) (map (row_line F) b.rows)) closing _ after-rows _ (first_rows bs n b.rows k.rows k.some room)
      (step after-rows (at_block Stage.blocks (bs ++ (as_drafted F b ∷ []))) (Token.mark right_brace) Act.end_block refl refl)))))

  -- ---- all blocks

  abbrev Blocks-read : Stage → List OpenBlock → List Block → Type 0
  Blocks-read s bs rest =
      Takes (at_block s bs) (gather (λ l. l) (gather (block_lines F) rest)) (at_block Stage.blocks (bs ++ drafted_blocks F rest))

  block_then :
      (s : Stage)
      → next_move s (Token.word block_word) ≡ to Stage.block_name Act.begin_block
      → (bs : List OpenBlock) (b : Block) (rest : List Block)
      → BlockReady F b
      → Rooms bs (b ∷ rest)
      → (Rooms (bs ++ (as_drafted F b ∷ [])) rest → Blocks-read Stage.blocks (bs ++ (as_drafted F b ∷ [])) rest)
      → Blocks-read s bs (b ∷ rest)
  block_then s g bs b rest k room later =
      let d = as_drafted F b in
      let rows-here : length (block_rows (b ∷ rest)) ≡ length b.rows + length (block_rows rest) = length-append b.rows (block_rows rest) in
      let entries-here : entry_count_in (block_rows (b ∷ rest)) ≡ entry_count_in b.rows + entry_count_in (block_rows rest) =
      sum_append (λ r. length (entries_of r)) b.rows (block_rows rest) in
      let longer = rows_closed bs d in
      let rows_now : length (rows_in (bs ++ (d ∷ []))) ≡ length (rows_in bs) + length b.rows =
      ap length longer ∙ length-append (rows_in bs) d.rows ∙ ap (λ (k : ℕ). length (rows_in bs) + k) (length-map b.rows (drafted F)) in
      let entries_now : entry_total (rows_in (bs ++ (d ∷ []))) ≡ entry_total (rows_in bs) + entry_count_in b.rows =
      ap entry_total longer ∙ entries_append (rows_in bs) d.rows ∙ ap (λ (k : ℕ). entry_total (rows_in bs) + k) (drafted_all_entries F b.rows) in
      let blocks-now : length (bs ++ (d ∷ [])) ≡ length bs + 1 = length-append bs (d ∷ []) in
      let before : Room bs b.name [] b.rows =
      record { rows = omega (arith, room.rows); entries = rw append-nil (omega (arith, room.entries)) } in
      let rooms : Rooms (bs ++ (d ∷ [])) rest =
      record {
        blocks = omega (arith, room.blocks);
        rows = omega (arith, room.rows);
        entries = omega (arith, room.entries);
        names = rw (map-append open_name bs (d ∷ [])) room.names.1;
      } in
      let split : gather (λ l. l) (gather (block_lines F) (b ∷ rest)) ≡ gather (λ l. l) (block_lines F b) ++ gather (λ l. l) (gather (block_lines F) rest) =
      gather_append (λ l. l) (block_lines F b) (gather (block_lines F) rest) in
      let joined : bs ++ (d ∷ []) ++ drafted_blocks F rest ≡ bs ++ (d ∷ drafted_blocks F rest) = append_assoc bs (d ∷ []) (drafted_blocks F rest) in
      rw split
      (after (gather (λ l. l) (block_lines F b)) _ _ (at_block Stage.blocks (bs ++ (d ∷ []))) _
      (block_read s g bs b k room.names.0 (omega (arith, room.blocks)) before)
      (rw (← joined) (later rooms)))

  blocks_read : (rest : List Block) (bs : List OpenBlock) → Every (BlockReady F) rest → Rooms bs rest → Blocks-read Stage.blocks bs rest
  unfolding next_move
  blocks_read [] bs h room = rw (append-nil bs) (nothing (at_block Stage.blocks bs))
  blocks_read (b ∷ rest) bs (every_cons k h) room = block_then Stage.blocks refl bs b rest k room (λ room. blocks_read rest _ h room)

  -- from the register declarations on, one block or more
  pub all_blocks :
      (bs : List Block)
      → 0 < length bs
      → Every (BlockReady F) bs
      → Rooms [] bs
      → Takes (at_block Stage.declarations []) (gather (λ l. l) (gather (block_lines F) bs)) (at_block Stage.blocks (drafted_blocks F bs))
  unfolding next_move
  all_blocks [] some h room = absurd (omega arith)
  all_blocks (b ∷ rest) some (every_cons k h) room = block_then Stage.declarations refl [] b rest k room (λ room. blocks_read rest _ h room)
