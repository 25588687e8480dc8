-- A row, read back: what stands in the draft is the row with the names of the blocks it names.
-- Assumes nothing.
use mathlib.Core.Bool.{true, false}
use mathlib.Core.List.{List, [], ◌∷◌, ◌++◌, append_assoc}
use mathlib.Core.Path.{◌≡◌, refl, ◌∙◌, ap}
use Prim.Native.Nat.{ℕ, suc, ◌+◌, ◌-◌, ◌^◌, ◌≤◌, ◌<◌}
use native.Mathlib.Omega.{arith}
use lib.Dec.{T, ltb→lt}
use lib.ListN.{length, get_or, length-append}
use borrow.Author.Tests.{lt-ltb, le-leb}
use Rattle.laws.proofs.Every.{Every, more as every_cons}
use Rattle.language.specs.Bytes.{comma, left_paren, right_paren, equals, semicolon}
use Rattle.language.specs.Words.{is_instruction, first_instruction, word_count}
use Rattle.language.specs.Instructions.{Form, Operand, form_of, has_target, source_count, operand_of, load_type, width, instruction_count, phi_op, jump_op, jump_cond_op, return_op, leave_op}
use Rattle.language.specs.Programs.{Row, Func, no_register, block_at, op_of, form_in, targets_of, sources_of, entries_of, is_phi, max_rows, max_entries}
use Rattle.language.specs.Checking.{number_fits}
use Rattle.language.specs.Tokens.{Token}
use Rattle.language.specs.Grammar.{Bracketed, Stage, Act, to, after_sources, after_source, after_mention, sources, after_word, in_operand, word_with_target, word_alone, next_move}
use Rattle.language.specs.Reading.{Mention, OpenRow, OpenBlock, Parts, parts_of, head_of, draft_of, no_parts, rows_in, open_rows, draft_rows, phi_entries, register_number, begin_instruction, set_target, set_instruction, add_source, add_entry, add_mention, set_number, row_as, row_of, end_instruction, perform_act}
use Rattle.language.specs.Writing.{register_token, block_token, op_token, number_token, in_parens, registers_part, operand_part, row_line}
use Rattle.language.proofs.Rooms.{entry_total}
use Rattle.language.proofs.FormLaws.{unknown_from}
use Rattle.theorems.proofs.WritingPlaces.{nowhere}
use Rattle.theorems.proofs.WritingStates.{State, Takes, nothing, then, after, step, passes, pass_then}
use Rattle.theorems.proofs.WritingDeclared.{Apart, numbers}
use Rattle.theorems.proofs.WritingHeads.{name_of}
use Rattle.theorems.proofs.WritingNumbers.{meant}

-- The mention of a block, and a row as the draft has it.
abbrev pub aim : Func → ℕ → Mention
aim f b = record { name = (block_at f b).name; place = nowhere }

abbrev pub drafted : Func → Row → OpenRow
drafted f Row.nop = OpenRow.row Row.nop
drafted f (Row.load op t x) = OpenRow.row (Row.load op t x)
drafted f (Row.unary op t s) = OpenRow.row (Row.unary op t s)
drafted f (Row.binary op t l r) = OpenRow.row (Row.binary op t l r)
drafted f (Row.phi t es) = OpenRow.row (Row.phi t es)
drafted f (Row.jump b) = OpenRow.jump (aim f b)
drafted f (Row.branch s x y) = OpenRow.branch s (aim f x) (aim f y)
drafted f (Row.return s) = OpenRow.row (Row.return s)
drafted f Row.leave = OpenRow.row Row.leave
drafted f (Row.unknown op) = OpenRow.row (Row.unknown op)

-- An instruction may begin here.
pub record Starts (s : Stage) : Type 0 where
  pub names : (n : List ℕ) → next_move s (Token.name n) ≡ to Stage.assignment (Act.set_target n)
  pub words : (w : ℕ) → next_move s (Token.word w) ≡ word_alone w

-- What is known of a row of the function.
pub record RowReady (f : Func) (r : Row) : Type 0 where
  pub form : form_of (op_of r) ≡ form_in r
  pub op : op_of r < instruction_count
  pub targets : Every (λ u. u < length f.registers) (targets_of r)
  pub sources : Every (λ u. u < length f.registers) (sources_of r)
  pub entries : Every (λ u. u < length f.registers) (entries_of r)
  pub number : T (number_fits r)
  pub some : T (is_phi r) → 0 < length (entries_of r)

first : {P : ℕ → Type 0} {x : ℕ} {xs : List ℕ} → Every P (x ∷ xs) → P x
first (every_cons p h) = p

module _ (fs : List Func) (F : Func) (apart : Apart name_of [] F.registers) where
  abbrev pub rowing : Stage → List OpenBlock → List ℕ → List OpenRow → Parts → State
  rowing s bs nm rows x =
      record {
        stage = s;
        draft = draft_of fs (head_of F.name F.ssa F.result F.params F.registers) bs (record { name = nm; rows = rows }) x;
      }

  -- a register's name is found at its number
  found : (r : ℕ) → r < length F.registers → register_number F.registers (get_or F.registers r no_register).name ≡ r
  unfolding register_number
  found r h = numbers name_of [] F.registers no_register apart r h ∙ omega arith

  module _ (bs : List OpenBlock) (nm : List ℕ) (rows : List OpenRow) where
    rows_now : (s : Stage) (x : Parts) → draft_rows (rowing s bs nm rows x).draft ≡ length (rows_in bs) + length rows
    unfolding draft_rows open_rows
    rows_now s x = length-append (rows_in bs) rows

    entries_now : (s : Stage) (x : Parts) → phi_entries (rowing s bs nm rows x).draft ≡ entry_total (rows_in bs ++ rows) + length x.entries
    unfolding phi_entries open_rows
    entries_now s x = refl

    abbrev on : Stage → Parts → State
    on s x = rowing s bs nm rows x

    -- ---- the instruction word, with or without a target

    module _ (room : length (rows_in bs) + length rows < max_rows) (op : ℕ) (known : op < instruction_count) where
      back : first_instruction + op - first_instruction ≡ op
      back = omega arith

      is_instruction_law : is_instruction (first_instruction + op) ≡ true
      is_instruction_law = rw (le-leb first_instruction (first_instruction + op) (omega arith), lt-ltb (first_instruction + op) word_count (omega arith))

      with_target : has_target (form_of op) ≡ true → word_with_target (first_instruction + op) ≡ to (after_word op) (Act.set_instruction op)
      unfolding word_with_target
      with_target e = rw (back, is_instruction_law, e)

      without : has_target (form_of op) ≡ false → word_alone (first_instruction + op) ≡ to (after_word op) (Act.begin_instruction op)
      unfolding word_alone
      without e = rw (back, is_instruction_law, e)

      word_alone_law :
          (s : Stage) (x : Parts)
          → ((w : ℕ) → next_move s (Token.word w) ≡ word_alone w)
          → has_target (form_of op) ≡ false
          → Takes (on s x) (op_token op ∷ []) (on (after_word op) (parts_of op 0 [] 0 [] []))
      unfolding perform_act begin_instruction
      word_alone_law s x g e =
          step (on s x) (on (after_word op) (parts_of op 0 [] 0 [] [])) (op_token op) (Act.begin_instruction op) (g (first_instruction + op) ∙ without e)
          (rw (rows_now s x, lt-ltb (length (rows_in bs) + length rows) max_rows room))

      word_after :
          (s : Stage) (x : Parts) (t : ℕ)
          → t < length F.registers
          → ((n : List ℕ) → next_move s (Token.name n) ≡ to Stage.assignment (Act.set_target n))
          → has_target (form_of op) ≡ true
          → Takes (on s x) (register_token F t ∷ Token.mark equals ∷ op_token op ∷ []) (on (after_word op) (parts_of op t [] 0 [] []))
      unfolding perform_act set_target set_instruction next_move
      word_after s x t h g e =
          let n = (get_or F.registers t no_register).name in
          then _ (on Stage.assignment (parts_of 0 t [] 0 [] [])) _ _ _
          (step (on s x) (on Stage.assignment (parts_of 0 t [] 0 [] [])) (register_token F t) (Act.set_target n) (g n)
          (rw (rows_now s x, lt-ltb (length (rows_in bs) + length rows) max_rows room, found t h, lt-ltb t (length F.registers) h)))
          (pass_then (on Stage.assignment (parts_of 0 t [] 0 [] [])) Stage.instruction _ _ _ refl
          (step (on Stage.instruction (parts_of 0 t [] 0 [] [])) (on (after_word op) (parts_of op t [] 0 [] [])) (op_token op) (Act.set_instruction op) (with_target e)
          refl))

    -- ---- sources

    module _ (op t n : ℕ) (es : List ℕ) (ms : List Mention) where
      abbrev having : List ℕ → Parts
      having ss = parts_of op t ss n es ms

      source_read :
          (k : ℕ) (o : Operand) (ss : List ℕ) (s : ℕ)
          → s < length F.registers
          → Takes (on (Stage.source k o) (having ss)) (register_token F s ∷ []) (on (after_source k o) (having (ss ++ (s ∷ []))))
      unfolding perform_act add_source next_move
      source_read k o ss s h =
          step (on (Stage.source k o) (having ss)) (on (after_source k o) (having (ss ++ (s ∷ [])))) (register_token F s) (Act.add_source (get_or F.registers s no_register).name) refl
          (rw (found s h, lt-ltb s (length F.registers) h))

      some_sources :
          (o : Operand) (ss : List ℕ) (s : ℕ) (rest : List ℕ)
          → Every (λ u. u < length F.registers) (s ∷ rest)
          → Takes (on (Stage.source (length rest) o) (having ss)) (registers_part F (s ∷ rest)) (on (after_sources o) (having (ss ++ (s ∷ rest))))
      unfolding next_move
      some_sources o ss s [] (every_cons h hs) = source_read 0 o ss s h
      some_sources o ss s (u ∷ rest) (every_cons h hs) =
          let later : Takes (on (Stage.source (length rest) o) (having (ss ++ (s ∷ [])))) (registers_part F (u ∷ rest)) (on (after_sources o) (having (ss ++ (s ∷ []) ++ (u ∷ rest)))) =
          some_sources o (ss ++ (s ∷ [])) u rest hs in
          then _ (on (Stage.source_comma (length rest) o) (having (ss ++ (s ∷ [])))) _ _ _ (source_read (suc (length rest)) o ss s h)
          (pass_then (on (Stage.source_comma (length rest) o) (having (ss ++ (s ∷ [])))) (Stage.source (length rest) o) _ _ _ refl
          (rw append_assoc at later))

      all_sources :
          (o : Operand) (ss : List ℕ)
          → Every (λ u. u < length F.registers) ss
          → Takes (on (sources (length ss) o) (having [])) (registers_part F ss) (on (after_sources o) (having ss))
      all_sources o [] h = nothing (on (after_sources o) (having []))
      all_sources o (s ∷ ss) h = some_sources o [] s ss h

    -- ---- operands

    paren : (o : Bracketed) (x : Parts) → Takes (on (Stage.operand o) x) (Token.mark left_paren ∷ []) (on (in_operand o) x)
    unfolding next_move
    paren o x = passes (on (Stage.operand o) x) (in_operand o) (Token.mark left_paren) refl

    number_read :
        (op t n : ℕ)
        → n < 2 ^ width (load_type op)
        → Takes (on (Stage.operand Bracketed.number) (parts_of op t [] 0 [] [])) (in_parens (number_token (load_type op) n ∷ [])) (on Stage.instruction_end (parts_of op t [] n [] []))
    unfolding next_move perform_act set_number
    number_read op t n h =
        let m = meant (load_type op) n h in
        then _ (on Stage.number (parts_of op t [] 0 [] [])) _ _ _ (paren Bracketed.number (parts_of op t [] 0 [] []))
        (then _ (on Stage.operand_end (parts_of op t [] n [] [])) _ _ _
        (step (on Stage.number (parts_of op t [] 0 [] [])) (on Stage.operand_end (parts_of op t [] n [] [])) (number_token (load_type op) n) (Act.set_number m.negative m.magnitude)
        (ap (next_move Stage.number) m.spelled) (rw (m.fits, m.worth)))
        (passes (on Stage.operand_end (parts_of op t [] n [] [])) Stage.instruction_end (Token.mark right_paren) refl))

    module _ (op t : ℕ) where
      abbrev listing : List ℕ → Parts
      listing es = parts_of op t [] 0 es []

      entry_read :
          (es : List ℕ) (e : ℕ)
          → entry_total (rows_in bs ++ rows) + length es < max_entries
          → e < length F.registers
          → Takes (on Stage.entry (listing es)) (register_token F e ∷ []) (on Stage.entry_end (listing (es ++ (e ∷ []))))
      unfolding next_move perform_act add_entry
      entry_read es e room h =
          step (on Stage.entry (listing es)) (on Stage.entry_end (listing (es ++ (e ∷ [])))) (register_token F e) (Act.add_entry (get_or F.registers e no_register).name) refl
          (rw (entries_now Stage.entry (listing es), lt-ltb (entry_total (rows_in bs ++ rows) + length es) max_entries room, found e h, lt-ltb e (length F.registers) h))

      some_entries :
          (es : List ℕ) (e : ℕ) (rest : List ℕ)
          → entry_total (rows_in bs ++ rows) + (length es + suc (length rest)) ≤ max_entries
          → Every (λ u. u < length F.registers) (e ∷ rest)
          → Takes (on Stage.entry (listing es)) (registers_part F (e ∷ rest)) (on Stage.entry_end (listing (es ++ (e ∷ rest))))
      unfolding next_move
      some_entries es e [] room (every_cons h hs) = entry_read es e (omega arith) h
      some_entries es e (u ∷ rest) room (every_cons h hs) =
          let fits : entry_total (rows_in bs ++ rows) + (length (es ++ (e ∷ [])) + suc (length rest)) ≤ max_entries =
          simp length-append (omega arith) in
          let later : Takes (on Stage.entry (listing (es ++ (e ∷ [])))) (registers_part F (u ∷ rest)) (on Stage.entry_end (listing (es ++ (e ∷ []) ++ (u ∷ rest)))) =
          some_entries (es ++ (e ∷ [])) u rest fits hs in
          then _ (on Stage.entry_end (listing (es ++ (e ∷ [])))) _ _ _ (entry_read es e (omega arith) h)
          (pass_then (on Stage.entry_end (listing (es ++ (e ∷ [])))) Stage.entry _ _ _ refl
          (rw append_assoc at later))

      entries_read :
          (es : List ℕ)
          → 0 < length es
          → entry_total (rows_in bs ++ rows) + length es ≤ max_entries
          → Every (λ u. u < length F.registers) es
          → Takes (on (Stage.operand Bracketed.registers) (listing [])) (in_parens (registers_part F es)) (on Stage.instruction_end (listing es))
      unfolding next_move
      entries_read [] some room h = absurd (omega arith)
      entries_read (e ∷ es) some room h =
          then _ (on Stage.entry (listing [])) _ _ _ (paren Bracketed.registers (listing []))
          (after (registers_part F (e ∷ es)) _ _ _ _ (some_entries [] e es (omega arith) h)
          (passes (on Stage.entry_end (listing (e ∷ es))) Stage.instruction_end (Token.mark right_paren) refl))

  -- ---- mentions

  block_word : (k : ℕ) (n : List ℕ) → next_move (Stage.mention k) (block_token n) ≡ to (after_mention k) (Act.add_mention n)
  unfolding next_move
  block_word k [] = refl
  block_word k (b ∷ n) = refl

  module _ (bs : List OpenBlock) (nm : List ℕ) (rows : List OpenRow) where
    mention_read :
        (op : ℕ) (ss : List ℕ) (ms : List Mention) (k : ℕ) (n : List ℕ)
        → Takes (rowing (Stage.mention k) bs nm rows (parts_of op 0 ss 0 [] ms)) (block_token n ∷ [])
        (rowing (after_mention k) bs nm rows (parts_of op 0 ss 0 [] (ms ++ (record { name = n; place = nowhere } ∷ []))))
    unfolding perform_act add_mention
    mention_read op ss ms k n =
        step (rowing (Stage.mention k) bs nm rows (parts_of op 0 ss 0 [] ms)) (rowing (after_mention k) bs nm rows (parts_of op 0 ss 0 [] (ms ++ (record { name = n; place = nowhere } ∷ []))))
        (block_token n) (Act.add_mention n) (block_word k n) refl

    -- ---- the end of the instruction

    end_read :
        (x : Parts)
        → Takes (rowing Stage.instruction_end bs nm rows x) (Token.mark semicolon ∷ []) (rowing Stage.next_instruction bs nm (rows ++ (row_of x ∷ [])) no_parts)
    unfolding next_move perform_act end_instruction
    end_read x =
        step (rowing Stage.instruction_end bs nm rows x) (rowing Stage.next_instruction bs nm (rows ++ (row_of x ∷ [])) no_parts) (Token.mark semicolon) Act.end_instruction refl refl

  -- ---- any row

  module _
      (bs : List OpenBlock) (nm : List ℕ) (rows : List OpenRow) (s : Stage) (starts : Starts s) (x : Parts)
      (room : length (rows_in bs) + length rows < max_rows) (r : Row) (k : RowReady F r) where
    abbrev ended : State
    ended = rowing Stage.next_instruction bs nm (rows ++ (drafted F r ∷ [])) no_parts

    -- Its operand is read: y is what the instruction is made of then.
    record Operated (t : ℕ) (y : Parts) : Type 0 where
      counted : source_count (form_in r) ≡ length (sources_of r)
      word : y.op ≡ op_of r
      whole : row_as (form_in r) y ≡ drafted F r
      operand :
          Takes (rowing (after_sources (operand_of (form_in r))) bs nm rows (parts_of (op_of r) t (sources_of r) 0 [] [])) (operand_part F r)
          (rowing Stage.instruction_end bs nm rows y)

    -- from the word on
    rest_read :
        (t : ℕ) (y : Parts)
        → Operated t y
        → Takes (rowing (after_word (op_of r)) bs nm rows (parts_of (op_of r) t [] 0 [] []))
        (registers_part F (sources_of r) ++ (operand_part F r ++ (Token.mark semicolon ∷ []))) ended
    unfolding after_word row_of
    rest_read t y o =
        let word : after_word (op_of r) ≡ sources (length (sources_of r)) (operand_of (form_in r)) =
        ap (λ (g : Form). sources (source_count g) (operand_of g)) k.form ∙ ap (λ (n : ℕ). sources n (operand_of (form_in r))) o.counted in
        let whole : row_of y ≡ drafted F r =
        ap (λ (n : ℕ). row_as (form_of n) y) o.word ∙ ap (λ (g : Form). row_as g y) k.form ∙ o.whole in
        rw (word, ← whole)
        (after (registers_part F (sources_of r)) _ _ _ _ (all_sources bs nm rows (op_of r) t 0 [] [] (operand_of (form_in r)) (sources_of r) k.sources)
        (after (operand_part F r) _ _ _ _ o.operand (end_read bs nm rows y)))

    -- a row without a target, and one with target t
    plain_read :
        (y : Parts)
        → has_target (form_in r) ≡ false
        → Operated 0 y
        → Takes (rowing s bs nm rows x) (op_token (op_of r) ∷ (registers_part F (sources_of r) ++ (operand_part F r ++ (Token.mark semicolon ∷ [])))) ended
    plain_read y e o =
        then _ (rowing (after_word (op_of r)) bs nm rows (parts_of (op_of r) 0 [] 0 [] [])) _ _ _
        (word_alone_law bs nm rows room (op_of r) k.op s x starts.words (ap has_target k.form ∙ e))
        (rest_read 0 y o)

    target_read :
        (t : ℕ) (y : Parts)
        → t < length F.registers
        → has_target (form_in r) ≡ true
        → Operated t y
        → Takes (rowing s bs nm rows x)
        (register_token F t ∷ Token.mark equals ∷ op_token (op_of r) ∷ (registers_part F (sources_of r) ++ (operand_part F r ++ (Token.mark semicolon ∷ [])))) ended
    target_read t y l e o =
        after (register_token F t ∷ Token.mark equals ∷ op_token (op_of r) ∷ []) _ _ (rowing (after_word (op_of r)) bs nm rows (parts_of (op_of r) t [] 0 [] [])) _
        (word_after bs nm rows room (op_of r) k.op s x t l starts.names (ap has_target k.form ∙ e))
        (rest_read t y o)

  module _
      (bs : List OpenBlock) (nm : List ℕ) (rows : List OpenRow) (s : Stage) (starts : Starts s) (x : Parts)
      (room : length (rows_in bs) + length rows < max_rows) where
    abbrev pub Read : Row → Type 0
    Read r =
        Takes (rowing s bs nm rows x) (row_line F r)
        (rowing Stage.next_instruction bs nm (rows ++ (drafted F r ∷ [])) no_parts)

    abbrev having_read : Stage → Parts → State
    having_read s y = rowing s bs nm rows y

    no_operand : (y : Parts) → Takes (having_read Stage.instruction_end y) [] (having_read Stage.instruction_end y)
    no_operand y = nothing (having_read Stage.instruction_end y)

    -- the one block of a jump, the two of a jump.cond
    block_read :
        (b : ℕ)
        → Takes (having_read (Stage.operand Bracketed.block) (parts_of jump_op 0 [] 0 [] [])) (in_parens (block_token (block_at F b).name ∷ []))
        (having_read Stage.instruction_end (parts_of jump_op 0 [] 0 [] (aim F b ∷ [])))
    unfolding next_move
    block_read b =
        let read = having_read Stage.operand_end (parts_of jump_op 0 [] 0 [] (aim F b ∷ [])) in
        pass_then (having_read (Stage.operand Bracketed.block) (parts_of jump_op 0 [] 0 [] [])) (Stage.mention 0) _ _ _ refl
        (then _ read _ _ _ (mention_read bs nm rows 32 [] [] 0 (block_at F b).name)
        (passes read Stage.instruction_end (Token.mark right_paren) refl))

    blocks_read :
        (u b c : ℕ)
        → Takes (having_read (Stage.operand Bracketed.blocks) (parts_of jump_cond_op 0 (u ∷ []) 0 [] []))
        (in_parens (block_token (block_at F b).name ∷ Token.mark comma ∷ block_token (block_at F c).name ∷ []))
        (having_read Stage.instruction_end (parts_of jump_cond_op 0 (u ∷ []) 0 [] (aim F b ∷ aim F c ∷ [])))
    unfolding next_move
    blocks_read u b c =
        let first = having_read (Stage.mention_comma 0) (parts_of jump_cond_op 0 (u ∷ []) 0 [] (aim F b ∷ [])) in
        let second = having_read Stage.operand_end (parts_of jump_cond_op 0 (u ∷ []) 0 [] (aim F b ∷ aim F c ∷ [])) in
        pass_then (having_read (Stage.operand Bracketed.blocks) (parts_of jump_cond_op 0 (u ∷ []) 0 [] [])) (Stage.mention 1) _ _ _ refl
        (then _ first _ _ _ (mention_read bs nm rows 33 (u ∷ []) [] 1 (block_at F b).name)
        (pass_then first (Stage.mention 0) _ _ _ refl
        (then _ second _ _ _ (mention_read bs nm rows 33 (u ∷ []) (aim F b ∷ []) 0 (block_at F c).name)
        (passes second Stage.instruction_end (Token.mark right_paren) refl))))

    pub row_read :
        (r : Row)
        → RowReady F r
        → entry_total (rows_in bs ++ rows) + length (entries_of r) ≤ max_entries
        → Read r
    unfolding row_line
    row_read Row.nop k fits =
        let y = parts_of 0 0 [] 0 [] [] in
        plain_read bs nm rows s starts x room Row.nop k y refl (record { counted = refl; word = refl; whole = refl; operand = no_operand y })
    row_read (Row.load op t n) k fits =
        let read = number_read bs nm rows op t n (ltb→lt n (2 ^ width (load_type op)) k.number) in
        target_read bs nm rows s starts x room (Row.load op t n) k t (parts_of op t [] n [] []) (first k.targets) refl
        (record { counted = refl; word = refl; whole = refl; operand = read })
    row_read (Row.unary op t u) k fits =
        let y = parts_of op t (u ∷ []) 0 [] [] in
        target_read bs nm rows s starts x room (Row.unary op t u) k t y (first k.targets) refl
        (record { counted = refl; word = refl; whole = refl; operand = no_operand y })
    row_read (Row.binary op t l u) k fits =
        let y = parts_of op t (l ∷ u ∷ []) 0 [] [] in
        target_read bs nm rows s starts x room (Row.binary op t l u) k t y (first k.targets) refl
        (record { counted = refl; word = refl; whole = refl; operand = no_operand y })
    row_read (Row.phi t es) k fits =
        let read = entries_read bs nm rows 31 t es (k.some tt) fits k.entries in
        target_read bs nm rows s starts x room (Row.phi t es) k t (parts_of phi_op t [] 0 es []) (first k.targets) refl
        (record { counted = refl; word = refl; whole = refl; operand = read })
    row_read (Row.jump b) k fits =
        plain_read bs nm rows s starts x room (Row.jump b) k (parts_of jump_op 0 [] 0 [] (aim F b ∷ [])) refl
        (record { counted = refl; word = refl; whole = refl; operand = block_read b })
    row_read (Row.branch u y z) k fits =
        plain_read bs nm rows s starts x room (Row.branch u y z) k (parts_of jump_cond_op 0 (u ∷ []) 0 [] (aim F y ∷ aim F z ∷ [])) refl
        (record { counted = refl; word = refl; whole = refl; operand = blocks_read u y z })
    row_read (Row.return u) k fits =
        let y = parts_of return_op 0 (u ∷ []) 0 [] [] in
        plain_read bs nm rows s starts x room (Row.return u) k y refl (record { counted = refl; word = refl; whole = refl; operand = no_operand y })
    row_read Row.leave k fits =
        let y = parts_of leave_op 0 [] 0 [] [] in
        plain_read bs nm rows s starts x room Row.leave k y refl (record { counted = refl; word = refl; whole = refl; operand = no_operand y })
    row_read (Row.unknown op) k fits = absurd (omega (arith, unknown_from op k.form, k.op))
