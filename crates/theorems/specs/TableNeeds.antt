-- Which cells of a table are needed (document 01, "cells not needed are 0 in an output and ignored in an input").
-- Assumes nothing.
use Rattle.std.specs.Prelude.{◌⊎◌, ◌≡◌, List, [], ◌∷◌, ℕ, suc, ◌+◌, ◌*◌, ◌<◌, T, length, get_or}
use Rattle.laws.specs.Lists.{member}
use Rattle.language.specs.Instructions.{Form, form_of}
use Rattle.language.specs.Programs.{Program}
use Rattle.language.specs.Table.{function_count, function_at, register_count, block_count, block_first, block_rows, row_count, row_op, phi_first, name_offset}
use Rattle.language.specs.Table.{phi_count, cells, decode}
use Rattle.language.specs.Table.{block_length, block_names_offset, blocks_offset, entries_offset, predecessors_offset, register_length, register_names_offset, registers_offset, row_length, rows_offset}
use Rattle.language.specs.Answers.{check_answer, signature_answer, run_answer, run_each_answer, translate_answer, write_answer}
use Rattle.theorems.specs.TableLaw.{Fits}

-- The needed ones of a row's cells, by its form.
abbrev pub used_cells : Form → List ℕ
used_cells Form.nop = 0 ∷ []
used_cells Form.load = 0 ∷ 1 ∷ 4 ∷ 5 ∷ 6 ∷ 7 ∷ 8 ∷ 9 ∷ 10 ∷ 11 ∷ []
used_cells Form.unary = 0 ∷ 1 ∷ 2 ∷ []
used_cells Form.binary = 0 ∷ 1 ∷ 2 ∷ 3 ∷ []
used_cells Form.phi = 0 ∷ 1 ∷ 4 ∷ 5 ∷ 6 ∷ 7 ∷ []
used_cells Form.jump = 0 ∷ 4 ∷ []
used_cells Form.branch = 0 ∷ 2 ∷ 4 ∷ 5 ∷ []
used_cells Form.return = 0 ∷ 2 ∷ []
used_cells Form.leave = 0 ∷ []
used_cells Form.unknown = 0 ∷ []

-- Row r of the function at cell a is needed: as one of the rows the counts give, or as one a block's stored first row gives.
-- Where the stored positions are right these are the same rows.
pub data NeededRow (t : List ℕ) (a r : ℕ) : Type 0 where
  counted : r < row_count t a → NeededRow t a r
  stored : (b j : ℕ) → b < block_count t a → j < block_rows t a b → r ≡ block_first t a b + j → NeededRow t a r

-- Cell k is needed by the function at cell a. A name is its length cell and as many bytes, a list of predecessors their count and as many numbers.
pub data NeededIn (t : List ℕ) (a k : ℕ) : Type 0 where
  head : (j : ℕ) → j < name_offset → k ≡ a + j → NeededIn t a k
  name : (j : ℕ) → j < suc (get_or t (a + name_offset) 0) → k ≡ a + name_offset + j → NeededIn t a k
  register_type : (r : ℕ) → r < register_count t a → k ≡ a + registers_offset + register_length * r → NeededIn t a k
  register_name :
      (r j : ℕ) → r < register_count t a → j < suc (get_or t (a + register_names_offset + register_length * r) 0)
      → k ≡ a + register_names_offset + register_length * r + j → NeededIn t a k
  block_place : (b j : ℕ) → b < block_count t a → j < 4 → k ≡ a + blocks_offset + block_length * b + j → NeededIn t a k
  block_name :
      (b j : ℕ) → b < block_count t a → j < suc (get_or t (a + block_names_offset + block_length * b) 0)
      → k ≡ a + block_names_offset + block_length * b + j → NeededIn t a k
  predecessor :
      (b j : ℕ) → b < block_count t a → j < suc (get_or t (a + predecessors_offset + block_length * b) 0)
      → k ≡ a + predecessors_offset + block_length * b + j → NeededIn t a k
  row : (r j : ℕ) → NeededRow t a r → T (member j (used_cells (form_of (row_op t a r)))) → k ≡ a + rows_offset + row_length * r + j → NeededIn t a k
  entry : (r j : ℕ) → NeededRow t a r → form_of (row_op t a r) ≡ Form.phi → j < phi_count t a r → k ≡ a + entries_offset + (phi_first t a r + j) → NeededIn t a k

pub data Needed (t : List ℕ) (k : ℕ) : Type 0 where
  count : k ≡ 0 → Needed t k
  function : (i : ℕ) → i < function_count t → NeededIn t (function_at i) k → Needed t k

-- Two tables of one length that agree on the needed cells.
pub record Agree (t u : List ℕ) : Type 0 where
  pub count : length t ≡ length u
  pub needed : (k : ℕ) → Needed t k → get_or t k 0 ≡ get_or u k 0

-- "ignored in an input": such tables hold the same program.
abbrev pub IgnoredLaw : Type 0
IgnoredLaw = (t u : List ℕ) → Agree t u → decode t ≡ decode u

-- They get the same answers, and leave the same cells in what was lent.
pub record SameAnswers (t u : List ℕ) : Type 0 where
  pub check : check_answer t ≡ check_answer u
  pub signature : (i result : ℕ) (types : List ℕ) → signature_answer t i result types ≡ signature_answer u i result types
  pub run : (i : ℕ) (args : List ℕ) (budget n : ℕ) → run_answer t i args budget n ≡ run_answer u i args budget n
  pub run_each : (i : ℕ) (args : List ℕ) (budget n m : ℕ) → run_each_answer t i args budget n m ≡ run_each_answer u i args budget n m
  pub translate : (i n : ℕ) → translate_answer t i n ≡ translate_answer u i n
  pub write : (n : ℕ) → write_answer t n ≡ write_answer u n

abbrev pub IgnoredInAnswers : Type 0
IgnoredInAnswers = (t u : List ℕ) → Agree t u → SameAnswers t u

-- "0 in an output": a cell that is written is 0 or needed.
abbrev pub ZeroLaw : Type 0
ZeroLaw = (p : Program) → Fits p → (k : ℕ) → (get_or (cells p) k 0 ≡ 0) ⊎ Needed (cells p) k
