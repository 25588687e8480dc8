-- What is claimed of the answers 5 and 3 of reading, of every text: in which case they are given, and where (document 01,
-- "Numbers we answer").
-- Assumes nothing.
use mathlib.Core.List.{List, [], ◌∷◌, ◌++◌, foldl}
use Rattle.std.specs.Prelude.{◌≡◌, ◌↔◌, ℕ, ◌≤◌, length}
use Rattle.language.specs.Programs.{max_text, max_functions, max_registers, max_blocks, max_rows, max_entries}
use Rattle.language.specs.Tokens.{Token, TextPlace, Found, tokens_of}
use Rattle.language.specs.Grammar.{Stage, Act, next_move}
use Rattle.language.specs.Reading.{Draft, Parse, Reading, draft_rows, phi_entries, take_token, parse₀, read}

-- The reading of a text comes to the token t at p: the tokens before it are read, to a stage and a draft.
pub record Reaches (text : List ℕ) (p : TextPlace) (s : Stage) (d : Draft) (t : Token) : Type 0 where
  pub short : length text ≤ max_text
  pub before : List Found
  pub after : List Found
  pub found : tokens_of text ≡ before ++ (Found.token p t ∷ after)
  pub stands : foldl take_token parse₀ before ≡ Parse.reading s d

-- "the first token of the item beyond": what is done about the token begins an item (Grammar says at which tokens: a_function, a_parameter,
-- a_register_or_block, a_block, an_instruction and the stage `entry`), and there are as many of that item as its size allows.
pub data Beyond (d : Draft) : Act → Type 0 where
  function : length d.functions ≡ max_functions → Beyond d Act.begin_function
  -- at a parameter's type, or at `register`
  register : length d.function.registers ≡ max_registers → Beyond d Act.begin_register
  block : length d.blocks ≡ max_blocks → Beyond d Act.begin_block
  -- at an instruction's word, or at its target
  instruction : (op : ℕ) → draft_rows d ≡ max_rows → Beyond d (Act.begin_instruction op)
  target : (n : List ℕ) → draft_rows d ≡ max_rows → Beyond d (Act.set_target n)
  entry : (n : List ℕ) → phi_entries d ≡ max_entries → Beyond d (Act.add_entry n)

-- "5 | a size above exceeded | byte"; "The place of 5 is the first token of the item beyond."
unfoldable pub FiveBeyond : Type 0
FiveBeyond =
    (text : List ℕ) (p : TextPlace)
    → (read text ≡ Reading.refused 5 p) ↔ ((s : Stage) × (d : Draft) × (t : Token) × Reaches text p s d t × Beyond d (next_move s t).act)

-- These tokens lead the grammar from a stage to the end of a text: each of them is allowed where it comes, and the end comes
-- last, between functions.
pub data Leads : Stage → List Token → Type 0 where
  end : Leads Stage.top (Token.end ∷ [])
  token :
      {s : Stage} {t : Token} {ts : List Token}
      → ¬ (t ≡ Token.end) → ¬ ((next_move s t).act ≡ Act.wrong) → Leads (next_move s t).stage ts → Leads s (t ∷ ts)

-- No stage is a dead end: from each some tokens lead on.
unfoldable pub EveryStageLeads : Type 0
EveryStageLeads = (s : Stage) → (ts : List Token) × Leads s ts

-- "3 | token not allowed here, end included | byte": with this token, as the first, the text so far cannot be continued.
unfoldable pub ThreeStuck : Type 0
ThreeStuck =
    (text : List ℕ) (p : TextPlace)
    → (read text ≡ Reading.refused 3 p) ↔ ((s : Stage) × (d : Draft) × (t : Token) × Reaches text p s d t × ¬ ((ts : List Token) × Leads s (t ∷ ts)))
