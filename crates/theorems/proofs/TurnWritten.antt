-- The translated `turn` as the client sees it, by computation: its edge blocks and their registers have made names. And the round trip speaks of
-- something: its text is written, read back, and runs as demand 3 says.
-- Assumes nothing.
use mathlib.Core.List.{List, [], ◌∷◌}
use mathlib.Core.Path.{◌≡◌, refl, sym, ◌∙◌, ap}
use Prim.Native.Nat.{ℕ}
use native.Mathlib.Omega.{arith}
use lib.ListN.{length, get_or}
use Rattle.language.specs.Words.{words}
use Rattle.language.specs.Programs.{Func, Program, no_function}
use Rattle.language.specs.Table.{table_length, cells, decode}
use Rattle.language.specs.Translating.{translation}
use Rattle.language.specs.Listing.{digits}
use Rattle.language.specs.Writing.{bytes_for, number_token, row_line, block_lines, head_line, function_lines, lines_of, text_of}
use Rattle.language.specs.MadeNames.{next_free, register_names, block_names, named_function, named, written}
use Rattle.language.specs.Answers.{Wrote, read_answer, translate_answer, write_answer}
use Rattle.language.proofs.Computing.{computing}
use Rattle.language.proofs.ReadingFacts.{turn, lines}
use Rattle.language.proofs.WholeFunction.{turn_accepted}
use Rattle.theorems.specs.OverTables.{function_in_table, Translated}
use Rattle.theorems.specs.RoundTrip.{text_in, TranslatedAsText}
use Rattle.theorems.proofs.TableSound.{accepted_held}
use Rattle.theorems.proofs.OverTables.{demand3_over_tables}
use Rattle.theorems.proofs.Turn.{turn_translatable}
use Rattle.theorems.proofs.RoundTrip.{written_exactly}
use Rattle.theorems.proofs.RoundTripTranslation.{demand3_as_text}

unfoldable pub turned_text : List ℕ
turned_text =
    lines
    ("function uint64 turn ( uint64 a , uint64 b , uint8 n ) {"
    ∷ "register uint64 x ;"
    ∷ "register uint64 y ;"
    ∷ "register uint8 k ;"
    ∷ "register uint8 one ;"
    ∷ "register uint8 z ;"
    ∷ "register uint8 m ;"
    ∷ "register uint c ;"
    ∷ "register uint64 p.0 ;"
    ∷ "register uint64 p.1 ;"
    ∷ "register uint8 p.2 ;"
    ∷ "block entry {"
    ∷ "one = load.ui8 ( 1 ) ;"
    ∷ "z = load.ui8 ( 0 ) ;"
    ∷ "jump ( e.0 ) ;"
    ∷ "}"
    ∷ "block head {"
    ∷ "c = cmp.eq k , z ;"
    ∷ "jump.cond c ( out , body ) ;"
    ∷ "}"
    ∷ "block body {"
    ∷ "m = ari.sub k , one ;"
    ∷ "jump ( e.1 ) ;"
    ∷ "}"
    ∷ "block out {"
    ∷ "return x ;"
    ∷ "}"
    ∷ "block e.0 {"
    ∷ "p.0 = copy a ;"
    ∷ "p.1 = copy b ;"
    ∷ "p.2 = copy n ;"
    ∷ "x = copy p.0 ;"
    ∷ "y = copy p.1 ;"
    ∷ "k = copy p.2 ;"
    ∷ "jump ( head ) ;"
    ∷ "}"
    ∷ "block e.1 {"
    ∷ "p.0 = copy y ;"
    ∷ "p.1 = copy x ;"
    ∷ "p.2 = copy m ;"
    ∷ "x = copy p.0 ;"
    ∷ "y = copy p.1 ;"
    ∷ "k = copy p.2 ;"
    ∷ "jump ( head ) ;"
    ∷ "}"
    ∷ "}"
    ∷ [])

pub turned_written : written (translation turn ∷ []) ≡ turned_text
unfolding computing turn turned_text bytes_for number_token row_line block_lines head_line function_lines lines_of text_of next_free register_names block_names named_function named written digits words
turned_written = refl

turned_length : length turned_text ≡ 715
unfolding turned_text
turned_length = refl

-- ---- of its table

abbrev source : List ℕ
source = cells (turn ∷ [])

abbrev turned : List ℕ
turned = (translate_answer source 0 table_length).table

translated : Translated source 0 (translate_answer source 0 table_length)
translated = demand3_over_tables source 0 turn_translatable

turned_holds : decode turned ≡ translation turn ∷ []
turned_holds =
    let own : function_in_table source 0 ≡ turn = ap (λ (p : Program). get_or p 0 no_function) (accepted_held (turn ∷ []) turn_accepted).back in
    translated.holds ∙ ap (λ (g : Func). g ∷ []) (translated.translates.defined ∙ ap translation own)

-- "The answer is the text's length": a buffer of these bytes suffices.
pub turn_shown : (write_answer turned 715).answer ≡ Wrote.wrote 715
turn_shown =
    (written_exactly turned 715 715).1
    (record {
      passes = translated.passes;
      count = sym (ap (λ (p : Program). length (written p)) turned_holds ∙ ap length turned_written ∙ turned_length);
      within = omega arith;
      room = omega arith;
    })

-- What the client has read back runs as the source does.
pub turn_read_back : TranslatedAsText source 0 turned (read_answer (text_in (write_answer turned 715) 715) table_length).table
turn_read_back = (demand3_as_text source 0 715 715 turn_translatable turn_shown).1
