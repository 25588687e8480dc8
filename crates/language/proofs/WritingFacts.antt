-- A function with every form of row and with names to be made, as text, and what buffers of several lengths get: by computation, what a must-fail
-- edit of these definitions runs into.
-- Assumes nothing.
use mathlib.Core.Bool.{true}
use mathlib.Core.List.{List, [], ◌∷◌}
use mathlib.Core.Path.{◌≡◌, refl}
use Prim.Native.Nat.{ℕ}
use Rattle.language.specs.Bytes.{bytes_of, class_of}
use Rattle.language.specs.Words.{words, word_of}
use Rattle.language.specs.Names.{plain_name, escaped, spelling}
use Rattle.language.specs.Instructions.{width, signed, load_type}
use Rattle.language.specs.Arithmetic.{meaning}
use Rattle.language.specs.Programs.{Row, Register, Block, Func, rows_of}
use Rattle.language.specs.Listing.{digits, line, function_line, listing_of}
use Rattle.language.specs.Writing.{bytes_for, number_token, row_line, block_lines, head_line, function_lines, lines_of, text_of}
use Rattle.language.specs.MadeNames.{next_free, register_names, block_names, named_function, named, written}
use Rattle.language.specs.Answers.{Wrote, zeros, refused_text, show}

abbrev register : (type : ℕ) (name : List ℕ) → Register
register t n = record { type = t; name = n }

abbrev block : (name : List ℕ) (rows : List Row) → Block
block n rs = record { name = n; rows = rs }

-- Registers 0 and 3 and blocks 2 and 3 have no name; `p.1` and `e.0` are in use, `p.00` is another name. The function's name wants quotes.
abbrev unnamed : Func
unnamed =
    record {
      name = bytes_of "it's";
      ssa = 1;
      result = 9;
      params = 2;
      registers = register 0 [] ∷ register 0 (bytes_of "p.1") ∷ register 9 (bytes_of "p.00") ∷ register 9 [] ∷ [];
      blocks =
          block [] (Row.nop ∷ Row.load 1 0 128 ∷ Row.load 2 1 128 ∷ Row.unary 14 0 1 ∷ Row.binary 10 0 0 1 ∷ Row.branch 2 1 2 ∷ [])
          ∷ block (bytes_of "e.0") (Row.phi 0 (0 ∷ 1 ∷ []) ∷ Row.phi 3 [] ∷ Row.jump 3 ∷ [])
          ∷ block [] (Row.return 3 ∷ [])
          ∷ block [] (Row.leave ∷ [])
          ∷ [];
      entry = 0;
      placed = true;
    }

unnamed_written :
    written (unnamed ∷ [])
    ≡ bytes_of "function ssa uint 'it\\'s' ( int8 p.0 , int8 p.1 ) {\nregister uint p.00 ;\nregister uint p.2 ;\nblock entry {\nnop ;\np.0 = load.i8 ( -128 ) ;\np.1 = load.ui8 ( 128 ) ;\np.0 = ari.neg p.1 ;\np.0 = ari.sub p.0 , p.1 ;\njump.cond p.00 ( e.0 , e.1 ) ;\n}\nblock e.0 {\np.0 = phi ( p.0 , p.1 ) ;\np.2 = phi ( ) ;\njump ( e.2 ) ;\n}\nblock e.1 {\nreturn p.2 ;\n}\nblock e.2 {\nleave ;\n}\n}\n"
unfolding words word_of class_of spelling plain_name escaped width signed load_type meaning digits bytes_for number_token row_line block_lines head_line function_lines lines_of text_of next_free register_names block_names named_function named written
unnamed_written = refl

unnamed_listed : listing_of (unnamed ∷ []) ≡ bytes_of "'it\\'s'\t1\t4\t4\t11\n"
unfolding words word_of class_of spelling plain_name escaped digits rows_of line function_line listing_of
unnamed_listed = refl

-- No functions: a text of no bytes.
nothing_written : written [] ≡ []
unfolding lines_of text_of named written
nothing_written = refl

-- A buffer that is longer, just long enough, and one byte short.
shows :
    show 4 (bytes_of "ab\n") ∷ show 3 (bytes_of "ab\n") ∷ show 2 (bytes_of "ab\n") ∷ []
    ≡ record { answer = Wrote.wrote 3; buffer = 97 ∷ 98 ∷ 10 ∷ 0 ∷ [] }
    ∷ record { answer = Wrote.wrote 3; buffer = 97 ∷ 98 ∷ 10 ∷ [] }
    ∷ record { answer = Wrote.refused 32 0; buffer = 0 ∷ 0 ∷ [] }
    ∷ []
unfolding show refused_text zeros
shows = refl
