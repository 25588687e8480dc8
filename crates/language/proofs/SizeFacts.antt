-- Facts of sizes, by computation: one short of each size of document 01 one more item reads, the item beyond is 5 at its first
-- token, and a token that may not stand there is 3. Assumes nothing.
use mathlib.Core.Bool.{Bool, true}
use mathlib.Core.List.{List, [], ◌∷◌, foldl}
use mathlib.Core.Path.{◌≡◌, refl}
use Prim.Native.Nat.{ℕ, ◌<◌}
use lib.ListN.{length, replicate}
use borrow.Author.Tests.{lt-ltb}
use Rattle.laws.specs.Lists.{all}
use Rattle.language.specs.Bytes.{bytes_of}
use Rattle.language.specs.Programs.{Row, Func, no_function, max_text}
use Rattle.language.specs.Tokens.{lexer₀}
use Rattle.language.specs.Grammar.{Stage}
use Rattle.language.specs.Reading.{OpenRow, OpenBlock, Head, Parts, Parse, Reader, Reading, parts_of, head_of, draft_of, no_open_block, no_parts, read, read_byte, read_end}
use Rattle.language.proofs.ReadingFacts.{reads, answer_to, agrees, Case, ◌refused◌at◌}

-- The texts have their answers if they follow what was read so far: these functions, and of the function in hand this head, these
-- closed blocks, this block and instruction in hand. Places count from there.
abbrev after : Stage → List Func → Head → List OpenBlock → OpenBlock → Parts → List Case → Bool
after s fs f bs b x cases =
    let r : Reader = record { lexer = lexer₀; parse = Parse.reading s (draft_of fs f bs b x) } in
    all (λ c. agrees (answer_to (read_end (foldl read_byte r c.text))) c.answer) cases

-- A function with so many registers of one name.
abbrev head : ℕ → Head
head k = head_of (bytes_of "f") 0 0 0 (replicate k (record { type = 0; name = bytes_of "a" }))

abbrev block : List OpenRow → OpenBlock
block rows = record { name = bytes_of "b"; rows = rows }

abbrev nop : OpenRow
nop = OpenRow.row Row.nop

-- A phi with so many entries.
abbrev phi : ℕ → OpenRow
phi k = OpenRow.row (Row.phi 0 (replicate k 0))

functions : after Stage.top (replicate 15 no_function) (head 0) [] no_open_block no_parts ("function void g(){block entry{leave;}}function" refused 5 at 38 ∷ "function void g(){block entry{leave;}}x" refused 3 at 38 ∷ []) ≡ true
unfolding reads
functions = refl

registers : after Stage.parameter [] (head 255) [] no_open_block no_parts ("int b,int" refused 5 at 6 ∷ "int b){register" refused 5 at 7 ∷ "int b){x" refused 3 at 7 ∷ []) ≡ true
unfolding reads
registers = refl

blocks : after Stage.blocks [] (head 0) (replicate 63 (block [])) no_open_block no_parts ("block c{nop;}block" refused 5 at 13 ∷ "block c{nop;}x" refused 3 at 13 ∷ []) ≡ true
unfolding reads
blocks = refl

-- rows count through the function
rows : after Stage.next_instruction [] (head 1) (block (replicate 1000 nop) ∷ []) (block (replicate 23 nop)) no_parts ("nop;nop" refused 5 at 4 ∷ "nop;a" refused 5 at 4 ∷ "nop;x" refused 5 at 4 ∷ "nop;ari.add" refused 3 at 4 ∷ "x" refused 7 at 0 ∷ []) ≡ true
unfolding reads
rows = refl

-- so do phi entries
entries : after Stage.entry [] (head 1) (block (phi 1000 ∷ []) ∷ []) (block (phi 20 ∷ [])) (parts_of 31 0 [] 0 (replicate 3 0) []) ("a,a" refused 5 at 2 ∷ "a,x" refused 5 at 2 ∷ "a,)" refused 3 at 2 ∷ "x" refused 7 at 0 ∷ []) ≡ true
unfolding reads
entries = refl

-- "1 | text too long | 0", of every text
pub text_too_long : (text : List ℕ) → max_text < length text → read text ≡ Reading.refused 1 0
unfolding read
text_too_long text h = rw (lt-ltb max_text (length text) h)
