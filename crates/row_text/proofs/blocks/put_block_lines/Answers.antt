-- `row_text::blocks::put_block_lines`: the head, the rows, the `}`.
use mathlib.Core.List.{List, [], ◌∷◌, ◌++◌}
use mathlib.Core.Path.{refl, ap, ◌∙◌}
use Prim.Native.Nat.{ℕ}
use native.Mathlib.Omega.{arith}
use Rattle.laws.specs.Lists.{from, gather}
use Rattle.language.specs.Programs.{block_at}
use Rattle.language.specs.Table.{decode_row}
use Rattle.language.specs.Tokens.{Token}
use Rattle.language.specs.Words.{words, block_word}
use Rattle.language.specs.Writing.{bytes_for, line_bytes, block_token, row_line}
use Rattle.page.specs.Page.{puts}
use Rattle.token_text.specs.Spaced.{spaced}
use Rattle.token_text.proofs.Spelled.{puts_then, spaced_then}
use Rattle.row_text.specs.Ready.{titled}
use Rattle.row_text.proofs.Asked.{block_asked}
use Rattle.row_text.proofs.BlocksLaws.{rows_within, block_text}
use Rattle.row_text.proofs.blocks.put_block_lines.Goals as goal

pub put_block-f-requires : goal.put_block-f-requires
put_block-f-requires c = let both = block_asked c.requires.0 c.args.b refl c.requires.1 in record { in_table = both.0; blocks_numbered = both.1 }

pub block_first-requires : goal.block_first-requires
block_first-requires c = (c.requires.0.sized.within, omega (arith, c.requires.0.sized.blocks, c.requires.1))

pub block_rows-requires : goal.block_rows-requires
block_rows-requires c = (c.requires.0.sized.within, omega (arith, c.requires.0.sized.blocks, c.requires.1))

pub put_rows-h-requires : goal.put_rows-h-requires
put_rows-h-requires c =
    (c.requires.0, rows_within c.args.t.now c.args.a c.requires.0.sized c.args.b c.requires.1 c.block_first.ensures.0 c.block_rows.ensures.0)

pub returns : goal.returns
unfolding bytes_for words
returns c =
    let x = c.args in
    let g = titled x.t.now x.a in
    let head : List Token = Token.word block_word ∷ block_token (block_at g x.b).name ∷ [] in
    let rows : List ℕ = gather (λ r. line_bytes (row_line g (decode_row x.t.now x.a r))) (from c.block_first.result c.block_rows.result) in
    puts_then _ ((spaced head ++ (123 ∷ 10 ∷ [])) ++ rows) (125 ∷ 10 ∷ [])
    (puts_then _ (spaced head ++ (123 ∷ 10 ∷ [])) rows
    (puts_then _ (spaced head) (123 ∷ 10 ∷ [])
    (spaced_then _ (Token.word block_word ∷ []) (block_token (block_at g x.b).name ∷ []) c.put_word-e.ensures c.put_block-f.ensures)
    c.put_part-g.ensures)
    c.put_rows-h.ensures)
    c.put_part.ensures
    ∙ ap (puts _) (block_text x.t.now x.a x.b c.requires.1 c.block_first.ensures.0 c.block_rows.ensures.0)
