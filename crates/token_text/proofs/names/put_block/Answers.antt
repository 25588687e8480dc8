-- `token_text::names::put_block`: a block without a name is entry, or has the made one.
use mathlib.Core.List.{List, [], ◌∷◌}
use mathlib.Core.Path.{sym, ap, ◌∙◌}
use Prim.Native.Nat.{ℕ}
use lib.ListN.{length}
use Rattle.language.specs.Tokens.{Token}
use Rattle.language.specs.Writing.{block_token}
use Rattle.language.proofs.MadeNamesLaws.{blocks, made_plain_name}
use Rattle.naming.specs.Numbered.{plain_flag}
use Rattle.page.specs.Page.{puts}
use Rattle.token_text.specs.Spaced.{spaced}
use Rattle.token_text.proofs.NamesLaws.{named_token, block_flag, block_given, block_entry, block_made}
use Rattle.token_text.proofs.names.put_block.Goals as goal

pub put_given-requires : goal.put_given-requires
put_given-requires c =
    let name = c.block_name-name.ensures in
    block_flag c.args.t.now c.args.a c.args.made.now c.args.b c.requires.blocks_numbered.1 c.requires.blocks_numbered.0 (λ e. c.if-name-ne0.true (ap length name ∙ e)) ∙ ap plain_flag (sym name)

pub returns-then-name-ne0 : goal.returns-then-name-ne0
returns-then-name-ne0 c =
    let name = c.block_name-name.ensures in
    c.put_given.ensures
    ∙ ap (puts _) (ap (λ (t : Token). spaced (t ∷ [])) (named_token c.block_name-name.result.now c.if-name-ne0.true))
    ∙ ap (puts _) (ap (λ (n : List ℕ). spaced (block_token n ∷ []))
    (name ∙ block_given c.args.t.now c.args.a c.args.made.now c.args.b c.requires.blocks_numbered.1 c.requires.blocks_numbered.0 (λ e. c.if-name-ne0.true (ap length name ∙ e))))

pub returns-then-b-function_entry : goal.returns-then-b-function_entry
returns-then-b-function_entry c =
    let name = c.block_name-name.ensures in
    c.put_word.ensures
    ∙ ap (puts _) (ap (λ (n : List ℕ). spaced (block_token n ∷ []))
    (block_entry c.args.t.now c.args.a c.args.made.now c.args.b c.requires.blocks_numbered.1 c.requires.blocks_numbered.0 (ap length (sym name) ∙ c.if-name-ne0.false) (c.if-b-function_entry.true ∙ c.function_entry.ensures.0)))

pub put_made-requires : goal.put_made-requires
put_made-requires c = made_plain_name blocks _

pub returns : goal.returns
returns c =
    let name = c.block_name-name.ensures in
    c.put_made.ensures
    ∙ ap (puts _) (ap (λ (n : List ℕ). spaced (block_token n ∷ []))
    (block_made c.args.t.now c.args.a c.args.made.now c.args.b c.requires.blocks_numbered.1 c.requires.blocks_numbered.0 (ap length (sym name) ∙ c.if-name-ne0.false) (λ e. c.if-b-function_entry.false (e ∙ sym c.function_entry.ensures.0))))
