-- `row_text::rows::put_target`: a register and the `=`, or nothing.
use mathlib.Core.List.{[], ◌∷◌}
use mathlib.Core.Path.{sym, ap, ◌∙◌}
use Rattle.language.specs.Bytes.{equals}
use Rattle.language.specs.Table.{row_target}
use Rattle.language.specs.Tokens.{Token}
use Rattle.language.specs.Writing.{bytes_for, register_token}
use Rattle.page.specs.Page.{puts}
use Rattle.token_text.specs.Spaced.{spaced}
use Rattle.token_text.proofs.Spelled.{puts_none, spaced_then}
use Rattle.row_text.specs.Ready.{titled}
use Rattle.row_text.proofs.Asked.{register_asked, row_asked}
use Rattle.row_text.proofs.Parts.{no_target, one_target}
use Rattle.row_text.proofs.rows.put_target.Goals as goal

pub returns-then-not-present : goal.returns-then-not-present
returns-then-not-present c =
    puts_none _ ∙ ap (puts _) (ap spaced (no_target c.args.t.now c.args.a c.args.r (sym c.requires.2 ∙ c.if-not-present.true)))

pub row_target-requires : goal.row_target-requires
row_target-requires c = row_asked c.requires.0 c.requires.1

pub put_register-e-requires : goal.put_register-e-requires
put_register-e-requires c =
    let e = sym c.requires.2 ∙ c.if-not-present.false in
    let both = register_asked c.requires.0 (row_target c.args.t.now c.args.a c.args.r) c.row_target.ensures.0 ((c.requires.0.rows c.args.r c.requires.1).target e) in record { in_table = both.0; registers_numbered = both.1 }

pub returns : goal.returns
unfolding bytes_for
returns c =
    let e = sym c.requires.2 ∙ c.if-not-present.false in
    let g = titled c.args.t.now c.args.a in
    spaced_then _ (register_token g c.row_target.result ∷ []) (Token.mark equals ∷ []) c.put_register-e.ensures c.put_part.ensures
    ∙ ap (puts _) (ap spaced (one_target c.args.t.now c.args.a c.args.r c.row_target.ensures.0 e))
