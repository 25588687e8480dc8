-- `row_text::rows::put_sources`: none, one, or two and the comma between.
use mathlib.Core.List.{[], ◌∷◌}
use mathlib.Core.Path.{ap, ◌∙◌}
use native.Mathlib.Omega.{arith}
use Rattle.language.specs.Bytes.{comma}
use Rattle.language.specs.Table.{row_left, row_right}
use Rattle.language.specs.Tokens.{Token}
use Rattle.language.specs.Writing.{bytes_for, register_token}
use Rattle.page.specs.Page.{puts}
use Rattle.token_text.specs.Spaced.{spaced}
use Rattle.token_text.proofs.Spelled.{puts_none, spaced_then}
use Rattle.row_text.specs.Ready.{titled}
use Rattle.row_text.proofs.Asked.{register_asked, row_asked}
use Rattle.row_text.proofs.Parts.{no_sources, one_source, two_sources}
use Rattle.row_text.proofs.rows.put_sources.Goals as goal

pub returns-then-count-eq0 : goal.returns-then-count-eq0
returns-then-count-eq0 c =
    puts_none _ ∙ ap (puts _) (ap spaced (no_sources c.args.t.now c.args.a c.args.r c.args.count c.requires.2 c.if-count-eq0.true))

pub row_left-left-requires : goal.row_left-left-requires
row_left-left-requires c = row_asked c.requires.0 c.requires.1

pub row_right-right-requires : goal.row_right-right-requires
row_right-right-requires c = row_asked c.requires.0 c.requires.1

pub put_register-e-requires : goal.put_register-e-requires
put_register-e-requires c =
    let n = c.requires.2 in
    let some = c.if-count-eq0.false in
    let both = register_asked c.requires.0 (row_left c.args.t.now c.args.a c.args.r) c.row_left-left.ensures.0
    ((c.requires.0.rows c.args.r c.requires.1).left (omega arith)) in record { in_table = both.0; registers_numbered = both.1 }

pub returns-then-count-eq1 : goal.returns-then-count-eq1
returns-then-count-eq1 c =
    c.put_register-e.ensures
    ∙ ap (puts _) (ap spaced (one_source c.args.t.now c.args.a c.args.r c.args.count c.requires.2 c.row_left-left.ensures.0 c.if-count-eq1.true))

pub put_register-requires : goal.put_register-requires
put_register-requires c =
    let n = c.requires.2 in
    let some = c.if-count-eq0.false in
    let more = c.if-count-eq1.false in
    let both = register_asked c.requires.0 (row_right c.args.t.now c.args.a c.args.r) c.row_right-right.ensures.0
    ((c.requires.0.rows c.args.r c.requires.1).right (omega arith)) in record { in_table = both.0; registers_numbered = both.1 }

pub returns : goal.returns
unfolding bytes_for
returns c =
    let g = titled c.args.t.now c.args.a in
    spaced_then _ (register_token g c.row_left-left.result ∷ Token.mark comma ∷ []) (register_token g c.row_right-right.result ∷ [])
    (spaced_then _ (register_token g c.row_left-left.result ∷ []) (Token.mark comma ∷ []) c.put_register-e.ensures c.put_part-f.ensures)
    c.put_register.ensures
    ∙ ap (puts _) (ap spaced (two_sources c.args.t.now c.args.a c.args.r c.args.count c.requires.2 c.row_left-left.ensures.0 c.row_right-right.ensures.0 c.if-count-eq0.false c.if-count-eq1.false))
