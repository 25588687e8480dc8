-- `token_text::names::put_register`: a register without a name has the made one; the flag of a given one is prepared.
use mathlib.Core.List.{List, [], ◌∷◌}
use mathlib.Core.Path.{sym, ap, ◌∙◌}
use Prim.Native.Nat.{ℕ}
use lib.ListN.{length}
use Rattle.language.specs.Tokens.{Token}
use Rattle.language.proofs.MadeNamesLaws.{registers, made_plain_name}
use Rattle.naming.specs.Numbered.{plain_flag}
use Rattle.page.specs.Page.{puts}
use Rattle.token_text.specs.Spaced.{spaced}
use Rattle.token_text.proofs.NamesLaws.{register_made, register_flag, register_given}
use Rattle.token_text.proofs.names.put_register.Goals as goal

pub put_made-requires : goal.put_made-requires
put_made-requires c = made_plain_name registers _

pub returns-then-name-eq0 : goal.returns-then-name-eq0
returns-then-name-eq0 c =
    let name = c.register_name-name.ensures in
    c.put_made.ensures
    ∙ ap (puts _) (ap (λ (n : List ℕ). spaced (Token.name n ∷ []))
    (register_made c.args.t.now c.args.a c.args.made.now c.args.r c.requires.registers_numbered.1 c.requires.registers_numbered.0 (ap length (sym name) ∙ c.if-name-eq0.true)))

pub put_given-requires : goal.put_given-requires
put_given-requires c =
    let name = c.register_name-name.ensures in
    register_flag c.args.t.now c.args.a c.args.made.now c.args.r c.requires.registers_numbered.1 c.requires.registers_numbered.0 (λ e. c.if-name-eq0.false (ap length name ∙ e)) ∙ ap plain_flag (sym name)

pub returns : goal.returns
returns c =
    let name = c.register_name-name.ensures in
    c.put_given.ensures
    ∙ ap (puts _) (ap (λ (n : List ℕ). spaced (Token.name n ∷ []))
    (name ∙ register_given c.args.t.now c.args.a c.args.made.now c.args.r c.requires.registers_numbered.1 c.requires.registers_numbered.0 (λ e. c.if-name-eq0.false (ap length name ∙ e))))
