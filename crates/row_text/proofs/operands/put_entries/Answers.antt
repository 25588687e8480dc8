-- `row_text::operands::put_entries`: the first entry, then the others.
use mathlib.Core.List.{List, [], ◌∷◌, map}
use mathlib.Core.Path.{sym, ap, ◌∙◌}
use Prim.Native.Nat.{ℕ, ◌+◌, ◌-◌, ◌<◌}
use native.Mathlib.Nat.{add-zero}
use native.Mathlib.Omega.{arith}
use Rattle.laws.specs.Lists.{from, gather}
use Rattle.language.specs.Bytes.{comma}
use Rattle.language.specs.Table.{register_count, phi_entry}
use Rattle.language.specs.Tokens.{Token}
use Rattle.language.specs.Writing.{register_token, registers_part}
use Rattle.page.specs.Page.{puts}
use Rattle.token_text.specs.Spaced.{spaced}
use Rattle.token_text.proofs.Spelled.{puts_none, spaced_then}
use Rattle.row_text.specs.Ready.{titled}
use Rattle.row_text.proofs.Asked.{register_asked, later_entries}
use Rattle.row_text.proofs.Parts.{entries_parted}
use Rattle.row_text.proofs.operands.put_entries.Goals as goal

pub returns-then-count-eq0 : goal.returns-then-count-eq0
returns-then-count-eq0 c =
    let x = c.args in
    puts_none _ ∙ ap (puts _) (ap (λ (n : ℕ). spaced (registers_part (titled x.t.now x.a) (map (phi_entry x.t.now x.a) (from x.first n)))) (sym c.if-count-eq0.true))

pub phi_entry-requires : goal.phi_entry-requires
phi_entry-requires c =
    (c.requires.0.sized.within, omega (arith, c.requires.1.within, c.if-count-eq0.false))

pub put_register-e-requires : goal.put_register-e-requires
put_register-e-requires c =
    let x = c.args in
    let some = c.if-count-eq0.false in
    let h : phi_entry x.t.now x.a (x.first + 0) < register_count x.t.now x.a = c.requires.1.registers 0 (omega arith) in
    let both = register_asked c.requires.0 (phi_entry x.t.now x.a x.first) c.phi_entry.ensures.0 (rw (add-zero x.first) at h) in record { in_table = both.0; registers_numbered = both.1 }

pub put_later_entries-requires : goal.put_later_entries-requires
put_later_entries-requires c =
    (c.requires.0, later_entries c.requires.1 c.if-count-eq0.false)

pub returns : goal.returns
returns c =
    let x = c.args in
    let some = c.if-count-eq0.false in
    let g = titled x.t.now x.a in
    let later : List Token = gather (λ k. Token.mark comma ∷ register_token g (phi_entry x.t.now x.a k) ∷ []) (from (x.first + 1) (x.count - 1)) in
    spaced_then _ (register_token g c.phi_entry.result ∷ []) later c.put_register-e.ensures c.put_later_entries.ensures
    ∙ ap (puts _) (ap spaced (entries_parted g (phi_entry x.t.now x.a) x.first x.count c.phi_entry.ensures.0 (omega arith)))
