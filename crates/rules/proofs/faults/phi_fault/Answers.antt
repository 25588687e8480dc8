-- Its tests by cells are those of the language.
use lib.Dec.{eqb}
use Rattle.std.proofs.Common.{not, rules}
use Rattle.language.specs.Table.{register_type}
use Rattle.rules.specs.Cells.{unset}
use Rattle.rules.proofs.FormFaultLaws.{phi_found}
use Rattle.rules.proofs.faults.phi_fault.Goals as goal

pub returns : goal.returns
returns c =
    let fits = c.entries_pass-fits.ensures (λ u. eqb (register_type c.args.t.now c.args.a u) c.register_type-kind.result) (λ u b l e. search rules) in
    let set = c.entries_pass-assigned.ensures (λ u. not (unset c.args.t.now c.args.a c.args.m.now u)) (λ u b l e. search rules) in
    search phi_found
