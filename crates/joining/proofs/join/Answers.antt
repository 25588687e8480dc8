-- The joined bytes go over all of the store, or none do.
use mathlib.Core.Path.{◌∙◌, sym}
use Prim.Native.Nat.{ℕ}
use lib.ListN.{length-replicate}
use Rattle.laws.proofs.Cells.{sets_all}
use Rattle.language.proofs.TableLaws.{zeros_made}
use Rattle.joining.proofs.Ends.{kept_not, kept_all}
use Rattle.records.specs.Stores.{store_length}
use Rattle.joining.proofs.join.Goals as goal

pub join_into-requires : goal.join_into-requires
join_into-requires c = (c.requires.0, c.requires.1, zeros_made store_length)

pub returns-then-not-join_into : goal.returns-then-not-join_into
returns-then-not-join_into c =
    let args = c.args in
    kept_not args.s.now args.u.now c.join_into.ensures c.if-not-join_into.true

pub returns : goal.returns
returns c =
    let s = c.args.s.now in
    let whole = c.join_into.auto.out ∙ length-replicate {A = ℕ} store_length 0 ∙ sym c.requires.0 in
    kept_all s c.args.u.now c.join_into.ensures c.if-not-join_into.false (c.put_bytes.ensures ∙ sets_all s _ whole)
