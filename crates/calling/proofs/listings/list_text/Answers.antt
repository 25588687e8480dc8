-- `list_text`: the refusal of the text, or the lines of its program.
use mathlib.Core.Path.{sym, ◌∙◌}
use Prim.Native.Nat.{ℕ}
use native.Mathlib.Omega.{arith}
use lib.ListN.{length-replicate}
use Rattle.language.specs.Table.{table_length}
use Rattle.language.specs.Listing.{listing_of}
use Rattle.theorems.proofs.AcceptanceCheck.{accepted_program}
use Rattle.calling.proofs.AcceptingLaws.{printed_refused, printed_accepted, listing_line, refusal_listed}
use Rattle.calling.proofs.listings.list_text.Goals as goal

pub accept-requires : goal.accept-requires
accept-requires c = length-replicate {A = ℕ} table_length 0

pub slice_bounds-accept-end : goal.slice_bounds-accept-end
slice_bounds-accept-end c = sym (length-replicate {A = ℕ} table_length 0)

pub put_refusal-requires : goal.put_refusal-requires
put_refusal-requires c = refusal_listed c.requires

pub slice_bounds-list_program-end : goal.slice_bounds-list_program-end
slice_bounds-list_program-end c = sym c.t-2-1.given

pub list_program-requires : goal.list_program-requires
list_program-requires c =
    (c.t-2-1.given, accepted_program _ (c.accept.ensures.passes c.in-Ok.is), c.requires)

pub shape_of-out-in-Err : goal.shape_of-out-in-Err
shape_of-out-in-Err c = c.put_refusal.auto.out

pub returns-in-Err : goal.returns-in-Err
returns-in-Err c =
    (rw (listing_line c.args.text.now ∙ printed_refused listing_of c.accept.ensures c.in-Err.is) c.put_refusal.ensures.0, omega (arith, c.put_refusal.ensures.1))

pub shape_of-out-in-Ok : goal.shape_of-out-in-Ok
shape_of-out-in-Ok c = c.list_program.auto.out

pub returns-in-Ok : goal.returns-in-Ok
returns-in-Ok c =
    (rw (listing_line c.args.text.now ∙ printed_accepted listing_of c.accept.ensures c.in-Ok.is) c.list_program.ensures.0, c.list_program.ensures.1)
