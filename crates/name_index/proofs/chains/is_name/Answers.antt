-- `name_index::chains::is_name`: the same bytes have the same length and the same end, and the end of a short name has all of its bytes,
-- that of a longer one its last eight.
use mathlib.Core.List.{List}
use mathlib.Core.Path.{◌≡◌, sym, ap, ◌∙◌}
use mathlib.Core.Bool.{false}
use Prim.Native.Nat.{ℕ, ◌<◌}
use native.Mathlib.Omega.{arith}
use lib.ListN.{length}
use Rattle.laws.specs.Lists.{same}
use Rattle.laws.proofs.Positions.{same_is, same_not}
use Rattle.name_index.specs.Hashes.{end_of}
use Rattle.name_index.proofs.Ends.{end_eight, ends_same}
use Rattle.name_index.proofs.chains.is_name.Goals as goal

-- names told apart by any function of their bytes
apart : (f : List ℕ → ℕ) (a b : List ℕ) → (f a ≡ f b → ⊥) → false ≡ same a b
apart f a b h = sym (same_not a b (λ e. h (ap f e)))

pub returns-then-other-name : goal.returns-then-other-name
returns-then-other-name c = let args = c.args in apart length args.other.now args.name.now c.if-other-name.true

pub returns-then-end-x : goal.returns-then-end-x
returns-then-end-x c =
    apart end_of c.args.other.now c.args.name.now (λ e. c.if-end-x.true (c.end.ensures ∙ e ∙ sym c.requires))

pub returns-then-name-le8 : goal.returns-then-name-le8
returns-then-name-le8 c =
    let other = c.args.other.now in
    let name = c.args.name.now in
    let lengths : length other ≡ length name = c.if-other-name.false in
    let ends : end_of other ≡ end_of name = sym c.end.ensures ∙ c.if-end-x.false ∙ c.requires in
    sym
    (same_is other name
    (ends_same other name (λ k. (c.shared_slice_known-1.given k).fits) (λ k. (c.shared_slice_known-2-1.given k).fits) lengths
    (omega (arith, lengths, c.if-name-le8.true)) ends))

pub same_start-requires : goal.same_start-requires
same_start-requires c =
    let other = c.args.other.now in
    let name = c.args.name.now in
    let lengths : length other ≡ length name = c.if-other-name.false in
    let ends : end_of other ≡ end_of name = sym c.end.ensures ∙ c.if-end-x.false ∙ c.requires in
    let long : 8 < length name = omega (arith, c.if-name-le8.false) in
    record { a_len = (lengths, omega (arith, lengths, long)); a_value = sym (end_eight other (omega (arith, lengths, long))) ∙ ends ∙ end_eight name (omega (arith, long)) }
