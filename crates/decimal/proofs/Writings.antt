-- Bytes written one part after the other are written as one. Assumes nothing.
use mathlib.Core.List.{List, [], ◌∷◌, ◌++◌}
use mathlib.Core.Path.{◌≡◌, refl, sym, ap, ◌∙◌}
use Prim.Native.Nat.{ℕ, ◌+◌}
use native.Mathlib.Nat.{add_assoc, add-zero}
use lib.ListN.{length, set, length-append}
use lib.Seq.{sets, length-sets}
use Rattle.laws.proofs.Cells.{sets_append}
use Rattle.decimal.specs.Writing.{Written}

module _ {entry middle : List ℕ} {at end : ℕ} {xs : List ℕ} (w : Written entry at xs middle end) where
  pub written_then : {ys exit : List ℕ} {last : ℕ} → Written middle end ys exit last → Written entry at (xs ++ ys) exit last
  written_then {ys} v =
      record {
        bytes = v.bytes ∙ ap (λ (l : List ℕ). sets l end ys) w.bytes ∙ sets_append xs ys entry at w.next;
        next = v.next ∙ ap (λ (n : ℕ). n + length ys) w.next ∙ add_assoc at (length xs) (length ys) ∙ ap (λ (n : ℕ). at + n) (sym (length-append xs ys));
      }

  pub written_length : length middle ≡ length entry
  written_length = ap length w.bytes ∙ length-sets entry at xs

-- one byte
pub written_one : (entry : List ℕ) (at : ℕ) {b c : ℕ} → b ≡ c → Written entry at (c ∷ []) (set entry at b) (at + 1)
written_one entry at e = record { bytes = ap (set entry at) e; next = refl }

-- bytes that a store put down
pub written_bytes : {entry exit : List ℕ} (at : ℕ) (xs : List ℕ) → exit ≡ sets entry at xs → Written entry at xs exit (at + length xs)
written_bytes at xs e = record { bytes = e; next = refl }

-- nothing yet
pub written_none : (entry : List ℕ) (at : ℕ) → Written entry at [] entry at
written_none entry at = record { bytes = refl; next = sym (add-zero at) }
