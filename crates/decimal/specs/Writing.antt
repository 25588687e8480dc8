-- Bytes written into a lent buffer. Assumes nothing.
use Rattle.std.specs.Prelude.{List, ◌≡◌, ℕ, ◌+◌, length}
use Rattle.std.proofs.lemmas.List.Edits.{sets}

-- xs stand from place `at` on, `end` is the place after them, and every other byte is as it was
pub record Written (entry : List ℕ) (at : ℕ) (xs exit : List ℕ) (end : ℕ) : Type 0 where
  pub bytes : exit ≡ sets entry at xs
  pub next : end ≡ at + length xs
