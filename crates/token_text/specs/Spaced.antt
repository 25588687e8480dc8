-- Tokens as a line's bytes, with the space behind each: "one space between tokens" and the LF behind the last. Assumes nothing.
use Rattle.std.specs.Prelude.{List, [], ◌∷◌, ◌++◌, ℕ}
use Rattle.laws.specs.Lists.{gather}
use Rattle.language.specs.Tokens.{Token}
use Rattle.language.specs.Writing.{space_byte, bytes_for}

abbrev pub spaced : List Token → List ℕ
spaced ts = gather (λ t. bytes_for t ++ (space_byte ∷ [])) ts
