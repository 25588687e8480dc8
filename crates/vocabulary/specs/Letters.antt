-- A word as the writer takes it. Assumes nothing.
use Rattle.std.specs.Prelude.{List, ◌++◌, ℕ, ◌-◌, length, take, replicate}
use Rattle.language.specs.Words.{spelling_of}
use Rattle.language.specs.Writing.{space_byte}
use Rattle.vocabulary.specs.Packed.{packed}

-- Word number w with spaces to ten bytes: no word has more than nine, so that one space at least follows,
unfoldable pub letters_of : ℕ → List ℕ
letters_of w = take 10 (spelling_of w ++ replicate 10 space_byte)

-- and how many of them are the word.
unfoldable pub letter_count : ℕ → ℕ
letter_count w = length (spelling_of w)

-- The spaces from byte `count` to the ninth, over the bytes after the first.
unfoldable pub spaces_behind : ℕ → ℕ
spaces_behind count = packed (replicate (count - 1) 0 ++ replicate (9 - count) space_byte)
