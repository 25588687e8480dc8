-- Runs of bytes of one kind, and where they end. Assumes nothing.
use Rattle.std.specs.Prelude.{Bool, true, false, not, cond, List, ◌≡◌, ℕ, ◌+◌, ◌-◌, ◌≤◌, ◌<◌, eqb, ltb, length, get_or}
use Rattle.language.specs.Bytes.{class_of, class_number, name_byte, letter_byte, line_feed}

abbrev pub is_space : ℕ → Bool
is_space b = eqb (class_number (class_of b)) 2

-- "`//` starts a comment up to LF or the end"
abbrev pub in_line : ℕ → Bool
in_line b = not (eqb b line_feed)

-- Every byte from place `from` up to place r passes the test.
pub record Run (test : ℕ → Bool) (text : List ℕ) (from r : ℕ) : Type 0 where
  pub forth : from ≤ r
  pub each : (i : ℕ) → from ≤ i → i < r → test (get_or text i 0) ≡ true

-- And r is the first place whose byte does not, or the end of the search.
pub record First (test : ℕ → Bool) (text : List ℕ) (from end r : ℕ) : Type 0 where
  pub run : Run test text from r
  pub within : r ≤ end
  pub stops : r < end → test (get_or text r 0) ≡ false

-- "A name has 1 to 64 bytes": how far one that begins at s goes at most in a text of n bytes.
unfoldable pub name_limit : (n s : ℕ) → ℕ
name_limit n s = cond (ltb (n - s) 64) n (s + 64)

-- A plain name goes from s up to r, where a byte that no name has ends it.
pub record PlainTo (text : List ℕ) (s r : ℕ) : Type 0 where
  pub letter : letter_byte (get_or text s 0) ≡ true
  pub run : Run name_byte text (s + 1) r
  pub short : r ≤ s + 64
  pub within : r < length text
  pub ends : name_byte (get_or text r 0) ≡ false
