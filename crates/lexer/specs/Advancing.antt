-- The lexer's numbers after a byte, as the code computes them from what the byte does. Assumes nothing.
use Rattle.std.specs.Prelude.{false, cond, List, ℕ, ◌+◌, ◌-◌, eqb, ltb, leb, length, set, Option, Some, unwrap_or, is_none}
use Rattle.language.specs.Bytes.{hex_value}
use Rattle.lexer.specs.declared.Lexer.{Lexer}
use Rattle.lexer.specs.declared.Lexed.{Lexed}
use Rattle.lexer.specs.declared.Lexeme.TheVariants as lexemes
use Rattle.lexer.specs.declared.Found.{Found}
use Rattle.lexer.specs.declared.Found.TheVariants as founds
use Rattle.lexer.specs.Numbers.{amount_said, grown_at}
use Rattle.lexer.specs.Contents.{gathered_place, counted_at}
use Rattle.lexer.specs.Lexing.{lexer_from, idle_at, lexed_from, place_at}

-- The class of a byte before which nothing is open; else 7.
unfoldable pub fresh_at : (mode class : ℕ) → ℕ
fresh_at m k = cond (eqb m 0) k 7

unfoldable pub begun_at : (mode place byte : ℕ) → Lexer
begun_at m p b =
    cond (ltb m 6) (lexer_from m (p + 1) p false 0 false)
    (cond (eqb m 6) (lexer_from m (p + 1) p (eqb b 45) 0 false) (lexer_from m (p + 1) p false (b - 48) false))

unfoldable pub single_at : (action place byte : ℕ) → Found
single_at a p b = cond (eqb a 35) (founds.Lexeme (place_at p) (lexemes.Mark b)) (founds.Stray (place_at p))

unfoldable pub ended_at : Lexer → Found
ended_at c =
    cond (eqb c.mode 1) (founds.Lexeme (place_at c.start) (lexemes.Plain gathered_place c.value))
    (cond (eqb c.mode 0) founds.Nothing
    (cond (eqb c.mode 5) founds.Nothing
    (cond (ltb c.mode 7) (founds.Stray (place_at c.start))
    (cond (eqb c.mode 9) (founds.Stray (place_at c.start))
    (founds.Lexeme (place_at c.start) (lexemes.Number c.negative (amount_said c.value c.over)))))))

-- One byte more of a name whose contents have n bytes now, and of a number whose value is now v.
abbrev pub longer_at : Lexer → (mode kept : ℕ) → Lexer
longer_at c m n = lexer_from m (c.next + 1) c.start false n false

abbrev pub number_at : Lexer → (mode : ℕ) → Option ℕ → Lexer
number_at c m v = lexer_from m (c.next + 1) c.start c.negative (unwrap_or v 0) (is_none v)

-- Past a byte of a name, with room for so many bytes of contents, and what is gathered then.
unfoldable pub gathering_at : Lexer → (action room : ℕ) → Lexer
gathering_at c a room =
    let n = counted_at room c.value in
    cond (eqb a 3) (longer_at c 3 c.value)
    (cond (eqb a 5) (longer_at c 2 (counted_at room n)) (cond (eqb a 4) (longer_at c 3 n) (longer_at c a n)))

unfoldable pub held_at : (kept action byte : ℕ) → List ℕ → List ℕ
held_at n a b h = cond (eqb a 3) h (cond (eqb a 5) (set (set h n 92) (counted_at (length h) n) b) (set h n b))

-- Past a byte of a number.
unfoldable pub counted_by : Lexer → (action byte : ℕ) → Lexer
counted_by c a b =
    cond (eqb a 9) (number_at c 9 (Some 0))
    (cond (eqb a 10) (number_at c 10 (grown_at (amount_said c.value c.over) 16 (hex_value b)))
    (number_at c a (grown_at (amount_said c.value c.over) 10 (b - 48))))

-- Past any byte that finds nothing.
unfoldable pub advanced_at : Lexer → (action byte room : ℕ) → Lexer
advanced_at c a b room =
    cond (leb 16 a) (cond (eqb a 17) (gathering_at (idle_at 1 c.next) 1 room) (begun_at (a - 16) c.next b))
    (cond (ltb a 6) (gathering_at c a room) (counted_by c a b))

unfoldable pub held_after : Lexer → (action byte : ℕ) → List ℕ → List ℕ
held_after c a b h =
    cond (leb 16 a) (cond (eqb a 17) (held_at 0 1 b h) h) (cond (ltb a 6) (held_at c.value a b h) h)

-- A byte that ends what is open is not passed.
unfoldable pub finding_at : Lexer → (action byte : ℕ) → Lexed
finding_at c a b =
    cond (eqb a 32) (lexed_from (idle_at 0 c.next) (ended_at c))
    (cond (eqb a 33) (lexed_from (begun_at 0 c.next b) (founds.Stray (place_at c.start)))
    (cond (eqb a 34)
    (lexed_from (begun_at 0 c.next b) (founds.Lexeme (place_at c.start) (lexemes.Quoted gathered_place c.value)))
    (lexed_from (begun_at 0 c.next b) (single_at a c.next b))))
