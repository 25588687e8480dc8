-- What bytes find, byte by byte, and from lexers that find the same. Assumes nothing.
use mathlib.Core.Path.{◌≡◌, sym, ap, ◌∙◌}
use mathlib.Core.List.{List, [], ◌∷◌, ◌++◌, foldl, append_assoc, append-nil}
use mathlib.Core.Bool.{false}
use Prim.Native.Nat.{ℕ}
use Rattle.language.specs.Tokens.{Mode, Lexer, Lexed, quiet, ended, lex_step, lex_more, lex_end, tokens_from}

-- what was found before stays in front
pub lex_onward : (x : Lexed) (bs : List ℕ)
    → foldl lex_more x bs ≡ record { lexer = (foldl lex_more (quiet x.lexer) bs).lexer; found = x.found ++ (foldl lex_more (quiet x.lexer) bs).found }
unfolding lex_more
lex_onward x [] = λ i. record { lexer = x.lexer; found = sym (append-nil x.found) i }
lex_onward x (b ∷ bs) =
    let here = lex_onward (lex_more x b) bs in
    let there = lex_onward (lex_more (quiet x.lexer) b) bs in
    rw (here, there, append_assoc x.found (lex_step x.lexer b).found)

pub tokens_step : (l : Lexer) (b : ℕ) (bs : List ℕ) → tokens_from l (b ∷ bs) ≡ (lex_step l b).found ++ tokens_from (lex_step l b).lexer bs
unfolding tokens_from lex_more
tokens_step l b bs =
    let on = lex_onward (lex_more (quiet l) b) bs in
    let rest = foldl lex_more (quiet (lex_step l b).lexer) bs in
    rw on (append_assoc (lex_step l b).found rest.found (lex_end rest.lexer))

-- lexers that do the same at every byte and at the end
same_steps : (l k : Lexer) → lex_end l ≡ lex_end k → ((b : ℕ) → lex_step l b ≡ lex_step k b) → (bs : List ℕ) → tokens_from l bs ≡ tokens_from k bs
unfolding tokens_from
same_steps l k e h [] = e
same_steps l k e h (b ∷ bs) =
    tokens_step l b bs ∙ ap (λ (x : Lexed). x.found ++ tokens_from x.lexer bs) (h b) ∙ sym (tokens_step k b bs)

-- Between tokens or in a comment.
pub data Idle : Mode → Type 0 where
  between : Idle Mode.between
  comment : Idle Mode.comment

-- Before the byte at p.
abbrev pub idle : Mode → ℕ → Lexer
idle m p = record { mode = m; next = p; start = p; bytes = []; negative = false; value = 0 }

-- there it does not matter where what is open began
pub idle_same : {m : Mode} → Idle m → (l : Lexer) → l.mode ≡ m → (bs : List ℕ) → tokens_from l bs ≡ tokens_from (idle m l.next) bs
unfolding lex_step lex_end ended
idle_same Idle.between l q = same_steps l (idle Mode.between l.next) (rw q) (λ b. rw q)
idle_same Idle.comment l q = same_steps l (idle Mode.comment l.next) (rw q) (λ b. rw q)

-- and it ends with nothing found
pub idle_none : {m : Mode} → Idle m → (l : Lexer) → l.mode ≡ m → ended l ≡ []
unfolding ended
idle_none Idle.between l q = rw q
idle_none Idle.comment l q = rw q
