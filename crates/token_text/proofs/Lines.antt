-- A line is its tokens with a space behind each but the last, which has the LF. Assumes nothing.
use mathlib.Core.List.{List, [], ◌∷◌, ◌++◌, append_assoc}
use mathlib.Core.Path.{◌≡◌, refl, sym, ◌∙◌, ap}
use Prim.Native.Nat.{ℕ}
use Rattle.laws.proofs.Appending.{gather_append}
use Rattle.language.specs.Bytes.{line_feed}
use Rattle.language.specs.Tokens.{Token}
use Rattle.language.specs.Writing.{space_byte, bytes_for, line_bytes}
use Rattle.token_text.specs.Spaced.{spaced}

one_more : (u : Token) (ts : List Token) (t : Token) → line_bytes (u ∷ (ts ++ (t ∷ []))) ≡ bytes_for u ++ (space_byte ∷ line_bytes (ts ++ (t ∷ [])))
one_more u [] t = refl
one_more u (v ∷ ts) t = refl

-- the tokens before the last, and the last
pub line_ends : (ts : List Token) (t : Token) → line_bytes (ts ++ (t ∷ [])) ≡ spaced ts ++ (bytes_for t ++ (line_feed ∷ []))
line_ends [] t = refl
line_ends (u ∷ ts) t =
    one_more u ts t
    ∙ ap (λ (l : List ℕ). bytes_for u ++ (space_byte ∷ l)) (line_ends ts t)
    ∙ sym (append_assoc (bytes_for u) (space_byte ∷ []) (spaced ts ++ (bytes_for t ++ (line_feed ∷ []))))
    ∙ sym (append_assoc (bytes_for u ++ (space_byte ∷ [])) (spaced ts) (bytes_for t ++ (line_feed ∷ [])))

pub spaced_append : (ts us : List Token) → spaced (ts ++ us) ≡ spaced ts ++ spaced us
spaced_append ts us = gather_append _ ts us
