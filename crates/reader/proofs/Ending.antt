-- The end of the text among the tokens. Assumes nothing.
use mathlib.Core.Bool.{false}
use mathlib.Core.List.{List}
use mathlib.Core.Path.{◌≡◌, refl}
use Prim.Native.Nat.{ℕ}
use Rattle.language.specs.Tokens.{Token as Tokenᴸ}
use Rattle.grammar.specs.declared.Token.{Token}
use Rattle.grammar.specs.declared.Token.TheVariants as tokens
use Rattle.drafts.specs.State.{Lent}
use Rattle.text_place.specs.declared.TextPlace.{TextPlace}
use Rattle.std.specs.Prelude.{Result}
use Rattle.drafts.specs.declared.state.Fault.{Fault}
use Rattle.reader.specs.Parse.{Means, Takes, EndTaken, is_end}
use Rattle.reader.specs.declared.taking.Reader.{Reader}
use Rattle.reader.specs.declared.taking.Step.{Step}

end_means : {bytes : List ℕ} {t : Token} {m : Tokenᴸ} → t ≡ tokens.End → Means bytes t m → m ≡ Tokenᴸ.end
end_means e h = by (rw e at h)
  where
    by : {bytes : List ℕ} {m : Tokenᴸ} → Means bytes tokens.End m → m ≡ Tokenᴸ.end
    by Means.end = refl

pub end_token : (bytes : List ℕ) (p : TextPlace) (t : Token) (c : Reader) (x : Lent) (r : Result (Step Reader) Fault) → t ≡ tokens.End → EndTaken p c x r → Takes bytes p t c x r x
end_token bytes p t c x r e h fs parse reads m means = rw (end_means e means) (h fs parse reads)

-- a token of any other variant
pub not_end : (t : Token) → (t ≡ tokens.End → ⊥) → is_end t ≡ false
not_end tokens.Name h = refl
not_end (tokens.Word w) h = refl
not_end (tokens.Number g v) h = refl
not_end (tokens.Mark b) h = refl
not_end tokens.End h = absurd (h refl)
