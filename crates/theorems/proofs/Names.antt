-- Names and their spellings: the language's laws, over any place in a text. Assumes nothing.
use mathlib.Core.Path.{◌≡◌, subst, subst⁻¹}
use mathlib.Core.List.{List, [], ◌∷◌}
use Prim.Native.Nat.{ℕ, zero, suc, ◌≤◌}
use native.Mathlib.Omega.{arith}
use lib.Dec.{T}
use lib.ListN.{length, get_or}
use mir.Facts.{and_yes}
use Rattle.laws.specs.Lists.{all}
use Rattle.language.specs.Names.{unquoted, spellable, plain_bytes}
use Rattle.language.specs.Tokens.{Token, Found, token, stray, tokens_from, tokens_of}
use Rattle.language.proofs.NameLaws.{is_spellable, names_spellable as all_spellable}
use Rattle.language.proofs.SpelledNames as laws
use Rattle.theorems.specs.Names.{AloneInSpelling, SpellableExactly, NamesSpellable, BeforeSeparator, Sized, in_quotes, QuotedContents, QuotedSpoils, QuotedPlain}

pub alone_in_spelling : AloneInSpelling
alone_in_spelling = laws.spelling_alone

pub spellable_exactly : SpellableExactly
spellable_exactly = laws.spellable_exactly

pub names_spellable : NamesSpellable
names_spellable text h i p n e = at (tokens_of text) (all_spellable text h) i e
  where
    at : (fs : List Found) → T (all is_spellable fs) → (i : ℕ) → get_or fs i (stray 0) ≡ token p (Token.name n) → T (spellable n)
    at [] t i e = absurd (let z : ◌≡◌ {A = ℕ} 0 1 = cc in omega arith)
    at (f ∷ fs) t zero e = subst (λ (f : Found). T (is_spellable f)) e (and_yes (is_spellable f) (all is_spellable fs) t).0
    at (f ∷ fs) t (suc i) e = at fs (and_yes (is_spellable f) (all is_spellable fs) t).1 i e

pub before_separator : BeforeSeparator
before_separator n h b q l l' k = laws.spelling_before l k.before n h b q l' k.after k.next

pub quoted_contents : QuotedContents
quoted_contents bs h z l l' k rest = laws.quoted_before l k.before bs h z l' k.after (omega (arith, k.next)) rest

pub quoted_spoils : QuotedSpoils
quoted_spoils bs h z l k rest = laws.quoted_spoils l k bs h z rest

pub quoted_plain : QuotedPlain
quoted_plain n p h l l' k rest =
    let named = laws.plain_in_name n p in
    let same : unquoted n ≡ n = laws.in_name_unquoted n named in
    subst (λ (m : List ℕ). tokens_from l (in_quotes n rest) ≡ token l.next (Token.name m) ∷ tokens_from l' rest) same
    (quoted_contents n (laws.in_name_inside n named) (subst⁻¹ (λ (m : List ℕ). Sized m) same (some n p, h)) l l' k rest)
  where
    some : (n : List ℕ) → T (plain_bytes n) → 1 ≤ length n
    some [] p = absurd p
    some (b ∷ n) p = omega arith
