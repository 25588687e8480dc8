-- Reading tokens whose places are not told: from one state of the reading to another. Assumes nothing.
use mathlib.Core.List.{List, [], ◌∷◌, ◌++◌, foldl, foldl-append}
use mathlib.Core.Path.{◌≡◌, refl, ◌∙◌, ap, subst, subst⁻¹}
use Prim.Native.Nat.{ℕ, ◌+◌, ◌-◌, ◌<◌}
use native.Mathlib.Omega.{arith}
use borrow.Author.Tests.{lt-ltb, le-leb}
use Rattle.language.specs.Words.{first_type, first_instruction}
use Rattle.language.specs.Tokens.{Token, Found, token}
use Rattle.language.specs.Grammar.{Stage, Act, Move, to, a_type, next_move}
use Rattle.language.specs.Reading.{Draft, proceed, Parse, perform_act, after_act, take_token}
use Rattle.theorems.specs.RoundTrip.{FindsTokens, none, more}
use Rattle.theorems.proofs.WritingPlaces.{nowhere, bare, perform_bare, proceeds_bare}

-- What is read so far, without the places of the blocks mentioned.
pub record State : Type 0 where
  pub stage : Stage
  pub draft : Draft

pub record At (σ : State) (x : Parse) : Type 0 where
  pub draft : Draft
  pub bares : bare draft ≡ σ.draft
  pub reads : x ≡ Parse.reading σ.stage draft

-- These tokens lead from one state to the other.
unfoldable pub Takes : State → List Token → State → Type 0
Takes σ ts τ = (x : Parse) → At σ x → (fs : List Found) → FindsTokens ts fs → At τ (foldl take_token x fs)

pub nothing : (σ : State) → Takes σ [] σ
unfolding Takes
nothing σ x k fs none = k

-- one token after the other
pub then : (σ τ υ : State) (t : Token) (ts : List Token) → Takes σ (t ∷ []) τ → Takes τ ts υ → Takes σ (t ∷ ts) υ
unfolding Takes
then σ τ υ t ts f g x k fs (more {fs = gs} p h) = g (take_token x (token p t)) (f x k (token p t ∷ []) (more p none)) gs h

record Split (ts us : List Token) (fs : List Found) : Type 0 where
  left : List Found
  right : List Found
  first : FindsTokens ts left
  second : FindsTokens us right
  joined : left ++ right ≡ fs

split : (ts us : List Token) (fs : List Found) → FindsTokens (ts ++ us) fs → Split ts us fs
split [] us fs h = record { left = []; right = fs; first = none; second = h; joined = refl }
split (t ∷ ts) us fs (more {fs = gs} p h) =
    let r = split ts us gs h in
    record { left = token p t ∷ r.left; right = r.right; first = more p r.first; second = r.second; joined = ap (λ (l : List Found). token p t ∷ l) r.joined }

pub after : (ts us : List Token) (σ τ υ : State) → Takes σ ts τ → Takes τ us υ → Takes σ (ts ++ us) υ
unfolding Takes
after ts us σ τ υ f g x k fs h =
    let r = split ts us fs h in
    subst (λ (fs : List Found). At υ (foldl take_token x fs)) r.joined
    (subst⁻¹ (At υ) (foldl-append take_token x r.left r.right) (g (foldl take_token x r.left) (f x k r.left r.first) r.right r.second))

-- a token and its act
pub step :
    (σ τ : State) (t : Token) (a : Act)
    → next_move σ.stage t ≡ to τ.stage a
    → perform_act a nowhere σ.draft ≡ proceed τ.draft
    → Takes σ (t ∷ []) τ
unfolding Takes take_token
step σ τ t a e f x k fs (more p none) =
    let r = proceeds_bare (perform_act a p k.draft) τ.draft (perform_bare a p k.draft ∙ rw (k.bares, f)) in
    record {
      draft = r.draft;
      bares = r.bares;
      reads =
          ap (λ (x : Parse). take_token x (token p t)) k.reads
          ∙ ap (λ (m : Move). after_act m.stage (perform_act m.act p k.draft)) e
          ∙ ap (after_act τ.stage) r.outcome;
    }

-- a token that only leads to another stage
abbrev pub stage_to : State → Stage → State
stage_to σ s = record { stage = s; draft = σ.draft }

pub passes : (σ : State) (s : Stage) (t : Token) → next_move σ.stage t ≡ to s Act.pass → Takes σ (t ∷ []) (stage_to σ s)
unfolding perform_act
passes σ s t e = step σ (stage_to σ s) t Act.pass e refl

-- such a token, then the others
pub pass_then :
    (σ : State) (s : Stage) (υ : State) (t : Token) (ts : List Token) → next_move σ.stage t ≡ to s Act.pass → Takes (stage_to σ s) ts υ → Takes σ (t ∷ ts) υ
pass_then σ s υ t ts e f = then σ (stage_to σ s) υ t ts (passes σ s t e) f

-- a type's word
pub type_word : (k : ℕ → Move) (t : ℕ) → t < 10 → a_type k (first_type + t) ≡ k t
type_word k t h =
    let back : first_type + t - first_type ≡ t = omega arith in
    rw (le-leb first_type (first_type + t) (omega arith), lt-ltb (first_type + t) first_instruction (omega arith), back)
