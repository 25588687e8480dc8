-- 5 is given exactly at the first token of the item beyond, 3 exactly at the first token that cannot be continued.
-- Assumes nothing.
use mathlib.Core.List.{List, ◌∷◌}
use mathlib.Core.Path.{◌≡◌}
use lib.Dec.{lit≤}
use Rattle.language.specs.Tokens.{TextPlace, Token}
use Rattle.language.specs.Grammar.{Stage, Act, next_move}
use Rattle.language.specs.Reading.{Draft, ActOutcome, perform_act}
use Rattle.language.specs.Refusals.{Reaches, Beyond, FiveBeyond, Leads, ThreeStuck}
use Rattle.language.proofs.Continuing.{wrong?, allowed_leads, leads_allowed}
use Rattle.language.proofs.FirstRefusal.{By, refused_by, refuses_text}
use Rattle.language.proofs.Rooms.{beyond_refused, refused_beyond, refused_wrong}

pub five_beyond : FiveBeyond
unfolding FiveBeyond
five_beyond text p = ((λ e. first (refused_by text 5 p (lit≤ tt) e)), (λ r. refuses_text r.3 (beyond_refused r.4 p)))
  where
    first : By text 5 p → (s : Stage) × (d : Draft) × (t : Token) × Reaches text p s d t × Beyond d (next_move s t).act
    first b = let h = refused_beyond b in (b.stage, b.draft, b.token, rw h.0 b.reached, h.1)

wrong_refused : {a : Act} → a ≡ Act.wrong → (d : Draft) (p : TextPlace) → perform_act a p d ≡ ActOutcome.refuse 3 p
unfolding perform_act
wrong_refused e d p = rw e

pub three_stuck : ThreeStuck
unfolding ThreeStuck
three_stuck text p = (
  (λ e. first (refused_by text 3 p (lit≤ tt) e)),
  (λ r. refuses_text r.3 (wrong_refused (stuck r.0 r.2 r.4) r.1 p)),
)
  where
    first : By text 3 p → (s : Stage) × (d : Draft) × (t : Token) × Reaches text p s d t × ¬ ((ts : List Token) × Leads s (t ∷ ts))
    first b = let h = refused_wrong b in (b.stage, b.draft, b.token, rw h.0 b.reached, λ l. leads_allowed l.1 h.1)

    stuck : (s : Stage) (t : Token) → ¬ ((ts : List Token) × Leads s (t ∷ ts)) → (next_move s t).act ≡ Act.wrong
    stuck s t n = elim (wrong? (next_move s t).act) [ yes e ↦ e | no w ↦ absurd (n (allowed_leads s t w)) ]
