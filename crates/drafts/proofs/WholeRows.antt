-- Where an instruction ends, its row has all the entries and mentions in hand: entries only of a phi, as many mentions as its form has.
-- Assumes nothing.
use mathlib.Core.Logic.{◌⊎◌, inl, inr}
use mathlib.Core.Path.{◌≡◌, refl, sym, ◌∙◌}
use mathlib.Core.List.{List, [], ◌∷◌}
use native.Mathlib.Omega.{arith}
use lib.ListN.{length, get_or}
use Rattle.language.specs.Instructions.{Form, form_of}
use Rattle.language.specs.Reading.{Parts, Mention, no_mention, entries_in, mentions_in, row_as, row_of}

pub own_entries : (x : Parts) → (form_of x.op ≡ Form.phi) ⊎ (x.entries ≡ []) → entries_in (row_of x) ≡ x.entries
unfolding row_of
own_entries x (inl e) = rw e
own_entries x (inr e) = by (form_of x.op) ∙ sym e
  where
    by : (g : Form) → entries_in (row_as g x) ≡ []
    by Form.nop = refl
    by Form.load = refl
    by Form.unary = refl
    by Form.binary = refl
    by Form.phi = e
    by Form.jump = refl
    by Form.branch = refl
    by Form.return = refl
    by Form.leave = refl
    by Form.unknown = refl

-- lists of no, one and two elements
no_mention_law : (ms : List Mention) → 0 ≡ length ms → [] ≡ ms
no_mention_law [] e = refl
no_mention_law (m ∷ ms) e = absurd (omega arith)

one_mention : (ms : List Mention) → 1 ≡ length ms → get_or ms 0 no_mention ∷ [] ≡ ms
one_mention [] e = absurd (omega arith)
one_mention (m ∷ []) e = refl
one_mention (m ∷ n ∷ ms) e = absurd (omega arith)

two_mentions : (ms : List Mention) → 2 ≡ length ms → get_or ms 0 no_mention ∷ get_or ms 1 no_mention ∷ [] ≡ ms
two_mentions [] e = absurd (omega arith)
two_mentions (m ∷ []) e = absurd (omega arith)
two_mentions (m ∷ n ∷ []) e = refl
two_mentions (m ∷ n ∷ k ∷ ms) e = absurd (omega arith)

pub own_mentions : (x : Parts) → length (mentions_in (row_of x)) ≡ length x.mentions → mentions_in (row_of x) ≡ x.mentions
unfolding row_of
own_mentions x = by (form_of x.op)
  where
    by : (g : Form) → length (mentions_in (row_as g x)) ≡ length x.mentions → mentions_in (row_as g x) ≡ x.mentions
    by Form.nop e = no_mention_law x.mentions e
    by Form.load e = no_mention_law x.mentions e
    by Form.unary e = no_mention_law x.mentions e
    by Form.binary e = no_mention_law x.mentions e
    by Form.phi e = no_mention_law x.mentions e
    by Form.jump e = one_mention x.mentions e
    by Form.branch e = two_mentions x.mentions e
    by Form.return e = no_mention_law x.mentions e
    by Form.leave e = no_mention_law x.mentions e
    by Form.unknown e = no_mention_law x.mentions e
