-- Between two functions: the reader and what is lent stand for no function in hand. Assumes nothing.
use mathlib.Core.Path.{◌≡◌, refl, sym, ap, subst, ◌∙◌}
use mathlib.Core.Logic.{inr}
use mathlib.Core.List.{List, [], ◌∷◌, ◌++◌}
use Prim.Native.Nat.{ℕ, ◌+◌, ◌≤◌, ◌<◌}
use native.Mathlib.Omega.{arith}
use lib.ListN.{length, length-append, length-replicate}
use Rattle.language.specs.Answers.{zeros}
use Rattle.language.specs.Programs.{Func, max_functions}
use Rattle.language.specs.Table.{function_length}
use Rattle.language.specs.Grammar.{Stage}
use Rattle.language.specs.Reading.{Parse, fresh, open_rows, draft_rows, phi_entries}
use Rattle.language.specs.Rooms.{Room, begun_at}
use Rattle.name_index.specs.Names.{names_in}
use Rattle.name_index.specs.Chains.{Indexed}
use Rattle.name_index.proofs.ChainLaws.{indexed_none}
use Rattle.grammar.specs.Meaning.{stage_is}
use Rattle.grammar.specs.Ready.{StageReady}
use Rattle.drafts.specs.State.{Counts, lent_of, Stands, NamesHeld, function_names, fresh_at, names_length, pending_length}
use Rattle.drafts.specs.declared.state.Draft.{Draft as Draftᶜ}
use Rattle.drafts.proofs.FreshLaws.{bounded_fresh, stands_fresh, held_nothing}
use Rattle.reader.specs.Text.{Between, ClosedWith}
use Rattle.reader.specs.declared.taking.Reader.{Reader}
use Rattle.reader.proofs.Stages.{fresh_in_hand}

pub length_zeros : (k : ℕ) → length (zeros k) ≡ k
unfolding zeros
length_zeros k = length-replicate k 0

ready_fresh : (fs : List Func) → StageReady Stage.top (fresh fs)
ready_fresh fs =
    record {
      between = λ h. refl;
      inside = λ h. absurd h;
      kind = λ o h. absurd (let z : ◌≡◌ {A = ℕ} 0 1 = cc in omega arith);
      entries = inr refl;
      mentions = λ k h. absurd (let z : ◌≡◌ {A = ℕ} 0 1 = cc in omega arith);
      types = λ t h. absurd (let z : ◌≡◌ {A = ℕ} 0 1 = cc in omega arith);
    }

room_fresh : (fs : List Func) → length fs ≤ max_functions → Room (begun_at Stage.top) (fresh fs)
unfolding draft_rows open_rows phi_entries
room_fresh fs few =
    record { functions = omega arith; registers = omega arith; blocks = omega arith; rows = omega arith; entries = omega arith }

-- With these functions closed, what is lent: cells that are all zero, if there is room for a function, and the functions' names.
pub record LentFresh (fs : List Func) (f n p : List ℕ) : Type 0 where
  pub few : length fs ≤ max_functions
  pub cells : length fs < max_functions → f ≡ zeros function_length
  pub held : NamesHeld (function_names fs) n
  pub names : length n ≡ names_length
  pub pending : length p ≡ pending_length

module _ {fs : List Func} {f n p : List ℕ} (h : LentFresh fs f n p) where
  stands : length fs < max_functions → {last before : List ℕ} → Indexed [] last before → Stands (fresh fs) (fresh_at (length fs)) (lent_of f n p last before)
  stands less {last} {before} i =
      subst (λ (cs : List ℕ). Stands (fresh fs) (fresh_at (length fs)) (lent_of cs n p last before)) (sym (h.cells less))
      (stands_fresh fs h.few {names = n} {pend = p} {last = last} {before = before} h.held i)

  counts : Counts (fresh fs) (fresh_at (length fs))
  counts = (stands_fresh fs h.few {names = n} {pend = p} h.held indexed_none).counts

  pub between_fresh : (c : Reader) → stage_is c.stage ≡ Stage.top → c.draft ≡ fresh_at (length fs) → Between fs (Parse.reading Stage.top (fresh fs)) c f n p
  unfolding names_in
  between_fresh c s d =
      record {
        stage = Stage.top;
        draft = fresh fs;
        is = refl;
        functions = refl;
        count = ap (λ (x : Draftᶜ). x.functions) d;
        bounded = rw d (bounded_fresh (length fs) h.few);
        cells = λ less. ap length (h.cells less) ∙ length_zeros function_length;
        follows =
            λ last before l m i.
            record {
              stage = s;
              bounded = rw d (bounded_fresh (length fs) h.few);
              counts = rw d counts;
              lent = record { cells = λ less. ap length (h.cells (rw d at less)) ∙ length_zeros function_length; names = h.names; pending = h.pending; last = l; before = m };
              stands = λ less. rw d (stands less (i less));
              ready = ready_fresh fs;
              hand = fresh_in_hand fs;
              room = room_fresh fs h.few;
            };
        names = λ less. rw d refl;
        once = λ less. refl;
      }

-- nothing is read yet
pub lent_start : {f n p : List ℕ} → f ≡ zeros function_length → n ≡ zeros names_length → p ≡ zeros pending_length → LentFresh [] f n p
lent_start a b c =
    record {
      few = omega arith;
      cells = λ less. a;
      held = rw b (held_nothing names_length);
      names = ap length b ∙ length_zeros names_length;
      pending = ap length c ∙ length_zeros pending_length;
    }

-- a function is closed, and cells for the next are at hand
module _ {fs : List Func} {g : Func} {c : Reader} {f n p : List ℕ} (h : ClosedWith fs g c f n p) where
  more_closed : length (fs ++ (g ∷ [])) ≡ length fs + 1
  more_closed = length-append fs (g ∷ [])

  pub lent_closed : (f' : List ℕ) → (length (fs ++ (g ∷ [])) < max_functions → f' ≡ zeros function_length) → LentFresh (fs ++ (g ∷ [])) f' n p
  lent_closed f' e = record { few = omega (arith, more_closed, h.less); cells = e; held = h.names; names = h.lengths.1; pending = h.lengths.2 }

  pub between_closed : (f' : List ℕ) → (length (fs ++ (g ∷ [])) < max_functions → f' ≡ zeros function_length)
      → Between (fs ++ (g ∷ [])) (Parse.reading Stage.top (fresh (fs ++ (g ∷ [])))) c f' n p
  between_closed f' e = between_fresh (lent_closed f' e) c h.stage (rw more_closed h.draft)
