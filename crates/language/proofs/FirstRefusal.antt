-- The answer to a text is that of the first token refused: a refusal by an act comes from a token that the reading reaches.
-- Assumes nothing.
use mathlib.Core.List.{List, [], ◌∷◌, ◌++◌, foldl, foldl-append}
use mathlib.Core.Path.{◌≡◌, refl, sym, ap, ◌∙◌}
use Prim.Native.Nat.{ℕ, ◌≤◌, ◌<◌}
use native.Mathlib.Omega.{arith}
use native.Mathlib.Decide.{dec_lt}
use lib.ListN.{length}
use Rattle.language.specs.Programs.{max_text}
use Rattle.language.specs.Tokens.{TextPlace, Token, Found, tokens_of}
use Rattle.language.specs.Grammar.{Stage, next_move}
use Rattle.language.specs.Reading.{Draft, ActOutcome, Parse, Reading, perform_act, after_act, take_token, parse₀, finish, read}
use Rattle.language.specs.Refusals.{Reaches}
use Rattle.language.proofs.ReadingLaws.{refusal_stands, read_by_tokens}
use Rattle.language.proofs.SizeFacts.{text_too_long}

-- Of what is found after a parse, the first that is refused.
record Refused (x : Parse) (found : List Found) (n : ℕ) (p : TextPlace) : Type 0 where
  before : List Found
  first : Found
  after : List Found
  stage : Stage
  draft : Draft
  split : found ≡ before ++ (first ∷ after)
  stands : foldl take_token x before ≡ Parse.reading stage draft
  refused : take_token (Parse.reading stage draft) first ≡ Parse.refused n p

reading_not_refused : {s : Stage} {d : Draft} {n : ℕ} {p : TextPlace} → Parse.reading s d ≡ Parse.refused n p → ⊥
reading_not_refused e = let z : ◌≡◌ {A = ℕ} 0 1 = cc in omega arith

first_refused : (s : Stage) (d : Draft) (found : List Found) (n : ℕ) (p : TextPlace) → foldl take_token (Parse.reading s d) found ≡ Parse.refused n p → Refused (Parse.reading s d) found n p
first_refused s d [] n p e = absurd (reading_not_refused e)
first_refused s d (f ∷ fs) n p e = by (take_token (Parse.reading s d) f) refl e (λ s d. first_refused s d fs n p)
  where
    by : (x : Parse) → take_token (Parse.reading s d) f ≡ x → foldl take_token x fs ≡ Parse.refused n p → ((s : Stage) (d : Draft) → foldl take_token (Parse.reading s d) fs ≡ Parse.refused n p → Refused (Parse.reading s d) fs n p) → Refused (Parse.reading s d) (f ∷ fs) n p
    by (Parse.refused m q) h k ih =
        record {
          before = [];
          first = f;
          after = fs;
          stage = s;
          draft = d;
          split = refl;
          stands = refl;
          refused = h ∙ sym (refusal_stands m q fs) ∙ k;
        }
    by (Parse.reading s' d') h k ih =
        let r = ih s' d' k in
        record {
          before = f ∷ r.before;
          first = r.first;
          after = r.after;
          stage = r.stage;
          draft = r.draft;
          split = ap {B = List Found} (λ fs. f ∷ fs) r.split;
          stands = rw h r.stands;
          refused = r.refused;
        }

finish_refused : (x : Parse) {n : ℕ} {p : TextPlace} → finish x ≡ Reading.refused n p → x ≡ Parse.refused n p
finish_refused (Parse.refused m q) e = cc
finish_refused (Parse.reading s d) e = absurd (let z : ◌≡◌ {A = ℕ} 0 1 = cc in omega arith)

onward_refused : (s : Stage) (o : ActOutcome) {n : ℕ} {p : TextPlace} → after_act s o ≡ Parse.refused n p → o ≡ ActOutcome.refuse n p
onward_refused s (ActOutcome.refuse m q) e = cc
onward_refused s (ActOutcome.proceed d) e = absurd (reading_not_refused e)

-- The token whose act refuses.
pub record By (text : List ℕ) (n : ℕ) (p : TextPlace) : Type 0 where
  pub place : TextPlace
  pub stage : Stage
  pub draft : Draft
  pub token : Token
  pub reached : Reaches text place stage draft token
  pub refuses : perform_act (next_move stage token).act place draft ≡ ActOutcome.refuse n p

-- an answer other than 1 and 2 is given by an act
pub refused_by : (text : List ℕ) (n : ℕ) (p : TextPlace) → 2 < n → read text ≡ Reading.refused n p → By text n p
unfolding take_token
refused_by text n p l e = by (dec_lt max_text (length text))
  where
    of : length text ≤ max_text → (r : Refused parse₀ (tokens_of text) n p) → (f : Found) → r.first ≡ f → By text n p
    of h r (Found.token q t) k =
        record {
          place = q;
          stage = r.stage;
          draft = r.draft;
          token = t;
          reached = record { short = h; before = r.before; after = r.after; found = rw k at r.split; stands = r.stands };
          refuses = onward_refused (next_move r.stage t).stage _ (rw k at r.refused);
        }
    of h r (Found.stray q) k =
        let z : Parse.refused 2 q ≡ Parse.refused n p = rw k at r.refused in
        absurd (let m : 2 ≡ n = cc in omega arith)

    by : Dec (max_text < length text) → By text n p
    by (yes h) =
        let z : Reading.refused 1 0 ≡ Reading.refused n p = sym (text_too_long text h) ∙ e in
        absurd (let m : 1 ≡ n = cc in omega arith)
    by (no h) =
        let m : length text ≤ max_text = omega arith in
        let r = first_refused _ _ (tokens_of text) n p (finish_refused _ (sym (read_by_tokens text m) ∙ e)) in
        of m r r.first refl

-- an act that refuses a token gives the text's answer
pub refuses_text : {text : List ℕ} {p : TextPlace} {s : Stage} {d : Draft} {t : Token} {n : ℕ} → Reaches text p s d t → perform_act (next_move s t).act p d ≡ ActOutcome.refuse n p → read text ≡ Reading.refused n p
unfolding take_token
refuses_text {text} {p} {s} {d} {t} {n} r e =
    read_by_tokens text r.short
    ∙ rw (r.found, foldl-append take_token parse₀ r.before (Found.token p t ∷ r.after), r.stands, e, refusal_stands n p r.after)
