-- From function to function, each with cells of its own: what the bytes lent come to, and what a whole text comes to.
-- Assumes nothing.
use mathlib.Core.Path.{◌≡◌, refl, sym, ap, subst, ◌∙◌}
use mathlib.Core.Bool.{Bool, true, false, true≢false, false≢true}
use mathlib.Core.List.{List, [], ◌∷◌, ◌++◌, foldl, append-nil}
use Prim.Native.Nat.{ℕ, ◌-◌, ◌≤◌, ◌<◌}
use native.Mathlib.Decide.{dec_lt}
use native.Mathlib.Omega.{arith}
use lib.ListN.{length, set, drop, length-append}
use borrow.Author.Tests.{lt-ltb, le-ltb}
use borrow.Rule.Slice.PartMut.{mid_of, put_mid}
use Rattle.language.specs.Answers.{zeros}
use Rattle.language.specs.Programs.{Func, max_functions, max_text, max_name}
use Rattle.language.specs.Table.{function_at, function_length, table_length}
use Rattle.language.specs.Tokens.{Lexer as Lexerᴸ, lexer₀, tokens_from, tokens_of}
use Rattle.language.specs.Grammar.{Stage}
use Rattle.language.specs.Reading.{Parse, Reading, fresh, take_token, parse₀, finish, read}
use Rattle.language.proofs.ReadingLaws.{read_by_tokens}
use Rattle.lexer.specs.Lexing.{left, idle_at}
use Rattle.lexer.proofs.Stepping.{stands_first}
use Rattle.lexer.specs.declared.Lexer.{Lexer}
use Rattle.drafts.specs.State.{names_length, pending_length}
use Rattle.std.specs.Prelude.{Result, Ok, Err}
use Rattle.drafts.specs.declared.state.Fault.{Fault}
use Rattle.reader.specs.Parse.{reader_at}
use Rattle.reader.specs.Text.{LexerAt, Between, ProgressReached, Rest, to_go, ClosedWith, Arrives, Advances, end_of, table_with, InTable, TableReached, Fed, Feeds, ToldOf, JudgedAs, progress_start}
use Rattle.reader.specs.declared.reading.Progress.{Progress}
use Rattle.reader.specs.declared.taking.Step.{Step}
use Rattle.reader.specs.declared.taking.Step.TheVariants as steps
use Rattle.reader.proofs.Fresh.{lent_start, between_fresh, between_closed}
use Rattle.reader.proofs.Outcomes.{NotClosed}
use Rattle.reader.proofs.Tables.{Whole, slot_length, in_slot, slot_back, slot_within, slot_zero, whole_more, table_more, table_start, table_end, length_slot}

-- Whatever comes after the bytes lent, all bytes come to the same from there and from here.
abbrev pub Same : (text : List ℕ) (ends : Bool) (parse : Parse) (l : Lexerᴸ) (c : Lexer) (parse' : Parse) (l' : Lexerᴸ) (c' : Lexer) → Type 0
Same text ends parse l c parse' l' c' =
    (more : List ℕ) → Rest ends more → to_go parse l (drop c.next text ++ more) ≡ to_go parse' l' (drop c'.next text ++ more)

closed_of : {text : List ℕ} {ends : Bool} {fs : List Func} {parse : Parse} {l : Lexerᴸ} {c : Lexer} {f n p v : List ℕ} {y : Progress}
    → Arrives text ends fs parse l c f n p v (Ok (steps.Closed y))
    → (g : Func) × (l' : Lexerᴸ) × LexerAt text v l' y.lexer × (left text y.lexer < left text c) × ClosedWith fs g y.reader f n p
    × Same text ends parse l c (Parse.reading Stage.top (fresh (fs ++ (g ∷ [])))) l' y.lexer
closed_of (Arrives.closed g y l' at less with same) = (g, l', at, less, with, same)

-- ---- into a table

-- From here, with this table, the rest of the text comes to what it comes to from there.
pub record Here (text : List ℕ) (ends : Bool) (parse₁ : Parse) (l₁ : Lexerᴸ) (c₁ : Lexer) (s : Progress) (t n p v : List ℕ) : Type 0 where
  pub functions : List Func
  pub parse : Parse
  pub lexer : Lexerᴸ
  pub at : LexerAt text v lexer s.lexer
  pub in_table : InTable functions parse s.reader t n p
  pub same : Same text ends parse₁ l₁ c₁ parse lexer s.lexer

-- The same for all that stands at the beginning.
abbrev pub Goes : (text : List ℕ) (ends : Bool) (x : Progress) (t n p v : List ℕ) (s : Progress) (t' n' p' v' : List ℕ) → Type 0
Goes text ends x t n p v s t' n' p' v' =
    (fs : List Func) (parse : Parse) (l : Lexerᴸ) → LexerAt text v l x.lexer → InTable fs parse x.reader t n p
    → Here text ends parse l x.lexer s t' n' p' v'

pub goes_start : (text : List ℕ) (ends : Bool) (x : Progress) (t n p v : List ℕ) → Goes text ends x t n p v x t n p v
goes_start text ends x t n p v fs parse l at i =
    record { functions = fs; parse = parse; lexer = l; at = at; in_table = i; same = λ more r. refl }

pub goes_reached : {text : List ℕ} {ends : Bool} {x : Progress} {t n p v : List ℕ} {s : Progress} {t' n' p' v' : List ℕ}
    → TableReached text x t n p v → Goes text ends x t n p v s t' n' p' v' → TableReached text s t' n' p' v'
goes_reached r g =
    let h = g r.functions r.parse r.lexer r.at r.in_table in
    record { functions = h.functions; parse = h.parse; lexer = h.lexer; at = h.at; in_table = h.in_table }

-- the cells of the function in hand, lent
module _ {text : List ℕ} {s : Progress} {t n p v : List ℕ} (h : TableReached text s t n p v) where
  i : InTable h.functions h.parse s.reader t n p
  i = h.in_table

  pub few_reached : s.reader.draft.functions ≤ max_functions
  few_reached = omega (arith, i.few, i.between.count)

  module _ {a e : ℕ} (q : a ≡ function_at s.reader.draft.functions) (r : e ≡ end_of s.reader.draft.functions) where
    pub within_reached : (a ≤ e) × (e ≤ length t)
    within_reached =
        slot_within h.functions i.few i.whole (q ∙ ap function_at i.between.count) (r ∙ ap end_of i.between.count) i.cells i.size i.table

    pub slot_reached : ProgressReached text s (mid_of a (e - a) t) n p v
    slot_reached =
        record {
          functions = h.functions;
          parse = h.parse;
          lexer = h.lexer;
          at = h.at;
          between =
              subst (λ (f : List ℕ). Between h.functions h.parse s.reader f n p)
              (sym (in_slot h.functions i.few i.whole (q ∙ ap function_at i.between.count) (r ∙ ap end_of i.between.count) i.cells i.size i.table))
              i.between;
        }

empty_list : (f : List ℕ) → length f ≡ 0 → f ≡ zeros 0
unfolding zeros
empty_list [] e = refl
empty_list (b ∷ f) e = absurd (omega (arith, e))

cells_zero : (fs : List Func) {f : List ℕ} → length f ≡ slot_length (length fs) → (length fs < max_functions → f ≡ zeros function_length) → f ≡ zeros (slot_length (length fs))
cells_zero fs {f} l e = by (dec_lt (length fs) max_functions)
  where
    by : Dec (length fs < max_functions) → f ≡ zeros (slot_length (length fs))
    by (yes c) = rw (lt-ltb (length fs) max_functions c) (e c)
    by (no c) =
        let none : slot_length (length fs) ≡ 0 = rw (le-ltb (length fs) max_functions (omega arith)) refl in
        rw none (empty_list f (l ∙ none))

-- what the cells come to, put back
module _ (text : List ℕ) (ends : Bool) (parse₁ : Parse) (l₁ : Lexerᴸ) (c₁ : Lexer) (s : Progress) (t n p v : List ℕ)
    (h : Here text ends parse₁ l₁ c₁ s t n p v) (f' n' p' v' : List ℕ) where
  -- one function more
  here_closed : (y : Progress) → Arrives text ends h.functions h.parse h.lexer s.lexer f' n' p' v' (Ok (steps.Closed y))
      → Here text ends parse₁ l₁ c₁ y (table_with h.functions f') n' p' v' × (left text y.lexer < left text s.lexer)
  here_closed y r =
      let (g, l', at, less, with, same) = closed_of r in
      let fs = h.functions in
      let gs = fs ++ (g ∷ []) in
      let few : length gs ≤ max_functions = omega (arith, length-append fs (g ∷ []), with.less) in
      let whole : Whole gs = whole_more fs g h.in_table.whole (sym (ap length with.cells) ∙ with.lengths.0) in (
        record {
          functions = gs;
          parse = Parse.reading Stage.top (fresh gs);
          lexer = l';
          at = at;
          in_table =
              record {
                cells = zeros (slot_length (length gs));
                few = few;
                whole = whole;
                size = length_slot (length gs);
                table = ap (table_with fs) with.cells ∙ table_more fs g ∙ sym (slot_zero gs few whole);
                between = between_closed with (zeros (slot_length (length gs))) (λ room. rw (lt-ltb (length gs) max_functions room) refl);
              };
          same = λ more rest. h.same more rest ∙ same more rest;
        },
        less,
      )

  -- an answer, or an end
  here_fed : length f' ≡ slot_length (length h.functions) → {r : Result (Step Progress) Fault} → Arrives text ends h.functions h.parse h.lexer s.lexer f' n' p' v' r → NotClosed r
      → Fed text ends parse₁ l₁ c₁ (table_with h.functions f') n' p' v' r
  here_fed l (Arrives.refused k e) out = Fed.refused k (λ more r. h.same more r ∙ e more r)
  here_fed l (Arrives.closed g y l' at less with same) out = absurd (out y refl)
  here_fed l (Arrives.reading parse' y l' e at all b same) out =
      Fed.reading h.functions parse' y l' e at all
      (record { cells = f'; few = h.in_table.few; whole = h.in_table.whole; size = l; table = refl; between = b })
      (λ more. h.same more (λ t. absurd (rw e at t)) ∙ same more)
  here_fed l (Arrives.ended y e count zero same) out =
      Fed.ended h.functions y e count h.in_table.few
      (ap (table_with h.functions) (cells_zero h.functions l zero) ∙ slot_zero h.functions h.in_table.few h.in_table.whole)
      (h.same [] (λ t. refl) ∙ same)

module _ {text : List ℕ} {ends : Bool} {parse : Parse} {l : Lexerᴸ} {c : Lexer} {s : Progress} {t n p v : List ℕ} (h : Here text ends parse l c s t n p v)
    {a e : ℕ} (q : a ≡ function_at s.reader.draft.functions) (w : e ≡ end_of s.reader.draft.functions) where
  now : InTable h.functions h.parse s.reader t n p
  now = h.in_table

  slot : mid_of a (e - a) t ≡ now.cells
  slot =
      in_slot h.functions now.few now.whole (q ∙ ap function_at now.between.count) (w ∙ ap end_of now.between.count) now.cells now.size now.table

  module _ (f' n' p' v' : List ℕ) (kept : length f' ≡ length (mid_of a (e - a) t)) where
    back : put_mid a (e - a) t f' ≡ table_with h.functions f'
    back =
        slot_back h.functions now.few now.whole (q ∙ ap function_at now.between.count) (w ∙ ap end_of now.between.count) now.cells now.size now.table f'
        (kept ∙ ap length slot)

    arrives : (r : Result (Step Progress) Fault) → Advances text ends s (mid_of a (e - a) t) n p v r f' n' p' v' → Arrives text ends h.functions h.parse h.lexer s.lexer f' n' p' v' r
    arrives r adv = adv h.functions h.parse h.lexer h.at (rw slot now.between)

    step_on : (r : Result (Step Progress) Fault) → Advances text ends s (mid_of a (e - a) t) n p v r f' n' p' v' → (y : Progress) → r ≡ Ok (steps.Closed y)
        → Here text ends parse l c y (put_mid a (e - a) t f') n' p' v' × (left text y.lexer < left text s.lexer)
    step_on r adv y is = rw back (here_closed text ends parse l c s t n p v h f' n' p' v' y (rw is at (arrives r adv)))

    step_out : (r : Result (Step Progress) Fault) → Advances text ends s (mid_of a (e - a) t) n p v r f' n' p' v' → NotClosed r → Fed text ends parse l c (put_mid a (e - a) t f') n' p' v' r
    step_out r adv out = rw back (here_fed text ends parse l c s t n p v h f' n' p' v' (kept ∙ ap length slot ∙ now.size) (arrives r adv) out)

-- what the loop has to show
module _ {text : List ℕ} {ends : Bool} {x : Progress} {t₀ n₀ p₀ v₀ : List ℕ} {s : Progress} {t n p v : List ℕ} (goes : Goes text ends x t₀ n₀ p₀ v₀ s t n p v)
    {a e : ℕ} (q : a ≡ function_at s.reader.draft.functions) (w : e ≡ end_of s.reader.draft.functions) (f' n' p' v' : List ℕ) (kept : length f' ≡ length (mid_of a (e - a) t))
    {r : Result (Step Progress) Fault} (adv : Advances text ends s (mid_of a (e - a) t) n p v r f' n' p' v') where
  pub goes_on : {y : Progress} → r ≡ Ok (steps.Closed y) → Goes text ends x t₀ n₀ p₀ v₀ y (put_mid a (e - a) t f') n' p' v'
  goes_on {y} is fs parse l at i = (step_on (goes fs parse l at i) q w f' n' p' v' kept r adv y is).0

  pub goes_less : TableReached text x t₀ n₀ p₀ v₀ → {y : Progress} → r ≡ Ok (steps.Closed y) → left text y.lexer < left text s.lexer
  goes_less h {y} is = (step_on (goes h.functions h.parse h.lexer h.at h.in_table) q w f' n' p' v' kept r adv y is).1

  pub goes_out : NotClosed r → Feeds text ends x t₀ n₀ p₀ v₀ r (put_mid a (e - a) t f') n' p' v'
  goes_out out fs parse l at i = step_out (goes fs parse l at i) q w f' n' p' v' kept r adv out

-- ---- a whole text

lexer_start : (text v : List ℕ) → length v ≡ max_name → LexerAt text v lexer₀ (idle_at 0 0)
lexer_start text v r = record { stands = stands_first v r; order = omega arith; within = omega arith }

table_first : {t n p : List ℕ} → t ≡ zeros table_length → n ≡ zeros names_length → p ≡ zeros pending_length → InTable [] parse₀ (reader_at 0) t n p
table_first e f g =
    record {
      cells = zeros function_length;
      few = omega arith;
      whole = λ g i b. absurd (omega arith);
      size = length_slot 0;
      table = e ∙ table_start ∙ sym (slot_zero [] (omega arith) (λ g i b. absurd (omega arith)));
      between = between_fresh (lent_start refl f g) (reader_at 0) refl refl;
    }

pub reached_first : (text : List ℕ) {x : Progress} → x ≡ progress_start → {t n p v : List ℕ} → t ≡ zeros table_length → n ≡ zeros names_length → p ≡ zeros pending_length → length v ≡ max_name
    → TableReached text x t n p v
reached_first text is {v = v} e f g r =
    rw is (record { functions = []; parse = parse₀; lexer = lexer₀; at = lexer_start text v r; in_table = table_first e f g })

-- what the text comes to, from its beginning
comes_to : (text : List ℕ) → length text ≤ max_text → {z : Parse} → to_go parse₀ lexer₀ (drop 0 text ++ []) ≡ z → read text ≡ finish z
unfolding to_go tokens_of
comes_to text short e =
    read_by_tokens text short ∙ ap finish (ap (λ (bs : List ℕ). foldl take_token parse₀ (tokens_from lexer₀ bs)) (sym (append-nil text)) ∙ e)

-- fed: an answer, or all is read
module _ (text : List ℕ) (short : length text ≤ max_text) {x : Progress} (is : x ≡ progress_start) {t₀ n₀ p₀ v₀ : List ℕ} (first : (t₀ ≡ zeros table_length) × (n₀ ≡ zeros names_length) × (p₀ ≡ zeros pending_length) × (length v₀ ≡ max_name))
    {r : Result (Step Progress) Fault} {t n p v : List ℕ} (feeds : Feeds text false x t₀ n₀ p₀ v₀ r t n p v) where
  fed : Fed text false parse₀ lexer₀ (idle_at 0 0) t n p v r
  fed = rw is at feeds [] parse₀ lexer₀ (lexer_start text v₀ first.3) (table_first first.0 first.1 first.2)

  pub fed_refused : {k : Fault} → r ≡ Err k → (t' : List ℕ) → ToldOf t' (read text) (Err k)
  fed_refused {k} is t' = by (rw is at fed)
    where
      by : Fed text false parse₀ lexer₀ (idle_at 0 0) t n p v (Err k) → ToldOf t' (read text) (Err k)
      by (Fed.refused k e) = rw (comes_to text short (e [] (λ t. refl))) (ToldOf.refused k)

  -- and nothing else
  pub fed_reads : {z : Step Progress} → r ≡ Ok z → ((y : Progress) → z ≡ steps.Reading y → ⊥) → ⊥
  fed_reads {z} is out = by (rw is at fed) out
    where
      by : {z : Step Progress} → Fed text false parse₀ lexer₀ (idle_at 0 0) t n p v (Ok z) → ((y : Progress) → z ≡ steps.Reading y → ⊥) → ⊥
      by (Fed.reading fs parse y l e at all i same) out = out y refl
      by (Fed.ended fs y e count few table same) out = false≢true e

  module _ {y : Progress} (now : r ≡ Ok (steps.Reading y)) where
    read_on : {y : Progress} → Fed text false parse₀ lexer₀ (idle_at 0 0) t n p v (Ok (steps.Reading y))
        → (fs : List Func) × (parse : Parse) × (l : Lexerᴸ) × LexerAt text v l y.lexer × InTable fs parse y.reader t n p
        × ((more : List ℕ) → to_go parse₀ lexer₀ (drop 0 text ++ more) ≡ to_go parse l (drop y.lexer.next text ++ more))
    read_on (Fed.reading fs parse y l e at all i same) = (fs, parse, l, at, i, same)

    pub fed_reached : TableReached text y t n p v
    fed_reached = let (fs, parse, l, at, i, same) = read_on (rw now at fed) in record { functions = fs; parse = parse; lexer = l; at = at; in_table = i }

    module _ {r' : Result (Step Progress) Fault} {t' n' p' v' : List ℕ} (closes : Feeds text true y t n p v r' t' n' p' v') where
      whole_fed : Fed text true parse₀ lexer₀ (idle_at 0 0) t' n' p' v' r'
      whole_fed =
          let (fs, parse, l, at, i, same) = read_on (rw now at fed) in
          from same (closes fs parse l at i)
        where
          from : {parse : Parse} {l : Lexerᴸ} → ((more : List ℕ) → to_go parse₀ lexer₀ (drop 0 text ++ more) ≡ to_go parse l (drop y.lexer.next text ++ more))
              → {r : Result (Step Progress) Fault} → Fed text true parse l y.lexer t' n' p' v' r → Fed text true parse₀ lexer₀ (idle_at 0 0) t' n' p' v' r
          from same (Fed.refused k e) = Fed.refused k (λ more r. same more ∙ e more r)
          from same (Fed.reading fs parse y l e at all i s) = absurd (true≢false e)
          from same (Fed.ended fs y e count few table s) = Fed.ended fs y e count few table (same [] ∙ s)

      pub closed_refused : {k : Fault} → r' ≡ Err k → (t'' : List ℕ) → ToldOf t'' (read text) (Err k)
      closed_refused {k} is t'' = by (rw is at whole_fed)
        where
          by : Fed text true parse₀ lexer₀ (idle_at 0 0) t' n' p' v' (Err k) → ToldOf t'' (read text) (Err k)
          by (Fed.refused k e) = rw (comes_to text short (e [] (λ t. refl))) (ToldOf.refused k)

      pub closed_ends : {z : Step Progress} → r' ≡ Ok z → ((y : Progress) → z ≡ steps.Ended y → ⊥) → ⊥
      closed_ends {z} is out = by (rw is at whole_fed) out
        where
          by : {z : Step Progress} → Fed text true parse₀ lexer₀ (idle_at 0 0) t' n' p' v' (Ok z) → ((y : Progress) → z ≡ steps.Ended y → ⊥) → ⊥
          by (Fed.reading fs parse y l e at all i same) out = true≢false e
          by (Fed.ended fs y e count few table same) out = out y refl

      module _ {z : Progress} (ended : r' ≡ Ok (steps.Ended z)) where
        at_end : {z : Progress} → Fed text true parse₀ lexer₀ (idle_at 0 0) t' n' p' v' (Ok (steps.Ended z))
            → (fs : List Func) × (z.reader.draft.functions ≡ length fs) × (length fs ≤ max_functions) × (t' ≡ table_with fs []) × (read text ≡ Reading.program fs)
        at_end (Fed.ended fs z e count few table same) = (fs, count, few, table, comes_to text short same)

        pub few_ended : z.reader.draft.functions ≤ max_functions
        few_ended = let (fs, count, few, table, reads) = at_end (rw ended at whole_fed) in omega (arith, count, few)

        pub told_program : {k : ℕ} → k ≡ z.reader.draft.functions → ToldOf (set t' 0 k) (read text) (Ok tt)
        told_program {k} e = by (at_end (rw ended at whole_fed))
          where
            by : (fs : List Func) × (z.reader.draft.functions ≡ length fs) × (length fs ≤ max_functions) × (t' ≡ table_with fs []) × (read text ≡ Reading.program fs)
                → ToldOf (set t' 0 k) (read text) (Ok tt)
            by (fs, count, few, table, reads) = rw reads (ToldOf.program fs (rw (table, e ∙ count) (table_end fs)))

-- ---- without a table

pub record JudgedTo (text : List ℕ) (s : Progress) (f n p v : List ℕ) : Type 0 where
  pub functions : List Func
  pub parse : Parse
  pub lexer : Lexerᴸ
  pub at : LexerAt text v lexer s.lexer
  pub between : Between functions parse s.reader f n p
  pub same : Same text true parse₀ lexer₀ (idle_at 0 0) parse lexer s.lexer

pub judge_start : (text : List ℕ) {x : Progress} → x ≡ progress_start → {f n p v : List ℕ} → f ≡ zeros function_length → n ≡ zeros names_length → p ≡ zeros pending_length → length v ≡ max_name
    → JudgedTo text x f n p v
judge_start text is {v = v} e g h r =
    rw is
    (record {
      functions = [];
      parse = parse₀;
      lexer = lexer₀;
      at = lexer_start text v r;
      between = between_fresh (lent_start e g h) (reader_at 0) refl refl;
      same = λ more r. refl;
    })

module _ {text : List ℕ} {s : Progress} {f n p v : List ℕ} (h : JudgedTo text s f n p v) where
  pub judge_reached : ProgressReached text s f n p v
  judge_reached = record { functions = h.functions; parse = h.parse; lexer = h.lexer; at = h.at; between = h.between }

  module _ {r : Result (Step Progress) Fault} {f' n' p' v' : List ℕ} (adv : Advances text true s f n p v r f' n' p' v') where
    judged : Arrives text true h.functions h.parse h.lexer s.lexer f' n' p' v' r
    judged = adv h.functions h.parse h.lexer h.at h.between

    module _ {y : Progress} (is : r ≡ Ok (steps.Closed y)) where
      pub judge_on : {z : List ℕ} → z ≡ zeros function_length → JudgedTo text y z n' p' v'
      judge_on {z} e =
          let (g, l', at, less, with, same) = closed_of (rw is at judged) in
          record {
            functions = h.functions ++ (g ∷ []);
            parse = Parse.reading Stage.top (fresh (h.functions ++ (g ∷ [])));
            lexer = l';
            at = at;
            between = between_closed with z (λ room. e);
            same = λ more rest. h.same more rest ∙ same more rest;
          }

      pub judge_less : left text y.lexer < left text s.lexer
      judge_less = let (g, l', at, less, with, same) = closed_of (rw is at judged) in less

    pub judge_refused : length text ≤ max_text → {k : Fault} → r ≡ Err k → JudgedAs (read text) (Err k)
    judge_refused short {k} is = by (rw is at judged)
      where
        by : Arrives text true h.functions h.parse h.lexer s.lexer f' n' p' v' (Err k) → JudgedAs (read text) (Err k)
        by (Arrives.refused k e) = rw (comes_to text short (h.same [] (λ t. refl) ∙ e [] (λ t. refl))) (JudgedAs.refused k)

    pub judge_out : length text ≤ max_text → {z : Step Progress} → r ≡ Ok z → ((y : Progress) → z ≡ steps.Closed y → ⊥) → JudgedAs (read text) (Ok tt)
    judge_out short {z} is out = by (rw is at judged) out
      where
        by : {z : Step Progress} → Arrives text true h.functions h.parse h.lexer s.lexer f' n' p' v' (Ok z) → ((y : Progress) → z ≡ steps.Closed y → ⊥) → JudgedAs (read text) (Ok tt)
        by (Arrives.closed g y l' at less with same) out = absurd (out y refl)
        by (Arrives.reading parse' y l' e at all b same) out = absurd (true≢false e)
        by (Arrives.ended y e count zero same) out = rw (comes_to text short (h.same [] (λ t. refl) ∙ same)) (JudgedAs.program h.functions)
