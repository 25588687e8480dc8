-- Where the loop begins and where it leaves off: what is read stands with whatever chains have the registers' names.
-- Assumes nothing.
use mathlib.Core.Path.{◌≡◌, refl, sym, ap, subst, ◌∙◌}
use mathlib.Core.Bool.{Bool, true, false, cond, not, true≢false}
use mathlib.Core.List.{List, [], ◌∷◌}
use Prim.Native.Nat.{ℕ, ◌≤◌, ◌<◌}
use native.Mathlib.Nat.{le_refl}
use native.Mathlib.Decide.{dec_lt}
use native.Mathlib.Omega.{arith}
use lib.Dec.{ltb}
use borrow.Author.Tests.{lt-ltb, le-ltb}
use lib.ListN.{length}
use Rattle.language.specs.Programs.{Func, max_registers}
use Rattle.language.specs.Tokens.{Token as Tokenᴸ, Found as Foundᴸ, Lexer as Lexerᴸ}
use Rattle.language.specs.Reading.{Parse}
use Rattle.lexer.specs.Lexing.{left, place_at}
use Rattle.lexer.specs.declared.Lexer.{Lexer}
use Rattle.lexer.specs.declared.Lexed.{Lexed}
use Rattle.lexer.specs.declared.Found.{Found}
use Rattle.name_index.specs.Hashes.{heads}
use Rattle.drafts.specs.State.{Lent, lent_of}
use Rattle.drafts.proofs.StateLaws.{names_back}
use Rattle.std.specs.Prelude.{Result, Ok, Err}
use Rattle.drafts.specs.declared.state.Fault.{Fault}
use Rattle.reader.specs.Parse.{Reads, ReaderReached, Suits}
use Rattle.reader.specs.Text.{FoundAs, FoundHere, TakesFound, Nexts, LexerAt, Between, RegistersIndexed, Arrives, is_end_found}
use Rattle.reader.proofs.Onward.{Onward, Nexted, next_gives, step_refused, step_reading, step_closed, step_ended}
use Rattle.reader.specs.declared.taking.Step.{Step}
use Rattle.reader.specs.declared.taking.Step.TheVariants as steps
use Rattle.reader.specs.declared.taking.Reader.{Reader}

module _ {fs : List Func} {parse : Parse} {c : Reader} {f n p : List ℕ} where
  -- in, with chains of the registers
  pub reads_in : Between fs parse c f n p → {last before : List ℕ} → length last ≡ heads → length before ≡ max_registers → RegistersIndexed c.draft f last before
      → Reads fs (lent_of f n p last before) parse (Ok (steps.Reading c))
  reads_in b {last} {before} l m r =
      rw b.is
      (Reads.reading b.stage b.draft c b.functions
      (b.follows last before l m
      (λ few.
      let names = b.names few in
      rw names at (r (rw b.count few) (rw names (b.once few))))))

-- and out
pub reads_out : {fs : List Func} {parse : Parse} {c : Reader} {f n p last before : List ℕ} → Reads fs (lent_of f n p last before) parse (Ok (steps.Reading c)) → Between fs parse c f n p
reads_out {fs} {f = f} {n} {p} (Reads.reading s d c k h) =
    record {
      stage = s;
      draft = d;
      is = refl;
      functions = k;
      count = h.counts.functions ∙ ap length k;
      bounded = h.bounded;
      cells = λ few. h.lent.cells (rw (h.counts.functions, k) few);
      follows =
          λ last before l m i.
          record {
            stage = h.stage;
            bounded = h.bounded;
            counts = h.counts;
            lent = record { cells = h.lent.cells; names = h.lent.names; pending = h.lent.pending; last = l; before = m };
            stands =
                λ few.
                let st = h.stands few in
                record { counts = st.counts; within = st.within; cells = st.cells; names = st.names; pending = st.pending; indexed = i (rw (← k) few) };
            ready = h.ready;
            hand = h.hand;
            room = h.room;
          };
      names = λ few. names_back (h.stands (rw k few));
      once = λ few. (h.stands (rw k few)).within.once;
    }

-- ---- the loop

module _ {text : List ℕ} {ends : Bool} {fs : List Func} {parse : Parse} {lx : Lexerᴸ} {c : Lexer} {s : Reader} {f n p : List ℕ} where
  -- it begins where it stands
  pub onward_start : {h : List ℕ} → LexerAt text h lx c → Between fs parse s f n p → {last before : List ℕ} → length last ≡ heads → length before ≡ max_registers
      → RegistersIndexed s.draft f last before → Onward text ends fs parse lx c c h s (lent_of f n p last before)
  onward_start at b l m r =
      record { parse = parse; lexer = lx; at = at; reads = reads_in b l m r; most = le_refl (left text c); same = λ more r. refl }

-- the bytes lent are read, or something of them is left
pub may_end : (next n : ℕ) (ends : Bool) {r : Bool} → r ≡ cond (ltb next n) false (not ends) → r ≡ false → n ≤ next → ends ≡ true
may_end next n true e f l = refl
may_end next n false e f l = absurd (true≢false (sym (e ∙ ap (λ (b : Bool). cond b false true) (le-ltb next n l)) ∙ f))

pub has_paused : (next n : ℕ) (ends : Bool) {r : Bool} → r ≡ cond (ltb next n) false (not ends) → r ≡ true → (n ≤ next) × (ends ≡ false)
has_paused next n ends {r} e t = by (dec_lt next n) ends e
  where
    by : Dec (next < n) → (b : Bool) → r ≡ cond (ltb next n) false (not b) → (n ≤ next) × (b ≡ false)
    by (yes q) b h = absurd (true≢false (sym t ∙ h ∙ ap (λ (d : Bool). cond d false (not b)) (lt-ltb next n q)))
    by (no q) true h = absurd (true≢false (sym t ∙ h ∙ ap (λ (d : Bool). cond d false false) (le-ltb next n (omega arith))))
    by (no q) false h = (omega arith, refl)

-- what is found is there
pub found_here : {text : List ℕ} {ends : Bool} {lx : Lexerᴸ} {c : Lexer} {y : Lexed} {h : List ℕ} → Nexted text ends lx c y h → FoundHere text h y.found
found_here (Nexted.on one l' finds at less same) = record { one = one; found = FoundAs.finds finds }
found_here {text} {c = c} {h = h} (Nexted.end e w t tokens) =
    record {
      one = Foundᴸ.token c.next Tokenᴸ.end ∷ [];
      found = subst (λ (f : Found). FoundAs text h f (Foundᴸ.token c.next Tokenᴸ.end ∷ [])) (sym e) (FoundAs.end (place_at c.next) w);
    }

-- at the end of what is lent
pub paused : {text : List ℕ} {ends : Bool} {fs : List Func} {parse₀ : Parse} {l₀ : Lexerᴸ} {c₀ c : Lexer} {s : Reader} {f n p last before h : List ℕ}
    → Onward text ends fs parse₀ l₀ c₀ c h s (lent_of f n p last before) → (length text ≤ c.next) × (ends ≡ false)
    → Arrives text ends fs parse₀ l₀ c₀ f n p h (Ok (steps.Reading (record { lexer = c; reader = s })))
paused {c = c} {s} o k =
    Arrives.reading o.parse (record { lexer = c; reader = s }) o.lexer k.1 o.at k.0 (reads_out o.reads) (λ more. o.same more (λ t. absurd (rw k.1 at t)))

-- ---- by what a token comes to

module _ {text : List ℕ} {ends : Bool} {fs : List Func} {parse₀ : Parse} {l₀ : Lexerᴸ} {c₀ c : Lexer} {h : List ℕ} {s : Reader} {x : Lent} {y : Lexed} {h' : List ℕ} {x' : Lent} {r : Result (Step Reader) Fault}
    (o : Onward text ends fs parse₀ l₀ c₀ c h s x) (next : Nexts text c h y h') (last : length text ≤ c.next → ends ≡ true) (takes : TakesFound text h' y.found s x r x') where
  found : Nexted text ends o.lexer c y h'
  found = next_gives text ends o.lexer c y o.at next last

  taken_as : {q : Result (Step Reader) Fault} → r ≡ q → TakesFound text h' y.found s x q x'
  taken_as {q} e = subst (λ (z : Result (Step Reader) Fault). TakesFound text h' y.found s x z x') e takes

  pub loop_refused : {k : Fault} → r ≡ Err k → (f n p g : List ℕ) → Arrives text ends fs parse₀ l₀ c₀ f n p g (Err k)
  loop_refused {k} e f n p g = step_refused text ends fs parse₀ l₀ c₀ o y found x' f n p g k (taken_as e)

  module _ (suits : Suits (is_end_found y.found) r) where
    suit : {q : Result (Step Reader) Fault} → r ≡ q → Suits (is_end_found y.found) q
    suit e = subst (Suits (is_end_found y.found)) e suits

    pub loop_reading : {q : Reader} → r ≡ Ok (steps.Reading q) → Onward text ends fs parse₀ l₀ c₀ y.lexer h' q x' × (left text y.lexer < left text c)
    loop_reading {q} e = step_reading text ends fs parse₀ l₀ c₀ o y found x' q (taken_as e) (suit e)

    pub loop_closed : {q : Reader} → r ≡ Ok (steps.Closed q) → Arrives text ends fs parse₀ l₀ c₀ x'.cells x'.names x'.pending h' (Ok (steps.Closed (record { lexer = y.lexer; reader = q })))
    loop_closed {q} e = step_closed text ends fs parse₀ l₀ c₀ o y found x' q (taken_as e) (suit e)

    pub loop_ended : {q : Reader} → r ≡ Ok (steps.Ended q) → Arrives text ends fs parse₀ l₀ c₀ x'.cells x'.names x'.pending h' (Ok (steps.Ended (record { lexer = y.lexer; reader = q })))
    loop_ended {q} e = step_ended text ends fs parse₀ l₀ c₀ o y found x' q (taken_as e) (suit e)

-- what taking asks for
pub taking : {text : List ℕ} {ends : Bool} {fs : List Func} {parse₀ : Parse} {l₀ : Lexerᴸ} {c₀ c : Lexer} {h : List ℕ} {s : Reader} {x : Lent} {y : Lexed} {h' : List ℕ}
    → Onward text ends fs parse₀ l₀ c₀ c h s x → Nexts text c h y h' → (length text ≤ c.next → ends ≡ true) → ReaderReached s x × FoundHere text h' y.found
taking {text} {ends} {fs} {c = c} {y = y} o next last =
    (record { functions = fs; parse = o.parse; reads = o.reads }, found_here (next_gives text ends o.lexer c y o.at next last))
