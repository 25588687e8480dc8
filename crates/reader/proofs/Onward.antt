-- The loop over a text: what is found next, taken, leads from one place of the text to another, from which the rest of it comes to the same.
-- Assumes nothing.
use mathlib.Core.Path.{◌≡◌, refl, sym, ap, subst, ◌∙◌}
use mathlib.Core.Bool.{Bool, true, false, true≢false}
use mathlib.Core.List.{List, [], ◌∷◌, ◌++◌, foldl, foldl-append}
use Prim.Native.Nat.{ℕ, ◌≤◌, ◌<◌}
use native.Mathlib.Omega.{arith}
use lib.ListN.{length, drop}
use lib.Seq.{drop-length}
use Rattle.language.specs.Answers.{zeros}
use Rattle.language.specs.Programs.{Func, max_functions}
use Rattle.language.specs.Table.{function_length}
use Rattle.language.specs.Tokens.{Token as Tokenᴸ, Found as Foundᴸ, Lexer as Lexerᴸ, tokens_from}
use Rattle.language.specs.Grammar.{Stage}
use Rattle.language.specs.Reading.{Parse, fresh}
use Rattle.language.specs.Reading as meaning
use Rattle.language.proofs.ReadingLaws.{refusal_stands}
use Rattle.lexer.specs.Lexing as lexing
use Rattle.lexer.specs.Lexing.{Finds, Ending, left, place_at}
use Rattle.lexer.specs.declared.Lexer.{Lexer}
use Rattle.lexer.specs.declared.Lexeme.{Lexeme}
use Rattle.lexer.specs.declared.Lexeme.TheVariants as lexemes
use Rattle.lexer.specs.declared.Found.{Found}
use Rattle.lexer.specs.declared.Found.TheVariants as founds
use Rattle.lexer.specs.declared.Lexed.{Lexed}
use Rattle.drafts.specs.State.{Lent}
use Rattle.text_place.specs.declared.TextPlace.{TextPlace}
use Rattle.std.specs.Prelude.{Ok, Err}
use Rattle.answers.specs.Reasons.{reason_number}
use Rattle.drafts.specs.declared.state.Fault.{Fault}
use Rattle.reader.specs.Parse.{Reads, ClosesWith, Suits}
use Rattle.reader.specs.Text.{FoundAs, TakesFound, Nexts, LexerAt, Rest, to_go, ClosedWith, Arrives, is_end_found, is_end_lexeme}
use Rattle.reader.specs.declared.taking.Reader.{Reader}
use Rattle.reader.specs.declared.taking.Step.TheVariants as steps

-- ---- what is found next

module _ (text : List ℕ) where
  pub data Nexted (ends : Bool) (l : Lexerᴸ) (c : Lexer) (y : Lexed) (h : List ℕ) : Type 0 where
    on : (one : List Foundᴸ) (l' : Lexerᴸ) → Finds text h y.found one → LexerAt text h l' y.lexer → left text y.lexer < left text c
        → ((more : List ℕ) → Rest ends more → tokens_from l (drop c.next text ++ more) ≡ one ++ tokens_from l' (drop y.lexer.next text ++ more))
        → Nexted ends l c y h
    end : y.found ≡ founds.Lexeme (place_at c.next) lexemes.End → c.next ≤ length text → ends ≡ true
        → tokens_from l (drop c.next text ++ []) ≡ Foundᴸ.token c.next Tokenᴸ.end ∷ [] → Nexted ends l c y h

  no_bytes : {n : ℕ} → length text ≡ n → (more : List ℕ) → more ≡ [] → drop n text ++ more ≡ []
  no_bytes e more m = rw (← e, m, drop-length text)

  pub next_gives : (ends : Bool) (l : Lexerᴸ) (c : Lexer) (y : Lexed) {h h' : List ℕ} → LexerAt text h l c → Nexts text c h y h' → (length text ≤ c.next → ends ≡ true) → Nexted ends l c y h'
  next_gives ends l c y at (Nexts.scanned less s) t =
      let g = s.lexes.gives l at.stands in
      Nexted.on g.one g.reaches.after g.finds (record { stands = g.reaches.stands; order = s.lexes.order; within = s.lexes.within }) s.less
      (λ more r. g.reaches.tokens more)
  next_gives ends l c y {h} {h'} at (Nexts.finished e f k) t = rw k (by (f.gives text h e l at.stands at.order) (t (omega (arith, e))))
    where
      by : Ending text h l c y → ends ≡ true → Nexted ends l c y h
      by (Ending.end f) q =
          Nexted.end f.found at.within q
          (ap (tokens_from l) (no_bytes e [] refl) ∙ f.tokens ∙ ap (λ (n : ℕ). Foundᴸ.token n Tokenᴸ.end ∷ []) (sym at.stands.next))
      by (Ending.last f) q =
          let here : y.lexer.next ≡ c.next = ap (λ (z : Lexer). z.next) f.idle in
          let start : y.lexer.start ≡ c.next = ap (λ (z : Lexer). z.start) f.idle in
          Nexted.on f.one f.after f.finds (record { stands = f.stands; order = omega arith; within = omega (arith, e) }) f.less
          (λ more r.
          let none : more ≡ [] = r (rw q tt) in
          ap (tokens_from l) (no_bytes e more none) ∙ f.tokens
          ∙ ap (λ (bs : List ℕ). f.one ++ tokens_from f.after bs) (sym (no_bytes (e ∙ sym here) more none)))

  -- ---- from one place to another

  -- From here the rest of the text comes to what it comes to from there.
  pub record Onward (ends : Bool) (fs : List Func) (parse₀ : Parse) (l₀ : Lexerᴸ) (c₀ c : Lexer) (h : List ℕ) (s : Reader) (x : Lent) : Type 0 where
    pub parse : Parse
    pub lexer : Lexerᴸ
    pub at : LexerAt text h lexer c
    pub reads : Reads fs x parse (Ok (steps.Reading s))
    pub most : left text c ≤ left text c₀
    pub same : (more : List ℕ) → Rest ends more → to_go parse₀ l₀ (drop c₀.next text ++ more) ≡ to_go parse lexer (drop c.next text ++ more)

  module _ (ends : Bool) (fs : List Func) (parse₀ : Parse) (l₀ : Lexerᴸ) (c₀ : Lexer) where
    -- what a token found leads to
    module _ {c : Lexer} {h : List ℕ} {s : Reader} {x : Lent} (o : Onward ends fs parse₀ l₀ c₀ c h s x) (y : Lexed) (one : List Foundᴸ) (l' : Lexerᴸ)
        (more_same : (more : List ℕ) → Rest ends more → tokens_from o.lexer (drop c.next text ++ more) ≡ one ++ tokens_from l' (drop y.lexer.next text ++ more)) where
      abbrev parse₁ : Parse
      parse₁ = foldl meaning.take_token o.parse one

      leads : (more : List ℕ) → Rest ends more → to_go parse₀ l₀ (drop c₀.next text ++ more) ≡ to_go parse₁ l' (drop y.lexer.next text ++ more)
      unfolding to_go
      leads more r =
          o.same more r ∙ ap (foldl meaning.take_token o.parse) (more_same more r)
          ∙ foldl-append meaning.take_token o.parse one (tokens_from l' (drop y.lexer.next text ++ more))

      refused_leads : (k : ℕ) (q : TextPlace) → parse₁ ≡ Parse.refused k q.byte → (more : List ℕ) → Rest ends more
          → to_go parse₀ l₀ (drop c₀.next text ++ more) ≡ Parse.refused k q.byte
      unfolding to_go
      refused_leads k q e more r =
          leads more r ∙ ap (λ (z : Parse). foldl meaning.take_token z (tokens_from l' (drop y.lexer.next text ++ more))) e
          ∙ refusal_stands k q.byte (tokens_from l' (drop y.lexer.next text ++ more))

    -- ---- by what the token comes to

    -- the end is found at the end alone
    not_end : {h : List ℕ} {f : Found} {one : List Foundᴸ} → Finds text h f one → is_end_found f ≡ false
    not_end Finds.nothing = refl
    not_end {h} (Finds.lexeme p x t means within low) = of_means means
      where
        of_means : {x : Lexeme} {t : Tokenᴸ} → lexing.Means text h x t → is_end_lexeme x ≡ false
        of_means (lexing.Means.plain s n) = refl
        of_means (lexing.Means.quoted s n) = refl
        of_means (lexing.Means.number g v n k) = refl
        of_means (lexing.Means.mark b) = refl
    not_end (Finds.stray p) = refl

    module _ {c : Lexer} {h : List ℕ} {s : Reader} {x : Lent} (o : Onward ends fs parse₀ l₀ c₀ c h s x) (y : Lexed) {h' : List ℕ} (found : Nexted ends o.lexer c y h') (x' : Lent) where
      -- the end, found
      end_found : y.found ≡ founds.Lexeme (place_at c.next) lexemes.End → c.next ≤ length text → FoundAs text h' y.found (Foundᴸ.token c.next Tokenᴸ.end ∷ [])
      end_found e w = subst (λ (f : Found). FoundAs text h' f (Foundᴸ.token c.next Tokenᴸ.end ∷ [])) (sym e) (FoundAs.end (place_at c.next) w)

      is_end : y.found ≡ founds.Lexeme (place_at c.next) lexemes.End → is_end_found y.found ≡ true
      is_end e = ap is_end_found e

      end_leads : tokens_from o.lexer (drop c.next text ++ []) ≡ Foundᴸ.token c.next Tokenᴸ.end ∷ [] → {z : Parse}
          → foldl meaning.take_token o.parse (Foundᴸ.token c.next Tokenᴸ.end ∷ []) ≡ z → to_go parse₀ l₀ (drop c₀.next text ++ []) ≡ z
      unfolding to_go
      end_leads tokens e = o.same [] (λ t. refl) ∙ ap (foldl meaning.take_token o.parse) tokens ∙ e

      pub step_refused : (f n p g : List ℕ) (k : Fault) → TakesFound text h' y.found s x (Err k) x' → Arrives text ends fs parse₀ l₀ c₀ f n p g (Err k)
      step_refused f n p g k takes = by found
        where
          is_refused : {z : Parse} → Reads fs x' z (Err k) → z ≡ Parse.refused (reason_number k.reason) k.at.byte
          is_refused (Reads.refused m) = refl

          by : Nexted ends o.lexer c y h' → Arrives text ends fs parse₀ l₀ c₀ f n p g (Err k)
          by (Nexted.on one l' finds at less same) =
              Arrives.refused k (refused_leads o y one l' same (reason_number k.reason) k.at (is_refused (takes fs o.parse o.reads one (FoundAs.finds finds))))
          by (Nexted.end e w t tokens) =
              Arrives.refused k
              (λ more r.
              ap (λ (m : List ℕ). to_go parse₀ l₀ (drop c₀.next text ++ m)) (r (rw t tt))
              ∙ end_leads tokens (is_refused (takes fs o.parse o.reads (Foundᴸ.token c.next Tokenᴸ.end ∷ []) (end_found e w))))

      pub step_reading : (q : Reader) → TakesFound text h' y.found s x (Ok (steps.Reading q)) x' → Suits (is_end_found y.found) (Ok (steps.Reading q)) → Onward ends fs parse₀ l₀ c₀ y.lexer h' q x' × (left text y.lexer < left text c)
      step_reading q takes suits = by found
        where
          by : Nexted ends o.lexer c y h' → Onward ends fs parse₀ l₀ c₀ y.lexer h' q x' × (left text y.lexer < left text c)
          by (Nexted.on one l' finds at less same) = (
            record {
              parse = foldl meaning.take_token o.parse one;
              lexer = l';
              at = at;
              reads = takes fs o.parse o.reads one (FoundAs.finds finds);
              most = omega (arith, o.most, less);
              same = leads o y one l' same;
            },
            less,
          )
          by (Nexted.end e w t tokens) = absurd (true≢false (sym (is_end e) ∙ suits))

      pub step_closed : (q : Reader) → TakesFound text h' y.found s x (Ok (steps.Closed q)) x' → Suits (is_end_found y.found) (Ok (steps.Closed q))
          → Arrives text ends fs parse₀ l₀ c₀ x'.cells x'.names x'.pending h' (Ok (steps.Closed (record { lexer = y.lexer; reader = q })))
      step_closed q takes suits = by found
        where
          Goal : Type 0
          Goal = Arrives text ends fs parse₀ l₀ c₀ x'.cells x'.names x'.pending h' (Ok (steps.Closed (record { lexer = y.lexer; reader = q })))

          is_closed : {z : Parse} → Reads fs x' z (Ok (steps.Closed q)) → (g : Func) × (z ≡ Parse.reading Stage.top (fresh (fs ++ (g ∷ [])))) × ClosesWith fs g q x'
          is_closed (Reads.closed g q k) = (g, refl, k)

          closed_with : (g : Func) → ClosesWith fs g q x' → ClosedWith fs g q x'.cells x'.names x'.pending
          closed_with g k =
              record {
                less = k.less;
                stage = k.stage;
                draft = k.draft;
                cells = k.cells;
                names = k.names;
                lengths = (k.lent.cells k.less, k.lent.names, k.lent.pending);
              }

          by : Nexted ends o.lexer c y h' → Goal
          by (Nexted.on one l' finds at less same) =
              let (g, e, k) = is_closed (takes fs o.parse o.reads one (FoundAs.finds finds)) in
              Arrives.closed g (record { lexer = y.lexer; reader = q }) l' at (omega (arith, o.most, less)) (closed_with g k)
              (λ more r. leads o y one l' same more r ∙ ap (λ (z : Parse). to_go z l' (drop y.lexer.next text ++ more)) e)
          by (Nexted.end e w t tokens) = absurd (true≢false (sym (is_end e) ∙ suits))

      pub step_ended : (q : Reader) → TakesFound text h' y.found s x (Ok (steps.Ended q)) x' → Suits (is_end_found y.found) (Ok (steps.Ended q))
          → Arrives text ends fs parse₀ l₀ c₀ x'.cells x'.names x'.pending h' (Ok (steps.Ended (record { lexer = y.lexer; reader = q })))
      step_ended q takes suits = by found
        where
          Goal : Type 0
          Goal = Arrives text ends fs parse₀ l₀ c₀ x'.cells x'.names x'.pending h' (Ok (steps.Ended (record { lexer = y.lexer; reader = q })))

          is_ended : {z : Parse} → Reads fs x' z (Ok (steps.Ended q)) → (z ≡ Parse.reading Stage.top (fresh fs)) × (q.draft.functions ≡ length fs) × (length fs < max_functions → x'.cells ≡ zeros function_length)
          is_ended (Reads.ended q n k) = (refl, n, k)

          by : Nexted ends o.lexer c y h' → Goal
          by (Nexted.on one l' finds at less same) = absurd (true≢false (sym suits ∙ not_end finds))
          by (Nexted.end e w t tokens) =
              let (i, n, k) = is_ended (takes fs o.parse o.reads (Foundᴸ.token c.next Tokenᴸ.end ∷ []) (end_found e w)) in
              Arrives.ended (record { lexer = y.lexer; reader = q }) t n k (end_leads tokens i)
