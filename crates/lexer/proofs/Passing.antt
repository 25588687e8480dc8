-- Runs of bytes of one kind, passed: spaces, the rest of a plain name, the rest of a comment; and the end of the text. Assumes nothing.
use mathlib.Core.Bool.{Bool, true, false, not, cond}
use mathlib.Core.Path.{◌≡◌, refl, sym, ap, ◌∙◌, subst, subst⁻¹}
use mathlib.Core.List.{List, [], ◌∷◌, ◌++◌, append_assoc}
use Prim.Native.Nat.{ℕ, zero, suc, ◌+◌, ◌-◌, ◌≤◌, ◌<◌}
use native.Mathlib.Nat.{le_refl}
use native.Mathlib.Omega.{arith}
use borrow.Author.Tests.{eqb-true, lt-ltb, le-ltb, eq-eqb, ne_eqb}
use native.Mathlib.Decide.{dec_lt}
use lib.Dec.{T, eqb, ltb}
use lib.ListN.{length, get_or, take, drop, length-drop, take-append-drop}
use lib.Seq.{length-take-le, drop-cons, drop-drop}
use mir.Facts.{yes_and}
use Rattle.laws.specs.Lists.{all}
use Rattle.language.specs.Bytes.{class_of, class_number, name_byte, letter_byte}
use Rattle.language.specs.Names.{plain_bytes}
use Rattle.language.specs.Tokens as meaning
use Rattle.language.specs.Tokens.{Mode, name_or_word, ended, lex_end, tokens_from}
use Rattle.language.proofs.SpelledNames.{plain_before}
use Rattle.vocabulary.proofs.ByteClasses.{letter_test, name_test}
use Rattle.lexer.specs.declared.Lexer.{Lexer}
use Rattle.lexer.specs.declared.Lexeme.TheVariants as lexemes
use Rattle.lexer.specs.declared.Found.TheVariants as founds
use Rattle.lexer.specs.Actions.{mode_number, begins_at, action_at}
use Rattle.lexer.specs.Contents.{gathered_place, contents_in}
use Rattle.lexer.specs.Runs.{is_space, in_line, Run, First, name_limit, PlainTo}
use Rattle.lexer.specs.Lexing.{Stands, Means, Finds, Gives, Passed, Lexes, Scanned, Ending, LexerFinished, idle_at, lexed_from, place_at}
use Rattle.lexer.specs.Advancing.{fresh_at, begun_at, single_at, ended_at, advanced_at, held_after, finding_at}
use Rattle.language.proofs.TokenSteps.{Idle, idle, idle_none}
use Rattle.lexer.proofs.Standing.{drop_here, ends_found, stands_idle}
use Rattle.lexer.proofs.Stepping.{step_passes, step_finds, passed_none, passed_then, passed_idle, mode_is, left_closed}

-- ---- runs

at_least : (n k : ℕ) → n ≤ n + k
at_least n k = omega arith

pub run_none : (test : ℕ → Bool) (text : List ℕ) (i : ℕ) → Run test text i i
run_none test text i = record { forth = le_refl i; each = λ j h k. absurd (omega (arith, h, k)) }

pub run_then : (test : ℕ → Bool) (text : List ℕ) (from i j : ℕ) → Run test text from i → Run test text i j → Run test text from j
run_then test text from i j p q =
    record { forth = omega (arith, p.forth, q.forth); each = λ k h n. by k h n (dec_lt k i) }
  where
    by : (k : ℕ) → from ≤ k → k < j → Dec (k < i) → test (get_or text k 0) ≡ true
    by k h n (yes l) = p.each k h l
    by k h n (no l) = q.each k (omega arith) n

pub run_one : (test : ℕ → Bool) (text : List ℕ) (i : ℕ) → test (get_or text i 0) ≡ true → Run test text i (i + 1)
run_one test text i t =
    record {
      forth = omega arith;
      each = λ k h n. let e : k ≡ i = omega (arith, h, n) in subst (λ (j : ℕ). test (get_or text j 0) ≡ true) (sym e) t;
    }

pub run_more : (test : ℕ → Bool) (text : List ℕ) (from i : ℕ) → Run test text from i → test (get_or text i 0) ≡ true → Run test text from (i + 1)
run_more test text from i p t = run_then test text from i (i + 1) p (run_one test text i t)

-- the same up to a place that is that one by a sum
pub run_to : (test : ℕ → Bool) (text : List ℕ) (from i j : ℕ) → j ≡ i → Run test text from i → Run test text from j
run_to test text from i j e p = subst (λ (n : ℕ). Run test text from n) (sym e) p

-- a search that stops at a byte, or at its end
pub stops_here : (test : ℕ → Bool) (text : List ℕ) (from end r : ℕ) → Run test text from r × (r ≤ end) → test (get_or text r 0) ≡ false → First test text from end r
stops_here test text from end r p t = record { run = p.0; within = p.1; stops = λ h. t }

pub stops_at_end : (test : ℕ → Bool) (text : List ℕ) (from end r : ℕ) → Run test text from r × (r ≤ end) → end ≤ r → First test text from end end
stops_at_end test text from end r p h =
    record { run = run_to test text from r end (all_of r end p.1 h) p.0; within = le_refl end; stops = λ l. absurd (omega (arith, l)) }
  where
    all_of : (m n : ℕ) → m ≤ n → n ≤ m → n ≡ m
    all_of m n a b = omega arith

none_more : (n : ℕ) → n + zero ≡ n
none_more n = omega arith

one_more : (n k : ℕ) → n + suc k ≡ n + k + 1
one_more n k = omega arith

still : (i n k : ℕ) → i < n + k → i < n + suc k
still i n k h = omega arith

last : (n k : ℕ) → n + k < n + suc k
last n k = omega arith

-- the lexers at the places of a run, each passed to from the one before
along : (text g : List ℕ) (at : ℕ → Lexer) (from : ℕ) → Passed text (at from) g (at from) g → (k : ℕ)
    → ((i : ℕ) → from ≤ i → i < from + k → Passed text (at i) g (at (i + 1)) g) → Passed text (at from) g (at (from + k)) g
along text g at from p zero h = subst (λ (n : ℕ). Passed text (at from) g (at n) g) (sym (none_more from)) p
along text g at from p (suc k) h =
    subst (λ (n : ℕ). Passed text (at from) g (at n) g) (sym (one_more from k))
    (passed_then text (at from) (at (from + k)) (at (from + k + 1)) (along text g at from p k (λ i a b. h i a (still i from k b)))
    (h (from + k) (at_least from k) (last from k)))

passed_run : (text g : List ℕ) (at : ℕ → Lexer) (from r : ℕ) → from ≤ r → Passed text (at from) g (at from) g
    → ((i : ℕ) → from ≤ i → i < r → Passed text (at i) g (at (i + 1)) g) → Passed text (at from) g (at r) g
passed_run text g at from r l p h =
    subst (λ (n : ℕ). Passed text (at from) g (at n) g) (sum from r l) (along text g at from p (r - from) (λ i a b. h i a (subst (λ (n : ℕ). i < n) (sum from r l) b)))
  where
    sum : (n m : ℕ) → n ≤ m → n + (m - n) ≡ m
    sum n m h = omega arith

-- ---- the bytes of a text

-- the tests as the code makes them
module _ (b : ℕ) where
  pub space_yes : class_number (class_of b) ≡ 2 → is_space b ≡ true
  space_yes h = eq-eqb (class_number (class_of b)) 2 h

  pub space_no : (class_number (class_of b) ≡ 2 → ⊥) → is_space b ≡ false
  space_no h = ne_eqb (class_number (class_of b)) 2 h

  pub name_yes : class_number (class_of b) < 2 → name_byte b ≡ true
  name_yes h = name_test b ∙ lt-ltb (class_number (class_of b)) 2 h

  pub name_no : 2 ≤ class_number (class_of b) → name_byte b ≡ false
  name_no h = name_test b ∙ le-ltb (class_number (class_of b)) 2 h

  pub letter_yes : class_number (class_of b) ≡ 0 → letter_byte b ≡ true
  letter_yes h = letter_test b ∙ eq-eqb (class_number (class_of b)) 0 h

pub line_yes : (b : ℕ) → (b ≡ 10 → ⊥) → in_line b ≡ true
line_yes b h = ap not (ne_eqb b 10 h)

pub line_no : (b : ℕ) → b ≡ 10 → in_line b ≡ false
line_no b h = ap not (eq-eqb b 10 h)

not_line_feed : (t : Bool) → not t ≡ true → t ≡ false
not_line_feed true e = sym e
not_line_feed false e = refl

pub limit_within : (n s : ℕ) → s ≤ n → (name_limit n s ≤ n) × (name_limit n s ≤ s + 64)
unfolding name_limit
limit_within n s h = by (dec_lt (n - s) 64)
  where
    by : Dec (n - s < 64) → (cond (ltb (n - s) 64) n (s + 64) ≤ n) × (cond (ltb (n - s) 64) n (s + 64) ≤ s + 64)
    by (yes l) = rw (lt-ltb (n - s) 64 l) (le_refl n, omega arith)
    by (no l) = rw (le-ltb (n - s) 64 (omega arith)) (omega arith, le_refl (s + 64))

pub limit_after : (n s : ℕ) → s + 1 ≤ n → s + 1 ≤ name_limit n s
unfolding name_limit
limit_after n s h = by (dec_lt (n - s) 64)
  where
    by : Dec (n - s < 64) → s + 1 ≤ cond (ltb (n - s) 64) n (s + 64)
    by (yes l) = rw (lt-ltb (n - s) 64 l) h
    by (no l) = rw (le-ltb (n - s) 64 (omega arith)) (omega arith)

module _ (text g : List ℕ) (small : (i : ℕ) → get_or text i 0 < 256) where
  space_passed : (i : ℕ) → i < length text → is_space (get_or text i 0) ≡ true → Passed text (idle_at 0 i) g (idle_at 0 (i + 1)) g
  unfolding action_at begins_at advanced_at held_after begun_at
  space_passed i h t =
      let b = get_or text i 0 in
      let k = class_number (class_of b) in
      passed_then text (idle_at 0 i) (advanced_at (idle_at 0 i) 16 b (length g)) (idle_at 0 (i + 1))
      (step_passes text (idle_at 0 i) b k 16 (le_refl i) h refl (small i) refl (rw (eqb-true k 2 t)) (omega arith) g)
      (passed_idle Idle.between text (advanced_at (idle_at 0 i) 16 b (length g)) (omega arith) refl g)

  pub spaces_passed : (from r : ℕ) → First is_space text from (length text) r → Passed text (idle_at 0 from) g (idle_at 0 r) g
  spaces_passed from r p =
      passed_run text g (λ i. idle_at 0 i) from r p.run.forth (passed_none text (idle_at 0 from) g (omega (arith, p.run.forth, p.within)) (le_refl from))
      (λ i a b. space_passed i (omega (arith, b, p.within)) (p.run.each i a b))

  comment_passed : (i : ℕ) → i < length text → in_line (get_or text i 0) ≡ true → Passed text (idle_at 5 i) g (idle_at 5 (i + 1)) g
  unfolding action_at advanced_at held_after begun_at
  comment_passed i h t =
      let b = get_or text i 0 in
      let k = class_number (class_of b) in
      passed_then text (idle_at 5 i) (advanced_at (idle_at 5 i) 21 b (length g)) (idle_at 5 (i + 1))
      (step_passes text (idle_at 5 i) b k 21 (le_refl i) h refl (small i) refl (rw (not_line_feed (eqb b 10) t)) (omega arith) g)
      (passed_idle Idle.comment text (advanced_at (idle_at 5 i) 21 b (length g)) (omega arith) refl g)

  pub line_passed : (from r : ℕ) → Run in_line text from r → r ≤ length text → Passed text (idle_at 5 from) g (idle_at 5 r) g
  line_passed from r p w =
      passed_run text g (λ i. idle_at 5 i) from r p.forth (passed_none text (idle_at 5 from) g (omega (arith, p.forth, w)) (le_refl from))
      (λ i a b. comment_passed i (omega (arith, b, w)) (p.each i a b))

  -- the LF that ends a comment
  pub comment_ended : (i : ℕ) → i < length text → in_line (get_or text i 0) ≡ false → Passed text (idle_at 5 i) g (begun_at 0 i 10) g
  unfolding action_at advanced_at held_after begun_at
  comment_ended i h t =
      let b = get_or text i 0 in
      step_passes text (idle_at 5 i) b (class_number (class_of b)) 16 (le_refl i) h refl (small i) refl (rw (line_feed (eqb b 10) t)) (omega arith) g
    where
      line_feed : (t : Bool) → not t ≡ false → t ≡ true
      line_feed true e = refl
      line_feed false e = sym e

  -- a comment up to the LF that ends it, or to the end of the text
  module _ (c : Lexer) (z : c.mode ≡ 5) (h : c.next < length text) (r : ℕ) (p : First in_line text c.next (length text) r) where
    up_to : Passed text c g (idle_at 5 r) g
    up_to = passed_then text c (idle_at 5 c.next) (idle_at 5 r) (passed_idle Idle.comment text c (omega arith) z g) (line_passed c.next r p.run p.within)

    pub comment_past : r < length text → Passed text c g (begun_at 0 r 10) g
    comment_past i = passed_then text c (idle_at 5 r) (begun_at 0 r 10) up_to (comment_ended r i (p.stops i))

    pub comment_to_end : length text ≤ r → Passed text c g (idle_at 5 r) g
    comment_to_end i = up_to

pub comment_forth : (n r : ℕ) → n ≤ r → n < (begun_at 0 r 10).next
unfolding begun_at
comment_forth n r h = omega arith

-- ---- a plain name that ends in the text

holds : {t : Bool} → t ≡ true → T t
holds e = subst⁻¹ (λ (t : Bool). T t) e tt

-- its bytes
in_name : (text : List ℕ) (n s : ℕ) → s + n ≤ length text → ((i : ℕ) → s ≤ i → i < s + n → name_byte (get_or text i 0) ≡ true) → T (all name_byte (take n (drop s text)))
in_name text zero s h k = tt
in_name text (suc n) s h k =
    rw (drop-cons text s 0 (omega arith))
    (yes_and (name_byte (get_or text s 0)) (all name_byte (take n (drop (suc s) text))) (holds (k s (le_refl s) (omega arith)))
    (in_name text n (suc s) (omega arith) (λ i a b. k i (omega (arith, a)) (omega (arith, b)))))

plain_bytes_law : (text : List ℕ) (s n : ℕ) → PlainTo text s (s + suc n) → T (plain_bytes (take (suc n) (drop s text)))
plain_bytes_law text s n p =
    rw (drop-cons text s 0 (omega (arith, p.within)))
    (yes_and (letter_byte (get_or text s 0)) (all name_byte (take n (drop (suc s) text))) (holds p.letter)
    (in_name text n (suc s) (omega (arith, p.within)) (λ i a b. p.run.each i (omega (arith, a)) (omega (arith, b)))))

module _ (text g : List ℕ) (s n : ℕ) (small : s < gathered_place) (p : PlainTo text s (s + suc n)) where
  bytes : List ℕ
  bytes = take (suc n) (drop s text)

  as_contents : bytes ≡ contents_in text g s (suc n)
  unfolding contents_in bytes
  as_contents = rw (ne_eqb s gathered_place (λ e. absurd (omega (arith, e))))

  count : length bytes ≡ suc n
  unfolding bytes
  count = length-take-le (suc n) (drop s text) (simp length-drop (omega (arith, p.within)))

  -- the text from there on
  onward : (more : List ℕ) → drop s text ++ more ≡ bytes ++ (get_or text (s + suc n) 0 ∷ (drop (s + suc n + 1) text ++ more))
  unfolding bytes
  onward more =
      ap (λ (xs : List ℕ). xs ++ more) (sym (take-append-drop (suc n) (drop s text)) ∙ ap (λ (xs : List ℕ). take (suc n) (drop s text) ++ xs) (drop-drop (suc n) s text))
      ∙ append_assoc (take (suc n) (drop s text)) (drop (s + suc n) text) more
      ∙ ap (λ (xs : List ℕ). take (suc n) (drop s text) ++ xs) (drop_here text (s + suc n) (get_or text (s + suc n) 0) p.within refl more)

  named_gives : (l : meaning.Lexer) → Stands g l (idle_at 0 s)
      → Gives text l (idle_at 0 s) (lexed_from (idle_at 0 (s + suc n)) (founds.Lexeme (place_at s) (lexemes.Plain s (suc n)))) g
  unfolding bytes
  named_gives l st =
      let z = st.room in
      let e : s ≡ l.next = st.next in
      record {
        one = meaning.token s (name_or_word bytes) ∷ [];
        finds =
            rw as_contents
            (Finds.lexeme (place_at s) _ _ (Means.plain s (suc n))
            (record { size = (omega arith, omega (arith, p.short)); room = omega (arith, p.short, z); part = λ k. omega (arith, p.within) })
            (omega (arith, p.within)));
        reaches =
            record {
              after = idle Mode.between (s + suc n);
              stands = stands_idle Idle.between g z (s + suc n);
              tokens =
                  λ more.
                  let rest = drop (s + suc n + 1) text ++ more in
                  ap (tokens_from l) (onward more)
                  ∙ plain_before l (mode_is g l (idle_at 0 s) Mode.between st refl) bytes (plain_bytes_law text s n p) (omega (arith, count, p.short)) (get_or text (s + suc n) 0) p.ends (idle Mode.between (s + suc n)) refl (omega (arith, count, e)) rest
                  ∙ ap (λ (k : ℕ). meaning.token k (name_or_word bytes) ∷ tokens_from (idle Mode.between (s + suc n)) (get_or text (s + suc n) 0 ∷ rest)) (sym e)
                  ∙ ap (λ (xs : List ℕ). meaning.token s (name_or_word bytes) ∷ tokens_from (idle Mode.between (s + suc n)) xs) (sym (drop_here text (s + suc n) (get_or text (s + suc n) 0) p.within refl more));
            };
      }

-- a plain name, found at once
pub plain_found : (text g : List ℕ) (s r : ℕ) → s < gathered_place → s < r → PlainTo text s r
    → Lexes text (idle_at 0 s) g (lexed_from (idle_at 0 r) (founds.Lexeme (place_at s) (lexemes.Plain s (r - s)))) g
plain_found text g s r small h p =
    let n = r - s - 1 in
    let e : r ≡ s + suc n = omega arith in
    let k : r - s ≡ suc n = omega arith in
    rw k (subst⁻¹ (λ (m : ℕ). Lexes text (idle_at 0 s) g (lexed_from (idle_at 0 m) (founds.Lexeme (place_at s) (lexemes.Plain s (suc n)))) g) e
    (record {
      forth = omega arith;
      within = omega (arith, p.within);
      order = le_refl (s + suc n);
      gives = named_gives text g s n small (subst (λ (m : ℕ). PlainTo text s m) e p);
    }))

-- a mark, with nothing open
pub mark_found : (text : List ℕ) (d : Lexer) (b k : ℕ) → d.start ≤ d.next → d.next < length text → b ≡ get_or text d.next 0 → b < 256 → k ≡ class_number (class_of b)
    → d.mode ≡ 0 → k ≡ 6 → (h : List ℕ) → Scanned text d h (lexed_from (begun_at 0 d.next b) (single_at 35 d.next b)) h
unfolding action_at begins_at finding_at
mark_found text d b k o h e small class z t = step_finds text d b k 35 o h e small class (rw (z, t)) (omega arith)

pub fresh_is : (m k n : ℕ) → fresh_at m k ≡ n → n < 7 → (m ≡ 0) × (k ≡ n)
unfolding fresh_at
fresh_is m k n = by (eqb m 0) refl
  where
    by : (t : Bool) → eqb m 0 ≡ t → cond t k 7 ≡ n → n < 7 → (m ≡ 0) × (k ≡ n)
    by true q e h = (eqb-true m 0 q, e)
    by false q e h = absurd (omega (arith, e))

-- ---- the end of the text

idle_ends : (l : meaning.Lexer) → tokens_from l [] ≡ ended l ++ tokens_from (idle Mode.between l.next) []
unfolding tokens_from lex_end ended
idle_ends l = refl

module _ (c : Lexer) where
  pub finished_idle : {m : Mode} → Idle m → c.mode ≡ mode_number m
      → LexerFinished c (lexed_from c (founds.Lexeme (place_at c.next) lexemes.End))
  unfolding tokens_from lex_end
  finished_idle {m} i e =
      record {
        gives =
            λ text h q l s o.
            Ending.end
            (record {
              found = refl;
              tokens = ap (λ (fs : List meaning.Found). fs ++ (meaning.Found.token l.next meaning.Token.end ∷ [])) (idle_none i l (mode_is h l c m s e));
            });
      }

  pub finished_open : (c.mode ≡ 0 → ⊥) → LexerFinished c (lexed_from (idle_at 0 c.next) (ended_at c))
  finished_open i =
      record {
        gives =
            λ text h q l s o.
            Ending.last
            (record {
              one = ended l;
              finds = ends_found text h l c s o (omega (arith, q));
              idle = refl;
              less = left_closed text c i;
              after = idle Mode.between l.next;
              stands = rw s.next (stands_idle Idle.between h s.room l.next);
              tokens = idle_ends l;
            });
      }
