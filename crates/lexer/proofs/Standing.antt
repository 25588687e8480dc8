-- The lexer's numbers after a byte stand for the definition's lexer after it. Assumes nothing.
use mathlib.Core.Bool.{Bool, true, false, cond}
use mathlib.Core.Path.{◌≡◌, refl, sym, ap, ◌∙◌, subst}
use mathlib.Core.List.{List, [], ◌∷◌, ◌++◌, append_assoc}
use Prim.Native.Nat.{ℕ, zero, suc, ◌+◌, ◌-◌, ◌*◌, ◌≤◌, ◌<◌}
use native.Mathlib.Nat.{le_refl, le_of_lt}
use native.Mathlib.Numerals.{add-one}
use native.Mathlib.Omega.{arith}
use lib.Dec.{eqb, ltb, lit<, lit≤}
use lib.ListN.{length, take, drop, get_or, set, length-set}
use lib.Seq.{take-suc, take-set-le, get_or-set_same, length-take-le, drop-cons}
use borrow.Author.Tests.{lt-ltb}
use Rattle.language.specs.Bytes.{hex_value}
use Rattle.language.specs.Tokens as meaning
use Rattle.language.specs.Tokens.{Mode, begin, ends, ended, ended_as, name_or_word, decimal_digit, hexadecimal_digit, longer_name, waiting_name, longer_number, lex_step, tokens_from}
use Rattle.instructions.specs.Ranges.{beyond}
use Rattle.lexer.specs.declared.Lexer.{Lexer}
use Rattle.lexer.specs.declared.Lexeme.TheVariants as lexemes
use Rattle.lexer.specs.declared.Found.{Found}
use Rattle.lexer.specs.declared.Found.TheVariants as founds
use Rattle.std.specs.Prelude.{Option, Some, None, is_none, unwrap_or}
use Rattle.lexer.specs.Numbers.{amount_of, amount_said, grown_at}
use Rattle.lexer.specs.Contents.{gathered_place, contents_in, counted_at}
use Rattle.lexer.specs.Actions.{mode_number}
use Rattle.lexer.specs.Lexing.{held, Sized, Valued, Stands, Means, Lies, Finds, Gives, lexer_from, idle_at, lexed_from, place_at}
use Rattle.lexer.specs.Advancing.{begun_at, single_at, ended_at, longer_at, gathering_at, held_at, number_at, counted_by, advanced_at, held_after, finding_at}
use Rattle.lexer.proofs.Amounts.{grown_amount, amount_back}
use Rattle.lexer.proofs.Acting.{Begins, Act, Named, Counting, Room}
use Rattle.language.proofs.TokenSteps.{tokens_step, Idle, idle}

-- ---- contents

-- one byte more of them
take_kept : (h : List ℕ) (n b : ℕ) → n < length h → take (n + 1) (set h n b) ≡ take n h ++ (b ∷ [])
take_kept h n b i =
    rw (add-one, take-suc (set h n b) n 0 (simp length-set i), take-set-le n h n b (le_refl n), get_or-set_same h n b 0 i)

counted_more : (room n : ℕ) → n < room → counted_at room n ≡ n + 1
unfolding counted_at
counted_more room n i = rw (lt-ltb n room i)

-- what is gathered, by its place
pub gathered_is : (text h : List ℕ) (n : ℕ) → contents_in text h gathered_place n ≡ take n h
unfolding contents_in
gathered_is text h n = refl

empty_one : ◌≡◌ {A = List ℕ} [] (0 ∷ []) → ⊥
empty_one e = let n : ◌≡◌ {A = ℕ} 0 1 = ap length e in absurd (omega (arith, n))

-- ---- the text

-- the text from a byte on, and whatever comes after it
pub drop_here : (text : List ℕ) (p b : ℕ) → p < length text → b ≡ get_or text p 0 → (more : List ℕ) → drop p text ++ more ≡ b ∷ (drop (p + 1) text ++ more)
drop_here text p b h e more =
    let s : suc p ≡ p + 1 = omega arith in
    let d : drop p text ≡ get_or text p 0 ∷ drop (p + 1) text = rw s at (drop-cons text p 0 h) in
    rw (d, e)

-- ---- a byte that begins something

amount_zero : Some 0 ≡ amount_of 0
unfolding amount_of
amount_zero = refl

amount_small : (n : ℕ) → n < 256 → Some n ≡ amount_of n
unfolding amount_of
amount_small n h = rw (lt-ltb n beyond (omega arith))

none_zero : (v : Option ℕ) → is_none v ≡ true → unwrap_or v 0 ≡ 0
none_zero None e = refl
none_zero (Some n) e = absurd (cc)

-- a lexer that begins something at p, with no contents yet
stands_at : {h : List ℕ} (m : Mode) (p : ℕ) (g : Bool) (v n : ℕ) → length h ≡ 64 → [] ≡ held m (take v h) → Sized m v → Valued m (Some v) n
    → Stands h (record { mode = m; next = p + 1; start = p; bytes = []; negative = g; value = n }) (lexer_from (mode_number m) (p + 1) p g v false)
stands_at m p g v n room none z a = record { room = room; mode = refl; next = refl; start = refl; bytes = none; size = z; negative = refl; amount = a; zeroed = λ z e. absurd (cc) }

pub stands_idle : {m : Mode} → Idle m → (h : List ℕ) → length h ≡ 64 → (p : ℕ) → Stands h (idle m p) (idle_at (mode_number m) p)
stands_idle Idle.between h r p = record { room = r; mode = refl; next = refl; start = refl; bytes = refl; size = tt; negative = refl; amount = amount_zero; zeroed = λ z e. absurd (cc) }
stands_idle Idle.comment h r p = record { room = r; mode = refl; next = refl; start = refl; bytes = refl; size = tt; negative = refl; amount = amount_zero; zeroed = λ z e. absurd (cc) }

-- a letter is the first byte of contents
letter_stands : (h : List ℕ) → length h ≡ 64 → (p b : ℕ)
    → Stands (held_at 0 1 b h) (meaning.begun_name Mode.plain p b) (gathering_at (idle_at 1 p) 1 (length h))
unfolding held_at gathering_at
letter_stands h r p b =
    rw (counted_more (length h) 0 (omega arith))
    (record { room = simp length-set r; mode = refl; next = refl; start = refl; bytes = sym (take_kept h 0 b (omega arith)); size = (lit≤ tt, lit≤ tt); negative = refl; amount = tt; zeroed = λ o e. absurd (empty_one (sym o)) })

module _ (h : List ℕ) (room : length h ≡ 64) (p b : ℕ) (s : b < 256) where
  pub enters : {a : ℕ} {x : meaning.Lexed} → Begins p b a x → a < 32 → (a ≡ 17 → ⊥) → Stands h x.lexer (begun_at (a - 16) p b)
  unfolding begun_at
  enters Begins.space i n = stands_at Mode.between p false 0 0 room refl tt amount_zero
  enters Begins.letter i n = absurd (n refl)
  enters Begins.quote i n = stands_at Mode.quoted p false 0 0 room refl (lit≤ tt) tt
  enters Begins.slash i n = stands_at Mode.slash p false 0 0 room refl tt amount_zero
  enters Begins.comment i n = stands_at Mode.comment p false 0 0 room refl tt amount_zero
  enters Begins.sign i n = stands_at Mode.sign p (eqb b 45) 0 0 room refl tt amount_zero
  enters Begins.zero i n = stands_at Mode.leading_zero p false (b - 48) (b - 48) room refl tt (amount_small (b - 48) (omega arith))
  enters Begins.digit i n = stands_at Mode.decimal p false (b - 48) (b - 48) room refl tt (amount_small (b - 48) (omega arith))
  enters Begins.mark i n = absurd (omega arith)
  enters Begins.other i n = absurd (omega arith)

-- what it was by itself
pub singles : (text h : List ℕ) (p b : ℕ) → p < length text → {a : ℕ} {x : meaning.Lexed} → Begins p b a x → 32 ≤ a → Finds text h (single_at a p b) x.found
unfolding single_at
singles text h p b l Begins.space i = absurd (omega arith)
singles text h p b l Begins.letter i = absurd (omega arith)
singles text h p b l Begins.quote i = absurd (omega arith)
singles text h p b l Begins.slash i = absurd (omega arith)
singles text h p b l Begins.comment i = absurd (omega arith)
singles text h p b l Begins.sign i = absurd (omega arith)
singles text h p b l Begins.zero i = absurd (omega arith)
singles text h p b l Begins.digit i = absurd (omega arith)
singles text h p b l Begins.mark i = Finds.lexeme (place_at p) (lexemes.Mark b) (meaning.Token.mark b) (Means.mark b) tt (omega arith)
singles text h p b l Begins.other i = Finds.stray (place_at p)

-- ---- a byte that finds nothing

-- contents have 64 bytes at most
few : (m : Mode) (n : ℕ) → ((xs : List ℕ) → held m xs ≡ xs) → Sized m n → n ≤ 64
few Mode.between n k z = absurd (empty_one (k (0 ∷ [])))
few Mode.plain n k z = z.1
few Mode.quoted n k z = z
few Mode.escaping n k z = z
few Mode.slash n k z = absurd (empty_one (k (0 ∷ [])))
few Mode.comment n k z = absurd (empty_one (k (0 ∷ [])))
few Mode.sign n k z = absurd (empty_one (k (0 ∷ [])))
few Mode.leading_zero n k z = absurd (empty_one (k (0 ∷ [])))
few Mode.decimal n k z = absurd (empty_one (k (0 ∷ [])))
few Mode.prefix n k z = absurd (empty_one (k (0 ∷ [])))
few Mode.hexadecimal n k z = absurd (empty_one (k (0 ∷ [])))

module _ (h : List ℕ) (l : meaning.Lexer) (c : Lexer) (s : Stands h l c) (b : ℕ) (small : b < 256) where
  -- the contents, and how many they are
  contents : Named l → l.bytes ≡ take c.value h
  contents k = s.bytes ∙ k (take c.value h)

  count : Named l → length l.bytes ≡ c.value
  count k = rw (contents k) (length-take-le c.value h (omega (arith, s.room, few l.mode c.value k s.size)))

  -- one byte more, in a mode that any size suits
  one_more : (m : Mode) → Named l → Room l 1 → ((xs : List ℕ) → held m xs ≡ xs) → Sized m (c.value + 1) → Valued m (Some (c.value + 1)) 0
      → Stands (set h c.value b) (longer_name m l (b ∷ [])) (longer_at c (mode_number m) (counted_at (length h) c.value))
  one_more m k i n z v =
      let less : c.value < length h = omega (arith, count k, i, s.room) in
      rw (counted_more (length h) c.value less)
      (record {
        room = simp length-set s.room;
        mode = refl;
        next = ap (λ (n : ℕ). n + 1) s.next;
        start = s.start;
        bytes = ap (λ (xs : List ℕ). xs ++ (b ∷ [])) (contents k) ∙ sym (take_kept h c.value b less) ∙ sym (n (take (c.value + 1) (set h c.value b)));
        size = z;
        negative = refl;
        amount = v;
        zeroed = λ o e. absurd (empty_one (sym o ∙ n (0 ∷ [])));
      })

  two_more : Named l → Room l 2
      → Stands (set (set h c.value 92) (counted_at (length h) c.value) b) (longer_name Mode.quoted l (92 ∷ b ∷ [])) (longer_at c 2 (counted_at (length h) (counted_at (length h) c.value)))
  two_more k i =
      let n = c.value in
      let less : n < length h = omega (arith, count k, i, s.room) in
      let next : n + 1 < length h = omega (arith, count k, i, s.room) in
      let g = set h n 92 in
      rw (counted_more (length h) n less, counted_more (length h) (n + 1) next)
      (record {
        room = simp length-set s.room;
        mode = refl;
        next = ap (λ (n : ℕ). n + 1) s.next;
        start = s.start;
        bytes =
            ap (λ (xs : List ℕ). xs ++ (92 ∷ b ∷ [])) (contents k) ∙ sym (append_assoc (take n h) (92 ∷ []) (b ∷ []))
            ∙ ap (λ (xs : List ℕ). xs ++ (b ∷ [])) (sym (take_kept h n 92 less))
            ∙ sym (take_kept g (n + 1) b (simp length-set next));
        size = omega (arith, count k, i);
        negative = refl;
        amount = tt;
        zeroed = λ o e. absurd (empty_one (sym o));
      })

  waits : Named l → Room l 0 → Stands h (waiting_name l) (longer_at c 3 c.value)
  waits k i =
      record {
        room = s.room;
        mode = refl;
        next = ap (λ (n : ℕ). n + 1) s.next;
        start = s.start;
        bytes = contents k;
        size = omega (arith, count k, i);
        negative = refl;
        amount = tt;
        zeroed = λ o e. absurd (empty_one (sym o));
      }

  longer_number_law : (m : Mode) (n : ℕ) (v : Option ℕ) → ((xs : List ℕ) → [] ≡ held m xs) → Sized m (unwrap_or v 0) → Valued m v n
      → Stands h (longer_number m l n) (number_at c (mode_number m) v)
  longer_number_law m n v e z q =
      record {
        room = s.room;
        mode = refl;
        next = ap (λ (k : ℕ). k + 1) s.next;
        start = s.start;
        bytes = e (take (unwrap_or v 0) h);
        size = z;
        negative = s.negative;
        amount = rw (amount_back v) q;
        zeroed = λ o e. none_zero v e;
      }

  -- a number's value so far
  ten : Counting l → grown_at (amount_said c.value c.over) 10 (b - 48) ≡ amount_of (10 * l.value + (b - 48))
  ten k = grown_amount (amount_said c.value c.over) l.value 10 (b - 48) (lit< tt) (k (amount_said c.value c.over) l.value s.amount)

  sixteen : Counting l → grown_at (amount_said c.value c.over) 16 (hex_value b) ≡ amount_of (16 * l.value + hex_value b)
  sixteen k = grown_amount (amount_said c.value c.over) l.value 16 (hex_value b) (lit< tt) (k (amount_said c.value c.over) l.value s.amount)

  begun_advances : {a : ℕ} {x : meaning.Lexed} → Begins l.next b a x → a < 32 → (a ≡ 17 → ⊥)
      → (advanced_at c a b (length h) ≡ begun_at (a - 16) l.next b) × (held_after c a b h ≡ h)
  unfolding advanced_at held_after
  begun_advances Begins.space i n = (rw s.next, refl)
  begun_advances Begins.letter i n = absurd (n refl)
  begun_advances Begins.quote i n = (rw s.next, refl)
  begun_advances Begins.slash i n = (rw s.next, refl)
  begun_advances Begins.comment i n = (rw s.next, refl)
  begun_advances Begins.sign i n = (rw s.next, refl)
  begun_advances Begins.zero i n = (rw s.next, refl)
  begun_advances Begins.digit i n = (rw s.next, refl)
  begun_advances Begins.mark i n = absurd (omega arith)
  begun_advances Begins.other i n = absurd (omega arith)

  begins_stands : {a : ℕ} {x : meaning.Lexed} → Begins l.next b a x → a < 32 → (a ≡ 17 → ⊥) → Stands (held_after c a b h) x.lexer (advanced_at c a b (length h))
  begins_stands g i n =
      let e = begun_advances g i n in
      rw (e.0, e.1) (enters h s.room l.next b small g i n)

  pub advances : {a : ℕ} {x : meaning.Lexed} → Act l b a x → a < 32 → Stands (held_after c a b h) x.lexer (advanced_at c a b (length h))
  unfolding advanced_at held_after gathering_at held_at counted_by decimal_digit hexadecimal_digit
  advances (Act.plain k i) j = one_more Mode.plain k i (λ xs. refl) (omega arith, omega (arith, count k, i)) tt
  advances (Act.quoted k i) j = one_more Mode.quoted k i (λ xs. refl) (omega (arith, count k, i)) tt
  advances (Act.waiting k i) j = waits k i
  advances (Act.waiting_next k i) j = one_more Mode.escaping k i (λ xs. refl) (omega (arith, count k, i)) tt
  advances (Act.both k i) j = two_more k i
  advances (Act.zero k) j = longer_number_law Mode.leading_zero _ _ (λ xs. refl) tt (ten k)
  advances (Act.decimal k) j = longer_number_law Mode.decimal _ _ (λ xs. refl) tt (ten k)
  advances Act.prefix j = longer_number_law Mode.prefix 0 (Some 0) (λ xs. refl) tt amount_zero
  advances (Act.hexadecimal k) j = longer_number_law Mode.hexadecimal _ _ (λ xs. refl) tt (sixteen k)
  advances (Act.begins Begins.space) j = begins_stands Begins.space j (λ e. absurd (omega (arith, e)))
  advances (Act.begins Begins.letter) j = rw s.next (letter_stands h s.room l.next b)
  advances (Act.begins Begins.quote) j = begins_stands Begins.quote j (λ e. absurd (omega (arith, e)))
  advances (Act.begins Begins.slash) j = begins_stands Begins.slash j (λ e. absurd (omega (arith, e)))
  advances (Act.begins Begins.comment) j = begins_stands Begins.comment j (λ e. absurd (omega (arith, e)))
  advances (Act.begins Begins.sign) j = begins_stands Begins.sign j (λ e. absurd (omega (arith, e)))
  advances (Act.begins Begins.zero) j = begins_stands Begins.zero j (λ e. absurd (omega (arith, e)))
  advances (Act.begins Begins.digit) j = begins_stands Begins.digit j (λ e. absurd (omega (arith, e)))
  advances (Act.begins Begins.mark) j = absurd (omega arith)
  advances (Act.begins Begins.other) j = absurd (omega arith)
  advances Act.ending j = absurd (omega arith)
  advances Act.spoiling j = absurd (omega arith)
  advances (Act.closing k i n) j = absurd (omega arith)

  pub advances_quietly : {a : ℕ} {x : meaning.Lexed} → Act l b a x → a < 32 → x.found ≡ []
  unfolding decimal_digit hexadecimal_digit
  advances_quietly (Act.plain h k) i = refl
  advances_quietly (Act.quoted h k) i = refl
  advances_quietly (Act.waiting h k) i = refl
  advances_quietly (Act.waiting_next h k) i = refl
  advances_quietly (Act.both h k) i = refl
  advances_quietly (Act.zero k) i = refl
  advances_quietly (Act.decimal k) i = refl
  advances_quietly Act.prefix i = refl
  advances_quietly (Act.hexadecimal k) i = refl
  advances_quietly (Act.begins Begins.space) i = refl
  advances_quietly (Act.begins Begins.letter) i = refl
  advances_quietly (Act.begins Begins.quote) i = refl
  advances_quietly (Act.begins Begins.slash) i = refl
  advances_quietly (Act.begins Begins.comment) i = refl
  advances_quietly (Act.begins Begins.sign) i = refl
  advances_quietly (Act.begins Begins.zero) i = refl
  advances_quietly (Act.begins Begins.digit) i = refl
  advances_quietly (Act.begins Begins.mark) i = absurd (omega arith)
  advances_quietly (Act.begins Begins.other) i = absurd (omega arith)
  advances_quietly Act.ending i = absurd (omega arith)
  advances_quietly Act.spoiling i = absurd (omega arith)
  advances_quietly (Act.closing h k n) i = absurd (omega arith)

-- ---- what is open, ended

module _ (text h : List ℕ) (l : meaning.Lexer) (c : Lexer) (s : Stands h l c) (order : c.start ≤ c.next)
    (within : c.next ≤ length text) where
  numbered : Counting l → Finds text h (founds.Lexeme (place_at c.start) (lexemes.Number c.negative (amount_said c.value c.over)))
      (meaning.Found.token l.start (meaning.Token.number l.negative l.value) ∷ [])
  numbered k =
      rw (← s.start, ← s.negative)
      (Finds.lexeme (place_at c.start) _ _ (Means.number c.negative _ l.value (k (amount_said c.value c.over) l.value s.amount)) tt (omega arith))

  strayed : Finds text h (founds.Stray (place_at c.start)) (meaning.Found.stray l.start ∷ [])
  strayed = rw (← s.start) (Finds.stray (place_at c.start))

  -- contents that are gathered
  gathered : (n : ℕ) → 1 ≤ n → n ≤ 64 → Lies text h gathered_place n
  gathered n i j = record { size = (i, j); room = omega (arith, s.room); part = λ k. absurd (k refl) }

  named : l.mode ≡ Mode.plain
      → Finds text h (founds.Lexeme (place_at c.start) (lexemes.Plain gathered_place c.value)) (meaning.Found.token l.start (name_or_word l.bytes) ∷ [])
  named q =
      let z = subst (λ (m : Mode). Sized m c.value) q s.size in
      rw (← s.start, s.bytes ∙ ap (λ (m : Mode). held m (take c.value h)) q ∙ sym (gathered_is text h c.value))
      (Finds.lexeme (place_at c.start) _ _ (Means.plain gathered_place c.value) (gathered c.value z.0 z.1) (omega arith))

  ends_as : (m : Mode) → l.mode ≡ m → c.mode ≡ mode_number m → Finds text h (ended_at c) (ended_as m l)
  unfolding ended_at
  ends_as Mode.between q k = rw k Finds.nothing
  ends_as Mode.plain q k = rw k (named q)
  ends_as Mode.quoted q k = rw k strayed
  ends_as Mode.escaping q k = rw k strayed
  ends_as Mode.slash q k = rw k strayed
  ends_as Mode.comment q k = rw k Finds.nothing
  ends_as Mode.sign q k = rw k strayed
  ends_as Mode.leading_zero q k = rw k (numbered (λ v n a. subst (λ (m : Mode). Valued m v n) q a))
  ends_as Mode.decimal q k = rw k (numbered (λ v n a. subst (λ (m : Mode). Valued m v n) q a))
  ends_as Mode.prefix q k = rw k strayed
  ends_as Mode.hexadecimal q k = rw k (numbered (λ v n a. subst (λ (m : Mode). Valued m v n) q a))

  pub ends_found : Finds text h (ended_at c) (ended l)
  unfolding ended
  ends_found = ends_as l.mode refl s.mode

-- ---- a byte that finds something

module _ (text h : List ℕ) (l : meaning.Lexer) (c : Lexer) (s : Stands h l c) (b : ℕ) (order : c.start ≤ c.next)
    (within : c.next < length text) (e : b ≡ get_or text c.next 0) (small : b < 256) where
  -- the same, at the definition's place
  inside : l.next < length text
  inside = rw s.next at within

  between : Stands h (meaning.begun Mode.between l.next) (begun_at 0 c.next b)
  unfolding begun_at
  between = rw s.next (stands_at Mode.between l.next false 0 0 s.room refl tt amount_zero)

  -- a byte that ends what is open and is then taken with nothing open
  ends_gives : ((bs : List ℕ) → tokens_from l (b ∷ bs) ≡ (ends l b).found ++ tokens_from (ends l b).lexer bs) → Gives text l c (lexed_from (idle_at 0 c.next) (ended_at c)) h
  unfolding ends lex_step
  ends_gives step =
      record {
        one = ended l;
        finds = ends_found text h l c s order (le_of_lt within);
        reaches =
            record {
              after = idle Mode.between l.next;
              stands = rw s.next (stands_idle Idle.between h s.room l.next);
              tokens =
                  λ more.
                  let rest = drop (c.next + 1) text ++ more in
                  let x = begin l.next b in
                  rw (drop_here text c.next b within e more)
                  (step rest ∙ append_assoc (ended l) x.found (tokens_from x.lexer rest)
                  ∙ ap (λ (fs : List meaning.Found). ended l ++ fs) (sym (tokens_step (idle Mode.between l.next) b rest)));
            };
      }

  closed : Named l → Room l 0 → (length l.bytes ≡ 0 → ⊥)
      → Finds text h (founds.Lexeme (place_at c.start) (lexemes.Quoted gathered_place c.value)) (meaning.Found.token l.start (meaning.Token.name l.bytes) ∷ [])
  closed k i n =
      let z = count h l c s b small k in
      rw (← s.start, contents h l c s b small k ∙ sym (gathered_is text h c.value))
      (Finds.lexeme (place_at c.start) _ _ (Means.quoted gathered_place c.value) (gathered text h l c s order (le_of_lt within) c.value (some c.value (λ e. n (z ∙ e))) (omega (arith, z, i))) (omega arith))
    where
      some : (n : ℕ) → (n ≡ 0 → ⊥) → 1 ≤ n
      some zero k = absurd (k refl)
      some (suc n) k = omega arith

  -- one thing found, and nothing open after it
  alone : {f : Found} {m : meaning.Found}
      → ((bs : List ℕ) → tokens_from l (b ∷ bs) ≡ m ∷ tokens_from (meaning.begun Mode.between l.next) bs)
      → Finds text h f (m ∷ []) → Gives text l c (lexed_from (begun_at 0 c.next b) f) h
  unfolding begun_at
  alone {f} {m} step k =
      record {
        one = m ∷ [];
        finds = k;
        reaches =
            record {
              after = meaning.begun Mode.between l.next;
              stands = between;
              tokens = λ more. rw (drop_here text c.next b within e more) (step (drop (c.next + 1) text ++ more));
            };
      }

  single_gives : {a : ℕ} {x : meaning.Lexed} → Begins l.next b a x → 32 ≤ a
      → ((bs : List ℕ) → tokens_from l (b ∷ bs) ≡ x.found ++ tokens_from x.lexer bs) → Gives text l c (finding_at c a b) h
  unfolding finding_at
  single_gives Begins.space i = absurd (omega arith)
  single_gives Begins.letter i = absurd (omega arith)
  single_gives Begins.quote i = absurd (omega arith)
  single_gives Begins.slash i = absurd (omega arith)
  single_gives Begins.comment i = absurd (omega arith)
  single_gives Begins.sign i = absurd (omega arith)
  single_gives Begins.zero i = absurd (omega arith)
  single_gives Begins.digit i = absurd (omega arith)
  single_gives Begins.mark i = λ step. alone step (rw s.next (singles text h l.next b inside Begins.mark i))
  single_gives Begins.other i = λ step. alone step (rw s.next (singles text h l.next b inside Begins.other i))

  pub finds_gives : {a : ℕ} {x : meaning.Lexed} → Act l b a x → 32 ≤ a
      → ((bs : List ℕ) → tokens_from l (b ∷ bs) ≡ x.found ++ tokens_from x.lexer bs) → Gives text l c (finding_at c a b) h
  unfolding finding_at
  finds_gives (Act.plain h k) i = absurd (omega arith)
  finds_gives (Act.quoted h k) i = absurd (omega arith)
  finds_gives (Act.waiting h k) i = absurd (omega arith)
  finds_gives (Act.waiting_next h k) i = absurd (omega arith)
  finds_gives (Act.both h k) i = absurd (omega arith)
  finds_gives (Act.zero k) i = absurd (omega arith)
  finds_gives (Act.decimal k) i = absurd (omega arith)
  finds_gives Act.prefix i = absurd (omega arith)
  finds_gives (Act.hexadecimal k) i = absurd (omega arith)
  finds_gives (Act.begins h) i = single_gives h i
  finds_gives Act.ending i = ends_gives
  finds_gives Act.spoiling i = λ step. alone step (rw (← s.start) (Finds.stray (place_at c.start)))
  finds_gives (Act.closing k i n) j = λ step. alone step (closed k i n)
