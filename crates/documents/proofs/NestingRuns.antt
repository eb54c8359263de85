-- The count of levels, byte by byte and past runs: bytes of comments, bytes of strings between their quotes and
-- backslashes, and others outside both that are no marks change nothing.
use Rattle.std.proofs.Common.{◌≡◌, ℕ, ◌<◌, ◌≤◌, ◌==◌, ◌++◌, Bool, true, false, List, [], ◌∷◌, length, take, drop, refl}
use Rattle.std.proofs.Common.{ap, sym, ◌∙◌, arith}
use Rattle.std.specs.Prelude.{◌||◌, Option, Some, None, if◌then◌else◌}
use Rattle.std.specs.List.{All}
use Rattle.std.proofs.lemmas.List.{length-take-le, take-append-drop}
use Rattle.std.proofs.lemmas.List.Elements.{All-head, All-tail}
use Rattle.documents.specs.declared.nesting.Context.{Context}
use Rattle.documents.specs.declared.nesting.Context.TheVariants.{Bare, Comment, OneQuote, Line, Lines}
use Rattle.documents.specs.Nesting.{Levels, after, closes, counted_at, is_mark, opens, stays_shallow}

-- ---- byte by byte

is_counted : (r : Bool) (l next : Levels) (o : Option Levels) → r ≡ true →
    (if r then Some next else None) ≡ o → o ≡ Some next
is_counted true l next o e counts = sym counts
is_counted false l next o e counts = cc

is_refused : (r : Bool) (next : Levels) (o : Option Levels) → r ≡ false →
    (if r then Some next else None) ≡ o → o ≡ None
is_refused true next o e counts = cc
is_refused false next o e counts = sym counts

pub goes_on_behind : (context : Context) (l next : Levels) (bytes others : List ℕ) (b : ℕ) (r : Bool) →
    r ≡ true → (if r then Some next else None) ≡ counted_at context l b → bytes ≡ b ∷ others →
    stays_shallow context l bytes ≡ stays_shallow (after context b) next others
unfolding stays_shallow
goes_on_behind context l next bytes others b r e counts is =
    let some : counted_at context l b ≡ Some next = is_counted r l next _ e counts in
    rw (is, some) refl

pub ends_at : (context : Context) (l next : Levels) (bytes others : List ℕ) (b : ℕ) (r : Bool) →
    r ≡ false → (if r then Some next else None) ≡ counted_at context l b → bytes ≡ b ∷ others →
    stays_shallow context l bytes ≡ false
unfolding stays_shallow
ends_at context l next bytes others b r e counts is =
    let none : counted_at context l b ≡ None = is_refused r next _ e counts in
    rw (is, none) refl

pub ends_with_text : (context : Context) (l : Levels) (bytes : List ℕ) → length bytes ≡ 0 →
    stays_shallow context l bytes ≡ true
unfolding stays_shallow
ends_with_text context l [] e = refl
ends_with_text context l (b ∷ bs) e = absurd (omega arith)

-- ---- runs

or_first : (a b : Bool) → (a || b) ≡ false → a ≡ false
or_first true b e = e
or_first false b e = refl

or_second : (a b : Bool) → (a || b) ≡ false → b ≡ false
or_second true true e = e
or_second true false e = refl
or_second false b e = e

-- the byte changes nothing there
record Stays (context : Context) (b : ℕ) : Type 0 where
  context_is : after context b ≡ context
  levels_are : (l : Levels) → counted_at context l b ≡ Some l

stays_in_comment : (b : ℕ) → (b == 10 || b == 10) ≡ false → Stays Comment b
stays_in_comment b e =
    let line : (b == 10) ≡ false = or_first _ _ e in
    record { context_is = rw line refl; levels_are = λ l. rw line refl }

stays_in_line : (quote b : ℕ) → (b == quote || b == 92) ≡ false → Stays (Line quote) b
stays_in_line quote b e =
    let other : (b == quote) ≡ false = or_first _ _ e in
    let plain : (b == 92) ≡ false = or_second _ _ e in
    record { context_is = rw (other, plain) refl; levels_are = λ l. refl }

stays_in_lines : (quote b : ℕ) → (b == quote || b == 92) ≡ false → Stays (Lines quote 0) b
stays_in_lines quote b e =
    let other : (b == quote) ≡ false = or_first _ _ e in
    let plain : (b == 92) ≡ false = or_second _ _ e in
    record { context_is = rw (other, plain) refl; levels_are = λ l. refl }

stays_at_word : (b : ℕ) → is_mark b ≡ false → Stays Bare b
stays_at_word b e =
    let front = or_first ((opens b || closes b) || (b == 46 || b == 44)) _ e in
    let back = or_second ((opens b || closes b) || (b == 46 || b == 44)) _ e in
    let brackets = or_first (opens b || closes b) _ front in
    let opening : opens b ≡ false = or_first _ _ brackets in
    let closing : closes b ≡ false = or_second (opens b) _ brackets in
    let points = or_second (opens b || closes b) _ front in
    let dot : (b == 46) ≡ false = or_first _ _ points in
    let comma : (b == 44) ≡ false = or_second (b == 46) _ points in
    let signs = or_first (b == 61 || b == 10) _ back in
    let equals : (b == 61) ≡ false = or_first _ _ signs in
    let line : (b == 10) ≡ false = or_second (b == 61) _ signs in
    let others = or_second (b == 61 || b == 10) _ back in
    let hash : (b == 35) ≡ false = or_first _ _ others in
    let quote : (b == 34 || b == 39) ≡ false = or_second (b == 35) _ others in
    record {
      context_is = rw (hash, quote) refl;
      levels_are = λ l. rw (opening, closing, dot, comma, equals, line) refl;
    }

run_stays : (context : Context) (l : Levels) (P : ℕ → Type 0) → ((b : ℕ) → P b → Stays context b) →
    (run rest : List ℕ) → All P run → stays_shallow context l (run ++ rest) ≡ stays_shallow context l rest
unfolding stays_shallow
run_stays context l P stays [] rest h = refl
run_stays context l P stays (b ∷ bs) rest h =
    let here : Stays context b = stays b (All-head P b bs h) in
    let levels_are : counted_at context l b ≡ Some l = here.levels_are l in
    rw (levels_are, here.context_is) (run_stays context l P stays bs rest (All-tail P b bs h))

-- .. of a front that a search found
run_passed : (context : Context) (P : ℕ → Type 0) → ((b : ℕ) → P b → Stays context b) → (bytes : List ℕ) (n : ℕ) →
    All P (take n bytes) → (l : Levels) → stays_shallow context l bytes ≡ stays_shallow context l (drop n bytes)
run_passed context P stays bytes n h l =
    ap (stays_shallow context l) (sym (take-append-drop n bytes))
    ∙ run_stays context l P stays (take n bytes) (drop n bytes) h

pub words_passed : (bytes : List ℕ) (n : ℕ) → All (λ b. is_mark b ≡ false) (take n bytes) →
    (l : Levels) → stays_shallow Bare l bytes ≡ stays_shallow Bare l (drop n bytes)
words_passed bytes n h = run_passed Bare (λ b. is_mark b ≡ false) stays_at_word bytes n h

pub comment_passed : (bytes : List ℕ) (n : ℕ) → All (λ b. (b == 10 || b == 10) ≡ false) (take n bytes) →
    (l : Levels) → stays_shallow Comment l bytes ≡ stays_shallow Comment l (drop n bytes)
comment_passed bytes n h = run_passed Comment (λ b. (b == 10 || b == 10) ≡ false) stays_in_comment bytes n h

pub line_passed : (quote : ℕ) (bytes : List ℕ) (n : ℕ) →
    All (λ b. (b == quote || b == 92) ≡ false) (take n bytes) →
    (l : Levels) → stays_shallow (Line quote) l bytes ≡ stays_shallow (Line quote) l (drop n bytes)
line_passed quote bytes n h =
    run_passed (Line quote) (λ b. (b == quote || b == 92) ≡ false) (stays_in_line quote) bytes n h

pub lines_passed : (quote quotes : ℕ) (bytes : List ℕ) (n : ℕ) → quotes ≡ 0 →
    All (λ b. (b == quote || b == 92) ≡ false) (take n bytes) → (l : Levels) →
    stays_shallow (Lines quote quotes) l bytes ≡ stays_shallow (Lines quote quotes) l (drop n bytes)
lines_passed quote quotes bytes n none h =
    rw none (run_passed (Lines quote 0) (λ b. (b == quote || b == 92) ≡ false) (stays_in_lines quote) bytes n h)

-- ---- strings of one line

begins_line : (quote : ℕ) (l : Levels) (run rest : List ℕ) → 0 < length run →
    All (λ b. (b == quote || b == 92) ≡ false) run →
    stays_shallow (OneQuote quote) l (run ++ rest) ≡ stays_shallow (Line quote) l rest
unfolding stays_shallow
begins_line quote l [] rest some h = absurd (omega arith)
begins_line quote l (b ∷ bs) rest some h =
    let here = All-head (λ b. (b == quote || b == 92) ≡ false) b bs h in
    let other : (b == quote) ≡ false = or_first _ _ here in
    let plain : (b == 92) ≡ false = or_second _ _ here in
    rw (other, plain) (run_stays (Line quote) l (λ b. (b == quote || b == 92) ≡ false) (stays_in_line quote) bs rest
    (All-tail (λ b. (b == quote || b == 92) ≡ false) b bs h))

same_number : (a b : ℕ) → a ≡ b → (a == b) ≡ true
same_number a b e = grind arith

ends_line : (quote last : ℕ) (l : Levels) (others : List ℕ) → last ≡ quote →
    stays_shallow (Line quote) l (last ∷ others) ≡ stays_shallow Bare l others
unfolding stays_shallow
ends_line quote last l others e =
    let is : (last == quote) ≡ true = same_number last quote e in
    rw is refl

pub string_passed : (quote last : ℕ) (bytes others : List ℕ) (n : ℕ) → 0 < n → n ≤ length bytes →
    All (λ b. (b == quote || b == 92) ≡ false) (take n bytes) → drop n bytes ≡ last ∷ others → last ≡ quote →
    (l : Levels) → stays_shallow (OneQuote quote) l bytes ≡ stays_shallow Bare l others
string_passed quote last bytes others n some within h behind e l =
    ap (stays_shallow (OneQuote quote) l) (sym (take-append-drop n bytes))
    ∙ begins_line quote l (take n bytes) (drop n bytes) (omega (arith, length-take-le n bytes within)) h
    ∙ ap (stays_shallow (Line quote) l) behind
    ∙ ends_line quote last l others e
