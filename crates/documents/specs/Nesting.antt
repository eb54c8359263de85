-- How deep a TOML document nests (TOML 1.1), by its brackets, dots and headers. Outside strings and comments each
-- open bracket counts as one level, and so does each part of the header above and each part of a dotted key
-- behind its first.
use Rattle.std.specs.Prelude.{ℕ, ◌+◌, ◌-◌, ◌==◌, ◌&&◌, ◌||◌, Bool, true, false, not, nat_le, nat_lt, if◌then◌else◌}
use Rattle.std.specs.Prelude.{List, [], ◌∷◌, ◌++◌, length, take, Option, Some, None, slice_get}
use Rattle.documents.specs.declared.nesting.Context.{Context}
use Rattle.documents.specs.declared.nesting.Context.TheVariants.{Bare, Comment, OneQuote, TwoQuotes, Line}
use Rattle.documents.specs.declared.nesting.Context.TheVariants.{LineEscape, Lines, LinesEscape, Closed}

-- the most levels
abbrev pub level_limit : ℕ
level_limit = 700

-- the most brackets in one another: the reader of TOML has the same limit
abbrev pub bracket_limit : ℕ
bracket_limit = 80

-- ---- strings and comments

-- behind a byte outside them: `#` begins a comment, `"` and `'` a string
abbrev pub after_bare : ℕ → Context
after_bare b = if b == 35 then Comment else if b == 34 || b == 39 then OneQuote b else Bare

-- `\` in a string between `"`
abbrev pub is_escape : ℕ → ℕ → Bool
is_escape quote b = b == 92 && quote == 34

abbrev pub after_in_line : ℕ → ℕ → Context
after_in_line quote b = if b == quote then Bare else if is_escape quote b then LineEscape else Line quote

-- three quotes in turn end a string of several lines, and two more may belong to it
abbrev pub after_quote : ℕ → ℕ → Context
after_quote quote quotes = if nat_le 2 quotes then Closed quote 0 else Lines quote (quotes + 1)

abbrev pub after_in_lines : ℕ → ℕ → ℕ → Context
after_in_lines quote quotes b =
    if b == quote then after_quote quote quotes else if is_escape quote b then LinesEscape else Lines quote 0

-- where the next byte stands
abbrev pub after : Context → ℕ → Context
after Bare b = after_bare b
after Comment b = if b == 10 then Bare else Comment
after (OneQuote quote) b = if b == quote then TwoQuotes quote else after_in_line quote b
after (TwoQuotes quote) b = if b == quote then Lines quote 0 else after_bare b
after (Line quote) b = after_in_line quote b
after LineEscape b = Line 34
after (Lines quote quotes) b = after_in_lines quote quotes b
after LinesEscape b = Lines 34 0
after (Closed quote more) b =
    if b == quote && not (nat_le 2 more) then Closed quote (more + 1) else after_bare b

-- a byte that stands there lies outside strings and comments, or is the line feed that ends a comment
abbrev pub is_bare : Context → ℕ → Bool
is_bare Bare b = true
is_bare Comment b = b == 10
is_bare (TwoQuotes quote) b = not (b == quote)
is_bare (Closed quote more) b = not (b == quote) || nat_le 2 more
is_bare _ b = false

-- ---- levels

-- how many levels there are at a place of the text
pub record Levels : Type 0 where
  -- those of the header above, of all open brackets, and of the keys in front of them and here
  pub here : ℕ
  -- the same without the key here: those where this line, this element or this pair began
  pub base : ℕ
  -- for each open bracket the base in front of it, that of the innermost last
  pub outer : List ℕ
  -- behind an `=` of this line or around it, where a bracket is that of a value; else it is that of a header
  pub is_value : Bool

abbrev pub no_levels : Levels
no_levels = record { here = 0; base = 0; outer = []; is_value = false }

-- behind a dot: one level more, or `None` where there are as many as may be
abbrev pub at_dot : Levels → Option Levels
at_dot l = if nat_lt l.here level_limit then Some (record l { here = l.here + 1 }) else None

abbrev pub can_open : Levels → Bool
can_open l = nat_lt l.here level_limit && nat_lt (length l.outer) bracket_limit

-- behind an opening bracket of a value
abbrev pub with_bracket : Levels → Levels
with_bracket l = record { here = l.here + 1; base = l.here + 1; outer = l.outer ++ l.base ∷ []; is_value = true }

-- behind an opening bracket: that of a header begins the count again, with the header's first part
abbrev pub at_opening : Levels → Option Levels
at_opening l =
    if not l.is_value then Some (record l { here = 1 })
    else if can_open l then Some (with_bracket l)
    else None

abbrev pub back_to : Levels → Option ℕ → Levels
back_to l None = l
back_to l (Some base) =
    record { here = base; base = base; outer = take (length l.outer - 1) l.outer; is_value = l.is_value }

-- behind a closing bracket: as in front of the one that it closes, and of that one's key
abbrev pub at_closing : Levels → Levels
at_closing l = back_to l (slice_get l.outer (length l.outer - 1))

-- the levels at which the next line begins, outside of all brackets: those of the header above
abbrev pub next_line : Levels → ℕ
next_line l = if l.is_value then l.base else l.here

abbrev pub at_line_feed : Levels → Levels
at_line_feed l =
    if length l.outer == 0
    then record { here = next_line l; base = next_line l; outer = l.outer; is_value = false }
    else l

-- `[`, `{`
abbrev pub opens : ℕ → Bool
opens b = b == 91 || b == 123

-- `]`, `}`
abbrev pub closes : ℕ → Bool
closes b = b == 93 || b == 125

-- a byte that may make a level more: an opening bracket, or `.`
abbrev pub deepens : ℕ → Bool
deepens b = opens b || b == 46

-- a byte that begins, ends or counts something outside strings and comments
abbrev pub is_mark : ℕ → Bool
is_mark b =
    ((opens b || closes b) || (b == 46 || b == 44)) || ((b == 61 || b == 10) || (b == 35 || (b == 34 || b == 39)))

-- behind a byte outside strings and comments: `,` begins an element or a pair, and `=` a value
abbrev pub counted : Levels → ℕ → Option Levels
counted l b =
    if opens b then at_opening l
    else if closes b then Some (at_closing l)
    else if b == 46 then at_dot l
    else if b == 44 then Some (record l { here = l.base })
    else if b == 61 then Some (record l { is_value = true })
    else if b == 10 then Some (at_line_feed l)
    else Some l

abbrev pub counted_at : Context → Levels → ℕ → Option Levels
counted_at context l b = if is_bare context b then counted l b else Some l

abbrev pub goes_on : (Levels → Bool) → Option Levels → Bool
goes_on f (Some l) = f l
goes_on f None = false

-- nowhere in the bytes are there too many levels, where there are these in front of them
unfoldable pub stays_shallow : Context → Levels → List ℕ → Bool
stays_shallow context l [] = true
stays_shallow context l (b ∷ bs) =
    goes_on (λ next. stays_shallow (after context b) next bs) (counted_at context l b)

-- nowhere in the document are there over 700 levels, or over 80 open brackets
abbrev pub is_shallow : List ℕ → Bool
is_shallow bytes = stays_shallow Bare no_levels bytes
