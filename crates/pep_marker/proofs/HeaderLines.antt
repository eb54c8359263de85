-- The lines of a header: they have no line feed, and what reading them finds.
use Rattle.std.proofs.Common.{◌≡◌, ◌≢◌, ℕ, ◌+◌, ◌≤◌, ◌==◌, ◌&&◌, Bool, true, false, not, List, [], ◌∷◌, ◌++◌}
use Rattle.std.proofs.Common.{ap, subst, ◌∙◌, append_assoc, arith, codes, get_or, map, refl, sym, zero, suc}
use Rattle.std.proofs.Common.{◌-◌, drop, length, take}
use Rattle.std.specs.Borrow.{Bor}
use Rattle.std.specs.Prelude.{IsTrue, Some, bytes_eq, nat_lt, slice_get, ◌↔◌}
use Rattle.std.specs.Char.{to_ascii_lowercase}
use Rattle.std.specs.List.{AllByRecursion, AllZip, list_all}
use Rattle.std.proofs.lemmas.Bool.Decides.{nat_tests}
use Rattle.std.proofs.lemmas.List.{append_cancel_left, take_all}
use Rattle.std.proofs.lemmas.Slice.Eq.{bytes_eq-Decides}
use Rattle.texts.specs.Bytes.{is_separator}
use Rattle.texts.specs.Lines.{HasNoFeed, is_not_feed, line, written}
use Rattle.texts.proofs.Connectives.{and_first, and_from, and_second}
use Rattle.texts.proofs.CutLists.{all_append}
use Rattle.texts.proofs.LineLemmas.{first_line_one, no_line_in}
use Rattle.pep_version.proofs.NormalTexts.{list_all-weaker}
use Rattle.pep_marker.specs.declared.environment.Variable.{Variable}
use Rattle.pep_marker.specs.declared.environment.Variable.TheVariants.{Extra}
use Rattle.pep_marker.specs.declared.header.HeaderIn.{HeaderIn}
use Rattle.pep_marker.specs.declared.header.HeaderIn.TheVariants.{Missing, Own, Other, Bad}
use Rattle.pep_marker.specs.Environment.{EnvironmentParts, IsEnvironment, is_value, place}
use Rattle.pep_marker.specs.Environment.{value_of, variable_name, variables}
use Rattle.pep_marker.specs.Header.{DifferAt, FindsHeader, further}
use Rattle.pep_marker.specs.Way.HeaderLines.{FindsLines, IsHeaderValue}
use Rattle.pep_marker.specs.Header.{form_line, header, header_line, header_lines}
use Rattle.pep_marker.specs.Way.HeaderLines.{found_behind}
use Rattle.pep_marker.specs.Header.{header_value, here, named_line}
use Rattle.pep_marker.specs.Way.HeaderLines.{named_lines}
use Rattle.pep_marker.specs.Name.{begins_with_separator, normalized}
use Rattle.pep_marker.proofs.NormalNames.{normalized-twice}
use Rattle.pep_marker.proofs.VariableLemmas.{at_place, by_places}

-- ---- the lines of a header have no line feed

abbrev is_value_byte : ℕ → Bool
is_value_byte b = nat_lt 31 b && not (b == 127)

value_byte_feed : (b : ℕ) → is_value_byte b ≡ true → is_not_feed b ≡ true
value_byte_feed b h = grind (arith, nat_tests)

lower_value : (b : ℕ) → is_value_byte b ≡ true → is_value_byte (to_ascii_lowercase b) ≡ true
lower_value b h = grind (arith, nat_tests)

normal_value : (x : List ℕ) → list_all is_value_byte x ≡ true →
    list_all is_value_byte (normalized x) ≡ true
normal_value [] h = refl
normal_value (b ∷ x) h =
    by (is_separator b) refl (begins_with_separator x) refl
    (normal_value x (and_second (is_value_byte b) (list_all is_value_byte x) h))
  where
    by : (s : Bool) → is_separator b ≡ s → (t : Bool) → begins_with_separator x ≡ t →
        list_all is_value_byte (normalized x) ≡ true →
        list_all is_value_byte (normalized (b ∷ x)) ≡ true
    by true e true f rest = rw (e, f) rest
    by true e false f rest = rw (e, f) rest
    by false e t f rest =
        rw e
        (and_from (is_value_byte (to_ascii_lowercase b)) (list_all is_value_byte (normalized x))
        (lower_value b (and_first (is_value_byte b) (list_all is_value_byte x) h)) rest)

pub value_feed : (e : EnvironmentParts) → IsEnvironment e → (v : Variable) → HasNoFeed (header_value e v)
value_feed e is Extra =
    list_all-weaker is_value_byte is_not_feed value_byte_feed (normalized (value_of e Extra))
    (normal_value (value_of e Extra) (is Extra))
value_feed e is v =
    list_all-weaker is_value_byte is_not_feed value_byte_feed (value_of e v) (is v)

abbrev pub front : Variable → List ℕ
front v = codes "env " ++ variable_name v ++ codes "="

front_feed : (v : Variable) → HasNoFeed (front v)
front_feed Extra = refl
front_feed _ = refl

pub lines_feed : (e : EnvironmentParts) → IsEnvironment e → (vs : List Variable) →
    AllByRecursion HasNoFeed (map (header_line e) vs)
lines_feed e is [] = tt
lines_feed e is (v ∷ vs) = (
  all_append is_not_feed (front v) (header_value e v) (front_feed v) (value_feed e is v),
  lines_feed e is vs,
)

-- ---- the line of a variable

plain_value : (v : Variable) (x : List ℕ) → IsHeaderValue v x → IsTrue (is_value x)
plain_value Extra x h = h.0
plain_value v x h = h

named_feed : (v : Variable) (x : List ℕ) → IsHeaderValue v x → HasNoFeed (named_line v x)
named_feed v x h =
    all_append is_not_feed (front v) x (front_feed v)
    (list_all-weaker is_value_byte is_not_feed value_byte_feed x (plain_value v x h))

pub no_value_line : (text : List ℕ) (v : Variable) → HasNoFeed text → (x rest : List ℕ) →
    ¬ (text ≡ line (named_line v x) ++ rest)
no_value_line text v h x rest e = no_line_in text (named_line v x) rest h e

first_is : (text first rest : List ℕ) (v : Variable) → text ≡ first ++ 10 ∷ rest → HasNoFeed first →
    (x back : List ℕ) → IsHeaderValue v x → text ≡ line (named_line v x) ++ back →
    (first ≡ named_line v x) × (rest ≡ back)
first_is text first rest v cut h x back is e =
    first_line_one first (named_line v x) rest back h (named_feed v x is)
    (append_assoc first (10 ∷ []) rest ∙ sym cut ∙ e)

pub other_line : (text first rest : List ℕ) (v : Variable) → text ≡ first ++ 10 ∷ rest →
    HasNoFeed first → ((x : List ℕ) → ¬ (first ≡ named_line v x)) → (x back : List ℕ) →
    IsHeaderValue v x → ¬ (text ≡ line (named_line v x) ++ back)
other_line text first rest v cut h none x back is e =
    none x (first_is text first rest v cut h x back is e).0

pub bad_value : (text first rest value : List ℕ) (v : Variable) → text ≡ first ++ 10 ∷ rest →
    HasNoFeed first → first ≡ named_line v value → ¬ IsHeaderValue v value → (x back : List ℕ) →
    IsHeaderValue v x → ¬ (text ≡ line (named_line v x) ++ back)
bad_value text first rest value v cut h named none x back is e =
    let same = first_is text first rest v cut h x back is e in
    let one = append_cancel_left (front v) x value (sym same.0 ∙ named) in
    none (subst (IsHeaderValue v) one is)

-- ---- the lines of some variables

value_is : (e : EnvironmentParts) → IsEnvironment e → (v : Variable) → IsHeaderValue v (header_value e v)
value_is e is Extra = (normal_value (value_of e Extra) (is Extra), normalized-twice (value_of e Extra))
value_is e is v = is v

values_are : (e : EnvironmentParts) → IsEnvironment e → (vs : List Variable) →
    AllZip IsHeaderValue vs (map (header_value e) vs)
values_are e is [] = tt
values_are e is (v ∷ vs) = (value_is e is v, values_are e is vs)

own_lines : (e : EnvironmentParts) (vs : List Variable) →
    named_lines vs (map (header_value e) vs) ≡ map (header_line e) vs
own_lines e [] = refl
own_lines e (v ∷ vs) = ap (λ ls. header_line e v ∷ ls) (own_lines e vs)

module _ (e : EnvironmentParts) (is : IsEnvironment e) (v : Variable) (vs : List Variable)
    (text mid value : List ℕ) (fits : IsHeaderValue v value)
    (cut : text ≡ line (named_line v value) ++ mid) where
  more : (ls : List (List ℕ)) (rest : List ℕ) → mid ≡ written ls ++ rest →
      text ≡ written (named_line v value ∷ ls) ++ rest
  more ls rest same =
      cut ∙ ap (λ y. line (named_line v value) ++ y) same
      ∙ sym (append_assoc (line (named_line v value)) (written ls) rest)

  still_bad : ((xs : List (List ℕ)) (rest : List ℕ) → AllZip IsHeaderValue vs xs →
      ¬ (mid ≡ written (named_lines vs xs) ++ rest)) → (xs : List (List ℕ)) (rest : List ℕ) →
      AllZip IsHeaderValue (v ∷ vs) xs → ¬ (text ≡ written (named_lines (v ∷ vs) xs) ++ rest)
  still_bad none [] rest all same = all
  still_bad none (x ∷ xs) rest all same =
      let both = first_line_one (named_line v value) (named_line v x) mid
      (written (named_lines vs xs) ++ rest) (named_feed v value fits) (named_feed v x all.0)
      (sym cut ∙ same ∙ append_assoc (line (named_line v x)) (written (named_lines vs xs)) rest) in
      none xs rest all.1 both.1

  differs : value ≢ header_value e v → header_line e v ≢ named_line v value
  differs other same = other (sym (append_cancel_left (front v) (header_value e v) value same))

  -- behind the line that is due
  pub finds_due : value ≡ header_value e v → (found : HeaderIn) → FindsLines e vs mid found →
      FindsLines e (v ∷ vs) text (found_behind true found)
  finds_due due Missing h = h
  finds_due due (Own rest) h =
      subst (λ x. text ≡ written (named_line v x ∷ map (header_line e) vs) ++ rest.now) due
      (more (map (header_line e) vs) rest.now h)
  finds_due due (Other n rest) (xs, all, same, differ) = (
    value ∷ xs,
    (fits, all),
    more (named_lines vs xs) rest.now same,
    further (ap (named_line v) (sym due)) differ,
  )
  finds_due due (Bad rest) h = still_bad h

  -- behind another
  pub finds_other : value ≢ header_value e v → (found : HeaderIn) → FindsLines e vs mid found →
      FindsLines e (v ∷ vs) text (found_behind false found)
  finds_other other Missing h = h
  finds_other other (Own rest) h =
      let own = ap (λ ls. written ls ++ rest.now) (sym (own_lines e vs)) in (
        value ∷ map (header_value e) vs,
        (fits, values_are e is vs),
        more (named_lines vs (map (header_value e) vs)) rest.now (h ∙ own),
        here (differs other),
      )
  finds_other other (Other n rest) (xs, all, same, differ) =
      (value ∷ xs, (fits, all), more (named_lines vs xs) rest.now same, here (differs other))
  finds_other other (Bad rest) h = still_bad h

  pub finds_behind : (b : Bool) → (b ≡ true ↔ value ≡ header_value e v) → (found : HeaderIn) →
      FindsLines e vs mid found → FindsLines e (v ∷ vs) text (found_behind b found)
  finds_behind true told found h = finds_due (told.0 refl) found h
  finds_behind false told found h = finds_other (λ same. cc (told.1 same)) found h

-- ---- the rows of the code's table

abbrev Row : Type 0
Row = Variable × Bor (List ℕ)

rows_split : {A : Type 0} (rows : List A) (d : A) → 1 ≤ length rows →
    rows ≡ get_or rows 0 d ∷ take (length rows - 1) (drop 1 rows)
rows_split [] d h = absurd (omega (arith, h))
rows_split (r ∷ rows) d h = ap (λ rs. r ∷ rs) (sym (take_all (length (r ∷ rows) - 1) rows (omega arith)))

pub finds_rows : (e : EnvironmentParts) → IsEnvironment e → (rows : List Row) (d : Row)
    (text mid value : List ℕ) (b : Bool) (found result : HeaderIn) → 1 ≤ length rows →
    IsHeaderValue (get_or rows 0 d).0 value →
    text ≡ line (named_line (get_or rows 0 d).0 value) ++ mid →
    b ≡ bytes_eq value (header_value e (get_or rows 0 d).0) →
    FindsLines e (map (λ r. r.0) (take (length rows - 1) (drop 1 rows))) mid found →
    result ≡ found_behind b found → FindsLines e (map (λ r. r.0) rows) text result
finds_rows e is rows d text mid value b found result some fits cut told h made =
    let v = (get_or rows 0 d).0 in
    let others = take (length rows - 1) (drop 1 rows) in
    let due = bytes_eq-Decides value (header_value e v) in
    let whole =
    finds_behind e is v (map (λ r. r.0) others) text mid value fits cut b
    ((λ yes. due.0 (sym told ∙ yes)), λ same. told ∙ due.1 same) found h in
    subst (λ (rs : List Row). FindsLines e (map (λ r. r.0) rs) text result)
    (sym (rows_split rows d some))
    (subst (FindsLines e (v ∷ map (λ r. r.0) others) text) (sym made) whole)

-- ---- the environment of the values

at_same : (R : Variable → List ℕ → Type 0) (vs : List Variable) (xs : List (List ℕ)) →
    AllZip R vs xs → (i : ℕ) (v : Variable) → slice_get vs i ≡ Some v → R v (get_or xs i [])
at_same R [] [] all i v e = cc e
at_same R [] (x ∷ xs) all i v e = absurd all
at_same R (w ∷ vs) [] all i v e = absurd all
at_same R (w ∷ vs) (x ∷ xs) all zero v e =
    let same : w ≡ v = cc e in subst (λ u. R u x) same all.0
at_same R (w ∷ vs) (x ∷ xs) all (suc i) v e = at_same R vs xs all.1 i v e

abbrev of_values : List (List ℕ) → EnvironmentParts
of_values xs = record { texts = xs }

value_at : (xs : List (List ℕ)) → AllZip IsHeaderValue variables xs → (v : Variable) →
    IsHeaderValue v (value_of (of_values xs) v)
value_at xs all v = at_same IsHeaderValue variables xs all (place v) v (at_place v)

of_values-is : (xs : List (List ℕ)) → AllZip IsHeaderValue variables xs → IsEnvironment (of_values xs)
of_values-is xs all v = plain_value v (value_of (of_values xs) v) (value_at xs all v)

value_length : (R : Variable → List ℕ → Type 0) (vs : List Variable) (xs : List (List ℕ)) → AllZip R vs xs →
    length xs ≡ length vs
value_length R [] [] all = refl
value_length R [] (x ∷ xs) all = absurd all
value_length R (v ∷ vs) [] all = absurd all
value_length R (v ∷ vs) (x ∷ xs) all = ap suc (value_length R vs xs all.1)

-- a header has these texts as they are
as_given : (xs : List (List ℕ)) → AllZip IsHeaderValue variables xs → (v : Variable) →
    value_of (of_values xs) v ≡ header_value (of_values xs) v
as_given xs all Extra = sym (value_at xs all Extra).1
as_given xs all _ = refl

of_values-lines : (xs : List (List ℕ)) → AllZip IsHeaderValue variables xs →
    map (header_line (of_values xs)) variables ≡ named_lines variables xs
of_values-lines xs all =
    let each : xs ≡ map (header_value (of_values xs)) variables =
    by_places xs [] (value_length IsHeaderValue variables xs all)
    ∙ (λ i. map (λ v. as_given xs all v i) variables) in
    sym (ap (named_lines variables) each ∙ own_lines (of_values xs) variables)

-- ---- the header

pub finds_header : (e : EnvironmentParts) (text mid : List ℕ) → text ≡ line form_line ++ mid →
    (found : HeaderIn) → FindsLines e variables mid found → FindsHeader e text (found_behind true found)
finds_header e text mid cut Missing h = absurd h
finds_header e text mid cut (Own rest) h =
    cut ∙ ap (λ y. line form_line ++ y) h
    ∙ sym (append_assoc (line form_line) (written (map (header_line e) variables)) rest.now)
finds_header e text mid cut (Other n rest) (xs, all, same, differ) =
    let f = of_values xs in
    let lines = of_values-lines xs all in (
      f,
      of_values-is xs all,
      cut ∙ ap (λ y. line form_line ++ y) same
          ∙ sym (append_assoc (line form_line) (written (named_lines variables xs)) rest.now)
          ∙ ap (λ ls. written (form_line ∷ ls) ++ rest.now) (sym lines),
      subst (λ ls. DifferAt (header_lines e) (form_line ∷ ls) (n + 1)) (sym lines) (further refl differ),
    )
finds_header e text mid cut (Bad rest) h = ((mid, cut), none)
  where
    none : (f : EnvironmentParts) (back : List ℕ) → IsEnvironment f → ¬ (text ≡ header f ++ back)
    none f back is same =
        let due : mid ≡ written (map (header_line f) variables) ++ back =
        append_cancel_left (line form_line) mid (written (map (header_line f) variables) ++ back)
        (sym cut ∙ same ∙ append_assoc (line form_line) (written (map (header_line f) variables)) back) in
        h (map (header_value f) variables) back (values_are f is variables)
        (due ∙ ap (λ ls. written ls ++ back) (sym (own_lines f variables)))
