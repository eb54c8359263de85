-- A URL of the common form is a URL that is printed as it is written.
use Rattle.std.proofs.Common.{◌≡◌, ℕ, ◌<◌, ◌⊎◌, Bool, true, false, not, ◌&&◌, ◌||◌, ◌==◌, List, [], ◌∷◌}
use Rattle.std.proofs.Common.{◌++◌, length, Some, None, Ok, All, refl, sym, ap, ◌∙◌, subst, inl, inr}
use Rattle.std.proofs.Common.{append_assoc, append-nil, arith}
use Rattle.std.specs.Prelude.{Option, IfSome, ◌≢◌, ◌-◌, suc, zero, slice_index, nat_lt, codes, is_some, unwrap_or, if◌then◌else◌}
use Rattle.std.specs.List.{list_all}
use Rattle.std.specs.Char.{is_ascii_digit, is_digit, to_ascii_lowercase}
use Rattle.std.proofs.lemmas.Bool.{and_from}
use Rattle.std.proofs.lemmas.Bool.Decides.{nat_tests}
use Rattle.std.proofs.lemmas.List.Elements.{All-nil, All-cons}
use Rattle.percent_encoding.specs.Percent.{IsKept}
use Rattle.percent_encoding.specs.declared.ascii_set.TheConstants.{CONTROLS}
use Rattle.std.proofs.lemmas.List.Folds.{list_all-append}
use Rattle.url.specs.declared.sets.TheConstants.{FORBIDDEN_DOMAIN, FORBIDDEN_HOST, FRAGMENT, PATH, QUERY, SPECIAL_QUERY, USERINFO}
use Rattle.url.specs.declared.host.Host.TheVariants.{Domain}
use Rattle.url.specs.declared.scheme.SchemeType.TheVariants.{File, NotSpecial, SpecialNotFile}
use Rattle.url.specs.declared.scheme.SchemeType.{SchemeType}
use Rattle.url.specs.Canonical.{IsCanonical}
use Rattle.url.specs.Host.{IsDomain, IsDomainOf, IsOpaqueHost}
use Rattle.url.specs.Input.{lowercase, rsplit_once, rsplit_step, when}
use Rattle.url.specs.Ipv4.{ends_in_a_number, is_number, last_label_of, parse_number}
use Rattle.url.specs.Parser.{parse_url}
use Rattle.url.specs.Parts.{IsHierarchicalPath, IsValid, Parts, query_set, serialize}
use Rattle.url.specs.Path.{IsSegment, dot_count, ends_in_space, join_segments}
use Rattle.url.specs.Scheme.{IsScheme, default_port, is_slash, scheme_len, scheme_type}
use Rattle.url.proofs.SetLemmas.{kept_from_passes}
use Rattle.url.proofs.Theorems.{parse_url-serialize, parse_url-serialize_special}
use Rattle.texts.specs.Runs.{begins}
use Rattle.texts.proofs.Connectives.{and-false, and_first, and_second}
use Rattle.pep_require.specs.CommonUrl.{IsBehindScheme, IsCommonUrl, IsOwnText, at_next}
use Rattle.pep_require.specs.CommonUrl.{behind_path, behind_spot, goes_on}
use Rattle.pep_require.specs.CommonUrl.{is_label_byte, is_lower_letter, is_path_byte, is_tail_byte}
use Rattle.pep_require.specs.Reads.{ReadsUrl, is_url_byte}
use Rattle.pep_require.specs.declared.common_url.Spot.{Spot}
use Rattle.pep_require.specs.declared.common_url.Spot.TheVariants.{Label, Word, Other, Segment}
use Rattle.pep_require.specs.declared.common_url.Spot.TheVariants.{Path, Query, Fragment}

-- ---- bytes that nothing escapes

path_ascii : (b : ℕ) → is_path_byte b ≡ true → b < 128
path_ascii b e = grind (arith, nat_tests)

tail_ascii : (b : ℕ) → is_tail_byte b ≡ true → b < 128
tail_ascii b e = grind (arith, nat_tests)

path_kept : (b : ℕ) → is_path_byte b ≡ true → IsKept PATH b
path_kept b e = kept_from_passes is_path_byte PATH refl b (path_ascii b e) e

query_kept : (kind : SchemeType) (b : ℕ) → is_tail_byte b ≡ true → IsKept (query_set kind) b
query_kept File b e = kept_from_passes is_tail_byte SPECIAL_QUERY refl b (tail_ascii b e) e
query_kept SpecialNotFile b e = kept_from_passes is_tail_byte SPECIAL_QUERY refl b (tail_ascii b e) e
query_kept NotSpecial b e = kept_from_passes is_tail_byte QUERY refl b (tail_ascii b e) e

fragment_kept : (b : ℕ) → is_tail_byte b ≡ true → IsKept FRAGMENT b
fragment_kept b e = kept_from_passes is_tail_byte FRAGMENT refl b (tail_ascii b e) e

abbrev is_host_byte : ℕ → Bool
is_host_byte b = is_label_byte b || b == 46

host_ascii : (b : ℕ) → is_host_byte b ≡ true → b < 128
host_ascii b e = grind (arith, nat_tests)

host_byte_kept : (b : ℕ) → is_host_byte b ≡ true → IsKept FORBIDDEN_DOMAIN b
host_byte_kept b e = kept_from_passes is_host_byte FORBIDDEN_DOMAIN refl b (host_ascii b e) e

opaque_byte_kept : (b : ℕ) → is_host_byte b ≡ true → IsKept FORBIDDEN_HOST b
opaque_byte_kept b e = kept_from_passes is_host_byte FORBIDDEN_HOST refl b (host_ascii b e) e

no_control : (b : ℕ) → is_host_byte b ≡ true → IsKept CONTROLS b
no_control b e = kept_from_passes is_host_byte CONTROLS refl b (host_ascii b e) e

-- ---- the fragment

abbrev IsFragment : List ℕ → Type 0
IsFragment x = All (IsKept FRAGMENT) x

fragment_step : (b : ℕ) (x : List ℕ) → (goes_on Fragment x ≡ true → IsFragment x) →
    goes_on Fragment (b ∷ x) ≡ true → IsFragment (b ∷ x)
fragment_step b x more h = by (is_tail_byte b) refl h
  where
    by : (t : Bool) → is_tail_byte b ≡ t →
        at_next (if t then Some Fragment else None) (λ next. goes_on next x) ≡ true →
        IsFragment (b ∷ x)
    by true e h = All-cons (IsKept FRAGMENT) b x (fragment_kept b e) (more h)
    by false e h = cc h

fragment_of : (x : List ℕ) → goes_on Fragment x ≡ true → IsFragment x
fragment_of [] h = All-nil (IsKept FRAGMENT)
fragment_of (b ∷ x) h = fragment_step b x (fragment_of x) h

abbrev fragment_text : Option (List ℕ) → List ℕ
fragment_text None = []
fragment_text (Some x) = 35 ∷ x

-- ---- the query

record Queried (kind : SchemeType) (x : List ℕ) : Type 0 where
  front : List ℕ
  behind : Option (List ℕ)
  text : x ≡ front ++ fragment_text behind
  kept : All (IsKept (query_set kind)) front
  kept_behind : IfSome behind IsFragment

query_step : (kind : SchemeType) (b : ℕ) (x : List ℕ) → (goes_on Query x ≡ true → Queried kind x) →
    at_next (if b == 35 then Some Fragment else (if is_tail_byte b then Some Query else None))
    (λ next. goes_on next x) ≡ true → Queried kind (b ∷ x)
query_step kind b x more h = by (b == 35) refl h
  where
    by_tail : (t : Bool) → is_tail_byte b ≡ t →
        at_next (if t then Some Query else None) (λ next. goes_on next x) ≡ true → Queried kind (b ∷ x)
    by_tail true e h = record {
      front = b ∷ (more h).front;
      behind = (more h).behind;
      text = ap (λ y. b ∷ y) (more h).text;
      kept = All-cons (IsKept (query_set kind)) b (more h).front (query_kept kind b e) (more h).kept;
      kept_behind = (more h).kept_behind;
    }
    by_tail false e h = cc h

    is_mark : (b == 35) ≡ true → b ≡ 35
    is_mark e = grind (arith, nat_tests)

    by : (t : Bool) → (b == 35) ≡ t →
        at_next (if t then Some Fragment else (if is_tail_byte b then Some Query else None))
        (λ next. goes_on next x) ≡ true → Queried kind (b ∷ x)
    by true e h = record {
      front = [];
      behind = Some x;
      text = ap (λ c. c ∷ x) (is_mark e);
      kept = All-nil (IsKept (query_set kind));
      kept_behind = fragment_of x h;
    }
    by false e h = by_tail (is_tail_byte b) refl h

query_of : (kind : SchemeType) (x : List ℕ) → goes_on Query x ≡ true → Queried kind x
query_of kind [] h = record {
  front = [];
  behind = None;
  text = refl;
  kept = All-nil (IsKept (query_set kind));
  kept_behind = tt;
}
query_of kind (b ∷ x) h = query_step kind b x (query_of kind x) h

abbrev tail_text : Option (List ℕ) → Option (List ℕ) → List ℕ
tail_text None fragment = fragment_text fragment
tail_text (Some query) fragment = 63 ∷ query ++ fragment_text fragment

-- ---- the path

abbrev IsWhole : SchemeType → List ℕ → Type 0
IsWhole kind x = All (λ b. is_slash kind b ≡ false) x

-- the bytes up to the next slash, the segments behind them, the query and the fragment
record Segmented (kind : SchemeType) (x : List ℕ) : Type 0 where
  first : List ℕ
  more : List (List ℕ)
  query : Option (List ℕ)
  fragment : Option (List ℕ)
  text : x ≡ first ++ (join_segments more ++ tail_text query fragment)
  escaped : All (IsKept PATH) first
  whole : IsWhole kind first
  each : All (IsSegment kind) more
  kept_query : IfSome query (All (IsKept (query_set kind)))
  kept_fragment : IfSome fragment IsFragment

abbrev Started : SchemeType → List ℕ → Type 0
Started kind x = (s : Segmented kind x) × (dot_count s.first ≡ 0)

-- what begins with this byte, or has none
abbrev Behind : SchemeType → ℕ → List ℕ → Type 0
Behind kind b x = (s : Segmented kind (b ∷ x)) × ((s.first ≡ []) ⊎ ((rest : List ℕ) × (s.first ≡ b ∷ rest)))

no_slash : (kind : SchemeType) (b : ℕ) → is_path_byte b ≡ true → is_slash kind b ≡ false
no_slash File b e = grind (arith, nat_tests)
no_slash SpecialNotFile b e = grind (arith, nat_tests)
no_slash NotSpecial b e = grind (arith, nat_tests)

abbrev ended : (kind : SchemeType) (x : List ℕ) (query fragment : Option (List ℕ)) → x ≡ tail_text query fragment →
    IfSome query (All (IsKept (query_set kind))) → IfSome fragment IsFragment → Segmented kind x
ended kind x query fragment text kept_query kept_fragment = record {
  first = [];
  more = [];
  query = query;
  fragment = fragment;
  text = text;
  escaped = All-nil (IsKept PATH);
  whole = All-nil (λ b. is_slash kind b ≡ false);
  each = All-nil (IsSegment kind);
  kept_query = kept_query;
  kept_fragment = kept_fragment;
}

behind_byte : (kind : SchemeType) (b : ℕ) (x : List ℕ) → is_path_byte b ≡ true → Segmented kind x → Behind kind b x
behind_byte kind b x e s = (
  record {
    first = b ∷ s.first;
    more = s.more;
    query = s.query;
    fragment = s.fragment;
    text = ap (λ y. b ∷ y) s.text;
    escaped = All-cons (IsKept PATH) b s.first (path_kept b e) s.escaped;
    whole = All-cons (λ b. is_slash kind b ≡ false) b s.first (no_slash kind b e) s.whole;
    each = s.each;
    kept_query = s.kept_query;
    kept_fragment = s.kept_fragment;
  },
  inr (s.first, refl),
)

abbrev behind_slash : (kind : SchemeType) (x : List ℕ) → Started kind x → Segmented kind (47 ∷ x)
behind_slash kind x s = record {
  first = [];
  more = s.0.first ∷ s.0.more;
  query = s.0.query;
  fragment = s.0.fragment;
  text = ap (λ y. 47 ∷ y) (s.0.text
      ∙ sym (append_assoc s.0.first (join_segments s.0.more) (tail_text s.0.query s.0.fragment)));
  escaped = All-nil (IsKept PATH);
  whole = All-nil (λ b. is_slash kind b ≡ false);
  each = All-cons (IsSegment kind) s.0.first s.0.more
      (record { escaped = s.0.escaped; whole = s.0.whole; resolved = s.1 }) s.0.each;
  kept_query = s.0.kept_query;
  kept_fragment = s.0.kept_fragment;
}

abbrev behind_question : (kind : SchemeType) (x : List ℕ) → Queried kind x → Segmented kind (63 ∷ x)
behind_question kind x q = ended kind (63 ∷ x) (Some q.front) q.behind (ap (λ y. 63 ∷ y) q.text) q.kept q.kept_behind

is_byte : (b n : ℕ) → (b == n) ≡ true → n ≡ b
is_byte b n e = grind (arith, nat_tests)

path_step : (kind : SchemeType) (b : ℕ) (x : List ℕ) → (goes_on Path x ≡ true → Segmented kind x) →
    (goes_on Segment x ≡ true → Started kind x) → at_next (behind_path b) (λ next. goes_on next x) ≡ true →
    Behind kind b x
path_step kind b x path segment h = by_byte (is_path_byte b) refl h
  where
    by_hash : (t : Bool) → (b == 35) ≡ t →
        at_next (if t then Some Fragment else None) (λ next. goes_on next x) ≡ true → Behind kind b x
    by_hash true e h = subst (λ c. Behind kind c x) (is_byte b 35 e)
        (ended kind (35 ∷ x) None (Some x) refl tt (fragment_of x h), inl refl)
    by_hash false e h = cc h

    by_question : (t : Bool) → (b == 63) ≡ t →
        at_next (if t then Some Query else (if b == 35 then Some Fragment else None))
        (λ next. goes_on next x) ≡ true → Behind kind b x
    by_question true e h = subst (λ c. Behind kind c x) (is_byte b 63 e) (behind_question kind x (query_of kind x h), inl refl)
    by_question false e h = by_hash (b == 35) refl h

    by_slash : (t : Bool) → (b == 47) ≡ t →
        at_next (if t then Some Segment
        else (if b == 63 then Some Query else (if b == 35 then Some Fragment else None)))
        (λ next. goes_on next x) ≡ true → Behind kind b x
    by_slash true e h = subst (λ c. Behind kind c x) (is_byte b 47 e) (behind_slash kind x (segment h), inl refl)
    by_slash false e h = by_question (b == 63) refl h

    by_byte : (t : Bool) → is_path_byte b ≡ t →
        at_next (if t then Some Path
        else (if b == 47 then Some Segment
        else (if b == 63 then Some Query else (if b == 35 then Some Fragment else None))))
        (λ next. goes_on next x) ≡ true → Behind kind b x
    by_byte true e h = behind_byte kind b x e (path h)
    by_byte false e h = by_slash (b == 47) refl h

no_dots_in_none : dot_count [] ≡ 0
unfolding dot_count
no_dots_in_none = refl

or_parts_fail : (p q : Bool) → (p || q) ≡ false → (p ≡ false) × (q ≡ false)
or_parts_fail true q e = cc e
or_parts_fail false q e = (refl, e)

no_dots_behind : (b : ℕ) (rest : List ℕ) → (b == 46 || b == 37) ≡ false → dot_count (b ∷ rest) ≡ 0
unfolding dot_count
no_dots_behind b rest e =
    let both = or_parts_fail (b == 46) (b == 37) e in
    rw (both.0, both.1) refl

no_dots : (b : ℕ) (first : List ℕ) → (b == 46 || b == 37) ≡ false →
    (first ≡ []) ⊎ ((rest : List ℕ) × (first ≡ b ∷ rest)) → dot_count first ≡ 0
no_dots b first e (inl empty) = ap dot_count empty ∙ no_dots_in_none
no_dots b first e (inr some) = ap dot_count some.1 ∙ no_dots_behind b some.0 e

segment_step : (kind : SchemeType) (b : ℕ) (x : List ℕ) → (goes_on Path x ≡ true → Segmented kind x) →
    (goes_on Segment x ≡ true → Started kind x) →
    at_next (if b == 46 || b == 37 then None else behind_path b) (λ next. goes_on next x) ≡ true →
    Started kind (b ∷ x)
segment_step kind b x path segment h = by (b == 46 || b == 37) refl h
  where
    by : (t : Bool) → (b == 46 || b == 37) ≡ t →
        at_next (if t then None else behind_path b) (λ next. goes_on next x) ≡ true → Started kind (b ∷ x)
    by true e h = cc h
    by false e h =
        let found = path_step kind b x path segment h in
        (found.0, no_dots b found.0.first e found.1)

segments_of : (kind : SchemeType) (x : List ℕ) →
    (goes_on Path x ≡ true → Segmented kind x) × (goes_on Segment x ≡ true → Started kind x)
segments_of kind [] =
    let none = ended kind [] None None refl tt tt in
    (λ h. none, λ h. (none, no_dots_in_none))
segments_of kind (b ∷ x) =
    let more = segments_of kind x in (
      λ h. (path_step kind b x more.0 more.1 h).0,
      λ h. segment_step kind b x more.0 more.1 h,
    )

-- ---- the host

abbrev Begins : List ℕ → Type 0
Begins x = begins is_lower_letter x ≡ true

-- what stands behind the last dot begins with a letter, from where in a label on
abbrev EndsIn : Spot → Option (List ℕ) × List ℕ → Type 0
EndsIn Word parts = is_some parts.0 ≡ true → Begins parts.1
EndsIn Other parts = (is_some parts.0 ≡ true) × Begins parts.1
EndsIn spot parts = Begins parts.1

record Hosted (spot : Spot) (x : List ℕ) : Type 0 where
  host : List ℕ
  path : List ℕ
  text : x ≡ host ++ 47 ∷ path
  bytes : list_all is_host_byte host ≡ true
  ends : EndsIn spot (rsplit_once 46 host)
  goes : goes_on Segment path ≡ true

word_in_label : (b : ℕ) (front : Option (List ℕ)) (back : List ℕ) → (b == 46) ≡ false →
    is_lower_letter b ≡ true → EndsIn Word (front, back) → Begins (rsplit_step 46 b front back).1
word_in_label b (Some front) back e lower h = h refl
word_in_label b None back e lower h = rw e lower

other_in_label : (b : ℕ) (front : Option (List ℕ)) (back : List ℕ) → EndsIn Other (front, back) →
    Begins (rsplit_step 46 b front back).1
other_in_label b (Some front) back h = h.1
other_in_label b None back h = cc h.0

word_in_word : (b : ℕ) (front : Option (List ℕ)) (back : List ℕ) → (b == 46) ≡ false →
    EndsIn Word (front, back) → EndsIn Word (rsplit_step 46 b front back)
word_in_word b (Some front) back e h = h
word_in_word b None back e h = rw e (λ some. cc some)

label_in_word : (b : ℕ) (front : Option (List ℕ)) (back : List ℕ) → (b == 46) ≡ true →
    Begins back → EndsIn Word (rsplit_step 46 b front back)
label_in_word b (Some front) back e h = λ some. h
label_in_word b None back e h = rw e (λ some. h)

other_in_other : (b : ℕ) (front : Option (List ℕ)) (back : List ℕ) → EndsIn Other (front, back) →
    EndsIn Other (rsplit_step 46 b front back)
other_in_other b (Some front) back h = (refl, h.1)
other_in_other b None back h = cc h.0

label_in_other : (b : ℕ) (front : Option (List ℕ)) (back : List ℕ) → (b == 46) ≡ true →
    Begins back → EndsIn Other (rsplit_step 46 b front back)
label_in_other b (Some front) back e h = (refl, h)
label_in_other b None back e h = rw e (refl, h)

split_behind : (b : ℕ) (host : List ℕ) →
    rsplit_once 46 (b ∷ host) ≡ rsplit_step 46 b (rsplit_once 46 host).0 (rsplit_once 46 host).1
unfolding rsplit_once
split_behind b host = refl

no_dot : (b : ℕ) → is_label_byte b ≡ true → (b == 46) ≡ false
no_dot b e = grind (arith, nat_tests)

label_in_host : (b : ℕ) → is_label_byte b ≡ true → is_host_byte b ≡ true
label_in_host b e = rw e refl

lower_in_label : (b : ℕ) → is_lower_letter b ≡ true → is_label_byte b ≡ true
lower_in_label b e = grind (arith, nat_tests)

dot_in_host : (b : ℕ) → (b == 46) ≡ true → is_host_byte b ≡ true
dot_in_host b e = grind (arith, nat_tests)

abbrev longer : (from to : Spot) (b : ℕ) (x : List ℕ) (old : Hosted from x) → is_host_byte b ≡ true →
    EndsIn to (rsplit_step 46 b (rsplit_once 46 old.host).0 (rsplit_once 46 old.host).1) →
    Hosted to (b ∷ x)
longer from to b x old e ends = record {
  host = b ∷ old.host;
  path = old.path;
  text = ap (λ y. b ∷ y) old.text;
  bytes = and_from (is_host_byte b) (list_all is_host_byte old.host) e old.bytes;
  ends = subst (EndsIn to) (sym (split_behind b old.host)) ends;
  goes = old.goes;
}

no_split : rsplit_once 46 [] ≡ (None, [])
unfolding rsplit_once
no_split = refl

host_ends : (x : List ℕ) → goes_on Segment x ≡ true → Hosted Word (47 ∷ x)
host_ends x h = record {
  host = [];
  path = x;
  text = refl;
  bytes = refl;
  ends = subst (EndsIn Word) (sym no_split) (λ some. cc some);
  goes = h;
}

label_step : (b : ℕ) (x : List ℕ) → (goes_on Word x ≡ true → Hosted Word x) →
    (goes_on Other x ≡ true → Hosted Other x) → goes_on Label (b ∷ x) ≡ true → Hosted Label (b ∷ x)
label_step b x word other h = by_lower (is_lower_letter b) refl h
  where
    by_label : (t : Bool) → is_label_byte b ≡ t →
        at_next (if t then Some Other else None) (λ next. goes_on next x) ≡ true → Hosted Label (b ∷ x)
    by_label true e h =
        let old = other h in
        let split = rsplit_once 46 old.host in
        longer Other Label b x old (label_in_host b e) (other_in_label b split.0 split.1 old.ends)
    by_label false e h = cc h

    by_lower : (t : Bool) → is_lower_letter b ≡ t →
        at_next (if t then Some Word else (if is_label_byte b then Some Other else None))
        (λ next. goes_on next x) ≡ true → Hosted Label (b ∷ x)
    by_lower true e h =
        let old = word h in
        let split = rsplit_once 46 old.host in
        let label = lower_in_label b e in
        longer Word Label b x old (label_in_host b label)
        (word_in_label b split.0 split.1 (no_dot b label) e old.ends)
    by_lower false e h = by_label (is_label_byte b) refl h

word_step : (b : ℕ) (x : List ℕ) → (goes_on Label x ≡ true → Hosted Label x) →
    (goes_on Word x ≡ true → Hosted Word x) → goes_on Word (b ∷ x) ≡ true → Hosted Word (b ∷ x)
word_step b x label word h = by_label (is_label_byte b) refl h
  where
    by_slash : (t : Bool) → (b == 47) ≡ t →
        at_next (if t then Some Segment else None) (λ next. goes_on next x) ≡ true → Hosted Word (b ∷ x)
    by_slash true e h = subst (λ c. Hosted Word (c ∷ x)) (is_byte b 47 e) (host_ends x h)
    by_slash false e h = cc h

    by_dot : (t : Bool) → (b == 46) ≡ t →
        at_next (if t then Some Label else (if b == 47 then Some Segment else None))
        (λ next. goes_on next x) ≡ true → Hosted Word (b ∷ x)
    by_dot true e h =
        let old = label h in
        let split = rsplit_once 46 old.host in
        longer Label Word b x old (dot_in_host b e) (label_in_word b split.0 split.1 e old.ends)
    by_dot false e h = by_slash (b == 47) refl h

    by_label : (t : Bool) → is_label_byte b ≡ t →
        at_next (if t then Some Word
        else (if b == 46 then Some Label else (if b == 47 then Some Segment else None)))
        (λ next. goes_on next x) ≡ true → Hosted Word (b ∷ x)
    by_label true e h =
        let old = word h in
        let split = rsplit_once 46 old.host in
        longer Word Word b x old (label_in_host b e)
        (word_in_word b split.0 split.1 (no_dot b e) old.ends)
    by_label false e h = by_dot (b == 46) refl h

other_step : (b : ℕ) (x : List ℕ) → (goes_on Label x ≡ true → Hosted Label x) →
    (goes_on Other x ≡ true → Hosted Other x) → goes_on Other (b ∷ x) ≡ true → Hosted Other (b ∷ x)
other_step b x label other h = by_label (is_label_byte b) refl h
  where
    by_slash : (t : Bool) → (b == 47) ≡ t →
        at_next (if t then None else None) (λ next. goes_on next x) ≡ true → Hosted Other (b ∷ x)
    by_slash true e h = cc h
    by_slash false e h = cc h

    by_dot : (t : Bool) → (b == 46) ≡ t →
        at_next (if t then Some Label else (if b == 47 then None else None))
        (λ next. goes_on next x) ≡ true → Hosted Other (b ∷ x)
    by_dot true e h =
        let old = label h in
        let split = rsplit_once 46 old.host in
        longer Label Other b x old (dot_in_host b e) (label_in_other b split.0 split.1 e old.ends)
    by_dot false e h = by_slash (b == 47) refl h

    by_label : (t : Bool) → is_label_byte b ≡ t →
        at_next (if t then Some Other
        else (if b == 46 then Some Label else (if b == 47 then None else None)))
        (λ next. goes_on next x) ≡ true → Hosted Other (b ∷ x)
    by_label true e h =
        let old = other h in
        let split = rsplit_once 46 old.host in
        longer Other Other b x old (label_in_host b e) (other_in_other b split.0 split.1 old.ends)
    by_label false e h = by_dot (b == 46) refl h

hosts_of : (x : List ℕ) → (goes_on Label x ≡ true → Hosted Label x)
    × (goes_on Word x ≡ true → Hosted Word x) × (goes_on Other x ≡ true → Hosted Other x)
hosts_of [] = (λ h. cc h, λ h. cc h, λ h. cc h)
hosts_of (b ∷ x) =
    let more = hosts_of x in
    (label_step b x more.1 more.2, word_step b x more.0 more.1, other_step b x more.0 more.2)

-- ---- a host that ends in a label that begins with a letter is a domain, and no number

is_some_byte : (x : List ℕ) → Begins x → (length x == 0) ≡ false
is_some_byte [] h = cc h
is_some_byte (b ∷ x) h = grind (arith, nat_tests)

last_label_is : (front : Option (List ℕ)) (back : List ℕ) → Begins back → last_label_of front back ≡ back
last_label_is None back h = refl
last_label_is (Some front) back h = rw (is_some_byte back h) refl

no_number : (b : ℕ) (x : List ℕ) → is_lower_letter b ≡ true →
    ((not (length (b ∷ x) == 0) && list_all is_ascii_digit (b ∷ x)) || is_number (parse_number (b ∷ x)))
    ≡ false
unfolding parse_number
no_number b x e =
    let digit : is_ascii_digit b ≡ false = grind (arith, nat_tests) in
    let zero : (b == 48) ≡ false = grind (arith, nat_tests) in
    let decimal : is_digit b 10 ≡ false = grind (arith, nat_tests) in
    let some : (length (b ∷ x) == 0) ≡ false = is_some_byte (b ∷ x) e in
    rw (some, digit, zero, decimal) refl

named_last : (x : List ℕ) → Begins x →
    ((not (length x == 0) && list_all is_ascii_digit x) || is_number (parse_number x)) ≡ false
named_last [] h = cc h
named_last (b ∷ x) h = no_number b x h

named : (host : List ℕ) → Begins (rsplit_once 46 host).1 → ends_in_a_number host ≡ false
unfolding ends_in_a_number
named host h =
    let last = last_label_is (rsplit_once 46 host).0 (rsplit_once 46 host).1 h in
    rw last (named_last (rsplit_once 46 host).1 h)

host_kept : (x : List ℕ) → list_all is_host_byte x ≡ true → All (IsKept FORBIDDEN_DOMAIN) x
host_kept [] h = All-nil (IsKept FORBIDDEN_DOMAIN)
host_kept (b ∷ x) h =
    All-cons (IsKept FORBIDDEN_DOMAIN) b x
    (host_byte_kept b (and_first (is_host_byte b) (list_all is_host_byte x) h))
    (host_kept x (and_second (is_host_byte b) (list_all is_host_byte x) h))

host_lower : (x : List ℕ) → list_all is_host_byte x ≡ true → lowercase x ≡ x
host_lower [] h = refl
host_lower (b ∷ x) h =
    ap (λ c. c ∷ lowercase x) (byte_lower b (and_first (is_host_byte b) (list_all is_host_byte x) h))
    ∙ ap (λ y. b ∷ y) (host_lower x (and_second (is_host_byte b) (list_all is_host_byte x) h))
  where
    byte_lower : (b : ℕ) → is_host_byte b ≡ true → to_ascii_lowercase b ≡ b
    byte_lower b e = grind (arith, nat_tests)

host_some : (host : List ℕ) → Begins (rsplit_once 46 host).1 → 0 < length host
host_some [] h = absurd (none (subst (λ p. Begins p.1) no_split h))
  where
    none : Begins [] → ⊥
    none h = cc h
host_some (b ∷ host) h = omega arith

opaque_host : (x : List ℕ) → list_all is_host_byte x ≡ true → IsOpaqueHost x
opaque_host [] h = (All-nil (IsKept FORBIDDEN_HOST), All-nil (IsKept CONTROLS))
opaque_host (b ∷ x) h =
    let here = and_first (is_host_byte b) (list_all is_host_byte x) h in
    let more = opaque_host x (and_second (is_host_byte b) (list_all is_host_byte x) h) in (
      All-cons (IsKept FORBIDDEN_HOST) b x (opaque_byte_kept b here) more.0,
      All-cons (IsKept CONTROLS) b x (no_control b here) more.1,
    )

is_domain : (host : List ℕ) → list_all is_host_byte host ≡ true →
    Begins (rsplit_once 46 host).1 → IsDomain host
is_domain host bytes ends = record {
  allowed = host_kept host bytes;
  lower = host_lower host bytes;
  named = named host ends;
}

-- ---- the whole

abbrev url_of : List ℕ → List ℕ → List ℕ → Option (List ℕ) → Option (List ℕ) → Parts
url_of scheme host path query fragment = record {
  scheme = scheme;
  username = [];
  password = [];
  host = Some (Domain host);
  port = None;
  path = path;
  query = query;
  fragment = fragment;
}

tail_of_parts : (query fragment : Option (List ℕ)) →
    when (is_some query) (codes "?") ++ (unwrap_or query []
    ++ (when (is_some fragment) (codes "#") ++ (unwrap_or fragment [] ++ []))) ≡ tail_text query fragment
tail_of_parts None None = refl
tail_of_parts None (Some f) = ap (λ y. 35 ∷ y) (append-nil f)
tail_of_parts (Some q) None = ap (λ y. 63 ∷ y) refl
tail_of_parts (Some q) (Some f) = ap (λ y. 63 ∷ q ++ 35 ∷ y) (append-nil f)

text_of_https : (host path : List ℕ) (query fragment : Option (List ℕ)) →
    serialize (url_of (codes "https") host path query fragment)
    ≡ codes "https://" ++ (host ++ (path ++ tail_text query fragment))
text_of_https host path query fragment =
    ap (λ y. codes "https://" ++ (host ++ (path ++ y))) (tail_of_parts query fragment)

text_of_http : (host path : List ℕ) (query fragment : Option (List ℕ)) →
    serialize (url_of (codes "http") host path query fragment)
    ≡ codes "http://" ++ (host ++ (path ++ tail_text query fragment))
text_of_http host path query fragment =
    ap (λ y. codes "http://" ++ (host ++ (path ++ y))) (tail_of_parts query fragment)

text_of_git : (host path : List ℕ) (query fragment : Option (List ℕ)) →
    serialize (url_of (codes "git+https") host path query fragment)
    ≡ codes "git+https://" ++ (host ++ (path ++ tail_text query fragment))
text_of_git host path query fragment =
    ap (λ y. codes "git+https://" ++ (host ++ (path ++ y))) (tail_of_parts query fragment)

-- the host and the path behind a scheme of this kind
record Placed (kind : SchemeType) (rest : List ℕ) : Type 0 where
  host : List ℕ
  domain : IsDomain host
  opaque : IsOpaqueHost host
  some : 0 < length host
  path : List ℕ
  segments : IsHierarchicalPath kind path
  query : Option (List ℕ)
  fragment : Option (List ℕ)
  kept_query : IfSome query (All (IsKept (query_set kind)))
  kept_fragment : IfSome fragment (All (IsKept FRAGMENT))
  text : host ++ (path ++ tail_text query fragment) ≡ rest

placed : (kind : SchemeType) (rest : List ℕ) → goes_on Label rest ≡ true → Placed kind rest
placed kind rest h =
    let found = (hosts_of rest).0 h in
    let start = (segments_of kind found.path).1 found.goes in
    let s = start.0 in
    let tail = tail_text s.query s.fragment in
    let first : IsSegment kind s.first =
    record { escaped = s.escaped; whole = s.whole; resolved = start.1 } in
    let path : 47 ∷ found.path ≡ join_segments (s.first ∷ s.more) ++ tail =
    ap (λ y. 47 ∷ y) (s.text ∙ sym (append_assoc s.first (join_segments s.more) tail)) in
    record {
      host = found.host;
      domain = is_domain found.host found.bytes found.ends;
      opaque = opaque_host found.host found.bytes;
      some = host_some found.host found.ends;
      path = join_segments (s.first ∷ s.more);
      segments = (
        record {
          segments = s.first ∷ s.more;
          joined = refl;
          each = All-cons (IsSegment kind) s.first s.more first s.each;
        },
        λ special. omega arith,
      );
      query = s.query;
      fragment = s.fragment;
      kept_query = s.kept_query;
      kept_fragment = s.kept_fragment;
      text = sym (found.text ∙ ap (λ y. found.host ++ y) path);
    }

https_kind : scheme_type (codes "https") ≡ SpecialNotFile
unfolding scheme_type default_port
https_kind = refl

http_kind : scheme_type (codes "http") ≡ SpecialNotFile
unfolding scheme_type default_port
http_kind = refl

git_kind : scheme_type (codes "git+https") ≡ NotSpecial
unfolding scheme_type default_port
git_kind = refl

https_is_scheme : IsScheme (codes "https")
unfolding scheme_len
https_is_scheme = record { nonempty = omega arith; whole = refl; lower = refl }

http_is_scheme : IsScheme (codes "http")
unfolding scheme_len
http_is_scheme = record { nonempty = omega arith; whole = refl; lower = refl }

git_is_scheme : IsScheme (codes "git+https")
unfolding scheme_len
git_is_scheme = record { nonempty = omega arith; whole = refl; lower = refl }

valid : (kind : SchemeType) (scheme rest : List ℕ) (p : Placed kind rest) → scheme_type scheme ≡ kind →
    IsDomainOf kind p.host → IsScheme scheme → IsValid (url_of scheme p.host p.path p.query p.fragment)
valid kind scheme rest p is domain is_scheme = record {
  head = record {
    scheme = is_scheme;
    username = All-nil (IsKept USERINFO);
    password = All-nil (IsKept USERINFO);
    host = rw is domain;
    port = tt;
    bare = λ h. (refl, refl, refl);
  };
  path = inl (rw is p.segments);
  query = rw is p.kept_query;
  fragment = p.kept_fragment;
}

own : (scheme x rest : List ℕ) (p : Placed SpecialNotFile rest) → scheme_type scheme ≡ SpecialNotFile →
    IsScheme scheme → serialize (url_of scheme p.host p.path p.query p.fragment) ≡ x → IsOwnText x
own scheme x rest p kind is_scheme text =
    let url = url_of scheme p.host p.path p.query p.fragment in (
      url,
      subst (λ y. parse_url None y ≡ Ok url) text
          (parse_url-serialize_special url None
          (valid SpecialNotFile scheme rest p kind (p.domain, p.some) is_scheme) kind),
      text,
    )

-- no byte of a URL is a space
no_space : (x : List ℕ) (i : ℕ) → list_all is_url_byte x ≡ true → (slice_index x i == 32) ≡ false
no_space [] i h = refl
no_space (b ∷ x) zero h =
    let here : is_url_byte b ≡ true = and_first (is_url_byte b) (list_all is_url_byte x) h in
    grind (arith, nat_tests)
no_space (b ∷ x) (suc i) h = no_space x i (and_second (is_url_byte b) (list_all is_url_byte x) h)

ends_visibly : (x : List ℕ) → list_all is_url_byte x ≡ true → ends_in_space x ≡ false
ends_visibly x h = rw (no_space x (length x - 1) h) (and-false (nat_lt 0 (length x)))

own_git : (x rest : List ℕ) (p : Placed NotSpecial rest) → list_all is_url_byte x ≡ true →
    list_all is_url_byte p.path ≡ true →
    serialize (url_of (codes "git+https") p.host p.path p.query p.fragment) ≡ x → IsOwnText x
own_git x rest p bytes path text =
    let url = url_of (codes "git+https") p.host p.path p.query p.fragment in
    let visible : slice_index (serialize url) (length (serialize url) - 1) ≢ 32 =
    λ space. cc (sym (ap (λ n. n == 32) space)
    ∙ (ap (λ y. slice_index y (length y - 1) == 32) text ∙ no_space x (length x - 1) bytes)) in
    let canonical : IsCanonical url = rw git_kind (tt, visible, ends_visibly p.path path) in (
      url,
      subst (λ y. parse_url None y ≡ Ok url) text
          (parse_url-serialize url None
          (valid NotSpecial (codes "git+https") rest p git_kind p.opaque git_is_scheme) canonical),
      text,
    )

-- ---- its bytes

none_behind : (spot : Spot) (b : ℕ) → is_url_byte b ≡ false → behind_spot spot b ≡ None
none_behind spot b e = by spot
  where
    lower : is_lower_letter b ≡ false
    lower = grind (arith, nat_tests)

    label : is_label_byte b ≡ false
    label = grind (arith, nat_tests)

    path : is_path_byte b ≡ false
    path = grind (arith, nat_tests)

    tail : is_tail_byte b ≡ false
    tail = grind (arith, nat_tests)

    marks : ((b == 46) ≡ false) × ((b == 47) ≡ false) × ((b == 63) ≡ false) × ((b == 35) ≡ false)
    marks = (
      grind (arith, nat_tests),
      grind (arith, nat_tests),
      grind (arith, nat_tests),
      grind (arith, nat_tests),
    )

    in_label : (own slash : Option Spot) →
        (if is_label_byte b then own
        else (if b == 46 then Some Label else (if b == 47 then slash else None))) ≡ None
    in_label own slash =
        ap (λ t. if t then own else (if b == 46 then Some Label else (if b == 47 then slash else None))) label
        ∙ ap (λ t. if t then Some Label else (if b == 47 then slash else None)) marks.0
        ∙ ap (λ t. if t then slash else None) marks.1

    in_path : behind_path b ≡ None
    in_path =
        ap (λ t. if t then Some Path
        else (if b == 47 then Some Segment
        else (if b == 63 then Some Query else (if b == 35 then Some Fragment else None)))) path
        ∙ ap (λ t. if t then Some Segment
        else (if b == 63 then Some Query else (if b == 35 then Some Fragment else None))) marks.1
        ∙ ap (λ t. if t then Some Query else (if b == 35 then Some Fragment else None)) marks.2
        ∙ ap (λ t. if t then Some Fragment else None) marks.3

    dots : (b == 46 || b == 37) ≡ false
    dots = grind (arith, nat_tests)

    by : (spot : Spot) → behind_spot spot b ≡ None
    by Label =
        ap (λ t. if t then Some Word else (if is_label_byte b then Some Other else None)) lower
        ∙ ap (λ t. if t then Some Other else None) label
    by Word = in_label (Some Word) (Some Segment)
    by Other = in_label (Some Other) None
    by Segment = ap (λ t. if t then None else behind_path b) dots ∙ in_path
    by Path = in_path
    by Query =
        ap (λ t. if t then Some Fragment else (if is_tail_byte b then Some Query else None)) marks.3
        ∙ ap (λ t. if t then Some Query else None) tail
    by Fragment = ap (λ t. if t then Some Fragment else None) tail

abbrev HasNext : Option Spot → List ℕ → Type 0
HasNext found x = (next : Spot) × (found ≡ Some next) × (goes_on next x ≡ true)

next_of : (found : Option Spot) (x : List ℕ) → at_next found (λ next. goes_on next x) ≡ true → HasNext found x
next_of None x h = cc h
next_of (Some next) x h = (next, refl, h)

bytes_behind : (x : List ℕ) (spot : Spot) → goes_on spot x ≡ true → list_all is_url_byte x ≡ true
bytes_behind [] spot h = refl
bytes_behind (b ∷ x) spot h =
    let next = next_of (behind_spot spot b) x h in
    and_from (is_url_byte b) (list_all is_url_byte x) (by (is_url_byte b) refl next.1)
    (bytes_behind x next.0 next.2)
  where
    by : {next : Spot} (t : Bool) → is_url_byte b ≡ t → behind_spot spot b ≡ Some next → t ≡ true
    by true e found = refl
    by false e found = cc (sym found ∙ none_behind spot b e)

pub common_bytes : (x : List ℕ) → IsCommonUrl x → list_all is_url_byte x ≡ true
common_bytes x c = by c.scheme
  where
    rest : list_all is_url_byte c.rest ≡ true
    rest = bytes_behind c.rest Label c.goes

    by : IsBehindScheme x c.rest → list_all is_url_byte x ≡ true
    by (inl e) = ap (list_all is_url_byte) e ∙ rest
    by (inr (inl e)) = ap (list_all is_url_byte) e ∙ rest
    by (inr (inr e)) = ap (list_all is_url_byte) e ∙ rest

-- .. those of its path too
path_bytes : (host path tail : List ℕ) → list_all is_url_byte (host ++ (path ++ tail)) ≡ true →
    list_all is_url_byte path ≡ true
path_bytes host path tail h =
    let behind : list_all is_url_byte (path ++ tail) ≡ true =
    and_second (list_all is_url_byte host) (list_all is_url_byte (path ++ tail))
    (sym (list_all-append is_url_byte host (path ++ tail)) ∙ h) in
    and_first (list_all is_url_byte path) (list_all is_url_byte tail)
    (sym (list_all-append is_url_byte path tail) ∙ behind)

-- ---- so it is its own text

pub common_is_own_text : (x : List ℕ) → IsCommonUrl x → IsOwnText x
common_is_own_text x c = by c.scheme
  where
    special : (scheme front : List ℕ) → scheme_type scheme ≡ SpecialNotFile → IsScheme scheme →
        ((host path : List ℕ) (query fragment : Option (List ℕ)) → serialize (url_of scheme host path query fragment)
        ≡ front ++ (host ++ (path ++ tail_text query fragment))) → x ≡ front ++ c.rest → IsOwnText x
    special scheme front kind is_scheme text e =
        let p = placed SpecialNotFile c.rest c.goes in
        own scheme x c.rest p kind is_scheme
        (text p.host p.path p.query p.fragment ∙ ap (λ y. front ++ y) p.text ∙ sym e)

    git : x ≡ codes "git+https://" ++ c.rest → IsOwnText x
    git e =
        let p = placed NotSpecial c.rest c.goes in
        let rest = bytes_behind c.rest Label c.goes in
        own_git x c.rest p (common_bytes x c)
        (path_bytes p.host p.path (tail_text p.query p.fragment) (subst (λ y. list_all is_url_byte y ≡ true) (sym p.text) rest))
        (text_of_git p.host p.path p.query p.fragment ∙ ap (λ y. codes "git+https://" ++ y) p.text ∙ sym e)

    by : IsBehindScheme x c.rest → IsOwnText x
    by (inl e) = special (codes "https") (codes "https://") https_kind https_is_scheme text_of_https e
    by (inr (inl e)) = special (codes "http") (codes "http://") http_kind http_is_scheme text_of_http e
    by (inr (inr e)) = git e

pub url_bytes_run : (x : List ℕ) → list_all is_url_byte x ≡ true → list_all (λ b. nat_lt 32 b) x ≡ true
url_bytes_run [] h = refl
url_bytes_run (b ∷ x) h =
    and_from (nat_lt 32 b) (list_all (λ b. nat_lt 32 b) x)
    (visible b (and_first (is_url_byte b) (list_all is_url_byte x) h))
    (url_bytes_run x (and_second (is_url_byte b) (list_all is_url_byte x) h))
  where
    visible : (b : ℕ) → is_url_byte b ≡ true → nat_lt 32 b ≡ true
    visible b e = grind (arith, nat_tests)

-- what is read of such a URL
pub common_is_read : (x : List ℕ) → IsCommonUrl x → ReadsUrl x (record { written = x; text = x })
common_is_read x c =
    let found = common_is_own_text x c in
    let bytes = common_bytes x c in
    record {
      bytes = url_bytes_run x bytes;
      parts = found.0;
      parsed = found.1;
      kept = ap (λ y. record { written = x; text = y }) (sym found.2);
      printable = ap (list_all is_url_byte) found.2 ∙ bytes;
    }

pub common_is_some : (x : List ℕ) → IsCommonUrl x → 0 < length x
common_is_some x c = by c.scheme
  where
    by : IsBehindScheme x c.rest → 0 < length x
    by (inl e) = rw e (omega arith)
    by (inr (inl e)) = rw e (omega arith)
    by (inr (inr e)) = rw e (omega arith)
