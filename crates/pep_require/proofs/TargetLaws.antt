-- A target at the front of a text: there is at most one, it is the grammar's, and what is refused
-- has none.
use Rattle.std.proofs.Common.{◌≡◌, ◌≢◌, ℕ, ◌==◌, ◌||◌, Bool, true, false, not, List, [], ◌∷◌}
use Rattle.std.proofs.Common.{arith, ◌++◌, length, drop, refl, sym, ap, subst, ◌∙◌, inl, inr}
use Rattle.std.proofs.Common.{append_assoc}
use Rattle.std.proofs.lemmas.Bool.Decides.{nat_tests}
use Rattle.std.specs.Prelude.{nat_lt}
use Rattle.std.proofs.lemmas.List.Folds.{length-prefix_len}
use Rattle.std.specs.List.{list_all}
use Rattle.specifiers.specs.Clause.{Clause}
use Rattle.texts.specs.Runs.{begins, without_leading_blanks}
use Rattle.texts.specs.Bytes.{is_blank_byte}
use Rattle.pep_require.specs.LineParts.{BoundsFrom, UrlFrom, url_run}
use Rattle.pep_require.specs.LineParts.{TargetFrom, no_target, url_target, closed_target}
use Rattle.pep_require.specs.LineParts.{bare_target, RefusesTarget, bad_url, bad_closed, not_closed}
use Rattle.pep_require.specs.LineParts.{bad_bare, is_bare_byte, is_target_byte, is_end}
use Rattle.pep_require.specs.Reads.{ReadsTarget, anything, bare, parenthesized, at_url, ReadsUrl}
use Rattle.pep_require.specs.Reads.{ReadsBounds}
use Rattle.pep_require.specs.Requirement.{TargetParts, bounds, direct, UrlParts}
use Rattle.pep_require.specs.declared.fault.RequireFault.{RequireFault}
use Rattle.pep_require.specs.declared.fault.RequireFault.TheVariants as fault
use Rattle.pep_require.proofs.BlankLemmas.{leading, leading_blank, leading_whole, no_leading}
use Rattle.pep_require.proofs.BlankLemmas.{stripped_begins, stripped_behind, run_whole, run_ends}
use Rattle.pep_require.proofs.BoundLaws.{bounds_read, bounds_found, bounds_begin, one_bounds}
use Rattle.pep_require.proofs.BoundLaws.{refused_bounds, bounds_stripped}
use Rattle.pep_require.proofs.FrontLemmas.{RunCut}
use Rattle.url.specs.Parser.{parse_url, split_scheme}
use Rattle.url.specs.Input.{trim_c0_control_and_space, strip_tabs_and_new_lines, split_once}
use Rattle.url.specs.Scheme.{scheme_len}
use Rattle.url.specs.Parts.{serialize}
use Rattle.std.proofs.Math.Seq.{drop-append_seam}
use Rattle.texts.proofs.RunLemmas.{run-span}
use Rattle.texts.proofs.Connectives.{and_first, and_second}

-- ---- what is found is in the grammar

ends_run : (y : List ℕ) → begins (λ b. not (is_blank_byte b)) y ≡ false →
    (length y == 0 || begins is_blank_byte y) ≡ true
ends_run [] h = refl
ends_run (b ∷ y) h = by (is_blank_byte b) refl
  where
    by : (t : Bool) → is_blank_byte b ≡ t → (length (b ∷ y) == 0 || is_blank_byte b) ≡ true
    by true e = rw e (or_true (length (b ∷ y) == 0))
      where
        or_true : (s : Bool) → (s || true) ≡ true
        or_true true = refl
        or_true false = refl
    by false e = absurd (cc (rw e at h))

url_read : (x rest : List ℕ) (u : UrlParts) → UrlFrom x u rest →
    (written : List ℕ) × (64 ∷ x ≡ written ++ rest) × ReadsTarget written rest (direct u)
url_read x rest u h =
    let y = without_leading_blanks x in
    let run = url_run y in
    let cut : y ≡ run ++ rest =
    run_whole (λ b. not (is_blank_byte b)) y ∙ ap (λ z. run ++ z) (sym h.left) in
    let whole : 64 ∷ x ≡ 64 ∷ leading x ++ run ++ rest =
    ap (λ z. 64 ∷ z) (leading_whole x ∙ ap (λ z. leading x ++ z) cut
    ∙ sym (append_assoc (leading x) run rest)) in
    let ends = subst (λ z. begins (λ b. not (is_blank_byte b)) z ≡ false) (sym h.left)
    (run_ends (λ b. not (is_blank_byte b)) y) in (
      64 ∷ leading x ++ run,
      whole,
      at_url (leading x) run (leading_blank x) h.url (ends_run rest ends),
    )

closed_read : (x rest : List ℕ) (cs : List Clause) → BoundsFrom true x cs (41 ∷ rest) →
    (written : List ℕ) × (40 ∷ x ≡ written ++ rest) × ReadsTarget written rest (bounds cs)
closed_read x rest cs h =
    let (inside, whole, reads) = bounds_read true x (41 ∷ rest) cs h in (
      40 ∷ inside ++ 41 ∷ [],
      ap (λ z. 40 ∷ z) (whole ∙ sym (append_assoc inside (41 ∷ []) rest)),
      parenthesized inside reads,
    )

pub target_read : {x rest : List ℕ} {t : TargetParts} → TargetFrom x t rest →
    (written : List ℕ) × (x ≡ written ++ rest) × ReadsTarget written rest t
target_read (no_target e) = ([], refl, anything)
target_read (url_target {x = x} {rest = rest} {u = u} h) = url_read x rest u h
target_read (closed_target {x = x} {rest = rest} {cs = cs} h) = closed_read x rest cs h
target_read (bare_target {x = x} {rest = rest} {cs = cs} e h) =
    let (written, whole, reads) = bounds_read false x rest cs h in (written, whole, bare reads)

-- ---- what is in the grammar is found

-- behind the target the line ends, or its marker begins
abbrev pub Ends : List ℕ → Type 0
Ends rest = is_end false (without_leading_blanks rest) ≡ true

-- the target is found at the front, and the same stands behind it but for white space
pub record Found (x : List ℕ) (t : TargetParts) (rest : List ℕ) : Type 0 where
  pub behind : List ℕ
  pub target : TargetFrom x t behind
  pub same : without_leading_blanks behind ≡ without_leading_blanks rest

no_end_byte : (b : ℕ) → (b == 59) ≡ true → is_target_byte b ≡ false
no_end_byte b e = grind (arith, nat_tests)

not_target : (x : List ℕ) → is_end false x ≡ true → begins is_target_byte x ≡ false
not_target [] e = refl
not_target (b ∷ x) e = no_end_byte b e

find_nothing : (rest : List ℕ) → Ends rest →
    Found (without_leading_blanks rest) (bounds []) rest
find_nothing rest e = record {
  behind = without_leading_blanks rest;
  target = no_target (not_target (without_leading_blanks rest) e);
  same = no_leading (without_leading_blanks rest) (stripped_begins rest);
}

find_bare : (written rest : List ℕ) (cs : List Clause) → ReadsBounds written cs → Ends rest →
    Found (without_leading_blanks (written ++ rest)) (bounds cs) rest
find_bare written rest cs h e = record {
  behind = without_leading_blanks rest;
  target = bare_target (bounds_begin written rest cs h) (bounds_found false written rest cs h e);
  same = no_leading (without_leading_blanks rest) (stripped_begins rest);
}

find_closed : (inside rest : List ℕ) (cs : List Clause) → ReadsBounds inside cs →
    Found (40 ∷ inside ++ 41 ∷ rest) (bounds cs) rest
find_closed inside rest cs h =
    let found = bounds_found true inside (41 ∷ rest) cs h refl in
    record {
      behind = rest;
      target = closed_target (bounds_stripped true (inside ++ 41 ∷ rest) (41 ∷ rest) cs found);
      same = refl;
    }

no_blank_in : (written : List ℕ) → list_all (λ b. nat_lt 32 b) written ≡ true →
    list_all (λ b. not (is_blank_byte b)) written ≡ true
no_blank_in [] h = refl
no_blank_in (b ∷ written) h =
    rw (no_blank b (and_first (nat_lt 32 b) (list_all (λ b. nat_lt 32 b) written) h))
    (no_blank_in written (and_second (nat_lt 32 b) (list_all (λ b. nat_lt 32 b) written) h))
  where
    no_blank : (b : ℕ) → nat_lt 32 b ≡ true → not (is_blank_byte b) ≡ true
    no_blank b e = grind (arith, nat_tests)

run_ended : (y : List ℕ) → (length y == 0 || begins is_blank_byte y) ≡ true →
    begins (λ b. not (is_blank_byte b)) y ≡ false
run_ended [] h = refl
run_ended (b ∷ y) h = by (is_blank_byte b) refl
  where
    some : (t : Bool) → is_blank_byte b ≡ t → (length (b ∷ y) == 0 || is_blank_byte b) ≡ true →
        t ≡ true
    some true e h = refl
    some false e h = grind (arith, nat_tests)

    by : (t : Bool) → is_blank_byte b ≡ t → not (is_blank_byte b) ≡ false
    by true e = rw e refl
    by false e = absurd (cc (some false e h))

no_empty_url : (u : UrlParts) → ReadsUrl [] u → ⊥
unfolding parse_url split_scheme trim_c0_control_and_space strip_tabs_and_new_lines split_once
    scheme_len
no_empty_url u h = cc h.parsed

-- what begins with no white space is not stripped, whatever stands behind it
kept_front : (written rest : List ℕ) → written ≢ [] →
    list_all (λ b. not (is_blank_byte b)) written ≡ true →
    without_leading_blanks (written ++ rest) ≡ written ++ rest
kept_front [] rest some h = absurd (some refl)
kept_front (b ∷ written) rest some h =
    no_leading (b ∷ written ++ rest)
    (not_blank (is_blank_byte b)
    (and_first (not (is_blank_byte b)) (list_all (λ b. not (is_blank_byte b)) written) h))
  where
    not_blank : (t : Bool) → not t ≡ true → t ≡ false
    not_blank true e = sym e
    not_blank false e = refl

find_url : (space written rest : List ℕ) (u : UrlParts) → list_all is_blank_byte space ≡ true →
    ReadsUrl written u → (length rest == 0 || begins is_blank_byte rest) ≡ true →
    Found (64 ∷ (space ++ written) ++ rest) (direct u) rest
find_url space written rest u blank h ends =
    let p : ℕ → Bool = λ b. not (is_blank_byte b) in
    let some : written ≢ [] = λ e. no_empty_url u (subst (λ w. ReadsUrl w u) e h) in
    let all = no_blank_in written h.bytes in
    let whole : without_leading_blanks ((space ++ written) ++ rest) ≡ written ++ rest =
    ap without_leading_blanks (append_assoc space written rest)
    ∙ stripped_behind space (written ++ rest) blank ∙ kept_front written rest some all in
    let off = run_ended rest ends in
    let run : url_run (without_leading_blanks ((space ++ written) ++ rest)) ≡ written =
    ap url_run whole ∙ run-span p written rest all off in
    let left : rest ≡ drop (length (url_run (without_leading_blanks ((space ++ written) ++ rest))))
    (without_leading_blanks ((space ++ written) ++ rest)) =
    sym (ap (λ w. drop (length w) (without_leading_blanks ((space ++ written) ++ rest))) run
    ∙ ap (drop (length written)) whole ∙ drop-append_seam written rest) in
    record {
      behind = rest;
      target = url_target (record { url = subst (λ w. ReadsUrl w u) (sym run) h; left = left });
      same = refl;
    }

moved : (x y rest : List ℕ) (t : TargetParts) → x ≡ y → Found y t rest → Found x t rest
moved x y rest t e h = subst (λ z. Found z t rest) (sym e) h

pub read_target : {written rest : List ℕ} {t : TargetParts} → ReadsTarget written rest t →
    Ends rest → Found (without_leading_blanks (written ++ rest)) t rest
read_target (anything {rest = rest}) e = find_nothing rest e
read_target (bare {x = x} {rest = rest} {cs = cs} h) e = find_bare x rest cs h e
read_target (parenthesized {rest = rest} {cs = cs} x h) e =
    moved _ _ rest (bounds cs) (ap (λ z. 40 ∷ z) (append_assoc x (41 ∷ []) rest))
    (find_closed x rest cs h)
read_target (at_url {rest = rest} {u = u} space written blank h ends) e =
    find_url space written rest u blank h ends

-- ---- at most one

bare_is_target : (x : List ℕ) → begins is_bare_byte x ≡ true → begins is_target_byte x ≡ true
bare_is_target [] e = e
bare_is_target (b ∷ x) e = grind (arith, nat_tests)

abbrev Same : TargetParts → TargetParts → List ℕ → List ℕ → Type 0
Same t s rest remaining = (t ≡ s) × (rest ≡ remaining)

one_url : (x rest remaining : List ℕ) (u v : UrlParts) → UrlFrom x u rest → UrlFrom x v remaining →
    Same (direct u) (direct v) rest remaining
one_url x rest remaining u v h g =
    let parts : h.url.parts ≡ g.url.parts = cc (sym h.url.parsed ∙ g.url.parsed) in
    let same : u ≡ v = h.url.kept
    ∙ ap (λ p. record { written = url_run (without_leading_blanks x); text = serialize p }) parts
    ∙ sym g.url.kept in
    (ap direct same, h.left ∙ sym g.left)

closed_same : (cs ds : List Clause) (rest remaining : List ℕ) →
    (cs ≡ ds) × (41 ∷ rest ≡ 41 ∷ remaining) → Same (bounds cs) (bounds ds) rest remaining
closed_same cs ds rest remaining h = (ap bounds h.0, ap tail h.1)
  where
    tail : List ℕ → List ℕ
    tail [] = []
    tail (b ∷ x) = x

pub one_target : {x rest remaining : List ℕ} {t s : TargetParts} → TargetFrom x t rest →
    TargetFrom x s remaining → Same t s rest remaining
one_target (no_target e) (no_target f) = (refl, refl)
one_target (no_target e) (url_target h) = absurd (cc e)
one_target (no_target e) (closed_target h) = absurd (cc e)
one_target {x = x} (no_target e) (bare_target f h) = absurd (cc (sym e ∙ bare_is_target x f))
one_target (url_target h) (no_target e) = absurd (cc e)
one_target (url_target {x = x} {rest = rest} {u = u} h) (url_target {rest = remaining} {u = v} g) =
    one_url x rest remaining u v h g
one_target (url_target h) (bare_target e g) = absurd (cc e)
one_target (closed_target h) (no_target e) = absurd (cc e)
one_target (closed_target {x = x} {rest = rest} {cs = cs} h)
    (closed_target {rest = remaining} {cs = ds} g) =
    closed_same cs ds rest remaining (one_bounds true x (41 ∷ rest) (41 ∷ remaining) cs ds h g)
one_target (closed_target h) (bare_target e g) = absurd (cc e)
one_target {x = x} (bare_target e h) (no_target f) = absurd (cc (sym f ∙ bare_is_target x e))
one_target (bare_target e h) (url_target g) = absurd (cc e)
one_target (bare_target e h) (closed_target g) = absurd (cc e)
one_target (bare_target {x = x} {rest = rest} {cs = cs} e h)
    (bare_target {rest = remaining} {cs = ds} f g) =
    let same = one_bounds false x rest remaining cs ds h g in (ap bounds same.0, same.1)

-- ---- what is refused has none; of an overflow of the reader of URLs nothing is known

pub refused_target : {x rest : List ℕ} {t : TargetParts} {f : RequireFault} →
    f ≢ fault.UrlOverflow → RefusesTarget x f → TargetFrom x t rest → ⊥
refused_target known (bad_url h) (no_target e) = cc e
refused_target known (bad_url (inl h)) (url_target {u = u} g) = h.1 u g.url
refused_target known (bad_url (inr h)) (url_target g) = known h.0
refused_target known (bad_url h) (bare_target e g) = cc e
refused_target known (bad_closed h) (no_target e) = cc e
refused_target known (bad_closed {x = x} {f = f} h) (closed_target {rest = rest} {cs = cs} g) =
    refused_bounds true x (41 ∷ rest) cs f h g
refused_target known (bad_closed h) (bare_target e g) = cc e
refused_target known (not_closed h f) (no_target e) = cc e
refused_target known (not_closed {x = x} {rest = rest} {cs = cs} h f)
    (closed_target {rest = remaining} {cs = ds} g) =
    let same = one_bounds true x rest (41 ∷ remaining) cs ds h g in
    absurd (cc (sym f ∙ ap (begins (λ b. b == 41)) same.1))
refused_target known (not_closed h f) (bare_target e g) = cc e
refused_target {x = x} known (bad_bare e h) (no_target f) = cc (sym f ∙ bare_is_target x e)
refused_target known (bad_bare e h) (url_target g) = cc e
refused_target known (bad_bare e h) (closed_target g) = cc e
refused_target known (bad_bare {x = x} {f = f} e h) (bare_target {rest = rest} {cs = cs} a g) =
    refused_bounds false x rest cs f h g

-- ---- where the code cuts it

pub url_here : (x run behind : List ℕ) (u : UrlParts) →
    RunCut (λ b. not (is_blank_byte b)) x run behind → ReadsUrl run u → UrlFrom x u behind
url_here x run behind u cut is =
    let y = without_leading_blanks x in
    let long = length-prefix_len (λ b. not (is_blank_byte b)) y in
    record {
      url = subst (λ w. ReadsUrl w u) cut.front is;
      left = cut.left ∙ ap (λ n. drop n y) (sym long);
    }

-- what begins with none of the three begins with no target
pub no_target_byte : (x : List ℕ) → begins (λ b. b == 64) x ≡ false →
    begins (λ b. b == 40) x ≡ false → begins is_bare_byte x ≡ false →
    begins is_target_byte x ≡ false
no_target_byte [] e f g = refl
no_target_byte (b ∷ x) e f g = rw (g, e, f) refl
