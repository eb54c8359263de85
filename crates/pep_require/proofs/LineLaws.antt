-- A line is cut from left to right as the grammar has it.
use Rattle.std.proofs.Common.{arith, ◌≡◌, ◌≢◌, ℕ, ◌==◌, ◌≤◌, ◌⊎◌, Bool, true, false, not}
use Rattle.std.proofs.Common.{List, ◌||◌}
use Rattle.std.proofs.Common.{[], ◌∷◌, ◌++◌, length, drop, Option, Some, None, refl, sym, ap, subst}
use Rattle.std.proofs.Common.{◌∙◌, inl, inr, append_assoc, append-nil}
use Rattle.std.proofs.Math.Seq.{drop-append_seam}
use Rattle.std.proofs.lemmas.Bool.Decides.{nat_tests}
use Rattle.std.proofs.lemmas.Option.{none-some, same_Some}
use Rattle.std.specs.Prelude.{if◌then◌else◌, nat_lt, take_while}
use Rattle.std.specs.List.{list_all}
use Rattle.pep_marker.proofs.MarkerLaws.{marker_with_space, one_marker}
use Rattle.texts.proofs.RunLemmas.{rest-all, run-span}
use Rattle.pep_marker.specs.Marker.{IsMarker, MarkerParts}
use Rattle.texts.specs.Bytes.{is_letter_or_digit, is_name_byte}
use Rattle.pep_marker.specs.Name.{is_name, name_of}
use Rattle.texts.specs.Runs.{begins, without_leading_blanks}
use Rattle.texts.specs.Bytes.{is_blank_byte}
use Rattle.pep_require.specs.Faults.{after_name, beginning_fault, name_run}
use Rattle.pep_require.specs.LineParts.{ExtrasFrom, LineParts, RefusesLine, TargetFrom}
use Rattle.pep_require.specs.LineParts.{is_bare_byte, is_target_byte}
use Rattle.pep_require.specs.LineParts.{bad_beginning, bad_extras, bad_target, bad_ending}
use Rattle.pep_require.specs.LineParts.{no_memory}
use Rattle.pep_require.specs.LineParts.{is_bracket, is_end, RefusesEnding, RefusesExtras}
use Rattle.pep_require.specs.LineParts.{RefusesTarget}
use Rattle.pep_require.specs.Reads.{NamesExtras, Reads, ReadsExtras, ReadsMarker, ReadsTarget}
use Rattle.pep_require.specs.Reads.{always, when, none, empty, listed, anything, bare}
use Rattle.texts.specs.Limits.{line_limit}
use Rattle.pep_require.specs.Reads.{parenthesized, at_url}
use Rattle.pep_require.specs.Requirement.{RequirementParts, TargetParts}
use Rattle.pep_require.specs.declared.fault.RequireFault.{RequireFault}
use Rattle.pep_require.specs.declared.fault.RequireFault.TheVariants as fault
use Rattle.pep_require.proofs.BlankLemmas.{leading, leading_blank, leading_whole, no_leading}
use Rattle.pep_require.proofs.BlankLemmas.{run_whole, stripped_behind}
use Rattle.pep_require.proofs.BlankLemmas.{stripped_twice}
use Rattle.pep_require.proofs.BoundLaws.{bounds_begin}
use Rattle.pep_require.proofs.ExtrasLaws.{one_extras}
use Rattle.pep_require.proofs.TargetLaws.{Ends, one_target, read_target, refused_target}
use Rattle.pep_require.proofs.TargetLaws.{target_read}
use Rattle.texts.proofs.Connectives.{and_first, and_second, by_answer}

-- ---- the beginning

-- what a line without a fault of its beginning has
pub record Begun (x : List ℕ) : Type 0 where
  pub fits : nat_lt line_limit (length x) ≡ false
  pub no_option : begins (λ b. b == 45) (without_leading_blanks x) ≡ false
  pub named : is_name (name_run x) ≡ true

begun_by : (p q r : Bool) (a b c : RequireFault) →
    (if p then Some a else if q then Some b else if not r then Some c else None) ≡ None →
    (p ≡ false) × (q ≡ false) × (r ≡ true)
begun_by true q r a b c e = absurd (cc e)
begun_by false true r a b c e = absurd (cc e)
begun_by false false true a b c e = (refl, refl, refl)
begun_by false false false a b c e = absurd (cc e)

pub begun : (x : List ℕ) → beginning_fault x ≡ None → Begun x
begun x e =
    let (p, q, r) = begun_by (nat_lt line_limit (length x))
    (begins (λ b. b == 45) (without_leading_blanks x)) (is_name (name_run x)) fault.LineTooLong
    fault.OptionLine fault.BadName e in
    record { fits = p; no_option = q; named = r }

pub no_fault : (x : List ℕ) → Begun x → beginning_fault x ≡ None
no_fault x h = rw (h.fits, h.no_option, h.named) refl

few_bytes : (x : List ℕ) → nat_lt line_limit (length x) ≡ false → length x ≤ line_limit
few_bytes x e = grind (arith, nat_tests)

few_enough : (x : List ℕ) → length x ≤ line_limit → nat_lt line_limit (length x) ≡ false
few_enough x e = grind (arith, nat_tests)

-- ---- what is found is read

nest : (a b c d e f g h : List ℕ) → a ++ (b ++ (c ++ (d ++ (e ++ (f ++ (g ++ h))))))
    ≡ a ++ b ++ c ++ d ++ e ++ f ++ g ++ h
nest a b c d e f g h =
    sym (append_assoc (a ++ b ++ c ++ d ++ e ++ f) g h
    ∙ append_assoc (a ++ b ++ c ++ d ++ e) f (g ++ h)
    ∙ append_assoc (a ++ b ++ c ++ d) e (f ++ (g ++ h))
    ∙ append_assoc (a ++ b ++ c) d (e ++ (f ++ (g ++ h)))
    ∙ append_assoc (a ++ b) c (d ++ (e ++ (f ++ (g ++ h))))
    ∙ append_assoc a b (c ++ (d ++ (e ++ (f ++ (g ++ h))))))

-- the text behind the name
abbrev behind_name : List ℕ → List ℕ
behind_name x = drop (length (name_run x)) (without_leading_blanks x)

pub parts_read : (x : List ℕ) (r : RequirementParts) → LineParts x r → Reads x r
parts_read x r h =
    let (target, cut, reads) = target_read h.target in
    let y = without_leading_blanks x in
    let last = without_leading_blanks h.after_target in
    let ending : h.after_target ≡ leading h.after_target ++ last = leading_whole h.after_target in
    let third : h.after_extras ≡ leading h.after_extras ++ (target ++ (leading h.after_target
    ++ last)) =
    leading_whole h.after_extras
    ∙ ap (λ t. leading h.after_extras ++ t) (cut ∙ ap (λ t. target ++ t) ending) in
    let second : behind_name x ≡ leading (behind_name x) ++ (h.extras.written ++ (leading
    h.after_extras ++ (target ++ (leading h.after_target ++ last)))) =
    leading_whole (behind_name x)
    ∙ ap (λ t. leading (behind_name x) ++ t) (h.extras.whole
    ∙ ap (λ t. h.extras.written ++ t) third) in
    let first = leading_whole x ∙ ap (λ t. leading x ++ t) (run_whole is_name_byte y
    ∙ ap (λ t. name_run x ++ t) second) in
    let all = first ∙ nest (leading x) (name_run x) (leading (behind_name x)) h.extras.written
    (leading h.after_extras) target (leading h.after_target) last in
    record {
      fits = few_bytes x (begun x h.beginning).fits;
      spaces = record {
        first = leading x;
        second = leading (behind_name x);
        third = leading h.after_extras;
        fourth = leading h.after_target;
        fifth = [];
        blank = (
          leading_blank x,
          leading_blank (behind_name x),
          leading_blank h.after_extras,
          leading_blank h.after_target,
          refl,
        );
      };
      name = name_run x;
      extras = h.extras.written;
      target = target;
      marker = last;
      whole = all ∙ sym (append-nil _);
      reads_name = h.name;
      reads_extras = h.extras.reads;
      reads_target = subst (λ t. ReadsTarget target t r.target) (ending ∙ sym (append-nil _)) reads;
      reads_marker = h.marker;
    }

-- ---- what is read is found

-- what begins with white space begins with no byte of a class that has none
begins_by : (p : ℕ → Bool) → ((b : ℕ) → is_blank_byte b ≡ true → p b ≡ false) → (z : List ℕ) →
    begins p (without_leading_blanks z) ≡ false → begins p z ≡ false
begins_by p off [] h = refl
begins_by p off (b ∷ z) h =
    by_answer (is_blank_byte b) (off b)
    (λ e. subst (λ t. begins p t ≡ false) (no_leading (b ∷ z) e) h)

-- what a target, or a marker behind it, begins with, and white space in front of them
abbrev is_front_byte : ℕ → Bool
is_front_byte b = is_blank_byte b || b == 59 || is_target_byte b

-- neither of them begins with a byte of this class
abbrev Off : (ℕ → Bool) → Type 0
Off p = (b : ℕ) → is_front_byte b ≡ true → p b ≡ false

names_off : Off is_name_byte
unfolding is_letter_or_digit
names_off b e = grind (arith, nat_tests)

brackets_off : Off is_bracket
brackets_off b e = grind (arith, nat_tests)

blank_in_front : (b : ℕ) → is_blank_byte b ≡ true → is_front_byte b ≡ true
blank_in_front b e = grind (arith, nat_tests)

end_in_front : (b : ℕ) → (b == 59) ≡ true → is_front_byte b ≡ true
end_in_front b e = grind (arith, nat_tests)

bare_in_front : (b : ℕ) → is_bare_byte b ≡ true → is_front_byte b ≡ true
bare_in_front b e = grind (arith, nat_tests)

off_end : (p : ℕ → Bool) → Off p → (z : List ℕ) → is_end false z ≡ true → begins p z ≡ false
off_end p off [] e = refl
off_end p off (b ∷ z) e = off b (end_in_front b e)

off_bare : (p : ℕ → Bool) → Off p → (z : List ℕ) → begins is_bare_byte z ≡ true →
    begins p z ≡ false
off_bare p off [] e = refl
off_bare p off (b ∷ z) e = off b (bare_in_front b e)

-- a target and what stands behind it begin with no such byte
off_target : (p : ℕ → Bool) → Off p → {written rest : List ℕ} {t : TargetParts} →
    ReadsTarget written rest t → Ends rest →
    begins p (without_leading_blanks (written ++ rest)) ≡ false
off_target p off (anything {rest = rest}) e = off_end p off (without_leading_blanks rest) e
off_target p off (bare {x = x} {rest = rest} {cs = cs} h) e =
    off_bare p off (without_leading_blanks (x ++ rest)) (bounds_begin x rest cs h)
off_target p off (parenthesized x h) e = off 40 refl
off_target p off (at_url space written blank h ends) e = off 64 refl

-- white space behind a marker says nothing
marker_behind : (x space : List ℕ) (m : MarkerParts) → IsMarker x m →
    list_all is_blank_byte space ≡ true → IsMarker (x ++ space) m
marker_behind x space m h blank = marker_with_space x space m blank h

-- behind the target: white space, and perhaps a marker
ending_of : (fourth marker fifth : List ℕ) (m : Option MarkerParts) →
    list_all is_blank_byte fourth ≡ true → list_all is_blank_byte fifth ≡ true →
    ReadsMarker marker m →
    ReadsMarker (without_leading_blanks (fourth ++ marker ++ fifth)) m
ending_of fourth marker fifth m blank last (always) =
    subst (λ t. ReadsMarker t None) (sym nothing) always
  where
    nothing : without_leading_blanks (fourth ++ [] ++ fifth) ≡ []
    nothing =
        ap without_leading_blanks (append_assoc fourth [] fifth)
        ∙ stripped_behind fourth fifth blank ∙ rest-all is_blank_byte fifth last
ending_of fourth marker fifth m blank last (when {m = n} x h) =
    subst (λ t. ReadsMarker t (Some n)) (sym found)
    (when (x ++ fifth) (marker_behind x fifth n h last))
  where
    found : without_leading_blanks (fourth ++ (59 ∷ x) ++ fifth) ≡ 59 ∷ x ++ fifth
    found =
        ap without_leading_blanks (append_assoc fourth (59 ∷ x) fifth)
        ∙ stripped_behind fourth (59 ∷ x ++ fifth) blank

ends_of : (z : List ℕ) (m : Option MarkerParts) → ReadsMarker z m → is_end false z ≡ true
ends_of z m (always) = refl
ends_of z m (when x h) = refl

-- ---- the extras, and what stands behind the name

-- the extras stand at the front of what follows the name, and the target behind them
record After (v : List ℕ) (extras : List (List ℕ)) (z : List ℕ) : Type 0 where
  pub behind : List ℕ
  pub found : ExtrasFrom (without_leading_blanks v) extras behind
  pub same : without_leading_blanks behind ≡ without_leading_blanks z
  pub off : begins is_name_byte (without_leading_blanks v) ≡ false

bracket_off : is_name_byte 91 ≡ false
unfolding is_letter_or_digit
bracket_off = refl

no_extras : {z : List ℕ} {extras : List (List ℕ)} → z ≡ [] → NamesExtras z extras → extras ≡ []
no_extras e none = refl
no_extras e (empty space h) = absurd (cc e)
no_extras e (listed piece pieces h g) = absurd (cc e)

find_extras : (written third z : List ℕ) (extras : List (List ℕ)) → ReadsExtras written extras →
    list_all is_blank_byte third ≡ true → begins is_bracket (without_leading_blanks z) ≡ false →
    begins is_name_byte (without_leading_blanks z) ≡ false →
    After (written ++ (third ++ z)) extras z
find_extras written third z extras h blank bracket off = by written h h.written
  where
    opened : (inner : List ℕ) → ReadsExtras (91 ∷ inner) extras →
        After ((91 ∷ inner) ++ (third ++ z)) extras z
    opened inner h = record {
      behind = third ++ z;
      found = record { written = 91 ∷ inner; whole = refl; reads = h; opened = refl };
      same = stripped_behind third z blank;
      off = bracket_off;
    }

    nothing : ReadsExtras [] extras → After ([] ++ (third ++ z)) extras z
    nothing h = record {
      behind = without_leading_blanks (third ++ z);
      found = record {
        written = [];
        whole = refl;
        reads = h;
        opened = subst (λ t. begins is_bracket t ≡ false) (sym (stripped_behind third z blank))
            bracket;
      };
      same = stripped_twice (third ++ z) ∙ stripped_behind third z blank;
      off = subst (λ t. begins is_name_byte t ≡ false) (sym (stripped_behind third z blank)) off;
    }

    by : (written : List ℕ) {named : List (List ℕ)} → ReadsExtras written extras →
        NamesExtras written named → After (written ++ (third ++ z)) extras z
    by written h none = nothing h
    by written h (empty space g) = opened _ h
    by written h (listed piece pieces g k) = opened _ h

-- ---- the name

no_start : (b : ℕ) → is_letter_or_digit b ≡ true → (is_blank_byte b ≡ false) × ((b == 45) ≡ false)
unfolding is_letter_or_digit
no_start b e = (grind (arith, nat_tests), grind (arith, nat_tests))

is_some_name : (x n : List ℕ) → name_of x ≡ Some n → is_name x ≡ true
is_some_name x n h = by_answer (is_name x) (λ e. e) (λ e. absurd (none-some n (rw e at h)))

name_bytes : (x : List ℕ) → is_name x ≡ true → list_all is_name_byte x ≡ true
name_bytes x h = and_second _ _ (and_first _ _ (and_first _ _ h))

-- the name stands at the front, and all of it is its run
record Named (name z : List ℕ) : Type 0 where
  pub front : without_leading_blanks (name ++ z) ≡ name ++ z
  pub no_option : begins (λ b. b == 45) (name ++ z) ≡ false
  pub run : take_while is_name_byte (name ++ z) ≡ name

named_front : (name z : List ℕ) → is_name name ≡ true → begins is_name_byte z ≡ false → Named name z
named_front [] z h off = absurd (no_name h)
  where
    no_name : is_name [] ≡ true → ⊥
    no_name e = cc e
named_front (b ∷ name) z h off =
    let start = no_start b (and_second _ _ (and_first _ _ h)) in
    record {
      front = no_leading (b ∷ name ++ z) start.0;
      no_option = start.1;
      run = run-span is_name_byte (b ∷ name) z (name_bytes (b ∷ name) h) off;
    }

-- a line with its name at the front
record Front (x name u : List ℕ) : Type 0 where
  pub stripped : without_leading_blanks x ≡ name ++ u
  pub run : name_run x ≡ name
  pub no_option : begins (λ b. b == 45) (without_leading_blanks x) ≡ false
  pub behind : behind_name x ≡ u

front_of : (x first name u n : List ℕ) → x ≡ first ++ (name ++ u) →
    list_all is_blank_byte first ≡ true → name_of name ≡ Some n → begins is_name_byte u ≡ false →
    Front x name u
front_of x first name u n e blank named off =
    let front = named_front name u (is_some_name name n named) off in
    let stripped = ap without_leading_blanks e ∙ stripped_behind first (name ++ u) blank
    ∙ front.front in
    let run = ap (take_while is_name_byte) stripped ∙ front.run in
    record {
      stripped = stripped;
      run = run;
      no_option = ap (begins (λ b. b == 45)) stripped ∙ front.no_option;
      behind = ap (λ w. drop (length w) (without_leading_blanks x)) run
          ∙ ap (drop (length name)) stripped ∙ drop-append_seam name u;
    }

-- ---- the line

flat : (a b c d e f g h i : List ℕ) → a ++ b ++ c ++ d ++ e ++ f ++ g ++ h ++ i
    ≡ a ++ (b ++ (c ++ (d ++ (e ++ (f ++ (g ++ h ++ i))))))
flat a b c d e f g h i =
    append_assoc (a ++ b ++ c ++ d ++ e ++ f ++ g) h i
    ∙ append_assoc (a ++ b ++ c ++ d ++ e ++ f) g (h ++ i)
    ∙ append_assoc (a ++ b ++ c ++ d ++ e) f (g ++ (h ++ i))
    ∙ append_assoc (a ++ b ++ c ++ d) e (f ++ (g ++ (h ++ i)))
    ∙ append_assoc (a ++ b ++ c) d (e ++ (f ++ (g ++ (h ++ i))))
    ∙ append_assoc (a ++ b) c (d ++ (e ++ (f ++ (g ++ (h ++ i)))))
    ∙ append_assoc a b (c ++ (d ++ (e ++ (f ++ (g ++ (h ++ i))))))
    ∙ ap (λ t. a ++ (b ++ (c ++ (d ++ (e ++ (f ++ t)))))) (sym (append_assoc g h i))

pub read_parts : (x : List ℕ) (r : RequirementParts) → Reads x r → LineParts x r
read_parts x r h =
    let s = h.spaces in
    let rest = s.fourth ++ h.marker ++ s.fifth in
    let z = h.target ++ rest in
    let v = h.extras ++ (s.third ++ z) in
    let u = s.second ++ v in
    let marker = ending_of s.fourth h.marker s.fifth r.marker s.blank.3 s.blank.4 h.reads_marker in
    let ends = ends_of (without_leading_blanks rest) r.marker marker in
    let target = read_target h.reads_target ends in
    let after = find_extras h.extras s.third z r.extras h.reads_extras s.blank.2
    (off_target is_bracket brackets_off h.reads_target ends)
    (off_target is_name_byte names_off h.reads_target ends) in
    let off : begins is_name_byte u ≡ false =
    begins_by is_name_byte (λ b e. names_off b (blank_in_front b e)) u
    (subst (λ t. begins is_name_byte t ≡ false) (sym (stripped_behind s.second v s.blank.1))
    after.off) in
    let whole = h.whole ∙ flat s.first h.name s.second h.extras s.third h.target s.fourth h.marker
    s.fifth in
    let front = front_of x s.first h.name u r.name whole s.blank.0 h.reads_name off in
    let behind : after_name x ≡ without_leading_blanks v =
    ap without_leading_blanks front.behind ∙ stripped_behind s.second v s.blank.1 in
    record {
      beginning = no_fault x (record {
        fits = few_enough x h.fits;
        no_option = front.no_option;
        named = subst (λ t. is_name t ≡ true) (sym front.run)
            (is_some_name h.name r.name h.reads_name);
      });
      name = subst (λ t. name_of t ≡ Some r.name) (sym front.run) h.reads_name;
      after_extras = after.behind;
      extras = subst (λ t. ExtrasFrom t r.extras after.behind) (sym behind) after.found;
      after_target = target.behind;
      target = subst (λ t. TargetFrom t r.target target.behind) (sym after.same) target.target;
      marker = subst (λ t. ReadsMarker t r.marker) (sym target.same) marker;
    }

-- ---- at most one

one_ending : (x : List ℕ) (m n : Option MarkerParts) → ReadsMarker x m → ReadsMarker x n → m ≡ n
one_ending x m n always always = refl
one_ending x m n (when y h) (when z g) = ap Some (one_marker y _ _ h g)

same_parts : (r s : RequirementParts) → r.name ≡ s.name → r.extras ≡ s.extras →
    r.target ≡ s.target → r.marker ≡ s.marker → r ≡ s
same_parts r s a b c d i =
    record { name = a i; extras = b i; target = c i; marker = d i }

one_name : (x n m : List ℕ) → name_of x ≡ Some n → name_of x ≡ Some m → n ≡ m
one_name x n m h g = same_Some n m (sym h ∙ g)

one_line : (x : List ℕ) (r s : RequirementParts) → LineParts x r → LineParts x s → r ≡ s
one_line x r s h g =
    let extras = one_extras (after_name x) h.after_extras g.after_extras r.extras s.extras
    h.extras g.extras in
    let target = one_target h.target
    (subst (λ t. TargetFrom (without_leading_blanks t) s.target g.after_target) (sym extras.1)
    g.target) in
    let marker = one_ending (without_leading_blanks h.after_target) r.marker s.marker h.marker
    (subst (λ t. ReadsMarker (without_leading_blanks t) s.marker) (sym target.1) g.marker) in
    same_parts r s (one_name (name_run x) r.name s.name h.name g.name) extras.0 target.0 marker

-- a line is one requirement
pub one_requirement : (x : List ℕ) (r s : RequirementParts) → Reads x r → Reads x s → r ≡ s
one_requirement x r s h g = one_line x r s (read_parts x r h) (read_parts x s g)

-- ---- a line that is refused is none

refused_ending : (x : List ℕ) (m : Option MarkerParts) (f : RequireFault) → RefusesEnding x f →
    ReadsMarker x m → ⊥
refused_ending x m f h always = h
refused_ending x m f (inl h) (when {m = n} y g) = h.1.refused.1 n g
refused_ending x m f (inr h) (when y g) = cc h.0

-- of an overflow of the reader of URLs nothing is known
refused_line : (x : List ℕ) (r : RequirementParts) (f : RequireFault) → f ≢ fault.NoMemory →
    f ≢ fault.UrlOverflow → RefusesLine x f → LineParts x r → ⊥
refused_line x r f known told (bad_beginning e) g = none-some f (sym g.beginning ∙ e)
refused_line x r f known told (bad_extras e h) g = h.2 r.extras g.after_extras g.extras
refused_line x r f known told (bad_target {extras = extras} {rest = rest} e h k) g =
    let same = one_extras (after_name x) rest g.after_extras extras r.extras h g.extras in
    refused_target told k
    (subst (λ t. TargetFrom (without_leading_blanks t) r.target g.after_target) (sym same.1)
    g.target)
refused_line x r f known told
    (bad_ending {extras = extras} {rest = rest} {behind = behind} {t = t} e h k l) g =
    let same = one_extras (after_name x) rest g.after_extras extras r.extras h g.extras in
    let target = one_target k
    (subst (λ t. TargetFrom (without_leading_blanks t) r.target g.after_target) (sym same.1)
    g.target) in
    refused_ending (without_leading_blanks behind) r.marker f l
    (subst (λ t. ReadsMarker (without_leading_blanks t) r.marker) (sym target.1) g.marker)
refused_line x r f known told (no_memory e) g = known e

pub refused_is_not_read : (x : List ℕ) (r : RequirementParts) (f : RequireFault) →
    f ≢ fault.NoMemory → f ≢ fault.UrlOverflow → RefusesLine x f → Reads x r → ⊥
refused_is_not_read x r f known told h g = refused_line x r f known told h (read_parts x r g)

-- ---- the steps of the code

-- the line is begun, and what follows the name is this
abbrev pub Follows : List ℕ → List ℕ → Type 0
Follows x rest = (beginning_fault x ≡ None) × (rest ≡ after_name x)

pub extras_fault : (x rest : List ℕ) (f : RequireFault) → Follows x rest →
    (f ≡ fault.NoMemory) ⊎ RefusesExtras rest f → RefusesLine x f
extras_fault x rest f begun (inl h) = no_memory h
extras_fault x rest f begun (inr h) =
    bad_extras begun.0 (subst (λ t. RefusesExtras t f) begun.1 h)

pub target_fault : (x rest behind y : List ℕ) (extras : List (List ℕ)) (f : RequireFault) →
    Follows x rest → ExtrasFrom rest extras behind → y ≡ without_leading_blanks behind →
    (f ≡ fault.NoMemory) ⊎ RefusesTarget y f → RefusesLine x f
target_fault x rest behind y extras f begun found e (inl h) = no_memory h
target_fault x rest behind y extras f begun found e (inr h) =
    bad_target begun.0 (subst (λ t. ExtrasFrom t extras behind) begun.1 found)
    (subst (λ t. RefusesTarget t f) e h)

pub ending_fault : (x rest behind y z last : List ℕ) (extras : List (List ℕ)) (t : TargetParts)
    (f : RequireFault) → Follows x rest → ExtrasFrom rest extras behind →
    y ≡ without_leading_blanks behind → TargetFrom y t z → last ≡ without_leading_blanks z →
    (f ≡ fault.NoMemory) ⊎ RefusesEnding last f → RefusesLine x f
ending_fault x rest behind y z last extras t f begun found e target g (inl h) = no_memory h
ending_fault x rest behind y z last extras t f begun found e target g (inr h) =
    bad_ending begun.0 (subst (λ s. ExtrasFrom s extras behind) begun.1 found)
    (subst (λ s. TargetFrom s t z) e target) (subst (λ s. RefusesEnding s f) g h)

pub line_read : (x rest behind y z last : List ℕ) (r : RequirementParts) → Follows x rest →
    name_of (name_run x) ≡ Some r.name → ExtrasFrom rest r.extras behind →
    y ≡ without_leading_blanks behind → TargetFrom y r.target z →
    last ≡ without_leading_blanks z → ReadsMarker last r.marker → Reads x r
line_read x rest behind y z last r begun name found e target g marker =
    parts_read x r (record {
      beginning = begun.0;
      name = name;
      after_extras = behind;
      extras = subst (λ s. ExtrasFrom s r.extras behind) begun.1 found;
      after_target = z;
      target = subst (λ s. TargetFrom s r.target z) e target;
      marker = subst (λ s. ReadsMarker s r.marker) g marker;
    })
