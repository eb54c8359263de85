-- What stands in front of a table's text: the header of its environment, or its first line.
use Rattle.std.proofs.Common.{◌≡◌, ◌≢◌, ℕ, List, [], ◌∷◌, ◌++◌, append_assoc, codes, inl, inr, map, refl, subst, sym}
use Rattle.std.proofs.Common.{◌∙◌, ◌⊎◌, ◌+◌, ◌≤◌, ap}
use Rattle.std.proofs.lemmas.List.{append_cancel_left}
use Rattle.std.proofs.lemmas.List.Elements.{All-head}
use Rattle.texts.specs.Lines.{line, written}
use Rattle.pep_marker.specs.Environment.{EnvironmentParts, IsEnvironment, variables}
use Rattle.pep_marker.specs.Header.{DifferAt, FindsHeader, form_line, further, here, header, header_line, header_lines}
use Rattle.pep_marker.specs.Name.{IsNormalName}
use Rattle.pep_marker.specs.declared.header.HeaderIn.TheVariants.{Missing, Bad}
use Rattle.std.specs.Borrow.{Bor}
use Rattle.pep_marker.proofs.HeaderLaws.{header_lines_one, headers_apart}
use Rattle.demands.specs.declared.fault.TableFault.{TableFault}
use Rattle.demands.specs.declared.fault.TableFault.TheVariants.{BadTable, NoMemory, OtherEnvironment}
use Rattle.demands.specs.declared.verdict.Verdict.{Verdict}
use Rattle.demands.specs.declared.verdict.Verdict.TheVariants.{Possible, Nothing, Conflict}
use Rattle.demands.specs.Table.{IsValidTable, TableParts, names}
use Rattle.demands.specs.Verdict.{verdict_word}
use Rattle.pep_table.specs.Way.EntryReading.{HasNoHead, parts_then}
use Rattle.pep_table.specs.TableText.{AreNoLines, AreTableLines, IsNoTableText, IsReadAs, IsTableText}
use Rattle.pep_table.specs.TableText.{IsUnread}
use Rattle.pep_table.specs.Refused.{IsHead, IsRefusedAsTable, IsToldLine}
use Rattle.pep_table.specs.Way.ReadText.{DecidesText, TellsLine}
use Rattle.pep_table.specs.Refused.{feeds, of_none, of_other}
use Rattle.pep_table.proofs.OneTableOfText.{same_lines}
use Rattle.pep_table.proofs.ReadParts.{no_verdict}
use Rattle.pep_table.proofs.ReadTables.{whole}

-- ---- the first line of a header is that of no entry

no_word : (v : Verdict) → ¬ (verdict_word v ≡ codes "2")
no_word Possible e = cc e
no_word Nothing e = cc e
no_word Conflict e = cc e

form_no_head : (x back : List ℕ) → x ≡ line form_line ++ back → HasNoHead x
form_no_head x back cut =
    no_verdict x form_line back (cut ∙ append_assoc form_line (10 ∷ []) back) refl
    (codes "pep-table") (codes "2") refl refl no_word

form_no_lines : (x back : List ℕ) → x ≡ line form_line ++ back → AreNoLines x
form_no_lines x back cut [] valid h = let e = sym cut ∙ h in cc e
form_no_lines x back cut (p ∷ t) valid (verdict, rest, shows, more, e) =
    form_no_head x back cut p.0 verdict (parts_then p.1 rest) (record {
      is_name = All-head IsNormalName p.0 (names t) valid.names.1;
      first = e ∙ whole p.0 verdict p.1 rest;
    })

header_front : (e : EnvironmentParts) (x lines : List ℕ) → x ≡ header e ++ lines →
    x ≡ line form_line ++ (written (map (header_line e) variables) ++ lines)
header_front e x lines cut =
    cut ∙ append_assoc (line form_line) (written (map (header_line e) variables)) lines

-- ---- what a text is decided by

-- a text with a header, whose lines are no table's
text_of_none : (e f : EnvironmentParts) → IsEnvironment e → IsEnvironment f → (x lines : List ℕ) →
    x ≡ header f ++ lines → AreNoLines lines → IsNoTableText e x
text_of_none e f is are x lines cut none = record { unread = unread; nowhere = nowhere }
  where
    nowhere : (g : EnvironmentParts) (t : TableParts) → IsEnvironment g → IsValidTable t →
        ¬ IsTableText g t x
    nowhere g t its valid (ls, h, same) =
        none t valid (subst (AreTableLines t)
        (sym (headers_apart f g are its lines ls (sym cut ∙ same)).1) h)

    unread : IsUnread e x
    unread t valid (inl text) = nowhere e t is valid text
    unread t valid (inr h) =
        form_no_lines x (written (map (header_line f) variables) ++ lines)
        (header_front f x lines cut) t valid h

pub decides_missing : (e : EnvironmentParts) (x : List ℕ) → FindsHeader e x Missing → DecidesText e x x
decides_missing e x none = (
  (λ t h. inr h),
  λ no. record {
    unread = λ t valid read. elim read [
      | inl text ↦ nowhere e t text
      | inr h ↦ no t valid h
    ];
    nowhere = λ f t is valid text. nowhere f t text;
  },
  ([], inl (refl, none), refl),
)
  where
    nowhere : (f : EnvironmentParts) (t : TableParts) → ¬ IsTableText f t x
    nowhere f t text =
        none (written (map (header_line f) variables) ++ text.0) (header_front f x text.0 text.2)

pub decides_own : (e : EnvironmentParts) → IsEnvironment e → (x lines : List ℕ) →
    x ≡ header e ++ lines → DecidesText e x lines
decides_own e is x lines cut = (
  (λ t h. inl (lines, h, cut)),
  text_of_none e e is is x lines cut,
  (header e, inr (e, is, refl), cut),
)

-- the line that is told of a text which ends in such lines
told_behind : (x lines : List ℕ) (fault : TableFault) → TellsLine x lines fault → (head : List ℕ) →
    IsHead x head → x ≡ head ++ lines → (number : ℕ) × (fault ≡ BadTable number) × IsToldLine x number
told_behind x lines fault tells head is cut =
    let (number, bad, front, rest, begins, split, counted) = tells head cut in (
      number,
      bad,
      inl (record {
        head = head;
        is_head = is;
        front = front;
        begins = begins;
        rest = rest;
        cut = cut ∙ ap (λ z. head ++ z) split;
        counted = counted;
      }),
    )

differ_apart : (xs ys : List (List ℕ)) (n : ℕ) → DifferAt xs ys n → xs ≢ ys
differ_apart xs ys n (here other) same = other (cc same)
differ_apart xs ys n (further one more) same =
    differ_apart _ _ _ more (cc same)

pub refused_other : (e : EnvironmentParts) → IsEnvironment e → (x lines : List ℕ) (number : ℕ)
    (fault : TableFault) → ((f : EnvironmentParts) × IsEnvironment f × (x ≡ header f ++ lines)
    × DifferAt (header_lines e) (header_lines f) number) →
    (fault ≡ NoMemory)
    ⊎ ((fault ≡ OtherEnvironment number) × (t : TableParts) × IsValidTable t × AreTableLines t lines)
    ⊎ (TellsLine x lines fault × AreNoLines lines) → (fault ≡ NoMemory) ⊎ IsRefusedAsTable e x fault
refused_other e is x lines number fault (f, are, cut, differ) (inl none) = inl none
refused_other e is x lines number fault (f, are, cut, differ) (inr (inl (same, t, valid, h))) =
    inr (of_other number same (record {
      other = f;
      environment = are;
      table = t;
      valid = valid;
      text = (lines, h, cut);
      differs = differ;
      unread = unread;
    }))
  where
    unread : IsUnread e x
    unread s v (inl (ls, g, at)) =
        differ_apart (header_lines e) (header_lines f) number differ
        (header_lines_one e f is are (headers_apart e f is are ls lines (sym at ∙ cut)).0)
    unread s v (inr g) =
        form_no_lines x (written (map (header_line f) variables) ++ lines)
        (header_front f x lines cut) s v g
refused_other e is x lines number fault (f, are, cut, differ) (inr (inr (tells, none))) =
    let told = told_behind x lines fault tells (header f) (inr (f, are, refl)) cut in
    inr (of_none told.0 told.1 (text_of_none e f is are x lines cut none) told.2)

pub refused_bad : (e : EnvironmentParts) → IsEnvironment e → (x : List ℕ) (rest : Bor (List ℕ))
    (number : ℕ) → 1 ≤ number → number ≤ feeds x + 1 → FindsHeader e x (Bad rest) →
    IsRefusedAsTable e x (BadTable number)
refused_bad e is x rest number low high ((back, cut), none) =
    of_none number refl (record {
      unread = λ t valid read. elim read [
        | inl text ↦ none e text.0 is text.2
        | inr h ↦ form_no_lines x back cut t valid h
      ];
      nowhere = λ f t are valid text. none f text.0 are text.2;
    })
    (inr (record { back = back; begins = cut; none = none; low = low; high = high }))

pub refused_lines : (e : EnvironmentParts) (x lines : List ℕ) (fault : TableFault) →
    DecidesText e x lines → (fault ≡ NoMemory) ⊎ (TellsLine x lines fault × AreNoLines lines) →
    (fault ≡ NoMemory) ⊎ IsRefusedAsTable e x fault
refused_lines e x lines fault decides (inl none) = inl none
refused_lines e x lines fault decides (inr (tells, none)) =
    let (head, is, cut) = decides.2 in
    let told = told_behind x lines fault tells head is cut in
    inr (of_none told.0 told.1 (decides.1 none) told.2)

-- ---- one table

-- a text that was printed is read back as the table
pub read_back : (e : EnvironmentParts) (s t : TableParts) (x : List ℕ) → IsTableText e s x →
    IsReadAs e t x → IsValidTable s → IsValidTable t → s ≡ t
read_back e s t x (ls, h, cut) (inl (ms, g, same)) vs vt =
    let one = append_cancel_left (header e) ls ms (sym cut ∙ same) in
    same_lines s t ms (subst (AreTableLines s) one h) g vs vt
read_back e s t x (ls, h, cut) (inr g) vs vt =
    absurd (form_no_lines x (written (map (header_line e) variables) ++ ls) (header_front e x ls cut) t vt g)

-- .. and is no table's lines
pub text_no_lines : (f : EnvironmentParts) (s t : TableParts) (x : List ℕ) → IsTableText f s x →
    IsValidTable t → ¬ AreTableLines t x
text_no_lines f s t x (ls, h, cut) =
    form_no_lines x (written (map (header_line f) variables) ++ ls) (header_front f x ls cut) t

-- a text is that of one table in one environment
pub one_table_of_text : (e f : EnvironmentParts) (s t : TableParts) (x : List ℕ) → IsEnvironment e →
    IsEnvironment f → IsTableText e s x → IsTableText f t x → IsValidTable s → IsValidTable t →
    (s ≡ t) × (header e ≡ header f)
one_table_of_text e f s t x is are (ls, h, cut) (ms, g, same) vs vt =
    let both = headers_apart e f is are ls ms (sym cut ∙ same) in
    (same_lines s t ms (subst (AreTableLines s) both.1 h) g vs vt, both.0)

-- a text is read as one table
pub read_as_one : (e : EnvironmentParts) (s t : TableParts) (x : List ℕ) → IsReadAs e s x →
    IsReadAs e t x → IsValidTable s → IsValidTable t → s ≡ t
read_as_one e s t x (inl h) g vs vt = read_back e s t x h g vs vt
read_as_one e s t x (inr h) (inl g) vs vt = sym (read_back e t s x g (inr h) vt vs)
read_as_one e s t x (inr h) (inr g) vs vt = same_lines s t x h g vs vt
