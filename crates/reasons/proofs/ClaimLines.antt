-- The lines and texts of which inputs have their requirements, by their numbers; and where the
-- entries of a table file begin.
use Rattle.std.proofs.Common.{◌≡◌, ℕ, ◌+◌, Bool, true, false, List, [], ◌∷◌, ◌++◌}
use Rattle.std.proofs.Common.{append_assoc, length, refl, sym, ap, subst, ◌∙◌, inl, inr}
use Rattle.std.proofs.Common.{Option, Ok, Some, arith}
use Rattle.std.specs.List.{AllZip}
use Rattle.std.specs.Prelude.{Contains, bytes_eq}
use Rattle.std.proofs.lemmas.Slice.Eq.{bytes_eq-Decides}
use Rattle.pep_marker.specs.Environment.{EnvironmentParts}
use Rattle.pep_marker.specs.Header.{header}
use Rattle.pep_require.proofs.Ascending.{rest_ascends}
use Rattle.pep_require.proofs.LineLaws.{one_requirement}
use Rattle.pep_require.specs.Reads.{Reads}
use Rattle.pep_require.specs.Requirement.{IsAscending, RequirementParts}
use Rattle.demands.specs.Table.{EntryParts, TableParts, entry_at, names}
use Rattle.documents.proofs.GroupEnds.{one_texts}
use Rattle.documents.proofs.ReadTexts.{numbered, numbered_in, zip_line, zip_read}
use Rattle.documents.specs.ProjectRequirements.{IsProjectOf}
use Rattle.documents.specs.RefusedProject.{IsNumbered}
use Rattle.pep_table.proofs.EntryPlaces.{behind_apart}
use Rattle.pep_table.specs.OneText.{entry_first, entry_other}
use Rattle.pep_table.specs.TableText.{AreTableLines, IsReadAs, entry_text}
use Rattle.inputs.proofs.ListTexts.{kept_in, kept_of}
use Rattle.inputs.specs.declared.input.Kind.{Kind}
use Rattle.inputs.specs.declared.input.Kind.TheVariants as kind
use Rattle.inputs.specs.Lists.{HoldsTable, Lists, content, lines_of, requirement_lines}
use Rattle.inputs.specs.TableFiles.{IsTableFile}
use Rattle.reasons.specs.Places.{BeginsOn, EntersAt, IsOfText, RequiresAt}

number_of : {A : Type 0} (xs : List A) (x : A) → Contains xs x → (n : ℕ) × IsNumbered xs n x
number_of xs x m = (m.0 + 1, numbered xs m.0 m.0 x m.1 (sym m.2) refl)

-- ---- requirements of a project file and their texts, at one number

-- what stands beside a numbered element has its number
beside : {A B : Type 0} (R : A → B → Type 0) (xs : List A) (before : List B) (y : B)
    (behind : List B) → AllZip R xs (before ++ y ∷ behind) →
    (x : A) × IsNumbered xs (length before + 1) x × R x y
beside R [] [] y behind z = absurd z
beside R [] (b ∷ before) y behind z = absurd z
beside R (x ∷ xs) [] y behind z =
    (x, record { before = []; behind = xs; whole = refl; counted = refl }, z.0)
beside R (x ∷ xs) (b ∷ before) y behind z =
    let found = beside R xs before y behind z.1 in
    let at = found.1 in
    let count = at.counted in (
      found.0,
      record {
        before = x ∷ at.before;
        behind = at.behind;
        whole = ap (λ l. x ∷ l) at.whole;
        counted = omega (arith, count);
      },
      found.2,
    )

turned : {A B : Type 0} (R : A → B → Type 0) (xs : List A) (ys : List B) → AllZip R xs ys →
    AllZip (λ y x. R x y) ys xs
turned R [] [] z = tt
turned R [] (y ∷ ys) z = absurd z
turned R (x ∷ xs) [] z = absurd z
turned R (x ∷ xs) (y ∷ ys) z = (z.0, turned R xs ys z.1)

-- a requirement stands beside a text with its number ..
pub of_text : (extra : List ℕ) (group : Option (List ℕ)) (bytes : List ℕ)
    (rs : List RequirementParts) (n : ℕ) (r : RequirementParts) → IsProjectOf extra group bytes rs →
    IsNumbered rs n r → IsOfText extra group bytes n r
of_text extra group bytes rs n r h at =
    let found = beside Reads h.0 at.before r at.behind
    (subst (λ (l : List RequirementParts). AllZip Reads h.0 l) at.whole h.2) in
    record {
      texts = h.0;
      asked = h.1;
      text = found.0;
      numbered = subst (λ k. IsNumbered h.0 k found.0) (sym at.counted) found.1;
      reads = found.2;
    }

-- .. and a text beside a requirement
pub of_number : (extra : List ℕ) (group : Option (List ℕ)) (bytes : List ℕ)
    (rs : List RequirementParts) (n : ℕ) (r : RequirementParts) → IsProjectOf extra group bytes rs →
    IsOfText extra group bytes n r → IsNumbered rs n r
of_number extra group bytes rs n r h at =
    let same : h.0 ≡ at.texts =
    cc (one_texts extra group bytes (Ok h.0) (Ok at.texts) h.1 at.asked) in
    let found = beside (λ q x. Reads x q) rs at.numbered.before at.text at.numbered.behind
    (subst (AllZip (λ q x. Reads x q) rs) (same ∙ at.numbered.whole) (turned Reads h.0 rs h.2)) in
    subst (IsNumbered rs n) (one_requirement at.text found.0 r found.2 at.reads)
    (subst (λ k. IsNumbered rs k found.0) (sym at.numbered.counted) found.1)

-- ---- requirements of an input

-- what stands at a number is one of the requirements ..
pub required_in : (extra : List ℕ) (k : Kind) (group : Option (List ℕ)) (bytes : List ℕ)
    (rs : List RequirementParts) (number : ℕ) (r : RequirementParts) →
    Lists extra k group bytes rs → RequiresAt extra k group bytes number r → Contains rs r
required_in extra kind.List group bytes rs number r h at =
    let found = zip_read (requirement_lines bytes) rs (content at.line) h.requirements
    (kept_in (lines_of bytes) at.line (numbered_in (lines_of bytes) number at.line at.numbered) at.kept) in
    subst (Contains rs) (one_requirement (content at.line) found.0 r found.2 at.reads) found.1
required_in extra kind.Project group bytes rs number r h at =
    numbered_in rs number r (of_number extra group bytes rs number r h at)
required_in extra kind.Table group bytes rs number r h at = absurd at

-- .. and each of them stands at one
pub required_at : (extra : List ℕ) (k : Kind) (group : Option (List ℕ)) (bytes : List ℕ)
    (rs : List RequirementParts) (r : RequirementParts) → Lists extra k group bytes rs →
    Contains rs r → (number : ℕ) × RequiresAt extra k group bytes number r
required_at extra kind.List group bytes rs r h has =
    let found = zip_line (requirement_lines bytes) rs r h.requirements has in
    let line = kept_of (lines_of bytes) found.0 found.1 in
    let at = number_of (lines_of bytes) line.line line.among in (
      at.0,
      record {
        line = line.line;
        numbered = at.1;
        kept = line.kept;
        reads = subst (λ (t : List ℕ). Reads t r) (sym line.text) found.2;
      },
    )
required_at extra kind.Project group bytes rs r h has =
    let at = number_of rs r has in (at.0, of_text extra group bytes rs at.0 r h at.1)
required_at extra kind.Table group bytes rs r h has = absurd h

-- a table has no requirements
pub no_requirement : (e : EnvironmentParts) (extra : List ℕ) (k : Kind) (group : Option (List ℕ))
    (bytes : List ℕ) (t : TableParts) (number : ℕ) (r : RequirementParts) → HoldsTable e k bytes t →
    RequiresAt extra k group bytes number r → ⊥
no_requirement e extra kind.List group bytes t number r h at = absurd h
no_requirement e extra kind.Project group bytes t number r h at = absurd h
no_requirement e extra kind.Table group bytes t number r h at = at

-- ---- entries of a table

-- the entry of a name behind others
pub entry_behind : (before : TableParts) (name : List ℕ) (entry : EntryParts) (behind : TableParts) →
    IsAscending (names (before ++ (name, entry) ∷ behind)) →
    entry_at (before ++ (name, entry) ∷ behind) name ≡ Some entry
entry_behind [] name entry behind up = entry_first (name, entry) behind
entry_behind (p ∷ before) name entry behind up =
    entry_other p (before ++ (name, entry) ∷ behind) name
    (λ same. behind_apart (p ∷ before) (name, entry) behind up (inl (sym same)))
    ∙ entry_behind before name entry behind
    (rest_ascends p.0 (names (before ++ (name, entry) ∷ behind)) up)

pub record IsSplitAt (t : TableParts) (name : List ℕ) (entry : EntryParts) : Type 0 where
  pub before : TableParts
  pub behind : TableParts
  pub whole : t ≡ before ++ (name, entry) ∷ behind

split_there : (t : TableParts) (name : List ℕ) (entry : EntryParts) →
    entry_at t name ≡ Some entry → IsSplitAt t name entry
split_there [] name entry at = cc at
split_there (p ∷ t) name entry at = by (bytes_eq p.0 name) refl (split_there t name entry)
  where
    by : (b : Bool) → bytes_eq p.0 name ≡ b → (entry_at t name ≡ Some entry → IsSplitAt t name entry) →
        IsSplitAt (p ∷ t) name entry
    by true is rest =
        let same : p.0 ≡ name = (bytes_eq-Decides p.0 name).0 is in
        let found : Some p.1 ≡ Some entry = rw is at at in
        let own : p.1 ≡ entry = cc found in
        record { before = []; behind = t; whole = λ i. (same i, own i) ∷ t }
    by false is rest =
        let found = rest (rw is at at) in
        record { before = p ∷ found.before; behind = found.behind; whole = λ i. p ∷ found.whole i }

-- the lines of a table cut between entries
pub record AreCutLines (before behind : TableParts) (x : List ℕ) : Type 0 where
  pub front : List ℕ
  pub rest : List ℕ
  pub fore : AreTableLines before front
  pub lines : AreTableLines behind rest
  pub whole : x ≡ front ++ rest

cut_lines : (before behind : TableParts) (x : List ℕ) → AreTableLines (before ++ behind) x →
    AreCutLines before behind x
cut_lines [] behind x h = record { front = []; rest = x; fore = refl; lines = h; whole = refl }
cut_lines (p ∷ before) behind x (w, rest, shows, more, is) =
    let found = cut_lines before behind rest more in
    let own = entry_text p.0 w p.1 in
    record {
      front = own ++ found.front;
      rest = found.rest;
      fore = (w, found.front, shows, found.fore, refl);
      lines = found.lines;
      whole = is ∙ ap (λ (t : List ℕ). own ++ t) found.whole
          ∙ sym (append_assoc own found.front found.rest);
    }

pub entered_in : (e : EnvironmentParts) (k : Kind) (bytes : List ℕ) (number : ℕ) (name : List ℕ)
    (entry : EntryParts) → EntersAt e k bytes number name entry → (t : TableParts)
    × HoldsTable e k bytes t × (entry_at t name ≡ Some entry)
entered_in e kind.List bytes number name entry at = absurd at
entered_in e kind.Project bytes number name entry at = absurd at
entered_in e kind.Table bytes number name entry at = (
  at.before ++ (name, entry) ∷ at.behind,
  at.table,
  entry_behind at.before name entry at.behind at.table.valid.names.0,
)

-- where the entry begins, by those in front of it and those behind
pub record IsEntered (e : EnvironmentParts) (bytes : List ℕ) (name : List ℕ) (entry : EntryParts)
    (behind : TableParts) : Type 0 where
  pub number : ℕ
  pub begins : BeginsOn e bytes number name entry
  pub same : begins.behind ≡ behind

pub begins_there : (e : EnvironmentParts) (bytes : List ℕ) (before : TableParts) (name : List ℕ)
    (entry : EntryParts) (behind : TableParts) →
    IsTableFile e bytes (before ++ (name, entry) ∷ behind) → IsEntered e bytes name entry behind
begins_there e bytes before name entry behind table = by table.text
  where
    by : IsReadAs e (before ++ (name, entry) ∷ behind) bytes → IsEntered e bytes name entry behind
    by (inl (lines, are, is)) =
        let cut = cut_lines before ((name, entry) ∷ behind) lines are in
        let front = header e ++ cut.front in record {
          number = length (lines_of front);
          begins = record {
            before = before;
            behind = behind;
            table = table;
            front = front;
            rest = cut.rest;
            whole = is ∙ ap (λ (t : List ℕ). header e ++ t) cut.whole
                ∙ sym (append_assoc (header e) cut.front cut.rest);
            fore = inl (cut.front, cut.fore, refl);
            lines = cut.lines;
            counted = refl;
          };
          same = refl;
        }
    by (inr are) =
        let cut = cut_lines before ((name, entry) ∷ behind) bytes are in record {
          number = length (lines_of cut.front);
          begins = record {
            before = before;
            behind = behind;
            table = table;
            front = cut.front;
            rest = cut.rest;
            whole = cut.whole;
            fore = inr cut.fore;
            lines = cut.lines;
            counted = refl;
          };
          same = refl;
        }

pub entered_at : (e : EnvironmentParts) (k : Kind) (bytes : List ℕ) (t : TableParts)
    (name : List ℕ) (entry : EntryParts) → HoldsTable e k bytes t → entry_at t name ≡ Some entry →
    (number : ℕ) × EntersAt e k bytes number name entry
entered_at e kind.List bytes t name entry h at = absurd h
entered_at e kind.Project bytes t name entry h at = absurd h
entered_at e kind.Table bytes t name entry h at =
    let found = split_there t name entry at in
    let there = begins_there e bytes found.before name entry found.behind
    (subst (λ (s : TableParts). IsTableFile e bytes s) found.whole h) in
    (there.number, there.begins)
