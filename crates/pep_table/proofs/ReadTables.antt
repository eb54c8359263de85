-- The entries of a table's text, read one by one.
use Rattle.std.proofs.Common.{◌≡◌, ◌⊎◌, ℕ, true, List, [], ◌∷◌, ◌++◌, codes, inl, inr}
use Rattle.std.proofs.Common.{refl, sym, ap, subst, ◌∙◌, append_assoc, append-nil, arith, length, map}
use Rattle.std.specs.Prelude.{All}
use Rattle.std.specs.List.{list_all}
use Rattle.std.proofs.lemmas.Bool.Decides.{nat_tests}
use Rattle.std.proofs.lemmas.List.{map-append}
use Rattle.std.proofs.lemmas.List.Elements.{All-head, All-nil, All-push, All-tail}
use Rattle.texts.proofs.Connectives.{and_first}
use Rattle.pep_marker.specs.Name.{IsNormalName}
use Rattle.pep_require.specs.Requirement.{IsAscending}
use Rattle.pep_table.proofs.AscendingItems.{behind_one}
use Rattle.pep_table.proofs.CutTexts.{is_plain}
use Rattle.pep_table.proofs.ReadItems.{all_behind, ascending_front}
use Rattle.pep_table.proofs.ReadParts.{one_head}
use Rattle.pep_table.proofs.TableLines.{name_plain, regroup}
use Rattle.demands.proofs.Verdicts.{verdict_one}
use Rattle.demands.specs.declared.verdict.Verdict.{Verdict}
use Rattle.pep_table.specs.Way.EntryReading.{BeginsSpace, FollowsAlike, HasHead, HasNext, HasNoHead}
use Rattle.pep_table.specs.Way.EntryReading.{HasNoNext, TakesEntries, last_name}
use Rattle.pep_table.specs.Way.EntryReading.{HasNoParts, HasOtherVerdict, HasParts, IsEntryAt, head_line}
use Rattle.pep_table.specs.Way.EntryReading.{parts_then}
use Rattle.demands.specs.Table.{EntryDemands, EntryParts, IsValidEntry, IsValidTable, TableParts}
use Rattle.demands.specs.Table.{names}
use Rattle.pep_table.specs.TableText.{AreNoLines, AreTableLines, Shows, entry_text, kind_lines}
use Rattle.pep_table.specs.TableText.{line, range_text}
use Rattle.pep_table.specs.Refused.{BeginsEntry, HasNoEntry}
use Rattle.pep_table.specs.Way.ReadText.{HaltsAt, IsBehind, StopsIn}
use Rattle.pep_table.specs.declared.read.Halt.{Halt}
use Rattle.pep_table.specs.declared.read.Halt.TheVariants.{NoMemory, At}
use Rattle.pep_table.proofs.ToldLines.{lines_append, one_entry}
use Rattle.demands.specs.Verdict.{verdict_word}

-- ---- an entry's text is its first line and the lines behind it

pub whole : (name : List ℕ) (verdict : Verdict) (e : EntryParts) (rest : List ℕ) →
    entry_text name verdict e ++ rest ≡ line (head_line name verdict) ++ parts_then e rest
whole name verdict e rest =
    regroup (line (head_line name verdict)) (kind_lines (codes "extra") e.extras)
    (kind_lines (codes "url") e.urls) (kind_lines (codes "text") e.texts)
    (kind_lines (codes "range") (map range_text e.versions)) rest

module _ (before : List (List ℕ)) (x : List ℕ) where
  head_of : (m : List ℕ) (f : EntryParts) (y : List ℕ) (next : IsEntryAt before x m f y) →
      HasHead x m next.text.0 (parts_then f y)
  head_of m f y next =
      record { is_name = next.is_name; first = next.text.2 ∙ whole m next.text.0 f y }

  -- no first line stands there
  pub no_head : HasNoHead x → HasNoNext before x
  no_head none m f y out next = none m next.text.0 (parts_then f y) (head_of m f y next)

  module _ (name : List ℕ) (verdict : Verdict) (rest : List ℕ)
      (head : HasHead x name verdict rest) where
    same_head : (m : List ℕ) (f : EntryParts) (y : List ℕ) (next : IsEntryAt before x m f y) →
        (name ≡ m) × (verdict ≡ next.text.0) × (rest ≡ parts_then f y)
    same_head m f y next =
        one_head x name m verdict next.text.0 rest (parts_then f y) head (head_of m f y next)

    -- the name doesn't stand behind those of the others
    pub not_behind : ¬ IsAscending (before ++ name ∷ []) → HasNoNext before x
    not_behind falls m f y out next =
        falls (subst (λ n. IsAscending (before ++ n ∷ [])) (sym (same_head m f y next).0)
        next.behind)

    pub no_parts : HasNoParts rest → HasNoNext before x
    no_parts none m f y out next = none f y next.valid out (same_head m f y next).2

    module _ (e : EntryParts) (behind : List ℕ) (parts : HasParts rest e behind) where
      -- the verdict is another one
      pub other_verdict : (right : Verdict) → Shows e right → ¬ (right ≡ verdict) →
          HasNoNext before x
      other_verdict right shows other m f y out next =
          let same = same_head m f y next in
          let entry = (parts.one f y next.valid out same.2).0 in
          other (verdict_one (EntryDemands e) right next.text.0 shows
          (subst (λ g. Shows g next.text.0) (sym entry) next.text.1) ∙ sym same.1)

      pub entry_read : IsAscending (before ++ name ∷ []) → Shows e verdict →
          HasNext before x name e behind
      entry_read rises shows = record {
        next = record {
          is_name = head.is_name;
          behind = rises;
          valid = parts.valid;
          text = (
            verdict,
            shows,
            head.first ∙ ap (λ z. line (head_line name verdict) ++ z) parts.lines
                ∙ sym (whole name verdict e behind),
          );
        };
        one = λ m f y next out.
            let same = same_head m f y next in
            let entry = parts.one f y next.valid out same.2 in (same.0, entry.0, entry.1);
      }

    -- no parts with this verdict stand behind the first line
    pub not_read : HasNoParts rest ⊎ HasOtherVerdict verdict rest → HasNoNext before x
    not_read (inl none) = no_parts none
    not_read (inr (e, behind, right, parts, shows, other)) =
        other_verdict e behind parts right shows other

-- ---- behind names that are followed alike

module _ (before after : List (List ℕ)) (x : List ℕ) (alike : FollowsAlike before after) where
  entry_alike : (m : List ℕ) (f : EntryParts) (y : List ℕ) → IsEntryAt before x m f y →
      IsEntryAt after x m f y
  entry_alike m f y at = record {
    is_name = at.is_name;
    behind = (alike m).0 at.behind;
    valid = at.valid;
    text = at.text;
  }

  pub next_alike : (name : List ℕ) (e : EntryParts) (rest : List ℕ) →
      HasNext after x name e rest → HasNext before x name e rest
  next_alike name e rest found = record {
    next = record {
      is_name = found.next.is_name;
      behind = (alike name).1 found.next.behind;
      valid = found.next.valid;
      text = found.next.text;
    };
    one = λ m f y at out. found.one m f y (entry_alike m f y at) out;
  }

  pub none_alike : HasNoNext after x → HasNoNext before x
  none_alike none m f y out at = none m f y out (entry_alike m f y at)

-- ---- what a table goes on with

above_space : (b : ℕ) → is_plain b ≡ true → b ≡ 32 → ⊥
above_space b h e = grind (arith, nat_tests)

plain_first : (n x : List ℕ) → IsNormalName n → ¬ BeginsSpace (n ++ x)
plain_first [] x h (rest, e) = none h
  where
    none : IsNormalName [] → ⊥
    none h = cc h.0
plain_first (b ∷ n) x h (rest, e) =
    above_space b (and_first (is_plain b) (list_all is_plain n) (name_plain (b ∷ n) h)) (cc e)

name_first : (name : List ℕ) (verdict : Verdict) (rest : List ℕ) →
    line (head_line name verdict) ++ rest
    ≡ name ++ (codes " " ++ verdict_word verdict ++ 10 ∷ rest)
name_first name verdict rest =
    append_assoc (head_line name verdict) (10 ∷ []) rest
    ∙ append_assoc (name ++ codes " ") (verdict_word verdict) (10 ∷ rest)
    ∙ append_assoc name (codes " ") (verdict_word verdict ++ 10 ∷ rest)

pub table_outside : (t : TableParts) (x : List ℕ) → All IsNormalName (names t) → AreTableLines t x →
    ¬ BeginsSpace x
table_outside [] x h e (rest, b) = cc (e, b)
table_outside (p ∷ t) x h (verdict, behind, shows, more, e) begins =
    let name = p.0 in
    let back = codes " " ++ verdict_word verdict ++ 10 ∷ parts_then p.1 behind in
    plain_first name back (All-head IsNormalName name (names t) h)
    (subst BeginsSpace (e ∙ whole name verdict p.1 behind
    ∙ name_first name verdict (parts_then p.1 behind)) begins)

-- ---- the loop

-- these entries are read, and each table that has the text begins with them
pub record EntriesSoFar (x : List ℕ) (t : TableParts) (rest : List ℕ) : Type 0 where
  pub valid : IsValidTable t
  pub done : (s : TableParts) → AreTableLines s rest → AreTableLines (t ++ s) x
  pub goes_on : (s : TableParts) → IsValidTable s → AreTableLines s x →
      (more : TableParts) × (s ≡ t ++ more) × AreTableLines more rest
  pub front : List ℕ
  pub lines : AreTableLines t front
  pub cut : x ≡ front ++ rest

nothing_left : (l : List ℕ) → length l ≡ 0 → l ≡ []
nothing_left [] e = refl
nothing_left (b ∷ l) e = let none : ⊥ = omega (arith, e) in absurd none

pub none_read : (x : List ℕ) → EntriesSoFar x [] x
none_read x = record {
  valid = record { names = (tt, All-nil _); entries = All-nil _ };
  done = λ s h. h;
  goes_on = λ s v h. (s, refl, h);
  front = [];
  lines = refl;
  cut = refl;
}

module _ (x : List ℕ) (t : TableParts) (rest : List ℕ) (s : EntriesSoFar x t rest) where
  pub all_read : length rest ≡ 0 → AreTableLines t x
  all_read e =
      subst (λ l. AreTableLines l x) (append-nil t) (s.done [] (nothing_left rest e))

  -- the next entry of a table that has the text
  next_entry : ¬ (rest ≡ []) → (u : TableParts) → IsValidTable u → AreTableLines u x →
      (p : List ℕ × EntryParts) × (more : TableParts) × (y : List ℕ) × (u ≡ t ++ p ∷ more)
      × IsEntryAt (names t) rest p.0 p.1 y × AreTableLines more y × ¬ BeginsSpace y
  next_entry some u valid has = let (more, split, left) = s.goes_on u valid has in by more split left
    where
      by : (more : TableParts) → u ≡ t ++ more → AreTableLines more rest →
          (p : List ℕ × EntryParts) × (more : TableParts) × (y : List ℕ) × (u ≡ t ++ p ∷ more)
          × IsEntryAt (names t) rest p.0 p.1 y × AreTableLines more y × ¬ BeginsSpace y
      by [] split left = absurd (some left)
      by (p ∷ more) split (verdict, y, shows, left, e) =
          let all = subst IsValidTable split valid in
          let in_order = subst IsAscending (map-append (λ q. q.0) t (p ∷ more)) all.names.0 in
          let are_names =
          all_behind IsNormalName (names t) (names (p ∷ more))
          (subst (All IsNormalName) (map-append (λ q. q.0) t (p ∷ more)) all.names.1) in
          let entries = all_behind (λ q. IsValidEntry q.1) t (p ∷ more) all.entries in (
            p,
            more,
            y,
            split,
            record {
              is_name = All-head IsNormalName p.0 (names more) are_names;
              behind = ascending_front (names t) p.0 (names more) in_order;
              valid = All-head (λ q. IsValidEntry q.1) p more entries;
              text = (verdict, shows, e);
            },
            left,
            table_outside more y (All-tail IsNormalName p.0 (names more) are_names) left,
          )

  pub no_next : ¬ (rest ≡ []) → HasNoNext (names t) rest → AreNoLines x
  no_next some none u valid has =
      let next = next_entry some u valid has in none next.0.0 next.0.1 next.2 next.6 next.4

  pub entry_more : (name : List ℕ) (e : EntryParts) (behind : List ℕ) → ¬ (rest ≡ []) →
      HasNext (names t) rest name e behind → EntriesSoFar x (t ++ (name, e) ∷ []) behind
  entry_more name e behind some found = record {
    valid = record {
      names = (
        subst IsAscending (sym (map-append (λ q. q.0) t ((name, e) ∷ []))) found.next.behind,
        subst (All IsNormalName) (sym (map-append (λ q. q.0) t ((name, e) ∷ [])))
            (All-push IsNormalName (names t) name s.valid.names.1 found.next.is_name),
      );
      entries = All-push (λ q. IsValidEntry q.1) t (name, e) s.valid.entries found.next.valid;
    };
    done = λ u has. subst (λ l. AreTableLines l x) (sym (append_assoc t ((name, e) ∷ []) u))
        (s.done ((name, e) ∷ u)
        (found.next.text.0, behind, found.next.text.1, has, found.next.text.2));
    goes_on = λ u valid has.
        let (p, more, y, split, at, left, out) = next_entry some u valid has in
        let same = found.one p.0 p.1 y at out in (
          more,
          split ∙ (λ i. t ++ (sym same.0 i, sym same.1 i) ∷ more)
              ∙ sym (append_assoc t ((name, e) ∷ []) more),
          subst (AreTableLines more) (sym same.2) left,
        );
    front = s.front ++ entry_text name found.next.text.0 e;
    lines = lines_append t ((name, e) ∷ []) s.front (entry_text name found.next.text.0 e) s.lines
        (one_entry name found.next.text.0 e found.next.text.1);
    cut = s.cut ∙ ap (λ z. s.front ++ z) found.next.text.2
        ∙ sym (append_assoc s.front (entry_text name found.next.text.0 e) behind);
  }

  -- where no entry can be read next, the table goes on with none
  no_entry : HasNoNext (names t) rest → HasNoEntry t rest
  no_entry none name e verdict left valid shows out is =
      let up = subst IsAscending (map-append (λ q. q.0) t ((name, e) ∷ [])) valid.names.0 in
      let are = subst (All IsNormalName) (map-append (λ q. q.0) t ((name, e) ∷ [])) valid.names.1 in
      none name e left (λ (more, begins). out more begins) (record {
        is_name = All-head IsNormalName name [] (all_behind IsNormalName (names t) (name ∷ []) are);
        behind = up;
        valid = All-head (λ q. IsValidEntry q.1) (name, e) []
            (all_behind (λ q. IsValidEntry q.1) t ((name, e) ∷ []) valid.entries);
        text = (verdict, shows, is);
      })

  -- .. and reading stops in it, or behind it
  pub stops_next : (halt : Halt) → (halt ≡ NoMemory) ⊎ HasNoNext (names t) rest →
      HaltsAt (IsBehind BeginsEntry rest) halt → HaltsAt (StopsIn x) halt
  stops_next NoMemory refused h = tt
  stops_next (At left) (inl e) h = absurd (cc e)
  stops_next (At left) (inr none) (part, split, begins) = (
    s.front ++ part,
    s.cut ∙ ap (λ z. s.front ++ z) split ∙ sym (append_assoc s.front part left.now),
    record {
      table = t;
      valid = s.valid;
      done = s.front;
      lines = s.lines;
      part = part;
      begins = begins;
      is = refl;
      none = subst (HasNoEntry t) split (no_entry none);
    },
  )

-- ---- entries that are taken as they are read

-- entries are read, of which the last name is kept, and what is taken of them
pub record TakenSoFar {A : Type 0} (takes : List ℕ → EntryParts → A → A → Type 0) (x : List ℕ)
    (last : List (List ℕ)) (first taken : A) (rest : List ℕ) : Type 0 where
  pub done : TableParts
  pub entries : EntriesSoFar x done rest
  pub alike : FollowsAlike (names done) last
  pub made : TakesEntries takes done first taken

pub none_taken : {A : Type 0} (takes : List ℕ → EntryParts → A → A → Type 0) (x : List ℕ) (first : A) →
    TakenSoFar takes x [] first first x
none_taken takes x first = record {
  done = [];
  entries = none_read x;
  alike = λ m. ((λ h. h), λ h. h);
  made = refl;
}

one_more : {A : Type 0} (takes : List ℕ → EntryParts → A → A → Type 0) (t : TableParts) (p : List ℕ × EntryParts)
    (old mid new : A) → TakesEntries takes t old mid → takes p.0 p.1 mid new →
    TakesEntries takes (t ++ p ∷ []) old new
one_more takes [] p old mid new h g = (new, subst (λ o. takes p.0 p.1 o new) (sym h) g, refl)
one_more takes (q ∷ t) p old mid new (m, s, h) g = (m, s, one_more takes t p m mid new h g)

one_last : (name : List ℕ) → IsNormalName name → last_name name ≡ name ∷ []
one_last [] h = absurd (none h)
  where
    none : IsNormalName [] → ⊥
    none h = cc h.0
one_last (b ∷ name) h = refl

pub all_taken : {A : Type 0} (takes : List ℕ → EntryParts → A → A → Type 0) (x : List ℕ) (last : List (List ℕ))
    (first taken : A) (rest : List ℕ) → TakenSoFar takes x last first taken rest → length rest ≡ 0 →
    (t : TableParts) × IsValidTable t × AreTableLines t x × TakesEntries takes t first taken
all_taken takes x last first taken rest s e =
    (s.done, s.entries.valid, all_read x s.done rest s.entries e, s.made)

pub none_behind : {A : Type 0} (takes : List ℕ → EntryParts → A → A → Type 0) (x : List ℕ) (last : List (List ℕ))
    (first taken : A) (rest : List ℕ) → TakenSoFar takes x last first taken rest → ¬ (rest ≡ []) →
    HasNoNext last rest → AreNoLines x
none_behind takes x last first taken rest s some none =
    no_next x s.done rest s.entries some (none_alike (names s.done) last rest s.alike none)

pub taken_more : {A : Type 0} (takes : List ℕ → EntryParts → A → A → Type 0) (x : List ℕ) (last : List (List ℕ))
    (first taken : A) (rest : List ℕ) → TakenSoFar takes x last first taken rest →
    (name : List ℕ) (e : EntryParts) (behind : List ℕ) (new : A) → ¬ (rest ≡ []) →
    HasNext last rest name e behind → takes name e taken new →
    TakenSoFar takes x (last_name name) first new behind
taken_more takes x last first taken rest s name e behind new some next step =
    let own = next_alike (names s.done) last rest s.alike name e behind next in
    let split = map-append (λ q. q.0) s.done ((name, e) ∷ []) in
    record {
      done = s.done ++ (name, e) ∷ [];
      entries = entry_more x s.done rest s.entries name e behind some own;
      alike = subst (λ l. FollowsAlike l (last_name name)) (sym split)
          (subst (FollowsAlike (names s.done ++ name ∷ [])) (sym (one_last name own.next.is_name))
          (behind_one (names s.done) name own.next.behind));
      made = one_more takes s.done (name, e) first taken new s.made step;
    }
