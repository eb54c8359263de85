-- Where reading a table's text stops, and the line that is told of it.
use Rattle.std.proofs.Common.{◌≡◌, ◌⊎◌, ℕ, ◌+◌, List, [], ◌∷◌, ◌++◌, codes, inl, inr, map}
use Rattle.std.proofs.Common.{refl, sym, ap, subst, ◌∙◌, append_assoc, append-nil}
use Rattle.std.specs.Prelude.{All}
use Rattle.std.proofs.lemmas.List.Elements.{All-head, All-tail}
use Rattle.std.proofs.lemmas.List.Folds.{list_all-append}
use Rattle.texts.proofs.Connectives.{and_from}
use Rattle.texts.specs.Lines.{is_not_feed}
use Rattle.demands.specs.Table.{EntryParts, IsValidEntry, TableParts}
use Rattle.demands.specs.declared.verdict.Verdict.{Verdict}
use Rattle.pep_table.proofs.ReadParts.{entry_plain}
use Rattle.pep_table.specs.Way.EntryReading.{HasParts, parts_then, ranges_then, texts_then}
use Rattle.pep_table.specs.Way.EntryReading.{urls_then}
use Rattle.pep_table.proofs.ReadItems.{items_fit}
use Rattle.pep_table.specs.Way.TableReading.{AreItems, Front, HasNoFeed}
use Rattle.pep_table.specs.TableText.{AreNoLines, AreTableLines, Shows, entry_text, kind_lines}
use Rattle.pep_table.specs.TableText.{line, range_text}
use Rattle.pep_table.specs.Refused.{AreIndented, BeginsEntry}
use Rattle.pep_table.specs.Way.ReadText.{AreKindLines}
use Rattle.pep_table.specs.Refused.{feeds, line_more, no_line}
use Rattle.pep_table.specs.Way.ReadText.{HaltsAt, IsBehind, StopsIn, TellsLine}
use Rattle.demands.specs.declared.fault.TableFault.{TableFault}
use Rattle.demands.specs.declared.fault.TableFault.TheVariants.{BadTable}
use Rattle.demands.specs.declared.fault.TableFault.TheVariants as table
use Rattle.pep_table.specs.declared.read.Halt.{Halt}
use Rattle.pep_table.specs.declared.read.Halt.TheVariants.{NoMemory, At}

-- ---- lines of an entry

plain_append : (x y : List ℕ) → HasNoFeed x → HasNoFeed y → HasNoFeed (x ++ y)
plain_append x y h g = list_all-append is_not_feed x y ∙ and_from _ _ h g

pub kind_indented : (kind : List ℕ) → HasNoFeed kind → (texts : List (List ℕ)) → All HasNoFeed texts →
    AreIndented (kind_lines kind texts)
kind_indented kind h [] plain = no_line
kind_indented kind h (t ∷ ts) plain =
    line_more ((kind ++ codes " ") ++ t) (kind_lines kind ts)
    (plain_append (kind ++ codes " ") t (plain_append kind (codes " ") h refl)
    (All-head HasNoFeed t ts plain))
    (kind_indented kind h ts (All-tail HasNoFeed t ts plain))

pub indented_append : {x : List ℕ} (y : List ℕ) → AreIndented x → AreIndented y →
    AreIndented (x ++ y)
indented_append y no_line h = h
indented_append y (line_more l rest plain g) h =
    subst AreIndented (sym (append_assoc (line (codes "  " ++ l)) rest y))
    (line_more l (rest ++ y) plain (indented_append y g h))

-- ---- where reading stops

pub halts_so : (P Q : List ℕ → Type 0) → ((rest : List ℕ) → P rest → Q rest) → (halt : Halt) →
    HaltsAt P halt → HaltsAt Q halt
halts_so P Q f NoMemory h = tt
halts_so P Q f (At rest) h = f rest.now h

-- behind indented lines and what reading stops behind in the rest of them
pub further_in : (x front rest : List ℕ) → x ≡ front ++ rest → AreIndented front → (left : List ℕ) →
    IsBehind AreIndented rest left → IsBehind AreIndented x left
further_in x front rest cut are left (more, split, others) = (
  front ++ more,
  cut ∙ ap (λ z. front ++ z) split ∙ sym (append_assoc front more left),
  indented_append more are others,
)

pub kind_front_in : (kind : List ℕ) → HasNoFeed kind → (x left : List ℕ) →
    IsBehind (AreKindLines kind) x left → IsBehind AreIndented x left
kind_front_in kind plain x left (front, cut, (texts, are, is)) =
    (front, cut, subst AreIndented (sym is) (kind_indented kind plain texts are))

-- the line that is told where reading stops
pub told_lines : (x lines : List ℕ) (halt : Halt) (fault : TableFault) →
    HaltsAt (StopsIn lines) halt →
    HaltsAt (λ rest. (front : List ℕ) → x ≡ front ++ rest → fault ≡ BadTable (feeds front + 1)) halt →
    (halt ≡ NoMemory) ⊎ TellsLine x lines fault
told_lines x lines NoMemory fault h told = inl refl
told_lines x lines (At rest) fault (front, cut, begins) told = inr (λ head is. (
  feeds (head ++ front) + 1,
  told (head ++ front) (is ∙ ap (λ z. head ++ z) cut ∙ sym (append_assoc head front rest.now)),
  front,
  rest.now,
  begins,
  cut,
  refl,
))

pub lines_refused : (x lines : List ℕ) (halt : Halt) (fault : TableFault) →
    (halt ≡ NoMemory → fault ≡ table.NoMemory) → (halt ≡ NoMemory) ⊎ AreNoLines lines →
    HaltsAt (StopsIn lines) halt →
    HaltsAt (λ rest. (front : List ℕ) → x ≡ front ++ rest → fault ≡ BadTable (feeds front + 1)) halt →
    (fault ≡ table.NoMemory) ⊎ (TellsLine x lines fault × AreNoLines lines)
lines_refused x lines halt fault memory (inl none) h told = inl (memory none)
lines_refused x lines halt fault memory (inr none) h told =
    elim (told_lines x lines halt fault h told) [
      | inl none ↦ inl (memory none)
      | inr tells ↦ inr (tells, none)
    ]

-- ---- entries

-- the lines of an entry behind its first one
pub parts_in : (e : EntryParts) → IsValidEntry e → (rest : List ℕ) →
    IsBehind AreIndented (parts_then e rest) rest
parts_in e valid rest =
    let plain = entry_plain e valid in
    let ranges = map range_text e.versions in
    further_in (parts_then e rest) (kind_lines (codes "extra") e.extras) (urls_then e rest) refl
    (kind_indented (codes "extra") refl e.extras plain.0) rest
    (further_in (urls_then e rest) (kind_lines (codes "url") e.urls) (texts_then e rest) refl
    (kind_indented (codes "url") refl e.urls plain.1) rest
    (further_in (texts_then e rest) (kind_lines (codes "text") e.texts) (ranges_then e rest) refl
    (kind_indented (codes "text") refl e.texts plain.2) rest
    (kind_lines (codes "range") ranges, refl, kind_indented (codes "range") refl ranges plain.3)))

pub front_more : (P : List ℕ → Type 0) (kind : List ℕ) → HasNoFeed kind → (x rest : List ℕ)
    (texts : List (List ℕ)) → Front kind x texts rest → AreItems P texts → (left : List ℕ) →
    IsBehind AreIndented rest left → IsBehind AreIndented x left
front_more P kind plain x rest texts front are =
    further_in x (kind_lines kind texts) rest front.lines
    (kind_indented kind plain texts ((items_fit P).plain texts are))

-- behind an entry's lines
behind_parts : (parts behind : List ℕ) (e : EntryParts) → HasParts parts e behind →
    IsBehind AreIndented parts behind
behind_parts parts behind e has =
    subst (λ z. IsBehind AreIndented z behind) (sym has.lines) (parts_in e has.valid behind)

pub judged_stops : (text parts behind : List ℕ) (e : EntryParts) → HasParts parts e behind →
    (left : List ℕ) → (left ≡ text) ⊎ (left ≡ behind) →
    (left ≡ text) ⊎ IsBehind AreIndented parts left
judged_stops text parts behind e has left (inl same) = inl same
judged_stops text parts behind e has left (inr same) =
    inr (subst (IsBehind AreIndented parts) (sym same) (behind_parts parts behind e has))

-- in front of an entry
pub here_stops : (x left : List ℕ) → left ≡ x → IsBehind BeginsEntry x left
here_stops x left same = ([], sym same, inl refl)

-- in an entry whose first line is read
pub entry_stops : (x first rest : List ℕ) → x ≡ line first ++ rest → HasNoFeed first →
    (left : List ℕ) → (left ≡ x) ⊎ IsBehind AreIndented rest left → IsBehind BeginsEntry x left
entry_stops x first rest cut plain left (inl same) = ([], sym same, inl refl)
entry_stops x first rest cut plain left (inr (front, split, are)) = (
  line first ++ front,
  cut ∙ ap (λ z. line first ++ z) split ∙ sym (append_assoc (line first) front left),
  inr (first, front, plain, are, refl),
)

pub lines_append : (t s : TableParts) (x y : List ℕ) → AreTableLines t x → AreTableLines s y →
    AreTableLines (t ++ s) (x ++ y)
lines_append [] s x y h g = subst (λ z. AreTableLines s (z ++ y)) (sym h) g
lines_append (p ∷ t) s x y (verdict, rest, shows, more, e) g = (
  verdict,
  rest ++ y,
  shows,
  lines_append t s rest y more g,
  ap (λ z. z ++ y) e ∙ append_assoc (entry_text p.0 verdict p.1) rest y,
)

pub one_entry : (name : List ℕ) (verdict : Verdict) (e : EntryParts) → Shows e verdict →
    AreTableLines ((name, e) ∷ []) (entry_text name verdict e)
one_entry name verdict e shows =
    (verdict, [], shows, refl, sym (append-nil (entry_text name verdict e)))
