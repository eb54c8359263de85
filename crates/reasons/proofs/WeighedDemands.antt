-- Verdicts go by all demands but extras.
use Rattle.std.proofs.lemmas.List.Elements.{All-nil}
use Rattle.pep_version.specs.Version.{Version}
use Rattle.pep_require.proofs.Members.{in_none}
use Rattle.demands.proofs.Verdicts.{verdict_of_demands}
use Rattle.demands.specs.declared.verdict.Verdict.{Verdict}
use Rattle.demands.specs.declared.verdict.Verdict.TheVariants.{Possible, Nothing, Conflict}
use Rattle.demands.specs.Demand.{AdmitsBesideTexts, Demand, presence, extra, url, clause, ranges}
use Rattle.demands.specs.Table.{EntryParts, IsEntry, IsValidEntry}
use Rattle.demands.specs.Verdict.{HasConflict, IsEntryVerdict, IsVerdict, MeetsAll}
use Rattle.reasons.specs.Way.ClashSearch.{Weighed, without_extras}

pub valid_without_extras : (e : EntryParts) → IsValidEntry e → IsValidEntry (without_extras e)
valid_without_extras e v = record {
  extras = (tt, All-nil _);
  urls = v.urls;
  texts = v.texts;
  versions = v.versions;
}

-- ---- the entry of demands, without extras

admits_weighed : (Q : Demand → Type 0) (v : Version) →
    ((d : Demand) → Weighed Q d → AdmitsBesideTexts d v) → (d : Demand) → Q d → AdmitsBesideTexts d v
admits_weighed Q v f presence q = tt
admits_weighed Q v f (extra x) q = tt
admits_weighed Q v f (url u) q = tt
admits_weighed Q v f (clause c) q = f (clause c) (q, tt)
admits_weighed Q v f (ranges l) q = f (ranges l) (q, tt)

pub weighed_entry : (Q : Demand → Type 0) (e : EntryParts) → IsEntry Q e →
    IsEntry (Weighed Q) (without_extras e)
weighed_entry Q e h = record {
  extras = λ x. ((λ m. absurd (in_none x m)), λ q. absurd q.1);
  urls = λ u. ((λ m. ((h.urls u).0 m, tt)), λ q. (h.urls u).1 q.0);
  texts = λ t. ((λ m. ((h.texts t).0 m, tt)), λ q. (h.texts t).1 q.0);
  versions = λ v is. (
    λ m d q. (h.versions v is).0 m d q.0,
    λ f. (h.versions v is).1 (admits_weighed Q v f),
  );
}

-- ---- verdicts

pub meets_weighed : (Q : Demand → Type 0) (v : Version) → MeetsAll (Weighed Q) v → MeetsAll Q v
meets_weighed Q v f presence q = tt
meets_weighed Q v f (extra x) q = tt
meets_weighed Q v f (url u) q = tt
meets_weighed Q v f (clause c) q = f (clause c) (q, tt)
meets_weighed Q v f (ranges l) q = f (ranges l) (q, tt)

conflict_weighed : (Q : Demand → Type 0) → HasConflict Q → HasConflict (Weighed Q)
conflict_weighed Q c = (c.0, c.1, (c.2, tt), (c.3, tt), c.4)

all_conflict : (Q : Demand → Type 0) → HasConflict (Weighed Q) → HasConflict Q
all_conflict Q c = (c.0, c.1, c.2.0, c.3.0, c.4)

verdict_on_all : (Q : Demand → Type 0) (w : Verdict) → IsVerdict (Weighed Q) w → IsVerdict Q w
verdict_on_all Q Conflict h = all_conflict Q h
verdict_on_all Q Nothing h = (
  λ c. h.0 (conflict_weighed Q c),
  λ v is all. h.1 v is (λ d q. all d q.0),
)
verdict_on_all Q Possible h = (
  λ c. h.0 (conflict_weighed Q c),
  (h.1.0, h.1.1, meets_weighed Q h.1.0 h.1.2),
)

shown_without_extras : (e : EntryParts) (w : Verdict) → IsEntryVerdict e w →
    IsEntryVerdict (without_extras e) w
shown_without_extras e Conflict h = h
shown_without_extras e Nothing h = h
shown_without_extras e Possible h = h

pub weighed_verdict : (Q : Demand → Type 0) (e : EntryParts) (w : Verdict) → IsValidEntry e →
    IsEntry (Weighed Q) (without_extras e) → IsEntryVerdict e w → IsVerdict Q w
weighed_verdict Q e w valid h shows =
    verdict_on_all Q w
    (verdict_of_demands (Weighed Q) (without_extras e) w (valid_without_extras e valid) h
    (shown_without_extras e w shows))
