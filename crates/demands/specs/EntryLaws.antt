-- The laws of joining entries.
use Rattle.std.proofs.Common.{◌≡◌}
use Rattle.demands.specs.IntersectionLaws.{IsJoin-IsIntersection}
use Rattle.demands.specs.Join.{IsJoin, JoinsEntries}
use Rattle.demands.specs.JoinLaws.{IsJoin-IsUnion}
use Rattle.demands.specs.Table.{EntryParts, IsValidEntry}

-- two entries have one join
one_joined : (a b c d : EntryParts) → IsValidEntry c → IsValidEntry d → JoinsEntries a b c →
    JoinsEntries a b d → c ≡ d
one_joined a b c d v w h g =
    let texts = IsJoin-IsUnion.one in
    let extras =
    texts a.extras b.extras c.extras d.extras v.extras.0 w.extras.0 h.extras g.extras in
    let urls = texts a.urls b.urls c.urls d.urls v.urls.0 w.urls.0 h.urls g.urls in
    let demanded = texts a.texts b.texts c.texts d.texts v.texts.0 w.texts.0 h.texts g.texts in
    let versions =
    IsJoin-IsIntersection.one a.versions b.versions c.versions d.versions v.versions w.versions
    h.versions g.versions in
    λ i. record { extras = extras i; urls = urls i; texts = demanded i; versions = versions i }

turned : (a b c : EntryParts) → JoinsEntries a b c → JoinsEntries b a c
turned a b c h = record {
  extras = IsJoin-IsUnion.commutative a.extras b.extras c.extras h.extras;
  urls = IsJoin-IsUnion.commutative a.urls b.urls c.urls h.urls;
  texts = IsJoin-IsUnion.commutative a.texts b.texts c.texts h.texts;
  versions =
      IsJoin-IsIntersection.commutative a.versions b.versions c.versions h.versions;
}

regrouped : (a b c ab bc abc : EntryParts) → IsValidEntry ab → IsValidEntry bc →
    IsValidEntry abc → JoinsEntries a b ab → JoinsEntries b c bc → JoinsEntries ab c abc →
    JoinsEntries a bc abc
regrouped a b c ab bc abc v w u h g k = record {
  extras = IsJoin-IsUnion.associative a.extras b.extras c.extras ab.extras bc.extras abc.extras
      v.extras.0 w.extras.0 u.extras.0 h.extras g.extras k.extras;
  urls = IsJoin-IsUnion.associative a.urls b.urls c.urls ab.urls bc.urls abc.urls
      v.urls.0 w.urls.0 u.urls.0 h.urls g.urls k.urls;
  texts = IsJoin-IsUnion.associative a.texts b.texts c.texts ab.texts bc.texts abc.texts
      v.texts.0 w.texts.0 u.texts.0 h.texts g.texts k.texts;
  versions = IsJoin-IsIntersection.associative a.versions b.versions c.versions
      ab.versions bc.versions abc.versions
      v.versions w.versions u.versions h.versions g.versions k.versions;
}

itself : (a : EntryParts) → IsValidEntry a → JoinsEntries a a a
itself a v = record {
  extras = IsJoin-IsUnion.idempotent a.extras v.extras.0;
  urls = IsJoin-IsUnion.idempotent a.urls v.urls.0;
  texts = IsJoin-IsUnion.idempotent a.texts v.texts.0;
  versions = IsJoin-IsIntersection.idempotent a.versions v.versions;
}

-- joining entries field by field is a join
pub IsJoin-JoinsEntries : IsJoin IsValidEntry JoinsEntries
IsJoin-JoinsEntries = record {
  one = one_joined;
  commutative = turned;
  associative = regrouped;
  idempotent = itself;
}
