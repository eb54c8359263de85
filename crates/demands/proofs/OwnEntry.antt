-- An entry is that of its own demands.
use Rattle.std.proofs.Common.{List, refl, subst}
use Rattle.pep_version.specs.Version.{Version}
use Rattle.specifiers.specs.Clause.{demanded}
use Rattle.pep_clause.specs.VersionSet.{In, Range}
use Rattle.demands.specs.Demand.{AdmitsBesideTexts, Demand, presence, extra, url, clause, ranges}
use Rattle.demands.specs.Table.{EntryDemands, EntryParts, IsEntry}

own_admits : (e : EntryParts) (v : Version) → In e.versions v → (d : Demand) → EntryDemands e d →
    AdmitsBesideTexts d v
own_admits e v m (clause (demanded t)) q = tt
own_admits e v m (clause c) q = absurd q
own_admits e v m (ranges l) q = subst (λ (k : List Range). In k v) q m
own_admits e v m presence q = tt
own_admits e v m (extra x) q = tt
own_admits e v m (url u) q = tt

pub own_entry : (e : EntryParts) → IsEntry (EntryDemands e) e
own_entry e = record {
  extras = λ x. (λ m. m, λ m. m);
  urls = λ u. (λ m. m, λ m. m);
  texts = λ t. (λ m. m, λ m. m);
  versions = λ v is. (λ m. own_admits e v m, λ f. f (ranges e.versions) refl);
}
