use Rattle.std.proofs.Common.{refl, subst, sym}
use Rattle.std.specs.Prelude.{IsTrue}
use Rattle.std.specs.List.{All}
use Rattle.std.proofs.lemmas.Result.{on_ok_weaker}
use Rattle.specifiers.specs.Clause.{is_demanded_text}
use Rattle.pep_marker.specs.Name.{IsNormalName}
use Rattle.demands.specs.Way.LineDemands.{AddsUrl}
use Rattle.demands.specs.Way.LineSets.{line_versions}
use Rattle.demands.specs.Way.Others.{entry_with}
use Rattle.demands.specs.Table.{is_url_text}
use Rattle.demands.proofs.LineParts.{url_added}
use Rattle.demands.proofs.LineSets.{put_holds}
use Rattle.demands.proofs.line_demands.LineDemands.put_url.Goals as goal

pub invariant_of-self : goal.invariant_of-self
invariant_of-self c =
    let put = c.put_url in
    let valid = c.self.invariant.1 in (
      c.self.invariant.0,
      record {
        extras = subst (All IsNormalName) (sym put.ensures.extras) valid.extras;
        urls = put_holds put.result (λ u. IsTrue (is_url_text u)) c.self.inside.others.urls put.new.self.urls
            c.args.text.now put.ensures.urls put.ensures.kept_urls valid.urls c.requires;
        texts = subst (All (λ t. IsTrue (is_demanded_text t))) (sym put.ensures.texts) valid.texts;
      },
    )

pub returns : goal.returns
returns c =
    let i = c.self.inside in
    let versions = line_versions i.range i.left_out.items i.sets.items in
    let old = entry_with i.others versions in
    let new = entry_with c.put_url.new.self versions in
    let put = c.put_url in
    on_ok_weaker put.result (λ x u named. subst (λ e. AddsUrl u e new) c.self.view_is
    (url_added c.args.text.now old new c.requires put.ensures.extras x put.ensures.texts refl u named))
    put.ensures.urls
