use Rattle.std.proofs.Common.{refl, subst, sym}
use Rattle.std.specs.Prelude.{IsTrue}
use Rattle.std.specs.List.{All}
use Rattle.std.proofs.lemmas.Result.{on_ok_weaker}
use Rattle.specifiers.specs.Clause.{demanded, is_demanded_text}
use Rattle.pep_marker.specs.Name.{IsNormalName}
use Rattle.demands.specs.Way.LineDemands.{AddsClause}
use Rattle.demands.specs.Way.LineSets.{line_sets, line_versions}
use Rattle.demands.specs.Way.Others.{entry_with}
use Rattle.demands.specs.Way.PartialJoins.{joined_sets}
use Rattle.demands.specs.Table.{is_url_text}
use Rattle.demands.proofs.KeptVersions.{kept-normal}
use Rattle.demands.proofs.LineParts.{text_added}
use Rattle.demands.proofs.LineSets.{put_holds}
use Rattle.demands.proofs.line_demands.LineDemands.put_text.Goals as goal

pub invariant_of-self : goal.invariant_of-self
invariant_of-self c =
    let put = c.put_text in
    let valid = c.self.invariant.1 in (
      c.self.invariant.0,
      record {
        extras = subst (All IsNormalName) (sym put.ensures.extras) valid.extras;
        urls = subst (All (λ u. IsTrue (is_url_text u))) (sym put.ensures.urls) valid.urls;
        texts = put_holds put.result (λ t. IsTrue (is_demanded_text t)) c.self.inside.others.texts
            put.new.self.texts c.args.text.now put.ensures.texts put.ensures.kept_texts valid.texts c.requires;
      },
    )

pub returns : goal.returns
returns c =
    let i = c.self.inside in
    let versions = line_versions i.range i.left_out.items i.sets.items in
    let old = entry_with i.others versions in
    let new = entry_with c.put_text.new.self versions in
    let put = c.put_text in
    let normal = kept-normal i.range.low i.range.high (joined_sets (line_sets i.left_out.items i.sets.items))
    c.self.invariant.0.kept in
    on_ok_weaker put.result (λ u. subst (λ e. AddsClause (demanded c.args.text.now) e new) c.self.view_is
    (text_added c.args.text.now old new c.requires normal put.ensures.extras put.ensures.urls u refl))
    put.ensures.texts
