use Rattle.std.proofs.Common.{◌∷◌, [], refl, subst, sym}
use Rattle.std.specs.Prelude.{IsTrue, OnOk}
use Rattle.std.specs.List.{All}
use Rattle.std.proofs.lemmas.Result.{on_ok_weaker}
use Rattle.specifiers.specs.Clause.{is_demanded_text}
use Rattle.pep_marker.specs.Name.{IsNormalName}
use Rattle.demands.specs.Join.{IsUnion}
use Rattle.demands.specs.Way.LineDemands.{AddsExtra}
use Rattle.demands.specs.Way.LineSets.{line_versions}
use Rattle.demands.specs.Way.Others.{entry_with}
use Rattle.demands.specs.Table.{is_url_text}
use Rattle.demands.proofs.LineParts.{extra_added}
use Rattle.demands.proofs.LineSets.{put_holds}
use Rattle.demands.proofs.line_demands.LineDemands.put_extra.Goals as goal

pub invariant_of-self : goal.invariant_of-self
invariant_of-self c =
    let put = c.put_extra in
    let valid = c.self.invariant.1 in (
      c.self.invariant.0,
      record {
        extras = put_holds put.result IsNormalName c.self.inside.others.extras put.new.self.extras c.args.name.now
            (subst (λ t. OnOk put.result (IsUnion c.self.inside.others.extras (t ∷ []) put.new.self.extras))
            c.text.ensures.text put.ensures.extras) put.ensures.kept_extras valid.extras c.text.ensures.normal;
        urls = subst (All (λ u. IsTrue (is_url_text u))) (sym put.ensures.urls) valid.urls;
        texts = subst (All (λ t. IsTrue (is_demanded_text t))) (sym put.ensures.texts) valid.texts;
      },
    )

pub returns : goal.returns
returns c =
    let i = c.self.inside in
    let versions = line_versions i.range i.left_out.items i.sets.items in
    let old = entry_with i.others versions in
    let new = entry_with c.put_extra.new.self versions in
    let put = c.put_extra in
    on_ok_weaker put.result (λ u. subst (λ e. AddsExtra c.args.name.now e new) c.self.view_is
    (extra_added c.args.name.now old new c.text.ensures.normal
    (subst (λ t. IsUnion old.extras (t ∷ []) new.extras) c.text.ensures.text u) put.ensures.urls put.ensures.texts refl))
    put.ensures.extras
