use Rattle.std.proofs.Common.{◌∙◌, ap, subst, take}
use Rattle.std.proofs.lemmas.Option.{IfSome_then}
use Rattle.demands.specs.Table.{TableParts, names}
use Rattle.pep_table.specs.Way.Gathered.{IsAt}
use Rattle.pep_table.proofs.LogOrder.{front_place}
use Rattle.pep_table.proofs.gathered.Gathered.ordered_place.Goals as goal

pub returns : goal.returns
returns c =
    let log : TableParts = c.self.inside.log.items in
    let n = c.args.name.now in
    let most = c.min-count.result in
    IfSome_then c.place_among.result c.place_among.ensures (λ i at.
    subst (λ (l : TableParts). IsAt (names l) n i) c.self.view_is
    (front_place log most n i (subst (λ (l : TableParts). IsAt (names l) n i)
    (c.split_at.ensures.front ∙ ap (take most) c.as_slice.ensures.value) at)))
