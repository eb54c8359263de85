use Rattle.std.specs.BTreeSet.{contains}
use Rattle.toml.specs.View.{members_view}
use Rattle.pep_marker.specs.Name.{name_cmp}
use Rattle.documents.specs.Texts.{lent_texts}
use Rattle.documents.proofs.ProjectExtras.{ExtrasSoFar}
use Rattle.documents.proofs.project.wanted_texts.Given as goal

-- the extras before the rest have these names, and the wanted one these texts
abbrev pub invariant-loop-key : goal.invariant-loop-key
invariant-loop-key l =
    (goal.iterator-loop-key).can_next l.key-iterator
    × (goal.iterator-loop-key).is_finite l.key-iterator
    × ExtrasSoFar (members_view l.extras.entries) (members_view l.key-iterator)
    (λ q. contains name_cmp l.names q) l.wanted (lent_texts l.found.items)
