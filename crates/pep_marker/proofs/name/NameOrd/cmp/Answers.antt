use Rattle.std.proofs.Common.{◌∙◌}
use Rattle.pep_marker.specs.Name.{name_cmp}
use Rattle.pep_marker.specs.NameText.{name_bytes}
use Rattle.pep_marker.proofs.NameHeadLemmas.{head_cmp}
use Rattle.pep_marker.proofs.name.NameOrd.cmp.Goals as goal

pub returns-then-self-other : goal.returns-then-self-other
returns-then-self-other c =
    c.cmp.ensures
    ∙ head_cmp (name_bytes c.self.inside.text) (name_bytes c.other.inside.text)
    c.self.inside.head c.other.inside.head c.self.invariant.1 c.other.invariant.1
    c.self.invariant.0 c.other.invariant.0 c.if-self-other.true
    ∙ (λ i. name_cmp (c.self.view_is i) (c.other.view_is i))
