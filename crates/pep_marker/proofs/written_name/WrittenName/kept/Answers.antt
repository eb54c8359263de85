use Rattle.std.proofs.Common.{rules, ◌≡◌}
use Rattle.pep_marker.specs.Name.{normalized}
use Rattle.pep_marker.proofs.NormalNames.{IsNormalName-normalized}
use Rattle.pep_marker.proofs.written_name.WrittenName.kept.Goals as goal

pub of_normal-requires-in-None : goal.of_normal-requires-in-None
of_normal-requires-in-None c =
    let written : c.as_str.result.now ≡ normalized c.self.inside.text.now = search rules in
    rw written (IsNormalName-normalized c.self.inside.text.now (search rules))
