use Rattle.std.proofs.Common.{◌∙◌, get_or}
use Rattle.pep_version.specs.KeyBytes.{release_number_bytes}
use Rattle.pep_version.proofs.EndedLists.{ended-all, ended-more}
use Rattle.pep_version.proofs.key.bytes.push_release.Goals as goal

pub loop-n-preserved : goal.loop-n-preserved
loop-n-preserved c =
    let release = c.args.release.now in
    let n = get_or release c.loop-n.n-index 0 in
    ended-more release_number_bytes release c.loop-n.n-index 0 c.loop-n.bytes.items
    c.push_marked.new.bytes.items c.loop-n-test.true c.in_ok-push_marked.ensures
    ∙ c.loop-n.invariant

pub returns : goal.returns
returns c =
    c.in_ok-push.ensures.ok
    ∙ ended-all release_number_bytes c.args.release.now c.loop-n.n-index c.loop-n.bytes.items
    c.loop-n-test.false ∙ c.loop-n.invariant
