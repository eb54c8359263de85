use Rattle.pep_require.proofs.KeptLines.{kept_read}
use Rattle.pep_require.proofs.keeping.Kept.requirement.Goals as goal

pub returns : goal.returns
returns c =
    λ line walked. kept_read line c.args.name c.args.self c.sort.new.names.items _ c.sort.ensures.ascending
    c.sort.ensures.same c.shrink.ensures walked
