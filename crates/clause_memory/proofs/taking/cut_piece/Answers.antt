use Rattle.std.proofs.Common.{rules}
use Rattle.pep_require.proofs.FrontLemmas.{boundary-until}
use Rattle.clause_memory.specs.Way.Taken.{goes_on}
use Rattle.clause_memory.proofs.FrontClauses.{cut_ends, cut_piece, cut_whole, stop_small}
use Rattle.clause_memory.proofs.taking.cut_piece.Goals as goal

pub split_at-requires : goal.split_at-requires
split_at-requires c =
    rw (c.piece_run.ensures.count, c.as_bytes.ensures.value)
    (boundary-until goes_on stop_small c.args.text.now)

pub returns-clause-whole : goal.returns-clause-whole
returns-clause-whole c =
    cut_whole c.args.text.now c.split_at.result.0.now c.split_at.result.1.now c.piece_run.result
    c.split_at.ensures.front c.split_at.ensures.back

pub returns-clause-piece : goal.returns-clause-piece
returns-clause-piece c =
    cut_piece c.args.text.now c.split_at.result.0.now c.piece_run.result (search rules) c.split_at.ensures.front

pub returns-clause-ends : goal.returns-clause-ends
returns-clause-ends c =
    cut_ends c.args.text.now c.split_at.result.1.now c.piece_run.result (search rules) c.split_at.ensures.back
