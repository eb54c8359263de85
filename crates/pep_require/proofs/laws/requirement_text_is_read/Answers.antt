use Rattle.pep_require.proofs.RequirementTexts.{requirement_again}
use Rattle.pep_require.proofs.laws.requirement_text_is_read.Goals as goal

pub returns : goal.returns
returns c =
    requirement_again (record {
      back = c.clause_text_is_read.ensures;
      run = c.clause_text_run.ensures;
    })
