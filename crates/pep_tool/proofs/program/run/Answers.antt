use Rattle.pep_tool.proofs.program.run.Goals as goal

pub returns : goal.returns
returns g c = record { runs = c.run_in.ensures.runs }
