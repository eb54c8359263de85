use Rattle.pep_tool.proofs.program.reply.requirements_to_show.Goals as goal

pub returns-in-List-clause-refused : goal.returns-in-List-clause-refused
returns-in-List-clause-refused c = rw c.in-List.is c.list_of.ensures.refused

pub returns-in-Project-clause-refused : goal.returns-in-Project-clause-refused
returns-in-Project-clause-refused c = rw c.in-Project.is c.project_of.ensures.refused
