use Rattle.clap.specs.Words.{found_of}
use Rattle.std.proofs.Common.{◌∙◌}
use Rattle.command_line.proofs.PlanLemmas.{flag_met}
use Rattle.command_line.proofs.plan.met.is_given.Goals as goal

pub returns : goal.returns
returns c =
    c.unwrap_or.ensures
    ∙ flag_met _ (found_of c.args.found.now) c.args.flag.now c.get_one.result c.get_one.ensures.none
    c.get_one.ensures.value
