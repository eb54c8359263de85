use Rattle.std.proofs.Common.{subst, sym}
use Rattle.demands.specs.Way.Judged.{IsJudgedBy, TellsTexts}
use Rattle.demands.proofs.entry.Entry.verdict.Goals as goal
use Rattle.demands.proofs.entry.Entry.verdict.Goals.{After-verdict_of}

judged : (c : After-verdict_of) → IsJudgedBy c.url_count-urls.result c.text_demand.result c.versions.result.now c.args.self.now
judged c = record {
  valid = c.url_count-urls.ensures.valid;
  urls = sym c.url_count-urls.ensures.count;
  texts = subst (TellsTexts c.text_demand.result) c.texts.ensures.texts c.text_demand.ensures;
  versions = sym c.versions.ensures.versions;
}

pub returns-clause-entry : goal.returns-clause-entry
returns-clause-entry c =
    (c.in_ok-verdict_of.ensures.verdict c.args.self.now (judged (goal.at.returns-clause-entry c).After-verdict_of)).0

pub returns-clause-demands : goal.returns-clause-demands
returns-clause-demands c =
    (c.in_ok-verdict_of.ensures.verdict c.args.self.now (judged (goal.at.returns-clause-demands c).After-verdict_of)).1
