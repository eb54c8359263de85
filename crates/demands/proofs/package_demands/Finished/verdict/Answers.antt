use Rattle.std.proofs.Common.{ap, sym}
use Rattle.std.proofs.lemmas.Result.{IfOk-weaker}
use Rattle.demands.proofs.package_demands.Finished.verdict.Goals as goal

pub returns-clause-demands : goal.returns-clause-demands
returns-clause-demands c =
    IfOk-weaker c.verdict_of.result _ _ (λ w is. is.1) (c.verdict_of.ensures.verdict c.args.self.now (record {
      valid = c.demanded-urls.ensures.valid;
      urls = sym c.demanded-urls.ensures.urls;
      texts = c.demanded-urls.ensures.texts;
      versions = ap (λ e. e.versions) (sym c.self.view_is);
    }))
