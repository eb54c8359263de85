use Rattle.std.proofs.Common.{rules, subst}
use Rattle.inputs.specs.Way.LineReading.{RefusesSource, TakesSource}
use Rattle.inputs.specs.Way.TakenTexts.{GathersText, RefusesTextIn}
use Rattle.inputs.specs.Way.Wanted.{wanted_name}
use Rattle.inputs.proofs.GatheredSource.{reading_refused, reads_table}
use Rattle.inputs.proofs.stream.gather_reader.Goals as goal

pub returns-in-Ok : goal.returns-in-Ok
returns-in-Ok g c = record {
  reads = record {
    table = reads_table c.args.environment.now (g.S.Source.left c.args.source.now)
        (g.S.Source.left c.take_source.new.source) c.new-nothing.result c.in-Ok.gathering c.new-nothing.ensures
        (subst (λ w. TakesSource (GathersText c.args.environment.now w)
        (g.S.Source.left c.args.source.now) (g.S.Source.left c.take_source.new.source)
        c.new-nothing.result c.in-Ok.gathering) c.new-taker.ensures.wanted
        (subst (λ e. TakesSource (GathersText e (wanted_name c.new-taker.result.wanted))
        (g.S.Source.left c.args.source.now) (g.S.Source.left c.take_source.new.source)
        c.new-nothing.result c.in-Ok.gathering) c.new-taker.ensures.environment c.in-Ok.ensures.ok));
    no_failure = search rules;
    refused = tt;
    failed = search rules;
    bytes = search rules;
    calls = search rules;
  };
}

pub returns : goal.returns
returns g c = record {
  reads = record {
    table = tt;
    no_failure = tt;
    refused = reading_refused c.args.environment.now (g.S.Source.left c.args.source.now)
        (g.S.Source.left c.take_source.new.source) (g.S.Source.device c.take_source.new.source)
        c.new-nothing.result c.in-Err.cause c.of.result c.new-nothing.ensures
        (subst (λ w. RefusesSource (GathersText c.args.environment.now w)
        (RefusesTextIn c.args.environment.now) (g.S.Source.left c.args.source.now)
        (g.S.Source.left c.take_source.new.source) (g.S.Source.device c.take_source.new.source).failed
        c.new-nothing.result c.in-Err.cause) c.new-taker.ensures.wanted
        (subst (λ e. RefusesSource (GathersText e (wanted_name c.new-taker.result.wanted))
        (RefusesTextIn e) (g.S.Source.left c.args.source.now)
        (g.S.Source.left c.take_source.new.source) (g.S.Source.device c.take_source.new.source).failed
        c.new-nothing.result c.in-Err.cause) c.new-taker.ensures.environment
        c.in-Err.ensures.refused))
        c.of.ensures.cause c.of.ensures.memory c.of.ensures.place;
    failed = search rules;
    bytes = search rules;
    calls = search rules;
  };
}
