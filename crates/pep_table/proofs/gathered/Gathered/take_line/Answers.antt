use Rattle.std.proofs.lemmas.Result.{on_ok_weaker}
use Rattle.pep_table.proofs.LogTables.{opened_joins}
use Rattle.pep_table.proofs.gathered.Gathered.take_line.Goals as goal

pub returns : goal.returns
returns c =
    on_ok_weaker c.narrow.result
    (λ joins. opened_joins c.args.self.now c.place.new.self c.narrow.new.self c.args.name.now c.args.line.now
    c.in_ok-place.place c.in_ok-place.ensures c.text.ensures.normal c.narrow.ensures.valid
    (joins c.args.name.now c.in_ok-place.ensures.at)) c.narrow.ensures.joined
