use Rattle.std.proofs.Common.{◌≡◌, ◌∙◌, [], ◌∷◌, ◌++◌, ap, rules}
use Rattle.std.specs.Prelude.{◌≢◌}
use Rattle.std.specs.declared.cmp.Ordering.TheVariants.{Less}
use Rattle.std.proofs.lemmas.List.Elements.{All-push}
use Rattle.pep_clause.specs.Cut.{cut_cmp, end}
use Rattle.packed_cuts.specs.Way.LeftOut.{IsPart, is_left_out}
use Rattle.packed_cuts.proofs.LeftOver.{left_out-behind, not_below}
use Rattle.packed_cuts.proofs.Swept.{closed-none, closed-part}
use Rattle.packed_cuts.proofs.left_out.closed.Goals as goal

pub returns-then-ne-clause-points : goal.returns-then-ne-clause-points
returns-then-ne-clause-points c =
    let other : cut_cmp c.args.high end ≢ Less = search rules in
    closed-none c.args.parts.items c.args.high (not_below c.args.high end other)

pub returns-clause-points : goal.returns-clause-points
returns-clause-points c x =
    let all : c.push.new.self.items ≡ c.args.parts.items ++ record { low = c.args.high; high = end } ∷ [] =
    c.in_ok-push.ensures.items ∙ (λ i. c.args.parts.items ++ record { low = c.args.high; high = c.end-end.ensures.end i } ∷ []) in
    ap (λ parts. is_left_out parts x) all
    ∙ left_out-behind c.args.parts.items (record { low = c.args.high; high = end }) x

pub returns-clause-parts : goal.returns-clause-parts
returns-clause-parts c =
    let less : cut_cmp c.args.high end ≡ Less = search rules in
    let all : c.push.new.self.items ≡ c.args.parts.items ++ record { low = c.args.high; high = end } ∷ [] =
    c.in_ok-push.ensures.items ∙ (λ i. c.args.parts.items ++ record { low = c.args.high; high = c.end-end.ensures.end i } ∷ []) in
    rw all (All-push IsPart c.args.parts.items (record { low = c.args.high; high = end }) c.requires
    (closed-part c.args.high c.cmp.ensures.spelled less))
