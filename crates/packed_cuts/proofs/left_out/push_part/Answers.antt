use Rattle.std.proofs.Common.{◌≡◌, ◌∙◌, [], ◌∷◌, ◌++◌, ap, rules, true}
use Rattle.std.proofs.lemmas.List.Elements.{All-push}
use Rattle.packed_cuts.specs.Way.LeftOut.{IsPart, is_left_out, meets}
use Rattle.packed_cuts.proofs.LeftOver.{joined_part, left_out-behind, put_joined, put_joined_are}
use Rattle.packed_cuts.proofs.left_out.push_part.Goals as goal

pub returns-in_default-clause-points : goal.returns-in_default-clause-points
returns-in_default-clause-points c x =
    let all : c.push.new.self.items ≡ c.args.parts.now.items ++ c.args.part ∷ [] = search rules in
    ap (λ parts. is_left_out parts x) all ∙ left_out-behind c.args.parts.now.items c.args.part x

pub returns-then-meets-clause-points : goal.returns-then-meets-clause-points
returns-then-meets-clause-points c =
    let new : c.push-then-meets.new.self.items ≡ c.pop.new.self.items ++ joined_part c.in-Some.last c.args.part ∷ [] = search rules in
    let meet : meets c.in-Some.last c.args.part ≡ true = search rules in
    put_joined c.args.parts.now.items c.pop.new.self.items c.push-then-meets.new.self.items c.in-Some.last c.args.part
    c.in-Some.ensures.items new meet

pub returns-then-meets-clause-parts : goal.returns-then-meets-clause-parts
returns-then-meets-clause-parts c =
    let new : c.push-then-meets.new.self.items ≡ c.pop.new.self.items ++ joined_part c.in-Some.last c.args.part ∷ [] = search rules in
    put_joined_are c.args.parts.now.items c.pop.new.self.items c.push-then-meets.new.self.items c.in-Some.last c.args.part
    c.in-Some.ensures.items new c.requires.parts c.requires.part

pub returns-clause-points : goal.returns-clause-points
returns-clause-points c x =
    let all : c.push-3.new.self.items ≡ c.args.parts.now.items ++ c.args.part ∷ [] = search rules in
    ap (λ parts. is_left_out parts x) all ∙ left_out-behind c.args.parts.now.items c.args.part x

pub returns-clause-parts : goal.returns-clause-parts
returns-clause-parts c =
    let all : c.push-3.new.self.items ≡ c.args.parts.now.items ++ c.args.part ∷ [] = search rules in
    rw all (All-push IsPart c.args.parts.now.items c.args.part c.requires.parts c.requires.part)
