use Rattle.std.proofs.Common.{◌≡◌, ◌∷◌, List, rules, string_bytes, subst}
use Rattle.pep_marker.specs.Pairs.{pair_texts}
use Rattle.toml.proofs.Views.{Entry}
use Rattle.toml.specs.View.{members_view, view}
use Rattle.documents.proofs.EnvironmentPairs.{PairsSoFar, lent_pair_more}
use Rattle.documents.proofs.environment_file.pairs_of.Goals as goal

pub loop-key-preserved : goal.loop-key-preserved
loop-key-preserved c =
    let e : Entry = (c.in-Some.key.now, c.in-Some.value.now) in
    let all = members_view c.args.document.now.entries in
    let done = c.loop-key.pairs.items in
    let split : c.loop-key.key-iterator ≡ e ∷ c.next.new.self = search rules in (
      tt,
      tt,
      lent_pair_more all (members_view c.next.new.self) (string_bytes e.0) (view e.1) done
          _ c.as_str-in-loop-key.result c.in-Some-as_str.text
          (subst (λ (l : List Entry). PairsSoFar all (members_view l) (pair_texts done)) split
          c.loop-key.invariant.2) (search rules) c.as_str-in-loop-key.ensures.value
          c.in_ok-push.ensures.items,
    )
