use Rattle.std.proofs.Common.{◌≡◌, ◌<◌, length, map, arith, refl, rules, subst, sym, true}
use Rattle.std.specs.Option.{IfSome}
use Rattle.std.specs.List.{All}
use Rattle.std.proofs.lemmas.List.Elements.{All-map, recursion_from_All}
use Rattle.pep_version.specs.Version.{Fits, IsSegment, IsVersion, SegmentFits}
use Rattle.pep_version.specs.View.{segment_of, version_of}
use Rattle.pep_version.proofs.PartLemmas.{segments-from-all}
use Rattle.pep_version.proofs.version.Version.of_parts.Goals as goal
use Rattle.pep_version.proofs.version.Version.of_parts.Goals.{then-is_empty-via-then-is_empty}
use Rattle.pep_version.proofs.version.Version.of_parts.Goals.{then-is_empty-via-else-is_empty+then-not-is_label}

pub returns-then-is_empty-clause-exactly : goal.returns-then-is_empty-clause-exactly
returns-then-is_empty-clause-exactly c =
    let none : ¬ IsVersion (version_of c.args.epoch c.args.release c.args.pre c.args.post c.args.dev
    c.args.label) = λ v.
    elim c.then-is_empty.branch [
      | then-is_empty-via-then-is_empty w ↦ let some : 0 < length c.args.release.items =
          v.release in grind (arith, c.args.release.ok)
      | then-is_empty-via-else-is_empty+then-not-is_label w ↦
          let all : All (λ s. IsSegment (segment_of s)) w.deref.result.now =
          subst (All (λ s. IsSegment (segment_of s))) (sym w.deref.ensures.value)
          (segments-from-all c.args.label.items v.label) in
          let yes : w.is_label.result ≡ true = w.is_label.ensures.segments.1 all in
          cc
    ] in
    (λ h. cc, λ v. absurd (none v))

pub with_parts-requires : goal.with_parts-requires
with_parts-requires c =
    let label = c.args.label.items in
    let pre : IfSome c.args.pre (λ p. Fits p.1) = search (rules, c.well_formed) in
    let post : IfSome c.args.post Fits = search (rules, c.well_formed) in
    let dev : IfSome c.args.dev Fits = search (rules, c.well_formed) in
    let release : All Fits c.args.release.items = search rules in
    let segments : All (λ s. IsSegment (segment_of s)) label = search rules in
    let fits : All (λ s. SegmentFits (segment_of s)) label = search rules in
    record {
      release = grind (arith, c.args.release.ok);
      label =
          recursion_from_All IsSegment (map segment_of label)
          (All-map IsSegment segment_of label segments);
      numbers = record {
        epoch = search (rules, c.well_formed);
        release = recursion_from_All Fits c.args.release.items release;
        pre = pre;
        post = post;
        dev = dev;
        label =
            recursion_from_All SegmentFits (map segment_of label)
            (All-map SegmentFits segment_of label fits);
      };
    }

pub returns-clause-exactly : goal.returns-clause-exactly
returns-clause-exactly c =
    (λ _. subst IsVersion c.with_parts.ensures.parts c.with_parts.ensures.version, λ _. refl)
