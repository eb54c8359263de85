-- The versions that the clauses of a line admit: with one clause more, and met with those of a package.
use Rattle.std.proofs.Common.{◌≡◌, ◌&&◌, ℕ, List, [], ◌∷◌, ◌++◌, Result, Ok, Err, Option, Some, None}
use Rattle.std.proofs.Common.{false, map, refl, sym, ap, subst, true, ◌∙◌}
use Rattle.std.specs.Prelude.{IfSome, OnErr, OnOk}
use Rattle.std.specs.List.{All}
use Rattle.std.proofs.lemmas.List.Elements.{All-nil, All-push}
use Rattle.std.proofs.Math.Bool.{and_assoc}
use Rattle.std.proofs.Common.{append_assoc}
use Rattle.std.proofs.lemmas.List.{map_push}
use Rattle.texts.proofs.Connectives.{and_given}
use Rattle.specifiers.specs.Clause.{Clause}
use Rattle.pep_clause.specs.Cut.{end, least}
use Rattle.pep_clause.specs.OperatorTable.{outside, range}
use Rattle.pep_clause.specs.Way.Joined.{joined}
use Rattle.pep_clause.specs.VersionSet.{IsNormal, Range, all_versions, is_point}
use Rattle.pep_clause.proofs.JoinedPoints.{is_point-joined}
use Rattle.pep_clause.proofs.LeastCut.{point-all_versions}
use Rattle.packed_cuts.specs.Way.PackedSet.{ranges_in}
use Rattle.packed_cuts.specs.declared.packed_range.PackedRange.{PackedRange}
use Rattle.packed_cuts.specs.declared.packed_set.PackedSet.{PackedSet}
use Rattle.pep_require.specs.Requirement.{IsAscending}
use Rattle.demands.specs.Gathering.{bare_entry}
use Rattle.demands.specs.Join.{IsIntersection, IsUnion}
use Rattle.demands.specs.Way.LineDemands.{DemandsRanges}
use Rattle.demands.specs.Way.LineSets.{AreLineSets, AreValidOthers, left_by, line_sets, line_versions}
use Rattle.demands.specs.Way.Others.{OtherParts, entry_with, no_others}
use Rattle.demands.specs.Way.PartialJoins.{AreNormal, joined_sets, kept_versions}
use Rattle.demands.specs.Table.{IsValidEntry}
use Rattle.demands.proofs.KeptVersions.{kept-normal, last_two}
use Rattle.demands.proofs.PartialJoins.{normal_behind, normal_front, normal_sets, points_behind, points_both}
use Rattle.demands.proofs.ValidEntries.{union_holds}

normal_more : (xs ys : List (List Range)) (t : List Range) → AreNormal (xs ++ ys) → IsNormal t →
    AreNormal ((xs ++ t ∷ []) ++ ys)
normal_more [] ys t h n = (n, h)
normal_more (x ∷ xs) ys t h n = (h.0, normal_more xs ys t h.1 n)

-- ---- what one more leaves out

pub left-normal : (outs new : List PackedRange) (b : PackedRange) (sets : List (List Range)) → new ≡ outs ++ b ∷ [] →
    AreNormal (line_sets outs sets) → IsNormal (left_by b) → AreNormal (line_sets new sets)
left-normal outs new b sets e h n =
    subst (λ l. AreNormal (l ++ sets)) (sym (ap (map left_by) e ∙ map_push left_by outs b))
    (normal_more (map left_by outs) sets (left_by b) h n)

pub left-met : (outs new : List PackedRange) (b : PackedRange) (sets : List (List Range)) → new ≡ outs ++ b ∷ [] →
    AreNormal (line_sets outs sets) → IsNormal (left_by b) →
    IsIntersection (joined_sets (line_sets outs sets)) (left_by b) (joined_sets (line_sets new sets))
left-met outs new b sets e h n = record {
  normal = normal_sets (line_sets new sets) (left-normal outs new b sets e h n);
  points = λ cut is.
      ap (λ l. is_point (joined_sets (l ++ sets)) cut) (ap (map left_by) e ∙ map_push left_by outs b)
      ∙ points_both (map left_by outs ++ left_by b ∷ []) sets cut
      ∙ ap (λ t. t && is_point (joined_sets sets) cut) (points_behind (map left_by outs) (left_by b) cut)
      ∙ last_two (is_point (joined_sets (map left_by outs)) cut) (is_point (left_by b) cut)
      (is_point (joined_sets sets) cut)
      ∙ ap (λ t. t && is_point (left_by b) cut) (sym (points_both (map left_by outs) sets cut));
}

-- ---- one set more

pub set-normal : (outs : List PackedRange) (sets new : List (List Range)) (t : List Range) → new ≡ sets ++ t ∷ [] →
    AreNormal (line_sets outs sets) → IsNormal t → AreNormal (line_sets outs new)
set-normal outs sets new t e h n =
    subst AreNormal (append_assoc (map left_by outs) sets (t ∷ []) ∙ ap (λ l. map left_by outs ++ l) (sym e))
    (normal_behind (line_sets outs sets) t h n)

pub set-met : (outs : List PackedRange) (sets new : List (List Range)) (t : List Range) → new ≡ sets ++ t ∷ [] →
    AreNormal (line_sets outs sets) → IsNormal t →
    IsIntersection (joined_sets (line_sets outs sets)) t (joined_sets (line_sets outs new))
set-met outs sets new t e h n = record {
  normal = normal_sets (line_sets outs new) (set-normal outs sets new t e h n);
  points = λ cut is.
      ap (λ l. is_point (joined_sets l) cut)
      (sym (append_assoc (map left_by outs) sets (t ∷ []) ∙ ap (λ l. map left_by outs ++ l) (sym e)))
      ∙ points_behind (line_sets outs sets) t cut;
}

-- ---- fewer sets, those in front

pub fewer_sets : (b : PackedRange) (outs : List PackedRange) (sets left moved : List (List Range)) → sets ≡ left ++ moved →
    AreLineSets b outs sets → AreLineSets b outs left
fewer_sets b outs sets left moved e h =
    let n : AreNormal (line_sets outs left) =
    normal_front (line_sets outs left) moved
    (subst AreNormal (ap (λ l. map left_by outs ++ l) e ∙ sym (append_assoc (map left_by outs) left moved)) h.normal) in
    record {
      kept = record {
        low = h.kept.low;
        high = h.kept.high;
        beside = normal_sets (line_sets outs left) n;
      };
      normal = n;
    }

-- ---- what a package is met with, one after the other

-- .. with nothing yet
pub meets_no_set : (a : List Range) → IsNormal a → IsIntersection a (joined_sets []) a
meets_no_set a n = record {
  normal = n;
  points = λ cut is. and_given (is_point a cut) (is_point all_versions cut) (point-all_versions a cut);
}

-- .. with one more
pub meets_one_set : (a b d t : List Range) (done more : List (List Range)) → IsIntersection a (joined_sets done) b →
    IsIntersection b t d → more ≡ done ++ t ∷ [] → IsIntersection a (joined_sets more) d
meets_one_set a b d t done more h g e = record {
  normal = g.normal;
  points = λ cut is. g.points cut is
      ∙ (λ i. h.points cut is i && is_point t cut)
      ∙ and_assoc (is_point a cut) (is_point (joined_sets done) cut) (is_point t cut)
      ∙ ap (λ x. is_point a cut && x)
      (sym (ap (λ l. is_point (joined_sets l) cut) e ∙ points_behind done t cut));
}

-- .. with the last of the sets that are left, and then with those before it
pub meets_last_set : (a b d t : List Range) (left more : List (List Range)) → IsIntersection a t b →
    IsIntersection b (joined_sets left) d → more ≡ left ++ t ∷ [] → IsIntersection a (joined_sets more) d
meets_last_set a b d t left more h g e = record {
  normal = g.normal;
  points = λ cut is. let rest = is_point (joined_sets left) cut in
      g.points cut is
      ∙ (λ i. h.points cut is i && rest)
      ∙ last_two (is_point a cut) (is_point t cut) rest
      ∙ and_assoc (is_point a cut) rest (is_point t cut)
      ∙ ap (λ x. is_point a cut && x)
      (sym (ap (λ l. is_point (joined_sets l) cut) e ∙ points_behind left t cut));
}

-- .. with the packed cuts, what they leave out, and the sets
pub meets_line : (a b d f range : List Range) (outs : List PackedRange) (sets : List (List Range)) →
    IsIntersection a range b → IsIntersection b (joined_sets (map left_by outs)) d →
    IsIntersection d (joined_sets sets) f →
    IsIntersection a (joined range (joined_sets (line_sets outs sets))) f
meets_line a b d f range outs sets h g k = record {
  normal = k.normal;
  points = λ cut is. let left = joined_sets (map left_by outs) in
      k.points cut is
      ∙ (λ i. g.points cut is i && is_point (joined_sets sets) cut)
      ∙ (λ i. (h.points cut is i && is_point left cut) && is_point (joined_sets sets) cut)
      ∙ and_assoc (is_point a cut && is_point range cut) (is_point left cut) (is_point (joined_sets sets) cut)
      ∙ ap (λ x. (is_point a cut && is_point range cut) && x) (sym (points_both (map left_by outs) sets cut))
      ∙ and_assoc (is_point a cut) (is_point range cut) (is_point (joined_sets (line_sets outs sets)) cut)
      ∙ ap (λ x. is_point a cut && x) (sym (is_point-joined range (joined_sets (line_sets outs sets)) cut));
}

-- ---- a line that demands nothing

pub nothing_kept : (b : PackedRange) (outs : List PackedRange) (sets : List (List Range)) (o : OtherParts) → b.low ≡ least →
    b.high ≡ end → outs ≡ [] → sets ≡ [] → o ≡ no_others → entry_with o (line_versions b outs sets) ≡ bare_entry
nothing_kept b outs sets o low high none no_set bare =
    λ i. entry_with (bare i) (kept_versions (low i) (high i) (joined_sets (line_sets (none i) (no_set i))))

-- ---- all of it may stand in a table

pub line_valid : (b : PackedRange) (outs : List PackedRange) (sets : List (List Range)) (o : OtherParts) →
    AreLineSets b outs sets → AreValidOthers o → IsAscending o.extras → IsAscending o.urls → IsAscending o.texts →
    IsValidEntry (entry_with o (line_versions b outs sets))
line_valid b outs sets o are valid e u t = record {
  extras = (e, valid.extras);
  urls = (u, valid.urls);
  texts = (t, valid.texts);
  versions = kept-normal b.low b.high (joined_sets (line_sets outs sets)) are.kept;
}

-- with other sets beside the packed cuts
pub other_sets : (b : PackedRange) (outs new : List PackedRange) (sets more : List (List Range)) → AreLineSets b outs sets →
    AreNormal (line_sets new more) → AreLineSets b new more
other_sets b outs new sets more are normal = record {
  kept = record { low = are.kept.low; high = are.kept.high; beside = normal_sets (line_sets new more) normal };
  normal = normal;
}

-- what is so of texts, is so of them with one that is put there, or isn't where memory runs out
pub put_holds : {A E : Type 0} (r : Result A E) (P : List ℕ → Type 0) (xs zs : List (List ℕ)) (y : List ℕ) →
    OnOk r (IsUnion xs (y ∷ []) zs) → OnErr r (zs ≡ xs) → All P xs → P y → All P zs
put_holds (Ok a) P xs zs y u k h p = union_holds P xs (y ∷ []) zs u h (All-push P [] y (All-nil P) p)
put_holds (Err e) P xs zs y u k h p = subst (All P) (sym k) h

-- ---- a packed set

-- the ranges of one that leaves versions out, and of one that doesn't
pub outside_ranges : (d : PackedSet) → d.outside ≡ true → ranges_in d ≡ outside d.range.low d.range.high
outside_ranges d e = rw e refl

pub inside_ranges : (d : PackedSet) → d.outside ≡ false → ranges_in d ≡ range d.range.low d.range.high
inside_ranges d e = rw e refl

-- a clause that demands the versions of a set demands those of its packed set
pub found_ranges : (c : Clause) (versions : List Range) (found : Option PackedSet) → DemandsRanges c versions →
    IfSome found (λ d. ranges_in d ≡ versions) → IfSome found (λ d. DemandsRanges c (ranges_in d))
found_ranges c versions None h is = tt
found_ranges c versions (Some d) h is = subst (DemandsRanges c) (sym is) h
