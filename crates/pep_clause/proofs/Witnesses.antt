-- Why edits are refused: at one input, what the turned body gives is not what the clause says.
use Rattle.std.proofs.Common.{◌≡◌, ◌↔◌, ◌≤◌, ◌+◌, ℕ, List, [], ◌∷◌, ◌++◌, length, Some, None, IsSome}
use Rattle.std.proofs.Common.{true, ◌&&◌, IsTrue, codes, refl, ap, arith}
use Rattle.std.specs.Fmt.{digits}
use Rattle.std.specs.Ordering.{eq_by_cmp}
use Rattle.std.specs.declared.cmp.Ordering.TheVariants.{Greater}
use Rattle.pep_version.specs.Text.{KeepsFront, public_version}
use Rattle.pep_version.specs.Version.{Version}
use Rattle.pep_version.specs.declared.parts.Phase.TheVariants.{Alpha}
use Rattle.specifiers.specs.Clause.{demanded}
use Rattle.pep_clause.specs.Cut.{Cut, IsCut, before, cut_cmp, cut_text, cut_version, end, least}
use Rattle.pep_clause.specs.CutBytes.{cut_bytes}
use Rattle.pep_clause.specs.CutView.{cut_word}
use Rattle.pep_clause.specs.OperatorTable.{before_dev, done, set_of}
use Rattle.pep_clause.specs.SetEquality.{same_ranges}
use Rattle.pep_clause.specs.VersionSet.{IsIncreasing, Range, all_versions, cuts, is_in}
use Rattle.pep_clause.proofs.PlaceCuts.{IsCut-least}

abbrev release : ℕ → Version
release n = public_version (n ∷ []) None None None

abbrev at : ℕ → Cut
at n = before (release n)

abbrev span : Cut → Cut → Range
span low high = record { low = low; high = high }

-- all but 1 and its labels, suffixes and longer releases
abbrev outer : List Range
outer = span least (at 1) ∷ span (at 2) end ∷ []

-- the end
pub Cut_bytes-end_of_eight : ¬ (0xff ∷ 0xff ∷ 0xff ∷ 0xff ∷ 0xff ∷ 0xff ∷ 0xff ∷ 0xff ∷ [] ≡ cut_bytes end)
Cut_bytes-end_of_eight e = cc e

-- the least cut and the end
pub Cut_cmp-turned : ¬ (Greater ≡ cut_cmp least end)
Cut_cmp-turned e = cc e

-- the least cut
pub Cut_copied-the_end : ¬ (end ≡ least)
Cut_copied-the_end e = cc e

-- the end and the least cut
pub Cut_eq-not_less : ¬ (true ≡ eq_by_cmp cut_cmp end least)
Cut_eq-not_less e = cc e

pub Cut_least-the_end : ¬ (end ≡ least)
Cut_least-the_end e = cc e

-- the least cut
pub Cut_of_packed-the_end : ¬ (end ≡ least)
Cut_of_packed-the_end e = cc e

-- the least cut
pub Cut_packed-the_end : ¬ (end ≡ least)
Cut_packed-the_end e = cc e

-- a text `a`, and no memory
pub Cut_push_text-emptied_where_it_fails : ¬ KeepsFront (codes "a") []
Cut_push_text-emptied_where_it_fails (part, e) = cc e

-- `before 00.dev0`
pub Cut_read-another_spelling : ¬ ((c : Cut) → IsCut c → ((Some least ≡ Some c) ↔ (cut_text c
    ≡ codes "before 00.dev0")))
unfolding digits
Cut_read-another_spelling h = cc ((h least IsCut-least).0 refl)

-- all versions
pub Range_copied-turned : ¬ (span end end ≡ span least end)
Range_copied-turned e = cc (ap (λ (r : Range). r.low) e)

pub VersionSet_all-none : ¬ ([] ≡ all_versions)
VersionSet_all-none e = cc e

-- all versions and none
pub VersionSet_common-the_first : ¬ ((v : Version) → is_in all_versions v ≡ (is_in all_versions v
    && is_in [] v))
VersionSet_common-the_first h = cc (h (release 0))

-- no version, 0
pub VersionSet_contains-in_each_range : ¬ (true ≡ is_in [] (release 0))
VersionSet_contains-in_each_range e = cc e

-- no version and all
pub VersionSet_eq-none_alike : ¬ (true ≡ same_ranges [] all_versions)
VersionSet_eq-none_alike e = cc e

-- all versions
pub VersionSet_is_empty-turned : ¬ (IsTrue true ↔ (all_versions ≡ []))
VersionSet_is_empty-turned h = cc (h.0 refl)

-- all versions, and no memory
pub VersionSet_join-empty_where_it_fails : ¬ ([] ≡ all_versions)
VersionSet_join-empty_where_it_fails e = cc e

-- all versions and none
pub VersionSet_join-nothing : ¬ ((v : Version) → is_in all_versions v ≡ (is_in all_versions v && is_in [] v))
VersionSet_join-nothing h = cc (h (release 0))

-- all versions and none
pub VersionSet_joined-with_itself : ¬ ((v : Version) → is_in all_versions v ≡ (is_in all_versions v
    && is_in [] v))
VersionSet_joined-with_itself h = cc (h (release 0))

-- all versions twice
pub VersionSet_of_ranges-out_of_order : ¬ (IsSome (Some (all_versions ++ all_versions))
    ↔ IsIncreasing (cuts (all_versions ++ all_versions)))
VersionSet_of_ranges-out_of_order h = cc ((h.0 refl).1.0)

-- all versions
pub VersionSet_ranges-none : ¬ ([] ≡ all_versions)
VersionSet_ranges-none e = cc e

-- one range and two, in two turns, and a tick for each of the two in each turn
pub VersionSet_swept-a_tick_for_each_pair : ¬ (6 ≤ 0 + (length all_versions + length outer))
VersionSet_swept-a_tick_for_each_pair h = absurd (omega (arith, h))

-- all versions and two ranges, of which the second has 3
pub VersionSet_swept-last_range_dropped : ¬ ((v : Version) → is_in (span least (at 1) ∷ []) v
    ≡ (is_in all_versions v && is_in outer v))
VersionSet_swept-last_range_dropped h = cc (h (release 3))

-- five turns before, and a sweep of one turn
pub VersionSet_swept-turns_taken_back : ¬ (5 ≤ 1)
VersionSet_swept-turns_taken_back h = absurd (omega (arith, h))

-- 1!0
pub PackedCut_before_dev-of_any_epoch : ¬ (before_dev 0 (0 ∷ []) ≡ before_dev 1 (0 ∷ []))
PackedCut_before_dev-of_any_epoch e = cc (ap (λ c. (cut_version c).epoch) e)

-- 1a0
pub done-before_the_last_post_release : ¬ (before (public_version (1 ∷ []) (Some (Alpha, 0)) (Some
    18446744073709551615) None) ≡ done (public_version (1 ∷ []) (Some (Alpha, 0)) None None))
done-before_the_last_post_release e = cc (ap (λ c. (cut_version c).post) e)

-- `===a`
pub of_operand-none_for_a_demanded_text : ¬ ([] ≡ set_of (demanded (codes "a")))
of_operand-none_for_a_demanded_text e = cc e

-- the least cut, and the end as its bytes
pub order_of_bytes-turned : ¬ (Greater ≡ cut_cmp least end)
order_of_bytes-turned e = cc e

-- all versions
pub ranges_copied-without_the_last : ¬ ([] ≡ all_versions)
ranges_copied-without_the_last e = cc e

-- no bytes, and nothing behind them
pub word-another_form : ¬ (codes "after " ≡ cut_word [] [])
word-another_form e = cc e
