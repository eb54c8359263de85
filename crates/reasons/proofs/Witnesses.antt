-- Why edits are refused: at one input, what the turned body gives is not what the clause says.
use Rattle.std.proofs.Common.{◌≡◌, ◌∙◌, List, ℕ, [], ◌∷◌, None, Some, ap, arith, codes, false, true}
use Rattle.std.proofs.Common.{inl, inr, length, lit<, map, refl, subst, sym}
use Rattle.pep_clause.specs.Cut.{end, least}
use Rattle.pep_require.proofs.Members.{in_either, in_none}
use Rattle.pep_marker.specs.Environment.{EnvironmentParts}
use Rattle.pep_require.specs.Requirement.{RequirementParts, bounds}
use Rattle.demands.specs.declared.verdict.Verdict.TheVariants.{Conflict, Nothing, Possible}
use Rattle.demands.specs.Demand.{url}
use Rattle.demands.specs.Gathering.{bare_entry}
use Rattle.demands.specs.Table.{EntryDemands, EntryParts, TableDemands, TableParts}
use Rattle.demands.specs.Verdict.{IsVerdict}
use Rattle.reasons.proofs.FoundClashes.{some_version}
use Rattle.reasons.specs.Way.Apart.{AreApart, AreRising, HasOwn}
use Rattle.reasons.specs.Way.Asked.{AskedParts, with_claim, with_found}
use Rattle.reasons.specs.Claims.{ClaimDemands, PlacedParts, entered, name_of, required}
use Rattle.reasons.specs.Way.ClaimSearch.{FindsApplying, FindsCounted}
use Rattle.reasons.specs.Clash.{IsPartThatClashes}
use Rattle.reasons.specs.Way.ClashSearch.{AreEnough, IsLeast, StandsFor, without_extras}
use Rattle.reasons.specs.Way.ReasonSearch.{FindsClosed, TellsClash}
use Rattle.reasons.specs.declared.apart.Point.{Point}

abbrev with_url : List ℕ → EntryParts
with_url u = record bare_entry { urls = u ∷ [] }

-- tables with one entry of `a`, which demands a URL
abbrev first_one : PlacedParts
first_one = record { input = 1; number = 1; claim = entered (codes "a") (with_url (codes "u")) }

abbrev second_one : PlacedParts
second_one = record { input = 2; number = 1; claim = entered (codes "a") (with_url (codes "uw")) }

abbrev third_one : PlacedParts
third_one = record { input = 3; number = 1; claim = entered (codes "a") bare_entry }

-- two claims
pub clash_of-from_the_last_to_the_first : ¬ IsPartThatClashes (codes "a") Conflict
    (first_one ∷ second_one ∷ []) (second_one ∷ first_one ∷ [])
clash_of-from_the_last_to_the_first h = elim h.order.0 [
  | inl lt ↦ absurd (omega (arith, lt))
  | inr same ↦ let e = same.0 in absurd (omega (arith, e))
]

-- an entry with a URL
pub copy_without_extras-without_urls : ¬ (bare_entry ≡ without_extras (with_url (codes "u")))
copy_without_extras-without_urls e = cc (ap (λ (p : EntryParts). p.urls) e)

-- a claim without a URL in front of two with one
pub enough-the_first_alone : ¬ AreEnough (codes "a") Conflict
    (third_one ∷ first_one ∷ second_one ∷ []) (0 ∷ [])
enough-the_first_alone h =
    let q = h.enough.2 in elim (in_either third_one [] q.0 q.1) [
      | inl same ↦ in_none h.enough.0
          (subst (λ (p : PlacedParts). ClaimDemands p.claim (codes "a") (url h.enough.0)) (sym same) q.2).1
      | inr more ↦ in_none q.0 more
    ]

-- two claims with a URL, and one without
pub needed-with_a_member_too_many : ¬ IsLeast (codes "a") Conflict []
    (first_one ∷ second_one ∷ third_one ∷ [])
needed-with_a_member_too_many h =
    h.needed (first_one ∷ second_one ∷ []) third_one [] refl (
      codes "u",
      codes "uw",
      (first_one, (0, lit< tt, refl), (refl, (0, lit< tt, refl))),
      (second_one, (1, lit< tt, refl), (refl, (0, lit< tt, refl))),
      λ e. cc e,
    )

-- a claim without a URL, and one with two
pub needed-without_a_member : ¬ IsLeast (codes "a") Conflict [] []
needed-without_a_member h = in_none h.enough.2.0 h.enough.2.1

-- a claim with a URL
pub with_more-nothing_more : ¬ StandsFor (codes "a") (first_one ∷ []) bare_entry
with_more-nothing_more h =
    in_none (codes "u")
    ((h.urls (codes "u")).1 ((first_one, (0, lit< tt, refl), (refl, (0, lit< tt, refl))), tt))

-- ---- packages that are asked about

abbrev one_asked : List PlacedParts → AskedParts
one_asked ps = record { name = codes "a"; verdict = Conflict; claims = ps }

abbrev on_line : ℕ → PlacedParts
on_line n = record { input = 1; number = n; claim = entered (codes "a") bare_entry }

abbrev without_marker : RequirementParts
without_marker = record { name = codes "a"; extras = []; target = bounds []; marker = None }

-- a requirement without a marker
pub applying-where_the_marker_is_false : (e : EnvironmentParts) → ¬ FindsApplying e without_marker None
applying-where_the_marker_is_false e h = h refl

-- .. of a package that is asked about
pub counted-on_another_name : (e : EnvironmentParts) →
    ¬ FindsCounted e (codes "a" ∷ []) without_marker None
counted-on_another_name e h = h ((0, lit< tt, refl), refl)

-- a claim on a package that is asked about
pub with_claim-on_none : ¬ (one_asked [] ∷ [] ≡ map (with_claim (on_line 1)) (one_asked [] ∷ []))
with_claim-on_none e = cc (ap (map (λ (q : AskedParts). q.claims)) e)

-- an entry that begins on the second line
pub with_entry-half_the_line : ¬ (one_asked (on_line 1 ∷ []) ∷ []
    ≡ map (with_claim (on_line 2)) (one_asked [] ∷ []))
with_entry-half_the_line e =
    let same : ◌≡◌ {A = ℕ} 1 2 =
    cc (ap (map (λ (q : AskedParts). map (λ (p : PlacedParts). p.number) q.claims)) e) in
    omega (arith, same)

-- a claim on the second line, where one on the first was found
pub with_claim-before_the_others : ¬ (one_asked (on_line 2 ∷ on_line 1 ∷ []) ∷ []
    ≡ map (with_claim (on_line 2)) (one_asked (on_line 1 ∷ []) ∷ []))
with_claim-before_the_others e =
    let same : ◌≡◌ {A = ℕ} 2 1 =
    cc (ap (map (λ (q : AskedParts). map (λ (p : PlacedParts). p.number) q.claims)) e) in
    omega (arith, same)

abbrev required_on : ℕ → PlacedParts
required_on n = record { input = 1; number = n; claim = required without_marker }

-- the requirement `a[long]`
pub Claim_name-an_extra : ¬ (codes "long" ≡ name_of (required (record without_marker { extras = codes "long" ∷ [] })))
Claim_name-an_extra e = let same : ◌≡◌ {A = ℕ} 4 1 = ap length e in omega (arith, same)

-- a requirement on the second line
pub with_found-place_before : ¬ (one_asked (required_on 1 ∷ []) ∷ []
    ≡ map (with_found 1 2 (Some without_marker)) (one_asked [] ∷ []))
with_found-place_before e =
    let same : ◌≡◌ {A = ℕ} 1 2 =
    cc (ap (map (λ (q : AskedParts). map (λ (p : PlacedParts). p.number) q.claims)) e) in
    omega (arith, same)

-- two claims, whichever of them clash
pub reason_of-last_claim_dropped : (clash : List PlacedParts) →
    ¬ TellsClash (one_asked (on_line 1 ∷ on_line 2 ∷ []))
    (record { name = codes "a"; verdict = Conflict; claims = on_line 1 ∷ []; clash = clash })
reason_of-last_claim_dropped clash h = cc h.claims_are

-- an entry that demands nothing but the package
pub closed_package-open_ones_too : ¬ FindsClosed (EntryDemands bare_entry) (codes "a")
    (Some (record { name = codes "a"; verdict = Possible; claims = [] }))
closed_package-open_ones_too h = h.1 refl

-- an empty table
pub verdict_on-nothing_demanded_is_none : ¬ IsVerdict (TableDemands [] (codes "a")) Nothing
verdict_on-nothing_demanded_is_none h =
    h.1 some_version.0 some_version.1 (λ d q. let never : None ≡ Some q.0 = q.1 in cc never)

abbrev two_urls : EntryParts
two_urls = record bare_entry { urls = codes "u" ∷ codes "uw" ∷ [] }

abbrev two_names : TableParts
two_names = (codes "a", bare_entry) ∷ (codes "b", two_urls) ∷ []

-- a table in which the second name has two URLs
pub verdict_on-of_the_first_name : ¬ IsVerdict (TableDemands two_names (codes "b")) Possible
verdict_on-of_the_first_name h =
    h.0 (
      codes "u",
      codes "uw",
      (two_urls, refl, (0, lit< tt, refl)),
      (two_urls, refl, (1, lit< tt, refl)),
      λ e. cc e,
    )

-- a point of the first of two claims
pub has_own-point_of_another : ¬ HasOwn (record { cut = end; owner = 0 } ∷ []) 1
has_own-point_of_another h = elim (in_either (record { cut = end; owner = 0 }) [] h.0 h.1) [
  | inl same ↦
      let never : 0 ≡ 1 = ap (λ (p : Point). p.owner) same ∙ h.2 in absurd (omega (arith, never))
  | inr more ↦ in_none h.0 more
]

-- the end, and behind it the least cut
pub are_rising-points_that_fall : ¬ AreRising
    (record { cut = end; owner = 0 } ∷ record { cut = least; owner = 1 } ∷ [])
are_rising-points_that_fall h =
    let never : true ≡ false = h 0 1 (record { cut = end; owner = 0 }) (omega arith) (omega arith) in cc never

-- a claim, and no points
pub are_apart-without_the_last : ¬ AreApart (third_one ∷ []) [] 1
are_apart-without_the_last h = let own = (h 0 (omega arith)).has in in_none own.0 own.1
