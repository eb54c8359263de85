-- How claims that clash are found: what each step of the search keeps.
use Rattle.std.proofs.Common.{◌≡◌, ◌≢◌, ℕ, Bool, true, false, List, [], ◌∷◌, ◌++◌}
use Rattle.std.proofs.Common.{append_assoc, arith, length, refl, sym, ap, subst, ◌∙◌, inl, inr}
use Rattle.std.specs.Prelude.{slice_index_or}
use Rattle.std.proofs.lemmas.List.{append-nil}
use Rattle.std.proofs.lemmas.List.Elements.{Contains-append_cases, Contains-append_left}
use Rattle.std.proofs.lemmas.List.Elements.{Contains-append_right}
use Rattle.pep_require.proofs.Members.{in_none}
use Rattle.demands.specs.declared.verdict.Verdict.{Verdict}
use Rattle.demands.specs.declared.verdict.Verdict.TheVariants.{Possible, Nothing, Conflict}
use Rattle.demands.specs.Verdict.{IsVerdict}
use Rattle.reasons.proofs.FoundClashes.{fewer_admit, more_conflict, more_nothing}
use Rattle.reasons.proofs.PickedClaims.{all_at, at_among, at_in_order, claims_picked, indices_rise}
use Rattle.reasons.proofs.PickedClaims.{indices_within, parts_at, picked_rise, picked_there, some_within}
use Rattle.reasons.specs.Claims.{AreAmong, AreInOrder, Claimed, PlacedParts}
use Rattle.reasons.specs.Clash.{IsClash, IsPartThatClashes}
use Rattle.reasons.specs.Way.ClashSearch.{AreEnough, AreFound, AreNeeded, ArePicked, Clashing, Fitting}
use Rattle.reasons.specs.Way.ClashSearch.{IsLeast, IsTold, indices}
use Rattle.reasons.specs.View.{claims_at, nowhere}

-- ---- fewer claims

pub fewer_fit : (name : List ℕ) (w : Verdict) (ps qs : List PlacedParts) → AreAmong qs ps →
    Fitting name w ps → Fitting name w qs
fewer_fit name Possible ps qs among h = h
fewer_fit name Nothing ps qs among h = fewer_admit name ps qs among h
fewer_fit name Conflict ps qs among h = λ c. h (more_conflict name ps qs among c)

pub more_clash : (name : List ℕ) (w : Verdict) (ps qs : List PlacedParts) → AreAmong qs ps →
    Clashing name w qs → Clashing name w ps
more_clash name Possible ps qs among h = h
more_clash name Nothing ps qs among h = more_nothing name ps qs among h
more_clash name Conflict ps qs among h = more_conflict name ps qs among h

-- ---- what the verdict on some of the claims tells

tells_same : (name : List ℕ) (w : Verdict) (qs : List PlacedParts) →
    IsVerdict (Claimed qs name) w → Clashing name w qs
tells_same name Possible qs h = tt
tells_same name Nothing qs h = h.1
tells_same name Conflict qs h = h

tells_other : (name : List ℕ) (w v : Verdict) (ps qs : List PlacedParts) → AreAmong qs ps →
    IsVerdict (Claimed ps name) w → IsVerdict (Claimed qs name) v → v ≢ w → Fitting name w qs
tells_other name Possible v ps qs among all some differ = tt
tells_other name Nothing Possible ps qs among all some differ = some.1
tells_other name Nothing Nothing ps qs among all some differ = absurd (differ refl)
tells_other name Nothing Conflict ps qs among all some differ =
    absurd (all.0 (more_conflict name ps qs among some))
tells_other name Conflict Possible ps qs among all some differ = some.0
tells_other name Conflict Nothing ps qs among all some differ = some.0
tells_other name Conflict Conflict ps qs among all some differ = absurd (differ refl)

pub told_by : (name : List ℕ) (w v : Verdict) (ps qs : List PlacedParts) (b : Bool) →
    AreAmong qs ps → IsVerdict (Claimed ps name) w → IsVerdict (Claimed qs name) v →
    (b ≡ true → v ≡ w) → (b ≡ false → v ≢ w) → IsTold name w qs b
told_by name w v ps qs true among all some alike unlike =
    tells_same name w qs (subst (IsVerdict (Claimed qs name)) (alike refl) some)
told_by name w v ps qs false among all some alike unlike =
    tells_other name w v ps qs among all some (unlike refl)

pub told_enough : (name : List ℕ) (w : Verdict) (qs : List PlacedParts) (b : Bool) → b ≡ true →
    IsTold name w qs b → Clashing name w qs
told_enough name w qs b is h = subst (IsTold name w qs) is h

pub told_few : (name : List ℕ) (w : Verdict) (qs : List PlacedParts) (b : Bool) → b ≡ false →
    IsTold name w qs b → Fitting name w qs
told_few name w qs b is h = subst (IsTold name w qs) is h

-- ---- claims among others

pub none_among : (ps : List PlacedParts) → AreAmong [] ps
none_among ps p m = absurd (in_none p m)

left : (xs ys : List PlacedParts) → AreAmong xs (xs ++ ys)
left xs ys p m = Contains-append_left xs ys p m

right : (xs ys : List PlacedParts) → AreAmong ys (xs ++ ys)
right xs ys p m = Contains-append_right xs ys p m

pub both_among : (xs ys zs : List PlacedParts) → AreAmong xs zs → AreAmong ys zs →
    AreAmong (xs ++ ys) zs
both_among xs ys zs f g p m = elim (Contains-append_cases xs ys p m) [
  | inl here ↦ f p here
  | inr there ↦ g p there
]

-- xs among the first or the second of three
first_of : (xs ys zs : List PlacedParts) → AreAmong xs ((xs ++ ys) ++ zs)
first_of xs ys zs p m = left (xs ++ ys) zs p (left xs ys p m)

second_of : (xs ys zs : List PlacedParts) → AreAmong ys ((xs ++ ys) ++ zs)
second_of xs ys zs p m = left (xs ++ ys) zs p (right xs ys p m)

-- ---- the search

-- an item of two lists stands in the first or in the second
data StandsIn (xs ys before : List PlacedParts) (p : PlacedParts) (behind : List PlacedParts) :
    Type 0 where
  first : (more : List PlacedParts) → xs ≡ before ++ p ∷ more → behind ≡ more ++ ys →
      StandsIn xs ys before p behind
  second : (more : List PlacedParts) → ys ≡ more ++ p ∷ behind → before ≡ xs ++ more →
      StandsIn xs ys before p behind

stands_in : (xs ys before : List PlacedParts) (p : PlacedParts) (behind : List PlacedParts) →
    xs ++ ys ≡ before ++ p ∷ behind → StandsIn xs ys before p behind
stands_in [] ys before p behind e = second before e refl
stands_in (x ∷ xs) ys [] p behind e =
    let same : x ≡ p = cc e in let rest : xs ++ ys ≡ behind = cc e in
    first xs (λ i. same i ∷ xs) (sym rest)
stands_in (x ∷ xs) ys (b ∷ before) p behind e =
    let same : x ≡ b = cc e in
    let rest : xs ++ ys ≡ before ++ p ∷ behind = cc e in
    by (stands_in xs ys before p behind rest) same
  where
    by : StandsIn xs ys before p behind → x ≡ b → StandsIn (x ∷ xs) ys (b ∷ before) p behind
    by (first more has is) same = first more (λ i. same i ∷ has i) is
    by (second more has is) same = let back : b ≡ x = sym same in second more has (λ i. back i ∷ is i)

module _ (name : List ℕ) (w : Verdict) (some : List PlacedParts) where
  pub none_left : (ps : List PlacedParts) (ks : List ℕ) → ks ≡ [] →
      Clashing name w (some ++ claims_at ps ks) → Clashing name w some
  none_left ps ks none h =
      subst (Clashing name w) (append-nil some)
      (subst (λ (l : List ℕ). Clashing name w (some ++ claims_at ps l)) none h)

  -- no more is needed
  pub none_least : (clash : List PlacedParts) → clash ≡ [] → Clashing name w some →
      IsLeast name w some clash
  none_least clash e h = record {
    enough = subst (Clashing name w) (sym (append-nil some) ∙ ap (λ (l : List PlacedParts). some ++ l) (sym e)) h;
    needed = λ before p behind is. never before p behind (sym e ∙ is);
  }
    where
      never : (before : List PlacedParts) (p : PlacedParts) (behind : List PlacedParts) →
          [] ≡ before ++ p ∷ behind → Fitting name w (some ++ (before ++ behind))
      never [] p behind is = cc is
      never (b ∷ before) p behind is = cc is

  -- the one that is left is needed
  one_least : (q : PlacedParts) → Clashing name w (some ++ q ∷ []) → Fitting name w some →
      IsLeast name w some (q ∷ [])
  one_least q h few = record { enough = h; needed = alone }
    where
      alone : (before : List PlacedParts) (p : PlacedParts) (behind : List PlacedParts) →
          q ∷ [] ≡ before ++ p ∷ behind → Fitting name w (some ++ (before ++ behind))
      alone [] p behind is =
          let none : [] ≡ behind = cc is in
          subst (λ (l : List PlacedParts). Fitting name w (some ++ l)) none
          (subst (Fitting name w) (sym (append-nil some)) few)
      alone (b ∷ []) p behind is = let never : [] ≡ p ∷ behind = cc is in cc never
      alone (b ∷ c ∷ before) p behind is =
          let never : [] ≡ c ∷ (before ++ p ∷ behind) = cc is in cc never

  pub lone_least : (ps : List PlacedParts) (ks : List ℕ) → length ks ≡ 1 →
      Clashing name w (some ++ claims_at ps ks) → Fitting name w some → IsLeast name w some (claims_at ps ks)
  lone_least ps [] one h few = cc one
  lone_least ps (k ∷ []) one h few = one_least (slice_index_or ps k nowhere) h few
  lone_least ps (k ∷ j ∷ ks) one h few = absurd (omega (arith, one))

  module _ (front xs ys : List PlacedParts) (among : AreAmong xs front) where
    -- those that were found behind, and then in front of them
    both_least : IsLeast name w (some ++ front) ys → IsLeast name w (some ++ ys) xs →
        IsLeast name w some (xs ++ ys)
    both_least behind_first then_front = record {
      enough = more_clash name w (some ++ (xs ++ ys)) ((some ++ ys) ++ xs)
          (both_among (some ++ ys) xs (some ++ (xs ++ ys))
          (both_among some ys (some ++ (xs ++ ys)) (left some (xs ++ ys))
          (λ p m. right some (xs ++ ys) p (right xs ys p m)))
          (λ p m. right some (xs ++ ys) p (left xs ys p m))) then_front.enough;
      needed = λ before p behind is. by before p behind (stands_in xs ys before p behind is);
    }
      where
        by : (before : List PlacedParts) (p : PlacedParts) (behind : List PlacedParts) →
            StandsIn xs ys before p behind → Fitting name w (some ++ (before ++ behind))
        by before p behind (first more has is) =
            subst (λ (l : List PlacedParts). Fitting name w (some ++ (before ++ l))) (sym is)
            (fewer_fit name w ((some ++ ys) ++ (before ++ more)) (some ++ (before ++ (more ++ ys)))
            (both_among some (before ++ (more ++ ys)) ((some ++ ys) ++ (before ++ more))
            (first_of some ys (before ++ more))
            (both_among before (more ++ ys) ((some ++ ys) ++ (before ++ more))
            (λ q m. right (some ++ ys) (before ++ more) q (left before more q m))
            (both_among more ys ((some ++ ys) ++ (before ++ more))
            (λ q m. right (some ++ ys) (before ++ more) q (right before more q m))
            (second_of some ys (before ++ more)))))
            (then_front.needed before p more has))
        by before p behind (second more has is) =
            subst (λ (l : List PlacedParts). Fitting name w (some ++ (l ++ behind))) (sym is)
            (fewer_fit name w ((some ++ front) ++ (more ++ behind)) (some ++ ((xs ++ more) ++ behind))
            (both_among some ((xs ++ more) ++ behind) ((some ++ front) ++ (more ++ behind))
            (first_of some front (more ++ behind))
            (both_among (xs ++ more) behind ((some ++ front) ++ (more ++ behind))
            (both_among xs more ((some ++ front) ++ (more ++ behind))
            (λ q m. second_of some front (more ++ behind) q (among q m))
            (λ q m. right (some ++ front) (more ++ behind) q (left more behind q m)))
            (λ q m. right (some ++ front) (more ++ behind) q (right more behind q m))))
            (behind_first.needed more p behind has))

  -- what is enough with all of the front is enough with the front behind it
  clash_behind : (front ys : List PlacedParts) → Clashing name w ((some ++ front) ++ ys) →
      Clashing name w ((some ++ ys) ++ front)
  clash_behind front ys h =
      more_clash name w ((some ++ ys) ++ front) ((some ++ front) ++ ys)
      (both_among (some ++ front) ys ((some ++ ys) ++ front)
      (both_among some front ((some ++ ys) ++ front) (first_of some ys front)
      (right (some ++ ys) front)) (second_of some ys front)) h

-- the same by indices, of claims that are divided in two
pub least_of_both : (name : List ℕ) (w : Verdict) (ps some : List PlacedParts)
    (ks front back all xs ys : List ℕ) → ks ≡ front ++ back → all ≡ xs ++ ys → ArePicked xs front →
    (Clashing name w ((some ++ claims_at ps front) ++ claims_at ps back) →
    IsLeast name w (some ++ claims_at ps front) (claims_at ps ys)) →
    (Clashing name w ((some ++ claims_at ps ys) ++ claims_at ps front) →
    IsLeast name w (some ++ claims_at ps ys) (claims_at ps xs)) →
    Clashing name w (some ++ claims_at ps ks) → IsLeast name w some (claims_at ps all)
least_of_both name w ps some ks front back all xs ys whole found picked behind then clash =
    let last = behind (subst (Clashing name w) (ap (λ (l : List PlacedParts). some ++ l)
    (parts_at ps ks front back whole) ∙ sym (append_assoc some (claims_at ps front) (claims_at ps back)))
    clash) in
    let first = then (clash_behind name w some (claims_at ps front) (claims_at ps ys) last.enough) in
    subst (IsLeast name w some) (sym (parts_at ps all xs ys found))
    (both_least name w some (claims_at ps front) (claims_at ps xs) (claims_at ps ys)
    (claims_picked ps xs front picked) last first)

-- ---- the indices

pub all_enough : (name : List ℕ) (w : Verdict) (ps : List PlacedParts) →
    IsVerdict (Claimed ps name) w → AreEnough name w ps (indices (length ps))
all_enough name w ps h = record {
  within = indices_within ps (length ps) (omega arith);
  rising = indices_rise (length ps);
  enough = subst (Clashing name w) (sym (all_at ps)) (tells_same name w ps h);
}

pub found_among : (name : List ℕ) (w : Verdict) (ps : List PlacedParts) (picked found : List ℕ) →
    AreEnough name w ps picked → ArePicked found picked →
    (Clashing name w (claims_at ps picked) → IsLeast name w [] (claims_at ps found)) →
    AreFound name w ps found
found_among name w ps picked found h some least = record {
  within = some_within ps found picked (picked_there found picked some) h.within;
  rising = picked_rise 0 found picked some h.rising;
  least = least h.enough;
}

-- ---- the end

is_clash : (name : List ℕ) (w : Verdict) (clash : List PlacedParts) → w ≢ Possible →
    Clashing name w clash → AreNeeded name w [] clash → IsClash name w clash
is_clash name Possible clash some h needed = absurd (some refl)
is_clash name Nothing clash some h needed = (h, needed)
is_clash name Conflict clash some h needed = (h, needed)

pub clash_found : (name : List ℕ) (w : Verdict) (ps : List PlacedParts) (found : List ℕ) →
    AreInOrder ps → w ≢ Possible → AreFound name w ps found →
    IsPartThatClashes name w ps (claims_at ps found)
clash_found name w ps found o some h = record {
  among = at_among ps found h.within;
  order = at_in_order ps o 0 found h.rising h.within;
  clashes = is_clash name w (claims_at ps found) some h.least.enough h.least.needed;
}
