-- Places in the order, and the versions that stand there: one for all versions that are the same in
-- order.
use Rattle.std.proofs.Common.{◌≡◌, ◌<◌, ◌==◌, ◌&&◌, ◌↔◌, ℕ, zero, suc, List, [], ◌∷◌, length}
use Rattle.std.proofs.Common.{Option, IfSome, true, false, Bool, refl, sym, ap, ◌∙◌, arith}
use Rattle.std.specs.Cmp.{tied_itself}
use Rattle.std.specs.Cmp.Lexicographic.{slice_cmp}
use Rattle.std.specs.FinMap.{nat_cmp-IsAntisymmetric, slice_cmp-IsAntisymmetric}
use Rattle.std.specs.List.{AllByRecursion}
use Rattle.std.specs.Ordering.{nat_cmp, ordering_then}
use Rattle.std.specs.Prelude.{if◌then◌else◌}
use Rattle.std.specs.declared.cmp.Ordering.TheVariants.{Equal}
use Rattle.pep_version.specs.declared.parts.Phase.{Phase}
use Rattle.pep_version.specs.Laws.{positive, release_cmp-lists, same-parts, then_first, then_second}
use Rattle.pep_version.specs.Laws.{version_total, with_first}
use Rattle.pep_version.specs.Order.{Same, place_cmp, place_of, release_cmp, short_release}
use Rattle.pep_version.specs.Order.{suffix_cmp, version_cmp, with_suffixes, without_end_zeros}
use Rattle.pep_version.specs.Version.{Fits, IsVersion, Version}
use Rattle.texts.specs.Lists.{is_empty}

-- taking the zeros away twice is as taking them away once
pub without_end_zeros-twice : (xs : List ℕ) → without_end_zeros (without_end_zeros xs)
    ≡ without_end_zeros xs
without_end_zeros-twice [] = refl
without_end_zeros-twice (n ∷ rest) = step n (without_end_zeros rest) (without_end_zeros-twice rest)
  where
    step : (n : ℕ) (ys : List ℕ) → without_end_zeros ys ≡ ys →
        without_end_zeros (with_first n ys) ≡ with_first n ys
    step zero [] e = refl
    step zero (y ∷ ys) e = ap (with_first 0) e
    step (suc n) ys e = rw (positive n, positive n) (ap (λ (l : List ℕ). suc n ∷ l) e)

pub without_end_zeros-short : (xs : List ℕ) → without_end_zeros (short_release xs)
    ≡ without_end_zeros xs
without_end_zeros-short [] = refl
without_end_zeros-short (n ∷ rest) = ap (with_first n) (without_end_zeros-twice rest)

-- without its end zeros a list has no number that it did not have
end-zeros-fit : (xs : List ℕ) → AllByRecursion Fits xs → AllByRecursion Fits (without_end_zeros xs)
end-zeros-fit [] h = tt
end-zeros-fit (n ∷ rest) h =
    step ((n == 0) && is_empty (without_end_zeros rest)) (end-zeros-fit rest h.1)
  where
    step : (b : Bool) → AllByRecursion Fits (without_end_zeros rest) →
        AllByRecursion Fits (if b then [] else n ∷ without_end_zeros rest)
    step true more = tt
    step false more = (h.0, more)

short-fit : (xs : List ℕ) → AllByRecursion Fits xs → AllByRecursion Fits (short_release xs)
short-fit [] h = tt
short-fit (n ∷ rest) h = (h.0, end-zeros-fit rest h.1)

short-some : (xs : List ℕ) → 0 < length xs → 0 < length (short_release xs)
short-some [] h = h
short-some (n ∷ rest) h = omega arith

pub short-twice : (xs : List ℕ) → short_release (short_release xs) ≡ short_release xs
short-twice [] = refl
short-twice (n ∷ rest) = ap (λ (l : List ℕ). n ∷ l) (without_end_zeros-twice rest)

-- the version with other suffixes, whose numbers fit
pub suffixed : (v : Version) (pre : Option (Phase × ℕ)) (post dev : Option ℕ) → IsVersion v
    → IfSome pre (λ p. Fits p.1) → IfSome post Fits → IfSome dev Fits →
    IsVersion (with_suffixes v pre post dev)
suffixed v pre post dev h f g k = record {
  release = h.release;
  label = h.label;
  numbers = record {
    epoch = h.numbers.epoch;
    release = h.numbers.release;
    pre = f;
    post = g;
    dev = k;
    label = h.numbers.label;
  };
}

-- the place of a version is a version
pub place-version : (v : Version) → IsVersion v → IsVersion (place_of v)
place-version v h = record {
  release = short-some v.release h.release;
  label = h.label;
  numbers = record {
    epoch = h.numbers.epoch;
    release = short-fit v.release h.numbers.release;
    pre = h.numbers.pre;
    post = h.numbers.post;
    dev = h.numbers.dev;
    label = h.numbers.label;
  };
}

-- a place is its own place
pub place-of-place : (v : Version) → place_of (place_of v) ≡ place_of v
place-of-place v = ap (λ (release : List ℕ). record v { release = release }) (short-twice v.release)

-- ---- versions that are the same in order

-- a number in front, told from the list without the zeros at its end
first_told : (m n : ℕ) (rest more : List ℕ) → with_first m rest ≡ with_first n more →
    ◌≡◌ {A = List ℕ} (m ∷ rest) (n ∷ more)
first_told zero zero [] [] e = refl
first_told zero zero [] (y ∷ ys) e = cc e
first_told zero zero (x ∷ xs) [] e = cc e
first_told zero zero (x ∷ xs) (y ∷ ys) e = e
first_told zero (suc n) [] more e = cc (rw (positive n) at e)
first_told zero (suc n) (x ∷ xs) more e = rw (positive n) at e
first_told (suc m) zero rest [] e = cc (rw (positive m) at e)
first_told (suc m) zero rest (y ∷ ys) e = rw (positive m) at e
first_told (suc m) (suc n) rest more e = rw (positive m, positive n) at e

-- releases that tie have one short form
pub short_release-tied : (xs ys : List ℕ) → 0 < length xs → 0 < length ys →
    release_cmp xs ys ≡ Equal → short_release xs ≡ short_release ys
short_release-tied [] ys h g e = absurd (omega arith)
short_release-tied (m ∷ rest) [] h g e = absurd (omega arith)
short_release-tied (m ∷ rest) (n ∷ more) h g e =
    first_told m n (without_end_zeros rest) (without_end_zeros more)
    (slice_cmp-IsAntisymmetric nat_cmp-IsAntisymmetric _ _
    (sym (release_cmp-lists (m ∷ rest) (n ∷ more)) ∙ e))

-- versions that are the same in order have one place
pub place_of-same : (v w : Version) → 0 < length v.release → 0 < length w.release → Same v w →
    place_of v ≡ place_of w
place_of-same v w some_v some_w same =
    let e = same-parts v w same in
    let release =
    short_release-tied v.release w.release some_v some_w
    (then_second _ _ (then_first (place_cmp v w) (suffix_cmp v w) same)) in
    λ i. record {
      epoch = e.epoch i;
      release = release i;
      pre = e.pre i;
      post = e.post i;
      dev = e.dev i;
      label = e.label i;
    }

-- the order looks at places alone
pub version_cmp-place_of : (v w : Version) → version_cmp (place_of v) (place_of w) ≡ version_cmp v w
version_cmp-place_of v w =
    let releases : release_cmp (short_release v.release) (short_release w.release)
    ≡ release_cmp v.release w.release =
    release_cmp-lists (short_release v.release) (short_release w.release)
    ∙ (λ i. slice_cmp nat_cmp (without_end_zeros-short v.release i)
    (without_end_zeros-short w.release i))
    ∙ sym (release_cmp-lists v.release w.release) in
    λ i. ordering_then (ordering_then (nat_cmp v.epoch w.epoch) (releases i)) (suffix_cmp v w)

-- two versions are the same in order exactly if they have one place
pub Same-place_of : (v w : Version) → 0 < length v.release → 0 < length w.release → Same v w
    ↔ (place_of v ≡ place_of w)
Same-place_of v w some_v some_w = (
  place_of-same v w some_v some_w,
  λ e. sym (version_cmp-place_of v w) ∙ ap (version_cmp (place_of v)) (sym e)
      ∙ tied_itself version_total (place_of v),
)
