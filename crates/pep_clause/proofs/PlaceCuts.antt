-- The cuts that the table makes of a version are in their one spelling, and their numbers fit: a
-- number is raised only where it is below the largest.
use Rattle.std.proofs.Common.{◌≡◌, ℕ, ◌+◌, ◌<◌, Bool, true, false, List, ◌∷◌, [], length, Option}
use Rattle.std.proofs.Common.{Some, None, IfSome, nat_lt, refl, arith}
use Rattle.std.specs.Prelude.{if◌then◌else◌}
use Rattle.pep_version.specs.declared.parts.Phase.{Phase}
use Rattle.pep_version.specs.declared.parts.Phase.TheVariants.{Alpha, Beta, Rc}
use Rattle.pep_version.specs.Order.{place_of, without_dev, without_post}
use Rattle.pep_version.specs.Version.{Fits, IsVersion, Version, is_pre_release}
use Rattle.texts.specs.Lists.{is_empty}
use Rattle.pep_clause.specs.Cut.{IsCut, after, least}
use Rattle.pep_clause.proofs.LeastCut.{IsNormal-all_versions}
use Rattle.pep_clause.specs.OperatorTable.{after_last_dev, before_place, done, done_at, greater_at}
use Rattle.pep_clause.specs.OperatorTable.{greater_from, last, less_to, matching_to, next, next_at}
use Rattle.pep_clause.specs.OperatorTable.{next_phase, past_release, with_dev, with_post, with_pre}
use Rattle.pep_clause.proofs.OrderRows.{next_fits, PreFits}
use Rattle.pep_clause.proofs.Rows.{IsCut-before_place}
use Rattle.pep_version.proofs.PlaceLemmas.{place-version, place-of-place, short-twice, suffixed}

IsCut-suffixed : (w : Version) (p : Option (Phase × ℕ)) (q d : Option ℕ) → IsVersion w → PreFits p →
    IfSome q Fits → IfSome d Fits
    → IsCut (before_place (record w { pre = p; post = q; dev = d }))
IsCut-suffixed w p q d h f g k =
    IsCut-before_place (record w { pre = p; post = q; dev = d }) (suffixed w p q d h f g k)

-- the least cut is in its one spelling
pub IsCut-least : IsCut least
IsCut-least = IsNormal-all_versions.spelled.0

pub IsCut-past_release : (w : Version) → IsVersion w → IsCut (past_release w)
IsCut-past_release w h =
    let place = place-version w h in (
      record {
        release = place.release;
        label = tt;
        numbers =
            record {
              epoch = place.numbers.epoch;
              release = place.numbers.release;
              pre = tt;
              post =
                  tt;
              dev = tt;
              label = tt;
            };
      },
      short-twice w.release,
    )

IsCut-next_phase : (phase : Phase) (w : Version) → IsVersion w → IsCut (next_phase phase w)
IsCut-next_phase Alpha w h =
    IsCut-suffixed w (Some (Beta, 0)) w.post (Some 0) h (omega arith) h.numbers.post (omega arith)
IsCut-next_phase Beta w h =
    IsCut-suffixed w (Some (Rc, 0)) w.post (Some 0) h (omega arith) h.numbers.post (omega arith)
IsCut-next_phase Rc w h = IsCut-suffixed w None w.post w.dev h tt h.numbers.post h.numbers.dev

done_by : (b : Bool) (phase : Phase) (k : ℕ) (w : Version) → nat_lt k last ≡ b → IsVersion w
    → IsCut (if b then before_place (with_dev 0 (with_pre phase (k + 1) w)) else next_phase phase w)
done_by true phase k w b h =
    IsCut-suffixed w (Some (phase, k + 1)) w.post (Some 0) h (next_fits k b) h.numbers.post
    (omega arith)
done_by false phase k w b h = IsCut-next_phase phase w h

IsCut-done_at : (p : Option (Phase × ℕ)) (w : Version) → IsVersion w → IsCut (done_at p w)
IsCut-done_at None w h = IsCut-past_release w h
IsCut-done_at (Some (phase, k)) w h = done_by (nat_lt k last) phase k w refl h

pub IsCut-done : (w : Version) → IsVersion w → IsCut (done w)
IsCut-done w h =
    IsCut-done_at w.pre (without_dev (without_post w))
    (suffixed w w.pre None None h h.numbers.pre tt tt)

IsCut-after_last_dev : (p : Option (Phase × ℕ)) (q : Option ℕ) (w : Version) → IsVersion w →
    IsCut (after_last_dev p q w)
IsCut-after_last_dev None None w h =
    IsCut-suffixed w (Some (Alpha, 0)) w.post (Some 0) h (omega arith) h.numbers.post (omega arith)
IsCut-after_last_dev None (Some n) w h =
    IsCut-suffixed w w.pre w.post None h h.numbers.pre h.numbers.post tt
IsCut-after_last_dev (Some p) q w h =
    IsCut-suffixed w w.pre w.post None h h.numbers.pre h.numbers.post tt

dev_by : (b : Bool) (n : ℕ) (q : Option ℕ) (w : Version) → nat_lt n last ≡ b → IsVersion w
    → IsCut (if b then before_place (with_dev (n + 1) w) else after_last_dev w.pre q w)
dev_by true n q w b h =
    IsCut-suffixed w w.pre w.post (Some (n + 1)) h h.numbers.pre h.numbers.post (next_fits n b)
dev_by false n q w b h = IsCut-after_last_dev w.pre q w h

post_by : (b : Bool) (n : ℕ) (w : Version) → nat_lt n last ≡ b → IsVersion w
    → IsCut (if b then before_place (with_dev 0 (with_post (n + 1) w)) else done w)
post_by true n w b h =
    IsCut-suffixed w w.pre (Some (n + 1)) (Some 0) h h.numbers.pre (next_fits n b) (omega arith)
post_by false n w b h = IsCut-done w h

IsCut-next_at : (q d : Option ℕ) (w : Version) → IsVersion w → IsCut (next_at q d w)
IsCut-next_at q (Some n) w h = dev_by (nat_lt n last) n q w refl h
IsCut-next_at None None w h =
    IsCut-suffixed w w.pre (Some 0) (Some 0) h h.numbers.pre (omega arith) (omega arith)
IsCut-next_at (Some n) None w h = post_by (nat_lt n last) n w refl h

-- the place directly after a version
pub IsCut-next : (w : Version) → IsVersion w → IsCut (next w)
IsCut-next w h = IsCut-next_at w.post w.dev w h

IsCut-greater_at : (p : Option (Phase × ℕ)) (q d : Option ℕ) (w : Version) → IsVersion w →
    IsCut (greater_at p q d w)
IsCut-greater_at p None None w h = IsCut-done w h
IsCut-greater_at p (Some n) d w h = IsCut-next w h
IsCut-greater_at p None (Some n) w h = IsCut-next w h

-- where `>` begins
pub IsCut-greater_from : (w : Version) → IsVersion w → IsCut (greater_from w)
IsCut-greater_from w h = IsCut-greater_at w.pre w.post w.dev w h

less_by : (b : Bool) (w : Version) → IsVersion w → IsCut (if b then before_place w
    else before_place (with_dev 0 w))
less_by true w h = IsCut-before_place w h
less_by false w h =
    IsCut-suffixed w w.pre w.post (Some 0) h h.numbers.pre h.numbers.post (omega arith)

-- where `<` ends
pub IsCut-less_to : (w : Version) → IsVersion w → IsCut (less_to w)
IsCut-less_to w h = less_by (is_pre_release w) w h

matching_by : (w : Version) (b : Bool) → is_empty w.label ≡ b → IsVersion w →
    IsCut (if b then next w else after (place_of w))
matching_by w true e h = IsCut-next w h
matching_by w false e h = (place-version w h, place-of-place w, some_length w.label e)
  where
    some_length : {A : Type 0} (xs : List A) → is_empty xs ≡ false → 0 < length xs
    some_length [] e = cc e
    some_length (x ∷ xs) e = omega arith

-- where `==` ends
pub IsCut-matching_to : (w : Version) → IsVersion w → IsCut (matching_to w)
IsCut-matching_to w h = matching_by w (is_empty w.label) refl h
