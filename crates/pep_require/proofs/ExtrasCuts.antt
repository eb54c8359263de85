-- How extras are cut, each at the byte that ends it.
use Rattle.std.proofs.Common.{◌≡◌, ℕ, ◌==◌, ◌<◌, Bool, true, false, not, List, [], ◌∷◌, ◌++◌}
use Rattle.std.proofs.Common.{length, length-append, take, drop, refl, sym, ap, subst, ◌∙◌, arith}
use Rattle.std.proofs.Common.{append_assoc, append-nil, lit<}
use Rattle.std.specs.List.{AllZip, prefix_len, slice_split}
use Rattle.std.specs.Str.{IsCharBoundary, IsUtf8}
use Rattle.std.proofs.lemmas.Bool.Decides.{nat_tests}
use Rattle.std.proofs.lemmas.List.{take-append-drop}
use Rattle.std.proofs.lemmas.List.Splits.{slice_split_at}
use Rattle.std.proofs.lemmas.Str.{IsUtf8-drop, IsUtf8-past_char, encode_ascii}
use Rattle.texts.specs.Bytes.{is_blank_byte}
use Rattle.texts.specs.Runs.{begins, without_leading_blanks}
use Rattle.texts.proofs.RunLemmas.{all-run, begins-rest, rest-all}
use Rattle.pep_require.specs.Way.ExtrasParts.{NamesWithin, NoExtra, NoneWithin, no_names, some_names}
use Rattle.pep_require.specs.Reads.{IsExtra}
use Rattle.pep_require.proofs.ExtrasLoops.{one_more}
use Rattle.pep_require.proofs.ExtrasPieces.{all_but, none_pass, one_part}
use Rattle.pep_require.proofs.FrontLemmas.{boundary-until}

-- ---- a text cut in front of the first such byte

pub boundary-byte : (c : ℕ) → c < 128 → (x : List ℕ) → IsCharBoundary x (prefix_len (λ b. not (b == c)) x)
boundary-byte c low = boundary-until (λ b. not (b == c)) small
  where
    small : (b : ℕ) → not (b == c) ≡ false → b < 128
    small b h = grind (arith, nat_tests, low)

pub record CutAt (c : ℕ) (x front back : List ℕ) : Type 0 where
  pub whole : x ≡ front ++ back
  pub clean : all_but c front ≡ true
  pub stops : begins (λ b. not (b == c)) back ≡ false

pub cut_at : (c : ℕ) {x bytes front back : List ℕ} {n : ℕ} → bytes ≡ x →
    n ≡ prefix_len (λ b. not (b == c)) bytes → front ≡ take n x → back ≡ drop n x → CutAt c x front back
cut_at c {x = x} {front = front} {back = back} {n = n} same count before behind =
    let p : ℕ → Bool = λ b. not (b == c) in
    let long : n ≡ prefix_len p x = count ∙ ap (prefix_len p) same in
    let run : front ≡ take (prefix_len p x) x = before ∙ ap (λ k. take k x) long in
    let rest : back ≡ drop (prefix_len p x) x = behind ∙ ap (λ k. drop k x) long in
    record {
      whole = sym (take-append-drop (prefix_len p x) x)
          ∙ ap (λ t. t ++ drop (prefix_len p x) x) (sym run) ∙ ap (λ t. front ++ t) (sym rest);
      clean = ap (all_but c) run ∙ all-run p x;
      stops = ap (begins p) rest ∙ begins-rest p x;
    }

-- the byte doesn't follow, so nothing does
pub cut_whole : (c : ℕ) (x front back : List ℕ) → CutAt c x front back →
    begins (λ b. b == c) back ≡ false → x ≡ front
cut_whole c x front back cut off =
    cut.whole ∙ ap (λ t. front ++ t) (nothing back cut.stops off) ∙ append-nil front
  where
    by : (t : Bool) → not t ≡ false → t ≡ false → ⊥
    by true e f = cc f
    by false e f = cc e

    nothing : (back : List ℕ) → begins (λ b. not (b == c)) back ≡ false →
        begins (λ b. b == c) back ≡ false → back ≡ []
    nothing [] e f = refl
    nothing (b ∷ x) e f = absurd (by (b == c) e f)

-- ---- a text cut at each comma

-- its parts that are done are these extras, and the others are those of what is left
pub record NamesSoFar (x : List ℕ) (done : List (List ℕ)) (left : List ℕ) : Type 0 where
  pub parts : List (List ℕ)
  pub named : AllZip IsExtra parts done
  pub split : slice_split (λ b. b == 44) x ≡ parts ++ slice_split (λ b. b == 44) left

pub none_done : (x : List ℕ) → NamesSoFar x [] x
none_done x = record { parts = []; named = tt; split = refl }

-- a comma follows
comma_parts : (left piece back following : List ℕ) → CutAt 44 left piece back → back ≡ 44 ∷ following →
    slice_split (λ b. b == 44) left ≡ piece ∷ slice_split (λ b. b == 44) following
comma_parts left piece back following cut comma =
    ap (slice_split (λ b. b == 44)) (cut.whole ∙ ap (λ t. piece ++ t) comma)
    ∙ slice_split_at (λ b. b == 44) piece 44 following (none_pass 44 piece cut.clean) refl

-- or the text ends
last_part : (left piece : List ℕ) → left ≡ piece → all_but 44 piece ≡ true →
    slice_split (λ b. b == 44) left ≡ piece ∷ []
last_part left piece same clean = ap (slice_split (λ b. b == 44)) same ∙ one_part piece clean

pub name_done : (x left piece back following n : List ℕ) (done : List (List ℕ)) → NamesSoFar x done left →
    CutAt 44 left piece back → back ≡ 44 ∷ following → IsExtra piece n →
    NamesSoFar x (done ++ n ∷ []) following
name_done x left piece back following n done so cut comma is = record {
  parts = so.parts ++ piece ∷ [];
  named = one_more so.parts done piece n so.named is;
  split = so.split ∙ ap (λ t. so.parts ++ t) (comma_parts left piece back following cut comma)
      ∙ sym (append_assoc so.parts (piece ∷ []) (slice_split (λ b. b == 44) following));
}

pub all_done : (x left piece back n : List ℕ) (done : List (List ℕ)) → NamesSoFar x done left →
    CutAt 44 left piece back → begins (λ b. b == 44) back ≡ false → IsExtra piece n →
    NamesWithin x (done ++ n ∷ [])
all_done x left piece back n done so cut ends is =
    let last = last_part left piece (cut_whole 44 left piece back cut ends) cut.clean in
    some_names (subst (λ t. AllZip IsExtra t (done ++ n ∷ []))
    (sym (so.split ∙ ap (λ t. so.parts ++ t) last)) (one_more so.parts done piece n so.named is))

-- a part that is no extra
no_zip_at : (parts more ns : List (List ℕ)) (piece : List ℕ) → NoExtra piece →
    AllZip IsExtra (parts ++ piece ∷ more) ns → ⊥
no_zip_at [] more [] piece off h = h
no_zip_at [] more (n ∷ ns) piece off h = off n h.0
no_zip_at (p ∷ parts) more [] piece off h = h
no_zip_at (p ∷ parts) more (n ∷ ns) piece off h = no_zip_at parts more ns piece off h.1

first_part : (left piece back : List ℕ) → CutAt 44 left piece back →
    (more : List (List ℕ)) × (slice_split (λ b. b == 44) left ≡ piece ∷ more)
first_part left piece back cut = by back cut
  where
    by : (back : List ℕ) → CutAt 44 left piece back →
        (more : List (List ℕ)) × (slice_split (λ b. b == 44) left ≡ piece ∷ more)
    by [] cut = ([], last_part left piece (cut.whole ∙ append-nil piece) cut.clean)
    by (b ∷ following) cut =
        let comma : b ≡ 44 = let e = cut.stops in grind (arith, nat_tests, e) in (
          slice_split (λ b. b == 44) following,
          comma_parts left piece (b ∷ following) following cut (ap (λ n. n ∷ following) comma),
        )

pub none_named_within : (x rest left piece back : List ℕ) (done : List (List ℕ)) →
    rest ≡ without_leading_blanks x → (length rest == 0) ≡ false → NamesSoFar x done left →
    CutAt 44 left piece back → NoExtra piece → NoneWithin x
none_named_within x rest left piece back done stripped more so cut off ns (no_names h) =
    let gone : rest ≡ [] = stripped ∙ rest-all is_blank_byte x h in
    cc (ap (λ t. length t == 0) gone, more)
none_named_within x rest left piece back done stripped more so cut off ns (some_names h) =
    let first = first_part left piece back cut in
    no_zip_at so.parts first.0 ns piece off
    (subst (λ t. AllZip IsExtra t ns) (so.split ∙ ap (λ t. so.parts ++ t) first.1) h)

-- what is left is a text
pub text_left : (left back following : List ℕ) (n : ℕ) → IsUtf8 left → n ≡ prefix_len (λ b. not (b == 44)) left →
    back ≡ drop n left → back ≡ 44 ∷ following → IsUtf8 following
text_left left back following n utf8 count behind comma =
    IsUtf8-past_char back following 44
    (subst IsUtf8 (sym behind) (IsUtf8-drop left n utf8
    (subst (IsCharBoundary left) (sym count) (boundary-byte 44 (lit< tt) left))))
    (comma ∙ ap (λ t. t ++ following) (sym (encode_ascii 44 (lit< tt))))

-- and less than before
pub less_named : (left piece back following : List ℕ) → CutAt 44 left piece back → back ≡ 44 ∷ following →
    length following < length left
less_named left piece back following cut comma =
    let whole : length left ≡ length (piece ++ 44 ∷ following) =
    ap length (cut.whole ∙ ap (λ t. piece ++ t) comma) in
    omega (arith, whole, length-append piece (44 ∷ following))
