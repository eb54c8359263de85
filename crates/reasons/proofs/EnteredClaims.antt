-- The claims that the entries of a table file are, from the last one to the first.
use Rattle.std.proofs.Common.{◌≡◌, ◌≢◌, ◌∙◌, ℕ, suc, ◌+◌, ◌-◌, ◌<◌, ◌≤◌, ◌==◌, ◌⊎◌, true, false, Bool, List, [], ◌∷◌}
use Rattle.std.proofs.Common.{◌++◌, append-nil, arith, drop, get_or, inl, inr, length, map, refl, sym, ap, subst, take}
use Rattle.std.proofs.Common.{Some, None}
use Rattle.std.specs.Prelude.{◌↔◌, IsUtf8, bytes_eq}
use Rattle.std.specs.List.{AllZip}
use Rattle.std.proofs.Math.Seq.{drop-cons}
use Rattle.std.proofs.lemmas.List.{drop_all}
use Rattle.std.proofs.lemmas.List.Sums.{count_by-le-length}
use Rattle.std.proofs.lemmas.Slice.Eq.{bytes_eq-Decides}
use Rattle.pep_marker.specs.Environment.{EnvironmentParts}
use Rattle.pep_require.proofs.Ascending.{IsIn, rest_ascends}
use Rattle.pep_require.proofs.Members.{split_at_index}
use Rattle.pep_table.specs.OneText.{eq_true, first_apart, name_there}
use Rattle.pep_table.specs.Refused.{feeds}
use Rattle.pep_table.specs.TableText.{IsReadAs}
use Rattle.pep_require.specs.Requirement.{IsAscending}
use Rattle.demands.specs.Table.{EntryParts, IsValidTable, TableParts, entry_at, names}
use Rattle.inputs.proofs.AcceptedInputs.{one_table_in}
use Rattle.inputs.specs.declared.input.Kind.TheVariants as kind
use Rattle.inputs.specs.TableFiles.{IsTableFile}
use Rattle.texts.specs.Limits.{input_limit}
use Rattle.reasons.proofs.AskedClaims.{gains_more, gains_nothing, gains_same}
use Rattle.reasons.proofs.ClaimLines.{IsEntered, begins_there, entered_in}
use Rattle.reasons.proofs.EntryNumbers.{number_is}
use Rattle.reasons.proofs.FoundClaims.{no_claims, one_more, same_claims}
use Rattle.reasons.proofs.OnePlace.{one_line_of_entry}
use Rattle.reasons.specs.Way.Asked.{AskedParts, Gains, claim_on, with_claim}
use Rattle.reasons.specs.Claims.{ClaimParts, PlacedParts, entered, name_of, required}
use Rattle.reasons.specs.Way.ClaimSearch.{AreClaimsBy, EntersAmong, entry_lines, lines_in}
use Rattle.reasons.specs.Places.{BeginsOn, StandsIn}

-- ---- one entry more, in front of those that are done

module _ (e : EnvironmentParts) (bytes : List ℕ) (input number : ℕ) (p : List ℕ × EntryParts)
    (t : TableParts) (up : IsAscending (names (p ∷ t))) (at : BeginsOn e bytes number p.0 p.1) where
  claim : PlacedParts
  claim = record { input = input; number = number; claim = entered p.0 p.1 }

  -- of its own name
  own_entry : (name : List ℕ) (ps : List PlacedParts) → p.0 ≡ name →
      AreClaimsBy (EntersAmong e bytes t) input name ps →
      AreClaimsBy (EntersAmong e bytes (p ∷ t)) input name (ps ++ claim ∷ [])
  unfolding claim
  own_entry name ps own h =
      one_more (EntersAmong e bytes t) (EntersAmong e bytes (p ∷ t)) input number name
      (entered p.0 p.1) ps own (λ n c is u. absurd (before n c is u)) same h
    where
      before : (n : ℕ) (c : ClaimParts) → name_of c ≡ name → EntersAmong e bytes t n c → ⊥
      before n c is u = first_apart p t (name_of c) up (own ∙ sym is) u.1

      one : (n : ℕ) (c : ClaimParts) → name_of c ≡ name → StandsIn e kind.Table None bytes n c →
          (n ≡ number) × (c ≡ entered p.0 p.1)
      one n (required r) is stands = absurd stands.0
      one n (entered m x) is stands =
          let named : m ≡ p.0 = is ∙ sym own in
          let both = one_line_of_entry e bytes n number p.0 x p.1
          (subst (λ l. BeginsOn e bytes n l x) named stands) at in
          (both.0, λ i. entered (named i) (both.1 i))

      join : (n : ℕ) (c : ClaimParts) → name_of c ≡ name →
          EntersAmong e bytes t n c ⊎ ((n ≡ number) × (c ≡ entered p.0 p.1)) →
          EntersAmong e bytes (p ∷ t) n c
      join n c is (inl u) = (u.0, inr u.1)
      join n c is (inr both) =
          subst (λ k. EntersAmong e bytes (p ∷ t) k c) (sym both.0)
          (subst (EntersAmong e bytes (p ∷ t) number) (sym both.1) (at, inl refl))

      same : (n : ℕ) (c : ClaimParts) → name_of c ≡ name → EntersAmong e bytes (p ∷ t) n c
          ↔ (EntersAmong e bytes t n c ⊎ ((n ≡ number) × (c ≡ entered p.0 p.1)))
      same n c is = ((λ u. inr (one n c is u.0)), join n c is)

  other_entry : (name : List ℕ) (ps : List PlacedParts) → p.0 ≢ name →
      AreClaimsBy (EntersAmong e bytes t) input name ps →
      AreClaimsBy (EntersAmong e bytes (p ∷ t)) input name ps
  other_entry name ps other h =
      same_claims (EntersAmong e bytes t) (EntersAmong e bytes (p ∷ t)) input name ps same h
    where
      rest : (c : ClaimParts) → name_of c ≡ name → IsIn (names (p ∷ t)) (name_of c) →
          IsIn (names t) (name_of c)
      rest c is (inl first) = absurd (other (sym first ∙ is))
      rest c is (inr more) = more

      same : (n : ℕ) (c : ClaimParts) → name_of c ≡ name →
          EntersAmong e bytes t n c ↔ EntersAmong e bytes (p ∷ t) n c
      same n c is = ((λ u. (u.0, inr u.1)), λ u. (u.0, rest c is u.1))

  entry_more : (name : List ℕ) (ps : List PlacedParts) →
      AreClaimsBy (EntersAmong e bytes t) input name ps →
      AreClaimsBy (EntersAmong e bytes (p ∷ t)) input name (ps ++ claim_on claim name)
  unfolding claim
  entry_more name ps h = by (bytes_eq p.0 name) refl
    where
      by : (b : Bool) → bytes_eq p.0 name ≡ b →
          AreClaimsBy (EntersAmong e bytes (p ∷ t)) input name (ps ++ claim_on claim name)
      by true is = rw is (own_entry name ps ((bytes_eq-Decides p.0 name).0 is) h)
      by false is =
          let other : p.0 ≢ name =
          λ same. let both : true ≡ false = sym (eq_true p.0 name same) ∙ is in cc both in
          rw (is, append-nil) (other_entry name ps other h)

  pub entries_more : (os ns : List AskedParts) →
      AllZip (Gains (AreClaimsBy (EntersAmong e bytes t) input)) os ns →
      AllZip (Gains (AreClaimsBy (EntersAmong e bytes (p ∷ t)) input)) os
      (map (with_claim (record { input = input; number = number; claim = entered p.0 p.1 })) ns)
  unfolding claim
  entries_more os ns h =
      gains_more (AreClaimsBy (EntersAmong e bytes t) input)
      (AreClaimsBy (EntersAmong e bytes (p ∷ t)) input) (claim_on claim) os ns
      (λ name ps m a. entry_more name ps a) h

-- ---- the code's loop

behind_ascends : (s t : TableParts) → IsAscending (names (s ++ t)) → IsAscending (names t)
behind_ascends [] t up = up
behind_ascends (q ∷ s) t up = behind_ascends s t (rest_ascends q.0 (names (s ++ t)) up)

module _ (e : EnvironmentParts) (bytes : List ℕ) (input : ℕ) (t : TableParts)
    (file : IsTableFile e bytes t) where
  -- the last entry that is left, and the line on which it begins, by that behind its lines
  module _ (left behind : ℕ) (p : List ℕ × EntryParts) (is : p ≡ get_or t (left - 1) p)
      (some : 0 < left) (within : left ≤ length t)
      (counted : behind + lines_in (drop left t) ≡ feeds bytes + 1) where
    whole : t ≡ take (left - 1) t ++ p ∷ drop left t
    whole =
        let up : suc (left - 1) ≡ left = omega (arith, some) in
        split_at_index t (left - 1) p is (omega (arith, some, within))
        ∙ ap (λ n. take (left - 1) t ++ p ∷ drop n t) up

    cut : drop (left - 1) t ≡ p ∷ drop left t
    cut =
        let up : suc (left - 1) ≡ left = omega (arith, some) in
        drop-cons t (left - 1) p (omega (arith, some, within))
        ∙ (λ i. sym is i ∷ drop (up i) t)

    found : IsEntered e bytes p.0 p.1 (drop left t)
    found =
        begins_there e bytes (take (left - 1) t) p.0 p.1 (drop left t)
        (subst (λ (s : TableParts). IsTableFile e bytes s) whole file)

    line : found.number + entry_lines p.1 ≡ behind
    line =
        let all = number_is e bytes found.number p.0 p.1 found.begins in
        let rest = ap lines_in found.same in omega (arith, all, rest, counted)

    pub entry_fits : (entry_lines p.1 ≤ behind) × (entry_lines p.1 ≤ input_limit + 1)
    entry_fits =
        let here = line in
        let most = count_by-le-length (λ b. b == 10) bytes in
        let size = file.size in (omega (arith, here), omega (arith, here, counted, most, size))

    pub entries_next : (lines : ℕ) (os ns new : List AskedParts) → lines ≡ entry_lines p.1 →
        new ≡ map (with_claim (record { input = input; number = behind - lines; claim = entered p.0 p.1 })) ns →
        AllZip (Gains (AreClaimsBy (EntersAmong e bytes (drop left t)) input)) os ns →
        (behind - lines + lines_in (drop (left - 1) t) ≡ feeds bytes + 1)
        × AllZip (Gains (AreClaimsBy (EntersAmong e bytes (drop (left - 1) t)) input)) os new
    entries_next lines os ns new own made h =
        let here = line in
        let number : found.number ≡ behind - lines = omega (arith, own, here) in
        let up : IsAscending (names (p ∷ drop left t)) =
        behind_ascends (take (left - 1) t) (p ∷ drop left t)
        (subst (λ (s : TableParts). IsAscending (names s)) whole file.valid.names.0) in
        let at : BeginsOn e bytes (behind - lines) p.0 p.1 =
        subst (λ n. BeginsOn e bytes n p.0 p.1) number found.begins in
        let rest = ap lines_in cut in (
          omega (arith, rest, own, here, counted),
          subst (λ (s : TableParts). AllZip (Gains (AreClaimsBy (EntersAmong e bytes s) input)) os new)
              (sym cut)
              (subst (AllZip (Gains (AreClaimsBy (EntersAmong e bytes (p ∷ drop left t)) input)) os)
              (sym made)
              (entries_more e bytes input (behind - lines) p (drop left t) up at os ns h)),
        )

  -- before the last one
  pub none_entered : (qs : List AskedParts) → (feeds bytes + 1 + lines_in (drop (length t) t)
      ≡ feeds bytes + 1)
      × AllZip (Gains (AreClaimsBy (EntersAmong e bytes (drop (length t) t)) input)) qs qs
  none_entered qs =
      let none : drop (length t) t ≡ [] = drop_all (length t) t (omega arith) in
      let lines = ap lines_in none in (
        omega (arith, lines),
        subst (λ (s : TableParts). AllZip (Gains (AreClaimsBy (EntersAmong e bytes s) input)) qs qs)
            (sym none) (gains_nothing (AreClaimsBy (EntersAmong e bytes []) input)
            (λ name. no_claims (EntersAmong e bytes []) input name (λ n c is u. u.1)) qs),
      )

  -- behind the first one
  pub all_entered : (os ns : List AskedParts) →
      AllZip (Gains (AreClaimsBy (EntersAmong e bytes t) input)) os ns →
      AllZip (Gains (AreClaimsBy (StandsIn e kind.Table None bytes) input)) os ns
  all_entered os ns h =
      gains_same (AreClaimsBy (EntersAmong e bytes t) input)
      (AreClaimsBy (StandsIn e kind.Table None bytes) input) (λ name ps.
      same_claims (EntersAmong e bytes t) (StandsIn e kind.Table None bytes) input name ps
      (same name)) os ns h
    where
      among : (n : ℕ) (c : ClaimParts) → StandsIn e kind.Table None bytes n c → IsIn (names t) (name_of c)
      among n (required r) stands = absurd stands.0
      among n (entered m x) stands =
          let held = entered_in e kind.Table bytes n m x stands in
          let own : held.0 ≡ t = one_table_in e kind.Table bytes held.0 t held.1 file in
          name_there t m x (subst (λ (s : TableParts). entry_at s m ≡ Some x) own held.2)

      same : (name : List ℕ) (n : ℕ) (c : ClaimParts) → name_of c ≡ name →
          EntersAmong e bytes t n c ↔ StandsIn e kind.Table None bytes n c
      same name n c is = ((λ u. u.0), λ at. (at, among n c at))

-- ---- what the code has read

pub table_file : (e : EnvironmentParts) (bytes text : List ℕ) (t : TableParts) →
    length bytes ≤ input_limit → IsUtf8 bytes → text ≡ bytes → IsReadAs e t text → IsValidTable t →
    IsTableFile e bytes t
table_file e bytes text t size encoded same read valid = record {
  size = size;
  encoding = encoded;
  valid = valid;
  text = subst (λ (x : List ℕ). IsReadAs e t x) same read;
}
