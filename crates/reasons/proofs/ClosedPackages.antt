-- The packages of a table whose verdict isn't open, entry by entry.
use Rattle.std.proofs.Common.{◌≡◌, ◌≢◌, ◌∙◌, ℕ, List, [], ◌∷◌, ◌++◌, ◌+◌, ◌<◌, append-nil, ap, drop}
use Rattle.std.proofs.Common.{get_or, length, refl, suc, sym, subst, take, inl, inr, ◌⊎◌}
use Rattle.std.proofs.Common.{Option, Some, None}
use Rattle.std.specs.Prelude.{◌↔◌, All, Contains}
use Rattle.std.specs.Option.{option_to_list}
use Rattle.std.proofs.lemmas.List.{map-append, take-append-drop, take_more}
use Rattle.std.proofs.lemmas.List.Elements.{All-append, All-cons, All-nil, Contains-append_cases}
use Rattle.std.proofs.lemmas.List.Elements.{Contains-append_left, Contains-append_right}
use Rattle.pep_require.proofs.Ascending.{Contains-from_IsIn, first_below}
use Rattle.pep_require.proofs.Members.{in_either, in_first, in_none, split_at_index}
use Rattle.pep_require.specs.Requirement.{IsAscending}
use Rattle.pep_table.proofs.AscendingItems.{behind_one}
use Rattle.pep_table.proofs.NameDemands.{verdict_too}
use Rattle.pep_table.specs.OneText.{name_there}
use Rattle.demands.proofs.Verdicts.{verdict_one}
use Rattle.demands.specs.declared.verdict.Verdict.{Verdict}
use Rattle.demands.specs.declared.verdict.Verdict.TheVariants.{Possible}
use Rattle.demands.specs.Demand.{Demand}
use Rattle.demands.specs.Table.{EntryDemands, EntryParts, IsValidTable, TableDemands, TableParts, entry_at, names}
use Rattle.demands.specs.Verdict.{IsVerdict}
use Rattle.reasons.proofs.ClaimLines.{entry_behind}
use Rattle.reasons.proofs.TableVerdicts.{absent_is_open}
use Rattle.reasons.specs.Way.Asked.{AskedParts, asked_names}
use Rattle.reasons.specs.Way.ReasonSearch.{AreClosed, FindsClosed}

-- the packages of the entries that are done
pub record ClosedSoFar (t done : TableParts) (qs : List AskedParts) : Type 0 where
  pub order : IsAscending (asked_names qs)
  pub further : (n : List ℕ) → IsAscending (names done ++ n ∷ []) →
      IsAscending (asked_names qs ++ n ∷ [])
  pub bare : All (λ q. q.claims ≡ []) qs
  pub verdicts : All (λ q. IsVerdict (TableDemands t q.name) q.verdict) qs
  pub closed : All (λ q. q.verdict ≢ Possible) qs
  pub complete : (n : List ℕ) → Contains (names done) n → (w : Verdict) →
      IsVerdict (TableDemands t n) w → w ≢ Possible → Contains (asked_names qs) n

pub none_closed : (t : TableParts) → ClosedSoFar t [] []
none_closed t = record {
  order = tt;
  further = λ n h. tt;
  bare = All-nil (λ q. q.claims ≡ []);
  verdicts = All-nil (λ q. IsVerdict (TableDemands t q.name) q.verdict);
  closed = All-nil (λ q. q.verdict ≢ Possible);
  complete = λ n m w says some. absurd (in_none n m);
}

-- ---- names in order

front_ascends : (xs ys : List (List ℕ)) → IsAscending (xs ++ ys) → IsAscending xs
front_ascends [] ys h = tt
front_ascends (x ∷ []) ys h = tt
front_ascends (x ∷ y ∷ xs) ys h = (h.0, front_ascends (y ∷ xs) ys h.1)

without_last : (xs : List (List ℕ)) (a n : List ℕ) → IsAscending ((xs ++ a ∷ []) ++ n ∷ []) →
    IsAscending (xs ++ n ∷ [])
without_last [] a n h = tt
without_last (x ∷ []) a n h = (first_below x (a ∷ n ∷ []) n h (inr (inl refl)), tt)
without_last (x ∷ y ∷ xs) a n h = (h.0, without_last (y ∷ xs) a n h.1)

-- ---- one entry more

module _ (t done : TableParts) (p : List ℕ × EntryParts) (up : IsAscending (names (done ++ p ∷ []))) where
  split : names (done ++ p ∷ []) ≡ names done ++ p.0 ∷ []
  split = map-append (λ (q : List ℕ × EntryParts). q.0) done (p ∷ [])

  here : IsAscending (names done ++ p.0 ∷ [])
  here = subst IsAscending split up

  last : (n : List ℕ) → Contains (names (done ++ p ∷ [])) n →
      Contains (names done) n ⊎ (p.0 ≡ n)
  last n m = by (Contains-append_cases (names done) (p.0 ∷ []) n (subst (λ l. Contains l n) split m))
    where
      by : Contains (names done) n ⊎ Contains (p.0 ∷ []) n → Contains (names done) n ⊎ (p.0 ≡ n)
      by (inl before) = inl before
      by (inr one) = elim (in_either p.0 [] n one) [
        | inl same ↦ inr same
        | inr none ↦ absurd (in_none n none)
      ]

  pub closed_more : (qs new : List AskedParts) (found : Option AskedParts) →
      ClosedSoFar t done qs → FindsClosed (TableDemands t p.0) p.0 found →
      new ≡ qs ++ option_to_list found → ClosedSoFar t (done ++ p ∷ []) new
  closed_more qs new None h free is =
      subst (ClosedSoFar t (done ++ p ∷ [])) (sym (is ∙ append-nil qs)) (record {
        order = h.order;
        further = λ n u. h.further n (without_last (names done) p.0 n
            (subst (λ l. IsAscending (l ++ n ∷ [])) split u));
        bare = h.bare;
        verdicts = h.verdicts;
        closed = h.closed;
        complete = λ n m w says some. elim (last n m) [
          | inl before ↦ h.complete n before w says some
          | inr same ↦ absurd (some (verdict_one (TableDemands t n) w Possible says
              (subst (λ (l : List ℕ). IsVerdict (TableDemands t l) Possible) same free)))
        ];
      })
  closed_more qs new (Some q) h (says, closed, named, bare) is =
      subst (ClosedSoFar t (done ++ p ∷ [])) (sym is) (record {
        order = subst IsAscending (sym behind) (h.further p.0 here);
        further = λ n u. subst (λ l. IsAscending (l ++ n ∷ [])) (sym behind)
            ((behind_one (asked_names qs) p.0 (h.further p.0 here) n).1
            ((behind_one (names done) p.0 here n).0
            (subst (λ l. IsAscending (l ++ n ∷ [])) split u)));
        bare = one_behind (λ r. r.claims ≡ []) h.bare bare;
        verdicts = one_behind (λ r. IsVerdict (TableDemands t r.name) r.verdict) h.verdicts
            (subst (λ (n : List ℕ). IsVerdict (TableDemands t n) q.verdict) (sym named) says);
        closed = one_behind (λ r. r.verdict ≢ Possible) h.closed closed;
        complete = λ n m w told some. subst (λ l. Contains l n) (sym behind) (elim (last n m) [
          | inl before ↦ Contains-append_left (asked_names qs) (p.0 ∷ []) n
              (h.complete n before w told some)
          | inr same ↦ Contains-append_right (asked_names qs) (p.0 ∷ []) n (in_first p.0 [] n same)
        ]);
      })
    where
      one_behind : (P : AskedParts → Type 0) → All P qs → P q → All P (qs ++ q ∷ [])
      one_behind P all own = All-append P qs (q ∷ []) all (All-cons P q [] own (All-nil P))

      behind : asked_names (qs ++ q ∷ []) ≡ asked_names qs ++ p.0 ∷ []
      behind =
          map-append (λ (r : AskedParts). r.name) qs (q ∷ [])
          ∙ (λ i. asked_names qs ++ named i ∷ [])

-- ---- what an entry demands is what the table demands of its name

module _ (t before behind : TableParts) (p : List ℕ × EntryParts) (valid : IsValidTable t)
    (is : t ≡ before ++ p ∷ behind) where
  entry_is : entry_at t p.0 ≡ Some p.1
  entry_is =
      (λ i. entry_at (is i) p.0) ∙ entry_behind before p.0 p.1 behind
      (subst (λ (s : TableParts). IsAscending (names s)) is valid.names.0)

  same_verdict : (w : Verdict) → IsVerdict (EntryDemands p.1) w → IsVerdict (TableDemands t p.0) w
  same_verdict w = verdict_too (EntryDemands p.1) (TableDemands t p.0) w both
    where
      back : (d : Demand) → TableDemands t p.0 d → EntryDemands p.1 d
      back d q =
          let two : Some q.0 ≡ Some p.1 = sym q.1 ∙ entry_is in
          let own : q.0 ≡ p.1 = cc two in
          subst (λ (f : EntryParts). EntryDemands f d) own q.2

      both : (d : Demand) → EntryDemands p.1 d ↔ TableDemands t p.0 d
      both d = ((λ q. (p.1, entry_is, q)), back d)

  closed_in : (found : Option AskedParts) → FindsClosed (EntryDemands p.1) p.0 found →
      FindsClosed (TableDemands t p.0) p.0 found
  closed_in None free = same_verdict Possible free
  closed_in (Some q) (says, closed, named, bare) = (same_verdict q.verdict says, closed, named, bare)

-- ---- the code's loop

pub closed_next : (t entries : TableParts) (k : ℕ) (p : List ℕ × EntryParts)
    (qs new : List AskedParts) (found : Option AskedParts) → IsValidTable t → entries ≡ t →
    k < length entries → p ≡ get_or entries k p → ClosedSoFar t (take k entries) qs →
    FindsClosed (EntryDemands p.1) p.0 found → new ≡ qs ++ option_to_list found →
    ClosedSoFar t (take (k + 1) entries) new
closed_next t entries k p qs new found valid same lt is h finds made =
    let more : take (k + 1) entries ≡ take k entries ++ p ∷ [] =
    take_more entries k p lt ∙ ap (λ (q : List ℕ × EntryParts). take k entries ++ q ∷ []) (sym is) in
    let parts : names entries ≡ names (take (k + 1) entries) ++ names (drop (k + 1) entries) =
    ap names (sym (take-append-drop (k + 1) entries))
    ∙ map-append (λ (q : List ℕ × EntryParts). q.0) (take (k + 1) entries) (drop (k + 1) entries) in
    let up : IsAscending (names entries) =
    subst (λ (s : TableParts). IsAscending (names s)) (sym same) valid.names.0 in
    let front : IsAscending (names (take (k + 1) entries)) =
    front_ascends (names (take (k + 1) entries)) (names (drop (k + 1) entries))
    (subst IsAscending parts up) in
    subst (λ (s : TableParts). ClosedSoFar t s new) (sym more)
    (closed_more t (take k entries) p
    (subst (λ (s : TableParts). IsAscending (names s)) more front) qs new found h
    (closed_in t (take k entries) (drop (suc k) entries) p valid
    (sym same ∙ split_at_index entries k p is lt) found finds) made)

pub all_closed : (t : TableParts) (qs : List AskedParts) → ClosedSoFar t t qs → AreClosed t qs
all_closed t qs h = record {
  order = h.order;
  bare = h.bare;
  verdicts = h.verdicts;
  closed = h.closed;
  complete = λ n w says some. by n w says some (entry_at t n) refl;
}
  where
    by : (n : List ℕ) (w : Verdict) → IsVerdict (TableDemands t n) w → w ≢ Possible →
        (o : Option EntryParts) → entry_at t n ≡ o → Contains (asked_names qs) n
    by n w says some (Some f) at =
        h.complete n (Contains-from_IsIn (names t) n (name_there t n f at)) w says some
    by n w says some None at =
        absurd (some (verdict_one (TableDemands t n) w Possible says (absent_is_open t n never)))
      where
        never : (f : EntryParts) → entry_at t n ≡ Some f → ⊥
        never f is = let both : None ≡ Some f = sym at ∙ is in cc both
