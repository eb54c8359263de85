-- The reasons of the packages that are asked about.
use Rattle.std.proofs.Common.{◌≡◌, ◌≢◌, ◌∙◌, ℕ, ◌<◌, List, [], ◌∷◌, ◌++◌, ap, arith, length, map, refl, sym, subst}
use Rattle.std.specs.Prelude.{All, Contains}
use Rattle.std.specs.List.{AllZip}
use Rattle.std.proofs.lemmas.List.Elements.{All-cons, All-head, All-nil, All-tail}
use Rattle.pep_marker.specs.Environment.{EnvironmentParts}
use Rattle.pep_require.specs.Requirement.{IsAscending}
use Rattle.demands.specs.declared.verdict.Verdict.{Verdict}
use Rattle.demands.specs.declared.verdict.Verdict.TheVariants.{Possible}
use Rattle.demands.specs.Table.{IsTable, TableDemands, TableParts}
use Rattle.demands.specs.Verdict.{IsVerdict}
use Rattle.inputs.specs.declared.input.Input.{Input}
use Rattle.inputs.specs.Gathered.{Gathered, IsAccepted}
use Rattle.reasons.proofs.ClaimedDemands.{verdict_of_claims}
use Rattle.reasons.proofs.TableVerdicts.{table_has_verdict, verdict_of_table}
use Rattle.reasons.specs.Way.Asked.{AskedParts, Gains, asked_names, asked_parts, names_in}
use Rattle.reasons.specs.View.{reason_parts}
use Rattle.reasons.specs.declared.asked.Asked.{Asked}
use Rattle.reasons.specs.declared.claims.Reason.{Reason}
use Rattle.reasons.specs.Claims.{AreInOrder, Claimed, PlacedParts}
use Rattle.reasons.specs.Clash.{AreReasons, IsPartThatClashes, IsReasonOf, ReasonParts}
use Rattle.reasons.specs.Places.{AreClaims}
use Rattle.reasons.specs.Way.ReasonSearch.{AreClosed, Explains, TellsClash}

-- ---- from packages without claims to reasons

module _ (e : EnvironmentParts) (inputs : List Input) (accepted : All (IsAccepted e) inputs) where
  abbrev Bare : AskedParts → Type 0
  Bare q = q.claims ≡ []

  abbrev HasVerdict : AskedParts → Type 0
  HasVerdict q = IsVerdict (Gathered e inputs q.name) q.verdict

  -- where no claims were found before, all are
  claims_are : (o n : AskedParts) → Bare o → Gains (AreClaims e inputs) o n →
      AreClaims e inputs n.name n.claims
  claims_are o n bare g =
      let claims : n.claims ≡ g.own =
      ap (λ (q : AskedParts). q.claims) g.whole ∙ ap (λ l. l ++ g.own) bare in
      let name : n.name ≡ o.name = ap (λ (q : AskedParts). q.name) g.whole in
      subst (λ (m : List ℕ). AreClaims e inputs m n.claims) (sym name)
      (subst (AreClaims e inputs o.name) (sym claims) g.claims)

  verdict_stays : (o n : AskedParts) → HasVerdict o → Gains (AreClaims e inputs) o n → HasVerdict n
  verdict_stays o n says g =
      subst (λ (m : List ℕ). IsVerdict (Gathered e inputs m) n.verdict)
      (sym (ap (λ (q : AskedParts). q.name) g.whole))
      (subst (IsVerdict (Gathered e inputs o.name))
      (sym (ap (λ (q : AskedParts). q.verdict) g.whole)) says)

  pub orders_gained : (os ns : List AskedParts) → All Bare os →
      AllZip (Gains (AreClaims e inputs)) os ns → All (λ q. AreInOrder q.claims) ns
  orders_gained [] [] bare h = All-nil (λ q. AreInOrder q.claims)
  orders_gained [] (n ∷ ns) bare h = absurd h
  orders_gained (o ∷ os) [] bare h = absurd h
  orders_gained (o ∷ os) (n ∷ ns) bare (g, h) =
      All-cons (λ q. AreInOrder q.claims) n ns
      (claims_are o n (All-head Bare o os bare) g).order
      (orders_gained os ns (All-tail Bare o os bare) h)

  pub verdicts_gained : (os ns : List AskedParts) → All Bare os → All HasVerdict os →
      AllZip (Gains (AreClaims e inputs)) os ns →
      All (λ q. IsVerdict (Claimed q.claims q.name) q.verdict) ns
  verdicts_gained [] [] bare say h = All-nil (λ q. IsVerdict (Claimed q.claims q.name) q.verdict)
  verdicts_gained [] (n ∷ ns) bare say h = absurd h
  verdicts_gained (o ∷ os) [] bare say h = absurd h
  verdicts_gained (o ∷ os) (n ∷ ns) bare say (g, h) =
      All-cons (λ q. IsVerdict (Claimed q.claims q.name) q.verdict) n ns
      ((verdict_of_claims e inputs n.name n.claims n.verdict accepted
      (claims_are o n (All-head Bare o os bare) g)).1
      (verdict_stays o n (All-head HasVerdict o os say) g))
      (verdicts_gained os ns (All-tail Bare o os bare) (All-tail HasVerdict o os say) h)

  explains : (o n : AskedParts) (r : ReasonParts) → Bare o → HasVerdict o →
      Gains (AreClaims e inputs) o n → TellsClash n r → Explains e inputs o r
  explains o n r bare says g tells = record {
    name_is = tells.name_is ∙ ap (λ (q : AskedParts). q.name) g.whole;
    verdict_is = tells.verdict_is ∙ ap (λ (q : AskedParts). q.verdict) g.whole;
    reason = record {
      accepted = accepted;
      verdict_is = turn (λ m w ps. IsVerdict (Gathered e inputs m) w) (verdict_stays o n says g);
      claims = turn (λ m w ps. AreClaims e inputs m ps) (claims_are o n bare g);
      part = turn (λ m w ps. IsPartThatClashes m w ps r.clash) tells.part;
    };
  }
    where
      turn : (P : List ℕ → Verdict → List PlacedParts → Type 0) → P n.name n.verdict n.claims →
          P r.name r.verdict r.claims
      turn P h =
          subst (λ (m : List ℕ). P m r.verdict r.claims) (sym tells.name_is)
          (subst (λ (w : Verdict). P n.name w r.claims) (sym tells.verdict_is)
          (subst (P n.name n.verdict) (sym tells.claims_are) h))

  pub all_explained : (os ns : List AskedParts) (rs : List ReasonParts) → All Bare os →
      All HasVerdict os → AllZip (Gains (AreClaims e inputs)) os ns → AllZip TellsClash ns rs →
      AllZip (Explains e inputs) os rs
  all_explained [] [] [] bare say h k = tt
  all_explained [] [] (r ∷ rs) bare say h k = absurd k
  all_explained [] (n ∷ ns) rs bare say h k = absurd h
  all_explained (o ∷ os) [] rs bare say h k = absurd h
  all_explained (o ∷ os) (n ∷ ns) [] bare say h k = absurd k
  all_explained (o ∷ os) (n ∷ ns) (r ∷ rs) bare say (g, h) (j, k) = (
    explains o n r (All-head Bare o os bare) (All-head HasVerdict o os say) g j,
    all_explained os ns rs (All-tail Bare o os bare) (All-tail HasVerdict o os say) h k,
  )

-- ---- the code's loop over packages

-- what holds of all holds of each
pub of_each : (P : AskedParts → Type 0) (xs done : List Asked) (x : Asked) (more : List Asked) →
    done ++ x ∷ more ≡ xs → All P (map asked_parts xs) → P (asked_parts x)
of_each P xs done x more whole all =
    from done (subst (λ (l : List Asked). All P (map asked_parts l)) (sym whole) all)
  where
    from : (ys : List Asked) → All P (map asked_parts (ys ++ x ∷ more)) → P (asked_parts x)
    from [] h = All-head P (asked_parts x) (map asked_parts more) h
    from (y ∷ ys) h = from ys (All-tail P (asked_parts y) (map asked_parts (ys ++ x ∷ more)) h)

pub tells_more : (xs : List Asked) (x : Asked) (rs new : List Reason) (r : Reason) →
    AllZip TellsClash (map asked_parts xs) (map reason_parts rs) →
    TellsClash (asked_parts x) (reason_parts r) → new ≡ rs ++ r ∷ [] →
    AllZip TellsClash (map asked_parts (xs ++ x ∷ [])) (map reason_parts new)
tells_more xs x rs new r h tells is =
    subst (λ (l : List Reason). AllZip TellsClash (map asked_parts (xs ++ x ∷ [])) (map reason_parts l))
    (sym is) (behind xs rs h)
  where
    behind : (ys : List Asked) (qs : List Reason) →
        AllZip TellsClash (map asked_parts ys) (map reason_parts qs) →
        AllZip TellsClash (map asked_parts (ys ++ x ∷ [])) (map reason_parts (qs ++ r ∷ []))
    behind [] [] k = (tells, tt)
    behind [] (q ∷ qs) k = absurd k
    behind (y ∷ ys) [] k = absurd k
    behind (y ∷ ys) (q ∷ qs) (own, k) = (own, behind ys qs k)

-- ---- one package

module _ (olds news : List Asked) (x : Asked) (none : olds ≡ []) (one : news ≡ olds ++ x ∷ []) where
  alone : news ≡ x ∷ []
  alone = one ∙ ap (λ (l : List Asked). l ++ x ∷ []) none

  pub of_one : (P : AskedParts → Type 0) → P (asked_parts x) → All P (map asked_parts news)
  of_one P h =
      subst (λ (l : List Asked). All P (map asked_parts l)) (sym alone)
      (All-cons P (asked_parts x) [] h (All-nil P))

  pub one_ascends : IsAscending (names_in news)
  one_ascends = subst (λ (l : List Asked). IsAscending (names_in l)) (sym alone) tt

  pub one_explained : (e : EnvironmentParts) (inputs : List Input) (rs : List Reason) →
      AllZip (Explains e inputs) (map asked_parts news) (map reason_parts rs) →
      AllZip (Explains e inputs) (asked_parts x ∷ []) (map reason_parts rs)
  one_explained e inputs rs h =
      subst (λ (l : List Asked). AllZip (Explains e inputs) (map asked_parts l) (map reason_parts rs))
      alone h

-- there is one reason of it, which is the last
pub only_reason : (e : EnvironmentParts) (inputs : List Input) (q : AskedParts) (rs : List Reason) →
    AllZip (Explains e inputs) (q ∷ []) (map reason_parts rs) → (front : List Reason) (r : Reason) →
    rs ≡ front ++ r ∷ [] → Explains e inputs q (reason_parts r)
only_reason e inputs q rs h front r is =
    by front (subst (λ (l : List Reason). AllZip (Explains e inputs) (q ∷ []) (map reason_parts l)) is h)
  where
    by : (ys : List Reason) →
        AllZip (Explains e inputs) (q ∷ []) (map reason_parts (ys ++ r ∷ [])) →
        Explains e inputs q (reason_parts r)
    by [] k = k.0
    by (y ∷ []) k = absurd k.1
    by (y ∷ z ∷ ys) k = absurd k.1

pub some_reason : (e : EnvironmentParts) (inputs : List Input) (q : AskedParts) (rs : List Reason) →
    AllZip (Explains e inputs) (q ∷ []) (map reason_parts rs) → 0 < length rs
some_reason e inputs q [] h = absurd h
some_reason e inputs q (r ∷ rs) h = omega arith

-- ---- all packages whose verdict isn't open

abbrev reason_names : List ReasonParts → List (List ℕ)
reason_names rs = map (λ r. r.name) rs

module _ (e : EnvironmentParts) (inputs : List Input) where
  names_explained : (qs : List AskedParts) (rs : List ReasonParts) → AllZip (Explains e inputs) qs rs →
      reason_names rs ≡ asked_names qs
  names_explained [] [] h = refl
  names_explained [] (r ∷ rs) h = absurd h
  names_explained (q ∷ qs) [] h = absurd h
  names_explained (q ∷ qs) (r ∷ rs) (x, h) =
      let rest = names_explained qs rs h in λ i. x.name_is i ∷ rest i

  are_reasons : (qs : List AskedParts) (rs : List ReasonParts) → AllZip (Explains e inputs) qs rs →
      All (IsReasonOf e inputs) rs
  are_reasons [] [] h = All-nil (IsReasonOf e inputs)
  are_reasons [] (r ∷ rs) h = absurd h
  are_reasons (q ∷ qs) [] h = absurd h
  are_reasons (q ∷ qs) (r ∷ rs) (x, h) =
      All-cons (IsReasonOf e inputs) r rs x.reason (are_reasons qs rs h)

  are_closed : (qs : List AskedParts) (rs : List ReasonParts) → All (λ q. q.verdict ≢ Possible) qs →
      AllZip (Explains e inputs) qs rs → All (λ r. r.verdict ≢ Possible) rs
  are_closed [] [] closed h = All-nil (λ r. r.verdict ≢ Possible)
  are_closed [] (r ∷ rs) closed h = absurd h
  are_closed (q ∷ qs) [] closed h = absurd h
  are_closed (q ∷ qs) (r ∷ rs) closed (x, h) =
      All-cons (λ r. r.verdict ≢ Possible) r rs
      (λ same. All-head (λ p. p.verdict ≢ Possible) q qs closed (sym x.verdict_is ∙ same))
      (are_closed qs rs (All-tail (λ p. p.verdict ≢ Possible) q qs closed) h)

  module _ (t : TableParts) (qs : List AskedParts) (table : IsTable (Gathered e inputs) t)
      (are : AreClosed t qs) where
    verdicts_from : (ps : List AskedParts) →
        All (λ q. IsVerdict (TableDemands t q.name) q.verdict) ps →
        All (λ q. IsVerdict (Gathered e inputs q.name) q.verdict) ps
    verdicts_from ps say = λ k d lt. verdict_of_table e inputs t _ _ table (say k d lt)

    pub verdicts_gathered : All (λ q. IsVerdict (Gathered e inputs q.name) q.verdict) qs
    verdicts_gathered = verdicts_from qs are.verdicts

    pub all_reasons : (rs : List ReasonParts) → All (IsAccepted e) inputs →
        AllZip (Explains e inputs) qs rs → AreReasons e inputs rs
    all_reasons rs accepted h =
        let same = names_explained qs rs h in record {
          accepted = accepted;
          order = subst IsAscending (sym same) are.order;
          reasons = are_reasons qs rs h;
          closed = are_closed qs rs are.closed h;
          complete = λ n w says some. subst (λ l. Contains l n) (sym same)
              (are.complete n w (table_has_verdict e inputs t n w table says) some);
        }
