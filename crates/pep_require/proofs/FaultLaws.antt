-- A line that is refused has one fault: that of the first check that fails.
use Rattle.std.proofs.Common.{◌≡◌, ◌≢◌, ℕ, ◌==◌, Bool, true, false, List, []}
use Rattle.std.proofs.Common.{◌∷◌, Option, Some, None, Err, sym, ap, subst, ◌∙◌, inl, inr}
use Rattle.std.proofs.Common.{refl}
use Rattle.std.proofs.lemmas.Option.{none-some, same_Some}
use Rattle.specifiers.proofs.OneAnswer.{one-answer}
use Rattle.specifiers.specs.Clause.{operator_of}
use Rattle.specifiers.specs.Front.{RefusesFound, after_operator, clause_run}
use Rattle.specifiers.specs.declared.fault.ClauseFault.{ClauseFault}
use Rattle.specifiers.specs.declared.op.Op.{Op}
use Rattle.texts.specs.Runs.{without_leading_blanks}
use Rattle.pep_require.proofs.BoundLaws.{refused_bounds, tail}
use Rattle.pep_require.proofs.BoundPieces.{bound_refused, err_told, one_bound}
use Rattle.pep_require.proofs.ExtrasLaws.{one_extras}
use Rattle.pep_require.proofs.TargetLaws.{one_target, refused_target}
use Rattle.pep_require.specs.Code.{IsSameFault, require_code}
use Rattle.pep_require.specs.Faults.{after_name}
use Rattle.pep_require.specs.LineParts.{ExtrasFrom, RefusesBound, RefusesBounds}
use Rattle.pep_require.specs.LineParts.{RefusesEnding, RefusesLine}
use Rattle.pep_require.specs.LineParts.{RefusesTarget, RefusesUrl, TargetFrom}
use Rattle.pep_require.specs.LineParts.{bad_bare, bad_beginning, bad_closed, bad_ending}
use Rattle.pep_require.specs.LineParts.{bad_extras, bad_target, bad_url}
use Rattle.pep_require.specs.LineParts.{later_bound, no_memory, not_closed, this_bound}
use Rattle.pep_require.specs.declared.fault.RequireFault.{RequireFault}
use Rattle.pep_require.specs.declared.fault.RequireFault.TheVariants as fault

-- ---- clauses

one_found_fault : (o : Option Op) (y : List ℕ) (e f : ClauseFault) → RefusesFound o y e →
    RefusesFound o y f → e ≡ f
one_found_fault None y e f h k = h ∙ sym k
one_found_fault (Some o) y e f h k =
    err_told e f (one-answer o (clause_run (after_operator o y)) (Err e) (Err f) h.clause k.clause
    (λ q. h.known (err_told e _ q)) (λ q. k.known (err_told f _ q)))

one_bound_fault : (x : List ℕ) (f g : RequireFault) → RefusesBound x f → RefusesBound x g → f ≡ g
one_bound_fault x f g h k =
    let y = without_leading_blanks x in
    h.fault
    ∙ ap fault.BadClause (one_found_fault (operator_of y) y h.inner k.inner h.refused k.refused)
    ∙ sym k.fault

one_bounds_fault : (closed : Bool) (x : List ℕ) (f g : RequireFault) → RefusesBounds closed x f →
    RefusesBounds closed x g → f ≡ g
one_bounds_fault closed x f g (this_bound h) (this_bound k) = one_bound_fault x f g h k
one_bounds_fault closed x f g (this_bound h) (later_bound {behind = behind} {c = c} b e k) =
    absurd (bound_refused x (44 ∷ behind) c f h b)
one_bounds_fault closed x f g (later_bound {behind = behind} {c = c} b e h) (this_bound k) =
    absurd (bound_refused x (44 ∷ behind) c g k b)
one_bounds_fault closed x f g (later_bound {behind = behind} {c = c} b e h)
    (later_bound {behind = left} {c = d} a i k) =
    one_bounds_fault closed behind f g h
    (subst (λ t. RefusesBounds closed t g)
    (sym (ap tail (one_bound x (44 ∷ behind) (44 ∷ left) c d b a).1)) k)

-- ---- the target

one_url_fault : (x : List ℕ) (f g : RequireFault) → f ≢ fault.UrlOverflow →
    g ≢ fault.UrlOverflow → RefusesUrl x f → RefusesUrl x g → f ≡ g
one_url_fault x f g known told (inl h) (inl k) = h.0 ∙ sym k.0
one_url_fault x f g known told (inl h) (inr k) = absurd (told k.0)
one_url_fault x f g known told (inr h) k = absurd (known h.0)

one_target_fault : {x : List ℕ} {f g : RequireFault} → f ≢ fault.UrlOverflow →
    g ≢ fault.UrlOverflow → RefusesTarget x f → RefusesTarget x g → f ≡ g
one_target_fault known told (bad_url {x = x} {f = f} h) (bad_url {f = g} k) =
    one_url_fault x f g known told h k
one_target_fault known told (bad_url h) (bad_bare e k) = absurd (cc e)
one_target_fault known told (bad_closed {x = x} {f = f} h) (bad_closed {f = g} k) =
    one_bounds_fault true x f g h k
one_target_fault known told (bad_closed {x = x} {f = f} h)
    (not_closed {rest = rest} {cs = cs} k e) = absurd (refused_bounds true x rest cs f h k)
one_target_fault known told (bad_closed h) (bad_bare e k) = absurd (cc e)
one_target_fault known told (not_closed {x = x} {rest = rest} {cs = cs} h e)
    (bad_closed {f = g} k) = absurd (refused_bounds true x rest cs g k h)
one_target_fault known told (not_closed h e) (not_closed k i) = refl
one_target_fault known told (not_closed h e) (bad_bare i k) = absurd (cc i)
one_target_fault known told (bad_bare e h) (bad_url k) = absurd (cc e)
one_target_fault known told (bad_bare e h) (bad_closed k) = absurd (cc e)
one_target_fault known told (bad_bare e h) (not_closed k i) = absurd (cc e)
one_target_fault known told (bad_bare {x = x} {f = f} e h) (bad_bare {f = g} i k) =
    one_bounds_fault false x f g h k

-- ---- the ending

apart : (b : ℕ) → b ≡ 59 → (b == 59) ≡ false → ⊥
apart b e f = cc (sym f ∙ ap (λ c. c == 59) e)

one_ending_fault : (x : List ℕ) (f g : RequireFault) → RefusesEnding x f → RefusesEnding x g →
    IsSameFault f g
one_ending_fault [] f g h k = absurd h
one_ending_fault (b ∷ x) f g (inl h) (inl k) =
    inr (ap require_code h.1.fault, ap require_code k.1.fault)
one_ending_fault (b ∷ x) f g (inl h) (inr k) = absurd (apart b h.0 k.0)
one_ending_fault (b ∷ x) f g (inr h) (inl k) = absurd (apart b k.0 h.0)
one_ending_fault (b ∷ x) f g (inr h) (inr k) = inl (h.1 ∙ sym k.1)

-- ---- the line

abbrev IsTold : RequireFault → Type 0
IsTold f = (f ≢ fault.NoMemory) × (f ≢ fault.UrlOverflow)

same_place : (x rest remaining : List ℕ) (extras found : List (List ℕ)) → ExtrasFrom x extras rest →
    ExtrasFrom x found remaining → without_leading_blanks remaining ≡ without_leading_blanks rest
same_place x rest remaining extras found h k =
    ap without_leading_blanks (sym (one_extras x rest remaining extras found h k).1)

one_line_fault : (x : List ℕ) (f g : RequireFault) → IsTold f → IsTold g → RefusesLine x f →
    RefusesLine x g → IsSameFault f g
one_line_fault x f g told known (no_memory e) k = absurd (told.0 e)
one_line_fault x f g told known h (no_memory e) = absurd (known.0 e)
one_line_fault x f g told known (bad_beginning e) (bad_beginning i) =
    inl (same_Some f g (sym e ∙ i))
one_line_fault x f g told known (bad_beginning e) (bad_extras i k) =
    absurd (none-some f (sym i ∙ e))
one_line_fault x f g told known (bad_beginning e) (bad_target i b k) =
    absurd (none-some f (sym i ∙ e))
one_line_fault x f g told known (bad_beginning e) (bad_ending i b t k) =
    absurd (none-some f (sym i ∙ e))
one_line_fault x f g told known (bad_extras e h) (bad_beginning i) =
    absurd (none-some g (sym e ∙ i))
one_line_fault x f g told known (bad_extras e h) (bad_extras i k) = inl (h.0 ∙ sym k.0)
one_line_fault x f g told known (bad_extras e h)
    (bad_target {extras = extras} {rest = rest} i b k) = absurd (h.2 extras rest b)
one_line_fault x f g told known (bad_extras e h)
    (bad_ending {extras = extras} {rest = rest} i b t k) = absurd (h.2 extras rest b)
one_line_fault x f g told known (bad_target e a h) (bad_beginning i) =
    absurd (none-some g (sym e ∙ i))
one_line_fault x f g told known (bad_target {extras = extras} {rest = rest} e a h)
    (bad_extras i k) = absurd (k.2 extras rest a)
one_line_fault x f g told known (bad_target {extras = extras} {rest = rest} e a h)
    (bad_target {extras = found} {rest = remaining} i b k) =
    inl (one_target_fault told.1 known.1 h (subst (λ t. RefusesTarget t g)
    (same_place (after_name x) rest remaining extras found a b) k))
one_line_fault x f g told known (bad_target {extras = extras} {rest = rest} e a h)
    (bad_ending {extras = found} {rest = remaining} {behind = behind} {t = t} i b at k) =
    absurd (refused_target told.1 h (subst (λ y. TargetFrom y t behind)
    (same_place (after_name x) rest remaining extras found a b) at))
one_line_fault x f g told known (bad_ending e a at h) (bad_beginning i) =
    absurd (none-some g (sym e ∙ i))
one_line_fault x f g told known (bad_ending {extras = extras} {rest = rest} e a at h)
    (bad_extras i k) = absurd (k.2 extras rest a)
one_line_fault x f g told known
    (bad_ending {extras = extras} {rest = rest} {behind = behind} {t = t} e a at h)
    (bad_target {extras = found} {rest = remaining} i b k) =
    absurd (refused_target known.1 k (subst (λ y. TargetFrom y t behind)
    (same_place (after_name x) remaining rest found extras b a) at))
one_line_fault x f g told known
    (bad_ending {extras = extras} {rest = rest} {behind = behind} {t = t} e a at h)
    (bad_ending {extras = found} {rest = remaining} {behind = left} {t = s} i b there k) =
    let same = one_target at (subst (λ y. TargetFrom y s left)
    (same_place (after_name x) rest remaining extras found a b) there) in
    one_ending_fault (without_leading_blanks behind) f g h
    (subst (λ y. RefusesEnding (without_leading_blanks y) g) (sym same.1) k)

pub one_fault : (x : List ℕ) (f g : RequireFault) → f ≢ fault.NoMemory → f ≢ fault.UrlOverflow →
    g ≢ fault.NoMemory → g ≢ fault.UrlOverflow → RefusesLine x f → RefusesLine x g →
    IsSameFault f g
one_fault x f g a b c d h k = one_line_fault x f g (a, b) (c, d) h k
