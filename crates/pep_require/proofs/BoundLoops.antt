-- The loop over the clauses of a text.
use Rattle.std.proofs.Common.{◌≡◌, ℕ, ◌==◌, ◌<◌, ◌⊎◌, false, true, List, [], ◌∷◌, ◌++◌}
use Rattle.std.proofs.Common.{length, length-append, length-drop, refl, sym, ap, subst, ◌∙◌, inl, inr}
use Rattle.std.proofs.Common.{append_assoc, arith, Bool}
use Rattle.std.specs.List.{prefix_len}
use Rattle.specifiers.specs.Clause.{Clause, operator_of}
use Rattle.specifiers.specs.Front.{ClauseFrom, RefusesFound, RefusesFront}
use Rattle.specifiers.specs.declared.fault.ClauseFault.{ClauseFault}
use Rattle.specifiers.specs.declared.fault.ClauseFault.TheVariants as clause_fault
use Rattle.texts.specs.Runs.{begins, without_leading_blanks}
use Rattle.texts.specs.Bytes.{is_blank_byte}
use Rattle.pep_require.specs.LineParts.{BoundsFrom, last_bound, last_comma, more_bounds}
use Rattle.pep_require.specs.LineParts.{RefusesBound, RefusesBounds, this_bound}
use Rattle.pep_require.specs.LineParts.{later_bound, is_end}
use Rattle.pep_require.specs.InnerFault.{fault_of_clause}
use Rattle.pep_require.specs.declared.fault.RequireFault.{RequireFault}
use Rattle.pep_require.specs.declared.fault.RequireFault.TheVariants as fault
use Rattle.pep_require.proofs.BlankLemmas.{stripped_twice}
use Rattle.pep_require.proofs.BoundLaws.{bounds_stripped}
use Rattle.pep_require.proofs.BoundPieces.{bound_stripped, bound_whole, found_piece}

-- ---- one clause

-- a fault of a clause is a fault of what it is a part of
pub clause_refused : (x : List ℕ) (e : ClauseFault) → (e ≡ clause_fault.NoMemory) ⊎ RefusesFront x e →
    (fault_of_clause e ≡ fault.NoMemory) ⊎ RefusesBound x (fault_of_clause e)
clause_refused x e (inl memory) = inl (ap fault_of_clause memory)
clause_refused x e (inr h) = by e h
  where
    bad : (e : ClauseFault) → RefusesFront x e → RefusesBound x (fault.BadClause e)
    bad e h = record { inner = e; refused = h; fault = refl }

    by : (e : ClauseFault) → RefusesFront x e →
        (fault_of_clause e ≡ fault.NoMemory) ⊎ RefusesBound x (fault_of_clause e)
    by clause_fault.NoMemory h = inl refl
    by clause_fault.NoOperator h = inr (bad clause_fault.NoOperator h)
    by clause_fault.BadVersion h = inr (bad clause_fault.BadVersion h)
    by clause_fault.StarNotAllowed h = inr (bad clause_fault.StarNotAllowed h)
    by clause_fault.LocalNotAllowed h = inr (bad clause_fault.LocalNotAllowed h)
    by clause_fault.OneNumber h = inr (bad clause_fault.OneNumber h)
    by clause_fault.NumberTooLarge h = inr (bad clause_fault.NumberTooLarge h)

-- ---- the loop

-- The list at the front of the text is read so far, with this left: what goes on from here makes a
-- list at the front, and what is refused from here on is refused of the whole.
pub record SoFar (closed : Bool) (x : List ℕ) (done : List Clause) (left : List ℕ) : Type 0 where
  pub goes_on : (cs : List Clause) (rest : List ℕ) → BoundsFrom closed left cs rest →
      BoundsFrom closed x (done ++ cs) rest
  pub refused : (f : RequireFault) → RefusesBounds closed left f → RefusesBounds closed x f

pub none_yet : (closed : Bool) (x : List ℕ) → SoFar closed x [] x
none_yet closed x = record { goes_on = λ cs rest h. h; refused = λ f h. h }

refused_stripped : (closed : Bool) (x : List ℕ) (f : RequireFault) →
    RefusesBounds closed (without_leading_blanks x) f → RefusesBounds closed x f
refused_stripped closed x f h = step (without_leading_blanks x) f refl h
  where
    step : (y : List ℕ) (f : RequireFault) → y ≡ without_leading_blanks x →
        RefusesBounds closed y f → RefusesBounds closed x f
    step y f same (this_bound h) =
        this_bound (record {
          inner = h.inner;
          refused = subst (λ t. RefusesFound (operator_of t) t h.inner) (stripped_twice x)
              (subst (λ t. RefusesFront t h.inner) same h.refused);
          fault = h.fault;
        })
    step y f same (later_bound {behind = behind} {c = c} b e h) =
        later_bound (bound_stripped x (44 ∷ behind) c
        (subst (λ t. ClauseFrom t c (44 ∷ behind)) same b)) e h

pub one_more : (closed : Bool) (x left rest behind next : List ℕ) (done : List Clause)
    (c : Clause) → SoFar closed x done left → ClauseFrom left c rest → rest ≡ 44 ∷ behind →
    next ≡ without_leading_blanks behind → is_end closed next ≡ false →
    SoFar closed x (done ++ c ∷ []) next
one_more closed x left rest behind next done c so b comma stripped more =
    let here : ClauseFrom left c (44 ∷ behind) = subst (ClauseFrom left c) comma b in
    let goes : is_end closed (without_leading_blanks behind) ≡ false =
    ap (is_end closed) (sym stripped) ∙ more in
    record {
      goes_on = λ cs end h. subst (λ ds. BoundsFrom closed x ds end)
          (sym (append_assoc done (c ∷ []) cs)) (so.goes_on (c ∷ cs) end (more_bounds here goes
          (bounds_stripped closed behind end cs
          (subst (λ t. BoundsFrom closed t cs end) stripped h))));
      refused = λ f h. so.refused f (later_bound here goes
          (refused_stripped closed behind f (subst (λ t. RefusesBounds closed t f) stripped h)));
    }

pub ends_here : (closed : Bool) (x left rest : List ℕ) (done : List Clause) (c : Clause) →
    SoFar closed x done left → ClauseFrom left c rest → begins (λ b. b == 44) rest ≡ false →
    BoundsFrom closed x (done ++ c ∷ []) rest
ends_here closed x left rest done c so b none = so.goes_on (c ∷ []) rest (last_bound b none)

pub ends_at_comma : (closed : Bool) (x left rest behind next : List ℕ) (done : List Clause)
    (c : Clause) → SoFar closed x done left → ClauseFrom left c rest → rest ≡ 44 ∷ behind →
    next ≡ without_leading_blanks behind → is_end closed next ≡ true →
    BoundsFrom closed x (done ++ c ∷ []) next
ends_at_comma closed x left rest behind next done c so b comma stripped ends =
    subst (BoundsFrom closed x (done ++ c ∷ [])) (sym stripped)
    (so.goes_on (c ∷ []) (without_leading_blanks behind)
    (last_comma (subst (ClauseFrom left c) comma b) (ap (is_end closed) (sym stripped) ∙ ends)))

pub refused_here : (closed : Bool) (x left : List ℕ) (done : List Clause) (f : RequireFault) →
    SoFar closed x done left → (f ≡ fault.NoMemory) ⊎ RefusesBound left f →
    (f ≡ fault.NoMemory) ⊎ RefusesBounds closed x f
refused_here closed x left done f so (inl memory) = inl memory
refused_here closed x left done f so (inr h) = inr (so.refused f (this_bound h))

-- less is left
pub less_left : (left rest behind next : List ℕ) (c : Clause) → ClauseFrom left c rest →
    rest ≡ 44 ∷ behind → next ≡ without_leading_blanks behind → length next < length left
less_left left rest behind next c b comma stripped =
    let piece = found_piece left c rest b in
    let whole : left ≡ piece ++ 44 ∷ behind =
    bound_whole left c rest b ∙ ap (λ t. piece ++ t) comma in
    let all : length left ≡ length (piece ++ 44 ∷ behind) = ap length whole in
    let some : length next ≡ length (without_leading_blanks behind) = ap length stripped in
    omega (
      arith,
      all,
      some,
      length-append piece (44 ∷ behind),
      length-drop (prefix_len is_blank_byte behind) behind,
    )
