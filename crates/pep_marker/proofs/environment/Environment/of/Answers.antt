use Rattle.std.proofs.Common.{rules, ◌≡◌, ◌∙◌, ◌+◌, ◌<◌, arith, sym, None, Some, inl, ap, subst}
use Rattle.std.proofs.Common.{length, get_or, refl, take, List, ℕ}
use Rattle.std.proofs.lemmas.List.{take_all}
use Rattle.std.specs.Option.{option_map, option_or}
use Rattle.pep_marker.specs.declared.fault.MarkerFault.TheVariants.{MissingVariable}
use Rattle.pep_marker.specs.Environment.{EnvironmentParts, pairs_fault}
use Rattle.pep_marker.specs.Pairs.{pair_texts}
use Rattle.pep_marker.specs.Way.Slots.{HoldsPairs}
use Rattle.pep_marker.proofs.SlotLemmas.{HoldsPairs-put, HoldsValues-put, no_pair}
use Rattle.pep_marker.proofs.SlotLemmas.{environment_of-slots, pair_text, take-pair}
use Rattle.pep_marker.proofs.SlotLemmas.{fault_from, fault_from-end, fault_from-step}
use Rattle.pep_marker.proofs.SlotLemmas.{missing_fault-slots, slot_fault-none, slot_fault-pair}
use Rattle.pep_marker.proofs.environment.Environment.of.Goals as goal

pub returns-in_err-variable-clause-faults : goal.returns-in_err-variable-clause-faults
returns-in_err-variable-clause-faults c =
    let pairs = c.args.pairs.now in
    let i = c.loop-name.name-index in
    let taken = pair_texts (take i pairs) in
    let p = get_or pairs i no_pair in
    let own = slot_fault-pair c.loop-name.slots taken (pair_text p) c.loop-name.invariant.holds in
    let fact : pairs_fault (pair_texts pairs) ≡ Some c.in_err-variable.field-0.0 =
    sym c.loop-name.invariant.faults
    ∙ fault_from-step pairs i no_pair c.loop-name-test.true
    ∙ ap (λ o. option_or o (fault_from pairs (i + 1)))
    (sym own ∙ c.in_err-variable.ensures.refused) in
    search rules

pub loop-name-preserved : goal.loop-name-preserved
loop-name-preserved c =
    let pairs = c.args.pairs.now in
    let i = c.loop-name.name-index in
    let slots = c.loop-name.slots in
    let v = c.in_ok-variable.variable in
    let taken = pair_texts (take i pairs) in
    let p = get_or pairs i no_pair in
    let right = c.in_ok-variable.ensures in
    let within : c.place.result < length slots =
    omega (arith, c.loop-name.invariant.all, c.place.ensures.within) in
    let at = c.place.ensures.place in
    let none = slot_fault-none slots (pair_text p) v right.variable right.free right.value in
    record {
      all = search rules;
      holds = rw (at, take-pair pairs i no_pair c.loop-name-test.true)
          (HoldsPairs-put slots taken (pair_text p) p.1 v c.loop-name.invariant.holds right.variable
          right.free (rw at at within) refl);
      values = rw at
          (HoldsValues-put slots p.1 v c.loop-name.invariant.values right.value (rw at at within));
      faults = sym (ap (λ o. option_or o (fault_from pairs (i + 1)))
          (sym (slot_fault-pair slots taken (pair_text p) c.loop-name.invariant.holds) ∙ none))
          ∙ sym (fault_from-step pairs i no_pair c.loop-name-test.true)
          ∙ c.loop-name.invariant.faults;
    }

pub returns-in-Some-clause-faults : goal.returns-in-Some-clause-faults
returns-in-Some-clause-faults c =
    let pairs = c.args.pairs.now in
    let i = c.loop-name.name-index in
    let all = subst (λ done. HoldsPairs c.loop-name.slots (pair_texts done))
    (take_all i pairs c.loop-name-test.false) c.loop-name.invariant.holds in
    inl (sym c.loop-name.invariant.faults
    ∙ fault_from-end pairs i c.loop-name-test.false
    ∙ sym (missing_fault-slots c.loop-name.slots (pair_texts pairs) all)
    ∙ ap (option_map MissingVariable) (sym c.missing.ensures ∙ c.in-Some.is))

pub returns-clause-accepted : goal.returns-clause-accepted
returns-clause-accepted c =
    let pairs = c.args.pairs.now in
    let i = c.loop-name.name-index in
    let all = subst (λ done. HoldsPairs c.loop-name.slots (pair_texts done))
    (take_all i pairs c.loop-name-test.false) c.loop-name.invariant.holds in
    let none : c.missing.result ≡ None = search rules in
    sym c.loop-name.invariant.faults
    ∙ fault_from-end pairs i c.loop-name-test.false
    ∙ sym (missing_fault-slots c.loop-name.slots (pair_texts pairs) all)
    ∙ ap (option_map MissingVariable) (sym c.missing.ensures ∙ none)

pub returns-clause-value : goal.returns-clause-value
returns-clause-value c =
    let pairs = c.args.pairs.now in
    let all = subst (λ done. HoldsPairs c.loop-name.slots (pair_texts done))
    (take_all c.loop-name.name-index pairs c.loop-name-test.false) c.loop-name.invariant.holds in
    let of : List (List ℕ) → EnvironmentParts = λ texts. record { texts = texts } in
    ap of (c.in_ok-of_slots.ensures
    ∙ environment_of-slots c.loop-name.slots (pair_texts pairs) c.loop-name.invariant.all all)
