use Rattle.std.proofs.Common.{◌≡◌, ◌∙◌, ◌++◌, ◌==◌, [], List, None, ap, length, map, rules, true, ℕ}
use Rattle.texts.proofs.ListLemmas.{nothing_in}
use Rattle.pep_version.specs.ByteOrder.{ended}
use Rattle.pep_version.specs.KeyBytes.{key_bytes, number_bytes, release_number_bytes, suffix_bytes}
use Rattle.pep_version.specs.Version.{Version}
use Rattle.pep_version.specs.View.{segment_of, version_with}
use Rattle.pep_version.proofs.KeysRead.{ReadsBack-of, ReadsBack-own_place, version_at-of}
use Rattle.pep_version.proofs.KeysRead.{written-key, written-short}
use Rattle.pep_version.proofs.key.Key.of_parts.Goals as goal
use Rattle.pep_version.proofs.key.Key.of_parts.Goals.{In-Some, In_ok-push_suffix}

-- the version with these parts
abbrev short_given : In-Some → Version
short_given c =
    version_with c.args.epoch c.args.release.now c.args.pre c.args.post c.args.dev
    (map segment_of c.args.label.now)

short_are : (c : In-Some) → c.in-Some.bytes.items ≡ key_bytes (short_given c)
short_are c =
    let none : c.args.pre ≡ None = search rules in
    let tested : (length c.args.label.now == 0) ≡ true = search rules in
    let bare : c.args.label.now ≡ [] = nothing_in c.args.label.now tested in
    written-short (short_given c) c.without_end_zeros-release.result.now c.in-Some.bytes.items
    c.without_end_zeros-release.ensures none (ap (map segment_of) bare) c.in-Some.ensures.bytes

pub invariant_of-result : goal.invariant_of-result
invariant_of-result c =
    ReadsBack-of c.in-Some.bytes.items (short_given c) c.requires (short_are c)

pub returns-in-Some-clause-place : goal.returns-in-Some-clause-place
returns-in-Some-clause-place c =
    version_at-of c.in-Some.bytes.items (short_given c) c.requires (short_are c)

pub returns-in-Some-clause-version : goal.returns-in-Some-clause-version
returns-in-Some-clause-version c = (invariant_of-result c).version

pub returns-in-Some-clause-own_place : goal.returns-in-Some-clause-own_place
returns-in-Some-clause-own_place c =
    ReadsBack-own_place c.in-Some.bytes.items (invariant_of-result c)

abbrev given : In_ok-push_suffix → Version
given c =
    version_with c.args.epoch c.args.release.now c.args.pre c.args.post c.args.dev
    (map segment_of c.args.label.now)

-- the bytes that are appended one after the other
bytes_are : (c : In_ok-push_suffix) → c.push_suffix.new.bytes.items ≡ key_bytes (given c)
bytes_are c =
    let release = c.without_end_zeros-release.result.now in
    written-key (given c) release c.push_suffix.new.bytes.items c.without_end_zeros-release.ensures
    (c.in_ok-push_suffix.ensures
    ∙ ap (λ (xs : List ℕ). xs ++ suffix_bytes (given c)) (c.in_ok-push_place.ensures
    ∙ ap (λ (xs : List ℕ). xs ++ (number_bytes c.args.epoch ++ ended release_number_bytes release))
    c.new-bytes.ensures.items))

pub invariant_of-result-2 : goal.invariant_of-result-2
invariant_of-result-2 c =
    ReadsBack-of c.push_suffix.new.bytes.items (given c) c.requires (bytes_are c)

pub returns-clause-place : goal.returns-clause-place
returns-clause-place c =
    version_at-of c.push_suffix.new.bytes.items (given c) c.requires (bytes_are c)

pub returns-clause-version : goal.returns-clause-version
returns-clause-version c = (invariant_of-result-2 c).version

pub returns-clause-own_place : goal.returns-clause-own_place
returns-clause-own_place c =
    ReadsBack-own_place c.push_suffix.new.bytes.items (invariant_of-result-2 c)
