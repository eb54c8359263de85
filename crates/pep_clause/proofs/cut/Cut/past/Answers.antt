use Rattle.std.proofs.Common.{◌≡◌, ◌∙◌, ◌++◌, ◌-◌, ◌∷◌, [], List, ap, refl, subst, take, ℕ}
use Rattle.std.specs.Prelude.{IfOk}
use Rattle.pep_version.proofs.PlaceLemmas.{short-twice}
use Rattle.pep_version.specs.KeyBytes.{key_bytes}
use Rattle.pep_version.specs.Order.{short_release}
use Rattle.pep_version.specs.Version.{IsVersion, Version}
use Rattle.specifiers.specs.Clause.{Prefix}
use Rattle.pep_clause.specs.Cut.{IsCut, final_version, past}
use Rattle.pep_clause.specs.CutBytes.{cut_bytes}
use Rattle.pep_clause.proofs.CutsRead.{cut_at-is, past-bytes, reads_back}
use Rattle.pep_clause.proofs.cut.Cut.past.Goals as goal
use Rattle.pep_clause.proofs.cut.Cut.past.Goals.{In_ok-push}

-- the release without the zeros at its end
abbrev short : Version → Prefix
short v = record { epoch = v.epoch; release = short_release v.release }

-- the key is that of the release
is_final : (c : In_ok-push) → c.in-Ok.key ≡ final_version (short c.args.version.now)
is_final c =
    c.in-Ok.ensures.place
    ∙ (λ i. final_version (record { epoch = c.epoch-epoch.ensures i; release = short_release (c.release-release.ensures.numbers i) }))

is_cut : (c : In_ok-push) → IsCut (past (short c.args.version.now))
is_cut c = (subst IsVersion (is_final c) c.in-Ok.ensures.version, short-twice c.args.version.now.release)

bytes_are : (c : In_ok-push) → c.push.new.self.items ≡ cut_bytes (past (short c.args.version.now))
bytes_are c =
    let bytes = c.into_bytes-bytes.result.items in
    c.in_ok-push.ensures.ok
    ∙ ap (λ (xs : List ℕ). xs ++ (0x60 ∷ [])) (c.truncate.ensures.items
    ∙ ap (λ (n : ℕ). take (n - 4) bytes) c.len.ensures.value)
    ∙ past-bytes bytes (short c.args.version.now) (c.into_bytes-bytes.ensures.bytes ∙ ap key_bytes (is_final c))

pub large-requires : goal.large-requires
large-requires c =
    reads_back c.push.new.self.items (past (short c.args.version.now)) (is_cut c) refl (bytes_are c)

pub returns-clause-place : goal.returns-clause-place
returns-clause-place c =
    let at = (goal.at.returns-clause-place c).In_ok-push in
    subst (λ x. IfOk c.large.result (λ k. k ≡ x))
    (cut_at-is c.push.new.self.items (past (short c.args.version.now)) (is_cut at) refl (bytes_are at))
    c.large.ensures.same
