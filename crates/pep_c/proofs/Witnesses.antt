-- Why edits are refused: at one input, what the turned body gives is not what the clause says.
use Rattle.std.proofs.Common.{◌≡◌, ◌∙◌, ◌↔◌, [], ◌∷◌, IsTrue, None, ap, codes, inl, inr, lit<, refl, true}
use Rattle.std.specs.Fmt.{digits}
use Rattle.texts.specs.Bytes.{is_letter_or_digit}
use Rattle.pep_version.specs.Text.{public_version}
use Rattle.pep_version.specs.Version.{IsVersion, Version}
use Rattle.specifiers.specs.Clause.{demanded, less_than}
use Rattle.pep_clause.specs.VersionSet.{all_versions}
use Rattle.shards.specs.Shards.{AreShards, IsShardOf, shard_of}
use Rattle.pep_c.specs.Ranges.{IsSetOfClauses}
use Rattle.pep_c.specs.Within.{LieWithin}

abbrev zero : Version
zero = public_version (0 ∷ []) None None None

fits : IsVersion zero
fits = record {
  release = lit< tt;
  label = tt;
  numbers = record { epoch = lit< tt; release = (lit< tt, tt); pre = tt; post = tt; dev = tt; label = tt };
}

-- `<0`, and 0
pub tubrambutan_ranges-all_versions : ¬ IsSetOfClauses (less_than zero ∷ []) all_versions
tubrambutan_ranges-all_versions h = cc (h.versions zero fits)

-- the line `b` alone, among four shards
not_in_first : ¬ IsShardOf 4 (codes "b") 0
unfolding is_letter_or_digit
not_in_first (inl (e, n)) = cc e
not_in_first (inr (e, (name, rest, start, is))) =
    let same : codes "b" ≡ name = cc start.named in cc (ap (shard_of 4) same ∙ is)

pub tubrambutan_split-one_shard : ¬ AreShards 4 (codes "b") (0 ∷ [])
tubrambutan_split-one_shard (h, t) = not_in_first h.is

-- no clauses and `===x`, and 0
pub tubrambutan_within-text_of_the_others_passed_over :
    ¬ (IsTrue true ↔ LieWithin [] (demanded (codes "x") ∷ []))
unfolding digits
tubrambutan_within-text_of_the_others_passed_over h = cc (h.0 refl zero fits refl)
