-- Why edits are refused: at one input, what the turned body gives is not what the clause says.
use Rattle.std.proofs.Common.{◌≡◌, ◌+◌, ◌++◌, ◌∙◌, ℕ, List, [], ◌∷◌, arith, codes, inl, inr, length, subst, sym}
use Rattle.texts.specs.Bytes.{is_letter_or_digit}
use Rattle.specifiers.specs.declared.fault.ClauseFault.{ClauseFault}
use Rattle.pep_require.specs.declared.fault.RequireFault.TheVariants as require
use Rattle.faults.specs.declared.fault.Cause.TheVariants as cause
use Rattle.faults.specs.declared.fault.LineFault.{LineFault}
use Rattle.faults.specs.declared.fault.LineFault.TheVariants as line_fault
use Rattle.inputs.specs.Refusal.{by_encoding, by_length}
use Rattle.shards.specs.Shards.{HasNoShard, HasNoShards, IsShardOf, IsShardOfLine, no_line, no_name, shard_of}

-- the name `a`, of which the number is 97
pub shard_of-of_no_bytes : ¬ (0 ≡ shard_of 4 (codes "a"))
shard_of-of_no_bytes e = cc e

-- `#`, among four shards
pub shards_of-comment_in_a_shard : ¬ IsShardOfLine 4 (codes "#") 3
shards_of-comment_in_a_shard h = by h.is
  where
    by : IsShardOf 4 (codes "#") 3 → ⊥
    by (inl (e, n)) = cc n
    by (inr (e, g)) = cc e

-- `a<`, of which a reader of whole lines refuses the clause
pub shards_of-fault_behind_the_name : (f : ClauseFault) →
    ¬ HasNoShard (codes "a<") (line_fault.Requirement (require.BadClause f))
unfolding is_letter_or_digit
shards_of-fault_behind_the_name f (no_line (by_length long is)) = cc is
shards_of-fault_behind_the_name f (no_line (by_encoding short none is)) = cc is
shards_of-fault_behind_the_name f (no_name g short text kept begins is) = cc begins

-- any bytes, as those of more than 16 MiB
pub shards_of-long_list_refused : (bytes : List ℕ) → ¬ HasNoShards bytes cause.TooLarge
shards_of-long_list_refused bytes h = cc h.is

-- `a` and `!`, of which the second line is told
not_a : (f : LineFault) → f ≡ line_fault.Requirement require.BadName → ¬ HasNoShard (codes "a") f
unfolding is_letter_or_digit
not_a f e (no_line (by_length long is)) = cc (sym e ∙ is)
not_a f e (no_line (by_encoding short differs is)) = cc (sym e ∙ is)
not_a f e (no_name g short text kept begins is) = cc begins

not_first : (before behind : List (List ℕ)) (line : List ℕ) (f : LineFault) →
    before ++ line ∷ behind ≡ codes "a" ∷ codes "!" ∷ [] →
    cause.Line 1 (line_fault.Requirement require.BadName) ≡ cause.Line (length before + 1) f →
    HasNoShard line f → ⊥
not_first [] behind line f e is h =
    let same : line ≡ codes "a" = cc e in
    let fault : f ≡ line_fault.Requirement require.BadName = cc is in
    not_a f fault (subst (λ l. HasNoShard l f) same h)
not_first (x ∷ xs) behind line f e is h =
    let place : 1 ≡ length (x ∷ xs) + 1 = cc is in omega (arith, place)

pub shards_of-first_line_blamed :
    ¬ HasNoShards (codes "a\n!") (cause.Line 1 (line_fault.Requirement require.BadName))
shards_of-first_line_blamed h = not_first h.before h.behind h.line h.fault h.stands h.is h.refused
