-- The shards of a list's lines: one line further.
use Rattle.std.proofs.Common.{◌≡◌, ◌≢◌, ℕ, ◌+◌, ◌⊎◌, ◌∙◌, ◌++◌, List, [], ◌∷◌, Some, None}
use Rattle.std.proofs.Common.{append_assoc, append-nil, ap, arith, length, refl, subst, sym, inl, inr}
use Rattle.std.proofs.lemmas.List.{length-append}
use Rattle.std.specs.List.{AllZip}
use Rattle.std.specs.Prelude.{All, max}
use Rattle.std.proofs.lemmas.List.Elements.{All-cons, All-nil}
use Rattle.std.proofs.lemmas.Slice.Zip.{all_zipped_more}
use Rattle.pep_require.specs.Faults.{beginning_fault}
use Rattle.pep_require.specs.LineParts.{StartsLine}
use Rattle.pep_require.specs.declared.fault.RequireFault.{RequireFault}
use Rattle.pep_require.specs.declared.fault.RequireFault.TheVariants as require
use Rattle.faults.specs.declared.fault.Cause.{Cause}
use Rattle.faults.specs.declared.fault.Cause.TheVariants as cause
use Rattle.faults.specs.declared.fault.LineFault.{LineFault}
use Rattle.faults.specs.declared.fault.LineFault.TheVariants as line_fault
use Rattle.inputs.specs.Lists.{HasText}
use Rattle.inputs.specs.Lists.{content, lines_of}
use Rattle.faults.specs.NoMemory.{no_memory}
use Rattle.faults.specs.declared.fault.Fault.{Fault}
use Rattle.faults.specs.declared.fault.Place.TheVariants as place
use Rattle.inputs.specs.Refusal.{by_encoding, by_length}
use Rattle.shards.proofs.OneRefusal.{has_one}
use Rattle.shards.specs.Shards.{AreShards, HasNoShard, HasNoShards, IsShardOfLine, no_line, no_name, shard_of}

no_memory_fault : (x : List ℕ) (f : RequireFault) → beginning_fault x ≡ Some f → f ≢ require.NoMemory
no_memory_fault x f e = grind (arith)

-- none of the lines that have shards is refused
none_refused : (count : ℕ) (lines : List (List ℕ)) (shards : List ℕ) →
    AllZip (IsShardOfLine count) lines shards → All (λ l. (f : LineFault) → ¬ HasNoShard l f) lines
none_refused count [] shards z = All-nil (λ l. (f : LineFault) → ¬ HasNoShard l f)
none_refused count (l ∷ lines) [] z = absurd z
none_refused count (l ∷ lines) (s ∷ shards) z =
    All-cons (λ l. (f : LineFault) → ¬ HasNoShard l f) l lines (has_one count l s z.0)
    (none_refused count lines shards z.1)

-- the lines before a place have these shards, and `ahead` follows
pub record SplitSoFar (count : ℕ) (lines : List (List ℕ)) (number : ℕ) (ahead : List (List ℕ))
    (shards : List ℕ) : Type 0 where
  pub taken : List (List ℕ)
  pub whole : taken ++ ahead ≡ lines
  pub counted : length taken ≡ number
  pub each : AllZip (IsShardOfLine count) taken shards

pub none_split : (count : ℕ) (lines : List (List ℕ)) (shards : List ℕ) → shards ≡ [] →
    SplitSoFar count lines 0 lines shards
none_split count lines shards e = record {
  taken = [];
  whole = refl;
  counted = refl;
  each = subst (AllZip (IsShardOfLine count) []) (sym e) tt;
}

pub split_more : (count : ℕ) (lines : List (List ℕ)) (number : ℕ) (line : List ℕ)
    (ahead : List (List ℕ)) (shards more : List ℕ) (shard : ℕ) →
    SplitSoFar count lines number (line ∷ ahead) shards → IsShardOfLine count line shard →
    more ≡ shards ++ shard ∷ [] → SplitSoFar count lines (number + 1) ahead more
split_more count lines number line ahead shards more shard h is e = record {
  taken = h.taken ++ line ∷ [];
  whole = append_assoc h.taken (line ∷ []) ahead ∙ h.whole;
  counted = length-append h.taken (line ∷ []) ∙ ap (λ n. n + 1) h.counted;
  each = subst (AllZip (IsShardOfLine count) (h.taken ++ line ∷ [])) (sym e)
      (all_zipped_more (IsShardOfLine count) h.taken shards line shard h.each is);
}

pub all_split : (count number : ℕ) (bytes shards : List ℕ) →
    SplitSoFar count (lines_of bytes) number [] shards → AreShards count bytes shards
all_split count number bytes shards h =
    subst (λ ls. AllZip (IsShardOfLine count) ls shards) (sym (append-nil h.taken) ∙ h.whole) h.each

-- a line behind those that were taken has no shard, and it is the first
refused_here : (count number : ℕ) (bytes line : List ℕ) (ahead : List (List ℕ))
    (shards : List ℕ) (f : LineFault) (c : Cause) →
    SplitSoFar count (lines_of bytes) number (line ∷ ahead) shards → HasNoShard line f →
    c ≡ cause.Line (number + 1) f → HasNoShards bytes c
refused_here count number bytes line ahead shards f c h why is = record {
  before = h.taken;
  line = line;
  behind = ahead;
  stands = h.whole;
  first = none_refused count h.taken shards h.each;
  fault = f;
  refused = why;
  is = is ∙ ap (λ n. cause.Line (n + 1) f) (sym h.counted);
}

-- no line is refused for lack of memory
known : (line : List ℕ) (f : LineFault) → HasNoShard line f → f ≢ line_fault.Requirement require.NoMemory
known line f (no_line (by_length long is)) = λ e. cc (sym is ∙ e)
known line f (no_line (by_encoding short none is)) = λ e. cc (sym is ∙ e)
known line f (no_name g short text kept begins is) =
    λ e. let both : line_fault.Requirement g ≡ line_fault.Requirement require.NoMemory = sym is ∙ e in
    no_memory_fault (content line) g begins (cc both)

-- .. or memory ran out
pub refused_or_none : (count number : ℕ) (bytes line : List ℕ) (ahead : List (List ℕ))
    (shards : List ℕ) (f : LineFault) (fault : Fault) (c : Cause) →
    SplitSoFar count (lines_of bytes) number (line ∷ ahead) shards →
    (f ≡ line_fault.Requirement require.NoMemory) ⊎ HasNoShard line f →
    (f ≡ line_fault.Requirement require.NoMemory → c ≡ cause.NoMemory) →
    (f ≢ line_fault.Requirement require.NoMemory → c ≡ cause.Line (number + 1) f) →
    fault.cause ≡ c → (c ≡ cause.NoMemory → fault ≡ no_memory) →
    (c ≢ cause.NoMemory → fault.place ≡ place.Input 1) →
    (fault ≡ no_memory) ⊎ ((fault.place ≡ place.Input 1) × HasNoShards bytes fault.cause)
refused_or_none count number bytes line ahead shards f fault c h (inl none) memory told same bare there =
    inl (bare (memory none))
refused_or_none count number bytes line ahead shards f fault c h (inr why) memory told same bare there =
    let is = told (known line f why) in
    inr (
      there (λ e. let both : cause.Line (number + 1) f ≡ cause.NoMemory = sym is ∙ e in cc both),
      refused_here count number bytes line ahead shards f fault.cause h why (same ∙ is),
    )

-- ---- one line

pub skipped_shard : (count : ℕ) (line : List ℕ) → HasText line None → IsShardOfLine count line (max 1 count)
skipped_shard count line h = record { short = h.short; text = h.encoded; is = inl (h.text, refl) }

pub named_shard : (count : ℕ) (line text name rest : List ℕ) (shard : ℕ) → HasText line (Some text) →
    StartsLine text name rest → shard ≡ shard_of count name → IsShardOfLine count line shard
named_shard count line text name rest shard h start is = record {
  short = h.short;
  text = h.encoded;
  is = inr (h.text.0, (name, rest, subst (λ t. StartsLine t name rest) h.text.1 start, sym is));
}

pub start_fault : (line text : List ℕ) (f : RequireFault) → HasText line (Some text) →
    (f ≡ require.NoMemory) ⊎ (beginning_fault text ≡ Some f) →
    (line_fault.Requirement f ≡ line_fault.Requirement require.NoMemory)
    ⊎ HasNoShard line (line_fault.Requirement f)
start_fault line text f h (inl memory) = inl (ap line_fault.Requirement memory)
start_fault line text f h (inr e) =
    let own : beginning_fault (content line) ≡ Some f =
    subst (λ t. beginning_fault t ≡ Some f) h.text.1 e in
    inr (no_name f h.short h.encoded h.text.0 own refl)
