-- The clause in front of a text, and where it ends.
use Rattle.std.proofs.Common.{◌≡◌, ℕ, ◌<◌, true, false, List, [], ◌∷◌, ◌++◌, Option, Some, None, refl, sym, subst, ap, ◌∙◌}
use Rattle.std.proofs.Common.{◌-◌, append_assoc, arith, length, length-append, take, drop}
use Rattle.std.proofs.Math.Seq.{drop-append_seam}
use Rattle.std.specs.List.{list_all, prefix_len}
use Rattle.std.proofs.lemmas.List.Folds.{list_all-append}
use Rattle.pep_version.proofs.NormalTexts.{list_all-weaker}
use Rattle.std.specs.Prelude.{IfSome}
use Rattle.std.proofs.lemmas.Bool.Decides.{nat_tests}
use Rattle.std.proofs.lemmas.List.{take-append-drop}
use Rattle.specifiers.specs.Clause.{Clause, operator_text}
use Rattle.pep_clause.specs.VersionSet.{IsNormal, Range}
use Rattle.pep_clause.proofs.SetLemmas.{IsNormal-set_of}
use Rattle.texts.specs.Bytes.{is_blank_byte, is_clause_byte}
use Rattle.texts.specs.Runs.{begins, without_leading_blanks}
use Rattle.texts.proofs.RunLemmas.{all-run, begins-rest, run-span}
use Rattle.specifiers.specs.Front.{ClauseFrom, OperatorFrom, RunFrom}
use Rattle.specifiers.specs.declared.op.Op.{Op}
use Rattle.specifiers.specs.declared.op.Op.TheVariants as op
use Rattle.pep_require.specs.Reads.{IsBound}
use Rattle.pep_require.proofs.BlankLemmas.{leading, leading_whole, no_leading}
use Rattle.pep_require.proofs.BoundPieces.{bound_found, bound_read, bound_whole, found_piece}
use Rattle.packed_cuts.specs.Way.PackedSet.{ranges_in}
use Rattle.packed_cuts.specs.declared.packed_set.PackedSet.{PackedSet}
use Rattle.demands.specs.Way.LineDemands.{AddsClause, DemandsRanges}
use Rattle.demands.specs.Table.{EntryParts}
use Rattle.clause_memory.specs.Way.PackedClause.{KnowsDemand, ReadsDemand}
use Rattle.clause_memory.specs.Way.Taken.{DemandsFront, TakesFront, goes_on}

-- ---- where a clause ends

blank_goes : (b : ℕ) → is_blank_byte b ≡ true → goes_on b ≡ true
blank_goes b h = grind (arith, nat_tests)

clause_goes : (b : ℕ) → is_clause_byte b ≡ true → goes_on b ≡ true
clause_goes b h = grind (arith, nat_tests)

stop_no_blank : (b : ℕ) → goes_on b ≡ false → is_blank_byte b ≡ false
stop_no_blank b h = grind (arith, nat_tests)

stop_no_clause : (b : ℕ) → goes_on b ≡ false → is_clause_byte b ≡ false
stop_no_clause b h = grind (arith, nat_tests)

pub stop_small : (b : ℕ) → goes_on b ≡ false → b < 128
stop_small b h = grind (arith, nat_tests)

-- what ends a clause is no white space
pub stop_bare : (rest : List ℕ) → begins goes_on rest ≡ false → without_leading_blanks rest ≡ rest
stop_bare [] h = refl
stop_bare (b ∷ rest) h = no_leading (b ∷ rest) (stop_no_blank b h)

pub stop_off : (rest : List ℕ) → begins goes_on rest ≡ false → begins is_clause_byte rest ≡ false
stop_off [] h = refl
stop_off (b ∷ rest) h = stop_no_clause b h

pub front_bound : (left piece rest : List ℕ) (c : Clause) → piece ++ rest ≡ left → begins goes_on rest ≡ false →
    IsBound piece c → ClauseFrom left c rest
front_bound left piece rest c whole stops is =
    let bare = stop_bare rest stops in
    let off : begins is_clause_byte (without_leading_blanks rest) ≡ false =
    ap (begins is_clause_byte) bare ∙ stop_off rest stops in
    subst (λ t. ClauseFrom left c t) bare
    (subst (λ t. ClauseFrom t c (without_leading_blanks rest)) whole (bound_found piece rest c is off))

pub cut_whole : (left piece rest : List ℕ) (n : ℕ) → piece ≡ take n left → rest ≡ drop n left → piece ++ rest ≡ left
cut_whole left piece rest n front back = (λ i. front i ++ back i) ∙ take-append-drop n left

pub cut_piece : (left piece : List ℕ) (n : ℕ) → n ≡ prefix_len goes_on left → piece ≡ take n left →
    list_all goes_on piece ≡ true
cut_piece left piece n count front =
    ap (list_all goes_on) (front ∙ (λ i. take (count i) left)) ∙ all-run goes_on left

pub cut_ends : (left rest : List ℕ) (n : ℕ) → n ≡ prefix_len goes_on left → rest ≡ drop n left →
    begins goes_on rest ≡ false
cut_ends left rest n count back = ap (begins goes_on) (back ∙ (λ i. drop (count i) left)) ∙ begins-rest goes_on left

-- what stands at the end of a text, cut off by its length
pub left_is : (x front rest : List ℕ) → x ≡ front ++ rest → drop (length x - length rest) x ≡ rest
left_is x front rest whole =
    let long : length x - length rest ≡ length front = rw whole (omega (arith, length-append front rest)) in
    ap (λ n. drop n x) long ∙ ap (drop (length front)) whole ∙ drop-append_seam front rest

-- .. and so is what stands there behind white space
pub end_stripped : (x last : List ℕ) → (front : List ℕ) × (x ≡ front ++ last) →
    (front : List ℕ) × (x ≡ front ++ without_leading_blanks last)
end_stripped x last (front, whole) = (
  front ++ leading last,
  whole ∙ ap (λ t. front ++ t) (leading_whole last)
      ∙ sym (append_assoc front (leading last) (without_leading_blanks last)),
)

-- ---- what is kept of a clause that is found in front

-- the clause of an operator in front and of the run behind it
pub behind_found : (x operand rest : List ℕ) (o : Op) (c : Clause) → OperatorFrom x o operand →
    RunFrom o operand c rest → ClauseFrom x c rest
behind_found x operand rest o c front run = record {
  operator = o;
  front = record { found = front.found; left = refl };
  run = subst (λ t. RunFrom o t c rest) front.left run;
}

pub front_taken : (x rest : List ℕ) (old new : EntryParts) (ranges : List Range) → DemandsFront x ranges rest →
    ((c : Clause) → DemandsRanges c ranges → AddsClause c old new) → TakesFront x rest old new
front_taken x rest old new ranges f adds = record {
  clause = f.clause;
  found = f.found;
  adds = adds f.clause f.demands;
}

-- the ranges of what is demanded are a normal list
pub demanded_normal : (c : Clause) (ranges : List Range) → DemandsRanges c ranges → IsNormal ranges
demanded_normal c ranges h = subst IsNormal (sym h.versions) (IsNormal-set_of c h.valid)

-- ---- what is remembered

-- the clause that a remembered text is, in front of the byte that ends it
pub known_front : (x piece rest : List ℕ) (ranges : List Range) → piece ++ rest ≡ x → begins goes_on rest ≡ false →
    ReadsDemand piece ranges → DemandsFront x ranges rest
known_front x piece rest ranges whole stops known = record {
  clause = known.clause;
  found = front_bound x piece rest known.clause whole stops known.read;
  demands = known.demands;
}

operator_goes : (o : Op) → list_all goes_on (operator_text o) ≡ true
operator_goes op.Exact = refl
operator_goes _ = refl

-- no byte of a clause, or of the white space round it, ends it
bound_goes : (piece : List ℕ) (c : Clause) → IsBound piece c → list_all goes_on piece ≡ true
bound_goes piece c s =
    let before = list_all-weaker is_blank_byte goes_on blank_goes s.before s.blanks.0 in
    let between = list_all-weaker is_blank_byte goes_on blank_goes s.between s.blanks.1 in
    let after = list_all-weaker is_blank_byte goes_on blank_goes s.after s.blanks.2 in
    let run = list_all-weaker is_clause_byte goes_on clause_goes s.run s.bytes in
    ap (list_all goes_on) s.whole
    ∙ rw (
      list_all-append goes_on (s.before ++ operator_text s.operator ++ s.between ++ s.run) s.after,
      list_all-append goes_on (s.before ++ operator_text s.operator ++ s.between) s.run,
      list_all-append goes_on (s.before ++ operator_text s.operator) s.between,
      list_all-append goes_on s.before (operator_text s.operator),
      before,
      operator_goes s.operator,
      between,
      run,
      after,
    ) refl

-- the text of the clause in front, up to the byte that ends it
pub front_read : (x piece end rest : List ℕ) (c : Clause) (found : Option PackedSet) → piece ++ end ≡ x →
    list_all goes_on piece ≡ true → begins goes_on end ≡ false → begins goes_on rest ≡ false → ClauseFrom x c rest →
    IfSome found (λ d. DemandsRanges c (ranges_in d)) → KnowsDemand piece found
front_read x piece end rest c None whole all ends stops f h = tt
front_read x piece end rest c (Some d) whole all ends stops f h =
    let bound = found_piece x c rest f in
    let read = bound_read x c rest f in
    let is : bound ≡ piece =
    sym (run-span goes_on bound rest (bound_goes bound c read) stops)
    ∙ ap (λ t. take (prefix_len goes_on t) t) (sym (bound_whole x c rest f) ∙ sym whole) ∙ run-span goes_on piece end all ends in
    record { clause = c; read = subst (λ t. IsBound t c) is read; demands = h }
