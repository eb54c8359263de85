-- The extras at the front of a text: there is at most one list of them.
use Rattle.std.proofs.Common.{◌≡◌, ℕ, ◌==◌, Bool, true, false, not, List, [], ◌∷◌, ◌++◌, refl, sym}
use Rattle.std.proofs.Common.{ap, subst, ◌∙◌, append_assoc, take, drop}
use Rattle.std.specs.Prelude.{Contains, ◌↔◌}
use Rattle.std.specs.List.{AllZip, join_with_byte, list_all, prefix_len, slice_split}
use Rattle.texts.proofs.Connectives.{by_answer}
use Rattle.texts.specs.Runs.{begins}
use Rattle.texts.specs.Bytes.{is_blank_byte}
use Rattle.texts.proofs.RunLemmas.{rest-span, run-span}
use Rattle.pep_require.specs.Way.ExtrasParts.{NamesWithin, no_names, some_names}
use Rattle.pep_require.specs.LineParts.{ExtrasFrom, is_bracket}
use Rattle.pep_require.specs.Reads.{IsExtra, NamesExtras, none, empty, listed}
use Rattle.pep_require.specs.Requirement.{IsAscending}
use Rattle.pep_require.proofs.Ascending.{Contains-from_IsIn, IsIn-from_Contains, ascending_same}
use Rattle.pep_require.proofs.ExtrasPieces.{all_but, no_blank_extra, no_comma_in_blank}
use Rattle.pep_require.proofs.ExtrasPieces.{no_end_in_blank, no_end_joined, one_extra, one_part}
use Rattle.pep_require.proofs.ExtrasPieces.{parts_joined}

-- where at most one element belongs to each, at most one list belongs to a list
pub AllZip-one : {A B : Type 0} (R : A → B → Type 0) → ((x : A) (r q : B) → R x r → R x q → r ≡ q) →
    (xs : List A) (rs qs : List B) → AllZip R xs rs → AllZip R xs qs → rs ≡ qs
AllZip-one R one [] [] [] z w = refl
AllZip-one R one [] [] (q ∷ qs) z w = absurd w
AllZip-one R one [] (r ∷ rs) qs z w = absurd z
AllZip-one R one (x ∷ xs) [] qs z w = absurd z
AllZip-one R one (x ∷ xs) (r ∷ rs) [] z w = absurd w
AllZip-one R one (x ∷ xs) (r ∷ rs) (q ∷ qs) z w =
    λ i. one x r q z.0 w.0 i ∷ AllZip-one R one xs rs qs z.1 w.1 i

-- ---- between the brackets

no_one_blank : (x : List ℕ) (ns : List (List ℕ)) → list_all is_blank_byte x ≡ true →
    AllZip IsExtra (x ∷ []) ns → ⊥
no_one_blank x [] h z = z
no_one_blank x (n ∷ ns) h z = no_blank_extra x h n z.0

no_blank_names : (x : List ℕ) (ns : List (List ℕ)) → list_all is_blank_byte x ≡ true →
    AllZip IsExtra (slice_split (λ b. b == 44) x) ns → ⊥
no_blank_names x ns h z =
    no_one_blank x ns h
    (subst (λ t. AllZip IsExtra t ns) (one_part x (no_comma_in_blank x h)) z)

one_within : (x : List ℕ) (ns ms : List (List ℕ)) → NamesWithin x ns → NamesWithin x ms →
    ns ≡ ms
one_within x ns ms (no_names h) (no_names g) = refl
one_within x ns ms (no_names h) (some_names z) = absurd (no_blank_names x ms h z)
one_within x ns ms (some_names z) (no_names g) = absurd (no_blank_names x ns g z)
one_within x ns ms (some_names z) (some_names w) =
    AllZip-one IsExtra one_extra (slice_split (λ b. b == 44) x) ns ms z w

-- ---- the brackets

-- in brackets stand these names
pub record Bracketed (x : List ℕ) (named : List (List ℕ)) (rest : List ℕ) : Type 0 where
  pub inner : List ℕ
  pub whole : x ≡ 91 ∷ (inner ++ 93 ∷ rest)
  pub clean : all_but 93 inner ≡ true
  pub within : NamesWithin inner named

bracketed : (x : List ℕ) (named : List (List ℕ)) (rest inner : List ℕ) →
    x ≡ (91 ∷ (inner ++ 93 ∷ [])) ++ rest → all_but 93 inner ≡ true → NamesWithin inner named →
    Bracketed x named rest
bracketed x named rest inner whole clean within = record {
  inner = inner;
  whole = whole ∙ ap (λ t. 91 ∷ t) (append_assoc inner (93 ∷ []) rest);
  clean = clean;
  within = within;
}

names_bracketed : (x written rest : List ℕ) (named : List (List ℕ)) → x ≡ written ++ rest →
    NamesExtras written named → begins is_bracket written ≡ true → Bracketed x named rest
names_bracketed x written rest named whole none e = absurd (cc e)
names_bracketed x written rest named whole (empty space h) e =
    bracketed x [] rest space whole (no_end_in_blank space h) (no_names h)
names_bracketed x written rest named whole (listed {n = n} {ns = ns} piece pieces is are) e =
    bracketed x (n ∷ ns) rest (join_with_byte 44 (piece ∷ pieces)) whole
    (no_end_joined piece n pieces ns is are)
    (some_names (subst (λ t. AllZip IsExtra t (n ∷ ns))
    (sym (parts_joined piece n pieces ns is are)) (is, are)))

abbrev pub tail : List ℕ → List ℕ
tail [] = []
tail (b ∷ x) = x

-- the first `]` ends them
pub one_end : (inner rest own remaining : List ℕ) → all_but 93 inner ≡ true → all_but 93 own ≡ true →
    inner ++ 93 ∷ rest ≡ own ++ 93 ∷ remaining → (inner ≡ own) × (rest ≡ remaining)
one_end inner rest own remaining h g same =
    let p : ℕ → Bool = λ b. not (b == 93) in (
      sym (run-span p inner (93 ∷ rest) h refl) ∙ ap (λ t. take (prefix_len p t) t) same
          ∙ run-span p own (93 ∷ remaining) g refl,
      ap tail (sym (rest-span p inner (93 ∷ rest) h refl) ∙ ap (λ t. drop (prefix_len p t) t) same
          ∙ rest-span p own (93 ∷ remaining) g refl),
    )

one_bracketed : (x rest remaining : List ℕ) (ns ms : List (List ℕ)) → Bracketed x ns rest →
    Bracketed x ms remaining → (ns ≡ ms) × (rest ≡ remaining)
one_bracketed x rest remaining ns ms h g =
    let same = one_end h.inner rest g.inner remaining h.clean g.clean
    (ap tail (sym h.whole ∙ g.whole)) in
    (one_within g.inner ns ms (subst (λ t. NamesWithin t ns) same.0 h.within) g.within, same.1)

-- ---- the extras of a text

-- rising lists of the same names are one list
same_names : (e f named : List (List ℕ)) → IsAscending e → IsAscending f →
    ((n : List ℕ) → Contains e n ↔ Contains named n) →
    ((n : List ℕ) → Contains f n ↔ Contains named n) → e ≡ f
same_names e f named up more h g =
    ascending_same e f up more
    (λ n m. IsIn-from_Contains f n ((g n).1 ((h n).0 (Contains-from_IsIn e n m))))
    (λ n m. IsIn-from_Contains e n ((h n).1 ((g n).0 (Contains-from_IsIn f n m))))

names_none : (written : List ℕ) (named : List (List ℕ)) → NamesExtras written named →
    begins is_bracket written ≡ false → (written ≡ []) × (named ≡ [])
names_none written named none e = (refl, refl)
names_none written named (empty space h) e = absurd (cc e)
names_none written named (listed piece pieces is are) e = absurd (cc e)

-- what is read where no `[` stands in front
unread : (x rest : List ℕ) (e : List (List ℕ)) (h : ExtrasFrom x e rest) →
    begins is_bracket x ≡ false → (rest ≡ x) × (h.reads.named ≡ [])
unread x rest e h off =
    let gone = names_none h.written h.reads.named h.reads.written (sym h.opened ∙ off) in
    (sym (h.whole ∙ ap (λ t. t ++ rest) gone.0), gone.1)

unread_both : (x rest remaining : List ℕ) (e f : List (List ℕ)) (h : ExtrasFrom x e rest)
    (g : ExtrasFrom x f remaining) → begins is_bracket x ≡ false →
    (h.reads.named ≡ g.reads.named) × (rest ≡ remaining)
unread_both x rest remaining e f h g off =
    let own = unread x rest e h off in
    let other = unread x remaining f g off in (own.1 ∙ sym other.1, own.0 ∙ sym other.0)

-- .. and where one stands
pub in_brackets : (x rest : List ℕ) (e : List (List ℕ)) (h : ExtrasFrom x e rest) →
    begins is_bracket x ≡ true → Bracketed x h.reads.named rest
in_brackets x rest e h on =
    names_bracketed x h.written rest h.reads.named h.whole h.reads.written (sym h.opened ∙ on)

pub one_extras : (x rest remaining : List ℕ) (e f : List (List ℕ)) → ExtrasFrom x e rest →
    ExtrasFrom x f remaining → (e ≡ f) × (rest ≡ remaining)
one_extras x rest remaining e f h g =
    let named : (h.reads.named ≡ g.reads.named) × (rest ≡ remaining) =
    by_answer (begins is_bracket x)
    (λ on. one_bracketed x rest remaining h.reads.named g.reads.named (in_brackets x rest e h on)
    (in_brackets x remaining f g on))
    (λ off. unread_both x rest remaining e f h g off) in
    let own : (n : List ℕ) → Contains e n ↔ Contains g.reads.named n =
    subst (λ t. (n : List ℕ) → Contains e n ↔ Contains t n) named.0 h.reads.same in
    (same_names e f g.reads.named h.reads.ascending g.reads.ascending own g.reads.same, named.1)
