-- The reading of a pre-release and all parts behind it, from their spellings.
use Rattle.std.proofs.Common.{lit≤, ◌≤◌, ◌≡◌, ◌==◌, ℕ, List, [], ◌∷◌, ◌++◌, Option, Some, None}
use Rattle.std.proofs.Common.{true, false, refl, sym, ap, append-nil, subst, ◌∙◌, arith, inl, inr}
use Rattle.std.specs.Char.{is_ascii_digit}
use Rattle.pep_version.specs.declared.parts.Phase.{Phase}
use Rattle.pep_version.specs.declared.parts.Phase.TheVariants.{Alpha, Beta, Rc}
use Rattle.pep_version.specs.Version.{Segment}
use Rattle.pep_version.specs.Spelling.{DevSpelling, ImplicitPostSpelling, IsOneOf}
use Rattle.pep_version.specs.Spelling.{IsOptionalSeparator, LabelSpelling, PostSpelling}
use Rattle.pep_version.specs.Spelling.{PreSpelling, WordAndNumber, dev_words, ends_in_letter}
use Rattle.pep_version.specs.Spelling.{post_words, pre_words}
use Rattle.pep_version.proofs.Words.{letters-plain, pre-letters}
use Rattle.pep_version.proofs.Readers.{before-gone, dev-plain, left, may_follow, not-c, not-e}
use Rattle.pep_version.proofs.Readers.{post-plain, tail-follows}
use Rattle.pep_version.proofs.Tails.{Bare, Tail, Worded, digits-start, implicit-read, label-plain}
use Rattle.pep_version.proofs.Tails.{opens, tail-at, tail-at-label, tail-dev, tail-number}
use Rattle.pep_version.proofs.Tails.{whole-of, worded-read}
use Rattle.pep_version.specs.Way.Reading.{behind_phase, pre_taken, read_post_dev, read_pre, read_suffix}
use Rattle.pep_version.specs.Way.Reading.{starts_digit, table, with_phase, without_separator}

not-l : (b : ℕ) (rest : List ℕ) → may_follow (b ∷ rest) ≡ true → (108 == b) ≡ false
not-l b rest f = grind arith

not-v : (b : ℕ) (rest : List ℕ) → may_follow (b ∷ rest) ≡ true → (118 == b) ≡ false
not-v b rest f = grind arith

found-pre : (phase : Phase) (letters text : List ℕ) → IsOneOf (pre_words phase) letters →
    may_follow text ≡ true → behind_phase table (letters ++ text) ≡ Some (phase, text)
found-pre Alpha letters [] (inl e) f = rw e refl
found-pre Alpha letters (b ∷ text) (inl e) f = rw e (rw (not-l b text f) refl)
found-pre Alpha letters text (inr (inl e)) f = rw e refl
found-pre Alpha letters text (inr (inr h)) f = absurd h
found-pre Beta letters [] (inl e) f = rw e refl
found-pre Beta letters (b ∷ text) (inl e) f = rw e (rw (not-e b text f) refl)
found-pre Beta letters text (inr (inl e)) f = rw e refl
found-pre Beta letters text (inr (inr h)) f = absurd h
found-pre Rc letters text (inl e) f = rw e refl
found-pre Rc letters text (inr (inl e)) f = rw e refl
found-pre Rc letters [] (inr (inr (inl e))) f = rw e refl
found-pre Rc letters (b ∷ text) (inr (inr (inl e))) f = rw e (rw (not-v b text f) refl)
found-pre Rc letters text (inr (inr (inr (inl e)))) f = rw e refl
found-pre Rc letters text (inr (inr (inr (inr h)))) f = absurd h

pre-gone : (phase : Phase) (before letters text : List ℕ) → IsOptionalSeparator before →
    IsOneOf (pre_words phase) letters → without_separator (before ++ (letters ++ text)) ≡ letters
    ++ text
pre-gone phase =
    before-gone (pre_words phase)
    (λ letters text one. letters-plain letters text (pre-letters phase letters one).0)

pre-worded : (phase : Phase) (text rest : List ℕ) (n : ℕ)
    (p : WordAndNumber (pre_words phase) text n) → may_follow rest ≡ true →
    starts_digit rest ≡ false
    → (Bare p.after p.digits → starts_digit (without_separator rest) ≡ false) →
    read_pre (text ++ rest) ≡ (Some (phase, n), left p.after p.digits rest)
pre-worded phase text rest n p f s t =
    let start =
    pre-gone phase p.before p.letters (p.after ++ (p.digits
    ++ rest)) p.before_is p.letters_is in
    let found =
    found-pre phase p.letters (p.after ++ (p.digits ++ rest)) p.letters_is
    (tail-follows p.after p.digits rest n p.after_is p.digits_is f) in
    let at : behind_phase table (without_separator (text ++ rest))
    ≡ Some (phase, p.after ++ (p.digits ++ rest)) =
    ap (λ (x : List ℕ). behind_phase table (without_separator x))
    (whole-of (pre_words phase) text rest n p) ∙ ap (behind_phase table) start ∙ found in
    let numbered = tail-number p.after p.digits rest n p.after_is p.digits_is s t in
    (λ i. pre_taken (at i) (text ++ rest)) ∙ λ i. with_phase phase (numbered i) (text ++ rest)

-- ---- no pre-release

none-at-post : (letters text : List ℕ) → IsOneOf post_words letters → may_follow text ≡ true →
    behind_phase table (letters ++ text) ≡ None
none-at-post letters text (inl e) f = rw e refl
none-at-post letters text (inr (inl e)) f = rw e refl
none-at-post letters [] (inr (inr (inl e))) f = rw e refl
none-at-post letters (b ∷ text) (inr (inr (inl e))) f = rw e (rw (not-c b text f) refl)
none-at-post letters text (inr (inr (inr h))) f = absurd h

none-at-dev : (letters text : List ℕ) → IsOneOf dev_words letters →
    behind_phase table (letters ++ text) ≡ None
none-at-dev letters text (inl e) = rw e refl
none-at-dev letters text (inr h) = absurd h

none-at-label : (text : List ℕ) (label : List Segment) → LabelSpelling text label →
    behind_phase table text ≡ None
none-at-label [] label l = refl
none-at-label (b ∷ text) label l = rw l.0 refl

no-letter : (x n : ℕ) → is_ascii_digit x ≡ true → 58 ≤ n → (n == x) ≡ false
no-letter x n d h = grind arith

none-at-digit : (text : List ℕ) → starts_digit text ≡ true → behind_phase table text ≡ None
none-at-digit [] s = refl
none-at-digit (x ∷ rest) s =
    rw (
      no-letter x 97 s (lit≤ tt),
      no-letter x 98 s (lit≤ tt),
      no-letter x 112 s (lit≤ tt),
      no-letter x 114 s (lit≤ tt),
      no-letter x 99 s (lit≤ tt),
    ) refl

none-taken : (text : List ℕ) → behind_phase table (without_separator text) ≡ None →
    read_pre text ≡ (None, text)
none-taken text e = λ i. pre_taken (e i) text

no-pre-worded : (pre post dev rest : List ℕ) (vpost vdev : Option ℕ) (label : List Segment) →
    Worded pre post vpost → DevSpelling dev vdev → LabelSpelling rest label
    → read_pre (post ++ (dev ++ rest)) ≡ (None, post ++ (dev ++ rest))
no-pre-worded pre post dev rest None None label p d l =
    let plain : read_pre rest ≡ (None, rest) =
    none-taken rest (ap (behind_phase table) (label-plain rest label l)
    ∙ none-at-label rest label l) in
    rw (p, d) plain
no-pre-worded pre post dev rest None (Some n) label p d l =
    let o = opens dev_words dev rest n d (tail-at-label rest label l).follows in
    let once =
    ap without_separator o.pieces
    ∙ before-gone dev_words dev-plain o.before o.letters o.behind_it o.before_is o.letters_is in
    let plain : read_pre (dev ++ rest) ≡ (None, dev ++ rest) =
    none-taken (dev ++ rest) (ap (behind_phase table) once
    ∙ none-at-dev o.letters o.behind_it o.letters_is) in
    rw p plain
no-pre-worded pre post dev rest (Some n) vdev label p d l =
    let o = opens post_words post (dev ++ rest) n p (tail-dev dev rest vdev label d l).follows in
    let once =
    ap without_separator o.pieces
    ∙ before-gone post_words post-plain o.before o.letters o.behind_it o.before_is o.letters_is
    in
    none-taken (post ++ (dev ++ rest)) (ap (behind_phase table) once
    ∙ none-at-post o.letters o.behind_it o.letters_is o.follows)

no-pre-implicit : (pre post dev rest : List ℕ) (n : ℕ) → ImplicitPostSpelling pre post n →
    read_pre (post ++ (dev ++ rest)) ≡ (None, post ++ (dev ++ rest))
no-pre-implicit pre post dev rest n p =
    let starts = digits-start p.digits (dev ++ rest) p.digits_is.0 in
    none-taken (post ++ (dev ++ rest)) (ap (λ (x : List ℕ).
    behind_phase table (without_separator (x ++ (dev ++ rest)))) p.pieces
    ∙ none-at-digit (p.digits ++ (dev ++ rest)) starts)

-- ---- a bare word ends in a letter

ends-behind : (c : ℕ) (xs : List ℕ) → ends_in_letter xs ≡ true → ends_in_letter (c ∷ xs) ≡ true
ends-behind c [] h = cc h
ends-behind c (x ∷ xs) h = h

bare-ends : (phase : Phase) (before letters after digits : List ℕ) → IsOptionalSeparator before →
    IsOneOf (pre_words phase) letters → Bare after digits
    → ends_in_letter (before ++ (letters ++ (after ++ (digits ++ [])))) ≡ true
bare-ends phase before letters [] (d ∷ digits) b l h = absurd h
bare-ends phase before letters (c ∷ after) digits b l h = absurd h
bare-ends phase (c ∷ d ∷ before) letters [] [] b l h = absurd b
bare-ends phase [] letters [] [] b l h = rw (append-nil letters) (pre-letters phase letters l).1
bare-ends phase (c ∷ []) letters [] [] b l h =
    rw (append-nil letters) (ends-behind c letters (pre-letters phase letters l).1)

-- ---- all parts behind the release

left-worded : (after digits pre post dev rest : List ℕ) (vpost vdev : Option ℕ)
    (label : List Segment) → Worded pre post vpost → DevSpelling dev vdev → LabelSpelling rest label
    → read_post_dev (left after digits (post ++ (dev ++ rest))) ≡ (vpost, (vdev, rest))
left-worded [] [] pre post dev rest vpost vdev label p d l =
    (worded-read pre post dev rest vpost vdev label p d l).1
left-worded [] (x ∷ digits) pre post dev rest vpost vdev label p d l =
    (worded-read pre post dev rest vpost vdev label p d l).0
left-worded (b ∷ after) digits pre post dev rest vpost vdev label p d l =
    (worded-read pre post dev rest vpost vdev label p d l).0

pub tail-worded : (pre post dev rest : List ℕ) (vpost vdev : Option ℕ) (label : List Segment) →
    Worded pre post vpost → DevSpelling dev vdev → LabelSpelling rest label →
    Tail (post ++ (dev ++ rest))
tail-worded pre post dev rest None vdev label p d l = rw p (tail-dev dev rest vdev label d l)
tail-worded pre post dev rest (Some n) vdev label p d l =
    let o = opens post_words post (dev ++ rest) n p (tail-dev dev rest vdev label d l).follows in
    subst Tail (sym o.pieces)
    (tail-at post_words refl o.before o.letters o.behind_it o.before_is o.letters_is)

suffix-worded : (pre post dev rest : List ℕ) (vpre : Option (Phase
    × ℕ)) (vpost vdev : Option ℕ) (label : List Segment) → PreSpelling pre vpre →
    Worded pre post vpost → DevSpelling dev vdev → LabelSpelling rest label
    → read_suffix (pre ++ (post ++ (dev ++ rest))) ≡ (vpre, (vpost, (vdev, rest)))
suffix-worded pre post dev rest None vpost vdev label e p d l =
    let none = no-pre-worded pre post dev rest vpost vdev label p d l in
    let others = (worded-read pre post dev rest vpost vdev label p d l).0 in
    let plain : read_suffix (post ++ (dev ++ rest)) ≡ (None, (vpost, (vdev, rest))) =
    (λ i. ((none i).0, read_post_dev (none i).1)) ∙ λ i. (None, others i) in
    rw e plain
suffix-worded pre post dev rest (Some q) vpost vdev label e p d l =
    let t = tail-worded pre post dev rest vpost vdev label p d l in
    let some =
    pre-worded q.0 pre (post ++ (dev ++ rest)) q.1 e t.follows t.no_digit
    (λ _. t.no_digit_behind) in
    let others = left-worded e.after e.digits pre post dev rest vpost vdev label p d l in
    (λ i. ((some i).0, read_post_dev (some i).1)) ∙ λ i. (Some q, others i)

left-kept : (after digits text : List ℕ) → (Bare after digits → ⊥) → left after digits text ≡ text
left-kept [] [] text h = absurd (h tt)
left-kept [] (x ∷ digits) text h = refl
left-kept (b ∷ after) digits text h = refl

suffix-implicit : (pre post dev rest : List ℕ) (vpre : Option (Phase
    × ℕ)) (n : ℕ) (vdev : Option ℕ) (label : List Segment) → PreSpelling pre vpre →
    ImplicitPostSpelling pre post n → DevSpelling dev vdev → LabelSpelling rest label
    → read_suffix (pre ++ (post ++ (dev ++ rest))) ≡ (vpre, (Some n, (vdev, rest)))
suffix-implicit pre post dev rest None n vdev label e p d l =
    let none = no-pre-implicit pre post dev rest n p in
    let others = implicit-read pre post dev rest n vdev label p d l in
    let plain : read_suffix (post ++ (dev ++ rest)) ≡ (None, (Some n, (vdev, rest))) =
    (λ i. ((none i).0, read_post_dev (none i).1)) ∙ λ i. (None, others i) in
    rw e plain
suffix-implicit pre post dev rest (Some q) n vdev label e p d l =
    let ends : Bare e.after e.digits → ends_in_letter pre ≡ true =
    λ h. ap ends_in_letter e.pieces
    ∙ bare-ends q.0 e.before e.letters e.after e.digits e.before_is e.letters_is h in
    let never : Bare e.after e.digits → ⊥ = λ h. cc (ends h, p.after_no_bare_word) in
    let shape : post ++ (dev ++ rest) ≡ 45 ∷ (p.digits ++ (dev ++ rest)) =
    ap (λ (x : List ℕ). x ++ (dev ++ rest)) p.pieces in
    let follows : may_follow (post ++ (dev ++ rest)) ≡ true = ap may_follow shape in
    let no_digit : starts_digit (post ++ (dev ++ rest)) ≡ false = ap starts_digit shape in
    let some =
    pre-worded q.0 pre (post ++ (dev ++ rest)) q.1 e follows no_digit (λ h. absurd (never h)) in
    let others =
    ap read_post_dev (left-kept e.after e.digits (post ++ (dev ++ rest)) never)
    ∙ implicit-read pre post dev rest n vdev label p d l in
    (λ i. ((some i).0, read_post_dev (some i).1)) ∙ λ i. (Some q, others i)

pub suffix-read : (pre post dev rest : List ℕ) (vpre : Option (Phase
    × ℕ)) (vpost vdev : Option ℕ) (label : List Segment) → PreSpelling pre vpre →
    PostSpelling pre post vpost → DevSpelling dev vdev → LabelSpelling rest label
    → read_suffix (pre ++ (post ++ (dev ++ rest))) ≡ (vpre, (vpost, (vdev, rest)))
suffix-read pre post dev rest vpre None vdev label e p d l =
    suffix-worded pre post dev rest vpre None vdev label e p d l
suffix-read pre post dev rest vpre (Some n) vdev label e (inl p) d l =
    suffix-worded pre post dev rest vpre (Some n) vdev label e p d l
suffix-read pre post dev rest vpre (Some n) vdev label e (inr p) d l =
    suffix-implicit pre post dev rest vpre n vdev label e p d l
