-- What the checks of a document come to, and the texts of its arrays.
use Rattle.std.proofs.Common.{◌≡◌, ◌≤◌, ◌<◌, ℕ, suc, ◌+◌, List, [], ◌∷◌, ◌++◌, length, Option, Some}
use Rattle.std.proofs.Common.{None, Result, Ok, Err, IfOk, IfErr, IsUtf8, Bool, true, false, nat_lt}
use Rattle.std.proofs.Common.{refl}
use Rattle.std.proofs.Common.{◌⊎◌, Global, Vec, option_map, inl, inr, arith, ap, sym, ◌∙◌, map}
use Rattle.std.proofs.Common.{take, drop, get_or, Bor, BTreeMap, String, string_bytes, nat_cmp}
use Rattle.std.proofs.lemmas.List.{map-append}
use Rattle.std.specs.BTreeMap.{is_at}
use Rattle.std.specs.Cmp.Lexicographic.{slice_cmp}
use Rattle.std.specs.Map.{lookup}
use Rattle.std.specs.Str.{is_utf8}
use Rattle.std.proofs.lemmas.Str.{IsUtf8-from_is_utf8, is_utf8-from_IsUtf8}
use Rattle.pep_require.proofs.Members.{next_mapped, split_at_index}
use Rattle.toml.specs.Data.{Data, Members, as_str, get_member}
use Rattle.toml.proofs.Views.{table_get}
use Rattle.toml.specs.View.{items_of, items_view, table_view, view}
use Rattle.toml.specs.declared.value.Value.{Value}
use Rattle.toml.specs.Parse.{parse_document}
use Rattle.faults.specs.declared.fault.Cause.{Cause}
use Rattle.faults.specs.declared.fault.Cause.TheVariants as cause
use Rattle.documents.specs.Document.{document_of, required, texts_at, texts_of}
use Rattle.documents.specs.Document.{texts_of_items, with_text}
use Rattle.documents.specs.Nesting.{is_shallow}
use Rattle.documents.specs.Texts.{lent_texts}

-- ---- the checks of bytes

small : (bytes : List ℕ) → length bytes ≤ 16777216 → nat_lt 16777216 (length bytes) ≡ false
small bytes h = grind arith

large : (bytes : List ℕ) → 16777216 < length bytes → nat_lt 16777216 (length bytes) ≡ true
large bytes h = grind arith

no_text : (bytes : List ℕ) → ¬ IsUtf8 bytes → is_utf8 bytes ≡ false
no_text bytes h = by (is_utf8 bytes) refl
  where
    by : (b : Bool) → is_utf8 bytes ≡ b → b ≡ false
    by true e = absurd (h (IsUtf8-from_is_utf8 bytes e))
    by false e = refl

pub document_of-text : (bytes : List ℕ) (ms : Members) → length bytes ≤ 16777216 → IsUtf8 bytes →
    is_shallow bytes ≡ true → parse_document bytes ≡ Some ms → document_of bytes ≡ Ok ms
document_of-text bytes ms h text shallow e =
    rw (small bytes h, is_utf8-from_IsUtf8 bytes text, shallow, e) refl

pub document_of-deep : (bytes : List ℕ) → length bytes ≤ 16777216 → IsUtf8 bytes →
    is_shallow bytes ≡ false → document_of bytes ≡ Err cause.NotToml
document_of-deep bytes h text deep = rw (small bytes h, is_utf8-from_IsUtf8 bytes text, deep) refl

pub document_of-no_toml : (bytes : List ℕ) → length bytes ≤ 16777216 → IsUtf8 bytes →
    is_shallow bytes ≡ true → parse_document bytes ≡ None →
    document_of bytes ≡ Err cause.NotToml
document_of-no_toml bytes h text shallow e =
    rw (small bytes h, is_utf8-from_IsUtf8 bytes text, shallow, e) refl

-- a shallow document is what the reader of TOML makes of it
pub document_of-shallow : (bytes : List ℕ) → length bytes ≤ 16777216 → IsUtf8 bytes →
    is_shallow bytes ≡ true → document_of bytes ≡ required cause.NotToml (parse_document bytes)
document_of-shallow bytes h text shallow =
    rw (small bytes h, is_utf8-from_IsUtf8 bytes text, shallow) refl

-- .. and bytes that aren't the text of a file are refused as `file_text` says
pub document_of-no_file : (bytes : List ℕ) (c : Cause) →
    ((c ≡ cause.TooLarge) × (16777216 < length bytes))
    ⊎ ((c ≡ cause.NotUtf8) × (length bytes ≤ 16777216) × ¬ IsUtf8 bytes) → document_of bytes ≡ Err c
document_of-no_file bytes c (inl h) = rw (large bytes h.1, h.0) refl
document_of-no_file bytes c (inr h) = rw (small bytes h.1, no_text bytes h.2, h.0) refl

-- ---- the texts of an array

-- one text more, behind the others
abbrev behind : Option (List (List ℕ)) → Option (List ℕ) → Option (List (List ℕ))
behind (Some xs) (Some x) = Some (xs ++ x ∷ [])
behind _ _ = None

behind_first : (x : Option (List ℕ)) → with_text x (Some []) ≡ behind (Some []) x
behind_first (Some x) = refl
behind_first None = refl

behind_with : (y : Option (List ℕ)) (xs : Option (List (List ℕ))) (x : Option (List ℕ)) →
    with_text y (behind xs x) ≡ behind (with_text y xs) x
behind_with (Some y) (Some xs) (Some x) = refl
behind_with (Some y) (Some xs) None = refl
behind_with (Some y) None x = refl
behind_with None xs x = refl

texts_behind : (ds : List Data) (d : Data) →
    texts_of_items (items_of (ds ++ d ∷ [])) ≡ behind (texts_of_items (items_of ds)) (as_str d)
texts_behind [] d = behind_first (as_str d)
texts_behind (e ∷ ds) d =
    ap (with_text (as_str e)) (texts_behind ds d)
    ∙ behind_with (as_str e) (texts_of_items (items_of ds)) (as_str d)

with_none : (y : Option (List ℕ)) → with_text y None ≡ None
with_none (Some y) = refl
with_none None = refl

no_text_at : (ds more : List Data) (d : Data) → as_str d ≡ None →
    texts_of_items (items_of (ds ++ d ∷ more)) ≡ None
no_text_at [] more d e = rw e refl
no_text_at (f ∷ ds) more d e =
    ap (with_text (as_str f)) (no_text_at ds more d e) ∙ with_none (as_str f)

-- the values are these texts
abbrev pub AreTexts : List Value → List (Bor (List ℕ)) → Type 0
AreTexts values texts = texts_of_items (items_view values) ≡ Some (lent_texts texts)

pub text_more : (values : List Value) (k : ℕ) (v : Value) (texts : List (Bor (List ℕ)))
    (t : Bor (List ℕ)) → v ≡ get_or values k v → k < length values →
    AreTexts (take k values) texts → as_str (view v) ≡ Some t.now →
    AreTexts (take (k + 1) values) (texts ++ t ∷ [])
text_more values k v texts t is lt done e =
    ap (λ ds. texts_of_items (items_of ds)) (next_mapped view values k v is lt)
    ∙ texts_behind (map view (take k values)) (view v)
    ∙ rw (done, e) refl
    ∙ ap Some (sym (map-append (λ b. b.now) texts (t ∷ [])))

pub text_missing : (values : List Value) (k : ℕ) (v : Value) → v ≡ get_or values k v →
    k < length values → as_str (view v) ≡ None → texts_of_items (items_view values) ≡ None
text_missing values k v is lt e =
    ap (λ ds. texts_of_items (items_of ds)) (ap (map view) (split_at_index values k v is lt)
    ∙ map-append view (take k values) (v ∷ drop (suc k) values))
    ∙ no_text_at (map view (take k values)) (map view (drop (suc k) values)) (view v) e

-- ---- the array at a key

-- what `get` of a table tells of what it found
abbrev Finds : List ℕ → BTreeMap (String Global) Value → Option (Bor Value) → Type 0
Finds key m r =
    option_map (λ v. v.now) r ≡ lookup (is_at (λ k. slice_cmp nat_cmp key (string_bytes k))) m.entries

at_any_key : (key : List ℕ) (m : BTreeMap (String Global) Value) (r o : Option (Bor Value)) →
    r ≡ o → Finds key m r → get_member key (table_view m) ≡ option_map (λ v. view v.now) o
at_any_key key m r o is found =
    sym (table_get r key m.entries found) ∙ ap (option_map (λ v. view v.now)) is

pub at_key : (key : List ℕ) (m : BTreeMap (String Global) Value) (r : Option (Bor Value))
    (v : Bor Value) → r ≡ Some v → Finds key m r →
    get_member key (table_view m) ≡ Some (view v.now)
at_key key m r v is found = at_any_key key m r (Some v) is found

pub at_no_key : (key : List ℕ) (m : BTreeMap (String Global) Value) (r : Option (Bor Value)) →
    r ≡ None → Finds key m r → get_member key (table_view m) ≡ None
at_no_key key m r is found = at_any_key key m r None is found

pub texts_at-ok : (key : List ℕ) (m : BTreeMap (String Global) Value)
    (t : Result (Vec (Bor (List ℕ)) Global) Cause) (r : Option (Bor Value)) (v : Bor Value) →
    r ≡ Some v → Finds key m r →
    IfOk t (λ texts. texts_of (view v.now) ≡ Some (lent_texts texts.items)) →
    IfOk t (λ texts. texts_at key (table_view m) ≡ Ok (lent_texts texts.items))
texts_at-ok key m (Ok texts) r v is found h = rw (at_key key m r v is found, h) refl
texts_at-ok key m (Err c) r v is found h = tt

pub texts_at-refused : (key : List ℕ) (m : BTreeMap (String Global) Value)
    (t : Result (Vec (Bor (List ℕ)) Global) Cause) (r : Option (Bor Value)) (v : Bor Value) →
    r ≡ Some v → Finds key m r →
    IfErr t (λ c. (c ≡ cause.NoMemory) ⊎ ((c ≡ cause.WrongShape)
    × (texts_of (view v.now) ≡ None))) →
    IfErr t (λ c. (c ≡ cause.NoMemory) ⊎ (texts_at key (table_view m) ≡ Err c))
texts_at-refused key m (Ok texts) r v is found h = tt
texts_at-refused key m (Err c) r v is found (inl memory) = inl memory
texts_at-refused key m (Err c) r v is found (inr h) =
    inr (rw (at_key key m r v is found, h.1, h.0) refl)

pub texts_at-missing : (key : List ℕ) (m : BTreeMap (String Global) Value) (r : Option (Bor Value))
    (texts : List (Bor (List ℕ))) → r ≡ None → Finds key m r → texts ≡ [] →
    texts_at key (table_view m) ≡ Ok (lent_texts texts)
texts_at-missing key m r texts is found none = rw (at_no_key key m r is found, none) refl
