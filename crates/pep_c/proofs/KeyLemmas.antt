-- Texts between zero bytes, and their keys: one text further.
use Rattle.std.proofs.Common.{◌≡◌, ℕ, ◌++◌, List, [], ◌∷◌, map, ap, sym, ◌∙◌, append_assoc, append-nil, refl, subst, ◌==◌}
use Rattle.std.specs.List.{AllZip, concat, slice_split}
use Rattle.std.proofs.lemmas.List.{map-append}
use Rattle.std.proofs.lemmas.List.Elements.{AllZip-push}
use Rattle.std.proofs.lemmas.List.Folds.{concat-append}
use Rattle.pep_c.specs.Keys.{AreKeys, IsKeyIfVersion, framed}

-- the texts before a place have these keys, and `ahead` follows
pub record Taken (texts ahead : List (List ℕ)) (bytes : List ℕ) : Type 0 where
  pub taken : List (List ℕ)
  pub keys : List (List ℕ)
  pub whole : taken ++ ahead ≡ texts
  pub each : AllZip IsKeyIfVersion taken keys
  pub written : bytes ≡ concat (map framed keys)

concat-push : (keys : List (List ℕ)) (key : List ℕ) →
    concat (map framed (keys ++ key ∷ [])) ≡ concat (map framed keys) ++ framed key
concat-push keys key =
    ap concat (map-append framed keys (key ∷ []))
    ∙ concat-append (map framed keys) (framed key ∷ [])
    ∙ ap (λ x. concat (map framed keys) ++ x) (append-nil (framed key))

pub taken_more : (texts ahead : List (List ℕ)) (bytes text key more : List ℕ) →
    Taken texts (text ∷ ahead) bytes → IsKeyIfVersion text key → more ≡ bytes ++ framed key →
    Taken texts ahead more
taken_more texts ahead bytes text key more t is e = record {
  taken = t.taken ++ text ∷ [];
  keys = t.keys ++ key ∷ [];
  whole = append_assoc t.taken (text ∷ []) ahead ∙ t.whole;
  each = AllZip-push IsKeyIfVersion t.taken t.keys text key t.each is;
  written = e ∙ ap (λ x. x ++ framed key) t.written ∙ sym (concat-push t.keys key);
}

pub none_taken : (texts : List (List ℕ)) (bytes : List ℕ) → bytes ≡ [] → Taken texts texts bytes
none_taken texts bytes e =
    record { taken = []; keys = []; whole = refl; each = tt; written = e }

pub all_taken : (x bytes : List ℕ) → Taken (slice_split (λ b. b == 0) x) [] bytes → AreKeys x bytes
all_taken x bytes t = record {
  keys = t.keys;
  each = subst (λ ts. AllZip IsKeyIfVersion ts t.keys) (sym (append-nil t.taken) ∙ t.whole) t.each;
  whole = t.written;
}
