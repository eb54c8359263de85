-- Texts that are written part by part.
use Rattle.std.proofs.Common.{◌≡◌, ◌∙◌, ℕ, ◌+◌, ◌<◌, List, [], ◌∷◌, ◌++◌, ap, append-nil, append_assoc, codes, get_or}
use Rattle.std.proofs.Common.{length, map, sym, take}
use Rattle.std.proofs.lemmas.List.{map-append, take_more}
use Rattle.std.proofs.lemmas.List.Concat.{flat_map-append}
use Rattle.std.proofs.lemmas.List.Folds.{concat-append}
use Rattle.std.specs.List.{concat}
use Rattle.std.specs.Prelude.{Vec}
use Rattle.std.specs.declared.alloc.Global.{Global}
use Rattle.pep_table.specs.Way.Printout.{in_blocks, row_text, rows_text}
use Rattle.pep_table.specs.TableText.{kind_lines, line}
use Rattle.pep_table.specs.declared.printout.Row.{Row}

-- a part more
pub one_more : (start front part whole : List ℕ) {old new : List ℕ} → old ≡ start ++ front → new ≡ old ++ part →
    front ++ part ≡ whole → new ≡ start ++ whole
one_more start front part whole o n w =
    n ∙ ap (λ t. t ++ part) o ∙ append_assoc start front part ∙ ap (λ t. start ++ t) w

concat-push : (xs : List (List ℕ)) (x : List ℕ) → concat xs ++ x ≡ concat (xs ++ x ∷ [])
concat-push xs x = ap (λ y. concat xs ++ y) (sym (append-nil x)) ∙ sym (concat-append xs (x ∷ []))

-- the text of one thing more
pub parts_push : {A : Type 0} (f : A → List ℕ) (xs : List A) (i : ℕ) (d : A) → i < length xs →
    concat (map f (take i xs)) ++ f (get_or xs i d) ≡ concat (map f (take (i + 1) xs))
parts_push f xs i d lt =
    concat-push (map f (take i xs)) (f (get_or xs i d))
    ∙ ap concat (sym (map-append f (take i xs) (get_or xs i d ∷ [])))
    ∙ ap (λ l. concat (map f l)) (sym (take_more xs i d lt))

abbrev pub kind_line : List ℕ → List ℕ → List ℕ
kind_line kind text = line (codes "  " ++ kind ++ codes " " ++ text)

-- one line more of a kind
pub lines_push : {A : Type 0} (kind : List ℕ) (f : A → List ℕ) (xs : List A) (i : ℕ) (d : A) → i < length xs →
    kind_lines kind (map f (take i xs)) ++ kind_line kind (f (get_or xs i d))
    ≡ kind_lines kind (map f (take (i + 1) xs))
lines_push kind f xs i d lt =
    let x = get_or xs i d in
    let g = kind_line kind in
    concat-push (map g (map f (take i xs))) (g (f x))
    ∙ ap concat (sym (map-append g (map f (take i xs)) (f x ∷ [])))
    ∙ ap (λ l. concat (map g l)) (sym (map-append f (take i xs) (x ∷ [])))
    ∙ ap (λ l. concat (map g (map f l))) (sym (take_more xs i d lt))

-- ---- rows

-- rows behind rows
pub rows_text-append : (xs ys : List Row) → rows_text (xs ++ ys) ≡ rows_text xs ++ rows_text ys
rows_text-append xs ys =
    ap concat (map-append row_text xs ys) ∙ concat-append (map row_text xs) (map row_text ys)

-- the rows of a block more
pub blocks_push : (blocks : List (Vec Row Global)) (i : ℕ) (d : Vec Row Global) → i < length blocks →
    in_blocks (take i blocks) ++ (get_or blocks i d).items ≡ in_blocks (take (i + 1) blocks)
blocks_push blocks i d lt =
    let b = get_or blocks i d in
    ap (λ l. in_blocks (take i blocks) ++ l) (sym (append-nil b.items))
    ∙ sym (flat_map-append (λ (v : Vec Row Global). v.items) (take i blocks) (b ∷ []))
    ∙ ap in_blocks (sym (take_more blocks i d lt))

-- .. and their lines
pub block_lines : (blocks : List (Vec Row Global)) (i : ℕ) (d : Vec Row Global) → i < length blocks →
    rows_text (in_blocks (take i blocks)) ++ rows_text (get_or blocks i d).items
    ≡ rows_text (in_blocks (take (i + 1) blocks))
block_lines blocks i d lt =
    sym (rows_text-append (in_blocks (take i blocks)) (get_or blocks i d).items)
    ∙ ap rows_text (blocks_push blocks i d lt)
