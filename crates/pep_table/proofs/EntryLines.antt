-- The lines of an entry: its head, what is demanded besides versions, and the ranges.
use Rattle.std.proofs.Common.{◌≡◌, ◌++◌, ℕ, List, ap, append_assoc, codes, map, sym, ◌∙◌}
use Rattle.demands.specs.Way.Finished.{other_parts}
use Rattle.demands.specs.Way.Others.{OtherParts}
use Rattle.demands.specs.Table.{EntryParts}
use Rattle.demands.specs.Verdict.{verdict_word}
use Rattle.demands.specs.declared.verdict.Verdict.{Verdict}
use Rattle.pep_table.specs.TableText.{entry_text, kind_lines, line, other_lines, range_text}

abbrev pub head_line : List ℕ → Verdict → List ℕ
head_line name w = line (name ++ codes " " ++ verdict_word w)

-- ---- what is demanded besides versions

pub three_kinds : (old first second new x y z : List ℕ) → first ≡ old ++ x → second ≡ first ++ y →
    new ≡ second ++ z → new ≡ old ++ ((x ++ y) ++ z)
three_kinds old first second new x y z e f g =
    g ∙ ap (λ l. l ++ z) (f ∙ ap (λ l. l ++ y) e ∙ append_assoc old x y) ∙ append_assoc old (x ++ y) z

-- ---- all of them

pub entry_lines : (name : List ℕ) (w : Verdict) (e : EntryParts) (others : OtherParts) → others ≡ other_parts e →
    (old head mid new : List ℕ) → head ≡ old ++ head_line name w → mid ≡ head ++ other_lines others →
    new ≡ mid ++ kind_lines (codes "range") (map range_text e.versions) → new ≡ old ++ entry_text name w e
entry_lines name w e others same old head mid new f g h =
    let top = head_line name w in
    let x = kind_lines (codes "extra") e.extras in
    let y = kind_lines (codes "url") e.urls in
    let z = kind_lines (codes "text") e.texts in
    let r = kind_lines (codes "range") (map range_text e.versions) in
    let front : mid ≡ old ++ (((top ++ x) ++ y) ++ z) =
    g ∙ ap (λ l. l ++ other_lines others) f ∙ ap (λ o. (old ++ top) ++ other_lines o) same
    ∙ append_assoc old top ((x ++ y) ++ z) ∙ ap (λ l. old ++ l) (sym (append_assoc top (x ++ y) z))
    ∙ ap (λ l. old ++ (l ++ z)) (sym (append_assoc top x y)) in
    h ∙ ap (λ l. l ++ r) front ∙ append_assoc old (((top ++ x) ++ y) ++ z) r
