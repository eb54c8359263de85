-- The text of a table, entry by entry.
use Rattle.std.proofs.Common.{◌≡◌, ℕ, List, [], ◌∷◌, ◌++◌}
use Rattle.std.proofs.Common.{refl, sym, ap, subst, ◌∙◌, append-nil, append_assoc}
use Rattle.pep_marker.specs.Environment.{EnvironmentParts}
use Rattle.pep_marker.specs.Header.{header}
use Rattle.demands.specs.declared.verdict.Verdict.{Verdict}
use Rattle.demands.specs.Table.{EntryParts, TableParts}
use Rattle.pep_table.specs.TableText.{AreTableLines, IsTableText, Shows, entry_text}

-- the text x, with the lines of the entries that are left, is the text of the table
abbrev pub PrintsUpTo : EnvironmentParts → TableParts → TableParts → List ℕ → Type 0
PrintsUpTo e t left x = (rest : List ℕ) → AreTableLines left rest → IsTableText e t (x ++ rest)

-- nothing is printed yet but the header
pub none_printed : (e : EnvironmentParts) (t : TableParts) (x : List ℕ) → x ≡ header e →
    PrintsUpTo e t t x
none_printed e t x is rest h = (rest, h, ap (λ y. y ++ rest) is)

-- an entry more
pub one_printed : (e : EnvironmentParts) (t left more : TableParts) (x y : List ℕ)
    (p : List ℕ × EntryParts) (verdict : Verdict) → PrintsUpTo e t left x → left ≡ p ∷ more →
    Shows p.1 verdict → y ≡ x ++ entry_text p.0 verdict p.1 → PrintsUpTo e t more y
one_printed e t left more x y p verdict before is shows made rest h =
    let own = entry_text p.0 verdict p.1 in
    let front : AreTableLines (p ∷ more) (own ++ rest) = (verdict, rest, shows, h, refl) in
    subst (IsTableText e t) (sym (ap (λ z. z ++ rest) made ∙ append_assoc x own rest))
    (before (own ++ rest) (subst (λ l. AreTableLines l (own ++ rest)) (sym is) front))

-- nothing is left
pub all_printed : (e : EnvironmentParts) (t left : TableParts) (x : List ℕ) →
    PrintsUpTo e t left x → left ≡ [] → IsTableText e t x
all_printed e t left x before over =
    subst (IsTableText e t) (append-nil x)
    (before [] (subst (λ l. AreTableLines l []) (sym over) refl))
