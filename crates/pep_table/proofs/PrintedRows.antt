-- The rows of a table that is yet to be written.
use Rattle.std.proofs.Common.{◌≡◌, ◌∙◌, ℕ, List, [], ◌∷◌, ◌++◌, ap, append-nil, append_assoc, refl, subst, sym}
use Rattle.pep_marker.specs.Environment.{EnvironmentParts}
use Rattle.pep_marker.specs.Header.{header}
use Rattle.demands.specs.Table.{EntryParts, TableParts}
use Rattle.pep_table.specs.Way.Printout.{row_text, rows_text}
use Rattle.pep_table.specs.TableText.{AreTableLines, IsTableText, Shows, entry_text}
use Rattle.pep_table.specs.declared.printout.Row.{Row}
use Rattle.pep_table.proofs.WrittenParts.{rows_text-append}

-- the lines of the rows, with those of the entries that are left, are the lines of the table
abbrev pub RowsUpTo : TableParts → TableParts → List Row → Type 0
RowsUpTo t left rows = (rest : List ℕ) → AreTableLines left rest → AreTableLines t (rows_text rows ++ rest)

-- no row yet
pub no_rows : (t : TableParts) → RowsUpTo t t []
no_rows t rest h = h

-- a row more
pub one_row_more : (t left more : TableParts) (rows new : List Row) (p : List ℕ × EntryParts) (row : Row) →
    RowsUpTo t left rows → left ≡ p ∷ more → row.name ≡ p.0 → row.finished ≡ p.1 → Shows row.finished row.verdict →
    new ≡ rows ++ row ∷ [] → RowsUpTo t more new
one_row_more t left more rows new p row before is named same shows made rest h =
    let own : row_text row ≡ entry_text p.0 row.verdict p.1 =
    (λ i. entry_text (named i) row.verdict (same i)) in
    let front : AreTableLines (p ∷ more) (row_text row ++ rest) =
    (row.verdict, rest, subst (λ (e : EntryParts). Shows e row.verdict) same shows, h, ap (λ x. x ++ rest) own) in
    let joined : rows_text new ++ rest ≡ rows_text rows ++ (row_text row ++ rest) =
    ap (λ r. rows_text r ++ rest) made
    ∙ ap (λ x. x ++ rest) (rows_text-append rows (row ∷ []) ∙ ap (λ x. rows_text rows ++ x) (append-nil (row_text row)))
    ∙ append_assoc (rows_text rows) (row_text row) rest in
    subst (AreTableLines t) (sym joined)
    (before (row_text row ++ rest) (subst (λ l. AreTableLines l (row_text row ++ rest)) (sym is) front))

-- nothing is left
pub all_rows : (e : EnvironmentParts) (t left : TableParts) (rows : List Row) (front text : List ℕ) →
    RowsUpTo t left rows → left ≡ [] → front ≡ header e → text ≡ front ++ rows_text rows → IsTableText e t text
all_rows e t left rows front text before over is made =
    let lines : AreTableLines t (rows_text rows) =
    subst (AreTableLines t) (append-nil (rows_text rows))
    (before [] (subst (λ l. AreTableLines l []) (sym over) refl)) in
    (rows_text rows, lines, made ∙ ap (λ x. x ++ rows_text rows) is)
