use Rattle.std.proofs.Common.{◌∙◌, ◌++◌, List, ap, append_assoc, sym, ℕ}
use Rattle.std.proofs.lemmas.Result.{on_ok_weaker}
use Rattle.pep_version.specs.KeyReading.{behind_place, read_version}
use Rattle.pep_version.specs.Text.{normal_text}
use Rattle.pep_clause.specs.CutView.{CutReadsBack, cut_at, cut_word}
use Rattle.pep_clause.proofs.CutsRead.{IsReadCut, cut_at_rank, read_cut}
use Rattle.pep_clause.proofs.cut.text.put_text_of.Goals as goal

-- what is read of the bytes
found : (bytes : List ℕ) → CutReadsBack bytes → IsReadCut bytes (cut_at bytes)
found bytes h = read_cut bytes (cut_at bytes) h.cut (cut_at_rank bytes) (sym h.bytes_are)

pub put_front-requires : goal.put_front-requires
put_front-requires g c = (found c.args.bytes.now c.requires).0

pub returns-clause-ok : goal.returns-clause-ok
returns-clause-ok g c =
    let bytes = c.args.bytes.now in
    let is = found bytes c.requires in
    let word = c.word.ensures ∙ ap (λ rest. cut_word (behind_place bytes) rest) c.behind_front.ensures in
    let old = g.T.TextOut.written c.args.text.now in
    on_ok_weaker c.put_front.result (λ text told. text told
    ∙ ap (λ (xs : List ℕ). xs ++ normal_text (read_version bytes).0) (c.in_ok-put_str.ensures.ok told)
    ∙ append_assoc old c.word.result.now (normal_text (read_version bytes).0)
    ∙ ap (λ (xs : List ℕ). old ++ xs) (ap (λ (xs : List ℕ). xs ++ normal_text (read_version bytes).0) word ∙ is.1))
    c.put_front.ensures.ok
