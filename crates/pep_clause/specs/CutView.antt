-- What a contract sees of a cut, which is held as a packed cut or as its bytes: the cut.
use Rattle.std.specs.Prelude.{◌≡◌, ◌==◌, ℕ, List, [], ◌∷◌, codes, if◌then◌else◌}
use Rattle.pep_version.specs.KeyReading.{behind_place, read_version}
use Rattle.pep_version.specs.Version.{Version}
use Rattle.specifiers.specs.Clause.{prefix_of}
use Rattle.pep_clause.specs.Cut.{Cut, IsCut, before, after, past}
use Rattle.pep_clause.specs.CutBytes.{cut_bytes}
use Rattle.pep_clause.specs.declared.cut.Form.{Form}
use Rattle.pep_clause.specs.declared.cut.Form.TheVariants.{Small, Large}

-- the cut before or after a version, by what stands behind its key
abbrev pub beside : Version → List ℕ → Cut
beside v [] = before v
beside v (b ∷ rest) = after v

-- .. or past its release, by what stands behind the release
abbrev pub cut_behind : List ℕ → Version × List ℕ → Cut
cut_behind [] p = beside p.0 p.1
cut_behind (b ∷ rest) p = if b == 0x60 then past (prefix_of p.0) else beside p.0 p.1

-- the word of that cut's text
abbrev pub word_beside : List ℕ → List ℕ
word_beside [] = codes "before "
word_beside (b ∷ rest) = codes "after "

abbrev pub cut_word : List ℕ → List ℕ → List ℕ
cut_word [] rest = word_beside rest
cut_word (b ∷ more) rest = if b == 0x60 then codes "past " else word_beside rest

-- the cut with these bytes; of bytes that no cut has, some cut
abbrev pub cut_at : List ℕ → Cut
cut_at bytes = cut_behind (behind_place bytes) (read_version bytes)

-- the bytes are those of the cut that is read from them, which is in its one spelling
pub record CutReadsBack (bytes : List ℕ) : Type 0 where
  pub cut : IsCut (cut_at bytes)
  pub bytes_are : cut_bytes (cut_at bytes) ≡ bytes

-- the cut in either form
abbrev pub form_cut : Form → Cut
form_cut (Small c) = c
form_cut (Large bytes) = cut_at bytes.value.items

abbrev pub IsForm : Form → Type 0
IsForm (Small c) = IsCut c
IsForm (Large bytes) = CutReadsBack bytes.value.items
