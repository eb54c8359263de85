-- The two kinds of lines on which a text of its own stands: those of URLs and of demanded texts.
use Rattle.std.specs.Prelude.{ℕ, Bool, List, codes}
use Rattle.specifiers.specs.Clause.{is_demanded_text}
use Rattle.demands.specs.Table.{is_url_text}
use Rattle.pep_table.specs.declared.read.items.TextLines.{TextLines}
use Rattle.pep_table.specs.declared.read.items.TextLines.TheVariants.{Demanded, Urls}

-- the word of the kind
abbrev pub text_word : TextLines → List ℕ
text_word Urls = codes "url"
text_word Demanded = codes "text"

-- whether the text may stand behind it
abbrev pub may_stand : TextLines → List ℕ → Bool
may_stand Urls text = is_url_text text
may_stand Demanded text = is_demanded_text text
