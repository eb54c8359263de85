use Rattle.std.proofs.Common.{◌≡◌, ℕ, ◌<◌, ◌≤◌, ◌==◌, not, arith}
use Rattle.std.specs.Prelude.{nat_lt}
use Rattle.std.proofs.lemmas.Bool.Decides.{nat_tests}
use Rattle.texts.specs.Bytes.{is_letter_or_digit, is_name_byte}
use Rattle.pep_marker.specs.Marker.{is_word_byte}
use Rattle.pep_marker.proofs.token.is_word_byte.Goals as goal

-- the bytes of names but for `-` are those of words
named : (b form : ℕ) → nat_lt 44 form ≡ is_name_byte b → 44 < form → not (b == 45) ≡ is_word_byte b
unfolding is_letter_or_digit
named b form e lt = grind (arith, nat_tests, e, lt)

not_named : (b form : ℕ) → nat_lt 44 form ≡ is_name_byte b → form ≤ 44 → nat_lt 44 form ≡ is_word_byte b
unfolding is_letter_or_digit
not_named b form e le = grind (arith, nat_tests, e, le)

pub returns-then-form_of-gt44 : goal.returns-then-form_of-gt44
returns-then-form_of-gt44 c =
    named c.args.b c.form_of.result c.form_of.ensures.name c.if-form_of-gt44.true

pub returns-else-form_of-gt44 : goal.returns-else-form_of-gt44
returns-else-form_of-gt44 c =
    not_named c.args.b c.form_of.result c.form_of.ensures.name c.if-form_of-gt44.false
