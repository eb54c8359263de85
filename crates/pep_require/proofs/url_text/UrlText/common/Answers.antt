use Rattle.std.proofs.Common.{◌<◌, sym, subst, IsTrue, length}
use Rattle.std.specs.List.{list_all}
use Rattle.pep_require.specs.Reads.{ReadsUrl, is_url_byte}
use Rattle.pep_require.proofs.CommonUrls.{common_bytes, common_is_read, common_is_some}
use Rattle.pep_require.proofs.url_text.UrlText.common.Goals as goal

pub invariant_of-result : goal.invariant_of-result
invariant_of-result c =
    let x = c.args.written.now in
    subst (λ y. (0 < length y) × IsTrue (list_all is_url_byte y)) (sym c.in_ok-from_str.ensures.ok)
    (common_is_some x c.requires, common_bytes x c.requires)

pub returns : goal.returns
returns c =
    let x = c.args.written.now in
    subst (λ y. ReadsUrl x (record { written = y; text = y })) (sym c.in_ok-from_str.ensures.ok)
    (common_is_read x c.requires)
