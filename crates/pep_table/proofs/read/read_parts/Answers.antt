use Rattle.std.proofs.Common.{codes, refl, subst, sym}
use Rattle.pep_require.proofs.Exits.{further, handed_on}
use Rattle.pep_marker.specs.Name.{IsNormalName}
use Rattle.pep_table.proofs.ReadParts.{IsDemanded, IsUrl, no_extras, no_ranges, no_texts, no_urls}
use Rattle.pep_table.proofs.ReadParts.{parts_read}
use Rattle.pep_table.proofs.ToldLines.{front_more, halts_so, kind_front_in}
use Rattle.pep_table.specs.Way.EntryReading.{HasParts}
use Rattle.pep_table.proofs.read.read_parts.Goals as goal

pub returns-in_err-extras-clause-refused : goal.returns-in_err-extras-clause-refused
returns-in_err-extras-clause-refused c =
    handed_on _ c.from_residual.result _ c.from_residual.ensures.1
    (further (no_extras c.args.text.now) c.in_err-extras.ensures.refused)

pub returns-in_err-urls-clause-refused : goal.returns-in_err-urls-clause-refused
returns-in_err-urls-clause-refused c =
    let (front, are) = c.in_ok-extras.ensures.ok in
    handed_on _ c.from_residual-in_err-urls.result _ c.from_residual-in_err-urls.ensures.1
    (further (no_urls c.args.text.now c.in_ok-extras.extras c.in_ok-extras.rest.now front are)
    c.in_err-urls.ensures.refused)

pub returns-in_err-texts-clause-refused : goal.returns-in_err-texts-clause-refused
returns-in_err-texts-clause-refused c =
    let (front, are) = c.in_ok-extras.ensures.ok in
    let (urls, are_urls) = c.in_ok-urls.ensures.ok in
    handed_on _ c.from_residual-in_err-texts.result _ c.from_residual-in_err-texts.ensures.1
    (further (no_texts c.args.text.now c.in_ok-extras.extras c.in_ok-extras.rest.now front are
    c.in_ok-urls.urls c.in_ok-urls.rest.now urls are_urls) c.in_err-texts.ensures.refused)

pub returns-in_err-versions-clause-refused : goal.returns-in_err-versions-clause-refused
returns-in_err-versions-clause-refused c =
    let (front, are) = c.in_ok-extras.ensures.ok in
    let (urls, are_urls) = c.in_ok-urls.ensures.ok in
    let (texts, are_texts) = c.in_ok-texts.ensures.ok in
    handed_on _ c.from_residual-in_err-versions.result _ c.from_residual-in_err-versions.ensures.1
    (further (no_ranges c.args.text.now c.in_ok-extras.extras c.in_ok-extras.rest.now front are
    c.in_ok-urls.urls c.in_ok-urls.rest.now urls are_urls c.in_ok-texts.texts
    c.in_ok-texts.rest.now texts are_texts) c.in_err-versions.ensures.refused)

pub returns-clause-ok : goal.returns-clause-ok
returns-clause-ok c =
    let (front, are) = c.in_ok-extras.ensures.ok in
    let (urls, are_urls) = c.in_ok-urls.ensures.ok in
    let (texts, are_texts) = c.in_ok-texts.ensures.ok in
    let (ranges, normal) = c.in_ok-versions.ensures.ok in
    subst (λ e. HasParts c.args.text.now e c.in_ok-versions.rest.now) (sym c.of.ensures)
    (parts_read c.args.text.now c.in_ok-extras.extras c.in_ok-extras.rest.now front are
    c.in_ok-urls.urls c.in_ok-urls.rest.now urls are_urls c.in_ok-texts.texts
    c.in_ok-texts.rest.now texts are_texts c.in_ok-versions.versions c.in_ok-versions.rest.now
    ranges normal)

pub returns-in_err-extras-clause-stops : goal.returns-in_err-extras-clause-stops
returns-in_err-extras-clause-stops c =
    handed_on _ c.from_residual.result _ c.from_residual.ensures.1
    (halts_so _ _ (kind_front_in (codes "extra") refl c.args.text.now) c.in_err-extras.field-0.0
    c.in_err-extras.ensures.stops)

pub returns-in_err-urls-clause-stops : goal.returns-in_err-urls-clause-stops
returns-in_err-urls-clause-stops c =
    let text = c.args.text.now in
    let first = c.in_ok-extras.rest.now in
    let (front, are) = c.in_ok-extras.ensures.ok in
    handed_on _ c.from_residual-in_err-urls.result _ c.from_residual-in_err-urls.ensures.1
    (halts_so _ _ (λ left h. front_more IsNormalName (codes "extra") refl text first c.in_ok-extras.extras front
    are left (kind_front_in (codes "url") refl first left h)) c.in_err-urls.field-0.0
    c.in_err-urls.ensures.stops)

pub returns-in_err-texts-clause-stops : goal.returns-in_err-texts-clause-stops
returns-in_err-texts-clause-stops c =
    let text = c.args.text.now in
    let first = c.in_ok-extras.rest.now in
    let second = c.in_ok-urls.rest.now in
    let (front, are) = c.in_ok-extras.ensures.ok in
    let (urls, are_urls) = c.in_ok-urls.ensures.ok in
    handed_on _ c.from_residual-in_err-texts.result _ c.from_residual-in_err-texts.ensures.1
    (halts_so _ _ (λ left h. front_more IsNormalName (codes "extra") refl text first c.in_ok-extras.extras front
    are left (front_more IsUrl (codes "url") refl first second c.in_ok-urls.urls urls are_urls left
    (kind_front_in (codes "text") refl second left h))) c.in_err-texts.field-0.0
    c.in_err-texts.ensures.stops)

pub returns-in_err-versions-clause-stops : goal.returns-in_err-versions-clause-stops
returns-in_err-versions-clause-stops c =
    let text = c.args.text.now in
    let first = c.in_ok-extras.rest.now in
    let second = c.in_ok-urls.rest.now in
    let third = c.in_ok-texts.rest.now in
    let (front, are) = c.in_ok-extras.ensures.ok in
    let (urls, are_urls) = c.in_ok-urls.ensures.ok in
    let (texts, are_texts) = c.in_ok-texts.ensures.ok in
    handed_on _ c.from_residual-in_err-versions.result _ c.from_residual-in_err-versions.ensures.1
    (halts_so _ _ (λ left h. front_more IsNormalName (codes "extra") refl text first c.in_ok-extras.extras front
    are left (front_more IsUrl (codes "url") refl first second c.in_ok-urls.urls urls are_urls left
    (front_more IsDemanded (codes "text") refl second third c.in_ok-texts.texts texts are_texts left
    (kind_front_in (codes "range") refl third left h)))) c.in_err-versions.field-0.0
    c.in_err-versions.ensures.stops)
