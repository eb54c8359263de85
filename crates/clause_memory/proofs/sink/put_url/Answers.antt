use Rattle.std.proofs.Common.{refl, subst, sym}
use Rattle.std.specs.Prelude.{IsTrue}
use Rattle.pep_require.specs.Requirement.{UrlParts}
use Rattle.clause_memory.proofs.sink.put_url.Goals as goal

pub returns-then-has_common_form-clause-ok : goal.returns-then-has_common_form-clause-ok
returns-then-has_common_form-clause-ok c =
    let url : UrlParts = record { written = c.args.written.now; text = c.args.written.now } in record {
      url = url;
      reads = c.has_common_form.ensures.reads (subst IsTrue (sym c.if-has_common_form.true) refl);
      adds = c.in_ok-put_url.ensures url refl;
    }

pub returns-clause-ok : goal.returns-clause-ok
returns-clause-ok c = record {
  url = c.in_ok-url.url;
  reads = c.in_ok-url.ensures.ok;
  adds = c.in_ok-put_url-2.ensures c.in_ok-url.url (sym c.text.ensures.text);
}
