use Rattle.std.proofs.Common.{◌≡◌, ◌++◌, ◌∙◌, ap, append_assoc, arith, codes}
use Rattle.std.proofs.lemmas.Grind.{common_steps}
use Rattle.std.specs.Prelude.{Some}
use Rattle.pep_version.specs.Text.{dev_text, post_text, pre_text}
use Rattle.pep_version.proofs.TextLemmas.{end-text, on-ok, two-parts, zero-text}
use Rattle.pep_version.proofs.text.put_suffixes.Goals as goal

pub returns-in-None-Some-eq0-clause-ok : goal.returns-in-None-Some-eq0-clause-ok
returns-in-None-Some-eq0-clause-ok g c = grind (arith, common_steps, zero-text)

pub returns-in-Some-eq0-Some-eq0-clause-ok : goal.returns-in-Some-eq0-Some-eq0-clause-ok
returns-in-Some-eq0-Some-eq0-clause-ok g c =
    let pre = pre_text c.args.pre in
    let post : c.args.post ≡ Some 0 = (cc) in
    let dev : c.args.dev ≡ Some 0 = (cc) in
    let parts = append_assoc pre (post_text c.args.post) (dev_text c.args.dev)
    ∙ ap (λ ends. pre ++ ends) (end-text c.args.post c.args.dev post dev) in
    on-ok c.put_str-in-Some-eq0-Some-eq0.result (λ second told. two-parts _ pre (codes ".post0.dev0")
    (c.in_ok-put_pre.ensures.ok told) (second told) parts) c.put_str-in-Some-eq0-Some-eq0.ensures.ok
