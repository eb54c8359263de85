use Rattle.std.proofs.Common.{◌≡◌, None, length, rules}
use Rattle.pep_version.specs.Text.{dev_text, post_text, pre_text}
use Rattle.pep_clause.proofs.WrittenReleases.{before-text, nothing-left, parts-joined}
use Rattle.pep_clause.proofs.packed_cut.reading.before_with.Goals as goal

pub returns : goal.returns
returns c =
    let pre = c.in_ok-pre.pre in
    let post = c.in_ok-post.post in
    let dev = c.in_ok-dev.dev in
    let none : length c.in_ok-dev.behind_dev.now ≡ 0 = search rules in
    before-text c.args.release.now pre post dev c.args.rest.now c.before_public-2.result c.requires.short
    c.before_public-2.ensures.cut
    (parts-joined _ _ _ _ (pre_text pre) (post_text post) (dev_text dev) c.in_ok-pre.ensures
    c.in_ok-post.ensures c.in_ok-dev.ensures none)

pub returns-then-is_empty : goal.returns-then-is_empty
returns-then-is_empty c =
    let none : length c.args.rest.now ≡ 0 = search rules in
    before-text c.args.release.now None None None c.args.rest.now c.before_public.result c.requires.short
    c.before_public.ensures.cut (nothing-left c.args.rest.now none)
