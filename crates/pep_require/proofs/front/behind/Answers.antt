use Rattle.std.proofs.lemmas.Str.Pattern.{strip_prefix_char}
use Rattle.pep_require.proofs.FrontLemmas.{byte_in_front}
use Rattle.pep_require.proofs.front.behind.Goals as goal

pub returns : goal.returns
returns c =
    let text = c.args.text.now in
    byte_in_front c.args.character text c.strip_prefix.result
    (strip_prefix_char c.args.character text c.strip_prefix.result c.strip_prefix.ensures.cases
    c.requires)
