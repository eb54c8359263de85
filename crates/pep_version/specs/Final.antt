-- Final releases ("Final releases").
use Rattle.std.specs.Prelude.{Bool, ◌&&◌, is_none}
use Rattle.texts.specs.Lists.{is_empty}
use Rattle.pep_version.specs.Version.{Version}

-- the version is an epoch and a release, and nothing more
abbrev pub is_final : Version → Bool
is_final v = is_none v.pre && is_none v.post && is_none v.dev && is_empty v.label
