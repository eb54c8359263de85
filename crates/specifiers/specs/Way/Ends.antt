-- THE CODE'S WAY, and no definition of what a clause admits: how a version stands to the two ends that an operator has.
use Rattle.std.specs.Prelude.{◌&&◌, ◌||◌, Bool, true, not, is_some, if◌then◌else◌}
use Rattle.std.specs.Ordering.{is_ge, is_le}
use Rattle.std.specs.declared.cmp.Ordering.{Ordering}
use Rattle.pep_version.specs.Order.{is_below, public_version, version_cmp}
use Rattle.pep_version.specs.Version.{Version, is_pre_release}
use Rattle.texts.specs.Lists.{is_empty}
use Rattle.specifiers.specs.Admits.{compatible_prefix, has_prefix, is_post_release_of, is_pre_release_of}
use Rattle.specifiers.specs.declared.op.Begin.{Begin}
use Rattle.specifiers.specs.declared.op.Begin.TheVariants as begin
use Rattle.specifiers.specs.declared.op.End.{End}
use Rattle.specifiers.specs.declared.op.End.TheVariants as ends

-- how a version stands to w: its local version label counts where w has one ("Version matching")
abbrev pub order_to : Version → Version → Ordering
order_to w v = if is_empty w.label then version_cmp (public_version v) w else version_cmp v w

-- the version is behind the place where those begin that an operator and w speak of
abbrev pub is_behind_begin : Begin → Version → Version → Bool
is_behind_begin begin.Least w v = true
is_behind_begin begin.Version w v = is_ge (order_to w v)
is_behind_begin begin.Greater w v =
    is_below w (public_version v) && (is_some w.post || not (is_post_release_of v w))

-- a version that is behind that place is also before the place where those end
abbrev pub is_before_end : End → Version → Version → Bool
is_before_end ends.Version w v = is_le (version_cmp (public_version v) w)
is_before_end ends.Matching w v = is_le (order_to w v)
is_before_end ends.Less w v =
    is_below (public_version v) w && (is_pre_release w || not (is_pre_release_of v w))
is_before_end ends.Prefix w v = has_prefix (compatible_prefix w) v
is_before_end ends.All w v = true

-- the version is behind the first place and before the second
abbrev pub is_between : Begin → End → Version → Version → Bool
is_between b e w v = is_behind_begin b w v && is_before_end e w v
