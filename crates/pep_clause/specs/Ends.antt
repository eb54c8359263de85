-- The cuts between which the versions of a clause lie, by where its operator lets them begin and end.
use Rattle.std.specs.Prelude.{Bool, List, if◌then◌else◌}
use Rattle.pep_version.specs.Version.{Version}
use Rattle.specifiers.specs.Admits.{compatible_prefix}
use Rattle.specifiers.specs.declared.op.Begin.{Begin}
use Rattle.specifiers.specs.declared.op.Begin.TheVariants as begin
use Rattle.specifiers.specs.declared.op.End.{End}
use Rattle.specifiers.specs.declared.op.End.TheVariants as ends
use Rattle.pep_clause.specs.Cut.{Cut, end, least}
use Rattle.pep_clause.specs.OperatorTable.{before_place, greater_from, less_to, matching_to, next, outside, prefix_end, range}
use Rattle.pep_clause.specs.VersionSet.{Range}

-- the cut where the versions begin that an operator and a version speak of, and the one where they end
abbrev pub begin_cut : Begin → Version → Cut
begin_cut begin.Least v = least
begin_cut begin.Version v = before_place v
begin_cut begin.Greater v = greater_from v

abbrev pub end_cut : End → Version → Cut
end_cut ends.Version v = next v
end_cut ends.Matching v = matching_to v
end_cut ends.Less v = less_to v
end_cut ends.Prefix v = prefix_end (compatible_prefix v)
end_cut ends.All v = end

-- the versions between two cuts, or where these are left out the others
abbrev pub between : Bool → Cut → Cut → List Range
between left_out low high = if left_out then outside low high else range low high
