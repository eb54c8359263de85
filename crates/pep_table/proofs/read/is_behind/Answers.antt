use Rattle.std.proofs.Common.{◌≡◌, rules, subst, sym}
use Rattle.std.specs.Bool.{IsTrue}
use Rattle.std.specs.Cmp.Lexicographic.{slice_cmp}
use Rattle.std.specs.Ordering.{is_lt, nat_cmp}
use Rattle.pep_table.proofs.AscendingItems.{behind_name}
use Rattle.pep_table.proofs.read.is_behind.Goals as goal

pub returns : goal.returns
returns c = λ is_name.
    let both = behind_name c.args.last.now c.args.name.now is_name in
    let told : c.lt.result ≡ is_lt (slice_cmp nat_cmp c.args.last.now c.args.name.now) = search rules in (
      λ t. both.0 (subst IsTrue told t),
      λ h. subst IsTrue (sym told) (both.1 h),
    )
