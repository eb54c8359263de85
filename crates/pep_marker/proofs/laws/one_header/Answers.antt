use Rattle.pep_marker.proofs.HeaderLaws.{header_values, headers_apart, same_truth}
use Rattle.pep_marker.proofs.laws.one_header.Goals as goal

pub returns-clause-values : goal.returns-clause-values
returns-clause-values c = header_values

pub returns-clause-markers : goal.returns-clause-markers
returns-clause-markers c = λ e f is are same. same_truth e f (header_values e f is are same)

pub returns-clause-headers : goal.returns-clause-headers
returns-clause-headers c = λ e f a b is are. headers_apart e f is are a b
