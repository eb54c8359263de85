use Rattle.std.proofs.Common.{Err, Ok}
use Rattle.documents.proofs.GroupEnds.{whole_comes_to}
use Rattle.documents.proofs.GroupSteps.{group_comes_to}
use Rattle.documents.proofs.laws.group_is_walked.Goals as goal

pub returns : goal.returns
returns c = record {
  texts = λ groups root xs h. group_comes_to groups root (Ok xs) h;
  fault = λ groups root c h. group_comes_to groups root (Err c) h;
  whole = whole_comes_to;
}
