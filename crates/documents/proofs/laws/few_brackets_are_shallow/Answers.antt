use Rattle.std.proofs.lemmas.Str.{IsUtf8-from_is_utf8}
use Rattle.documents.proofs.Documents.{document_of-shallow}
use Rattle.documents.proofs.FewLevels.{few_brackets_are_shallow}
use Rattle.documents.proofs.laws.few_brackets_are_shallow.Goals as goal

pub returns : goal.returns
returns c = record {
  shallow = few_brackets_are_shallow;
  document = λ bytes h text shallow. document_of-shallow bytes h (IsUtf8-from_is_utf8 bytes text) shallow;
}
