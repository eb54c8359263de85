use Rattle.std.proofs.Common.{◌≡◌, take}
use Rattle.documents.specs.Texts.{lent_texts}
use Rattle.inputs.specs.Way.Wanted.{wanted_name}
use Rattle.inputs.proofs.GatheredLists.{TextsSoFar}
use Rattle.inputs.proofs.gathering.DemandTaker.take_texts.Given as goal

-- the texts before this one are taken, or all are requirements, and a marker is undefined
abbrev pub invariant-loop-text : goal.invariant-loop-text
invariant-loop-text l = record {
  taken : TextsSoFar l.fn.self.sink (wanted_name l.fn.self.wanted)
      (lent_texts (take l.text-index l.texts)) l.undefined l.fn.gathering l.gathering;
  counted : l.number ≡ l.text-index;
  same : l.self ≡ l.fn.self;
}
