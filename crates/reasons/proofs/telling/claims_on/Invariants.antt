use Rattle.std.proofs.Common.{◌≡◌, take}
use Rattle.reasons.specs.Way.Asked.{AllGain}
use Rattle.reasons.specs.Places.{AreClaims}
use Rattle.reasons.proofs.telling.claims_on.Given as goal

-- the claims of the inputs up to this one were added
abbrev pub invariant-loop-input : goal.invariant-loop-input
invariant-loop-input l = record {
  claims : AllGain (AreClaims l.environment (take l.input-index l.inputs))
      l.fn.asked.items l.asked.items;
  number : l.number ≡ l.input-index;
}
