-- A marker is read from the tokens that it is written in, with its few parentheses.
use Rattle.std.proofs.Common.{◌≡◌, ℕ, suc, false, not, List, refl}
use Rattle.pep_marker.specs.Marker.{MarkerParts, compare, and, or, Token}
use Rattle.pep_marker.specs.Marker.{IsOrChain, one_chain, or_chain, IsAndChain, one_item, and_chain}
use Rattle.pep_marker.specs.Marker.{IsItem, comparison, parentheses}
use Rattle.pep_marker.specs.MarkerText.{is_comparison, is_or}
use Rattle.pep_marker.specs.Way.MarkerTokens.{closed_tokens, marker_tokens}

-- ---- one parenthesis more may be open

mutual
  deeper_or : {d : ℕ} {ts : List Token} {m : MarkerParts} → IsOrChain d ts m →
      IsOrChain (suc d) ts m
  deeper_or (one_chain c) = one_chain (deeper_and c)
  deeper_or (or_chain ts us c e) = or_chain ts us (deeper_or c) (deeper_and e)

  deeper_and : {d : ℕ} {ts : List Token} {m : MarkerParts} → IsAndChain d ts m →
      IsAndChain (suc d) ts m
  deeper_and (one_item i) = one_item (deeper_item i)
  deeper_and (and_chain ts us c i) = and_chain ts us (deeper_and c) (deeper_item i)

  deeper_item : {d : ℕ} {ts : List Token} {m : MarkerParts} → IsItem d ts m →
      IsItem (suc d) ts m
  deeper_item (comparison d l r o) = comparison (suc d) l r o
  deeper_item (parentheses ts c) = parentheses ts (deeper_or c)

-- ---- with parentheses no more than needed

-- a marker that is no or-chain is read as an and-chain
as_and : {d : ℕ} {ts : List Token} {m : MarkerParts} → is_or m ≡ false → IsOrChain d ts m →
    IsAndChain d ts m
as_and e (one_chain c) = c
as_and e (or_chain ts us c f) = absurd (cc e)

-- what parentheses close, in no more of them than its kind needs
closed_item : (d : ℕ) (m : MarkerParts) → IsOrChain d (marker_tokens m) m →
    IsItem (suc d) (closed_tokens (not (is_comparison m)) (marker_tokens m)) m
closed_item d (compare l o r) c = comparison (suc d) l r o
closed_item d (and m n) c = parentheses (marker_tokens (and m n)) c
closed_item d (or m n) c = parentheses (marker_tokens (or m n)) c

-- the same of an and-chain
closed_and : (d : ℕ) (m : MarkerParts) → IsOrChain d (marker_tokens m) m →
    IsAndChain (suc d) (closed_tokens (is_or m) (marker_tokens m)) m
closed_and d (compare l o r) c = as_and refl (deeper_or c)
closed_and d (and m n) c = as_and refl (deeper_or c)
closed_and d (or m n) c = one_item (parentheses (marker_tokens (or m n)) c)

mutual
  item_tokens : {d : ℕ} {ts : List Token} {m : MarkerParts} → IsItem d ts m →
      IsItem d (closed_tokens (not (is_comparison m)) (marker_tokens m)) m
  item_tokens (comparison d l r o) = comparison d l r o
  item_tokens (parentheses {depth = d} {m = m} ts c) = closed_item d m (or_tokens c)

  and_tokens : {d : ℕ} {ts : List Token} {m : MarkerParts} → IsAndChain d ts m →
      IsAndChain d (closed_tokens (is_or m) (marker_tokens m)) m
  and_tokens (one_item (comparison d l r o)) = one_item (comparison d l r o)
  and_tokens (one_item (parentheses {depth = d} {m = m} ts c)) = closed_and d m (or_tokens c)
  and_tokens (and_chain ts us c i) = and_chain _ _ (and_tokens c) (item_tokens i)

  and_as_or : {d : ℕ} {ts : List Token} {m : MarkerParts} → IsAndChain d ts m →
      IsOrChain d (marker_tokens m) m
  and_as_or (one_item (comparison d l r o)) = one_chain (one_item (comparison d l r o))
  and_as_or (one_item (parentheses ts c)) = deeper_or (or_tokens c)
  and_as_or (and_chain ts us c i) = one_chain (and_chain _ _ (and_tokens c) (item_tokens i))

  -- what is read as a marker from some tokens is read as it from those that it is written in
  pub or_tokens : {d : ℕ} {ts : List Token} {m : MarkerParts} → IsOrChain d ts m →
      IsOrChain d (marker_tokens m) m
  or_tokens (one_chain c) = and_as_or c
  or_tokens (or_chain ts us c e) = or_chain _ _ (or_tokens c) (and_tokens e)
