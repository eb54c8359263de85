-- What a release is raised to, by its last number.
use Rattle.std.proofs.Common.{◌≡◌, ℕ, ◌+◌, ◌-◌, ◌≤◌, Bool, true, false, List, [], ◌∷◌, ◌++◌, Option}
use Rattle.std.proofs.Common.{Some, None, length, take, get_or, nat_lt, refl, ap, ◌∙◌}
use Rattle.std.proofs.Common.{if◌then◌else◌}
use Rattle.texts.proofs.ListLemmas.{last-shape}
use Rattle.pep_clause.specs.OperatorTable.{last, raised, raised_first}

-- the number above, unless the number is the largest
abbrev pub next_number : ℕ → Option ℕ
next_number n = if nat_lt n last then Some (n + 1) else None

-- a last number that is not the largest is raised
last_raised : (front : List ℕ) (n : ℕ) → nat_lt n last ≡ true →
    raised (front ++ (n ∷ [])) ≡ Some (front ++ ((n + 1) ∷ []))
last_raised [] n e = rw e refl
last_raised (m ∷ front) n e = ap (raised_first m) (last_raised front n e)

-- the largest number is dropped
last_dropped : (front : List ℕ) (n : ℕ) → nat_lt n last ≡ false →
    raised (front ++ (n ∷ [])) ≡ raised front
last_dropped [] n e = rw e refl
last_dropped (m ∷ front) n e = ap (raised_first m) (last_dropped front n e)

raised_by : (b : Bool) (front : List ℕ) (n m : ℕ) → nat_lt n last ≡ b →
    (if b then Some (n + 1) else None) ≡ Some m
    → raised (front ++ (n ∷ [])) ≡ Some (front ++ (m ∷ []))
raised_by true front n m t e =
    let same : n + 1 ≡ m = cc in last_raised front n t
    ∙ ap (λ (k : ℕ). Some (front ++ (k ∷ []))) same
raised_by false front n m t e = cc e

dropped_by : (b : Bool) (front : List ℕ) (n : ℕ) → nat_lt n last ≡ b →
    (if b then Some (n + 1) else None) ≡ None
    → raised (front ++ (n ∷ [])) ≡ raised front
dropped_by true front n t e = cc e
dropped_by false front n t e = last_dropped front n t

-- the same of a release and its last number
pub raised-last_number : (release : List ℕ) (m : ℕ) → 1 ≤ length release →
    next_number (get_or release (length release - 1) 0) ≡ Some m
    → raised release ≡ Some (take (length release - 1) release ++ (m ∷ []))
raised-last_number release m some e =
    let n = get_or release (length release - 1) 0 in
    ap raised (last-shape release some) ∙ raised_by (nat_lt n last)
    (take (length release - 1) release) n m refl e

pub raised-largest_number : (release : List ℕ) → 1 ≤ length release →
    next_number (get_or release (length release - 1) 0) ≡ None
    → raised release ≡ raised (take (length release - 1) release)
raised-largest_number release some e =
    let n = get_or release (length release - 1) 0 in
    ap raised (last-shape release some) ∙ dropped_by (nat_lt n last)
    (take (length release - 1) release) n refl e
