-- What a writer that tells its bytes holds after one piece more.
use Rattle.std.proofs.Common.{◌≡◌, ℕ, ◌+◌, ◌-◌, List, ◌++◌, length, take, drop, Option, Some, None}
use Rattle.std.proofs.Common.{sym, ap, ◌∙◌, append_assoc, arith}
use Rattle.std.proofs.Math.Seq.{take-add}
use Rattle.std.proofs.lemmas.List.{append-nil, take_all, length-drop}
use Rattle.std.specs.Io.KnownBytes.{Appends, Keeps}

-- nothing is appended to what is there
pub Appends-nothing : (a : Option (List ℕ)) (xs : List ℕ) → Appends a a (take 0 xs)
Appends-nothing None xs = tt
Appends-nothing (Some a) xs = sym (append-nil a)

-- a piece, and then one more
pub Appends-append : (a b c : Option (List ℕ)) (xs ys : List ℕ) → Appends a b xs → Appends b c ys →
    Appends a c (xs ++ ys)
Appends-append None b c xs ys p q = tt
Appends-append (Some a) None c xs ys p q = absurd p
Appends-append (Some a) (Some b) None xs ys p q = absurd q
Appends-append (Some a) (Some b) (Some c) xs ys p q = q ∙ ap (λ z. z ++ ys) p ∙ append_assoc a xs ys

-- what was known stays
pub Appends-keeps : (a b c : Option (List ℕ)) (xs : List ℕ) → Appends a b xs → Keeps b c →
    Appends a c xs
Appends-keeps None b c xs p q = tt
Appends-keeps (Some a) None c xs p q = absurd p
Appends-keeps (Some a) (Some b) None xs p q = absurd q
Appends-keeps (Some a) (Some b) (Some c) xs p q = q ∙ p

-- the next bytes of a text, of the slice from `done` to its end
pub Appends-more : (a b c : Option (List ℕ)) (text : List ℕ) (done count : ℕ) →
    Appends a b (take done text) →
    Appends b c (take count (take (length text - done) (drop done text))) →
    Appends a c (take (done + count) text)
Appends-more a b c text done count p q =
    let rest = drop done text in
    let whole : take (length text - done) rest ≡ rest =
    take_all (length text - done) rest (omega (arith, length-drop done text)) in
    let h = rw whole at q in
    rw take-add (Appends-append a b c (take done text) (take count rest) p h)
