-- The first bytes of names as numbers are in the order of names.
use Rattle.std.proofs.Common.{◌≡◌, ◌≢◌, ℕ, List, [], ◌∷◌, sym, ◌∙◌, arith, true}
use Rattle.std.specs.List.{list_all}
use Rattle.std.specs.Ordering.{nat_cmp}
use Rattle.pep_marker.specs.Name.{IsNormalName, name_cmp}
use Rattle.texts.specs.Bytes.{is_name_byte}
use Rattle.texts.specs.Way.Heads.{head_of}
use Rattle.texts.proofs.Connectives.{and_first, and_second}
use Rattle.texts.proofs.HeadLemmas as heads
use Rattle.texts.proofs.HeadLemmas.{Small}
use Rattle.pep_marker.proofs.NormalNames.{name_byte_small}

all-small : (x : List ℕ) → list_all is_name_byte x ≡ true → Small x
all-small [] h = tt
all-small (b ∷ x) h =
    let small = name_byte_small b (and_first _ _ h) in
    (omega (arith, small), all-small x (and_second _ _ h))

name-small : (x : List ℕ) → IsNormalName x → Small x
name-small x h = all-small x (and_second _ _ (and_first _ _ (and_first _ _ h.0)))

-- numbers of names that differ compare as the names do
pub head_cmp : (x y : List ℕ) (m n : ℕ) → IsNormalName x → IsNormalName y → m ≡ head_of x →
    n ≡ head_of y → m ≢ n → nat_cmp m n ≡ name_cmp x y
head_cmp x y m n h g e f apart =
    (λ i. nat_cmp (e i) (f i))
    ∙ heads.head_cmp x y (name-small x h) (name-small y g) (λ same. apart (e ∙ same ∙ sym f))
