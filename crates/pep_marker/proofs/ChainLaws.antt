-- The chains at the front of a list of tokens: there is at most one, and it is the grammar's.
use Rattle.std.proofs.Common.{◌≡◌, ℕ, suc, ◌+◌, ◌≤◌, ◌<◌, true, false, List, [], ◌∷◌}
use Rattle.std.proofs.Common.{◌++◌, length, refl, ap, sym, subst, ◌∙◌, arith, append_assoc}
use Rattle.std.proofs.Common.{append-nil}
use Rattle.pep_marker.specs.Marker.{MarkerParts, comparisons, Token, open_parenthesis}
use Rattle.pep_marker.specs.Marker.{close_parenthesis, and_word, or_word, operand, operator}
use Rattle.pep_marker.specs.Marker.{IsOrChain, one_chain, or_chain, IsAndChain, one_item, and_chain}
use Rattle.pep_marker.specs.Marker.{IsItem, comparison, parentheses, opened, operators}
use Rattle.pep_marker.specs.Way.Chains.{ItemFrom, comparison_from, parentheses_from, PartFrom}
use Rattle.pep_marker.specs.Way.Chains.{item_part, chain_part, ChainFrom, parts_from, RestFrom}
use Rattle.pep_marker.specs.Way.Chains.{rest_end, rest_more, ends, ends_and, ends_or, part_ends, joined}
use Rattle.pep_marker.specs.Way.Chains.{link_word}
use Rattle.pep_marker.specs.declared.making.Link.{Link}
use Rattle.pep_marker.specs.declared.making.Link.TheVariants.{And, Or}

-- ---- at most one

abbrev pub Same : MarkerParts → MarkerParts → List Token → List Token → Type 0
Same m n r s = (m ≡ n) × (r ≡ s)

abbrev tail : List Token → List Token
tail [] = []
tail (t ∷ ts) = ts

pub never : {A : Type 0} → false ≡ true → A
never e = absurd (cc e)

pub moved : {l : Link} {d : ℕ} {m n k : MarkerParts} {ts us r : List Token} → m ≡ n → ts ≡ us →
    RestFrom l d n us k r → RestFrom l d m ts k r
moved {l} {d} {m} {n} {k} {ts} {us} {r} e f c =
    subst (λ x. RestFrom l d x ts k r) (sym e) (subst (λ x. RestFrom l d n x k r) (sym f) c)

-- where a link's word stands its chain goes on
pub goes_on : {A : Type 0} (l : Link) (ts vs : List Token) → vs ≡ link_word l ∷ ts →
    ends l vs ≡ true → A
goes_on And ts vs e f = never (sym (ap ends_and e) ∙ f)
goes_on Or ts vs e f = never (sym (ap ends_or e) ∙ f)

-- where a chain ends its last part does
ends_part : (l : Link) (ts : List Token) → ends l ts ≡ true → part_ends l ts ≡ true
ends_part And ts f = refl
ends_part Or [] f = refl
ends_part Or (and_word ∷ ts) f = f
ends_part Or (or_word ∷ ts) f = refl
ends_part Or (open_parenthesis ∷ ts) f = refl
ends_part Or (close_parenthesis ∷ ts) f = refl
ends_part Or (operand o ∷ ts) f = refl
ends_part Or (operator o ∷ ts) f = refl

word_ends_part : (l : Link) (ts : List Token) → part_ends l (link_word l ∷ ts) ≡ true
word_ends_part And ts = refl
word_ends_part Or ts = refl

-- a part that a chain goes on behind has ended
pub part_ends-rest : {l : Link} {d : ℕ} {m k : MarkerParts} {ts r : List Token} →
    RestFrom l d m ts k r → ends l r ≡ true → part_ends l ts ≡ true
part_ends-rest {l = l} (rest_end {rest = rest}) f = ends_part l rest f
part_ends-rest {l = l} (rest_more {ts = us} e i c) f =
    subst (λ x. part_ends l x ≡ true) (sym e) (word_ends_part l us)

-- the tokens behind one word
pub behind_one : {d : ℕ} {l : Link} {m : MarkerParts} {ts us vs r : List Token} →
    vs ≡ link_word l ∷ ts → vs ≡ link_word l ∷ us → PartFrom l d us m r → PartFrom l d ts m r
behind_one {d} {l} {m} {ts} {us} {vs} {r} e f i =
    subst (λ x. PartFrom l d x m r) (ap tail (sym f ∙ e)) i

mutual
  pub same_item : {d : ℕ} {ts r s : List Token} {m n : MarkerParts} → ItemFrom d ts m r →
      ItemFrom d ts n s → Same m n r s
  same_item comparison_from comparison_from = (refl, refl)
  same_item (parentheses_from c) (parentheses_from e) =
      let same = same_chain c e refl refl in (same.0, ap tail same.1)

  pub same_part : {l : Link} {d : ℕ} {ts r s : List Token} {m n : MarkerParts} →
      PartFrom l d ts m r → PartFrom l d ts n s → part_ends l r ≡ true → part_ends l s ≡ true →
      Same m n r s
  same_part (item_part i) (item_part j) f g = same_item i j
  same_part (chain_part c) (chain_part e) f g = same_chain c e f g

  pub same_chain : {l : Link} {d : ℕ} {ts r s : List Token} {m n : MarkerParts} →
      ChainFrom l d ts m r → ChainFrom l d ts n s → ends l r ≡ true → ends l s ≡ true →
      Same m n r s
  same_chain (parts_from i c) (parts_from j e) f g =
      let same = same_part i j (part_ends-rest c f) (part_ends-rest e g) in
      same_rest c (moved same.0 same.1 e) f g

  same_rest : {l : Link} {d : ℕ} {ts r s : List Token} {m j k : MarkerParts} →
      RestFrom l d m ts j r → RestFrom l d m ts k s → ends l r ≡ true → ends l s ≡ true →
      Same j k r s
  same_rest rest_end rest_end f g = (refl, refl)
  same_rest {l = l} rest_end (rest_more e i c) f g = goes_on l _ _ e f
  same_rest {l = l} (rest_more e i c) rest_end f g = goes_on l _ _ e g
  same_rest {l = l} {m = m} (rest_more e i c) (rest_more h j b) f g =
      let same = same_part i (behind_one e h j) (part_ends-rest c f) (part_ends-rest b g) in
      same_rest c (moved (ap (λ n. joined l m n) same.0) same.1 b) f g

-- ---- what is read is in the grammar

abbrev pub IsPart : Link → ℕ → List Token → MarkerParts → Type 0
IsPart And d ts m = IsItem d ts m
IsPart Or d ts m = IsAndChain d ts m

abbrev pub IsChain : Link → ℕ → List Token → MarkerParts → Type 0
IsChain And d ts m = IsAndChain d ts m
IsChain Or d ts m = IsOrChain d ts m

first_part : (l : Link) (d : ℕ) (ts : List Token) (m : MarkerParts) → IsPart l d ts m →
    IsChain l d ts m
first_part And d ts m i = one_item i
first_part Or d ts m c = one_chain c

next_part : (l : Link) (d : ℕ) (ts us : List Token) (m n : MarkerParts) → IsChain l d ts m →
    IsPart l d us n → IsChain l d (ts ++ link_word l ∷ us) (joined l m n)
next_part And d ts us m n c i = and_chain ts us c i
next_part Or d ts us m n c i = or_chain ts us c i

mutual
  item_grammar : {d : ℕ} {ts rest : List Token} {m : MarkerParts} → ItemFrom d ts m rest →
      (used : List Token) × (ts ≡ used ++ rest) × IsItem d used m
  item_grammar (comparison_from {depth = d} {l = l} {r = r} {o = o}) =
      (operand l ∷ operator o ∷ operand r ∷ [], refl, comparison d l r o)
  item_grammar (parentheses_from {rest = rest} c) =
      let (used, e, g) = chain_grammar c in (
        open_parenthesis ∷ used ++ close_parenthesis ∷ [],
        ap (λ x. open_parenthesis ∷ x)
            (e ∙ sym (append_assoc used (close_parenthesis ∷ []) rest)),
        parentheses used g,
      )

  part_grammar : {l : Link} {d : ℕ} {ts rest : List Token} {m : MarkerParts} →
      PartFrom l d ts m rest → (used : List Token) × (ts ≡ used ++ rest) × IsPart l d used m
  part_grammar (item_part i) = item_grammar i
  part_grammar (chain_part c) = chain_grammar c

  pub chain_grammar : {l : Link} {d : ℕ} {ts rest : List Token} {m : MarkerParts} →
      ChainFrom l d ts m rest → (used : List Token) × (ts ≡ used ++ rest) × IsChain l d used m
  chain_grammar {l = l} {d = d} (parts_from {n = n} i c) =
      let (front, e, g) = part_grammar i in
      let (used, f, h) = rest_grammar c front (first_part l d front n g) in
      (used, e ∙ f, h)

  rest_grammar : {l : Link} {d : ℕ} {ts rest : List Token} {m k : MarkerParts} →
      RestFrom l d m ts k rest → (front : List Token) → IsChain l d front m →
      (used : List Token) × (front ++ ts ≡ used ++ rest) × IsChain l d used k
  rest_grammar rest_end front g = (front, refl, g)
  rest_grammar {l = l} {d = d} {m = m} (rest_more {us = us} {n = n} e i c) front g =
      let (part, f, h) = part_grammar i in
      let longer = front ++ link_word l ∷ part in
      let (used, q, k) = rest_grammar c longer (next_part l d front part m n g h) in
      let moved = sym (append_assoc front (link_word l ∷ part) us) in
      (used, ap (λ x. front ++ x) (e ∙ ap (λ x. link_word l ∷ x) f) ∙ moved ∙ q, k)

-- ---- what is in the grammar is read

-- two parts of a chain, with what is behind them
longer : {d : ℕ} {k : MarkerParts} {r : List Token} (l : Link) (ts us rest : List Token) →
    ChainFrom l d (ts ++ (link_word l ∷ us ++ rest)) k r →
    ChainFrom l d ((ts ++ link_word l ∷ us) ++ rest) k r
longer {d} {k} {r} l ts us rest =
    subst (λ x. ChainFrom l d x k r) (sym (append_assoc ts (link_word l ∷ us) rest))

mutual
  item_from : {d : ℕ} {ts : List Token} {m : MarkerParts} → IsItem d ts m →
      (rest : List Token) → ItemFrom d (ts ++ rest) m rest
  item_from (comparison d l r o) rest = comparison_from
  item_from (parentheses {depth = d} {m = m} ts c) rest =
      subst (λ x. ItemFrom (suc d) (open_parenthesis ∷ x) m rest)
      (sym (append_assoc ts (close_parenthesis ∷ []) rest))
      (parentheses_from (or_chain_from c (close_parenthesis ∷ rest) rest_end))

  and_chain_from : {d : ℕ} {ts : List Token} {m k : MarkerParts} {r : List Token} →
      IsAndChain d ts m → (rest : List Token) → RestFrom And d m rest k r →
      ChainFrom And d (ts ++ rest) k r
  and_chain_from (one_item i) rest c = parts_from (item_part (item_from i rest)) c
  and_chain_from (and_chain ts us g i) rest c =
      longer And ts us rest
      (and_chain_from g (and_word ∷ us ++ rest) (rest_more refl (item_part (item_from i rest)) c))

  or_chain_from : {d : ℕ} {ts : List Token} {m k : MarkerParts} {r : List Token} →
      IsOrChain d ts m → (rest : List Token) → RestFrom Or d m rest k r →
      ChainFrom Or d (ts ++ rest) k r
  or_chain_from (one_chain i) rest c = parts_from (chain_part (and_chain_from i rest rest_end)) c
  or_chain_from (or_chain ts us g i) rest c =
      let part = chain_part (and_chain_from i rest rest_end) in
      longer Or ts us rest (or_chain_from g (or_word ∷ us ++ rest) (rest_more refl part c))

pub whole_from : {d : ℕ} {ts : List Token} {m : MarkerParts} → IsOrChain d ts m →
    ChainFrom Or d ts m []
whole_from {d} {ts} {m} c =
    subst (λ x. ChainFrom Or d x m []) (append-nil ts) (or_chain_from c [] rest_end)

-- tokens are one marker
pub one_marker_of_tokens : {d : ℕ} {ts : List Token} {m n : MarkerParts} → IsOrChain d ts m →
    IsOrChain d ts n → m ≡ n
one_marker_of_tokens c e = (same_chain (whole_from c) (whole_from e) refl refl).0

-- ---- comparisons

pub comparisons-joined : (l : Link) (m n : MarkerParts) →
    comparisons (joined l m n) ≡ comparisons m + comparisons n
comparisons-joined And m n = refl
comparisons-joined Or m n = refl

pub more : {l : Link} {d : ℕ} {ts rest : List Token} {m k : MarkerParts} →
    RestFrom l d m ts k rest → comparisons m ≤ comparisons k
more rest_end = omega arith
more {l = l} {m = m} (rest_more {n = n} e i c) = omega (arith, more c, comparisons-joined l m n)

-- ---- each item and chain takes a token

mutual
  shorter_item : {d : ℕ} {ts rest : List Token} {m : MarkerParts} → ItemFrom d ts m rest →
      length rest < length ts
  shorter_item comparison_from = omega arith
  shorter_item (parentheses_from c) = omega (arith, shorter_chain c)

  pub shorter_part : {l : Link} {d : ℕ} {ts rest : List Token} {m : MarkerParts} →
      PartFrom l d ts m rest → length rest < length ts
  shorter_part (item_part i) = shorter_item i
  shorter_part (chain_part c) = shorter_chain c

  shorter_chain : {l : Link} {d : ℕ} {ts rest : List Token} {m : MarkerParts} →
      ChainFrom l d ts m rest → length rest < length ts
  shorter_chain (parts_from i c) = omega (arith, shorter_part i, shorter_rest c)

  shorter_rest : {l : Link} {d : ℕ} {ts rest : List Token} {m k : MarkerParts} →
      RestFrom l d m ts k rest → length rest ≤ length ts
  shorter_rest rest_end = omega arith
  shorter_rest (rest_more e i c) = omega (arith, ap length e, shorter_part i, shorter_rest c)

-- ---- each comparison takes an operator, and what is left is part of the tokens

word_counts : (l : Link) (ts : List Token) →
    (operators (link_word l ∷ ts) ≡ operators ts)
    × (opened (link_word l ∷ ts) ≡ opened ts)
word_counts And ts = (refl, refl)
word_counts Or ts = (refl, refl)

-- the tokens are so many comparisons more than those that are left
pub record AreMore (count : ℕ) (ts rest : List Token) : Type 0 where
  pub by_operators : count + operators rest ≤ operators ts
  pub by_opened : opened rest ≤ opened ts

-- behind the word of a link
pub more_behind : (l : Link) (count : ℕ) (ts us vs : List Token) → us ≡ link_word l ∷ vs →
    AreMore count ts us → AreMore count ts vs
more_behind l count ts us vs e h =
    let word = word_counts l vs in record {
      by_operators = omega (arith, h.by_operators, ap (operators) e, word.0);
      by_opened = omega (arith, h.by_opened, ap (opened) e, word.1);
    }

mutual
  item_more : {d : ℕ} {ts rest : List Token} {m : MarkerParts} → ItemFrom d ts m rest →
      AreMore (comparisons m) ts rest
  item_more comparison_from = record { by_operators = omega arith; by_opened = omega arith }
  item_more (parentheses_from c) =
      let h = chain_more c in record {
        by_operators = omega (arith, h.by_operators);
        by_opened = omega (arith, h.by_opened);
      }

  pub part_more : {l : Link} {d : ℕ} {ts rest : List Token} {m : MarkerParts} →
      PartFrom l d ts m rest → AreMore (comparisons m) ts rest
  part_more (item_part i) = item_more i
  part_more (chain_part c) = chain_more c

  pub chain_more : {l : Link} {d : ℕ} {ts rest : List Token} {m : MarkerParts} →
      ChainFrom l d ts m rest → AreMore (comparisons m) ts rest
  chain_more {ts = ts} (parts_from {us = us} i c) = rest_more_from c ts (part_more i)

  rest_more_from : {l : Link} {d : ℕ} {us rest : List Token} {m k : MarkerParts} →
      RestFrom l d m us k rest → (ts : List Token) → AreMore (comparisons m) ts us →
      AreMore (comparisons k) ts rest
  rest_more_from rest_end ts h = h
  rest_more_from {l = l} {m = m} (rest_more {ts = vs} {n = n} e i c) ts h =
      let behind = more_behind l (comparisons m) ts _ vs e h in
      let part = part_more i in
      let both = comparisons-joined l m n in
      rest_more_from c ts (record {
        by_operators = omega (arith, behind.by_operators, part.by_operators, both);
        by_opened = omega (arith, behind.by_opened, part.by_opened);
      })
