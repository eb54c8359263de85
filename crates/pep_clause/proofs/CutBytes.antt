-- Laws of the bytes of cuts: byte order is their order, and a version lies under a cut exactly if its
-- key is below the cut's bytes.
use Rattle.std.proofs.Common.{◌≡◌, ◌<◌, ℕ, List, [], ◌∷◌, ◌++◌, Option, Some, None, refl, sym, ap, ◌∙◌, arith}
use Rattle.std.proofs.Common.{append_assoc, append-nil, inl, inr}
use Rattle.std.proofs.lemmas.Bool.{cases_lt}
use Rattle.std.specs.Cmp.{nat_cmp_total, tied_itself}
use Rattle.std.specs.Cmp.Lexicographic.{nat_list_cmp_total}
use Rattle.std.specs.Ordering.{is_lt, nat_cmp, ordering_reverse, ordering_then}
use Rattle.std.specs.declared.cmp.Ordering.{Ordering}
use Rattle.std.specs.declared.cmp.Ordering.TheVariants.{Less, Greater}
use Rattle.pep_version.proofs.ByteOrderLemmas.{order-leads, then_assoc, then_last}
use Rattle.pep_version.proofs.KeyOrder.{place-leads, suffix-leads}
use Rattle.pep_version.proofs.NumberBytes.{is_less, number_bytes-leads}
use Rattle.pep_version.specs.ByteOrder.{byte_cmp, ended}
use Rattle.pep_version.specs.KeyBytes.{number_bytes, phase_byte, place_bytes}
use Rattle.pep_version.specs.KeyBytes.{release_bytes, release_number_bytes, stage_bytes_of, suffix_bytes}
use Rattle.pep_version.specs.Order.{place_cmp, release_cmp, suffix_cmp, without_end_zeros}
use Rattle.pep_version.specs.Version.{Fits, IsVersion}
use Rattle.pep_version.specs.declared.parts.Phase.{Phase}
use Rattle.pep_version.specs.declared.parts.Phase.TheVariants.{Alpha, Beta, Rc}
use Rattle.pep_clause.specs.Cut.{Cut, IsCut, before, after, past, end, cut_cmp, cut_version, end_rank}
use Rattle.pep_clause.specs.Cut.{past_rank, side_rank}
use Rattle.pep_clause.specs.CutBytes.{CutsKeepOrder, StandsAtVersion, cut_bytes, nine_bytes}
use Rattle.pep_clause.proofs.UnderCut.{is_under-cut_cmp}
use Rattle.pep_clause.proofs.OneCut.{one-cut}

-- what stands behind the place
abbrev behind_place : Cut → List ℕ
behind_place (before v) = suffix_bytes v
behind_place (after v) = suffix_bytes v ++ (0 ∷ [])
behind_place (past r) = 0x60 ∷ []
behind_place end = []

-- a key has a byte below 0x60 behind its place
suffix_below : (pre : Option (Phase × ℕ)) (post dev : Option ℕ) (s t : List ℕ) →
    byte_cmp (stage_bytes_of pre post dev ++ s) (0x60 ∷ t) ≡ Less
suffix_below (Some p) post dev s t = phase p.0
  where
    phase : (q : Phase) → byte_cmp ((phase_byte q ∷ number_bytes p.1) ++ s) (0x60 ∷ t) ≡ Less
    phase Alpha = refl
    phase Beta = refl
    phase Rc = refl
suffix_below None None None s t = refl
suffix_below None None (Some n) s t = refl
suffix_below None (Some n) dev s t = refl

suffix_above : (pre : Option (Phase × ℕ)) (post dev : Option ℕ) (s t : List ℕ) →
    byte_cmp (0x60 ∷ t) (stage_bytes_of pre post dev ++ s) ≡ Greater
suffix_above pre post dev s t =
    nat_list_cmp_total.antisymm (0x60 ∷ t) (stage_bytes_of pre post dev ++ s)
    ∙ ap ordering_reverse (suffix_below pre post dev s t)

-- the order of two cuts behind one place
abbrev behind_cmp : Cut → Cut → Ordering
behind_cmp c d = ordering_then (nat_cmp (past_rank c) (past_rank d))
    (ordering_then (suffix_cmp (cut_version c) (cut_version d)) (nat_cmp (side_rank c) (side_rank d)))

behind : (c d : Cut) → StandsAtVersion c → StandsAtVersion d → end_rank c ≡ 0 → end_rank d ≡ 0 →
    byte_cmp (behind_place c) (behind_place d) ≡ behind_cmp c d
behind (before v) (before w) p q f g =
    order-leads suffix-leads v w p q ∙ sym (then_last (suffix_cmp v w))
behind (before v) (after w) p q f g =
    (λ i. byte_cmp (sym (append-nil (suffix_bytes v)) i) (suffix_bytes w ++ (0 ∷ [])))
    ∙ suffix-leads.by v w p q [] (0 ∷ [])
behind (before v) (past r) p q f g = suffix_below v.pre v.post v.dev _ []
behind (after v) (before w) p q f g =
    (λ i. byte_cmp (suffix_bytes v ++ (0 ∷ [])) (sym (append-nil (suffix_bytes w)) i))
    ∙ suffix-leads.by v w p q (0 ∷ []) []
behind (after v) (after w) p q f g = suffix-leads.by v w p q (0 ∷ []) (0 ∷ [])
behind (after v) (past r) p q f g =
    ap (λ (xs : List ℕ). byte_cmp xs (0x60 ∷ []))
    (append_assoc (stage_bytes_of v.pre v.post v.dev) _ (0 ∷ []))
    ∙ suffix_below v.pre v.post v.dev _ []
behind (past r) (before w) p q f g = suffix_above w.pre w.post w.dev _ []
behind (past r) (after w) p q f g =
    ap (byte_cmp (0x60 ∷ [])) (append_assoc (stage_bytes_of w.pre w.post w.dev) _ (0 ∷ []))
    ∙ suffix_above w.pre w.post w.dev _ []
behind (past r) (past l) p q f g = refl
behind end d p q f g = cc
behind (before v) end p q f g = cc
behind (after v) end p q f g = cc
behind (past r) end p q f g = cc

at_version : (c : Cut) → StandsAtVersion c → end_rank c ≡ 0 → IsVersion (cut_version c)
at_version (before v) p f = p
at_version (after v) p f = p
at_version (past r) p f = p
at_version end p f = cc

-- the bytes of a cut that isn't `end`, by its place and what is behind it
at_place : (c : Cut) → end_rank c ≡ 0 → cut_bytes c ≡ place_bytes (cut_version c) ++ behind_place c
at_place (before v) f = refl
at_place (after v) f = append_assoc (place_bytes v) (suffix_bytes v) (0 ∷ [])
at_place (past r) f = refl
at_place end f = cc

placed : (c d : Cut) → StandsAtVersion c → StandsAtVersion d → end_rank c ≡ 0 → end_rank d ≡ 0 →
    byte_cmp (cut_bytes c) (cut_bytes d) ≡ cut_cmp c d
placed c d p q f g =
    let v = cut_version c in
    let w = cut_version d in
    (λ i. byte_cmp (at_place c f i) (at_place d g i))
    ∙ place-leads.by v w (at_version c p f) (at_version d q g) (behind_place c) (behind_place d)
    ∙ ap (ordering_then (place_cmp v w)) (behind c d p q f g)
    ∙ then_assoc (nat_cmp v.epoch w.epoch) (release_cmp v.release w.release) (behind_cmp c d)
    ∙ (λ i. ordering_then (nat_cmp (sym f i) (sym g i)) (ordering_then (nat_cmp v.epoch w.epoch)
    (ordering_then (release_cmp v.release w.release) (behind_cmp c d))))

-- ---- the end

-- the bytes of a release begin with 0 or 1
pub record StartsLow (bytes : List ℕ) : Type 0 where
  pub first : ℕ
  pub more : List ℕ
  pub low : first < 0xff
  pub is : bytes ≡ first ∷ more

release_low : (xs t : List ℕ) → StartsLow (ended release_number_bytes xs ++ t)
release_low [] t = record { first = 0; more = t; low = omega arith; is = refl }
release_low (n ∷ rest) t = record {
  first = 1;
  more = (number_bytes n ++ ended release_number_bytes rest) ++ t;
  low = omega arith;
  is = refl;
}

abbrev largest : ℕ
largest = 18446744073709551615

number_below : (n b : ℕ) → Fits n → b < 0xff → (more : List ℕ) →
    byte_cmp (number_bytes n ++ (b ∷ more)) nine_bytes ≡ Less
number_below n b h l more =
    number_bytes-leads.by n largest h (omega arith) (b ∷ more) (0xff ∷ []) ∙ low
  where
    low : ordering_then (nat_cmp n largest) (byte_cmp (b ∷ more) (0xff ∷ [])) ≡ Less
    low = elim (cases_lt n largest) [
      | inl a ↦ rw (is_less n largest a) refl
      | inr a ↦
          let e : n ≡ largest = omega arith in
          rw (e, tied_itself nat_cmp_total largest, is_less b 0xff l) refl
    ]

below_end : (c : Cut) → StandsAtVersion c → end_rank c ≡ 0 → byte_cmp (cut_bytes c) nine_bytes ≡ Less
below_end c p f =
    let v = cut_version c in
    let s = release_low (without_end_zeros v.release) (behind_place c) in
    ap (λ (xs : List ℕ). byte_cmp xs nine_bytes) (at_place c f
    ∙ append_assoc (number_bytes v.epoch) (release_bytes v) (behind_place c)
    ∙ ap (λ (xs : List ℕ). number_bytes v.epoch ++ xs) s.is)
    ∙ number_below v.epoch s.first (at_version c p f).numbers.epoch s.low s.more

above_end : (c : Cut) → StandsAtVersion c → end_rank c ≡ 0 → byte_cmp nine_bytes (cut_bytes c) ≡ Greater
above_end c p f =
    nat_list_cmp_total.antisymm nine_bytes (cut_bytes c) ∙ ap ordering_reverse (below_end c p f)

-- ---- the order

pub cut-order : (c d : Cut) → StandsAtVersion c → StandsAtVersion d →
    byte_cmp (cut_bytes c) (cut_bytes d) ≡ cut_cmp c d
cut-order (before v) (before w) p q = placed (before v) (before w) p q refl refl
cut-order (before v) (after w) p q = placed (before v) (after w) p q refl refl
cut-order (before v) (past r) p q = placed (before v) (past r) p q refl refl
cut-order (before v) end p q = below_end (before v) p refl
cut-order (after v) (before w) p q = placed (after v) (before w) p q refl refl
cut-order (after v) (after w) p q = placed (after v) (after w) p q refl refl
cut-order (after v) (past r) p q = placed (after v) (past r) p q refl refl
cut-order (after v) end p q = below_end (after v) p refl
cut-order (past l) (before w) p q = placed (past l) (before w) p q refl refl
cut-order (past l) (after w) p q = placed (past l) (after w) p q refl refl
cut-order (past l) (past r) p q = placed (past l) (past r) p q refl refl
cut-order (past l) end p q = below_end (past l) p refl
cut-order end (before w) p q = above_end (before w) q refl
cut-order end (after w) p q = above_end (after w) q refl
cut-order end (past r) p q = above_end (past r) q refl
cut-order end end p q = refl

pub stands : (c : Cut) → IsCut c → StandsAtVersion c
stands (before v) h = h.0
stands (after v) h = h.0
stands (past r) h = h.0
stands end h = tt

pub cuts-keep : CutsKeepOrder
cuts-keep = record {
  order = cut-order;
  one = λ c d h g e. one-cut c d h g (sym (cut-order c d (stands c h) (stands d g))
      ∙ ap (byte_cmp (cut_bytes c)) (sym e) ∙ tied_itself nat_list_cmp_total (cut_bytes c));
  under = λ c v h g.
      is_under-cut_cmp c v ∙ ap is_lt (sym (cut-order (before v) c g h));
}
