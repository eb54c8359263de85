-- A text is one marker, by the law of its tokens and that of chains.
use Rattle.std.proofs.Common.{◌≡◌, ℕ, ◌<◌, Bool, true, false, List, [], ◌∷◌, ◌++◌, length}
use Rattle.std.proofs.Common.{sym, ap, subst, ◌∙◌, refl, append-nil, arith, map, ◌==◌, ◌⊎◌}
use Rattle.std.proofs.Common.{inl, inr}
use Rattle.std.proofs.lemmas.Bool.Decides.{nat_tests}
use Rattle.pep_marker.specs.Marker.{MarkerParts, Token, HasTokens, IsOrChain}
use Rattle.pep_marker.specs.Marker.{IsMarker, is_word_byte, NoMarker, BeginsWith, IsNoMarker}
use Rattle.pep_marker.specs.declared.fault.MarkerFault.{MarkerFault}
use Rattle.pep_marker.specs.declared.fault.MarkerFault.TheVariants.{NoMemory}
use Rattle.pep_marker.specs.Way.Token.{token_of}
use Rattle.pep_marker.specs.declared.token.Token as cut
use Rattle.pep_marker.specs.Way.Chains.{ChainFrom, ChainTo, IsFront, IsWhole, NoFront, NoWhole, Refuses}
use Rattle.pep_marker.specs.declared.making.Link.TheVariants.{Or}
use Rattle.pep_marker.proofs.ChainLaws.{chain_grammar, one_marker_of_tokens, same_chain}
use Rattle.pep_marker.proofs.ChainLaws.{whole_from}
use Rattle.pep_marker.proofs.ChainTexts.{or_tokens}
use Rattle.pep_marker.proofs.TokenLaws.{one_token_list}
use Rattle.pep_marker.proofs.TokenTexts.{Breaks, joined_texts, read_has_tokens, with_space}
use Rattle.texts.proofs.Connectives.{and_first}
use Rattle.std.specs.List.{list_all}
use Rattle.texts.specs.Bytes.{is_blank_byte}
use Rattle.pep_marker.specs.MarkerText.{marker_text}
use Rattle.pep_marker.specs.Way.MarkerTokens.{marker_tokens}

-- the tokens of a text that is a marker
tokens_are : (x : List ℕ) (ts : List Token) (m : MarkerParts) → HasTokens x ts →
    (marker : IsMarker x m) → IsOrChain 64 ts m
tokens_are x ts m h marker =
    subst (λ us. IsOrChain 64 us m) (one_token_list x marker.tokens ts marker.written h)
    marker.grammar

pub one_marker : (x : List ℕ) (m n : MarkerParts) → IsMarker x m → IsMarker x n → m ≡ n
one_marker x m n h g =
    one_marker_of_tokens (tokens_are x g.tokens m g.written h) g.grammar

-- what is read is read back from its own text
pub text_is_read : (x : List ℕ) (m : MarkerParts) → IsMarker x m → IsMarker (marker_text m) m
text_is_read x m h = record {
  tokens = marker_tokens m;
  written = read_has_tokens x m h;
  grammar = or_tokens h.grammar;
  few = h.few;
}

-- a text with no tokens is none
pub no_tokens : (x : List ℕ) → ((ts : List Token) → ¬ HasTokens x ts) → NoMarker x
no_tokens x none m h = none h.tokens h.written

-- nor one whose tokens are no chain
no_chain : (x : List ℕ) (ts : List Token) → HasTokens x ts →
    NoWhole ts → NoMarker x
no_chain x ts h none m marker =
    let more = none m (whole_from (tokens_are x ts m h marker)) in
    omega (arith, more, marker.few)

-- ---- the steps of the code, with the tokens that it reads as its caller has them

-- what is read to its end is a marker
pub read_marker : {A : MarkerParts → Type 0} (x : List ℕ) (found ts : List Token) → ts ≡ found →
    HasTokens x found → IsWhole ts A → (m : MarkerParts) × IsMarker x m × A m
read_marker x found ts same h whole =
    let (used, f, g) = chain_grammar whole.chain in (
      whole.marker,
      record {
        tokens = used;
        written = subst (HasTokens x) (sym same ∙ f ∙ append-nil used) h;
        grammar = g;
        few = whole.few;
      },
      whole.meant,
    )

-- where nothing is left behind the chain at the front, the tokens are this chain
pub whole_read : {A : MarkerParts → Type 0} (count : ℕ) (ts rest : List Token) →
    IsFront (ChainTo Or 64 ts) A 1024 count rest → rest ≡ [] → IsWhole ts A
whole_read count ts rest h none = record {
  marker = h.marker;
  chain = subst (ChainFrom Or 64 ts h.marker) none h.stands.0;
  meant = h.meant;
  few = omega (arith, h.counted, h.few);
}

-- and where something is, they are none
pub left_behind : (ts rest : List Token) (m : MarkerParts) → ChainTo Or 64 ts m rest →
    0 < length rest → NoWhole ts
left_behind ts rest m (c, e) some n whole =
    let one = same_chain c whole e refl in
    omega (arith, some, ap length one.1)

-- nor where there is no chain at the front
pub none_whole : (ts : List Token) → NoFront (ChainTo Or 64 ts) 1024 → NoWhole ts
none_whole ts none m whole = none m [] (whole, refl)

-- there is no marker where the tokens that are found, which may not be the whole text, are no chain
pub no_chain_of : (x : List ℕ) (found ts : List Token) (whole : Bool) → ts ≡ found →
    (whole ≡ true → HasTokens x found) →
    (whole ≡ false → (us : List Token) → ¬ HasTokens x us) →
    NoWhole ts → NoMarker x
no_chain_of x found ts true same h stopped none =
    no_chain x ts (subst (HasTokens x) (sym same) (h refl)) none
no_chain_of x found ts false same h stopped none = no_tokens x (stopped refl)

-- and it is refused as these tokens are
pub no_marker_of : (P : Type 0) (x : List ℕ) (found ts : List Token) (e : MarkerFault) → ts ≡ found →
    BeginsWith x found → (P → NoMarker x) → Refuses P 64 1024 ts e →
    (e ≡ NoMemory) ⊎ IsNoMarker x e
no_marker_of P x found ts e same front none (inl memory) = inl memory
no_marker_of P x found ts e same front none (inr (inl bad, why)) = inr (inl bad, none why)
no_marker_of P x found ts e same front none (inr (inr (deep, many), why)) =
    inr (inr (deep, (ts, subst (BeginsWith x) (sym same) front, many)), none why)

pub some_left : (us : List cut.Token) → (length us == 0) ≡ false → 0 < length (map token_of us)
some_left [] e = absurd (cc e)
some_left (u ∷ us) e = omega arith

pub none_left : (us : List cut.Token) → (length us == 0) ≡ true → map token_of us ≡ []
none_left [] e = refl
none_left (u ∷ us) e = absurd (not_empty u us e)
  where
    not_empty : (u : cut.Token) (us : List cut.Token) → ¬ ((length (u ∷ us) == 0) ≡ true)
    not_empty u us e = grind (arith, nat_tests)

-- ---- white space behind a marker says nothing

blank_breaks : (space : List ℕ) → list_all is_blank_byte space ≡ true → Breaks space
blank_breaks [] h = (refl, refl)
blank_breaks (b ∷ space) h =
    let blank = and_first (is_blank_byte b) (list_all is_blank_byte space) h in
    (no_word b blank, no_equal b blank)
  where
    no_word : (b : ℕ) → is_blank_byte b ≡ true → is_word_byte b ≡ false
    no_word b e = grind (arith, nat_tests)

    no_equal : (b : ℕ) → is_blank_byte b ≡ true → (b == 61) ≡ false
    no_equal b e = grind (arith, nat_tests)

pub marker_with_space : (x space : List ℕ) (m : MarkerParts) → list_all is_blank_byte space ≡ true →
    IsMarker x m → IsMarker (x ++ space) m
marker_with_space x space m blank h = record {
  tokens = h.tokens;
  written = subst (HasTokens (x ++ space)) (append-nil h.tokens)
      (joined_texts x space h.tokens [] (blank_breaks space blank) h.written blank);
  grammar = h.grammar;
  few = h.few;
}

-- nor does white space before it
pub marker_behind_space : (space x : List ℕ) (m : MarkerParts) →
    list_all is_blank_byte space ≡ true → IsMarker x m → IsMarker (space ++ x) m
marker_behind_space space x m blank h = record {
  tokens = h.tokens;
  written = with_space space x h.tokens blank h.written;
  grammar = h.grammar;
  few = h.few;
}
