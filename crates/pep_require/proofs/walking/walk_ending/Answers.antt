use Rattle.std.proofs.Common.{◌≡◌, ◌∷◌, [], MatchOption, None, Some, subst, sym}
use Rattle.pep_require.specs.Reads.{ReadsMarker, always, when}
use Rattle.pep_require.proofs.SinkLemmas.{on_ok}
use Rattle.pep_require.proofs.walking.walk_ending.Goals as goal

pub returns-in-Some-clause-ok : goal.returns-in-Some-clause-ok
returns-in-Some-clause-ok g c =
    let behind = subst (λ o. MatchOption o (c.args.left.now ≡ []) (λ text. c.args.left.now ≡ 59 ∷ text.now))
    c.in-Some.is c.in_ok-text.ensures.found in
    on_ok c.marker.result _ _ (λ h. (
      Some h.0,
      subst (λ t. ReadsMarker t (Some h.0)) (sym behind) (when c.in-Some.text.now h.1),
      λ p none held. h.2 p held,
    )) c.marker.ensures.ok

pub returns-in-None-clause-ok : goal.returns-in-None-clause-ok
returns-in-None-clause-ok g c =
    let nothing = subst (λ o. MatchOption o (c.args.left.now ≡ []) (λ text. c.args.left.now ≡ 59 ∷ text.now))
    c.in-None.is c.in_ok-text.ensures.found in (
      None,
      subst (λ t. ReadsMarker t None) (sym nothing) always,
      λ p none held. subst (λ m. g.S.LineSink.holds c.args.sink.now c.args.line.now
          (record { name = p.name; extras = p.extras; target = p.target; marker = m })) none held,
    )
