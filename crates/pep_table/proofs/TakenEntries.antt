-- What is made of a table's entries as they are read.
use Rattle.std.proofs.Common.{◌≡◌, ℕ, Bool, true, false, List, [], ◌∷◌, ◌++◌, Option, Some, None}
use Rattle.std.proofs.Common.{refl, sym, ap, subst, ◌∙◌, append-nil, append_assoc}
use Rattle.std.specs.Prelude.{bytes_eq}
use Rattle.std.proofs.lemmas.Slice.Eq.{bytes_eq-Decides}
use Rattle.pep_require.specs.Requirement.{IsAscending}
use Rattle.demands.specs.Join.{JoinsAt, JoinsTables}
use Rattle.demands.specs.Table.{IsValidTable, Named, TableParts, entry_at, names}
use Rattle.pep_table.specs.NamedEntry.{entry_alone, wanted_part}
use Rattle.pep_table.specs.OneText.{absent, entry_first, entry_other, eq_true}
use Rattle.pep_table.specs.TableLaws.{left_kept}
use Rattle.pep_table.specs.Way.EntryReading.{TakesEntries}
use Rattle.pep_table.proofs.EntryPlaces.{behind_apart, joins_next, joins_none, last_entry, other_entry}

-- where each is put behind the others, all are listed
pub listed : {A : Type 0} (items : A → TableParts) (t : TableParts) (old new : A) →
    TakesEntries (λ name e (o : A) (n : A). items n ≡ items o ++ (name, e) ∷ []) t old new →
    items new ≡ items old ++ t
listed items [] old new h = ap items (sym h) ∙ sym (append-nil (items old))
listed items (p ∷ t) old new (mid, one, h) =
    listed items t mid new h ∙ ap (λ (l : TableParts). l ++ t) one ∙ append_assoc (items old) (p ∷ []) t

-- ---- joined with what is demanded

-- joined with nothing more
joins_nothing : (a x b c : TableParts) → JoinsTables a x b → JoinsTables b [] c → JoinsTables a x c
joins_nothing a x b c h g = record {
  valid = g.valid;
  entries = λ q. subst (λ o. JoinsAt (entry_at a q) (entry_at x q) o)
      (sym (left_kept (entry_at b q) (entry_at c q) (g.entries q))) (h.entries q);
}

-- with one entry more, as far as it is wanted
one_joined : (w : Option (List ℕ)) (a b c t : TableParts) (p : Named) (rest : TableParts) →
    IsAscending (names (t ++ p ∷ rest)) → JoinsTables a (wanted_part w t) b →
    JoinsTables b (wanted_part w (p ∷ [])) c → JoinsTables a (wanted_part w (t ++ p ∷ [])) c
one_joined None a b c t p rest up h g = joins_next a b c t (t ++ p ∷ []) rest p h g refl up
one_joined (Some n) a b c t p rest up h g = by (bytes_eq p.0 n) refl
  where
    by : (v : Bool) → bytes_eq p.0 n ≡ v → JoinsTables a (entry_alone n (entry_at (t ++ p ∷ []) n)) c
    by true same =
        let is : p.0 ≡ n = (bytes_eq-Decides p.0 n).0 same in
        let apart = behind_apart t p rest up in
        let none : entry_at t n ≡ None = ap (entry_at t) (sym is) ∙ absent t p.0 apart in
        let one : entry_at (p ∷ []) n ≡ Some p.1 = ap (entry_at (p ∷ [])) (sym is) ∙ entry_first p [] in
        let last : entry_at (t ++ p ∷ []) n ≡ Some p.1 =
        ap (entry_at (t ++ p ∷ [])) (sym is) ∙ last_entry t p apart in
        subst (λ o. JoinsTables a (entry_alone n o) c) (sym last)
        (joins_next a b c [] ((n, p.1) ∷ []) [] (n, p.1)
        (subst (λ o. JoinsTables a (entry_alone n o) b) none h)
        (subst (λ o. JoinsTables b (entry_alone n o) c) one g) refl tt)
    by false other =
        let differ : p.0 ≡ n → ⊥ =
        λ is. let both : true ≡ false = sym (eq_true p.0 n is) ∙ other in cc both in
        let none : entry_at (p ∷ []) n ≡ None = entry_other p [] n differ in
        subst (λ o. JoinsTables a (entry_alone n o) c) (sym (other_entry t p n differ))
        (joins_nothing a (entry_alone n (entry_at t n)) b c h
        (subst (λ o. JoinsTables b (entry_alone n o) c) none g))

-- what is made of each of these is the table joined with it, as far as it is wanted
module _ (w : Option (List ℕ)) where
  abbrev pub JoinsEach : TableParts → TableParts → TableParts → Type 0
  JoinsEach = TakesEntries (λ name e o n. JoinsTables o (wanted_part w ((name, e) ∷ [])) n)

  each_joined : (a t done old new : TableParts) → IsAscending (names (done ++ t)) →
      JoinsTables a (wanted_part w done) old → JoinsEach t old new →
      JoinsTables a (wanted_part w (done ++ t)) new
  each_joined a [] done old new up h e =
      subst (λ (l : TableParts). JoinsTables a (wanted_part w l) new) (sym (append-nil done))
      (subst (JoinsTables a (wanted_part w done)) e h)
  each_joined a (p ∷ t) done old new up h (mid, one, more) =
      let split : (done ++ p ∷ []) ++ t ≡ done ++ p ∷ t = append_assoc done (p ∷ []) t in
      subst (λ (l : TableParts). JoinsTables a (wanted_part w l) new) split
      (each_joined a t (done ++ p ∷ []) mid new
      (subst (λ (l : TableParts). IsAscending (names l)) (sym split) up)
      (one_joined w a old mid done p t up h one) more)

  pub taken_joined : (a t new : TableParts) → IsValidTable a → IsValidTable t → JoinsEach t a new →
      JoinsTables a (wanted_part w t) new
  taken_joined a t new va vt = each_joined a t [] a new vt.names.0 (none w)
    where
      none : (v : Option (List ℕ)) → JoinsTables a (wanted_part v []) a
      none None = joins_none a va
      none (Some n) = joins_none a va
