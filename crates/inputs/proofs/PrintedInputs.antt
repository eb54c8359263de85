-- A table that was printed of inputs stands for them.
use Rattle.std.proofs.Common.{◌≡◌, ℕ, ◌≤◌, ◌⊎◌, List, [], ◌∷◌, ◌++◌, length, refl, sym, subst, inl, inr}
use Rattle.std.proofs.Common.{Option, Some, None}
use Rattle.std.specs.Prelude.{IsUtf8, ◌↔◌}
use Rattle.std.proofs.lemmas.List.Elements.{All-head}
use Rattle.std.proofs.lemmas.Option.{IfSome_then}
use Rattle.pep_marker.specs.Environment.{EnvironmentParts}
use Rattle.pep_table.proofs.JoinedDemands.{ExactEntry, HasEntry, either, from_both, own_table, same_at}
use Rattle.pep_table.proofs.JoinedDemands.{table_at, undemanded}
use Rattle.pep_table.proofs.SameDemands.{same_demands, table_from_entries}
use Rattle.demands.specs.Demand.{AdmitsBesideTexts, Demand, Demands, Together}
use Rattle.pep_table.specs.OneText.{one_text}
use Rattle.demands.specs.Table.{AdmitsPoint, EntryParts, HasExactPoints, IsEntry, IsTable}
use Rattle.demands.specs.Table.{TableDemands, TableParts, entry_at}
use Rattle.pep_table.specs.TableText.{IsTableText}
use Rattle.inputs.specs.declared.input.Input.{Input}
use Rattle.inputs.specs.declared.input.Kind.{Kind}
use Rattle.inputs.specs.declared.input.Kind.TheVariants as kind
use Rattle.inputs.specs.Gathered.{AcceptsBytes, Gathered, IsAccepted}
use Rattle.texts.specs.Limits.{input_limit}
use Rattle.inputs.specs.Lists.{HoldsTable}
use Rattle.inputs.specs.Merge.{IsMerge}
use Rattle.inputs.proofs.AcceptedInputs.{table_demands_in}

swap : {A B C : Type 0} → C ↔ A → C ↔ B → A ↔ B
swap h g = ((λ a. g.0 (h.1 a)), λ b. h.0 (g.1 b))

keep : {A : Type 0} → A ↔ A
keep = ((λ a. a), λ a. a)

to_first : {A B C : Type 0} → (B → A) → B ⊎ C → A ⊎ C
to_first f (inl q) = inl (f q)
to_first f (inr w) = inr w

first_turned : {A B C : Type 0} → A ↔ B → (B ⊎ C) ↔ (A ⊎ C)
first_turned h = (to_first h.1, to_first h.0)

-- demands of which an entry is that of, in place of others
replace_entry : (Q P W : Demand → Type 0) (f g : EntryParts) → IsEntry Q f → IsEntry P f →
    IsEntry (λ d. Q d ⊎ W d) g → IsEntry (λ d. P d ⊎ W d) g
replace_entry Q P W f g h p k = record {
  extras = λ x. either (k.extras x) (swap (h.extras x) (p.extras x)) keep;
  urls = λ u. either (k.urls u) (swap (h.urls u) (p.urls u)) keep;
  texts = λ t. either (k.texts t) (swap (h.texts t) (p.texts t)) keep;
  versions = λ v is. (
    λ m. from_both P W (λ d. AdmitsBesideTexts d v)
        ((p.versions v is).0 ((h.versions v is).1 (λ d q. (k.versions v is).0 m d (inl q))))
        (λ d w. (k.versions v is).0 m d (inr w)),
    λ a. (k.versions v is).1 (from_both Q W (λ d. AdmitsBesideTexts d v)
        ((h.versions v is).0 ((p.versions v is).1 (λ d q. a d (inl q))))
        (λ d w. a d (inr w))),
  );
}

replace_points : (Q P W : Demand → Type 0) (f g : EntryParts) → ExactEntry Q f → ExactEntry P f →
    ExactEntry (λ d. Q d ⊎ W d) g → ExactEntry (λ d. P d ⊎ W d) g
replace_points Q P W f g h p k = λ cut is. (
  λ m. let b = (k cut is).0 m in (
    b.0,
    from_both P W (λ d. AdmitsPoint d cut)
        ((p cut is).0 ((h cut is).1 (b.0, λ d q. b.1 d (inl q)))).1 (λ d w. b.1 d (inr w)),
  ),
  λ a. (k cut is).1 (
    a.0,
    from_both Q W (λ d. AdmitsPoint d cut)
        ((h cut is).0 ((p cut is).1 (a.0, λ d q. a.1 d (inl q)))).1 (λ d w. a.1 d (inr w)),
  ),
)

replace_at : (Q P W : Demand → Type 0) (o r : Option EntryParts) → HasEntry Q o → HasEntry P o →
    HasEntry (λ d. Q d ⊎ W d) r → HasEntry (λ d. P d ⊎ W d) r
replace_at Q P W None r h p k =
    same_at (λ d. Q d ⊎ W d) (λ d. P d ⊎ W d) r (λ d. (there d, back d)) k
  where
    there : (d : Demand) → Q d ⊎ W d → P d ⊎ W d
    there d (inl q) = absurd (undemanded Q h.named d q)
    there d (inr w) = inr w

    back : (d : Demand) → P d ⊎ W d → Q d ⊎ W d
    back d (inl q) = absurd (undemanded P p.named d q)
    back d (inr w) = inr w
replace_at Q P W (Some f) r h p k = record {
  named = (
    λ s. let q = p.named.0 refl in (q.0, inl q.1),
    λ d. k.named.1 (let q = h.named.0 refl in (q.0, inl q.1)),
  );
  entry = IfSome_then r k.entry (λ g. replace_entry Q P W f g h.entry p.entry);
  points = IfSome_then r k.points (λ g. replace_points Q P W f g h.points p.points);
}

-- of two sets of demands with one table, one may stand for the other
pub replaced : (Q P W : Demands) (s t : TableParts) → IsTable Q s → HasExactPoints Q s →
    IsTable P s → HasExactPoints P s → IsTable (Together Q W) t → HasExactPoints (Together Q W) t →
    IsTable (Together P W) t × HasExactPoints (Together P W) t
replaced Q P W s t h hp p pp k kp = table_from_entries (Together P W) t k.valid (λ name.
    replace_at (Q name) (P name) (W name) (entry_at s name) (entry_at t name)
    (table_at Q s name h hp) (table_at P s name p pp) (table_at (Together Q W) t name k kp))

-- what inputs in a row demand
gathered_both : (e : EnvironmentParts) (a b : List Input) (name : List ℕ) (d : Demand) →
    Gathered e (a ++ b) name d ↔ Together (Gathered e a) (Gathered e b) name d
gathered_both e [] b name d = ((λ g. inr g), back)
  where
    back : Together (Gathered e []) (Gathered e b) name d → Gathered e b name d
    back (inl never) = absurd never
    back (inr g) = g
gathered_both e (i ∷ a) b name d = further (gathered_both e a b name d)
  where
    further : Gathered e (a ++ b) name d ↔ Together (Gathered e a) (Gathered e b) name d →
        Gathered e ((i ∷ a) ++ b) name d
        ↔ Together (Gathered e (i ∷ a)) (Gathered e b) name d
    further more = (there, back)
      where
        there : Gathered e ((i ∷ a) ++ b) name d →
            Together (Gathered e (i ∷ a)) (Gathered e b) name d
        there (inl h) = inl (inl h)
        there (inr g) = elim (more.0 g) [
          | inl q ↦ inl (inr q)
          | inr w ↦ inr w
        ]

        back : Together (Gathered e (i ∷ a)) (Gathered e b) name d →
            Gathered e ((i ∷ a) ++ b) name d
        back (inl (inl h)) = inl h
        back (inl (inr q)) = inr (more.1 (inl q))
        back (inr w) = inr (more.1 (inr w))

is_file : (e : EnvironmentParts) (k : Kind) (group : Option (List ℕ)) (bytes : List ℕ) →
    k ≡ kind.Table → AcceptsBytes e k group bytes → (length bytes ≤ input_limit) × IsUtf8 bytes
is_file e kind.List group bytes same h = cc same
is_file e kind.Project group bytes same h = cc same
is_file e kind.Table group bytes same (inl h) = absurd h.1
is_file e kind.Table group bytes same (inr h) = (h.1.size, h.1.encoding)

pub printed_in_place : (e : EnvironmentParts) (a b : List Input) (i : Input) (x y z : List ℕ) →
    IsMerge e a x → i.kind ≡ kind.Table → i.bytes.items ≡ x → IsMerge e (i ∷ b) y →
    IsMerge e (a ++ b) z → y ≡ z
printed_in_place e a b i x y z m same text n l =
    let s = m.table in
    let Q = Gathered e a in
    let P = TableDemands s in
    let W = Gathered e b in
    let bytes =
    is_file e i.kind i.group i.bytes.items same (All-head (IsAccepted e) i b n.accepted) in
    let file : HoldsTable e i.kind i.bytes.items s =
    subst (λ k. HoldsTable e k i.bytes.items s) (sym same) (record {
      size = bytes.0;
      encoding = bytes.1;
      valid = m.is_table.valid;
      text = inl (subst (IsTableText e s) (sym text) m.text);
    }) in
    let own = own_table s m.is_table.valid in
    let at_once = same_demands (Gathered e (a ++ b)) (Together Q W) l.table (gathered_both e a b)
    l.is_table l.points in
    let with = same_demands (Gathered e (i ∷ b)) (Together P W) n.table
    (λ name d. first_turned (table_demands_in e i.kind i.group i.bytes.items s name d file)) n.is_table
    n.points in
    let swapped =
    replaced Q P W s l.table m.is_table m.points own.0 own.1 at_once.0 at_once.1 in
    one_text e (Together P W) (Together P W) n.table l.table y z (λ name d. keep) with.0
    swapped.0 n.text l.text
