-- The index of owners goes with the entries: as one is added, as one is dropped, and as one is looked for.
use Rattle.std.proofs.Common.{◌≡◌, ℕ, Bool, true, false, ◌==◌, [], ◌∷◌, Option, Some, None, refl, sym, ◌∙◌, ap, subst}
use Rattle.std.specs.Prelude.{cond, if◌then◌else◌}
use Rattle.std.specs.List.{AllByRecursion}
use Rattle.std.specs.Map.{lookup_entry}
use Rattle.lru.proofs.CallerLemmas.{Contains-lookup_entry}
use Rattle.std.proofs.lemmas.Bool.{eqb-true, eq-eqb, and_parts, and_from, false≢true}
use Rattle.std.proofs.lemmas.Option.{none-some, same_Some}
use Rattle.flow_id.specs.Keys.{same_flow}
use Rattle.flow_id.specs.declared.key.Flow.{Flow}
use Rattle.flow_id.proofs.SameKeys.{exact_flow, same_flow_itself}
use Rattle.kept_records.specs.Entries.{Entries, AreDistinct, kept_of, opens_to, owner_of, server_port, without}
use Rattle.kept_records.specs.Owners.{Index, same_server_port, flow_at, IsIndexed, AreOwners, Sets, Adds, Drops}
use Rattle.kept_records.specs.declared.entry.Kept.{Kept}
use Rattle.kept_records.specs.declared.entry.ServerPort.{ServerPort}
use Rattle.kept_records.specs.declared.owners.Owners.{Owners}
use Rattle.kept_records.proofs.Distinct.{gone, is_kept}
use Rattle.kept_records.proofs.Lists.{IfAny, all_looked_up, all_removed}

-- ---- a server and port
exact_at : (a b : ServerPort) → same_server_port a b ≡ true → a ≡ b
exact_at a b same =
    let both = and_parts (a.server == b.server) (a.port == b.port) same in
    let server : a.server ≡ b.server = eqb-true _ _ both.0 in
    let port : a.port ≡ b.port = eqb-true _ _ both.1 in
    λ i. record { server = server i; port = port i }

at_itself : (a : ServerPort) → same_server_port a a ≡ true
at_itself a = and_from _ _ (eq-eqb a.server a.server refl) (eq-eqb a.port a.port refl)

-- ---- the index after a change at one place
module _ (old new : Index) (at : ServerPort) (o : Option Flow) (sets : Sets old new at o) where
  set_here : flow_at new at ≡ o
  set_here = sets at ∙ ap (λ (b : Bool). cond b o (flow_at old at)) (at_itself at)

  set_apart : (other : ServerPort) → same_server_port at other ≡ false → flow_at new other ≡ flow_at old other
  set_apart other apart = sets other ∙ ap (λ (b : Bool). cond b o (flow_at old other)) apart

  -- an entry whose place is not the one that was set is found as before
  still_at : (e : Flow × Kept) → flow_at old (server_port e.1) ≡ Some e.0 → (at ≡ server_port e.1 → ⊥) → flow_at new (server_port e.1) ≡ Some e.0
  still_at e found other = by (same_server_port at (server_port e.1)) refl
    where
      by : (b : Bool) → same_server_port at (server_port e.1) ≡ b → flow_at new (server_port e.1) ≡ Some e.0
      by true same = absurd (other (exact_at at (server_port e.1) same))
      by false apart = set_apart (server_port e.1) apart ∙ found

-- ---- an entry is added
module _ (old new : Index) (at : ServerPort) (flow : Flow) (none : flow_at old at ≡ None) (sets : Sets old new at (Some flow)) where
  added_each : (es : Entries) → IsIndexed old es → IsIndexed new es
  added_each [] all = tt
  added_each (e ∷ es) all =
      (still_at old new at (Some flow) sets e all.0 (λ same. none-some e.0 (sym none ∙ ap (flow_at old) same ∙ all.0)), added_each es all.1)

pub added : (old new : Owners) (es : Entries) (flow : Flow) (kept : Kept) → Adds old new (server_port kept) flow → AreOwners old es → AreOwners new ((flow, kept) ∷ es)
added old new es flow kept adds are alone =
    let a = adds alone in
    (set_here old.flows.entries new.flows.entries (server_port kept) (Some flow) a.2, added_each old.flows.entries new.flows.entries (server_port kept) flow a.1 a.2 es (are a.0))

-- ---- an entry is dropped
module _ (old new : Index) (at : ServerPort) (g : Flow) (here : flow_at old at ≡ Some g) (sets : Sets old new at None) where
  dropped_each : (es : Entries) → AllByRecursion (λ e. same_flow g e.0 ≡ false) es → IsIndexed old es → IsIndexed new es
  dropped_each [] others all = tt
  dropped_each (e ∷ es) others all =
      let apart : at ≡ server_port e.1 → ⊥ =
      λ same. false≢true (sym others.0 ∙ ap (same_flow g) (same_Some e.0 g (sym all.0 ∙ sym (ap (flow_at old) same) ∙ here)) ∙ same_flow_itself g) in
      (still_at old new at None sets e all.0 apart, dropped_each es others.1 all.1)

pub dropped : (old new : Owners) (es : Entries) (g : Flow) (at : ServerPort) → Drops old new at → AllByRecursion (λ e. same_flow g e.0 ≡ false) es
    → (old.shared ≡ false → flow_at old.flows.entries at ≡ Some g) → AreOwners old es → AreOwners new es
dropped old new es g at drops others here are alone =
    let before : old.shared ≡ false = sym drops.0 ∙ alone in
    dropped_each old.flows.entries new.flows.entries at g (here before) drops.1 es others (are before)

-- the entry of a flow is taken out
pub taken_out : (old new : Owners) (es : Entries) (flow : Flow) (e : Flow × Kept) → Drops old new (server_port e.1) → lookup_entry (same_flow flow) es ≡ Some e
    → AreDistinct es → AreOwners old es → AreOwners new (without es flow)
taken_out old new es flow e drops is distinct are =
    let of : flow ≡ e.0 = exact_flow flow e.0 (Contains-lookup_entry (same_flow flow) es e is).1 in
    let here : old.shared ≡ false → flow_at old.flows.entries (server_port e.1) ≡ Some flow =
    λ alone. subst (IfAny (λ f. flow_at old.flows.entries (server_port f.1) ≡ Some f.0) (same_flow flow)) is
    (all_looked_up (λ f. flow_at old.flows.entries (server_port f.1) ≡ Some f.0) (same_flow flow) es (are alone)) ∙ ap Some (sym of) in
    dropped old new (without es flow) flow (server_port e.1) drops (gone es flow distinct) here
    (λ alone. all_removed (λ f. flow_at old.flows.entries (server_port f.1) ≡ Some f.0) (same_flow flow) es (are alone))

-- nothing of the index has changed
pub same_owners : (old new : Owners) (es : Entries) → new.flows.entries ≡ old.flows.entries → new.shared ≡ old.shared → AreOwners old es → AreOwners new es
same_owners old new es flows shared are alone = subst (λ (index : Index). IsIndexed index es) (sym flows) (are (sym shared ∙ alone))

-- ---- an owner is looked for
-- what the index and the flow's entry tell
abbrev pub told : Entries → ℕ → ℕ → Flow → Option Kept → Option Flow
told es server port flow None = None
told es server port flow (Some kept) = if opens_to server port kept then Some flow else None

abbrev pub found : Entries → ℕ → ℕ → Option Flow → Option Flow
found es server port None = None
found es server port (Some flow) = told es server port flow (kept_of es flow)

module _ (index : Index) (server port : ℕ) where
  abbrev place : ServerPort
  place = record { server = server; port = port }

  at_place : (kept : Kept) → opens_to server port kept ≡ true → server_port kept ≡ place
  at_place kept opens = exact_at (server_port kept) place opens

  -- the first owner is the one that the index has
  owner_is : (es : Entries) → IsIndexed index es → (flow : Flow) → owner_of es server port ≡ Some flow → flow_at index place ≡ Some flow
  owner_is [] all flow is = absurd (none-some flow is)
  owner_is (e ∷ es) all flow is = by (opens_to server port e.1) refl is (owner_is es all.1 flow)
    where
      by : (b : Bool) → opens_to server port e.1 ≡ b → (if b then Some e.0 else owner_of es server port) ≡ Some flow
          → (owner_of es server port ≡ Some flow → flow_at index place ≡ Some flow) → flow_at index place ≡ Some flow
      by true opens same rest = ap (flow_at index) (sym (at_place e.1 opens)) ∙ all.0 ∙ same
      by false other same rest = rest same

-- .. and its entry says so
owner_has : (server port : ℕ) (whole es : Entries) → AllByRecursion (λ e. kept_of whole e.0 ≡ Some e.1) es → (flow : Flow) → owner_of es server port ≡ Some flow
    → (kept : Kept) × (kept_of whole flow ≡ Some kept) × (opens_to server port kept ≡ true)
owner_has server port whole [] all flow is = absurd (none-some flow is)
owner_has server port whole (e ∷ es) all flow is = by (opens_to server port e.1) refl is (owner_has server port whole es all.1 flow)
  where
    Has : Type 0
    Has = (kept : Kept) × (kept_of whole flow ≡ Some kept) × (opens_to server port kept ≡ true)

    by : (b : Bool) → opens_to server port e.1 ≡ b → (if b then Some e.0 else owner_of es server port) ≡ Some flow → (owner_of es server port ≡ Some flow → Has) → Has
    by true opens same rest = (e.1, subst (λ (f : Flow). kept_of whole f ≡ Some e.1) (same_Some _ _ same) all.0, opens)
    by false other same rest = rest same

-- where no entry is at the place, no entry of a flow says so
none_has : (server port : ℕ) (es : Entries) (flow : Flow) (kept : Kept) → owner_of es server port ≡ None → kept_of es flow ≡ Some kept → opens_to server port kept ≡ false
none_has server port [] flow kept none is = absurd (none-some kept is)
none_has server port (e ∷ es) flow kept none is = by (opens_to server port e.1) refl none (same_flow flow e.0) is (none_has server port es flow kept)
  where
    by : (b : Bool) → opens_to server port e.1 ≡ b → (if b then Some e.0 else owner_of es server port) ≡ None → (c : Bool) → cond c (Some e.1) (kept_of es flow) ≡ Some kept
        → (owner_of es server port ≡ None → kept_of es flow ≡ Some kept → opens_to server port kept ≡ false) → opens_to server port kept ≡ false
    by true opens some c is rest = absurd (none-some e.0 (sym some))
    by false other some true is rest = subst (λ (k : Kept). opens_to server port k ≡ false) (same_Some _ _ is) other
    by false other some false is rest = rest some is

pub found_is : (index : Index) (es : Entries) (server port : ℕ) → IsIndexed index es → AreDistinct es → owner_of es server port ≡ found es server port (flow_at index (record { server = server; port = port }))
found_is index es server port all distinct = by (owner_of es server port) refl
  where
    by : (o : Option Flow) → owner_of es server port ≡ o → owner_of es server port ≡ found es server port (flow_at index (record { server = server; port = port }))
    by (Some flow) is =
        let has = owner_has server port es es (is_kept es distinct) flow is in
        is ∙ sym (ap (found es server port) (owner_is index server port es all flow is) ∙ ap (told es server port flow) has.1 ∙ ap (λ (b : Bool). if b then Some flow else None) has.2)
    by None is = is ∙ sym (nothing (flow_at index (record { server = server; port = port })))
      where
        untold : (flow : Flow) (o : Option Kept) → kept_of es flow ≡ o → told es server port flow o ≡ None
        untold flow None has = refl
        untold flow (Some kept) has = ap (λ (b : Bool). if b then Some flow else None) (none_has server port es flow kept is has)

        nothing : (o : Option Flow) → found es server port o ≡ None
        nothing None = refl
        nothing (Some flow) = untold flow (kept_of es flow) refl
