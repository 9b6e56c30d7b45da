-- What a known ask is answered with: the records of an entry.
use Rattle.std.proofs.Common.{◌≡◌, ℕ, Bool, true, false, ◌==◌, Option, Some, None, [], ◌∷◌, refl, sym, ap, subst}
use Rattle.std.specs.Prelude.{option_map, if◌then◌else◌, ◌&&◌}
use Rattle.std.specs.List.{AllByRecursion}
use Rattle.std.proofs.lemmas.Bool.{eqb-true}
use Rattle.std.proofs.lemmas.Option.{none-some, same_Some}
use Rattle.flow_id.specs.Keys.{same_flow}
use Rattle.flow_id.specs.declared.key.Flow.{Flow}
use Rattle.flow_id.specs.declared.key.Key.TheVariants as key
use Rattle.flow_id.proofs.SameKeys.{exact_flow}
use Rattle.flow_record.specs.Records.{open_server, open_port}
use Rattle.flow_record.specs.declared.record.Record.{Record}
use Rattle.flow_record.specs.declared.record.Record.TheVariants as item
use Rattle.flow_record.specs.declared.record.Ask.{Ask}
use Rattle.flow_record.specs.declared.record.Ask.TheVariants.{Get, Add}
use Rattle.kept_records.specs.declared.entry.Kept.{Kept}
use Rattle.kept_records.specs.Entries.{Entries, kept_of, owner_of, opens_to}
use Rattle.rule_table.specs.Setups.{SetupView}
use Rattle.bench.specs.Bench.{Known, known}

module _ (K : Flow × Kept → Type 0) (setup : SetupView) where
  -- the record is that of an entry, for the key that is asked for
  abbrev pub Says : Ask → Record → Type 0
  Says (Get (key.Syn flow)) r = (kept : Kept) × K (flow, kept) × (kept.syn ≡ r)
  Says (Get (key.Open flow)) r = (kept : Kept) × K (flow, kept) × (kept.opened ≡ r)
  Says (Get (key.Port service server port)) r =
      (flow : Flow) × (kept : Kept) × K (flow, kept) × (service ≡ setup.service.number) × (open_server kept.opened ≡ server) × (open_port kept.opened ≡ port) × (item.Port flow ≡ r)
  Says _ r = ⊥

  of_flow : (flow : Flow) (kept : Entries) (k : Kept) → AllByRecursion K kept → kept_of kept flow ≡ Some k → K (flow, k)
  of_flow flow [] k all is = absurd (none-some k is)
  of_flow flow (e ∷ kept) k all is = by (same_flow flow e.0) refl (of_flow flow kept k all.1) is
    where
      by : (y : Bool) → same_flow flow e.0 ≡ y → (kept_of kept flow ≡ Some k → K (flow, k)) → (if y then Some e.1 else kept_of kept flow) ≡ Some k → K (flow, k)
      by true same rest is = subst (λ f. K (f, k)) (sym (exact_flow flow e.0 same)) (subst (λ x. K (e.0, x)) (same_Some _ _ is) all.0)
      by false same rest is = rest is

  record Owns (server port : ℕ) (flow : Flow) : Type 0 where
    kept : Kept
    has : K (flow, kept)
    server_is : open_server kept.opened ≡ server
    port_is : open_port kept.opened ≡ port

  of_port : (server port : ℕ) (kept : Entries) (flow : Flow) → AllByRecursion K kept → owner_of kept server port ≡ Some flow → Owns server port flow
  of_port server port [] flow all is = absurd (none-some flow is)
  of_port server port (e ∷ kept) flow all is = by (opens_to server port e.1) refl (of_port server port kept flow all.1) is
    where
      both : (x y : Bool) → (x && y) ≡ true → (x ≡ true) × (y ≡ true)
      both true true is = (refl, refl)
      both true false is = cc
      both false y is = cc

      by : (y : Bool) → opens_to server port e.1 ≡ y → (owner_of kept server port ≡ Some flow → Owns server port flow)
          → (if y then Some e.0 else owner_of kept server port) ≡ Some flow → Owns server port flow
      by true opens rest is =
          let two = both (open_server e.1.opened == server) (open_port e.1.opened == port) opens in
          record { kept = e.1; has = subst (λ f. K (f, e.1)) (same_Some _ _ is) all.0; server_is = eqb-true _ _ two.0; port_is = eqb-true _ _ two.1 }
      by false opens rest is = rest is

  pub known_says : (kept : Entries) (ask : Ask) (k : Known) → AllByRecursion K kept → known setup kept ask ≡ Some k → Says ask k.item
  known_says kept (Get (key.Syn flow)) k all is = by (kept_of kept flow) refl is
    where
      by : (o : Option Kept) → kept_of kept flow ≡ o → option_map (λ (x : Kept). record { flow = flow; item = x.syn }) o ≡ Some k → (x : Kept) × K (flow, x) × (x.syn ≡ k.item)
      by None has is = absurd (none-some k is)
      by (Some x) has is = (x, of_flow flow kept x all has, ap (λ (y : Known). y.item) (same_Some _ _ is))
  known_says kept (Get (key.Open flow)) k all is = by (kept_of kept flow) refl is
    where
      by : (o : Option Kept) → kept_of kept flow ≡ o → option_map (λ (x : Kept). record { flow = flow; item = x.opened }) o ≡ Some k → (x : Kept) × K (flow, x) × (x.opened ≡ k.item)
      by None has is = absurd (none-some k is)
      by (Some x) has is = (x, of_flow flow kept x all has, ap (λ (y : Known). y.item) (same_Some _ _ is))
  known_says kept (Get (key.Port service server port)) k all is = by (service == setup.service.number) refl is
    where
      owned : (service ≡ setup.service.number) → (o : Option Flow) → owner_of kept server port ≡ o → option_map (λ (flow : Flow). record { flow = flow; item = item.Port flow }) o ≡ Some k
          → Says (Get (key.Port service server port)) k.item
      owned same None has is = absurd (none-some k is)
      owned same (Some flow) has is =
          let own = of_port server port kept flow all has in
          (flow, own.kept, own.has, same, own.server_is, own.port_is, ap (λ (y : Known). y.item) (same_Some _ _ is))

      by : (y : Bool) → (service == setup.service.number) ≡ y
          → (if y then option_map (λ (flow : Flow). record { flow = flow; item = item.Port flow }) (owner_of kept server port) else None) ≡ Some k
          → Says (Get (key.Port service server port)) k.item
      by true same is = owned (eqb-true _ _ same) (owner_of kept server port) refl is
      by false same is = absurd (none-some k is)
  known_says kept (Get (key.Choice flow)) k all is = absurd (none-some k is)
  known_says kept (Get (key.Fin flow side)) k all is = absurd (none-some k is)
  known_says kept (Get (key.Gone flow)) k all is = absurd (none-some k is)
  known_says kept (Add x r) k all is = absurd (none-some k is)
