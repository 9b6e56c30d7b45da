-- What the fields of a rules file make is a setup.
use Rattle.std.proofs.Common.{◌≡◌, ◌≢◌, ℕ, codes, ◌<◌, ◌≤◌, Bool, true, false, eqb, List, [], ◌∷◌, length, map, get_or, refl, sym, ap, subst, ◌∙◌, inl, inr, cond, arith, All, AllPairs, find, not, Option, Some, None, Ok, Err}
use Rattle.std.proofs.lemmas.Bool.{cond-true, cond-false, eqb-false}
use Rattle.std.proofs.lemmas.Str.{IsUtf8-from_is_utf8, is_utf8-from_IsUtf8}
use Rattle.std.specs.Str.{is_utf8, IsUtf8}
use Rattle.std.proofs.lemmas.List.{get_or-map, length-map}
use Rattle.std.proofs.lemmas.List.Elements.{All-map, All-nil}
use Rattle.http_head.proofs.CaseLemmas.{cond_is}
use Rattle.std.specs.Option.{ok_or}
use Rattle.toml.specs.Data.{Members, as_table}
use Rattle.toml.specs.Parse.{parse_document}
use Rattle.weighted_pick.specs.Pick.{total_weight}
use Rattle.rule_table.specs.declared.types.Rule.{Rule as RuleType}
use Rattle.rule_table.specs.declared.types.Service.{Service as ServiceType}
use Rattle.rule_table.specs.declared.types.Sizes.{Sizes}
use Rattle.rule_table.specs.Setups.{SetupView, IsSetup, IsRule, setup_of}
use Rattle.rule_text.specs.declared.fault.RuleFault.TheVariants.{Syntax, Twice, UnknownServer, ZeroTotal}
use Rattle.rule_text.specs.declared.fault.Place.TheVariants.{Top, Service, Server, Rule}
use Rattle.rule_text.specs.Checks.{unless_any, clashes, every, first_clash, is_among, known, no_extra, once, weighs}
use Rattle.rule_text.specs.Document.{names_of, resolved, resolved_rules, document_setup, rules_in}
use Rattle.rule_text.specs.Laws.{SaysSetups}
use Rattle.rule_text.specs.Steps.{◌>>=◌, each}
use Rattle.rule_text.specs.Values.{array_at, field_at}
use Rattle.rule_text.specs.Written.{Named, Written, sizes_of, service_of, server_of, rule_of}
use Rattle.rule_text.proofs.SetupLemmas.{bind_is, ok_is, AreSizes, sizes_hold, tables_at_limits, each_all, length-each, HasForms, rule_has_forms, unless_any_is, every_all}
use Rattle.rule_text.proofs.ApartLemmas.{AreApart, IsElsewhere, apart_from_none, choices_are}

-- ---- the fields

-- all that the file writes
pub record Fields : Type 0 where
  pub sizes : Sizes
  pub service_table : Members
  pub service : ServiceType
  pub server_tables : List Members
  pub servers : List Named
  pub rule_tables : List Members
  pub rules : List Written

-- these are the fields of the document
pub record AreRead (ms : Members) (f : Fields) : Type 0 where
  pub sizes : sizes_of ms ≡ Ok f.sizes
  pub service_table : field_at as_table Top (codes "service") ms ≡ Ok f.service_table
  pub service : service_of f.service_table ≡ Ok f.service
  pub server_tables : array_at as_table 1 256 Top (codes "server") ms ≡ Ok f.server_tables
  pub servers : each server_of 0 f.server_tables ≡ Ok f.servers
  pub rule_tables : array_at as_table 1 256 Top (codes "rule") ms ≡ Ok f.rule_tables
  pub rules : each rule_of 0 f.rule_tables ≡ Ok f.rules

record AreFields (f : Fields) : Type 0 where
  sizes : AreSizes f.sizes
  server_count : (1 ≤ length f.servers) × (length f.servers ≤ 256)
  rule_count : (1 ≤ length f.rules) × (length f.rules ≤ 256)
  forms : All HasForms f.rules

fields_hold : (ms : Members) (f : Fields) → AreRead ms f → AreFields f
fields_hold ms f are =
    let server_limits = tables_at_limits (codes "server") ms f.server_tables are.server_tables in
    let rule_limits = tables_at_limits (codes "rule") ms f.rule_tables are.rule_tables in
    let server_count = length-each server_of 0 f.server_tables f.servers are.servers in
    let rule_count = length-each rule_of 0 f.rule_tables f.rules are.rules in
    record {
      sizes = sizes_hold ms f.sizes are.sizes;
      server_count = (omega arith, omega arith);
      rule_count = (omega arith, omega arith);
      forms = each_all HasForms rule_of rule_has_forms 0 f.rule_tables f.rules are.rules;
    }

-- ---- servers

pairs_map : {A B : Type 0} (view : A → B) (xs : List A) → AllPairs (λ s t. view s ≢ view t) xs → AllPairs (λ s t. s ≢ t) (map view xs)
pairs_map view [] are = λ i j d below inside. absurd (omega arith)
pairs_map view (x ∷ xs) are = λ i j d below inside same.
    let count = length-map (x ∷ xs) view in
    let later : j < length (x ∷ xs) = omega (arith, count) in
    let earlier : i < length (x ∷ xs) = omega arith in
    are i j x below later (sym (get_or-map view (x ∷ xs) i x d earlier) ∙ same ∙ get_or-map view (x ∷ xs) j x d later)

-- ---- agreement

-- the servers differ, and the rules name them, each at most once
pub record Agree (f : Fields) : Type 0 where
  pub differ : unless_any (λ s. Twice s.0) (first_clash (clashes f.service) [] f.servers) ≡ Ok tt
  pub named : every (λ n. known (names_of f.servers)) 0 f.rules ≡ Ok tt
  pub single : every (λ n. once) 0 f.rules ≡ Ok tt

are_apart : (f : Fields) → Agree f → AreApart f.service f.servers
are_apart f e =
    apart_from_none f.service [] f.servers
    (record { apart = λ i j d below inside. absurd (omega arith); elsewhere = All-nil (IsElsewhere f.service) })
    (unless_any_is (λ s. Twice s.0) (first_clash (clashes f.service) [] f.servers) e.differ)

are_known : (f : Fields) → Agree f → All (λ w. find (λ n. not (is_among (names_of f.servers) n)) w.to ≡ None) f.rules
are_known f e = every_all _ (λ n. known (names_of f.servers)) (λ n w passed. unless_any_is UnknownServer _ passed) 0 f.rules e.named

are_single : (f : Fields) → Agree f → All (λ w. first_clash is_among [] w.to ≡ None) f.rules
are_single f e = every_all _ (λ n. once) (λ n w passed. unless_any_is Twice _ passed) 0 f.rules e.single

-- ---- rules

weighs_holds : (n : ℕ) (rule : RuleType) → weighs n rule ≡ Ok tt → 0 < total_weight rule.to
weighs_holds n rule e =
    elim (cond_is (eqb (total_weight rule.to) 0) (Err (ZeroTotal n)) (Ok tt) (Ok tt) e) [
      | inl zero ↦ absurd cc
      | inr some ↦ let not_zero : total_weight rule.to ≢ 0 = eqb-false _ _ some.0 in omega arith
    ]

rule_holds : (names : List (List ℕ)) (w : Written) → HasForms w → find (λ n. not (is_among names n)) w.to ≡ None → first_clash is_among [] w.to ≡ None
    → 0 < total_weight (resolved names w).to → IsRule (length names) (resolved names w)
rule_holds names w forms unknown again weight =
    let choices = choices_are names w.to w.weights unknown again in
    record {
      host = forms.host;
      path = forms.path;
      cookie = forms.cookie;
      known = choices.known;
      once = choices.once;
      weighs = weight;
    }

pub fields_make_setup : (ms : Members) (f : Fields) → AreRead ms f → Agree f → every weighs 0 (resolved_rules f.servers f.rules) ≡ Ok tt
    → IsSetup (setup_of f.sizes f.service (map (λ s. s.1) f.servers) (resolved_rules f.servers f.rules))
fields_make_setup ms f written agreed heavy =
    let fields = fields_hold ms f written in
    let apart = are_apart f agreed in
    let names = names_of f.servers in
    let weights = every_all (λ (r : RuleType). 0 < total_weight r.to) weighs weighs_holds 0 (resolved_rules f.servers f.rules) heavy in
    let server_count = length-map f.servers (λ s. s.1) in
    let name_count = length-map f.servers (λ s. s.0) in
    let rule_count = length-map f.rules (resolved names) in
    record {
      instances = fields.sizes.instances;
      replicas = fields.sizes.replicas;
      copies = fields.sizes.copies;
      shards = fields.sizes.shards;
      secret = fields.sizes.secret;
      server_count = (omega arith, omega arith);
      rule_count = (omega arith, omega arith);
      apart = pairs_map (λ (s : Named). s.1) f.servers apart.apart;
      elsewhere = All-map (λ s. s.address ≢ f.service.address) (λ (s : Named). s.1) f.servers apart.elsewhere;
      rules = All-map (IsRule (length (map (λ s. s.1) f.servers))) (resolved names) f.rules (λ k d inside.
          let w = get_or f.rules k d in
          let here = get_or-map (resolved names) f.rules k d (resolved names d) inside in
          let there : k < length (resolved_rules f.servers f.rules) = omega (arith, rule_count) in
          let weight = subst (λ (r : RuleType). 0 < total_weight r.to) here (weights k (resolved names d) there) in
          subst (λ n. IsRule n (resolved names w)) (name_count ∙ sym server_count)
          (rule_holds names w (fields.forms k d inside) (are_known f agreed k d inside) (are_single f agreed k d inside) weight));
    }

-- ---- what bytes say

document_says_setups : (ms : Members) (setup : SetupView) → document_setup ms ≡ Ok setup → IsSetup setup
unfolding document_setup
document_says_setups ms setup e =
    let sizes = bind_is (sizes_of ms) _ setup e in
    let service_table = bind_is (field_at as_table Top (codes "service") ms) _ setup sizes.2 in
    let service = bind_is (service_of service_table.0) _ setup service_table.2 in
    let server_tables = bind_is (array_at as_table 1 256 Top (codes "server") ms) _ setup service.2 in
    let servers = bind_is (each server_of 0 server_tables.0) _ setup server_tables.2 in
    let rule_tables = bind_is (array_at as_table 1 256 Top (codes "rule") ms) _ setup servers.2 in
    let rules = bind_is (each rule_of 0 rule_tables.0) _ setup rule_tables.2 in
    let plain_top = bind_is (no_extra Top ms) _ setup rules.2 in
    let plain_service = bind_is (no_extra Service service_table.0) _ setup plain_top.2 in
    let plain_servers = bind_is (every (λ n. no_extra (Server n)) 0 server_tables.0) _ setup plain_service.2 in
    let plain_rules = bind_is (every (λ n. no_extra (Rule n)) 0 rule_tables.0) _ setup plain_servers.2 in
    let differ = bind_is (unless_any (λ s. Twice s.0) (first_clash (clashes service.0) [] servers.0)) _ setup plain_rules.2 in
    let named = bind_is (every (λ n. known (names_of servers.0)) 0 rules.0) _ setup differ.2 in
    let single = bind_is (every (λ n. once) 0 rules.0) _ setup named.2 in
    let heavy = bind_is (every weighs 0 (resolved_rules servers.0 rules.0)) _ setup single.2 in
    let f : Fields = record {
      sizes = sizes.0;
      service_table = service_table.0;
      service = service.0;
      server_tables = server_tables.0;
      servers = servers.0;
      rule_tables = rule_tables.0;
      rules = rules.0;
    } in
    let read : AreRead ms f = record {
      sizes = sizes.1;
      service_table = service_table.1;
      service = service.1;
      server_tables = server_tables.1;
      servers = servers.1;
      rule_tables = rule_tables.1;
      rules = rules.1;
    } in
    let agreed : Agree f = record { differ = differ.1; named = named.1; single = single.1 } in
    subst IsSetup (ok_is heavy.2) (fields_make_setup ms f read agreed heavy.1)

pub rules_say_setups : SaysSetups
unfolding rules_in
rules_say_setups bytes setup e =
    let ms = bind_is (ok_or (cond (is_utf8 bytes) (parse_document bytes) None) Syntax) _ setup e in
    document_says_setups ms.0 setup ms.2

-- what the document is answers what the bytes say
read_is : (bytes : List ℕ) (o : Option Members) → cond (is_utf8 bytes) (parse_document bytes) None ≡ o → rules_in bytes ≡ (ok_or o Syntax >>= document_setup)
unfolding rules_in
read_is bytes o e = ap (λ d. ok_or d Syntax >>= document_setup) e

-- what the bytes of a document say
pub rules_in-document : (bytes : List ℕ) (ms : Members) → IsUtf8 bytes → parse_document bytes ≡ Some ms → rules_in bytes ≡ document_setup ms
rules_in-document bytes ms text read =
    read_is bytes (Some ms) (cond-true (is_utf8 bytes) (parse_document bytes) None (is_utf8-from_IsUtf8 bytes text) ∙ read)

-- what bytes say that are no document
pub rules_in-none : (bytes : List ℕ) → (IsUtf8 bytes → parse_document bytes ≡ None) → rules_in bytes ≡ Err Syntax
rules_in-none bytes none = read_is bytes None (at (is_utf8 bytes) refl)
  where
    at : (b : Bool) → is_utf8 bytes ≡ b → cond (is_utf8 bytes) (parse_document bytes) None ≡ None
    at true e = cond-true (is_utf8 bytes) (parse_document bytes) None e ∙ none (IsUtf8-from_is_utf8 bytes e)
    at false e = cond-false (is_utf8 bytes) (parse_document bytes) None e
