-- What a rules file says is never want of memory.
use Rattle.std.proofs.Common.{◌≡◌, ◌≢◌, ℕ, ◌+◌, ℤ, pos, codes, Bool, true, false, ◌&&◌, ◌==◌, List, [], ◌∷◌, length, ap, cond, find, not, Option, Some, None, Result, Ok, Err}
use Rattle.std.specs.Prelude.{int_le}
use Rattle.std.specs.Option.{is_some, ok_or, option_and_then}
use Rattle.std.specs.Str.{is_utf8}
use Rattle.toml.specs.Data.{Data, Members, get_member, as_integer, as_str, as_table}
use Rattle.toml.specs.Parse.{parse_document}
use Rattle.weighted_pick.specs.Pick.{total_weight}
use Rattle.rule_table.specs.Forms.{is_host, is_path, is_cookie}
use Rattle.rule_table.specs.Setups.{is_shard_count}
use Rattle.rule_table.specs.declared.types.Rule.{Rule as RuleType}
use Rattle.rule_text.specs.declared.fault.RuleFault.{RuleFault}
use Rattle.rule_text.specs.declared.fault.RuleFault.TheVariants.{Syntax, Missing, Extra, Form, Range, Twice, UnknownServer, ZeroTotal, Memory}
use Rattle.rule_text.specs.declared.fault.Place.{Place}
use Rattle.rule_text.specs.declared.fault.Place.TheVariants.{Top, Service, Server, Rule}
use Rattle.rule_text.specs.Checks.{unless_any, every, no_extra, known, once, weighs, clashes, first_clash, is_among, known_keys, keys_of}
use Rattle.rule_text.specs.Document.{names_of, resolved_rules, document_setup, rules_in}
use Rattle.rule_text.specs.Forms.{address_of, is_server_name, kept_if, secret_of}
use Rattle.rule_text.specs.Laws.{NeverMemory}
use Rattle.rule_text.specs.Names.{field_name}
use Rattle.rule_text.specs.Steps.{◌>>=◌, each}
use Rattle.rule_text.specs.Values.{field_at, whole_within, whole_at, text_at, list_within, array_at, all_of}
use Rattle.rule_text.specs.Written.{shards_of, sizes_of, service_of, server_of, weights_at, condition_at, rule_of}

-- the answer is no want of memory
abbrev IsTold : {A : Type 0} → Result A RuleFault → Type 0
IsTold r = r ≢ Err Memory

-- ---- steps

err_told : {A : Type 0} (fault : RuleFault) → fault ≢ Memory → IsTold {A = A} (Err fault)
err_told fault other e = other cc

ok_told : {A : Type 0} (a : A) → IsTold (Ok a)
ok_told a e = absurd cc

bind_told : {A B : Type 0} (r : Result A RuleFault) (next : A → Result B RuleFault) → IsTold r → ((a : A) → IsTold (next a)) → IsTold (r >>= next)
bind_told (Ok a) next told later = later a
bind_told (Err fault) next told later = λ e. let same : fault ≡ Memory = cc in told (ap Err same)

test_told : {A : Type 0} (test : Bool) (a : A) (fault : RuleFault) → fault ≢ Memory → IsTold (cond test (Ok a) (Err fault))
test_told true a fault other = ok_told a
test_told false a fault other = err_told fault other

each_told : {A B : Type 0} (step : ℕ → A → Result B RuleFault) → ((n : ℕ) (x : A) → IsTold (step n x)) → (n : ℕ) (xs : List A) → IsTold (each step n xs)
each_told step told n [] = ok_told []
each_told step told n (x ∷ xs) =
    bind_told (step n x) _ (told n x) (λ y. bind_told (each step (n + 1) xs) _ (each_told step told (n + 1) xs) (λ ys. ok_told (y ∷ ys)))

every_told : {A : Type 0} (check : ℕ → A → Result (Unit {0}) RuleFault) → ((n : ℕ) (x : A) → IsTold (check n x)) → (n : ℕ) (xs : List A) → IsTold (every check n xs)
every_told check told n [] = ok_told tt
every_told check told n (x ∷ xs) = bind_told (check n x) _ (told n x) (λ _. every_told check told (n + 1) xs)

unless_any_told : {A : Type 0} (fault : A → RuleFault) (o : Option A) → ((a : A) → fault a ≢ Memory) → IsTold (unless_any fault o)
unless_any_told fault None other = ok_told tt
unless_any_told fault (Some a) other = err_told (fault a) (other a)

-- ---- values

or_told : {A : Type 0} (o : Option A) (fault : RuleFault) → fault ≢ Memory → IsTold (ok_or o fault)
or_told None fault other = err_told fault other
or_told (Some a) fault other = ok_told a

field_told : {A : Type 0} (form : Data → Option A) (place : Place) (key : List ℕ) (ms : Members) → IsTold (field_at form place key ms)
field_told form place key ms =
    bind_told (ok_or (get_member key ms) (Missing (field_name place key))) _ (or_told (get_member key ms) _ (λ e. cc)) (λ d.
    or_told (form d) (Form (field_name place key)) (λ e. cc))

whole_within_told : (name : List ℕ) (low high : ℕ) (z : ℤ) → IsTold (whole_within name low high z)
whole_within_told name low high z = test_told (int_le (pos low) z && int_le z (pos high)) _ (Range name z) (λ e. cc)

whole_told : (place : Place) (key : List ℕ) (low high : ℕ) (ms : Members) → IsTold (whole_at place key low high ms)
unfolding whole_at
whole_told place key low high ms =
    bind_told (field_at as_integer place key ms) _ (field_told as_integer place key ms) (whole_within_told (field_name place key) low high)

text_told : {A : Type 0} (reading : List ℕ → Option A) (place : Place) (key : List ℕ) (ms : Members) → IsTold (text_at reading place key ms)
unfolding text_at
text_told reading place key ms =
    bind_told (field_at as_str place key ms) _ (field_told as_str place key ms) (λ s. or_told (reading s) (Form (field_name place key)) (λ e. cc))

array_told : {A : Type 0} (form : Data → Option A) (low high : ℕ) (place : Place) (key : List ℕ) (ms : Members)
    → IsTold (array_at form low high place key ms)
unfolding array_at
array_told form low high place key ms =
    bind_told (field_at (list_within low high) place key ms) _ (field_told (list_within low high) place key ms) (λ ds.
    or_told (all_of form ds) (Form (field_name place key)) (λ e. cc))

-- ---- fields

shards_told : (ms : Members) → IsTold (shards_of ms)
unfolding shards_of
shards_told ms =
    bind_told (whole_at Top (codes "shards") 1 64 ms) _ (whole_told Top (codes "shards") 1 64 ms) (λ n.
    test_told (is_shard_count n) n (Range _ (pos n)) (λ e. cc))

sizes_told : (ms : Members) → IsTold (sizes_of ms)
unfolding sizes_of
sizes_told ms =
    bind_told (whole_at Top (codes "instances") 1 16 ms) _ (whole_told Top (codes "instances") 1 16 ms) (λ instances.
    bind_told (whole_at Top (codes "replicas") 1 8 ms) _ (whole_told Top (codes "replicas") 1 8 ms) (λ replicas.
    bind_told (whole_at Top (codes "copies") 1 replicas ms) _ (whole_told Top (codes "copies") 1 replicas ms) (λ copies.
    bind_told (shards_of ms) _ (shards_told ms) (λ shards. bind_told (text_at secret_of Top (codes "secret") ms) _ (text_told secret_of Top (codes "secret") ms) (λ secret. ok_told _)))))

service_told : (ms : Members) → IsTold (service_of ms)
unfolding service_of
service_told ms =
    bind_told (whole_at Service (codes "number") 0 65535 ms) _ (whole_told Service (codes "number") 0 65535 ms) (λ number.
    bind_told (text_at address_of Service (codes "address") ms) _ (text_told address_of Service (codes "address") ms) (λ address.
    bind_told (whole_at Service (codes "port") 1 65535 ms) _ (whole_told Service (codes "port") 1 65535 ms) (λ port. ok_told _)))

server_told : (n : ℕ) (ms : Members) → IsTold (server_of n ms)
unfolding server_of
server_told n ms =
    bind_told (text_at (kept_if is_server_name) (Server n) (codes "name") ms) _ (text_told (kept_if is_server_name) (Server n) (codes "name") ms) (λ name.
    bind_told (text_at address_of (Server n) (codes "address") ms) _ (text_told address_of (Server n) (codes "address") ms) (λ address.
    bind_told (whole_at (Server n) (codes "port") 1 65535 ms) _ (whole_told (Server n) (codes "port") 1 65535 ms) (λ port. ok_told _)))

weights_told : (place : Place) (count : ℕ) (ms : Members) → IsTold (weights_at place count ms)
unfolding weights_at
weights_told place count ms =
    bind_told (array_at as_integer count count place (codes "weights") ms) _ (array_told as_integer count count place (codes "weights") ms) (λ zs.
    each_told (λ k. whole_within (field_name place (codes "weights")) 0 65535) (λ _ z. whole_within_told _ 0 65535 z) 0 zs)

condition_told : (test : List ℕ → Bool) (place : Place) (key : List ℕ) (ms : Members) → IsTold (condition_at test place key ms)
unfolding condition_at
condition_told test place key ms = at (is_some (get_member key ms))
  where
    at : (b : Bool) → IsTold (cond b (text_at (kept_if test) place key ms >>= λ s. Ok (Some s)) (Ok None))
    at true = bind_told (text_at (kept_if test) place key ms) _ (text_told (kept_if test) place key ms) (λ s. ok_told (Some s))
    at false = ok_told None

server_name_of : Data → Option (List ℕ)
server_name_of d = option_and_then (kept_if is_server_name) (as_str d)

rule_told : (n : ℕ) (ms : Members) → IsTold (rule_of n ms)
unfolding rule_of server_name_of
rule_told n ms =
    bind_told (array_at server_name_of 1 256 (Rule n) (codes "to") ms) _ (array_told server_name_of 1 256 (Rule n) (codes "to") ms) (λ to.
    bind_told (weights_at (Rule n) (length to) ms) _ (weights_told (Rule n) (length to) ms) (λ weights.
    bind_told (condition_at is_host (Rule n) (codes "host") ms) _ (condition_told is_host (Rule n) (codes "host") ms) (λ host.
    bind_told (condition_at is_path (Rule n) (codes "path") ms) _ (condition_told is_path (Rule n) (codes "path") ms) (λ path.
    bind_told (condition_at is_cookie (Rule n) (codes "cookie") ms) _ (condition_told is_cookie (Rule n) (codes "cookie") ms) (λ cookie. ok_told _)))))

tables_told : (key : List ℕ) (ms : Members) → IsTold (array_at as_table 1 256 Top key ms)
tables_told key ms = array_told as_table 1 256 Top key ms

-- ---- checks

no_extra_told : (place : Place) (ms : Members) → IsTold (no_extra place ms)
unfolding no_extra
no_extra_told place ms =
    unless_any_told (λ k. Extra (field_name place k)) (find (λ k. not (is_among (known_keys place) k)) (keys_of ms)) (λ k e. cc)

unless_told : (test : Bool) (fault : RuleFault) → fault ≢ Memory → IsTold {A = Unit {0}} (cond test (Err fault) (Ok tt))
unless_told true fault other = err_told fault other
unless_told false fault other = ok_told tt

weighs_told : (n : ℕ) (rule : RuleType) → IsTold (weighs n rule)
weighs_told n rule = unless_told (total_weight rule.to == 0) (ZeroTotal n) (λ e. cc)

document_told : (ms : Members) → IsTold (document_setup ms)
unfolding document_setup
document_told ms =
    bind_told (sizes_of ms) _ (sizes_told ms) (λ sizes.
    bind_told (field_at as_table Top (codes "service") ms) _ (field_told as_table Top (codes "service") ms) (λ service_table.
    bind_told (service_of service_table) _ (service_told service_table) (λ service.
    bind_told (array_at as_table 1 256 Top (codes "server") ms) _ (tables_told (codes "server") ms) (λ server_tables.
    bind_told (each server_of 0 server_tables) _ (each_told server_of server_told 0 server_tables) (λ servers.
    bind_told (array_at as_table 1 256 Top (codes "rule") ms) _ (tables_told (codes "rule") ms) (λ rule_tables.
    bind_told (each rule_of 0 rule_tables) _ (each_told rule_of rule_told 0 rule_tables) (λ rules.
    bind_told (no_extra Top ms) _ (no_extra_told Top ms) (λ _.
    bind_told (no_extra Service service_table) _ (no_extra_told Service service_table) (λ _.
    bind_told (every (λ n. no_extra (Server n)) 0 server_tables) _ (every_told _ (λ n. no_extra_told (Server n)) 0 server_tables) (λ _.
    bind_told (every (λ n. no_extra (Rule n)) 0 rule_tables) _ (every_told _ (λ n. no_extra_told (Rule n)) 0 rule_tables) (λ _.
    bind_told (unless_any (λ s. Twice s.0) (first_clash (clashes service) [] servers)) _
    (unless_any_told (λ s. Twice s.0) (first_clash (clashes service) [] servers) (λ s e. cc)) (λ _.
    bind_told (every (λ n. known (names_of servers)) 0 rules) _
    (every_told _ (λ n w. unless_any_told UnknownServer _ (λ name e. cc)) 0 rules) (λ _.
    bind_told (every (λ n. once) 0 rules) _ (every_told _ (λ n w. unless_any_told Twice (first_clash is_among [] w.to) (λ name e. cc)) 0 rules) (λ _.
    bind_told (every weighs 0 (resolved_rules servers rules)) _ (every_told weighs weighs_told 0 (resolved_rules servers rules)) (λ _.
    ok_told _)))))))))))))))

pub never_memory : NeverMemory
unfolding rules_in
never_memory bytes =
    let document = cond (is_utf8 bytes) (parse_document bytes) None in
    bind_told (ok_or document Syntax) _ (or_told document Syntax (λ e. cc)) document_told
