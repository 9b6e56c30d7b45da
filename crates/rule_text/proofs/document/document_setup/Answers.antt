use Rattle.std.proofs.Common.{[], ap, codes, map, rules, subst, sym, ◌∙◌}
use Rattle.toml.specs.Data.{as_table}
use Rattle.toml.specs.View.{table_view}
use Rattle.rule_table.specs.Setups.{IsSetup, setup_of}
use Rattle.rule_text.specs.declared.fault.RuleFault.TheVariants.{Twice}
use Rattle.rule_text.specs.Checks.{clashes, every, first_clash, known, once, unless_any, weighs}
use Rattle.rule_text.specs.Document.{document_setup, names_of, resolved_rules}
use Rattle.rule_text.specs.Steps.{Gives, each}
use Rattle.rule_text.specs.Values.{field_at}
use Rattle.rule_text.specs.Written.{Named, rule_of, server_of}
use Rattle.rule_text.specs.WrittenViews.{named, written}
use Rattle.rule_text.proofs.MadeLemmas.{Fields, fields_make_setup}
use Rattle.rule_text.proofs.document.document_setup.Goals as goal

pub returns-in_err-all_known : goal.returns-in_err-all_known
unfolding document_setup
returns-in_err-all_known c =
    let rs = c.deref-7.result.now in
    let servers = subst (λ ss. Gives (λ u. u) c.all_known.result (every (λ n. known (names_of (map named ss))) 0 (map written rs))) c.deref-6.ensures.value c.all_known.ensures in
    let both = subst (λ xs. Gives (λ u. u) c.all_known.result (every (λ n. known (names_of (map named c.in_ok-servers.servers.items))) 0 (map written xs))) c.deref-7.ensures.value servers in
    search (rules, both)

pub returns-in_err-all_once : goal.returns-in_err-all_once
unfolding document_setup
returns-in_err-all_once c =
    let known_all = ap (λ ss. every (λ n. known (names_of (map named ss))) 0 (map written c.in_ok-rules.rules.items)) (sym c.deref-6.ensures.value)
    ∙ ap (λ rs. every (λ n. known (names_of (map named c.deref-6.result.now))) 0 (map written rs)) (sym c.deref-7.ensures.value) ∙ c.in_ok-all_known.ensures in
    let told = subst (λ xs. Gives (λ u. u) c.all_once.result (every (λ n. once) 0 (map written xs))) c.deref-8.ensures.value c.all_once.ensures in
    search (rules, known_all, told)

pub make-requires : goal.make-requires
make-requires c =
    let ms = table_view c.args.document.now in
    let servers = c.in_ok-servers.servers.items in
    let rules = c.in_ok-rules.rules.items in
    let f : Fields = record {
      sizes = c.in_ok-sizes.sizes;
      service_table = table_view c.in_ok-service_table.service_table.now;
      service = c.in_ok-service.service;
      server_tables = map (λ t. table_view t.now) c.in_ok-server_tables.server_tables.items;
      servers = map named servers;
      rule_tables = map (λ t. table_view t.now) c.in_ok-rule_tables.rule_tables.items;
      rules = map written rules;
    } in
    let resolves = c.in_ok-rules-2.ensures.rules
    ∙ ap (λ ss. resolved_rules (map named ss) (map written c.deref-10.result.now)) c.deref-9.ensures.value
    ∙ ap (λ rs. resolved_rules (map named servers) (map written rs)) c.deref-10.ensures.value in
    let ends = c.in_ok-servers-2.ensures ∙ ap (λ ss. map (λ (s : Named). s.1) (map named ss)) c.deref-12.ensures.value in
    let heavy = ap (every weighs 0) (sym resolves ∙ sym c.deref-11.ensures.value) ∙ sym c.in_ok-all_weigh.ensures in
    let made =
    fields_make_setup ms f (record {
      sizes = c.in_ok-sizes.ensures;
      service_table = ap (λ p. field_at as_table p (codes "service") ms) (sym c.top.ensures.place)
          ∙ ap (λ k. field_at as_table c.top.result.place k ms) (sym c.top.ensures.key) ∙ c.in_ok-service_table.ensures;
      service = c.in_ok-service.ensures;
      server_tables = c.in_ok-server_tables.ensures.answer;
      servers = ap (λ ts. each server_of 0 (map (λ t. table_view t.now) ts)) (sym c.deref.ensures.value) ∙ c.in_ok-servers.ensures.answer;
      rule_tables = c.in_ok-rule_tables.ensures.answer;
      rules = ap (λ ts. each rule_of 0 (map (λ t. table_view t.now) ts)) (sym c.deref-2.ensures.value) ∙ c.in_ok-rules.ensures.answer;
    }) (record {
      differ = ap (λ ss. unless_any (λ s. Twice s.0) (first_clash (clashes c.in_ok-service.service) [] (map named ss))) (sym c.deref-5.ensures.value) ∙ c.in_ok-apart.ensures;
      named = ap (λ ss. every (λ n. known (names_of (map named ss))) 0 (map written rules)) (sym c.deref-6.ensures.value)
          ∙ ap (λ rs. every (λ n. known (names_of (map named c.deref-6.result.now))) 0 (map written rs)) (sym c.deref-7.ensures.value) ∙ c.in_ok-all_known.ensures;
      single = ap (λ rs. every (λ n. once) 0 (map written rs)) (sym c.deref-8.ensures.value) ∙ c.in_ok-all_once.ensures;
    }) heavy in
    subst (λ rs. IsSetup (setup_of c.in_ok-sizes.sizes c.in_ok-service.service c.in_ok-servers-2.servers.items rs)) (sym resolves)
    (subst (λ ss. IsSetup (setup_of c.in_ok-sizes.sizes c.in_ok-service.service ss (resolved_rules f.servers f.rules))) (sym ends) made)
