-- Servers that differ, names that are servers', and rules that name each server once.
use Rattle.std.proofs.Common.{◌≡◌, ◌≢◌, ℕ, suc, ◌+◌, ◌<◌, Bool, true, false, not, ◌&&◌, ◌||◌, eqb, List, [], ◌∷◌, ◌++◌, find, length, map, get_or, refl, sym, ap, subst, ◌∙◌, inl, inr, arith, append_assoc, All, AllPairs, Some, None, eq-eqb}
use Rattle.std.specs.List.{list_any}
use Rattle.std.specs.Str.{bytes_eq}
use Rattle.std.proofs.lemmas.Bool.{and_from, or_parts, both_ways, cond-true, cond-false, not-false}
use Rattle.std.proofs.lemmas.List.{append-nil, get_or-map, length-map}
use Rattle.std.proofs.lemmas.List.Elements.{All-push}
use Rattle.std.proofs.lemmas.List.Quantifiers.{all_pairs_push}
use Rattle.std.proofs.lemmas.Slice.Eq.{bytes_eq-Decides}
use Rattle.std.proofs.lemmas.Slice.Zip.{length-zip, get_or-zip}
use Rattle.http_head.proofs.CaseLemmas.{cond_is}
use Rattle.rule_table.specs.declared.types.Server.{Server}
use Rattle.rule_table.specs.declared.types.Service.{Service}
use Rattle.rule_text.specs.Checks.{clashes, first_clash, is_among}
use Rattle.rule_text.specs.Document.{place_among}
use Rattle.rule_text.specs.Written.{Named}
use Rattle.rule_text.proofs.SetupLemmas.{find_none, list_any_false}
use Rattle.rule_text.proofs.StepLemmas.{choices_of}

-- ---- servers

-- the two servers have another address or port
abbrev pub Differ : Named → Named → Type 0
Differ s t = s.1 ≢ t.1

-- the server is not at the service's address
abbrev pub IsElsewhere : Service → Named → Type 0
IsElsewhere service s = s.1.address ≢ service.address

pub record AreApart (service : Service) (servers : List Named) : Type 0 where
  pub apart : AllPairs Differ servers
  pub elsewhere : All (IsElsewhere service) servers

-- a server that does not clash with those before it may follow them
apart_push : (service : Service) (earlier : List Named) (s : Named) → AreApart service earlier → clashes service earlier s ≡ false
    → AreApart service (earlier ++ s ∷ [])
apart_push service earlier s are none =
    let parts = or_parts (list_any _ earlier) (eqb s.1.address service.address) none in
    let others = list_any_false _ earlier parts.0 in
    record {
      apart = all_pairs_push Differ earlier s are.apart (λ k d inside same.
          let t = get_or earlier k d in
          let ends = (or_parts (bytes_eq t.0 s.0) (eqb t.1.address s.1.address && eqb t.1.port s.1.port) (others k d inside)).1 in
          both_ways _ ends (and_from _ _ (eq-eqb _ _ (ap (λ (v : Server). v.address) same)) (eq-eqb _ _ (ap (λ (v : Server). v.port) same))));
      elsewhere = All-push (IsElsewhere service) earlier s are.elsewhere (λ same. both_ways _ parts.1 (eq-eqb _ _ same));
    }

pub apart_from_none : (service : Service) (earlier servers : List Named) → AreApart service earlier → first_clash (clashes service) earlier servers ≡ None
    → AreApart service (earlier ++ servers)
apart_from_none service earlier [] are none = subst (AreApart service) (sym (append-nil earlier)) are
apart_from_none service earlier (s ∷ servers) are none =
    elim (cond_is (clashes service earlier s) (Some s) (first_clash (clashes service) (earlier ++ s ∷ []) servers) None none) [
      | inl clash ↦ absurd cc
      | inr fits ↦
          subst (AreApart service) (append_assoc earlier (s ∷ []) servers)
          (apart_from_none service (earlier ++ s ∷ []) servers (apart_push service earlier s are fits.0) fits.1)
    ]

-- ---- names

-- a name that is among the names stands at its place
place_is : (names : List (List ℕ)) (name d : List ℕ) → is_among names name ≡ true
    → (place_among names name < length names) × (get_or names (place_among names name) d ≡ name)
place_is [] name d among = absurd cc
place_is (n ∷ names) name d among = at (bytes_eq n name) refl (place_is names name d)
  where
    at : (b : Bool) → bytes_eq n name ≡ b
        → (is_among names name ≡ true → (place_among names name < length names) × (get_or names (place_among names name) d ≡ name))
        → (place_among (n ∷ names) name < length (n ∷ names)) × (get_or (n ∷ names) (place_among (n ∷ names) name) d ≡ name)
    at true same rest =
        let here : place_among (n ∷ names) name ≡ 0 = cond-false _ _ _ (ap not same) in
        let zeroth : (0 < length (n ∷ names)) × (get_or (n ∷ names) 0 d ≡ name) = (omega arith, (bytes_eq-Decides n name).0 same) in
        subst (λ k. (k < length (n ∷ names)) × (get_or (n ∷ names) k d ≡ name)) (sym here) zeroth
    at false other rest =
        let later = rest (sym (ap (λ b. b || is_among names name) other) ∙ among) in
        let one : 1 + place_among names name ≡ suc (place_among names name) = omega arith in
        let here : place_among (n ∷ names) name ≡ suc (place_among names name) = cond-true _ _ _ (ap not other) ∙ one in
        let next : (suc (place_among names name) < length (n ∷ names)) × (get_or (n ∷ names) (suc (place_among names name)) d ≡ name) =
        (omega arith, later.1) in
        subst (λ k. (k < length (n ∷ names)) × (get_or (n ∷ names) k d ≡ name)) (sym here) next

-- names that are not among those before them differ
differ_from_none : (earlier names : List (List ℕ)) → AllPairs (λ m n. m ≢ n) earlier → first_clash is_among earlier names ≡ None
    → AllPairs (λ m n. m ≢ n) (earlier ++ names)
differ_from_none earlier [] are none = subst (AllPairs (λ m n. m ≢ n)) (sym (append-nil earlier)) are
differ_from_none earlier (n ∷ names) are none =
    elim (cond_is (is_among earlier n) (Some n) (first_clash is_among (earlier ++ n ∷ []) names) None none) [
      | inl again ↦ absurd cc
      | inr new ↦
          let others = list_any_false _ earlier new.0 in
          subst (AllPairs (λ m n. m ≢ n)) (append_assoc earlier (n ∷ []) names)
          (differ_from_none (earlier ++ n ∷ []) names
          (all_pairs_push (λ m n. m ≢ n) earlier n are (λ k d inside same. both_ways _ (others k d inside) ((bytes_eq-Decides _ n).1 same))) new.1)
    ]

-- the places of two names are the same only where the names are
same_place : (names : List (List ℕ)) (m n : List ℕ) → is_among names m ≡ true → is_among names n ≡ true
    → place_among names m ≡ place_among names n → m ≡ n
same_place names m n first second same =
    let here = place_is names m [] first in
    let there = place_is names n [] second in
    sym here.1 ∙ ap (λ k. get_or names k []) same ∙ there.1

-- ---- choices

-- the choices of a rule whose names are servers', each once
pub record AreChoices (count : ℕ) (choices : List (ℕ × ℕ)) : Type 0 where
  pub known : All (λ c. c.0 < count) choices
  pub once : AllPairs (λ c d. c.0 ≢ d.0) choices

choice_at : (names to : List (List ℕ)) (weights : List ℕ) (k : ℕ) (d : ℕ × ℕ) → k < length (choices_of names to weights)
    → (k < length to) × ((get_or (choices_of names to weights) k d).0 ≡ place_among names (get_or to k []))
choice_at names to weights k d inside =
    let places = map (place_among names) to in
    let count = length-zip places weights in
    let same : length places ≡ length to = length-map to (place_among names) in
    let named : k < length to = omega (arith, count, same) in
    let weighed : k < length weights = omega (arith, count) in
    let placed : k < length places = omega (arith, same) in
    (named, ap (λ (c : ℕ × ℕ). c.0) (get_or-zip places weights k d placed weighed) ∙ get_or-map (place_among names) to k [] d.0 named)

pub choices_are : (names to : List (List ℕ)) (weights : List ℕ) → find (λ n. not (is_among names n)) to ≡ None → first_clash is_among [] to ≡ None
    → AreChoices (length names) (choices_of names to weights)
choices_are names to weights unknown again =
    let others = find_none (λ n. not (is_among names n)) to unknown in
    let differ = differ_from_none [] to (λ i j d below inside. absurd (omega arith)) again in
    let among = λ (k : ℕ) (inside : k < length to). not-false (is_among names (get_or to k [])) (others k [] inside) in
    record {
      known = λ k d inside.
          let c = choice_at names to weights k d inside in
          subst (λ p. p < length names) (sym c.1) (place_is names (get_or to k []) [] (among k c.0)).0;
      once = λ i j d below inside same.
          let first = choice_at names to weights i d (omega arith) in
          let second = choice_at names to weights j d inside in
          differ i j [] below second.0
          (same_place names _ _ (among i first.0) (among j second.0) (sym first.1 ∙ same ∙ second.1));
    }
