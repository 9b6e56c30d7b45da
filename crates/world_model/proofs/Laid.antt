-- What a handling sends, one segment after the other.
use Rattle.std.proofs.Common.{◌≡◌, ℕ, suc, ◌+◌, ◌≤◌, ◌<◌, ◌^◌, Bool, true, false, Option, Some, None, List, [], ◌∷◌, ◌++◌, length, map, refl, sym, ◌∙◌, ap, arith, append_assoc}
use Rattle.std.proofs.lemmas.List.{length-append}
use Rattle.rule_table.specs.Setups.{SetupView}
use Rattle.world_model.specs.declared.client.ClientSpec.{ClientSpec}
use Rattle.world_model.specs.Outs.{handled_sends}
use Rattle.world_model.specs.Placed.{first_by, honest_client, sending}
use Rattle.world_model.specs.World.{ServerEnd}
use Rattle.std.specs.Prelude.{option_and_then, option_map, is_some}
use Rattle.flow_id.specs.declared.key.Flow.{Flow}
use Rattle.job_core.specs.declared.verdict.Verdict.{Verdict}
use Rattle.tcp_segment.specs.declared.segment.Segment.{Segment}
use Rattle.world_model.specs.declared.laying.Place.{Place}
use Rattle.world_model.specs.Outs.{out_at, shown_from, placed, placed_for}
use Rattle.world_model.specs.Placed.{place_by, place_verdict, reach_of, reach, behind_by, behind, behind_all, laid, total}
use Rattle.world_model.specs.Posted.{Posted}

pub laid_more : (flow : Option Flow) (place : Place) (outs : List Segment) (s : Segment)
    → laid flow place (outs ++ s ∷ []) ≡ laid flow place outs ++ out_at flow (behind_all place outs).position (behind_all place outs).acknowledged s ∷ []
laid_more flow place [] s = refl
laid_more flow place (x ∷ outs) s = ap (λ zs. out_at flow place.position place.acknowledged x ∷ zs) (laid_more flow (behind place (length x.body)) outs s)

pub behind_more : (place : Place) (outs : List Segment) (s : Segment) → behind_all place (outs ++ s ∷ []) ≡ behind (behind_all place outs) (length s.body)
behind_more place [] s = refl
behind_more place (x ∷ outs) s = behind_more (behind place (length x.body)) outs s

pub moves_all : (place : Place) (outs : List Segment) → (behind_all place outs).moves ≡ place.moves
moves_all place [] = refl
moves_all place (x ∷ outs) = moves_all (behind place (length x.body)) outs

reach_one : (b : Bool) (o : Option ℕ) (n : ℕ) → reach_of (behind_by b o n) ≤ reach_of o + n
reach_one true None n = omega arith
reach_one true (Some p) n = omega arith
reach_one false o n = omega arith

pub reach_all : (place : Place) (outs : List Segment) → reach (behind_all place outs) ≤ reach place + total outs
reach_all place [] = omega arith
reach_all place (x ∷ outs) =
    let one = reach_one place.moves place.position (length x.body) in
    let rest = reach_all (behind place (length x.body)) outs in
    by (reach_of (behind_by place.moves place.position (length x.body))) (reach (behind_all (behind place (length x.body)) outs)) (length x.body) (total outs) one rest
  where
    by : (a b n t : ℕ) → a ≤ reach place + n → b ≤ a + t → b ≤ reach place + (n + t)
    by a b n t one rest = omega arith

pub total_more : (outs : List Segment) (s : Segment) (rest : List Segment) → total (outs ++ s ∷ rest) ≡ total outs + (length s.body + total rest)
total_more [] s rest = omega arith
total_more (x ∷ outs) s rest = by (length x.body) (total (outs ++ s ∷ rest)) (total outs) (length s.body + total rest) (total_more outs s rest)
  where
    by : (n a b c : ℕ) → a ≡ b + c → n + a ≡ n + b + c
    by n a b c is = omega arith

-- what stays at its place
still_laid : (flow : Option Flow) (position acknowledged : Option ℕ) (outs : List Segment)
    → laid flow (record { position = position; acknowledged = acknowledged; moves = false }) outs ≡ map (out_at flow position acknowledged) outs
still_laid flow position acknowledged [] = refl
still_laid flow position acknowledged (s ∷ outs) = ap (λ zs. out_at flow position acknowledged s ∷ zs) (still_laid flow position acknowledged outs)

moving_laid : (flow : Option Flow) (place : ℕ) (outs : List Segment)
    → laid flow (record { position = Some (1 + place); acknowledged = Some 1; moves = true }) outs ≡ shown_from flow place outs
moving_laid flow place [] = refl
moving_laid flow place (s ∷ outs) =
    ap (λ zs. out_at flow (Some (1 + place)) (Some 1) s ∷ zs)
    (ap (λ (p : ℕ). laid flow (record { position = Some p; acknowledged = Some 1; moves = true }) outs) (omega arith)
    ∙ moving_laid flow (place + length s.body) outs)

abbrev position_in : Option Posted → Option ℕ
position_in o = option_and_then (λ x. x.position) o

abbrev acknowledged_in : Option Posted → Option ℕ
acknowledged_in o = option_and_then (λ x. x.acknowledged) o

verdict_laid : (v : Verdict) (x : Option Posted) (flow : Option Flow) (outs : List Segment) → laid flow (place_verdict v (position_in x) (acknowledged_in x)) outs ≡ placed v x flow outs
verdict_laid Rattle.job_core.specs.declared.verdict.Verdict.TheVariants.Answered x flow outs = still_laid flow (Some 0) (Some 1) outs
verdict_laid (Rattle.job_core.specs.declared.verdict.Verdict.TheVariants.Asked server port) x flow outs = still_laid flow (Some 0) None outs
verdict_laid Rattle.job_core.specs.declared.verdict.Verdict.TheVariants.Opened x flow outs = moving_laid flow 0 outs
verdict_laid Rattle.job_core.specs.declared.verdict.Verdict.TheVariants.Forwarded x flow outs = still_laid flow (position_in x) (acknowledged_in x) outs
verdict_laid _ x flow outs = still_laid flow None None outs

-- these are the outs of the definition
pub laid_for : (c : Option _) (v : Verdict) (x : Option Posted) (flow : Option Flow) (outs : List Segment)
    → laid flow (first_by v (is_some c) x) outs ≡ placed_for c v x flow outs
laid_for None v x flow outs = still_laid flow None None outs
laid_for (Some client) v x flow outs = verdict_laid v x flow outs

-- ---- adding them
laid_long : (flow : Option Flow) (place : Place) (outs : List Segment) → length (laid flow place outs) ≡ length outs
laid_long flow place [] = refl
laid_long flow place (s ∷ outs) = ap suc (laid_long flow (behind place (length s.body)) outs)

pub has_room : (was now : List Posted) (flow : Option Flow) (place : Place) (done : List Segment) (s : Segment) (rest outs : List Segment) (cap room : ℕ)
    → outs ≡ done ++ s ∷ rest → now ≡ was ++ laid flow place done → cap ≡ room → length was + length outs ≤ room → length now < cap
has_room was now flow place done s rest outs cap room is at same fits =
    let a : length now ≡ length was + length (laid flow place done) = ap length at ∙ length-append was (laid flow place done) in
    let b = laid_long flow place done in
    let c : length outs ≡ length done + length (s ∷ rest) = ap length is ∙ length-append done (s ∷ rest) in
    omega (arith, a, b, c, same, fits)

pub has_reach : (first place : Place) (done : List Segment) (s : Segment) (rest outs : List Segment) (n : ℕ)
    → outs ≡ done ++ s ∷ rest → place ≡ behind_all first done → n ≡ length s.body
    → (first.moves ≡ true → reach first + total outs < 2 ^ 64) → place.moves ≡ true → reach place + n < 2 ^ 64
has_reach first place done s rest outs n is at long short moves =
    let m : first.moves ≡ true = sym (moves_all first done) ∙ sym (ap (λ (p : Place). p.moves) at) ∙ moves in
    by (reach first) (reach place) (reach (behind_all first done)) (total outs) (total done) (length s.body) (total rest) (short m) (ap reach at) (reach_all first done) (ap total is ∙ total_more done s rest) long
  where
    by : (f r r2 t d b rest : ℕ) → f + t < 2 ^ 64 → r ≡ r2 → r2 ≤ f + d → t ≡ d + (b + rest) → n ≡ b → r + n < 2 ^ 64
    by f r r2 t d b rest small same reached sum len = omega arith

pub laid_pushed : (flow : Option Flow) (first : Place) (done : List Segment) (s : Segment) (was before now : List Posted) (place : Place)
    → before ≡ was ++ laid flow first done → place ≡ behind_all first done
    → now ≡ before ++ out_at flow place.position place.acknowledged s ∷ []
    → now ≡ was ++ laid flow first (done ++ s ∷ [])
laid_pushed flow first done s was before now place at is pushed =
    pushed
    ∙ ap (λ (zs : List Posted). zs ++ out_at flow place.position place.acknowledged s ∷ []) at
    ∙ ap (λ (p : Place). (was ++ laid flow first done) ++ out_at flow p.position p.acknowledged s ∷ []) is
    ∙ append_assoc was (laid flow first done) (out_at flow (behind_all first done).position (behind_all first done).acknowledged s ∷ [])
    ∙ ap (λ zs. was ++ zs) (sym (laid_more flow first done s))

-- ---- the flow of an end
pub made_by : {X Y : Type 0} (f : X → ℕ) (g : ℕ → Option Y) (o : Option X) → option_and_then g (option_map f o) ≡ option_and_then (λ x. g (f x)) o
made_by f g None = refl
made_by f g (Some x) = refl

-- where the outs end
pub moving_reach : (v : Verdict) (b : Bool) (position acknowledged : Option ℕ) → (place_by v b position acknowledged).moves ≡ true → (v ≡ Rattle.job_core.specs.declared.verdict.Verdict.TheVariants.Opened) × (reach (place_by v b position acknowledged) ≡ 1)
moving_reach Rattle.job_core.specs.declared.verdict.Verdict.TheVariants.Opened true p a is = (refl, refl)
moving_reach v false p a is = absurd (cc)
moving_reach Rattle.job_core.specs.declared.verdict.Verdict.TheVariants.Answered true p a is = absurd (cc)
moving_reach (Rattle.job_core.specs.declared.verdict.Verdict.TheVariants.Asked server port) true p a is = absurd (cc)
moving_reach Rattle.job_core.specs.declared.verdict.Verdict.TheVariants.Forwarded true p a is = absurd (cc)
moving_reach _ true p a is = absurd (cc)

-- what a handling sends, by what the code finds out of it
pub handled_laid : (setup : SetupView) (clients : List ClientSpec) (servers : List ServerEnd) (sent : List Posted) (x : Option Posted) (v : Verdict) (outs outs2 : List Segment)
    (flow : Option Flow) (honest : Bool) (first : Place)
    → honest ≡ is_some (option_and_then (honest_client setup clients) flow) → first ≡ first_by v honest x → outs2 ≡ outs
    → laid flow first outs2 ≡ handled_sends (sending setup clients servers sent) flow x v outs
handled_laid setup clients servers sent x v outs outs2 flow honest first honest_is first_is outs_is =
    let c = option_and_then (honest_client setup clients) flow in
    ap (λ (p : Place). laid flow p outs2) (first_is ∙ ap (λ (b : Bool). first_by v b x) honest_is)
    ∙ ap (λ (ys : List Segment). laid flow (first_by v (is_some c) x) ys) outs_is
    ∙ laid_for c v x flow outs
