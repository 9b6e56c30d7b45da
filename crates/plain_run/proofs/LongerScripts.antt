-- What a script says of a record depends on its lines for that record and earlier ones alone.
use Rattle.std.proofs.Common.{◌≡◌, ℕ, ◌+◌, ◌%◌, ◌<◌, Bool, true, false, not, ◌&&◌, ◌||◌, ◌==◌, nat_lt, nat_le, cond, if◌then◌else◌, List, [], ◌∷◌, Option, Some, Result, Ok, Err, find, map, unwrap_or, refl, sym, ◌∙◌, ap, arith}
use Rattle.std.specs.List.{filter, list_any, range_with_len}
use Rattle.std.proofs.lemmas.Grind.{common_steps}
use Rattle.bench.specs.Blocks.{CallAt}
use Rattle.bench.specs.Prepared.{work_of, client_instance, server_instance, prepared_by, prepared}
use Rattle.bench.specs.declared.input.prepared.Prepared.{Prepared}
use Rattle.flow_id.specs.Ports.{shard_of, shard_of_port}
use Rattle.job_core.specs.Aims.{aimed}
use Rattle.job_core.specs.declared.aim.Aim.{Aim}
use Rattle.job_core.specs.declared.aim.Aim.TheVariants as aim
use Rattle.job_core.specs.declared.verdict.Verdict.{Verdict}
use Rattle.plain_run.specs.Due.{is_due}
use Rattle.plain_run.specs.Fold.{block_with}
use Rattle.plain_run.specs.Longer.{record_of, lines_below}
use Rattle.plain_run.proofs.Dues.{block_due}
use Rattle.rule_table.specs.Setups.{SetupView}
use Rattle.script_text.specs.Lives.{crashes_below, is_back_by, is_down, given, assigned}
use Rattle.script_text.specs.declared.line.Line.{Line}
use Rattle.script_text.specs.declared.line.Line.TheVariants.{Give, Crash, Back, Fail}
use Rattle.tcp_segment.specs.declared.segment.Segment.{Segment}

-- where the second test leaves out only what the first does, it may come before it
filter_twice : {X : Type 0} (p q : X → Bool) → ((x : X) → q x ≡ false → p x ≡ false) → (xs : List X) → filter p (filter q xs) ≡ filter p xs
filter_twice p q less [] = refl
filter_twice {X = X} p q less (x ∷ xs) = by (q x) refl (filter_twice p q less xs)
  where
    by : (t : Bool) → q x ≡ t → filter p (filter q xs) ≡ filter p xs → filter p (cond t (x ∷ filter q xs) (filter q xs)) ≡ cond (p x) (x ∷ filter p xs) (filter p xs)
    by true is rest = ap (λ (ys : List X). cond (p x) (x ∷ ys) ys) rest
    by false is rest = rest ∙ sym (ap (λ (t : Bool). cond t (x ∷ filter p xs) (filter p xs)) (less x is))

-- .. and nothing is found where it is left out
any_twice : {X : Type 0} (p q : X → Bool) → ((x : X) → q x ≡ false → p x ≡ false) → (xs : List X) → list_any p (filter q xs) ≡ list_any p xs
any_twice p q less [] = refl
any_twice p q less (x ∷ xs) = by (q x) refl (any_twice p q less xs)
  where
    by : (t : Bool) → q x ≡ t → list_any p (filter q xs) ≡ list_any p xs → list_any p (cond t (x ∷ filter q xs) (filter q xs)) ≡ (p x || list_any p xs)
    by true is rest = ap (λ (t : Bool). p x || t) rest
    by false is rest = rest ∙ sym (ap (λ (t : Bool). t || list_any p xs) (less x is))

module _ (records at : ℕ) (early : at < records) where
  other : (item : ℕ) → nat_lt item records ≡ false → (item == at) ≡ false
  other item late = grind (arith, common_steps)

  not_earlier : (item : ℕ) → nat_lt item records ≡ false → nat_lt item at ≡ false
  not_earlier item late = grind (arith, common_steps)

  not_by : (item : ℕ) → nat_lt item records ≡ false → nat_le item at ≡ false
  not_by item late = grind (arith, common_steps)

  and_false : (b c : Bool) → c ≡ false → (b && c) ≡ false
  and_false true c is = is
  and_false false c is = refl

  late_is_not_due : (line : Line) → nat_lt (record_of line) records ≡ false → is_due at line ≡ false
  late_is_not_due (Crash instance item after) late = other item late
  late_is_not_due (Fail replica item) late = other item late
  late_is_not_due (Give item instance) late = refl
  late_is_not_due (Back instance item) late = refl

  late_is_no_crash : (number : ℕ) (line : Line) → nat_lt (record_of line) records ≡ false → crashes_below number at line ≡ false
  late_is_no_crash number (Crash instance item after) late = and_false (instance == number) (nat_lt item at) (not_earlier item late)
  late_is_no_crash number (Fail replica item) late = refl
  late_is_no_crash number (Give item instance) late = refl
  late_is_no_crash number (Back instance item) late = refl

  late_is_no_back : (number : ℕ) (line : Line) → nat_lt (record_of line) records ≡ false → is_back_by number at line ≡ false
  late_is_no_back number (Back instance item) late = and_false (instance == number) (nat_le item at) (not_by item late)
  late_is_no_back number (Crash instance item after) late = refl
  late_is_no_back number (Fail replica item) late = refl
  late_is_no_back number (Give item instance) late = refl

  abbrev early_lines : List Line → List Line
  early_lines lines = lines_below records lines

  given_early : (lines : List Line) → given (early_lines lines) at ≡ given lines at
  given_early [] = refl
  given_early (Give item instance ∷ lines) = by (nat_lt item records) refl (given_early lines)
    where
      by : (t : Bool) → nat_lt item records ≡ t → given (early_lines lines) at ≡ given lines at
          → given (cond t (Give item instance ∷ early_lines lines) (early_lines lines)) at ≡ (if item == at then Some instance else given lines at)
      by true is rest = ap (λ (o : Option ℕ). if item == at then Some instance else o) rest
      by false is rest = rest ∙ sym (ap (λ (t : Bool). if t then Some instance else given lines at) (other item is))
  given_early (Crash instance item after ∷ lines) = by (nat_lt item records) (given_early lines)
    where
      by : (t : Bool) → given (early_lines lines) at ≡ given lines at → given (cond t (Crash instance item after ∷ early_lines lines) (early_lines lines)) at ≡ given lines at
      by true rest = rest
      by false rest = rest
  given_early (Back instance item ∷ lines) = by (nat_lt item records) (given_early lines)
    where
      by : (t : Bool) → given (early_lines lines) at ≡ given lines at → given (cond t (Back instance item ∷ early_lines lines) (early_lines lines)) at ≡ given lines at
      by true rest = rest
      by false rest = rest
  given_early (Fail replica item ∷ lines) = by (nat_lt item records) (given_early lines)
    where
      by : (t : Bool) → given (early_lines lines) at ≡ given lines at → given (cond t (Fail replica item ∷ early_lines lines) (early_lines lines)) at ≡ given lines at
      by true rest = rest
      by false rest = rest

  down_early : (number : ℕ) (lines : List Line) → is_down (early_lines lines) number at ≡ is_down lines number at
  down_early number [] = refl
  down_early number (line ∷ lines) = by (nat_lt (record_of line) records) refl (down_early number lines) (any_twice (is_back_by number at) (λ l. nat_lt (record_of l) records) (late_is_no_back number) lines)
    where
      by : (t : Bool) → nat_lt (record_of line) records ≡ t → is_down (early_lines lines) number at ≡ is_down lines number at
          → list_any (is_back_by number at) (early_lines lines) ≡ list_any (is_back_by number at) lines
          → is_down (cond t (line ∷ early_lines lines) (early_lines lines)) number at
          ≡ ((crashes_below number at line && not (list_any (is_back_by number at) lines)) || is_down lines number at)
      by true is rest backs = λ k. (crashes_below number at line && not (backs k)) || rest k
      by false is rest backs =
          rest ∙ sym (ap (λ (t : Bool). (t && not (list_any (is_back_by number at) lines)) || is_down lines number at) (late_is_no_crash number line is))

  assigned_early : (lines : List Line) (instances start : ℕ) → assigned (early_lines lines) instances at start ≡ assigned lines instances at start
  assigned_early lines instances start =
      λ k. find (λ i. not (down_early i lines k)) (map (λ i. (unwrap_or (given_early lines k) start + i) % instances) (range_with_len 0 instances))

  by_early : (setup : SetupView) (lines : List Line) (segment : Segment) (a : Aim) → prepared_by setup (early_lines lines) at segment a ≡ prepared_by setup lines at segment a
  by_early setup lines segment (aim.Client flow) =
      ap (work_of (aim.Client flow) segment (shard_of flow setup.shards)) (assigned_early lines setup.instances (client_instance setup flow))
  by_early setup lines segment (aim.Server server port) =
      ap (work_of (aim.Server server port) segment (shard_of_port port setup.shards)) (assigned_early lines setup.instances (server_instance setup port))
  by_early setup lines segment (aim.Odd flags) = refl
  by_early setup lines segment aim.NotOurs = refl

  pub prepared_early : (setup : SetupView) (lines : List Line) (o : Result Segment Verdict) → prepared setup (early_lines lines) at o ≡ prepared setup lines at o
  prepared_early setup lines (Ok segment) = by_early setup lines segment (aimed setup segment.source segment.target segment.head)
  prepared_early setup lines (Err verdict) = refl

  pub block_early : (setup : SetupView) (lines : List Line) (refused : Option ℕ) (earlier : List CallAt) (work : Prepared)
      → block_with setup (early_lines lines) refused earlier at work ≡ block_with setup lines refused earlier at work
  block_early setup lines refused earlier work =
      sym (block_due setup (early_lines lines) refused earlier at work)
      ∙ ap (λ (ls : List Line). block_with setup ls refused earlier at work) (filter_twice (is_due at) (λ l. nat_lt (record_of l) records) late_is_not_due lines)
      ∙ block_due setup lines refused earlier at work
