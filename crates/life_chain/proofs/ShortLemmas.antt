-- A line ends after a few asks: a life takes four of a SYN, and one of another segment.
use Rattle.std.proofs.Common.{◌≡◌, ℕ, ◌+◌, ◌-◌, ◌*◌, ◌<◌, ◌≤◌, Bool, true, false, cond, List, [], ◌∷◌, Some, None, length, refl, arith}
use Rattle.std.specs.Prelude.{◌==◌, nat_le}
use Rattle.std.proofs.lemmas.Bool.{leb-false}
use Rattle.flow_id.specs.declared.key.Flow.{Flow}
use Rattle.flow_record.specs.declared.record.Record.{Record}
use Rattle.flow_record.specs.Records.{syn_number}
use Rattle.life_chain.specs.declared.answer.Answer.{Answer}
use Rattle.life_chain.specs.declared.answer.Answer.TheVariants.{Decided, Absent, Down}
use Rattle.life_chain.specs.Lives.{Stand, asks, settled, other, unknown, spent, opening, resetting, continuing}
use Rattle.life_chain.specs.Laws.{IsShort}

-- whichever of two it stands at
either : (b : Bool) (most : ℕ) (xs : List Answer) (s t : Stand) → IsShort most xs s → (b ≡ false → IsShort most xs t) → IsShort most xs (cond b s t)
either true most xs s t x y = x
either false most xs s t x y = y refl

-- with a few answers more
more : (few most : ℕ) (xs bs : List Answer) (s : Stand) → few ≤ most → length bs + few ≤ length xs + most → IsShort few xs s → IsShort most bs s
more few most xs bs (asks ask) low e h = let h : length xs < few = h in omega arith
more few most xs bs (settled life syn rest) low e h = let h : length xs ≤ length rest + few = h in omega arith
more few most xs bs (other n) low e h = tt
more few most xs bs spent low e h = tt
more few most xs bs unknown low e h = tt

module _ (flow : Flow) (own : Record) where
  pub short_opening : (first most : ℕ) (answers : List Answer) → first ≤ 7 → most + 4 * first ≡ 32 → IsShort most answers (opening flow own first answers)
  short_opening first most [] few e = omega arith
  short_opening first most (Absent ∷ xs) few e = tt
  short_opening first most (Down ∷ xs) few e = tt
  short_opening first most (Decided syn ∷ []) few e =
      either (syn_number syn == syn_number own) most (Decided syn ∷ []) (settled first syn ([])) (resetting flow own first (syn_number syn) ([])) (omega arith) (λ n. omega arith)
  short_opening first most (Decided syn ∷ Decided gone ∷ xs) few e =
      either (syn_number syn == syn_number own) most (Decided syn ∷ Decided gone ∷ xs) (settled first syn (Decided gone ∷ xs)) (resetting flow own first (syn_number syn) (Decided gone ∷ xs)) (omega arith)
      (λ n. either (nat_le 7 first) most (Decided syn ∷ Decided gone ∷ xs) spent (opening flow own (first + 1) xs) tt
      (λ l. let low : first < 7 = leb-false 7 first l in
      more (most - 4) most xs (Decided syn ∷ Decided gone ∷ xs) (opening flow own (first + 1) xs) (omega arith) (omega arith) (short_opening (first + 1) (most - 4) xs (omega arith) (omega arith))))
  short_opening first most (Decided syn ∷ Down ∷ xs) few e =
      either (syn_number syn == syn_number own) most (Decided syn ∷ Down ∷ xs) (settled first syn (Down ∷ xs)) (resetting flow own first (syn_number syn) (Down ∷ xs)) (omega arith) (λ n. tt)
  short_opening first most (Decided syn ∷ Absent ∷ []) few e =
      either (syn_number syn == syn_number own) most (Decided syn ∷ Absent ∷ []) (settled first syn (Absent ∷ [])) (resetting flow own first (syn_number syn) (Absent ∷ [])) (omega arith) (λ n. omega arith)
  short_opening first most (Decided syn ∷ Absent ∷ Absent ∷ xs) few e =
      either (syn_number syn == syn_number own) most (Decided syn ∷ Absent ∷ Absent ∷ xs) (settled first syn (Absent ∷ Absent ∷ xs)) (resetting flow own first (syn_number syn) (Absent ∷ Absent ∷ xs)) (omega arith) (λ n. tt)
  short_opening first most (Decided syn ∷ Absent ∷ Down ∷ xs) few e =
      either (syn_number syn == syn_number own) most (Decided syn ∷ Absent ∷ Down ∷ xs) (settled first syn (Absent ∷ Down ∷ xs)) (resetting flow own first (syn_number syn) (Absent ∷ Down ∷ xs)) (omega arith) (λ n. tt)
  short_opening first most (Decided syn ∷ Absent ∷ Decided fin ∷ []) few e =
      either (syn_number syn == syn_number own) most (Decided syn ∷ Absent ∷ Decided fin ∷ []) (settled first syn (Absent ∷ Decided fin ∷ [])) (resetting flow own first (syn_number syn) (Absent ∷ Decided fin ∷ [])) (omega arith) (λ n. omega arith)
  short_opening first most (Decided syn ∷ Absent ∷ Decided fin ∷ Decided close ∷ xs) few e =
      either (syn_number syn == syn_number own) most (Decided syn ∷ Absent ∷ Decided fin ∷ Decided close ∷ xs) (settled first syn (Absent ∷ Decided fin ∷ Decided close ∷ xs)) (resetting flow own first (syn_number syn) (Absent ∷ Decided fin ∷ Decided close ∷ xs)) (omega arith)
      (λ n. either (nat_le 7 first) most (Decided syn ∷ Absent ∷ Decided fin ∷ Decided close ∷ xs) spent (opening flow own (first + 1) xs) tt
      (λ l. let low : first < 7 = leb-false 7 first l in
      more (most - 4) most xs (Decided syn ∷ Absent ∷ Decided fin ∷ Decided close ∷ xs) (opening flow own (first + 1) xs) (omega arith) (omega arith) (short_opening (first + 1) (most - 4) xs (omega arith) (omega arith))))
  short_opening first most (Decided syn ∷ Absent ∷ Decided fin ∷ Absent ∷ xs) few e =
      either (syn_number syn == syn_number own) most (Decided syn ∷ Absent ∷ Decided fin ∷ Absent ∷ xs) (settled first syn (Absent ∷ Decided fin ∷ Absent ∷ xs)) (resetting flow own first (syn_number syn) (Absent ∷ Decided fin ∷ Absent ∷ xs)) (omega arith) (λ n. tt)
  short_opening first most (Decided syn ∷ Absent ∷ Decided fin ∷ Down ∷ xs) few e =
      either (syn_number syn == syn_number own) most (Decided syn ∷ Absent ∷ Decided fin ∷ Down ∷ xs) (settled first syn (Absent ∷ Decided fin ∷ Down ∷ xs)) (resetting flow own first (syn_number syn) (Absent ∷ Decided fin ∷ Down ∷ xs)) (omega arith) (λ n. tt)

module _ (flow : Flow) where
  -- behind a life that is decided
  short_behind : (before : ℕ) (r : Record) (first most : ℕ) (answers : List Answer) → first ≤ 7 → most + first ≡ 8
      → IsShort most answers (continuing flow (Some (before, r)) first answers)
  short_behind before r first most [] few e = omega arith
  short_behind before r first most (Decided syn ∷ xs) few e =
      either (nat_le 7 first) most (Decided syn ∷ xs) (settled first syn xs) (continuing flow (Some (first, syn)) (first + 1) xs) (omega arith)
      (λ l. let low : first < 7 = leb-false 7 first l in
      more (most - 1) most xs (Decided syn ∷ xs) (continuing flow (Some (first, syn)) (first + 1) xs) (omega arith) (omega arith) (short_behind first syn (first + 1) (most - 1) xs (omega arith) (omega arith)))
  short_behind before r first most (Absent ∷ xs) few e = omega arith
  short_behind before r first most (Down ∷ xs) few e = tt

  pub short_continuing : (first : ℕ) (answers : List Answer) → first ≤ 7 → IsShort 8 answers (continuing flow None first answers)
  short_continuing first [] few = omega arith
  short_continuing first (Decided syn ∷ xs) few =
      either (nat_le 7 first) 8 (Decided syn ∷ xs) (settled first syn xs) (continuing flow (Some (first, syn)) (first + 1) xs) (omega arith)
      (λ l. let low : first < 7 = leb-false 7 first l in
      more (7 - first) 8 xs (Decided syn ∷ xs) (continuing flow (Some (first, syn)) (first + 1) xs) (omega arith) (omega arith) (short_behind first syn (first + 1) (7 - first) xs (omega arith) (omega arith)))
  short_continuing first (Absent ∷ xs) few = tt
  short_continuing first (Down ∷ xs) few = tt
