-- The rule of the lock: what holds between any two atomic steps of its words, its slot and its seats, and what each step
-- tells the seat that makes it. It is a ticket lock: a seat draws a ticket, waits until that is served, takes history
-- and state out of the slot, puts them back, and serves the next ticket.
use Rattle.std.specs.Prelude.{◌≡◌, ℕ, ◌+◌, ◌%◌, ◌^◌, ◌<◌, ◌≤◌, List, [], ◌∷◌, length, Bool, true, false, Option, Some, None, MatchBool, nat_eq, Contains}
use mathlib.Core.Option.{some}
use lib.ListN.{get_elem?}
use Rattle.atomic_table.specs.Table.{State, Me}
use Rattle.seen_lock.specs.declared.object.Entry.{Entry}
use Rattle.seen_lock.specs.declared.held.Held.{Held}
use Rattle.seen_lock.specs.declared.knowledge.Known.{Known}
use Rattle.seen_lock.specs.Histories.{state_after, calls_by, AllAllowed, Begins}
use Rattle.seen_lock.specs.Knowledge.{claims, numbers, numbers_in}

abbrev pub View : Type 0 → Type 0 → Type 0
View S C = Option (Known S C)

-- the words, the slot and the seats of a lock
abbrev pub Lock : Type 0 → Type 0 → Type 0
Lock S C = State (Option (Held S C)) (View S C)

-- one seat, and what it took out of the slot
abbrev pub Seated : Type 0 → Type 0 → Type 0
Seated S C = Me (Option (Held S C)) (View S C)

abbrev pub ticket_count : Option ℕ → ℕ
ticket_count None = 0
ticket_count (Some t) = 1

-- 1 where the seat waits for its turn, or has it
abbrev pub waiter : {S C : Type 0} → View S C → ℕ
waiter None = 0
waiter (Some k) = ticket_count k.ticket

-- how many seats wait for their turn, or have it
abbrev pub waiters : {S C : Type 0} → List (View S C) → ℕ
waiters [] = 0
waiters (v ∷ views) = waiter v + waiters views

module _ {S C : Type 0} where
  -- the seats share the numbers out among them: no two answer for one number, and none for one that was not given out
  pub record AreDivided (views : List (View S C)) : Type 0 where
    pub apart : (i j n : ℕ) (k l : Known S C) → get_elem? views i ≡ some (Some k) → get_elem? views j ≡ some (Some l) → Contains (numbers k) n → Contains (numbers l) n → i ≡ j
    pub born : (i n : ℕ) (k : Known S C) → get_elem? views i ≡ some (Some k) → Contains (numbers k) n → n < length views
    pub once : (i : ℕ) (k : Known S C) → get_elem? views i ≡ some (Some k) → Contains (numbers_in k.others) k.number → ⊥
    pub few : length views ≤ 2 ^ 32
    pub least : (i : ℕ) (k : Known S C) → get_elem? views i ≡ some (Some k) → k.made + 1 ≤ length views
    pub made : (i : ℕ) (k : Known S C) → get_elem? views i ≡ some (Some k) → Contains (numbers k) 0 → k.made + 1 ≡ length views

  -- no two seats have one ticket, and as many wait as tickets were drawn and not yet served
  pub record AreQueued (served drawn : ℕ) (views : List (View S C)) : Type 0 where
    pub ticketed : (i t : ℕ) (k : Known S C) → get_elem? views i ≡ some (Some k) → k.ticket ≡ Some t → (served ≤ t) × (t < drawn)
    pub tickets : (i j t : ℕ) (k l : Known S C) → get_elem? views i ≡ some (Some k) → get_elem? views j ≡ some (Some l) → k.ticket ≡ Some t → l.ticket ≡ Some t → i ≡ j
    pub waiting : drawn ≡ served + waiters views

  -- no seat has its turn
  abbrev pub AllWait : List (View S C) → Type 0
  AllWait views = (i : ℕ) (k : Known S C) → get_elem? views i ≡ some (Some k) → k.turn ≡ true → ⊥

module _ {S C : Type 0} (after : S → C → S) (allowed : S → C → Type 0) (first : S) where
  -- this history, and the state that it leads to
  pub record IsHeld (history : List (Entry C)) (h : Held S C) : Type 0 where
    pub entries : h.history.items ≡ history
    pub state : h.state ≡ state_after after first history

  -- what a seat knows is so, where this ticket is served
  pub record IsKnown (history : List (Entry C)) (served id : ℕ) (k : Known S C) : Type 0 where
    pub first_is : k.first ≡ first
    pub number_is : k.number ≡ id
    pub begins : Begins history k.seen
    -- the calls for which the seat answers are those of the history, and the seat has seen them
    pub claimed : (n : ℕ) (calls : List C) → Contains (claims k) (n, calls) → (calls_by n history ≡ calls) × (calls_by n k.seen ≡ calls)
    -- so are the histories that the seats joined into it had seen
    pub listened : (h : List (Entry C)) → Contains k.heard h → Begins history h
    pub turned : k.turn ≡ true → (k.ticket ≡ Some served) × (k.seen ≡ history)

  -- after this history, with so many tickets drawn and served
  pub record IsKept (history : List (Entry C)) (served drawn : ℕ) (s : Lock S C) : Type 0 where
    pub words : s.words ≡ length history ∷ (drawn % 2 ^ 64) ∷ (served % 2 ^ 64) ∷ []
    pub homes : length s.homes ≡ 1
    pub short : length history < 2 ^ 63
    pub legal : AllAllowed allowed first history
    pub known : (id : ℕ) (k : Known S C) → get_elem? s.views id ≡ some (Some k) → IsKnown history served id k
    pub unborn : (n : ℕ) → length s.views ≤ n → calls_by n history ≡ []
    pub divided : AreDivided s.views
    pub queued : AreQueued served drawn s.views
    -- the slot is at home while no seat has its turn
    pub home : AllWait s.views → (h : Held S C) × (get_elem? s.homes 0 ≡ some (some (Some h))) × IsHeld history h

  abbrev pub Kept : Lock S C → Type 0
  Kept s = (history : List (Entry C)) × (served : ℕ) × (drawn : ℕ) × IsKept history served drawn s

-- a ticket was drawn
abbrev pub Draws : {S C : Type 0} → Seated S C → ℕ → Seated S C → Type 0
Draws {S} {C} before found now =
    (k : Known S C) → before.0 ≡ Some k → (t : ℕ) × (now ≡ (Some (record k { ticket = Some t }), before.1)) × (found ≡ t % 2 ^ 64)

-- what the turn gives: the history with all that the seat had seen, and the state that it leads to
pub record IsGiven {S C : Type 0} (after : S → C → S) (allowed : S → C → Type 0) (k : Known S C) (h : Held S C) : Type 0 where
  pub state : h.state ≡ state_after after k.first h.history.items
  pub begins : Begins h.history.items k.seen
  pub legal : AllAllowed allowed k.first h.history.items
  pub claimed : (n : ℕ) (calls : List C) → Contains (claims k) (n, calls) → calls_by n h.history.items ≡ calls
  pub once : Contains (numbers_in k.others) k.number → ⊥
  pub short : length h.history.items < 2 ^ 63

abbrev pub Takes : {S C : Type 0} → (S → C → S) → (S → C → Type 0) → Known S C → Seated S C → Bool → Seated S C → Type 0
Takes {S} {C} after allowed k before is_served now =
    MatchBool is_served
    ((h : Held S C) × (now ≡ (Some (record k { turn = true; seen = h.history.items }), (0, Some h) ∷ before.1)) × IsGiven after allowed k h)
    (now ≡ before)

-- the ticket is served, or it is not yet
abbrev pub Serves : {S C : Type 0} → (S → C → S) → (S → C → Type 0) → Seated S C → ℕ → Seated S C → Type 0
Serves {S} {C} after allowed before found now =
    (k : Known S C) (t : ℕ) → before.0 ≡ Some k → k.ticket ≡ Some t → Takes after allowed k before (nat_eq found (t % 2 ^ 64)) now

-- the history in hand, which is one entry longer, was told
abbrev pub Tells : {S C : Type 0} → Seated S C → Seated S C → Type 0
Tells {S} {C} before now =
    (k : Known S C) (h : Held S C) → before.0 ≡ Some k → before.1 ≡ (0, Some h) ∷ [] → now ≡ (Some (record k { seen = h.history.items; mine = calls_by k.number h.history.items }), before.1)

-- the turn was ended
abbrev pub Ends : {S C : Type 0} → Seated S C → Seated S C → Type 0
Ends {S} {C} before now =
    (k : Known S C) → before.0 ≡ Some k → now ≡ (Some (record k { ticket = None; turn = false }), [])
