-- An inbox: a queue of so many places between a giver and a taker, and what each of them knows of it.
use Rattle.std.specs.Prelude.{◌≡◌, ℕ, Bool, true, false, List, [], ◌∷◌, ◌++◌, length, Result, Ok, Err}
use mathlib.Core.List.{IsPrefix}
use Rattle.atomic_table.specs.Seated.{TableId}
use Rattle.inbox.specs.declared.taker.Took.{Took}
use Rattle.inbox.specs.declared.taker.Took.TheVariants.{Item, Empty, Ended}

-- What contracts see of a giver: its inbox, the items that it gave, in order, whether it gave the end, and of the items the
-- first ones, which it knows to have been taken.
pub record GiverView (T : Type 0) : Type 0 where
  pub inbox : TableId
  pub given : List T
  pub ended : Bool
  pub known_taken : List T

-- What contracts see of a taker: its inbox, the items that it took, in order, whether it took the end, and the items that it
-- knows to have been given: those that were by the time of its last take.
pub record TakerView (T : Type 0) : Type 0 where
  pub inbox : TableId
  pub taken : List T
  pub ended : Bool
  pub known_given : List T

-- how many items an inbox has room for, the end counted as one
abbrev pub capacity_of : TableId → ℕ
capacity_of inbox = inbox.slots

module _ {T : Type 0} where
  -- of what was given these many items, the last ones, were not taken
  pub record Waiting (given taken : List T) (count : ℕ) : Type 0 where
    pub items : List T
    pub size : length items ≡ count
    pub whole : given ≡ taken ++ items

  -- At one moment of a call of the giver the inbox was full, as much as it knew to have been taken having been taken.
  pub record WasFull (g : GiverView T) : Type 0 where
    pub taken : List T
    pub known : IsPrefix g.known_taken taken
    pub full : Waiting g.given taken (capacity_of g.inbox)

  -- At one moment of a call of the taker the inbox was empty, as much as it knew to have been given having been given.
  pub record WasEmpty (t : TakerView T) : Type 0 where
    pub given : List T
    pub known : IsPrefix t.known_given given
    pub empty : Waiting given t.taken 0

  -- the giver gave these items, and the end or not; it knows as much to have been taken as before, or more
  pub record GaveOnly (old new : GiverView T) (items : List T) (over : Bool) : Type 0 where
    pub inbox : new.inbox ≡ old.inbox
    pub given : new.given ≡ old.given ++ items
    pub ended : new.ended ≡ over
    pub known : IsPrefix old.known_taken new.known_taken

  -- what a giver is answered that gives an item
  abbrev pub IsGiven : GiverView T → GiverView T → T → Result Unit T → Type 0
  IsGiven old new item (Ok done) = GaveOnly old new (item ∷ []) false
  IsGiven old new item (Err back) = (back ≡ item) × (new ≡ old) × WasFull old

  -- what a giver is answered that gives the end
  abbrev pub IsEndGiven : GiverView T → GiverView T → Bool → Type 0
  IsEndGiven old new true = GaveOnly old new [] true
  IsEndGiven old new false = (new ≡ old) × WasFull old

  -- The taker took these items, and the end or not. It knows as much to have been given as before, or more, and all that it
  -- took among it.
  pub record TookOnly (old new : TakerView T) (items : List T) (over : Bool) : Type 0 where
    pub inbox : new.inbox ≡ old.inbox
    pub taken : new.taken ≡ old.taken ++ items
    pub ended : new.ended ≡ over
    pub known : IsPrefix old.known_given new.known_given
    pub given : IsPrefix new.taken new.known_given

  -- what a taker is answered
  abbrev pub IsTook : TakerView T → TakerView T → Took T → Type 0
  IsTook old new (Item x) = (old.ended ≡ false) × TookOnly old new (x ∷ []) false
  IsTook old new Empty = (old.ended ≡ false) × (new ≡ old) × WasEmpty old
  IsTook old new Ended = TookOnly old new [] true
