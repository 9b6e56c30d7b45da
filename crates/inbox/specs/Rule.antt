-- The rule of the queue of an inbox: what was given is what was taken, and then what the queue holds. One side gives, and knows
-- all that was given; one takes, and knows all that was taken. Each knows of the other's list its beginning.
use Rattle.std.specs.Prelude.{◌≡◌, ℕ, Bool, true, false, List, [], ◌∷◌, ◌++◌, Option, Some, None}
use mathlib.Core.List.{IsPrefix}
use mathlib.Core.Option.{some}
use lib.ListN.{get_elem?}
use Rattle.atomic_table.specs.Seated.{TableId}
use Rattle.crossbeam_queue.specs.Passes.{Pass, view}
use Rattle.inbox.specs.declared.rule.Known.{Known}
use Rattle.inbox.specs.Inboxes.{GiverView, TakerView}

module _ {T : Type 0} where
  abbrev pub known_by : Pass (Option T) (Known T) → Known T
  known_by pass = view pass

  abbrev pub known : Bool → Bool → List (Option T) → List (Option T) → Known T
  known gives takes given taken = record { gives = gives; takes = takes; given = given; taken = taken }

  -- what the side with this number knows is so, where these two give and take, and these lists were given and taken
  pub record IsKnown (giver taker : ℕ) (given taken : List (Option T)) (number : ℕ) (k : Known T) : Type 0 where
    pub gives : k.gives ≡ true → (number ≡ giver) × (k.given ≡ given) × IsPrefix k.taken taken
    pub takes : k.takes ≡ true → (number ≡ taker) × (k.taken ≡ taken) × IsPrefix k.given given

  -- what the queue holds, and what each side knows
  pub record Kept (items : List (Option T)) (sides : List (Known T)) : Type 0 where
    pub giver : ℕ
    pub taker : ℕ
    pub given : List (Option T)
    pub taken : List (Option T)
    pub order : given ≡ taken ++ items
    pub known : (number : ℕ) (k : Known T) → get_elem? sides number ≡ some k → IsKnown giver taker given taken number k

  -- x was given: the giver knows it to stand last in what was given, and as much to have been taken as before, or more
  pub record HasGiven (before : Known T) (x : Option T) (after : Known T) : Type 0 where
    pub gives : after.gives ≡ before.gives
    pub given : after.given ≡ before.given ++ x ∷ []
    pub known : IsPrefix before.taken after.taken

  -- x was taken: the taker knows it to stand last in what was taken, and as much to have been given as before, or more
  pub record HasTaken (before : Known T) (x : Option T) (after : Known T) : Type 0 where
    pub takes : after.takes ≡ before.takes
    pub taken : after.taken ≡ before.taken ++ x ∷ []
    pub known : IsPrefix before.given after.given
    pub order : IsPrefix after.taken after.given

  -- what was given by then is what was taken by then, and then what the queue held
  pub record GivenByThen (k : Known T) (items : List (Option T)) : Type 0 where
    pub taken : List (Option T)
    pub known : IsPrefix k.taken taken
    pub order : k.given ≡ taken ++ items

  pub record TakenByThen (k : Known T) (items : List (Option T)) : Type 0 where
    pub given : List (Option T)
    pub known : IsPrefix k.given given
    pub order : given ≡ k.taken ++ items

  -- the items before the end
  abbrev pub items_of : List (Option T) → List T
  items_of [] = []
  items_of (Some x ∷ rest) = x ∷ items_of rest
  items_of (None ∷ rest) = []

  -- the end is there
  abbrev pub has_end : List (Option T) → Bool
  has_end [] = false
  has_end (Some x ∷ rest) = has_end rest
  has_end (None ∷ rest) = true

  -- what contracts see of a giver, and of a taker
  abbrev pub giver_view : TableId → Known T → GiverView T
  giver_view inbox k = record { inbox = inbox; given = items_of k.given; ended = has_end k.given; known_taken = items_of k.taken }

  abbrev pub taker_view : TableId → Known T → Bool → TakerView T
  taker_view inbox k ended = record { inbox = inbox; taken = items_of k.taken; ended = ended; known_given = items_of k.given }
