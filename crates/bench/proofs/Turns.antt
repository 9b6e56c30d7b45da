-- The moves by which a desk is settled, one after the other.
use Rattle.std.proofs.Common.{◌≡◌, ℕ, zero, suc, ◌⊎◌, inl, inr, Option, Some, None, List, [], ◌∷◌, ◌++◌, refl, ap}
use Rattle.std.specs.List.{AllByRecursion}
use Rattle.rule_table.specs.Setups.{SetupView}
use Rattle.bench.specs.declared.call.Reply.{Reply}
use Rattle.bench.specs.Bench.{JobState, Desk, Known, turn_of, turned, settled, settled_by, settle, asks_limit}
use Rattle.bench.specs.Histories.{JobMove, known_move, moves_by, settled_moves, settle_moves}

module _ (setup : SetupView) (i : ℕ) where
  pub data Turns : Desk × Reply → List JobMove → Desk × Reply → Type 0 where
    rests : (at : Desk × Reply) → Turns at [] at
    turns : (at : Desk × Reply) (turn : JobState × Known) (moves : List JobMove) (end : Desk × Reply) → turn_of setup at.0 ≡ Some turn
        → Turns (turned setup i at.0 turn) moves end → Turns at (known_move i at.0 turn ∷ moves) end

  settled_turns : (n : ℕ) (at : Desk × Reply) → Turns at (settled_moves n setup i at) (settled n setup i at)
  settled_turns zero at = rests at
  settled_turns (suc n) at = by (settled_moves n setup i) (settled n setup i) (settled_turns n) (turn_of setup at.0) refl
    where
      by : (moves : Desk × Reply → List JobMove) (more : Desk × Reply → Desk × Reply) → ((x : Desk × Reply) → Turns x (moves x) (more x))
          → (o : Option (JobState × Known)) → turn_of setup at.0 ≡ o → Turns at (moves_by moves setup i at o) (settled_by more setup i at o)
      by moves more rest None is = rests at
      by moves more rest (Some turn) is = turns at turn _ _ is (rest (turned setup i at.0 turn))

  pub settle_turns : (at : Desk × Reply) → Turns at (settle_moves setup i at) (settle setup i at)
  unfolding settle settle_moves
  settle_turns at = settled_turns asks_limit at

  -- ---- what each turn keeps
  module _ (D : Desk × Reply → Type 0) (keeps : (at : Desk × Reply) (turn : JobState × Known) → turn_of setup at.0 ≡ Some turn → D at → D (turned setup i at.0 turn)) where
    pub end_has : (at end : Desk × Reply) (moves : List JobMove) → Turns at moves end → D at → D end
    end_has at end moves (rests x) has = has
    end_has at end moves (turns x turn more e is rest) has = end_has (turned setup i at.0 turn) end more rest (keeps at turn is has)

    pub each_has : (M : JobMove → Type 0) → ((at : Desk × Reply) (turn : JobState × Known) → turn_of setup at.0 ≡ Some turn → D at → M (known_move i at.0 turn))
        → (at end : Desk × Reply) (moves : List JobMove) → Turns at moves end → D at → AllByRecursion M moves
    each_has M each at end moves (rests x) has = tt
    each_has M each at end moves (turns x turn more e is rest) has = (each at turn is has, each_has M each (turned setup i at.0 turn) end more rest (keeps at turn is has))

    -- ---- the last of the moves
    pub record Last (moves : List JobMove) (end : Desk × Reply) : Type 0 where
      pub earlier : List JobMove
      pub at : Desk × Reply
      pub turn : JobState × Known
      pub is : turn_of setup at.0 ≡ Some turn
      pub has : D at
      pub are : moves ≡ earlier ++ known_move i at.0 turn ∷ []
      pub ends : end ≡ turned setup i at.0 turn

    pub last_of : (at end : Desk × Reply) (moves : List JobMove) → Turns at moves end → D at → ((moves ≡ []) × (end ≡ at)) ⊎ Last moves end
    last_of at end moves (rests x) has = inl (refl, refl)
    last_of at end moves (turns x turn more e is rest) has = elim (last_of (turned setup i at.0 turn) end more rest (keeps at turn is has)) [
      | inl none ↦ inr (record {
        earlier = [];
        at = at;
        turn = turn;
        is = is;
        has = has;
        are = ap (λ (l : List JobMove). known_move i at.0 turn ∷ l) none.0;
        ends = none.1;
      })
      | inr later ↦ inr (record {
        earlier = known_move i at.0 turn ∷ later.earlier;
        at = later.at;
        turn = later.turn;
        is = later.is;
        has = later.has;
        are = ap (λ (l : List JobMove). known_move i at.0 turn ∷ l) later.are;
        ends = later.ends;
      })
    ]
