-- What contracts see of the sides of an inbox after each step.
use Rattle.std.proofs.Common.{◌≡◌, ℕ, Bool, true, false, List, [], ◌∷◌, ◌++◌, Option, Some, None, Result, Ok, Err, sym, refl, ap, subst, ◌∙◌}
use Rattle.std.proofs.lemmas.List.{append-nil}
use mathlib.Core.List.{IsPrefix}
use Rattle.atomic_table.specs.Seated.{TableId}
use Rattle.crossbeam_queue.specs.Fifo.{Held}
use Rattle.inbox.specs.declared.rule.Known.{Known}
use Rattle.inbox.specs.Inboxes.{GiverView, TakerView, WasFull, WasEmpty, IsGiven, GaveOnly, TookOnly, capacity_of}
use Rattle.inbox.specs.Rule.{HasGiven, HasTaken, GivenByThen, TakenByThen, items_of, has_end, giver_view, taker_view}
use Rattle.inbox.proofs.ItemLemmas.{IsPrefix-refl, items-snoc, endless-snoc, items-end, ended-snoc, items-prefix, items-whole, end-stays, waiting-items, waiting-none}

module _ {T : Type 0} where
  -- ---- the giver
  known_before : (old : GiverView T) (inbox : TableId) (k l : Known T) → giver_view inbox k ≡ old → IsPrefix k.taken l.taken → IsPrefix old.known_taken (items_of l.taken)
  known_before old inbox k l viewed more = subst (λ (o : GiverView T). IsPrefix o.known_taken (items_of l.taken)) viewed (items-prefix k.taken l.taken more)

  pub gave_item : (old : GiverView T) (inbox inbox' : TableId) (k l : Known T) (x : T) → giver_view inbox k ≡ old → inbox' ≡ inbox → HasGiven k (Some x) l → old.ended ≡ false → GaveOnly old (giver_view inbox' l) (x ∷ []) false
  gave_item old inbox inbox' k l x viewed same gave open_ =
      let endless : has_end k.given ≡ false = ap (λ (o : GiverView T). o.ended) viewed ∙ open_ in
      record {
        inbox = same ∙ ap (λ (o : GiverView T). o.inbox) viewed;
        given = ap items_of gave.given ∙ items-snoc k.given x endless ∙ ap (λ (o : GiverView T). o.given ++ x ∷ []) viewed;
        ended = ap has_end gave.given ∙ endless-snoc k.given x endless;
        known = known_before old inbox k l viewed gave.known;
      }

  pub gave_end : (old : GiverView T) (inbox inbox' : TableId) (k l : Known T) → giver_view inbox k ≡ old → inbox' ≡ inbox → HasGiven k None l → GaveOnly old (giver_view inbox' l) [] true
  gave_end old inbox inbox' k l viewed same gave = record {
    inbox = same ∙ ap (λ (o : GiverView T). o.inbox) viewed;
    given = ap items_of gave.given ∙ items-end k.given ∙ ap (λ (o : GiverView T). o.given) viewed ∙ sym (append-nil old.given);
    ended = ap has_end gave.given ∙ ended-snoc k.given;
    known = known_before old inbox k l viewed gave.known;
  }

  pub gave_nothing : (old : GiverView T) (inbox inbox' : TableId) (k l : Known T) → giver_view inbox k ≡ old → inbox' ≡ inbox → l ≡ k → giver_view inbox' l ≡ old
  gave_nothing old inbox inbox' k l viewed same kept = ap (λ (i : TableId). giver_view i l) same ∙ ap (giver_view inbox) kept ∙ viewed

  pub was_full : (old : GiverView T) (inbox : TableId) (k : Known T) (n : ℕ) → giver_view inbox k ≡ old → old.ended ≡ false → n ≡ capacity_of inbox → Held n (GivenByThen k) → WasFull old
  was_full old inbox k n viewed open_ room (items, size, then) =
      let endless : has_end k.given ≡ false = ap (λ (o : GiverView T). o.ended) viewed ∙ open_ in
      subst WasFull viewed (record {
        taken = items_of then.taken;
        known = items-prefix k.taken then.taken then.known;
        full = waiting-items (capacity_of inbox) k.given then.taken items endless then.order (size ∙ room);
      })

  -- whatever it is answered, it gives into the inbox that it had, and has not given the end
  pub given_same : (old new : GiverView T) (item : T) (answer : Result Unit T) → old.ended ≡ false → IsGiven old new item answer → (new.inbox ≡ old.inbox) × (new.ended ≡ false)
  given_same old new item (Ok done) open_ is = (is.inbox, is.ended)
  given_same old new item (Err back) open_ is = (ap (λ (o : GiverView T). o.inbox) is.1, ap (λ (o : GiverView T). o.ended) is.1 ∙ open_)

  -- ---- the taker
  known_since : (old : TakerView T) (inbox : TableId) (k l : Known T) (ended : Bool) → taker_view inbox k ended ≡ old → IsPrefix k.given l.given → IsPrefix old.known_given (items_of l.given)
  known_since old inbox k l ended viewed more = subst (λ (o : TakerView T). IsPrefix o.known_given (items_of l.given)) viewed (items-prefix k.given l.given more)

  pub took_item : (old : TakerView T) (inbox inbox' : TableId) (k l : Known T) (ended : Bool) (x : T) → taker_view inbox k ended ≡ old → inbox' ≡ inbox → HasTaken k (Some x) l → has_end k.taken ≡ false → ended ≡ false
      → TookOnly old (taker_view inbox' l ended) (x ∷ []) false
  took_item old inbox inbox' k l ended x viewed same took endless open_ = record {
    inbox = same ∙ ap (λ (o : TakerView T). o.inbox) viewed;
    taken = ap items_of took.taken ∙ items-snoc k.taken x endless ∙ ap (λ (o : TakerView T). o.taken ++ x ∷ []) viewed;
    ended = open_;
    known = known_since old inbox k l ended viewed took.known;
    given = items-prefix l.taken l.given took.order;
  }

  pub took_end : (old : TakerView T) (inbox inbox' : TableId) (k l : Known T) (ended : Bool) → taker_view inbox k ended ≡ old → inbox' ≡ inbox → HasTaken k None l → TookOnly old (taker_view inbox' l true) [] true
  took_end old inbox inbox' k l ended viewed same took = record {
    inbox = same ∙ ap (λ (o : TakerView T). o.inbox) viewed;
    taken = ap items_of took.taken ∙ items-end k.taken ∙ ap (λ (o : TakerView T). o.taken) viewed ∙ sym (append-nil old.taken);
    ended = refl;
    known = known_since old inbox k l ended viewed took.known;
    given = items-prefix l.taken l.given took.order;
  }

  -- the end was taken before
  pub took_again : (old : TakerView T) (inbox : TableId) (k : Known T) (ended : Bool) → taker_view inbox k ended ≡ old → IsPrefix k.taken k.given → ended ≡ true → TookOnly old old [] true
  took_again old inbox k ended viewed order is_over = record {
    inbox = refl;
    taken = sym (append-nil old.taken);
    ended = sym (ap (λ (o : TakerView T). o.ended) viewed) ∙ is_over;
    known = IsPrefix-refl old.known_given;
    given = subst (λ (o : TakerView T). IsPrefix o.taken o.known_given) viewed (items-prefix k.taken k.given order);
  }

  pub took_nothing : (old : TakerView T) (inbox inbox' : TableId) (k l : Known T) (ended : Bool) → taker_view inbox k ended ≡ old → inbox' ≡ inbox → l ≡ k → taker_view inbox' l ended ≡ old
  took_nothing old inbox inbox' k l ended viewed same kept = ap (λ (i : TableId). taker_view i l ended) same ∙ ap (λ (m : Known T). taker_view inbox m ended) kept ∙ viewed

  pub was_empty : (old : TakerView T) (inbox : TableId) (k : Known T) (ended : Bool) → taker_view inbox k ended ≡ old → Held 0 (TakenByThen k) → WasEmpty old
  was_empty old inbox k ended viewed (items, size, then) =
      subst WasEmpty viewed (record {
        given = items_of then.given;
        known = items-prefix k.given then.given then.known;
        empty = waiting-none then.given k.taken items then.order size;
      })

  -- ---- the taker that took the giver in
  pub taken_first : (k l m : Known T) (items : List (Option T)) (given : List T) → l.given ≡ k.taken ++ items → m.taken ≡ k.taken → items_of l.given ≡ given → IsPrefix (items_of m.taken) given
  taken_first k l m items given order same is =
      subst (λ (taken : List (Option T)). IsPrefix (items_of taken) given) (sym same)
      (subst (λ (g : List T). IsPrefix (items_of k.taken) g) is (items-prefix k.taken l.given (items, sym order)))

  pub taken_whole : (k l m : Known T) (items : List (Option T)) (given : List T) → l.given ≡ k.taken ++ items → m.taken ≡ k.taken → items_of l.given ≡ given → has_end k.taken ≡ true → items_of m.taken ≡ given
  taken_whole k l m items given order same is ended = ap items_of same ∙ items-whole k.taken items ended ∙ ap items_of (sym order) ∙ is

  -- .. and the giver gave the end that the taker took
  pub taken_over : (k l : Known T) (items : List (Option T)) (over : Bool) → l.given ≡ k.taken ++ items → has_end l.given ≡ over → has_end k.taken ≡ true → over ≡ true
  taken_over k l items over order is ended = sym is ∙ (ap has_end order ∙ end-stays k.taken items ended)
