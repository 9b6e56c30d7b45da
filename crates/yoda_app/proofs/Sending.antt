-- A text that is sent by way of a buffer.
use Rattle.std.proofs.Common.{◌≡◌, ℕ, List, [], ◌++◌, refl, sym, ◌∙◌, ap, subst, append_assoc}
use Rattle.std.proofs.lemmas.List.{append-nil}
use Rattle.std.specs.Prelude.{Option, None, Some, Result, Ok, Err, OnErr}
use Rattle.yoda_app.specs.Written.{longer, AddsPart, Sends}
use Rattle.yoda_app.proofs.Longer.{longer-longer, adds_front, adds_back}

pub longer-nil : (o : Option (List ℕ)) → o ≡ longer o []
longer-nil None = refl
longer-nil (Some c) = ap Some (sym (append-nil c))

module _ (first : Option (List ℕ)) where
  -- at first nothing is sent
  pub nothing_sent : (buffer text : List ℕ) → buffer ≡ [] → Sends first first buffer text text
  nothing_sent buffer text empty = record { sent = []; is = longer-nil first; whole = ap (λ (b : List ℕ). b ++ text) empty }

  -- the next bytes are put into the buffer
  pub gathered : (now : Option (List ℕ)) (buffer bytes left text : List ℕ) → Sends first now buffer (bytes ++ left) text → Sends first now (buffer ++ bytes) left text
  gathered now buffer bytes left text s = record {
    sent = s.sent;
    is = s.is;
    whole = ap (λ (x : List ℕ). s.sent ++ x) (append_assoc buffer bytes left) ∙ s.whole;
  }

  -- .. or added behind what the buffer held
  pub added : (old new : Option (List ℕ)) (buffer bytes left text : List ℕ) → new ≡ longer (longer old buffer) bytes → Sends first old buffer (bytes ++ left) text → Sends first new [] left text
  added old new buffer bytes left text is s = record {
    sent = s.sent ++ (buffer ++ bytes);
    is = is ∙ longer-longer old buffer bytes ∙ ap (λ o. longer o (buffer ++ bytes)) s.is ∙ longer-longer first s.sent (buffer ++ bytes);
    whole = append_assoc s.sent (buffer ++ bytes) left ∙ ap (λ (x : List ℕ). s.sent ++ x) (append_assoc buffer bytes left) ∙ s.whole;
  }

  -- .. or a part of them was
  pub part_added : (old new : Option (List ℕ)) (buffer bytes left text : List ℕ) → AddsPart old new (buffer ++ bytes) → Sends first old buffer (bytes ++ left) text → AddsPart first new text
  part_added old new buffer bytes left text part s =
      let all : s.sent ++ ((buffer ++ bytes) ++ left) ≡ text = ap (λ (x : List ℕ). s.sent ++ x) (append_assoc buffer bytes left) ∙ s.whole in
      subst (λ (t : List ℕ). AddsPart first new t) all (adds_back first old new s.sent ((buffer ++ bytes) ++ left) s.is (adds_front old new (buffer ++ bytes) left part))

  -- the last bytes
  pub all_added : (old new : Option (List ℕ)) (buffer bytes text : List ℕ) → new ≡ longer (longer old buffer) bytes → Sends first old buffer bytes text → new ≡ longer first text
  all_added old new buffer bytes text is s =
      is ∙ longer-longer old buffer bytes ∙ ap (λ o. longer o (buffer ++ bytes)) s.is ∙ longer-longer first s.sent (buffer ++ bytes) ∙ ap (longer first) s.whole

  pub last_part_added : (old new : Option (List ℕ)) (buffer bytes text : List ℕ) → AddsPart old new (buffer ++ bytes) → Sends first old buffer bytes text → AddsPart first new text
  last_part_added old new buffer bytes text part s =
      subst (λ (t : List ℕ). AddsPart first new t) s.whole (adds_back first old new s.sent (buffer ++ bytes) s.is part)

-- what holds holds beside an error too
pub err_too : {T E P : Type 0} → (r : Result T E) → P → OnErr r P
err_too (Ok u) p = tt
err_too (Err e) p = p
