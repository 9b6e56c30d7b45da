-- What is sent for a record is added from the last segment on.
use Rattle.std.proofs.Common.{◌≡◌, ℕ, List, [], ◌∷◌, ◌++◌, length, reverse, take, drop, sym, ◌∙◌, ap, append_assoc}
use Rattle.std.proofs.lemmas.List.{take-append-drop, reverse-append}
use Rattle.std.proofs.Math.Seq.{drop-append_seam}
use Rattle.tcp_segment.specs.declared.segment.Segment.{Segment}
use Rattle.run_threads.specs.Sent.{numbered_outs}
use Rattle.run_threads.proofs.Merging.{SentFor}

-- the last of what is left stands before what was taken
pub drop_popped : {X : Type 0} (all rest now : List X) (x : X) → rest ≡ take (length rest) all → rest ≡ now ++ x ∷ [] → drop (length now) all ≡ x ∷ drop (length rest) all
drop_popped all rest now x begun popped =
    let more = drop (length rest) all in
    let whole : all ≡ now ++ x ∷ more =
    sym (take-append-drop (length rest) all) ∙ (ap (λ l. l ++ more) (sym begun ∙ popped) ∙ append_assoc now (x ∷ []) more) in
    ap (drop (length now)) whole ∙ drop-append_seam now (x ∷ more)

-- one segment more
pub turned_more : (item : ℕ) (all rest now : List Segment) (out : Segment) (before sent sent' : List SentFor) → rest ≡ take (length rest) all → rest ≡ now ++ out ∷ []
    → sent ≡ before ++ reverse (numbered_outs item (drop (length rest) all)) → sent' ≡ sent ++ (item, out) ∷ [] → sent' ≡ before ++ reverse (numbered_outs item (drop (length now) all))
turned_more item all rest now out before sent sent' begun popped added pushed =
    let more = numbered_outs item (drop (length rest) all) in
    let one : List SentFor = (item, out) ∷ [] in
    pushed ∙ (ap (λ l. l ++ one) added ∙ (append_assoc before (reverse more) one
    ∙ (ap (λ l. before ++ l) (sym (reverse-append one more)) ∙ ap (λ l. before ++ reverse (numbered_outs item l)) (sym (drop_popped all rest now out begun popped)))))
