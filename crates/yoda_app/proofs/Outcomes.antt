-- A command's end and its line make its outcome.
use Rattle.std.proofs.Common.{◌≡◌, ◌≢◌, ◌⊎◌, ℕ, ◌≤◌, List, [], ◌∷◌, refl, sym, ◌∙◌, ap, subst, inl, inr, arith}
use Rattle.std.specs.Prelude.{Option, None, Some, Contains, ◌++◌, Result, Ok, Err, IfErr, OnOk, codes}
use Rattle.std.specs.Option.{option_map_or}
use Rattle.plain_run.specs.declared.fault.LoadFault.{LoadFault}
use Rattle.plain_run.specs.declared.fault.LoadFault.TheVariants as fault
use Rattle.shelf.specs.Changes.{Change, held}
use Rattle.shelf.specs.Shelf.{Contents, Counts, SameContents, SameOthers, NoneFell}
use Rattle.shelf.specs.declared.outside.Kind.TheVariants.{Reading, Writing}
use Rattle.yoda_app.specs.Commands.{Command, error_name, IsUntouched, Says, SaysLine, line, IsDone, IsWriteFault, IsRefused, IsOutcome}
use Rattle.yoda_app.specs.Ends.{IsInputFault, IsUnloaded, IsEnd, stop_text, end_status}
use Rattle.yoda_app.specs.Refusals.{status_of, refusal_text, memory_text}
use Rattle.yoda_app.specs.Written.{longer, AddsPart}
use Rattle.yoda_app.specs.declared.ending.Stop.{Stop}
use Rattle.yoda_app.specs.declared.ending.Stop.TheVariants.{Memory, Unloaded, Write}
use Rattle.yoda_app.proofs.Outputs.{AreApart, kept, written_on, stopped_on}
use Rattle.yoda_app.proofs.Rising.{rose_since, rose_until}

-- but for the outputs and standard error no content was changed
abbrev pub IsElsewhere : Command → Contents → Contents → Type 0
IsElsewhere c old new = (n : List ℕ) → n ≢ error_name → (Contains c.outputs n → ⊥) → new n ≡ old n

-- the statuses of refusals
abbrev OfRefusal : ℕ → Type 0
OfRefusal status = (status ≡ 5) ⊎ (status ≡ 6) ⊎ (status ≡ 7) ⊎ (status ≡ 8)

-- they are none of the others
not_of_refusal : (status n : ℕ) → OfRefusal status → status ≡ n → n ≢ 5 → n ≢ 6 → n ≢ 7 → n ≢ 8 → ⊥
not_of_refusal status n (inl five) same a b c d = a (sym same ∙ five)
not_of_refusal status n (inr (inl six)) same a b c d = b (sym same ∙ six)
not_of_refusal status n (inr (inr (inl seven))) same a b c d = c (sym same ∙ seven)
not_of_refusal status n (inr (inr (inr eight))) same a b c d = d (sym same ∙ eight)

outcome_done : (c : Command) (s : Change) → IsDone c s → s.new error_name ≡ s.old error_name → IsElsewhere c s.old s.new → IsOutcome c s 0
outcome_done c s done silent elsewhere = record {
  statuses = inl refl;
  done = λ _. done;
  silent = λ _. silent;
  read_fault = λ e. absurd (omega (arith, e));
  write_fault = λ e. absurd (omega (arith, e));
  refused = λ e. absurd (not_of_refusal 0 0 e refl (λ x. omega (arith, x)) (λ x. omega (arith, x)) (λ x. omega (arith, x)) (λ x. omega (arith, x)));
  no_memory = λ e. absurd (omega (arith, e));
  only = λ told f e. absurd (let n : c.refusal (held s.old) ≡ None = done.accepted told in cc);
  complete = λ told quiet. inr (sym (ap (λ o. option_map_or status_of o 0) (done.accepted told)));
  elsewhere = elsewhere;
}

outcome_read : (c : Command) (s : Change) (n : List ℕ) → IsInputFault c s n → SaysLine s (refusal_text (fault.Read n)) → IsElsewhere c s.old s.new → IsOutcome c s 3
outcome_read c s n fault says elsewhere = record {
  statuses = inr (inl refl);
  done = λ e. absurd (omega (arith, e));
  silent = λ e. absurd (omega (arith, e));
  read_fault = λ _. (n, fault.fault, fault.untouched, says);
  write_fault = λ e. absurd (omega (arith, e));
  refused = λ e. absurd (not_of_refusal 3 3 e refl (λ x. omega (arith, x)) (λ x. omega (arith, x)) (λ x. omega (arith, x)) (λ x. omega (arith, x)));
  no_memory = λ e. absurd (omega (arith, e));
  only = λ told f e. inl refl;
  complete = λ told quiet. absurd (quiet.inputs n fault.fault.named fault.fault.rose);
  elsewhere = elsewhere;
}

outcome_write : (c : Command) (s : Change) (n : List ℕ) → IsWriteFault c s n → SaysLine s (codes "write fault: " ++ n) → IsElsewhere c s.old s.new → IsOutcome c s 4
outcome_write c s n fault says elsewhere = record {
  statuses = inr (inr (inl refl));
  done = λ e. absurd (omega (arith, e));
  silent = λ e. absurd (omega (arith, e));
  read_fault = λ e. absurd (omega (arith, e));
  write_fault = λ _. (n, fault, says);
  refused = λ e. absurd (not_of_refusal 4 4 e refl (λ x. omega (arith, x)) (λ x. omega (arith, x)) (λ x. omega (arith, x)) (λ x. omega (arith, x)));
  no_memory = λ e. absurd (omega (arith, e));
  only = λ told f e. absurd (let n : c.refusal (held s.old) ≡ None = fault.accepted told in cc);
  complete = λ told quiet. absurd (quiet.outputs n fault.named fault.rose);
  elsewhere = elsewhere;
}

outcome_memory : (c : Command) (s : Change) → IsUntouched s → SaysLine s memory_text → IsElsewhere c s.old s.new → IsOutcome c s 9
outcome_memory c s untouched says elsewhere = record {
  statuses = inr (inr (inr (inr (inr (inr (inr refl))))));
  done = λ e. absurd (omega (arith, e));
  silent = λ e. absurd (omega (arith, e));
  read_fault = λ e. absurd (omega (arith, e));
  write_fault = λ e. absurd (omega (arith, e));
  refused = λ e. absurd (not_of_refusal 9 9 e refl (λ x. omega (arith, x)) (λ x. omega (arith, x)) (λ x. omega (arith, x)) (λ x. omega (arith, x)));
  no_memory = λ _. (untouched, says);
  only = λ told f e. inr (inl refl);
  complete = λ told quiet. inl refl;
  elsewhere = elsewhere;
}

all_statuses : (status : ℕ) → OfRefusal status → (status ≡ 0) ⊎ (status ≡ 3) ⊎ (status ≡ 4) ⊎ (status ≡ 5) ⊎ (status ≡ 6) ⊎ (status ≡ 7) ⊎ (status ≡ 8) ⊎ (status ≡ 9)
all_statuses status (inl five) = inr (inr (inr (inl five)))
all_statuses status (inr (inl six)) = inr (inr (inr (inr (inl six))))
all_statuses status (inr (inr (inl seven))) = inr (inr (inr (inr (inr (inl seven)))))
all_statuses status (inr (inr (inr eight))) = inr (inr (inr (inr (inr (inr (inl eight))))))

outcome_refused : (c : Command) (s : Change) (f : LoadFault) → OfRefusal (status_of f) → IsRefused c s f → SaysLine s (refusal_text f) → IsElsewhere c s.old s.new → IsOutcome c s (status_of f)
outcome_refused c s f is refused says elsewhere =
    record {
      statuses = all_statuses (status_of f) is;
      done = λ e. absurd (not_of_refusal (status_of f) 0 is e (λ x. omega (arith, x)) (λ x. omega (arith, x)) (λ x. omega (arith, x)) (λ x. omega (arith, x)));
      silent = λ e. absurd (not_of_refusal (status_of f) 0 is e (λ x. omega (arith, x)) (λ x. omega (arith, x)) (λ x. omega (arith, x)) (λ x. omega (arith, x)));
      read_fault = λ e. absurd (not_of_refusal (status_of f) 3 is e (λ x. omega (arith, x)) (λ x. omega (arith, x)) (λ x. omega (arith, x)) (λ x. omega (arith, x)));
      write_fault = λ e. absurd (not_of_refusal (status_of f) 4 is e (λ x. omega (arith, x)) (λ x. omega (arith, x)) (λ x. omega (arith, x)) (λ x. omega (arith, x)));
      refused = λ _. (f, refl, refused, says);
      no_memory = λ e. absurd (not_of_refusal (status_of f) 9 is e (λ x. omega (arith, x)) (λ x. omega (arith, x)) (λ x. omega (arith, x)) (λ x. omega (arith, x)));
      only = λ told g e. inr (inr (let h : c.refusal (held s.old) ≡ Some f = refused.cause told in let same : f ≡ g = cc in ap status_of same));
      complete = λ told quiet. inr (sym (ap (λ o. option_map_or status_of o 0) (refused.cause told)));
      elsewhere = elsewhere;
    }

-- a line that was said after other calls
says_since : (old mid new : Option (List ℕ)) (before between now : ℕ) (text : List ℕ) → mid ≡ old → before ≤ between → Says mid new between now text → Says old new before now text
says_since old mid new before between now text same later says =
    let P : Option (List ℕ) → Type 0 = λ o. AddsPart o new text in
    record {
      part = subst P same says.part;
      all = elim says.all [ inl all ↦ inl (all ∙ ap (λ o. longer o text) same) | inr rose ↦ inr (rose_since before between now later rose) ];
    }

-- the shelf's change up to a command's end, its line, and the change up to its answer
pub record Finished (c : Command) (mid : Contents) (between : Counts) (s : Change) (end : Result (Unit {0}) Stop) : Type 0 where
  pub apart : AreApart c.outputs
  pub first : IsEnd c (record s { new = mid; now = between }) end
  pub left : IsElsewhere c s.old mid
  pub here : mid error_name ≡ s.old error_name
  pub rising : NoneFell s.before between
  pub later : NoneFell between s.now
  pub says : IfErr end (λ stop. Says (mid error_name) (s.new error_name) (between Writing error_name) (s.now Writing error_name) (line (stop_text stop)))
  pub silent : OnOk end (SameContents mid s.new)
  pub others : SameOthers error_name mid s.new

untouched_on : (old mid last : Contents) → SameOthers error_name old mid → SameOthers error_name mid last → SameOthers error_name old last
untouched_on old mid last first second n other = second n other ∙ first n other

elsewhere_on : (c : Command) (old mid last : Contents) → IsElsewhere c old mid → SameOthers error_name mid last → IsElsewhere c old last
elsewhere_on c old mid last first second n other out = second n other ∙ first n other out

refused_on : (c : Command) (mid : Contents) (between : Counts) (s : Change) (f : LoadFault) → SameOthers error_name mid s.new
    → IsRefused c (record s { new = mid; now = between }) f → IsRefused c s f
refused_on c mid between s f others refused = record { cause = refused.cause; untouched = untouched_on s.old mid s.new refused.untouched others }

-- inputs that were not taken, and the line that says why
unloaded_of : (c : Command) (mid : Contents) (between : Counts) (s : Change) (f : LoadFault) → IsUnloaded c (record s { new = mid; now = between }) f → SameOthers error_name mid s.new
    → NoneFell between s.now → SaysLine s (refusal_text f) → IsElsewhere c s.old s.new → IsOutcome c s (status_of f)
unloaded_of c mid between s (fault.Read name) first others later says elsewhere =
    outcome_read c s name (record {
      fault = record {
        named = first.fault.named;
        rose = rose_until _ _ _ first.fault.rose (later Reading name);
        not_sure = first.fault.not_sure;
      };
      untouched = untouched_on s.old mid s.new first.untouched others;
    }) says elsewhere
unloaded_of c mid between s (fault.Limit passed) first others later says elsewhere =
    outcome_refused c s (fault.Limit passed) (inr (inr (inr refl))) (refused_on c mid between s (fault.Limit passed) others first) says elsewhere
unloaded_of c mid between s (fault.Trace f) first others later says elsewhere =
    outcome_refused c s (fault.Trace f) (inl refl) (refused_on c mid between s (fault.Trace f) others first) says elsewhere
unloaded_of c mid between s (fault.Rules f) first others later says elsewhere =
    outcome_refused c s (fault.Rules f) (inr (inl refl)) (refused_on c mid between s (fault.Rules f) others first) says elsewhere
unloaded_of c mid between s (fault.Script f) first others later says elsewhere =
    outcome_refused c s (fault.Script f) (inr (inr (inl refl))) (refused_on c mid between s (fault.Script f) others first) says elsewhere
unloaded_of c mid between s fault.Memory first others later says elsewhere =
    outcome_memory c s (untouched_on s.old mid s.new first others) says elsewhere

pub outcome_of : (c : Command) (mid : Contents) (between : Counts) (s : Change) (end : Result (Unit {0}) Stop) → Finished c mid between s end → IsOutcome c s (end_status end)
outcome_of c mid between s (Ok done) f =
    outcome_done c s (record {
      accepted = f.first.accepted;
      outputs = λ told. (let o = f.first.outputs told in
          (o.0, o.1, written_on c.outputs o.0 s.old mid s.new (kept c.outputs mid s.new f.apart f.others) o.2));
    }) (f.silent error_name ∙ f.here) (elsewhere_on c s.old mid s.new f.left f.others)
outcome_of c mid between s (Err Memory) f =
    outcome_memory c s (untouched_on s.old mid s.new (λ n _. f.first n) f.others)
    (says_since _ _ _ _ _ _ _ f.here (f.rising Writing error_name) f.says)
    (elsewhere_on c s.old mid s.new f.left f.others)
outcome_of c mid between s (Err (Unloaded g text)) f =
    let S : List ℕ → Type 0 = λ t. SaysLine s t in
    unloaded_of c mid between s g f.first.0 f.others f.later
    (subst S f.first.1 (says_since _ _ _ _ _ _ _ f.here (f.rising Writing error_name) f.says))
    (elsewhere_on c s.old mid s.new f.left f.others)
outcome_of c mid between s (Err (Write name)) f =
    outcome_write c s name.now (record {
      named = f.first.named;
      rose = rose_until _ _ _ f.first.rose (f.later Writing name.now);
      accepted = f.first.accepted;
      outputs = λ told. (let o = f.first.outputs told in
          (o.0, o.1, stopped_on name.now c.outputs o.0 s.old mid s.new (kept c.outputs mid s.new f.apart f.others) o.2));
    }) (says_since _ _ _ _ _ _ _ f.here (f.rising Writing error_name) f.says)
    (elsewhere_on c s.old mid s.new f.left f.others)

-- where only these names were changed
pub outside_two : (a b : List ℕ) (old new : Contents) → ((n : List ℕ) → n ≢ a → n ≢ b → new n ≡ old n) → (n : List ℕ) → n ≢ error_name → (Contains (a ∷ b ∷ []) n → ⊥) → new n ≡ old n
outside_two a b old new others n other out = others n (λ same. out (0, omega arith, sym same)) (λ same. out (1, omega arith, sym same))

pub outside_one : (a : List ℕ) (old new : Contents) → ((n : List ℕ) → n ≢ a → new n ≡ old n) → (n : List ℕ) → n ≢ error_name → (Contains (a ∷ []) n → ⊥) → new n ≡ old n
outside_one a old new others n other out = others n (λ same. out (0, omega arith, sym same))

-- standard error is not standard output
pub not_output : codes "!" ≢ codes "-"
not_output same = cc
