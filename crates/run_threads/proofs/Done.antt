-- The run is done once its locks are closed.
use Rattle.std.proofs.Common.{◌≡◌, ℕ, zero, suc, ◌+◌, ◌-◌, ◌<◌, List, [], ◌∷◌, length, map, refl, sym, ◌∙◌, ap, subst, arith, ⊎_elim}
use Rattle.std.specs.Prelude.{slice_index_or}
use Rattle.seen_lock.specs.declared.object.Entry.{Entry}
use Rattle.seen_lock.specs.Histories.{AllAllowed, calls_by}
use Rattle.bench.specs.Bench.{BenchState}
use Rattle.bench.specs.Calls.{IsCall, AreCalls}
use Rattle.bench.specs.Histories.{opening}
use Rattle.bench.specs.declared.call.Call.{Call}
use Rattle.bench.specs.declared.input.inputs.Inputs.{Inputs}
use Rattle.pcap_file.specs.Frames.{capture_of}
use Rattle.rule_table.specs.Setups.{SetupView}
use Rattle.run_threads.specs.Answered.{answered}
use Rattle.run_threads.specs.Feeding.{own_numbers}
use Rattle.run_threads.specs.Outcomes.{OutcomeView}
use Rattle.run_threads.specs.Pool.{AreLocks, AreJoined, AllIn, AreHistories, IsHistory, Fits}
use Rattle.run_threads.specs.Run.{AreDone}
use Rattle.run_threads.specs.Seats.{BenchLock, BenchSeat}
use Rattle.run_threads.specs.Served.{AreBlocks}
use Rattle.run_threads.proofs.Closed.{legal_from}

pub all_in : (inputs : Inputs) (locks : List BenchLock) (first : List BenchSeat) (all : List (List (ℕ × OutcomeView))) → AreLocks inputs.setup inputs.setup.shards locks → AreJoined inputs 0 locks first all → AllIn inputs.setup.instances inputs.setup.shards locks first
all_in inputs locks first all are joined = record { locks_many = are.many; seats_many = joined.seats_many; each = joined.seats }

-- the element at a place that is there
pub element : {X : Type 0} (xs : List X) (n : ℕ) → n < length xs → X
element [] n within = absurd (omega (arith, within))
element (x ∷ xs) zero within = x
element (x ∷ xs) (suc n) within = element xs n (omega (arith, within))

are_calls : (setup : SetupView) (g : ℕ) (b : BenchState) (history : List (Entry Call)) → b.setup ≡ setup → b.shard ≡ g → AllAllowed (λ b c. IsCall b.setup b.shard c) b history → AreCalls setup g (map (λ e. e.call) history)
are_calls setup g b [] same here legal = tt
are_calls setup g b (e ∷ history) same here legal =
    (subst (λ n. IsCall setup n e.call) here (subst (λ s. IsCall s b.shard e.call) same legal.0), are_calls setup g b history same here legal.1)

pub are_done : (inputs : Inputs) (locks : List BenchLock) (first : List BenchSeat) (all : List (List (ℕ × OutcomeView))) (histories : List (List (Entry Call))) → inputs.frames ≡ (capture_of inputs.trace).frames
    → AreLocks inputs.setup inputs.setup.shards locks → AreJoined inputs 0 locks first all → AreHistories inputs.setup.instances inputs.setup.shards 0 first histories
    → AreDone inputs all histories
are_done inputs locks first all histories frames_are are joined closed =
    let many = joined.many in
    let shards = closed.many in
    let at : (g : ℕ) (h : List (Entry Call)) → slice_index_or histories (g - 0) h ≡ slice_index_or histories g h = λ g h. ap (λ k. slice_index_or histories k h) (let e : g - 0 ≡ g = omega arith in e) in record {
      workers_many = omega (arith, many);
      shards_many = omega (arith, shards);
      workers = λ w d within.
          let t = joined.workers w d (omega arith) within in record {
            outcomes = t.outcomes;
            made_is = t.made_is;
            numbers_are = t.numbers_are ∙ ap (own_numbers inputs w 0) frames_are;
            blocks = λ g h below.
                let l = element locks g (subst (λ k. g < k) (sym are.many) below) in
                let s = element first g (subst (λ k. g < k) (sym joined.seats_many) below) in
                let history = slice_index_or histories g h in
                subst (λ fs. AreBlocks inputs w 0 fs t.outcomes g (answered (w + 1) (opening inputs.setup g) history)) frames_are
                (t.blocks g l s below history (subst (λ z. Fits (slice_index_or first g s) z) (at g h) (closed.each g s h (omega arith) below).fits));
          };
      nobody_else = λ n g h who below.
          let s = element first g (subst (λ k. g < k) (sym joined.seats_many) below) in
          let is = subst (λ z. IsHistory inputs.setup.instances (slice_index_or first g s) z) (at g h) (closed.each g s h (omega arith) below) in
          ⊎_elim (λ e. ap (λ k. calls_by k (slice_index_or histories g h)) e ∙ is.zero_none) (λ more. is.nobody_else n more) who;
      legal = λ g h below.
          let l = element locks g (subst (λ k. g < k) (sym are.many) below) in
          let s = element first g (subst (λ k. g < k) (sym joined.seats_many) below) in
          let lock = slice_index_or locks g l in
          let seat = slice_index_or first g s in
          let history = slice_index_or histories g h in
          let is = subst (λ z. IsHistory inputs.setup.instances seat z) (at g h) (closed.each g s h (omega arith) below) in
          are_calls inputs.setup g (opening inputs.setup g) history refl refl
          (subst (λ b. AllAllowed (λ b c. IsCall b.setup b.shard c) b history) (are.each g l below) (legal_from lock.first seat.number seat.made seat.view history (joined.seats g l s below).of.knows is.legal));
    }
