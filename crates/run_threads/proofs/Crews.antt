-- A crew makes calls.
use Rattle.std.proofs.Common.{◌≡◌, ◌≢◌, ℕ, zero, suc, ◌+◌, ◌<◌, Bool, true, false, true≢false, eq-eqb, ne_eqb, List, [], ◌∷◌, ◌++◌, map, length, take, get_or, refl, sym, ◌∙◌, ap, subst, arith, inl, inr, ⊎_elim, ◌⊎◌}
use Rattle.std.specs.Prelude.{slice_index_or, slice_set, if◌then◌else◌, cond, ◌==◌}
use Rattle.std.specs.List.{filter, flat_map, range_with_len}
use Rattle.std.proofs.lemmas.Bool.Decides.{eqb_tells}
use Rattle.std.proofs.lemmas.List.{length-set, get_or-set_same, get_or-set_other, flat_map_more, map-append, take_more}
use Rattle.std.proofs.lemmas.List.Elements.{filter-append}
use Rattle.bench.specs.Calls.{IsCall}
use Rattle.bench.specs.declared.call.Call.{Call}
use Rattle.bench.specs.declared.call.Reply.{Reply}
use Rattle.rule_table.specs.Setups.{SetupView}
use Rattle.run_threads.specs.Answered.{Answer}
use Rattle.bench.specs.Blocks.{CallAt, history}
use Rattle.run_threads.specs.Crews.{IsMember, IsCrew, Does, CrewDoes, CrewMakes}
use Rattle.run_threads.specs.Answered.{calls_in}
use Rattle.run_threads.specs.Seats.{BenchLock, BenchSeat, IsAt, Adds}
use Rattle.run_threads.proofs.Answered.{adds_none, adds_more}

pub any_default : {X : Type 0} (xs : List X) (n : ℕ) (d e : X) → n < length xs → slice_index_or xs n d ≡ slice_index_or xs n e
any_default [] n d e within = absurd (omega arith)
any_default (x ∷ xs) zero d e within = refl
any_default (x ∷ xs) (suc n) d e within = any_default xs n d e (omega arith)

pub same_or_not : (i j : ℕ) → (i ≡ j) ⊎ (i ≢ j)
same_or_not i j = ⊎_elim (λ a. inl a.1) (λ a. inr a.1) (eqb_tells i j)

module _ (setup : SetupView) (locks : List BenchLock) where
  pub member : (seats : List BenchSeat) (g : ℕ) (l : BenchLock) (s : BenchSeat) → IsCrew setup locks seats → g < setup.shards → l ≡ slice_index_or locks g l → s ≡ slice_index_or seats g s → IsMember setup g l s
  member seats g l s crew within l_is s_is = subst (λ x. IsMember setup g l x) (sym s_is) (subst (λ x. IsMember setup g x (slice_index_or seats g s)) (sym l_is) (crew.each g l s within))

  pub may_call : (g : ℕ) (l : BenchLock) (s : BenchSeat) (c : Call) → IsMember setup g l s → IsCall setup g c → IsCall l.first.setup l.first.shard c
  may_call g l s c is may = subst (λ b. IsCall b.setup b.shard c) (sym is.first) may

  -- the crew stays one
  pub crew_kept : (old new : List BenchSeat) (what : ℕ → List Answer → Type 0) → IsCrew setup locks old → CrewDoes locks old new what → IsCrew setup locks new
  crew_kept old new what crew does = record {
    lock_count = crew.lock_count;
    seat_count = does.count ∙ crew.seat_count;
    each = λ g l s within. record { first = (crew.each g l s within).first; at = (does.each g l s (subst (λ n. g < n) (sym crew.lock_count) within)).adds.at };
  }

  pub crew_set : (old : List BenchSeat) (g : ℕ) (l : BenchLock) (t : BenchSeat) → IsCrew setup locks old → g < setup.shards → l ≡ slice_index_or locks g l → IsAt l t → IsCrew setup locks (slice_set old g t)
  crew_set old g l t crew within l_is at = record {
    lock_count = crew.lock_count;
    seat_count = length-set old g t ∙ crew.seat_count;
    each = λ k x y inside. let was = crew.each k x y inside in record {
      first = was.first;
      at = ⊎_elim
          (λ e. subst (λ n. IsAt (slice_index_or locks n x) (slice_index_or (slice_set old g t) n y)) (sym e)
          (subst (λ z. IsAt z (slice_index_or (slice_set old g t) g y)) (sym (any_default locks g x l (subst (λ n. g < n) (sym crew.lock_count) within) ∙ sym l_is))
          (subst (λ z. IsAt l z) (sym (get_or-set_same old g t y (subst (λ n. g < n) (sym crew.seat_count) within))) at)))
          (λ apart. subst (λ z. IsAt (slice_index_or locks k x) z) (sym (get_or-set_other old g k t y apart)) was.at)
          (same_or_not k g);
    };
  }

  -- a seat of it has made calls, and no other
  pub one_does : (old new : List BenchSeat) (g : ℕ) (l : BenchLock) (s t : BenchSeat) (answers : List Answer) (what : ℕ → List Answer → Type 0)
      → IsCrew setup locks old → g < setup.shards → l ≡ slice_index_or locks g l → s ≡ slice_index_or old g s → new ≡ slice_set old g t → Adds l s t answers
      → what g answers → ((k : ℕ) → k ≢ g → what k []) → CrewDoes locks old new what
  one_does old new g l s t answers what crew within l_is s_is new_is adds here there = record {
    count = ap length new_is ∙ length-set old g t;
    each = λ k x y inside. ⊎_elim
        (λ e. subst (λ n. Does (slice_index_or locks n x) (slice_index_or old n y) (slice_index_or new n y) (what n)) (sym e) (mine x y))
        (λ apart. let other : slice_index_or new k y ≡ slice_index_or old k y = ap (λ z. slice_index_or z k y) new_is ∙ get_or-set_other old g k t y apart in
        let same = adds_none (slice_index_or locks k x) (slice_index_or old k y) (crew.each k x y (subst (λ n. k < n) crew.lock_count inside)).at in
        record {
          answers = [];
          adds = subst (λ z. Adds (slice_index_or locks k x) (slice_index_or old k y) z []) (sym other) same;
          are = there k apart;
        })
        (same_or_not k g);
  }
    where
      here_lock : (x : BenchLock) → slice_index_or locks g x ≡ l
      here_lock x = any_default locks g x l (subst (λ n. g < n) (sym crew.lock_count) within) ∙ sym l_is

      here_old : (y : BenchSeat) → slice_index_or old g y ≡ s
      here_old y = any_default old g y s (subst (λ n. g < n) (sym crew.seat_count) within) ∙ sym s_is

      here_new : (y : BenchSeat) → slice_index_or new g y ≡ t
      here_new y = ap (λ z. slice_index_or z g y) new_is ∙ get_or-set_same old g t y (subst (λ n. g < n) (sym crew.seat_count) within)

      mine : (x : BenchLock) (y : BenchSeat) → Does (slice_index_or locks g x) (slice_index_or old g y) (slice_index_or new g y) (what g)
      mine x y = record {
        answers = answers;
        adds = subst (λ z. Adds z (slice_index_or old g y) (slice_index_or new g y) answers) (sym (here_lock x))
            (subst (λ z. Adds l z (slice_index_or new g y) answers) (sym (here_old y)) (subst (λ z. Adds l s z answers) (sym (here_new y)) adds));
        are = here;
      }

  -- no seat has made a call
  pub none_does : (seats : List BenchSeat) (what : ℕ → List Answer → Type 0) → IsCrew setup locks seats → ((k : ℕ) → what k []) → CrewDoes locks seats seats what
  none_does seats what crew are = record {
    count = refl;
    each = λ k x y inside. record { answers = []; adds = adds_none (slice_index_or locks k x) (slice_index_or seats k y) (crew.each k x y (subst (λ n. k < n) crew.lock_count inside)).at; are = are k };
  }

  -- one after the other
  pub both_do : (old mid new : List BenchSeat) (first second both : ℕ → List Answer → Type 0) → CrewDoes locks old mid first → CrewDoes locks mid new second
      → ((k : ℕ) (xs ys : List Answer) → first k xs → second k ys → both k (xs ++ ys)) → CrewDoes locks old new both
  both_do old mid new first second both a b joined = record {
    count = b.count ∙ a.count;
    each = λ k x y inside. let p = a.each k x y inside in let q = b.each k x y inside in
        record {
          answers = p.answers ++ q.answers;
          adds = adds_more (slice_index_or locks k x) (slice_index_or old k y) (slice_index_or mid k y) (slice_index_or new k y) p.answers q.answers p.adds q.adds;
          are = joined k p.answers q.answers p.are q.are;
        };
  }

  history-append : (g : ℕ) (xs ys : List CallAt) → history g (xs ++ ys) ≡ history g xs ++ history g ys
  history-append g xs ys = ap (map (λ c. c.call)) (filter-append (λ c. c.shard == g) xs ys) ∙ map-append (λ c. c.call) (filter (λ c. c.shard == g) xs) (filter (λ c. c.shard == g) ys)

  pub made_more : (old mid new : List BenchSeat) (xs ys zs : List CallAt) → CrewMakes locks old mid xs → CrewMakes locks mid new ys → zs ≡ xs ++ ys → CrewMakes locks old new zs
  made_more old mid new xs ys zs a b all = both_do old mid new (λ g l. calls_in l ≡ history g xs) (λ g l. calls_in l ≡ history g ys) (λ g l. calls_in l ≡ history g zs) a b
      (λ k p q p_is q_is. map-append (λ x. x.0) p q ∙ (ap (λ l. l ++ calls_in q) p_is ∙ (ap (λ l. history k xs ++ l) q_is ∙ (sym (history-append k xs ys) ∙ ap (history k) (sym all)))))

  pub made_none : (seats : List BenchSeat) → IsCrew setup locks seats → CrewMakes locks seats seats []
  made_none seats crew = none_does seats (λ g l. calls_in l ≡ history g []) crew (λ k. refl)

  pub made_one : (old new : List BenchSeat) (g : ℕ) (l : BenchLock) (s t : BenchSeat) (c : Call) (r : Reply)
      → IsCrew setup locks old → g < setup.shards → l ≡ slice_index_or locks g l → s ≡ slice_index_or old g s → new ≡ slice_set old g t → Adds l s t ((c, r) ∷ [])
      → CrewMakes locks old new (record { shard = g; call = c } ∷ [])
  made_one old new g l s t c r crew within l_is s_is new_is adds =
      one_does old new g l s t ((c, r) ∷ []) (λ k xs. calls_in xs ≡ history k (record { shard = g; call = c } ∷ [])) crew within l_is s_is new_is adds
      (by (g == g) (same g))
      (λ k apart. elsewhere (g == k) (other k apart))
    where
      same : (n : ℕ) → (n == n) ≡ true
      same n = eq-eqb n n refl

      other : (k : ℕ) → k ≢ g → (g == k) ≡ false
      other k apart = ne_eqb g k (λ e. apart (sym e))

      by : (t : Bool) → t ≡ true → c ∷ [] ≡ map (λ (x : CallAt). x.call) (cond t (record { shard = g; call = c } ∷ []) [])
      by true e = refl
      by false e = absurd (true≢false (sym e))

      elsewhere : (t : Bool) → t ≡ false → [] ≡ map (λ (x : CallAt). x.call) (cond t (record { shard = g; call = c } ∷ []) [])
      elsewhere false e = refl
      elsewhere true e = absurd (true≢false e)

  -- a call was refused
  pub refused_one : (old new : List BenchSeat) (g : ℕ) (l : BenchLock) (s t : BenchSeat)
      → IsCrew setup locks old → g < setup.shards → l ≡ slice_index_or locks g l → s ≡ slice_index_or old g s → new ≡ slice_set old g t → Adds l s t []
      → CrewMakes locks old new []
  refused_one old new g l s t crew within l_is s_is new_is adds = one_does old new g l s t [] (λ k xs. calls_in xs ≡ history k []) crew within l_is s_is new_is adds refl (λ k apart. refl)

  -- where a test says so, nothing is called
  pub none_made : (seats : List BenchSeat) (m n : ℕ) (c : CallAt) → IsCrew setup locks seats → m ≢ n → CrewMakes locks seats seats (if m == n then c ∷ [] else [])
  none_made seats m n c crew apart = subst (λ t. CrewMakes locks seats seats (if t then c ∷ [] else [])) (sym (ne_eqb m n apart)) (made_none seats crew)

  -- a call where a test says so
  pub if_made : (old new : List BenchSeat) (c : CallAt) (f : ℕ → CallAt) (p : ℕ → Bool) (n : ℕ) → c ≡ f n → CrewMakes locks old new (if p n then c ∷ [] else []) → CrewMakes locks old new (map f (filter p (n ∷ [])))
  if_made old new c f p n is = by (p n)
    where
      by : (t : Bool) → CrewMakes locks old new (if t then c ∷ [] else []) → CrewMakes locks old new (map f (cond t (n ∷ []) []))
      by true made = subst (λ x. CrewMakes locks old new (x ∷ [])) is made
      by false made = made

range_suc : (a n : ℕ) → range_with_len a (suc n) ≡ range_with_len a n ++ (a + n) ∷ []
range_suc a zero = ap (λ (k : ℕ). k ∷ []) (let e : a ≡ a + 0 = omega arith in e)
range_suc a (suc n) = ap (λ (ks : List ℕ). a ∷ ks) (range_suc (a + 1) n ∙ ap (λ (k : ℕ). range_with_len (a + 1) n ++ k ∷ []) (let e : a + 1 + n ≡ a + suc n = omega arith in e))

range_more : (n : ℕ) → range_with_len 0 (n + 1) ≡ range_with_len 0 n ++ n ∷ []
range_more n = ap (range_with_len 0) (let e : n + 1 ≡ suc n = omega arith in e) ∙ range_suc 0 n ∙ ap (λ (k : ℕ). range_with_len 0 n ++ k ∷ []) (let e : 0 + n ≡ n = omega arith in e)

-- the calls for one shard more
pub flat_range : (f : ℕ → List CallAt) (n : ℕ) → flat_map f (range_with_len 0 (n + 1)) ≡ flat_map f (range_with_len 0 n) ++ f n
flat_range f n = ap (flat_map f) (range_more n) ∙ sym (flat_map_more f [] (range_with_len 0 n) n)

pub map_range : (f : ℕ → CallAt) (n : ℕ) → map f (range_with_len 0 (n + 1)) ≡ map f (range_with_len 0 n) ++ f n ∷ []
map_range f n = ap (map f) (range_more n) ∙ map-append f (range_with_len 0 n) (n ∷ [])

-- .. for one place more
pub map_filter_range : (f : ℕ → CallAt) (p : ℕ → Bool) (n : ℕ) → map f (filter p (range_with_len 0 (n + 1))) ≡ map f (filter p (range_with_len 0 n)) ++ map f (filter p (n ∷ []))
map_filter_range f p n =
    ap (λ ks. map f (filter p ks)) (range_more n) ∙ ap (map f) (filter-append p (range_with_len 0 n) (n ∷ [])) ∙ map-append f (filter p (range_with_len 0 n)) (filter p (n ∷ []))

-- .. for one line more
pub flat_take : {X : Type 0} (f : X → List CallAt) (xs : List X) (n : ℕ) (x : X) → n < length xs → flat_map f (take (n + 1) xs) ≡ flat_map f (take n xs) ++ f (get_or xs n x)
flat_take f xs n x within = ap (flat_map f) (take_more xs n x within) ∙ sym (flat_map_more f [] (take n xs) (get_or xs n x))
