-- The steps of a run, counted for one activation: none before it starts, and from then on no more than it may spend.
use Rattle.std.proofs.Common.{◌≡◌, ◌≢◌, ◌≤◌, ◌<◌, ◌⊎◌, ℕ, zero, suc, ◌+◌, Bool, true, false, List, [], ◌∷◌}
use Rattle.std.proofs.Common.{◌++◌, length, Option, Some, None, inl, inr, sym, ap, refl, subst, ◌∙◌, arith}
use Rattle.std.proofs.Math.ListN.{get_or}
use Rattle.std.proofs.lemmas.Bool.{cases_lt, eq-eqb, eqb-true}
use Rattle.std.proofs.lemmas.List.{length-append, length-set, get_or-set_same, get_or-set_other, get_or_past, get_or_append_left}
use Rattle.std.specs.Prelude.{◌==◌, if◌then◌else◌, replicate, option_map, option_and_then}
use Rattle.flt_tree.specs.declared.filter.Filter.{Filter}
use Rattle.flt_model.specs.declared.moves.JournalEntry.{JournalEntry}
use Rattle.flt_model.specs.declared.moves.JournalEntry.TheVariants.{Move, Go}
use Rattle.flt_model.specs.Effects.{Step}
use Rattle.flt_model.specs.Expansion.{expansion, expand}
use Rattle.flt_model.specs.Runs.{Moment, after, next, run_from}
use Rattle.flt_model.specs.Steps.{Transition, Make, Local, Board}
use Rattle.flt_model.specs.World.{World, Activation, activation_at, nobody}
use Rattle.flt_costs.specs.Costs.{steps_of, left_in, Spends}
use Rattle.flt_costs.proofs.Spending.{board_spends, local_spends}
use Rattle.flt_costs.proofs.Starting.{Comes, one, same, make_comes}

-- ---- the steps of one activation

-- one where the activation is meant
abbrev own : ℕ → ℕ → ℕ
own a b = if a == b then 1 else 0

-- whether the transition is a step of the activation
abbrev own_step : ℕ → Transition → ℕ
own_step a (Make move) = 0
own_step a (Local b) = own a b
own_step a (Board b grant) = own a b

abbrev own_steps : ℕ → List Transition → ℕ
own_steps a [] = 0
own_steps a (x ∷ xs) = own_step a x + own_steps a xs

own_append : (a : ℕ) (xs ys : List Transition) → own_steps a (xs ++ ys) ≡ own_steps a xs + own_steps a ys
own_append a [] ys = omega arith
own_append a (x ∷ xs) ys = let rest = own_append a xs ys in omega arith

-- what the activation may still spend at a moment
abbrev pub left_at : Moment → ℕ → ℕ
left_at m a = left_in (activation_at m.world a)

abbrev pub count_at : Moment → ℕ
count_at m = length m.world.activations

-- ---- one transition

-- from one moment to the next the activation spends its steps, once it is there; and each that is there stays
pub record Goes (a : ℕ) (steps : ℕ) (m n : Moment) : Type 0 where
  pub there : a < count_at m → steps + left_at n a ≤ left_at m a
  pub stays : count_at m ≤ count_at n
  pub absent : count_at n ≤ a → steps ≡ 0

-- one that spends something is there
spender_there : (w : World) (b : ℕ) (n : ℕ) → n + 1 ≤ left_in (activation_at w b) → b < length w.activations
spender_there w b n h = by (compare_there b (length w.activations))
  where
    compare_there : (b c : ℕ) → (b < c) ⊎ (c ≤ b)
    compare_there b c = cases_lt b c

    by : (b < length w.activations) ⊎ (length w.activations ≤ b) → b < length w.activations
    by (inl is) = is
    by (inr past) =
        let nobody_there = get_or_past w.activations b nobody past in
        let nothing : left_in (activation_at w b) ≡ 0 = ap left_in nobody_there in
        absurd (omega arith)

module _ (p : List Filter) (a : ℕ) (m : Moment) (s : Step) where
  spent_goes : (b : ℕ) → Spends m.world b s.world.activations → Goes a (own a b) m (after m s)
  spent_goes b spends = by (a == b) refl
    where
      within : b < length m.world.activations
      within = spender_there m.world b (left_in spends.act) spends.less

      as_many : count_at (after m s) ≡ count_at m
      as_many = ap (λ (acts : List Activation). length acts) spends.acts_are ∙ length-set m.world.activations b spends.act

      by : (e : Bool) → (a == b) ≡ e → Goes a (own a b) m (after m s)
      by true h =
          let equal : a ≡ b = eqb-true a b h in
          let now_there : get_or s.world.activations b nobody ≡ spends.act =
          ap (λ (acts : List Activation). get_or acts b nobody) spends.acts_are
          ∙ get_or-set_same m.world.activations b spends.act nobody within in
          let less = spends.less in
          let now_left : left_at (after m s) b ≡ left_in spends.act = ap left_in now_there in
          let own_one : own a b ≡ 1 = ap (λ (x : Bool). if x then 1 else 0) h in
          record {
            there = λ is. rw (own_one, equal) (omega arith);
            stays = omega (arith, as_many);
            absent = λ past. absurd (omega (arith, as_many, within));
          }
      by false h =
          let own_none : own a b ≡ 0 = ap (λ (x : Bool). if x then 1 else 0) h in
          let differs : a ≢ b = λ equal. absurd (let yes_equal = eq-eqb a b equal in cc) in
          let as_before : get_or s.world.activations a nobody ≡ get_or m.world.activations a nobody =
          ap (λ (acts : List Activation). get_or acts a nobody) spends.acts_are
          ∙ get_or-set_other m.world.activations b a spends.act nobody differs in
          let left_same : left_at (after m s) a ≡ left_at m a = ap left_in as_before in
          record { there = λ is. omega arith; stays = omega (arith, as_many); absent = λ past. own_none }

  came_goes : Comes p m.world s.world → Goes a 0 m (after m s)
  came_goes (one number filter callback h) =
      let more : count_at (after m s) ≡ count_at m + 1 =
      ap (λ (acts : List Activation). length acts) h.activations_are ∙ length-append m.world.activations (h.act ∷ []) in
      record {
        there = λ is.
            let as_before : get_or s.world.activations a nobody ≡ get_or m.world.activations a nobody =
            ap (λ (acts : List Activation). get_or acts a nobody) h.activations_are
            ∙ get_or_append_left m.world.activations (h.act ∷ []) nobody a is in
            let left_same : left_at (after m s) a ≡ left_at m a = ap left_in as_before in omega arith;
        stays = omega arith;
        absent = λ past. refl;
      }
  came_goes (same h) =
      let as_many : count_at (after m s) ≡ count_at m = ap (λ (acts : List Activation). length acts) h in
      let left_same : left_at (after m s) a ≡ left_at m a = ap (λ (acts : List Activation). left_in (get_or acts a nobody)) h in
      record { there = λ is. omega arith; stays = omega arith; absent = λ past. refl }

  step_goes : (x : Transition) → next p m x ≡ Some s → Goes a (own_step a x) m (after m s)
  step_goes (Make move) e = came_goes (make_comes p m.world move s e)
  step_goes (Local b) e = spent_goes b (local_spends p m.trace m.world b s e)
  step_goes (Board b grant) e = spent_goes b (board_spends p m.trace m.world b grant s e)

-- ---- runs

goes_both : (a k l : ℕ) (m n o : Moment) → Goes a k m n → Goes a l n o → Goes a (k + l) m o
goes_both a k l m n o g h =
    let first = g.stays in
    let second = h.stays in
    record {
      there = λ is. let before = g.there is in let later = h.there (omega arith) in omega arith;
      stays = omega arith;
      absent = λ past. let before = g.absent (omega arith) in let later = h.absent past in omega arith;
    }

run_goes : (p : List Filter) (a : ℕ) (m n : Moment) (xs : List Transition) → run_from p m xs ≡ Some n → Goes a (own_steps a xs) m n
run_goes p a m n [] e =
    let equal : m ≡ n = cc in
    subst (λ (o : Moment). Goes a 0 m o) equal (record { there = λ is. omega arith; stays = omega arith; absent = λ past. refl })
run_goes p a m n (x ∷ xs) e = by (next p m x) refl e (λ s h. run_goes p a (after m s) n xs h)
  where
    by : (o : Option Step) → next p m x ≡ o → option_and_then (λ s. run_from p (after m s) xs) o ≡ Some n →
        ((s : Step) → run_from p (after m s) xs ≡ Some n → Goes a (own_steps a xs) (after m s) n) → Goes a (own_steps a (x ∷ xs)) m n
    by None is h ih = absurd (cc)
    by (Some s) is h ih = goes_both a (own_step a x) (own_steps a xs) m (after m s) n (step_goes p a m s x is) (ih s h)

-- ---- entries, and runs in two parts

-- an entry's transitions, and those of the others; the entry leads to a moment, and the others from there
pub record Parts (p : List Filter) (m n : Moment) (e : JournalEntry) (es : List JournalEntry) (xs : List Transition) : Type 0 where
  pub front : List Transition
  pub back : List Transition
  pub middle : Moment
  pub parts_are : xs ≡ front ++ back
  pub front_is : expansion e ≡ Some front
  pub back_is : expand es ≡ Some back
  pub first_runs : run_from p m front ≡ Some middle
  pub then_runs : run_from p middle back ≡ Some n

-- where a run of two parts leads by the first of them
record Halves (p : List Filter) (m n : Moment) (xs ys : List Transition) : Type 0 where
  middle : Moment
  first_runs : run_from p m xs ≡ Some middle
  then_runs : run_from p middle ys ≡ Some n

halves : (p : List Filter) (m n : Moment) (xs ys : List Transition) → run_from p m (xs ++ ys) ≡ Some n → Halves p m n xs ys
halves p m n [] ys e = record { middle = m; first_runs = refl; then_runs = e }
halves p m n (x ∷ xs) ys e = by (next p m x) refl e (λ s h. halves p (after m s) n xs ys h)
  where
    by : (o : Option Step) → next p m x ≡ o → option_and_then (λ s. run_from p (after m s) (xs ++ ys)) o ≡ Some n →
        ((s : Step) → run_from p (after m s) (xs ++ ys) ≡ Some n → Halves p (after m s) n xs ys) → Halves p m n (x ∷ xs) ys
    by None is h ih = absurd (cc)
    by (Some s) is h ih =
        let half = ih s h in
        record {
          middle = half.middle;
          first_runs = ap (λ (o : Option Step). option_and_then (λ r. run_from p (after m r) xs) o) is ∙ half.first_runs;
          then_runs = half.then_runs;
        }

-- two runs of which one leads to where the other begins are one
pub joined : (p : List Filter) (m n o : Moment) (xs ys : List Transition) → run_from p m xs ≡ Some n → run_from p n ys ≡ Some o →
    run_from p m (xs ++ ys) ≡ Some o
joined p m n o [] ys e h = let equal : m ≡ n = cc in subst (λ (k : Moment). run_from p k ys ≡ Some o) (sym equal) h
joined p m n o (x ∷ xs) ys e h = by (next p m x) e (λ s k. joined p (after m s) n o xs ys k h)
  where
    by : (q : Option Step) → option_and_then (λ s. run_from p (after m s) xs) q ≡ Some n →
        ((s : Step) → run_from p (after m s) xs ≡ Some n → run_from p (after m s) (xs ++ ys) ≡ Some o) →
        option_and_then (λ s. run_from p (after m s) (xs ++ ys)) q ≡ Some o
    by None k ih = absurd (cc)
    by (Some s) k ih = ih s k

-- where the transitions of a journal lead, by its first entry
pub parts : (p : List Filter) (m n : Moment) (e : JournalEntry) (es : List JournalEntry) (xs : List Transition) →
    expand (e ∷ es) ≡ Some xs → run_from p m xs ≡ Some n → Parts p m n e es xs
parts p m n e es xs x r = by (expansion e) (expand es) refl refl x
  where
    by : (f b : Option (List Transition)) → expansion e ≡ f → expand es ≡ b →
        option_and_then (λ xs. option_map (λ ys. xs ++ ys) b) f ≡ Some xs → Parts p m n e es xs
    by None b is others h = absurd (cc)
    by (Some front) None is others h = absurd (cc)
    by (Some front) (Some back) is others h =
        let equal : front ++ back ≡ xs = cc in
        let half = halves p m n front back (subst (λ (zs : List Transition). run_from p m zs ≡ Some n) (sym equal) r) in
        record {
          front = front;
          back = back;
          middle = half.middle;
          parts_are = sym equal;
          front_is = is;
          back_is = others;
          first_runs = half.first_runs;
          then_runs = half.then_runs;
        }

-- ---- the steps of entries

replicated : (a b n : ℕ) → own_steps a (replicate n (Local b)) ≡ (if a == b then n else 0)
replicated a b n = by (a == b) refl n
  where
    by : (e : Bool) → (a == b) ≡ e → (n : ℕ) → own_steps a (replicate n (Local b)) ≡ (if e then n else 0)
    by true h zero = refl
    by true h (suc n) = let rest = by true h n in let one_more : own a b ≡ 1 = ap (λ (x : Bool). if x then 1 else 0) h in omega arith
    by false h zero = refl
    by false h (suc n) = let rest = by false h n in let none_more : own a b ≡ 0 = ap (λ (x : Bool). if x then 1 else 0) h in omega arith

entry_steps : (a : ℕ) (e : JournalEntry) (xs : List Transition) → expansion e ≡ Some xs → own_steps a xs ≡ steps_of a (e ∷ [])
entry_steps a (Move move) xs h = let equal : Make move ∷ [] ≡ xs = cc in subst (λ (ys : List Transition). own_steps a ys ≡ 0) equal refl
entry_steps a (Go b zero grant) xs h = absurd (cc)
entry_steps a (Go b (suc n) grant) xs h =
    let equal : replicate n (Local b) ++ Board b grant ∷ [] ≡ xs = cc in
    subst (λ (ys : List Transition). own_steps a ys ≡ (if a == b then suc n else 0) + 0) equal
    (own_append a (replicate n (Local b)) (Board b grant ∷ []) ∙ by (a == b) (replicated a b n))
  where
    by : (e : Bool) → own_steps a (replicate n (Local b)) ≡ (if e then n else 0) →
        own_steps a (replicate n (Local b)) + ((if e then 1 else 0) + 0) ≡ (if e then suc n else 0) + 0
    by true k = omega arith
    by false k = omega arith

-- the steps of entries that are a run, counted for one activation
pub entries_goes : (p : List Filter) (a : ℕ) (m n : Moment) (es : List JournalEntry) (xs : List Transition) → expand es ≡ Some xs →
    run_from p m xs ≡ Some n → Goes a (steps_of a es) m n
entries_goes p a m n [] xs x r =
    let equal : [] ≡ xs = cc in
    run_goes p a m n [] (subst (λ (ys : List Transition). run_from p m ys ≡ Some n) (sym equal) r)
entries_goes p a m n (e ∷ es) xs x r =
    let q = parts p m n e es xs x r in
    let first = run_goes p a m q.middle q.front q.first_runs in
    let rest = entries_goes p a q.middle n es q.back q.back_is q.then_runs in
    subst (λ (k : ℕ). Goes a k m n) (of_both e (entry_steps a e q.front q.front_is))
    (goes_both a (own_steps a q.front) (steps_of a es) m q.middle n first rest)
  where
    of_both : (e : JournalEntry) → {k : ℕ} → k ≡ steps_of a (e ∷ []) → k + steps_of a es ≡ steps_of a (e ∷ es)
    of_both (Move move) h = omega arith
    of_both (Go b k grant) h = omega arith
