-- Which entry of a journal starts an activation: one does for each that is there, and no more is spent after it than its callback costs.
use Rattle.std.proofs.Common.{◌≡◌, ◌≤◌, ◌<◌, ◌⊎◌, ℕ, zero, suc, ◌+◌, Bool, true, List, [], ◌∷◌, ◌++◌}
use Rattle.std.proofs.Common.{length, Option, Some, None, inl, inr, sym, ap, refl, subst, ◌∙◌, arith}
use Rattle.std.proofs.Math.ListN.{get_or}
use Rattle.std.proofs.Math.Seq.{get_or-append_seam}
use Rattle.std.proofs.lemmas.Bool.{and_parts, cases_lt, leb-true}
use Rattle.std.proofs.lemmas.List.{length-append, length-set}
use Rattle.std.specs.Bool.{IsTrue}
use Rattle.std.specs.List.{list_all}
use Rattle.std.specs.Prelude.{nat_le, replicate, option_map, option_and_then}
use Rattle.flt_tree.specs.Measures.{cost, points, is_small, are_small}
use Rattle.flt_rules.specs.Limits.{max_cost, max_points}
use Rattle.flt_tree.specs.declared.filter.Callback.{Callback}
use Rattle.flt_tree.specs.declared.filter.Filter.{Filter}
use Rattle.flt_tree.specs.declared.filter.Statement.{Statement}
use Rattle.flt_model.specs.declared.moves.JournalEntry.{JournalEntry}
use Rattle.flt_model.specs.declared.moves.JournalEntry.TheVariants.{Move, Go}
use Rattle.flt_model.specs.declared.moves.Move as moves
use Rattle.flt_model.specs.Effects.{Step}
use Rattle.flt_model.specs.Expansion.{expansion, expand}
use Rattle.flt_model.specs.Moves.{make}
use Rattle.flt_model.specs.Program.{no_filter, callbacks_at, body_at}
use Rattle.flt_model.specs.Runs.{Moment, start, after, next, run_from}
use Rattle.flt_model.specs.Steps.{Transition, Make, Local, Board}
use Rattle.flt_model.specs.World.{World, Activation, nobody}
use Rattle.flt_costs.specs.Costs.{steps_of, callback_cost, HasStarted, IsStartedFrom, IsStarted, IsRunTo, left_in, Spends}
use Rattle.flt_costs.proofs.Leaving.{left_below}
use Rattle.flt_costs.proofs.Spending.{board_spends, local_spends}
use Rattle.flt_costs.proofs.Starting.{Comes, one, same, make_comes}
use Rattle.flt_costs.proofs.Journals.{Parts, count_at, left_at, joined, parts, entries_goes}

-- ---- a journal in two parts

expand_more : (e : JournalEntry) (es : List JournalEntry) (xs ys : List Transition) → expansion e ≡ Some xs → expand es ≡ Some ys →
    expand (e ∷ es) ≡ Some (xs ++ ys)
expand_more e es xs ys h k =
    ap (λ (o : Option (List Transition)). option_and_then (λ xs. option_map (λ ys. xs ++ ys) (expand es)) o) h
    ∙ ap (λ (o : Option (List Transition)). option_map (λ ys. xs ++ ys) o) k

record Split (p : List Filter) (m n : Moment) (es fs : List JournalEntry) : Type 0 where
  first : List Transition
  second : List Transition
  middle : Moment
  first_is : expand es ≡ Some first
  second_is : expand fs ≡ Some second
  first_runs : run_from p m first ≡ Some middle
  then_runs : run_from p middle second ≡ Some n

split : (p : List Filter) (m n : Moment) (es fs : List JournalEntry) (xs : List Transition) → expand (es ++ fs) ≡ Some xs →
    run_from p m xs ≡ Some n → Split p m n es fs
split p m n [] fs xs x r = record {
  first = [];
  second = xs;
  middle = m;
  first_is = refl;
  second_is = x;
  first_runs = refl;
  then_runs = r;
}
split p m n (e ∷ es) fs xs x r =
    let q = parts p m n e (es ++ fs) xs x r in
    let s = split p q.middle n es fs q.back q.back_is q.then_runs in
    record {
      first = q.front ++ s.first;
      second = s.second;
      middle = s.middle;
      first_is = expand_more e es q.front s.first q.front_is s.first_is;
      second_is = s.second_is;
      first_runs = joined p m q.middle s.middle q.front s.first q.first_runs s.first_runs;
      then_runs = s.then_runs;
    }

steps_append : (a : ℕ) (es fs : List JournalEntry) → steps_of a (es ++ fs) ≡ steps_of a es + steps_of a fs
steps_append a [] fs = omega arith
steps_append a (Move move ∷ es) fs = steps_append a es fs
steps_append a (Go b n grant ∷ es) fs = let rest = steps_append a es fs in omega arith

-- ---- no more than the callback costs

module _ (p : List Filter) (a filter callback : ℕ) where
  started_left : (m : Moment) (s : Step) → HasStarted p a filter callback m.world s.world →
      left_at (after m s) a ≤ callback_cost p filter callback
  started_left m s h =
      let there : get_or s.world.activations a nobody ≡ h.act =
      ap (λ (acts : List Activation). get_or acts a nobody) h.activations_are
      ∙ ap (λ (n : ℕ). get_or (m.world.activations ++ h.act ∷ []) n nobody) h.number_is
      ∙ get_or-append_seam m.world.activations h.act [] nobody in
      let left : left_at (after m s) a ≡ left_in h.act = ap left_in there in
      let body : cost h.act.rest ≡ cost (body_at (callbacks_at p filter) callback) = ap (λ (list : List Statement). cost list) h.body_is in
      let below = left_below h.act in
      omega arith

  one_more : (m : Moment) (s : Step) → HasStarted p a filter callback m.world s.world → length s.world.activations ≡ a + 1
  one_more m s h =
      let more = ap (λ (acts : List Activation). length acts) h.activations_are ∙ length-append m.world.activations (h.act ∷ []) in
      let number = h.number_is in
      omega arith

  made_run : (m : Moment) (move : moves.Move) (s : Step) → make p m.world move ≡ Some s → run_from p m (Make move ∷ []) ≡ Some (after m s)
  made_run m move s h = ap (λ (o : Option Step). option_and_then (λ r. run_from p (after m r) []) o) h

  -- where an entry starts it, the entries before give it no steps, and those after no more than its callback costs
  pub few : (entries : List JournalEntry) (m : Moment) → IsRunTo p entries m → IsStarted p entries a filter callback →
      steps_of a entries ≤ callback_cost p filter callback
  few entries m r h =
      let cut = split p (start p) m h.earlier (Move h.move ∷ h.others) r.transitions
      (ap (λ (es : List JournalEntry). expand es) (sym h.entries_are) ∙ r.expanded) r.runs in
      let equal_first : cut.first ≡ h.transitions = let both = sym cut.first_is ∙ h.expanded in cc in
      let equal_middle : cut.middle ≡ h.moment =
      let both = sym cut.first_runs ∙ ap (λ (xs : List Transition). run_from p (start p) xs) equal_first ∙ h.runs in cc in
      let q = parts p cut.middle m (Move h.move) h.others cut.second cut.second_is cut.then_runs in
      let equal_front : q.front ≡ Make h.move ∷ [] = let is = q.front_is in cc in
      let equal_next : q.middle ≡ after h.moment h.step =
      let both = sym q.first_runs ∙ ap (λ (xs : List Transition). run_from p cut.middle xs) equal_front
      ∙ ap (λ (k : Moment). run_from p k (Make h.move ∷ [])) equal_middle ∙ made_run h.moment h.move h.step h.made in cc in
      let before = entries_goes p a (start p) h.moment h.earlier h.transitions h.expanded h.runs in
      let later = entries_goes p a (after h.moment h.step) m h.others q.back q.back_is
      (subst (λ (k : Moment). run_from p k q.back ≡ Some m) equal_next q.then_runs) in
      let number = h.starts.number_is in
      let more = one_more h.moment h.step h.starts in
      let none_before = before.absent (omega arith) in
      let some_later = later.there (omega arith) in
      let left = started_left h.moment h.step h.starts in
      let all = ap (λ (es : List JournalEntry). steps_of a es) h.entries_are ∙ steps_append a h.earlier (Move h.move ∷ h.others) in
      omega arith

-- one that isn't there makes no steps
pub none : (p : List Filter) (entries : List JournalEntry) (m : Moment) (a : ℕ) → IsRunTo p entries m →
    length m.world.activations ≤ a → steps_of a entries ≡ 0
none p entries m a r past = (entries_goes p a (start p) m entries r.transitions r.expanded r.runs).absent past

-- ---- an entry for each activation that is there

as_many : (w : World) (b : ℕ) (acts : List Activation) → Spends w b acts → length acts ≡ length w.activations
as_many w b acts h = ap (λ (l : List Activation). length l) h.acts_are ∙ length-set w.activations b h.act

-- steps of an activation start none
steps_start_none : (p : List Filter) (m n : Moment) (b k : ℕ) (grant : Bool) →
    run_from p m (replicate k (Local b) ++ Board b grant ∷ []) ≡ Some n → count_at n ≡ count_at m
steps_start_none p m n b zero grant e = by (next p m (Board b grant)) refl e
  where
    by : (o : Option Step) → next p m (Board b grant) ≡ o → option_and_then (λ s. Some (after m s)) o ≡ Some n → count_at n ≡ count_at m
    by None is h = absurd (cc)
    by (Some s) is h =
        let equal : after m s ≡ n = cc in
        subst (λ (k : Moment). count_at k ≡ count_at m) equal
        (as_many m.world b s.world.activations (board_spends p m.trace m.world b grant s is))
steps_start_none p m n b (suc k) grant e =
    by (next p m (Local b)) refl e (λ s h. steps_start_none p (after m s) n b k grant h)
  where
    by : (o : Option Step) → next p m (Local b) ≡ o →
        option_and_then (λ s. run_from p (after m s) (replicate k (Local b) ++ Board b grant ∷ [])) o ≡ Some n →
        ((s : Step) → run_from p (after m s) (replicate k (Local b) ++ Board b grant ∷ []) ≡ Some n → count_at n ≡ count_at (after m s)) →
        count_at n ≡ count_at m
    by None is h ih = absurd (cc)
    by (Some s) is h ih = ih s h ∙ as_many m.world b s.world.activations (local_spends p m.trace m.world b s is)

-- the activation starts in some callback
abbrev StartsIn : List Filter → Moment → List JournalEntry → ℕ → Type 0
StartsIn p m entries a = (filter : ℕ) × (callback : ℕ) × IsStartedFrom p m entries a filter callback

module _ (p : List Filter) (a : ℕ) where
  -- a move that brings the activation starts it
  move_starts : (m n : Moment) (move : moves.Move) (es : List JournalEntry) → run_from p m (Make move ∷ []) ≡ Some n →
      count_at m ≤ a → a < count_at n → StartsIn p m (Move move ∷ es) a
  move_starts m n move es e old new = by_step (make p m.world move) refl e
    where
      by : (s : Step) → make p m.world move ≡ Some s → a < length s.world.activations → Comes p m.world s.world →
          StartsIn p m (Move move ∷ es) a
      by s made there (one number filter callback h) =
          let more = one_more p number filter callback m s h in
          let first = h.number_is in
          let equal : number ≡ a = omega arith in (
            filter,
            callback,
            record {
              earlier = [];
              move = move;
              others = es;
              entries_are = refl;
              transitions = [];
              moment = m;
              step = s;
              expanded = refl;
              runs = refl;
              made = made;
              starts = subst (λ (n : ℕ). HasStarted p n filter callback m.world s.world) equal h;
            },
          )
      by s made there (same h) = let as_before = ap (λ (l : List Activation). length l) h in absurd (omega arith)

      by_step : (o : Option Step) → make p m.world move ≡ o → option_and_then (λ s. Some (after m s)) o ≡ Some n →
          StartsIn p m (Move move ∷ es) a
      by_step None is h = absurd (cc)
      by_step (Some s) is h =
          let equal : after m s ≡ n = cc in
          by s is (subst (λ (k : Moment). a < count_at k) (sym equal) new) (make_comes p m.world move s is)

  entry_starts : (m n : Moment) (e : JournalEntry) (es : List JournalEntry) (xs : List Transition) → expansion e ≡ Some xs →
      run_from p m xs ≡ Some n → count_at m ≤ a → a < count_at n → StartsIn p m (e ∷ es) a
  entry_starts m n (Move move) es xs x r old new =
      let equal : xs ≡ Make move ∷ [] = cc in
      move_starts m n move es (subst (λ (ys : List Transition). run_from p m ys ≡ Some n) equal r) old new
  entry_starts m n (Go b zero grant) es xs x r old new = absurd (cc)
  entry_starts m n (Go b (suc k) grant) es xs x r old new =
      let equal : xs ≡ replicate k (Local b) ++ Board b grant ∷ [] = cc in
      let as_before = steps_start_none p m n b k grant (subst (λ (ys : List Transition). run_from p m ys ≡ Some n) equal r) in
      absurd (omega arith)

  entries_start : (m n : Moment) (es : List JournalEntry) (xs : List Transition) → expand es ≡ Some xs → run_from p m xs ≡ Some n →
      count_at m ≤ a → a < count_at n → StartsIn p m es a
  entries_start m n [] xs x r old new =
      let equal : xs ≡ [] = cc in
      let ran : Some m ≡ Some n = subst (λ (ys : List Transition). run_from p m ys ≡ Some n) equal r in
      let stays : m ≡ n = cc in
      let as_before = ap (λ (k : Moment). count_at k) stays in
      absurd (omega arith)
  entries_start m n (e ∷ es) xs x r old new =
      let q = parts p m n e es xs x r in
      by q (cases_lt a (count_at q.middle)) (λ past. entries_start q.middle n es q.back q.back_is q.then_runs past new)
    where
      by : (q : Parts p m n e es xs) → (a < count_at q.middle) ⊎ (count_at q.middle ≤ a) →
          (count_at q.middle ≤ a → StartsIn p q.middle es a) → StartsIn p m (e ∷ es) a
      by q (inl there) later = entry_starts m q.middle e es q.front q.front_is q.first_runs old there
      by q (inr past) later = let (filter, callback, h) = later past in (
        filter,
        callback,
        record {
          earlier = e ∷ h.earlier;
          move = h.move;
          others = h.others;
          entries_are = ap (λ (l : List JournalEntry). e ∷ l) h.entries_are;
          transitions = q.front ++ h.transitions;
          moment = h.moment;
          step = h.step;
          expanded = expand_more e h.earlier q.front h.transitions q.front_is h.expanded;
          runs = joined p m q.middle h.moment q.front h.transitions q.first_runs h.runs;
          made = h.made;
          starts = h.starts;
        },
      )

-- each activation that is there was started by an entry
pub started : (p : List Filter) (entries : List JournalEntry) (m : Moment) (a : ℕ) → IsRunTo p entries m → a < length m.world.activations →
    (filter : ℕ) × (callback : ℕ) × IsStarted p entries a filter callback
started p entries m a r there = entries_start p a (start p) m entries r.transitions r.expanded r.runs (omega arith) there

-- ---- the limit on costs

all_at : {X : Type 0} (f : X → Bool) (xs : List X) (i : ℕ) (d : X) → f d ≡ true → list_all f xs ≡ true → f (get_or xs i d) ≡ true
all_at f [] i d h k = h
all_at f (x ∷ xs) zero d h k = (and_parts (f x) (list_all f xs) k).0
all_at f (x ∷ xs) (suc i) d h k = all_at f xs i d h (and_parts (f x) (list_all f xs) k).1

small_body : (cs : List Callback) (callback : ℕ) → list_all is_small cs ≡ true → cost (body_at cs callback) + 1 ≤ max_cost
small_body [] callback h = omega arith
small_body (c ∷ cs) zero h =
    let one_small = (and_parts (is_small c) (list_all is_small cs) h).0 in
    leb-true (cost c.body + 1) max_cost (and_parts (nat_le (points c.body + 1) max_points) (nat_le (cost c.body + 1) max_cost) one_small).1
small_body (c ∷ cs) (suc callback) h = small_body cs callback (and_parts (is_small c) (list_all is_small cs) h).1

small_cost : (p : List Filter) (filter callback : ℕ) → list_all are_small p ≡ true → callback_cost p filter callback ≤ max_cost
small_cost p filter callback h = small_body (callbacks_at p filter) callback (all_at are_small p filter no_filter refl h)

-- no activation makes more steps than a callback may cost
pub limited : (p : List Filter) (entries : List JournalEntry) (m : Moment) (a : ℕ) → IsRunTo p entries m → IsTrue (list_all are_small p) →
    steps_of a entries ≤ max_cost
limited p entries m a r small = by (cases_lt a (length m.world.activations))
  where
    by : (a < length m.world.activations) ⊎ (length m.world.activations ≤ a) → steps_of a entries ≤ max_cost
    by (inl there) =
        let (filter, callback, h) = started p entries m a r there in
        let within = few p a filter callback entries m r h in
        let bounded = small_cost p filter callback small in omega arith
    by (inr past) = let nothing = none p entries m a r past in omega arith
