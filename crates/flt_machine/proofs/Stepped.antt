-- A board after a step of an activation that others see, and its journal with an entry more.
use Rattle.std.proofs.Common.{◌≡◌, ◌≢◌, ℕ, ◌+◌, ◌<◌, ◌≤◌, ◌==◌, Bool, false, List, [], ◌∷◌, ◌++◌, Option, Some, None, length, option_map}
use Rattle.std.proofs.Common.{option_and_then, ap, sym, subst, refl, ◌∙◌, inl, inr, arith, add-one, append-nil, append_assoc}
use Rattle.std.proofs.Math.ListN.{set, get_or}
use Rattle.std.proofs.lemmas.Bool.{cases_eq, ne_eqb}
use Rattle.std.proofs.lemmas.List.{get_or-set_same, get_or-set_other, length-set}
use Rattle.std.proofs.lemmas.List.Sums.{sum_by-append, sum_by-cons}
use Rattle.flt_tree.specs.declared.filter.Callback.{Callback}
use Rattle.flt_tree.specs.declared.filter.Filter.{Filter}
use Rattle.flt_model.specs.declared.event.Event.{Event}
use Rattle.flt_model.specs.declared.event.Event.TheVariants as event
use Rattle.flt_model.specs.declared.event.Object.{Object}
use Rattle.flt_model.specs.declared.event.Object.TheVariants.{Visit}
use Rattle.flt_model.specs.declared.moves.JournalEntry.{JournalEntry}
use Rattle.flt_model.specs.declared.moves.JournalEntry.TheVariants.{Go}
use Rattle.flt_model.specs.declared.moves.JournalEntry.TheVariants as journal_entry
use Rattle.flt_model.specs.declared.moves.Move.{Move}
use Rattle.flt_machine_calls.specs.Plans.{choice_at}
use Rattle.flt_model.specs.Effects.{Step}
use Rattle.flt_model.specs.Expansion.{expand, expansion}
use Rattle.flt_model.specs.Program.{callbacks_at}
use Rattle.flt_model.specs.Runs.{Moment, start, after, next, run_from}
use Rattle.flt_model.specs.Steps.{Transition, Make}
use Rattle.flt_model.specs.Trace.{gains, loses, gain, lose, of_actor, same_object}
use Rattle.flt_model.specs.World.{World, Store, Activation, nobody, activation_at, actor_at}
use Rattle.flt_machine_frames.specs.declared.standing.Standing.{Standing}
use Rattle.flt_machine_frames.specs.declared.frame.Advanced.{Advanced}
use Rattle.flt_machine_calls.specs.Own.{IsOf, AreOf}
use Rattle.flt_machine.specs.Calls.{Commits, Makes, local_steps, step_at}
use Rattle.flt_machine.specs.Situations.{Situation, KeptFor, IsAt, IsBoard}

-- ---- what an activation's events count for others

of_other : (b c n : ℕ) → c ≢ b → of_actor c b n ≡ 0
unfolding of_actor
of_other b c n differs = let no : (c == b) ≡ false = ne_eqb c b differs in rw no refl

gain_other : (a b : ℕ) (o : Object) (e : Event) → b ≢ a → IsOf a e → gain b o e ≡ 0
gain_other a b o (event.Gain c p) differs is = of_other b c (same_object p o) (λ e. differs (sym e ∙ is))
gain_other a b o (event.Call c k) differs is = refl
gain_other a b o (event.Status c k) differs is = refl
gain_other a b o (event.Lock c k) differs is = refl
gain_other a b o (event.Unlock c k) differs is = refl
gain_other a b o (event.Use c k) differs is = refl
gain_other a b o (event.Empty c) differs is = refl
gain_other a b o (event.Lose c k) differs is = refl
gain_other a b o (event.Free c) differs is = refl
gain_other a b o (event.Settle c) differs is = refl
gain_other a b o (event.End c) differs is = refl

lose_other : (a b : ℕ) (o : Object) (e : Event) → b ≢ a → IsOf a e → lose b o e ≡ 0
lose_other a b o (event.Gain c p) differs is = refl
lose_other a b o (event.Call c k) differs is = refl
lose_other a b o (event.Status c k) differs is = refl
lose_other a b o (event.Lock c k) differs is = refl
lose_other a b o (event.Unlock c k) differs is = refl
lose_other a b o (event.Use c k) differs is = refl
lose_other a b o (event.Empty c) differs is = refl
lose_other a b o (event.Lose c p) differs is = of_other b c (same_object p o) (λ e. differs (sym e ∙ is))
lose_other a b o (event.Free c) differs is = refl
lose_other a b o (event.Settle c) differs is = refl
lose_other a b o (event.End c) differs is = refl

-- another activation gains nothing by one's events
pub gains_other : (a b : ℕ) (o : Object) (es : List Event) → b ≢ a → AreOf a es → gains es b o ≡ 0
unfolding gains
gains_other a b o [] differs own = refl
gains_other a b o (e ∷ es) differs own =
    omega (arith, sum_by-cons (gain b o) e es, gain_other a b o e differs own.0, gains_other a b o es differs own.1)

-- another activation loses nothing by one's events
pub loses_other : (a b : ℕ) (o : Object) (es : List Event) → b ≢ a → AreOf a es → loses es b o ≡ 0
unfolding loses
loses_other a b o [] differs own = refl
loses_other a b o (e ∷ es) differs own =
    omega (arith, sum_by-cons (lose b o) e es, lose_other a b o e differs own.0, loses_other a b o es differs own.1)

-- gains of a trace and of further events add up
pub gains-append : (t es : List Event) (a : ℕ) (o : Object) → gains (t ++ es) a o ≡ gains t a o + gains es a o
unfolding gains
gains-append t es a o = sum_by-append (gain a o) t es

-- losses of a trace and of further events add up
pub loses-append : (t es : List Event) (a : ℕ) (o : Object) → loses (t ++ es) a o ≡ loses t a o + loses es a o
unfolding loses
loses-append t es a o = sum_by-append (lose a o) t es

-- what is kept of another activation is kept on
pub other_kept : (cs : List Callback) (t es : List Event) (a b : ℕ) (act : Activation) (s : Option Standing) →
    b ≢ a → AreOf a es → KeptFor cs t b act s → KeptFor cs (t ++ es) b act s
other_kept cs t es a b act None differs own k = k
other_kept cs t es a b act (Some s) differs own k = record {
  stands = k.stands;
  counted = record {
    gained = λ v is. omega (arith, k.counted.gained v is, gains-append t es b (Visit v), gains_other a b (Visit v) es differs own);
    lost = λ v is. omega (arith, k.counted.lost v is, loses-append t es b (Visit v), loses_other a b (Visit v) es differs own);
  };
}

-- ---- the step

-- a step of an activation, with what is kept of it then
pub record IsStepped (p : List Filter) (m : Moment) (a : ℕ) (s : Option Standing) (store : Store) (step : Step) : Type 0 where
  pub act : Activation
  pub world : step.world ≡ record m.world { activations = set m.world.activations a act; store = store }
  pub filters : length store.presences ≡ length m.world.store.presences
  pub own : AreOf a step.events
  pub kept : KeptFor (callbacks_at p (actor_at m.world a).filter) (m.trace ++ step.events) a act s

-- the board after it
abbrev pub stepped : Situation → ℕ → Option Standing → Store → List JournalEntry → Situation
stepped b a s store entries = record b { standings = set b.standings a s; store = store; entries = entries }

-- after a step that others see the board stands at the later moment, with the standing and the store that were put
pub steps_on : (p : List Filter) (b : Situation) (m : Moment) (a : ℕ) (s : Option Standing) (store : Store)
    (entries : List JournalEntry) (step : Step) →
    IsAt p b m → a < length m.world.activations → IsStepped p m a s store step → IsAt p (stepped b a s store entries) (after m step)
steps_on p b m a s store entries step at within is =
    subst (λ (w : World). IsAt p (stepped b a s store entries) (record { world = w; trace = m.trace ++ step.events }))
    (sym is.world) (record {
      actors = at.actors;
      count = length-set b.standings a s ∙ at.count ∙ sym (length-set m.world.activations a is.act);
      both = at.both ∙ sym (length-set m.world.activations a is.act);
      filters = is.filters ∙ at.filters;
      kept = each;
      store = refl;
      young = λ k v past. young k v (subst (λ (n : ℕ). n ≤ k) (length-set m.world.activations a is.act) past);
    })
  where
    young : (k v : ℕ) → length m.world.activations ≤ k → (gains (m.trace ++ step.events) k (Visit v) ≡ 0) ×
        (loses (m.trace ++ step.events) k (Visit v) ≡ 0)
    young k v past =
        let apart : k ≢ a = λ same. absurd (omega (arith, past, within, same)) in
        let before = at.young k v past in (
          omega (arith, before.0, gains-append m.trace step.events k (Visit v), gains_other a k (Visit v) step.events apart is.own),
          omega (arith, before.1, loses-append m.trace step.events k (Visit v), loses_other a k (Visit v) step.events apart is.own),
        )

    each : (k : ℕ) → KeptFor (callbacks_at p (actor_at m.world k).filter) (m.trace ++ step.events) k
        (get_or (set m.world.activations a is.act) k nobody) (get_or (set b.standings a s) k None)
    each k = elim (cases_eq k a) [
      | inl same ↦ subst (λ (j : ℕ). KeptFor (callbacks_at p (actor_at m.world j).filter) (m.trace ++ step.events) j
          (get_or (set m.world.activations a is.act) j nobody) (get_or (set b.standings a s) j None)) (sym same)
          (subst (λ (x : Activation). KeptFor (callbacks_at p (actor_at m.world a).filter) (m.trace ++ step.events) a x
          (get_or (set b.standings a s) a None)) (sym (get_or-set_same m.world.activations a is.act nobody within))
          (subst (KeptFor (callbacks_at p (actor_at m.world a).filter) (m.trace ++ step.events) a is.act)
          (sym (get_or-set_same b.standings a s None (subst (λ (n : ℕ). a < n) (sym at.count) within))) is.kept))
      | inr differs ↦
          subst (λ (x : Activation). KeptFor (callbacks_at p (actor_at m.world k).filter) (m.trace ++ step.events) k x
          (get_or (set b.standings a s) k None)) (sym (get_or-set_other m.world.activations a k is.act nobody differs))
          (subst (KeptFor (callbacks_at p (actor_at m.world k).filter) (m.trace ++ step.events) k (activation_at m.world k))
          (sym (get_or-set_other b.standings a k s None differs)) (other_kept (callbacks_at p (actor_at m.world k).filter) m.trace
          step.events a k (activation_at m.world k) (get_or b.standings k None) differs is.own (at.kept k)))
    ]

-- ---- the journal

run_append : (p : List Filter) (m : Moment) (xs ys : List Transition) →
    run_from p m (xs ++ ys) ≡ option_and_then (λ r. run_from p r ys) (run_from p m xs)
run_append p m [] ys = refl
run_append p m (x ∷ xs) ys = by (next p m x) (λ s. run_append p (after m s) xs ys)
  where
    by : (o : Option Step) →
        ((s : Step) → run_from p (after m s) (xs ++ ys) ≡ option_and_then (λ r. run_from p r ys) (run_from p (after m s) xs)) →
        option_and_then (λ s. run_from p (after m s) (xs ++ ys)) o ≡
        option_and_then (λ r. run_from p r ys) (option_and_then (λ s. run_from p (after m s) xs) o)
    by None ih = refl
    by (Some s) ih = ih s

-- two lists of transitions, if both are there
abbrev joined : Option (List Transition) → Option (List Transition) → Option (List Transition)
joined o q = option_and_then (λ xs. option_map (λ ys. xs ++ ys) q) o

expand_push : (es : List JournalEntry) (e : JournalEntry) (xs ys : List Transition) →
    expand es ≡ Some xs → expansion e ≡ Some ys → expand (es ++ e ∷ []) ≡ Some (xs ++ ys)
expand_push [] e xs ys is last = let none : [] ≡ xs = cc in
    rw last (subst (λ l. Some (ys ++ []) ≡ Some (l ++ ys)) none (ap (λ l. Some l) (append-nil ys)))
expand_push (d ∷ es) e xs ys is last = by (expansion d) (expand es) refl is (λ z there. expand_push es e z ys there last)
  where
    by : (o q : Option (List Transition)) → expand es ≡ q → joined o q ≡ Some xs → ((z : List Transition) →
        expand es ≡ Some z → expand (es ++ e ∷ []) ≡ Some (z ++ ys)) → joined o (expand (es ++ e ∷ [])) ≡ Some (xs ++ ys)
    by None q there all more = absurd (cc)
    by (Some x) None there all more = absurd (cc)
    by (Some x) (Some z) there all more =
        let same : x ++ z ≡ xs = cc in
        ap (λ (o : Option (List Transition)). option_map (λ ys. x ++ ys) o) (more z there) ∙
        ap (λ (l : List Transition). Some l) (sym (append_assoc x z ys) ∙ ap (λ (l : List Transition). l ++ ys) same)

-- ---- the board's own

-- after a commit the board is still one of these filters
pub commits_own : (p : List Filter) (b later : Situation) (advanced : Advanced) (grant : Bool) (events : List Event) → (own : IsBoard p b) →
    Commits p b later advanced grant events own.moment → IsBoard p later
commits_own p b later advanced grant events own c = record {
  transitions = own.transitions ++ (local_steps advanced ++ step_at advanced grant c.middle ∷ []);
  moment = after c.middle c.step;
  expanded = ap (λ (es : List JournalEntry). expand es) c.written ∙
      (expand_push b.entries (Go advanced.frame.activation (advanced.steps + 1) choice) own.transitions
      (local_steps advanced ++ step_at advanced grant c.middle ∷ []) own.expanded (rw (add-one) refl));
  runs =
      run_append p (start p) own.transitions (local_steps advanced ++ step_at advanced grant c.middle ∷ []) ∙
      ap (λ (o : Option Moment). option_and_then
      (λ r. run_from p r (local_steps advanced ++ step_at advanced grant c.middle ∷ [])) o) own.runs ∙
      run_append p own.moment (local_steps advanced) (step_at advanced grant c.middle ∷ []) ∙
      ap (λ (o : Option Moment). option_and_then (λ r. run_from p r (step_at advanced grant c.middle ∷ [])) o) c.reached ∙
      ap (λ (o : Option Step). option_and_then (λ s. Some (after c.middle s)) o) c.made;
  at = c.at;
}
  where
    choice : Bool
    choice = choice_at (activation_at c.middle.world advanced.frame.activation).rest grant

-- after a move the board is still one of these filters
pub makes_own : (p : List Filter) (b later : Situation) (move : Move) (events : List Event) → (own : IsBoard p b) →
    Makes p later [] (Make move) events own.moment →
    later.entries ≡ b.entries ++ journal_entry.Move move ∷ [] → IsBoard p later
makes_own p b later move events own c written = record {
  transitions = own.transitions ++ Make move ∷ [];
  moment = after c.middle c.step;
  expanded = ap (λ (es : List JournalEntry). expand es) written ∙
      expand_push b.entries (journal_entry.Move move) own.transitions (Make move ∷ []) own.expanded refl;
  runs =
      run_append p (start p) own.transitions (Make move ∷ []) ∙
      ap (λ (o : Option Moment). option_and_then (λ r. run_from p r (Make move ∷ [])) o) own.runs ∙
      ap (λ (o : Option Step). option_and_then (λ s. Some (after own.moment s)) o) made ∙
      ap (λ (r : Moment). Some (after r c.step)) same;
  at = c.at;
}
  where
    same : own.moment ≡ c.middle
    same = let it = c.reached in cc

    made : next p own.moment (Make move) ≡ Some c.step
    made = ap (λ (r : Moment). next p r (Make move)) same ∙ c.made
