-- What comes of the monitor's steps, entry by entry.
use Rattle.std.proofs.Common.{◌≡◌, ◌<◌, ◌-◌, ◌+◌, ℕ, zero, suc, Bool, true, false, List, [], ◌∷◌, ◌++◌, Option, Some, None, Result, Ok}
use Rattle.std.proofs.Common.{Err, IfOk, find, not, replicate, drop, get_or, length, add-one, refl, sym, ◌∙◌, ap, subst, arith, sub-one}
use Rattle.std.specs.List.{list_all}
use Rattle.std.specs.Option.{option_or}
use Rattle.std.specs.Prelude.{IsTrue, if◌then◌else◌, option_and_then}
use Rattle.flt_rules.specs.declared.held.HeldLock.{HeldLock}
use Rattle.flt_tree.specs.declared.filter.Filter.{Filter}
use Rattle.flt_model.specs.declared.event.Event.{Event}
use Rattle.flt_model.specs.declared.moves.JournalEntry.{JournalEntry}
use Rattle.flt_model.specs.declared.moves.Move.{Move}
use Rattle.flt_model.specs.declared.verdict.Verdict.{Verdict}
use Rattle.flt_model.specs.declared.verdict.Violation.{Violation}
use Rattle.flt_model.specs.Effects.{Step}
use Rattle.flt_model.specs.Expansion.{Course, Reaches, Stops, Fails, unless_broken, course}
use Rattle.flt_model.specs.Expansion.{go_on, entry_course, expansion, judged, verdict_from}
use Rattle.flt_model.specs.Locks.{locks_exclude}
use Rattle.flt_model.specs.Moves.{make}
use Rattle.flt_model.specs.Runs.{Moment, start, after, next, broken}
use Rattle.flt_model.specs.Steps.{Transition, Make, Local, Board, board, local, step}
use Rattle.flt_model.specs.World.{World, activation_at, opening}
use Rattle.flt_replay.specs.Judging.{Follows, IsJudgedBy, first_of, of_holding, of_rules, with_locks, keeps_rule, is_by}
use Rattle.flt_replay.specs.Ledger.{Agrees}
use Rattle.flt_replay.specs.Monitoring.{IsAt, ComesTo, GoesOn}
use Rattle.flt_replay_steps.specs.Unseen as several
use Rattle.flt_replay_world.specs.Happening.{ComesOf, Happened, holds_visit, holds_given}
use Rattle.flt_replay.specs.declared.monitor.Course.{Course as Code}
use Rattle.flt_replay.specs.declared.monitor.Course.TheVariants as code
use Rattle.flt_replay.specs.declared.monitor.Monitor.{Monitor}
use Rattle.flt_replay.proofs.Machine.Frames.{stepped}
use Rattle.flt_replay.proofs.Machine.Locals.{AreQuiet}
use Rattle.flt_replay.proofs.Judging.Judgements.{least_of_both, rules_of_step, no_rule_of_move, exclusive_after}
use Rattle.flt_replay.proofs.Counting.Ledgers.{agrees_unseen}
use Rattle.flt_replay.proofs.Judging.RulesAfter.{alike_after}

-- what holds of a result holds of it in other words
pub in_other_words : {A E : Type 0} (P Q : A → Type 0) (r : Result A E) → ((a : A) → P a → Q a) → IfOk r P → IfOk r Q
in_other_words P Q (Ok a) f h = f a h
in_other_words P Q (Err e) f h = tt

-- ---- a transition happened, or isn't enabled

pub happened : (step : Option Step) (enabled : Bool) (w : World) (earlier events : List Event) → enabled ≡ true →
    ComesOf step enabled w earlier events →
    (s : Step) × (step ≡ Some s) × Happened w earlier events s
happened None enabled w earlier events e h = absurd (cc (e, h))
happened (Some s) enabled w earlier events e h = (s, refl, h.1)

pub not_enabled : (step : Option Step) (enabled : Bool) (w : World) (earlier events : List Event) → enabled ≡ false →
    ComesOf step enabled w earlier events → step ≡ None
not_enabled None enabled w earlier events e h = refl
not_enabled (Some s) enabled w earlier events e h = absurd (cc (e, h.0))

-- ---- a step is judged

none_of : (o other : Option Violation) → option_or o other ≡ None → o ≡ None
none_of None other e = refl
none_of (Some v) other e = absurd (cc)

no_other : (o other : Option Violation) → option_or o other ≡ None → other ≡ None
no_other None other e = e
no_other (Some v) other e = absurd (cc)

module _ (p : List Filter) (m : Moment) (s : Step) (monitor : Monitor) (found rule : Option Violation)
    (holding : found ≡ first_of of_holding p m s) (rules : rule ≡ first_of of_rules p m s) where
  both : broken p m s ≡ option_or found rule
  both = least_of_both p m s ∙ rw (← holding, ← rules) refl

  -- a violation of counts or of rules is what comes of the step
  pub fails : (v : Violation) → option_or found rule ≡ Some v →
      ComesTo (code.Fails v) monitor (unless_broken (broken p m s) (Reaches (after m s)))
  fails v e = rw (both, e) refl

  -- where neither counts nor rules find a violation, the monitor stands where the step leads
  pub reaches : option_or found rule ≡ None → monitor.world ≡ s.world → (found ≡ None → Agrees (after m s) monitor.ledger) →
      ComesTo code.Reaches monitor (unless_broken (broken p m s) (Reaches (after m s)))
  reaches e world counts =
      let none : found ≡ None = none_of found rule e in
      rw (both, e) (record { world = world; counts = counts none; exclusive = exclusive_after p m s (sym rules ∙ no_other found rule e) })

-- ---- one transition

module _ (p : List Filter) (m : Moment) (x : Transition) where
  -- where the next transition isn't enabled, the course stops
  pub stops : (monitor : Monitor) → next p m x ≡ None → ComesTo code.Stops monitor (course p m (x ∷ []))
  stops monitor e = rw e tt

  -- what comes of a step that can be made comes of a course of this one transition
  pub goes_to : (c : Code) (monitor : Monitor) (s : Step) → next p m x ≡ Some s →
      ComesTo c monitor (unless_broken (broken p m s) (Reaches (after m s))) → ComesTo c monitor (course p m (x ∷ []))
  goes_to c monitor s e h = rw e h

-- ---- no lock is held exclusively beside another activation

-- not at the opening, and not after a step from where it was so
pub record StayExclusive : Type 0 where
  pub opening : (p : List Filter) → IsTrue (locks_exclude (opening p))
  pub steps : (p : List Filter) (w : World) (t : List Event) (x : Transition) (s : Step) → step p w t x ≡ Some s →
      IsTrue (locks_exclude w) →
      IsTrue (locks_exclude s.world)

-- ---- a move

-- what comes of a move is what comes of a course of it, where it is enabled
pub made : (p : List Filter) (m : Moment) (x : Move) (old new : Monitor) (u : World) (es : List Event) (enabled : Bool) (c : Code) →
    StayExclusive → IsAt old m → ComesOf (make p old.world x) enabled u [] es → enabled ≡ true →
    ((s : Step) → Follows p m (Make x) s u es → None ≡ first_of of_rules p m s →
    ComesTo c new (unless_broken (broken p m s) (Reaches (after m s)))) →
    ComesTo c new (course p m (Make x ∷ []))
made p m x old new u es enabled c stay at h is judges =
    let here : ComesOf (make p m.world x) enabled u [] es = subst (λ w. ComesOf (make p w x) enabled u [] es) at.world h in
    let t = happened (make p m.world x) enabled u [] es is here in
    let exclusive = stay.steps p m.world m.trace (Make x) t.0 t.1 at.exclusive in
    goes_to p m (Make x) c new t.0 t.1
    (judges t.0 (record { is = t.1; world = sym t.2.0; events_are = sym t.2.1 }) (no_rule_of_move p m x t.0 t.1 exclusive))

-- a move that isn't enabled stops the course
pub not_made : (p : List Filter) (m : Moment) (x : Move) (old new : Monitor) (u : World) (es : List Event) (enabled : Bool) →
    IsAt old m → ComesOf (make p old.world x) enabled u [] es → enabled ≡ false → ComesTo code.Stops new (course p m (Make x ∷ []))
not_made p m x old new u es enabled at h is =
    let here : ComesOf (make p m.world x) enabled u [] es = subst (λ w. ComesOf (make p w x) enabled u [] es) at.world h in
    stops p m (Make x) new (not_enabled (make p m.world x) enabled u [] es is here)

-- ---- a step that others see

-- what the activation was given is held after a step as before it
held_after : (p : List Filter) (m : Moment) (a : ℕ) (grant : Bool) (s : Step) → board p m.trace m.world a grant ≡ Some s →
    holds_given m.trace (with_locks s.world a (activation_at m.world a).locks) a ≡ holds_given m.trace m.world a
held_after p m a grant s e = ap (holds_visit m.trace a) (alike_after m.world a s (stepped p m.trace m.world a grant s e)).given

module _ (p : List Filter) (m : Moment) (a : ℕ) (grant held : Bool) (old : Monitor) (u : World) (es : List Event)
    (enabled : Bool) (at : IsAt old m)
    (is_held : held ≡ holds_given m.trace m.world a)
    (h : (t : List Event) → held ≡ holds_given t old.world a → ComesOf (board p t old.world a grant) enabled u [] es) where
  board_here : ComesOf (board p m.trace m.world a grant) enabled u [] es
  board_here =
      subst (λ w. ComesOf (board p m.trace w a grant) enabled u [] es) at.world
      (h m.trace (subst (λ w. held ≡ holds_given m.trace w a) (sym at.world) is_held))

  -- where the call says that a step isn't enabled, the machine has none
  pub not_seen : enabled ≡ false → next p m (Board a grant) ≡ None
  not_seen is = not_enabled (board p m.trace m.world a grant) enabled u [] es is board_here

  -- the least broken rule, as it is read in a world after the step
  abbrev IsRule : Option Violation → World → List Event → List HeldLock → Type 0
  IsRule rule w events locks =
      (t : List Event) → held ≡ holds_given t (with_locks w a locks) a → list_all (is_by a) events ≡ true →
      rule ≡ find (λ v. not (keeps_rule p (with_locks w a locks) t events v)) of_rules

  module _ (rule : Option Violation) (locks : List HeldLock) (are : locks ≡ (activation_at old.world a).locks)
      (rules : IsRule rule u es locks)
      (s : Step) (e : board p m.trace m.world a grant ≡ Some s) (exclusive : locks_exclude s.world ≡ true) (world : u ≡ s.world)
      (events : es ≡ s.events) where
    abbrev own : List HeldLock
    own = (activation_at m.world a).locks

    read_after : IsRule rule s.world s.events own
    read_after =
        subst (λ l. IsRule rule s.world s.events l) (are ∙ ap (λ w. (activation_at w a).locks) at.world)
        (subst (λ l. IsRule rule s.world l locks) events (subst (λ w. IsRule rule w es locks) world rules))

    rule_is : rule ≡ first_of of_rules p m s
    rule_is =
        read_after m.trace (is_held ∙ sym (held_after p m a grant s e)) (stepped p m.trace m.world a grant s e).framed.by_actor
        ∙ sym (rules_of_step p m a grant s e exclusive)

  -- a step that others see is judged by the least rule that it breaks
  pub seen : (rule : Option Violation) (locks : List HeldLock) → StayExclusive → enabled ≡ true →
      locks ≡ (activation_at old.world a).locks → IsRule rule u es locks → IsJudgedBy p m (Board a grant) u es rule
  seen rule locks stay is are rules =
      let t = happened (board p m.trace m.world a grant) enabled u [] es is board_here in
      record {
        step = t.0;
        follows = record { is = t.1; world = sym t.2.0; events_are = sym t.2.1 };
        least = rule_is rule locks are rules t.0 t.1 (stay.steps p m.world m.trace (Board a grant) t.0 t.1 at.exclusive) t.2.0 t.2.1;
      }

-- ---- steps that nobody else sees

module _ (p : List Filter) (m : Moment) (a : ℕ) (old : Monitor) (u : World) (enabled : Bool) (at : IsAt old m)
    (h : (p : List Filter) → (t : List Event) → ComesOf (local p t old.world a) enabled u [] []) (ys : List Transition) where
  local_here : ComesOf (local p m.trace m.world a) enabled u [] []
  local_here = subst (λ w. ComesOf (local p m.trace w a) enabled u [] []) at.world (h p m.trace)

  pub not_unseen : enabled ≡ false → course p m (Local a ∷ ys) ≡ Stops
  not_unseen is = rw (not_enabled (local p m.trace m.world a) enabled u [] [] is local_here) refl

  unseen_by : AreQuiet → StayExclusive → (s : Step) → next p m (Local a) ≡ Some s → u ≡ s.world →
      GoesOn true (record { world = u; ledger = old.ledger }) p ys (course p m (Local a ∷ ys))
  unseen_by quiet stay s e world = (
    after m s,
    record {
      world = world;
      counts = agrees_unseen quiet p m a s old.ledger at.counts e;
      exclusive = stay.steps p m.world m.trace (Local a) s e at.exclusive;
    },
    rw (e, quiet.breaks p m a s e, at.counts.owned, at.exclusive) refl,
  )

  pub unseen : AreQuiet → StayExclusive → enabled ≡ true →
      GoesOn true (record { world = u; ledger = old.ledger }) p ys (course p m (Local a ∷ ys))
  unseen quiet stay is =
      let t = happened (local p m.trace m.world a) enabled u [] [] is local_here in
      unseen_by quiet stay t.0 t.1 t.2.0

-- ---- such steps, one after another

module _ (p : List Filter) (a : ℕ) (xs : List Transition) (quiet : AreQuiet) (stay : StayExclusive) where
  -- so many of them lead from where a monitor stands to a world, or one of them isn't enabled
  abbrev Lead : ℕ → Bool → World → Type 0
  Lead n all u =
      (m : Moment) (old : Monitor) → IsAt old m → several.unseen n old.world a ≡ (if all then Some u else None) →
      GoesOn all (record { world = u; ledger = old.ledger }) p xs (course p m (replicate n (Local a) ++ xs))

  stops_there : (n : ℕ) (all : Bool) (u : World) (m : Moment) (old : Monitor) → IsAt old m → local [] [] old.world a ≡ None →
      None ≡ (if all then Some u else None) →
      GoesOn all (record { world = u; ledger = old.ledger }) p xs (course p m (Local a ∷ (replicate n (Local a) ++ xs)))
  stops_there n true u m old at e h = absurd (cc h)
  stops_there n false u m old at e h =
      not_unseen p m a old u false at (λ q t. subst (λ o. ComesOf o false u [] []) (sym e) refl) (replicate n (Local a) ++ xs) refl

  goes_there : (n : ℕ) (all : Bool) (u : World) → Lead n all u → (m : Moment) (old : Monitor) → IsAt old m → (s : Step) →
      local [] [] old.world a ≡ Some s → several.unseen n s.world a ≡ (if all then Some u else None) →
      GoesOn all (record { world = u; ledger = old.ledger }) p xs (course p m (Local a ∷ (replicate n (Local a) ++ xs)))
  goes_there n all u lead m old at s e h =
      let here : next p m (Local a) ≡ Some s = subst (λ w. local [] [] w a ≡ Some s) at.world e in
      let none : s.events ≡ [] = quiet.events p m a s here in
      let comes : (q : List Filter) → (t : List Event) → ComesOf (local q t old.world a) true s.world [] [] =
      λ q t. subst (λ o. ComesOf o true s.world [] []) (sym e) (refl, (refl, sym none)) in
      let step = unseen p m a old s.world true at comes (replicate n (Local a) ++ xs) quiet stay refl in
      subst (λ k. GoesOn all (record { world = u; ledger = old.ledger }) p xs k) (sym step.2)
      (lead step.0 (record { world = s.world; ledger = old.ledger }) step.1 h)

  one_and_more : (n : ℕ) (all : Bool) (u : World) → Lead n all u → (m : Moment) (old : Monitor) → IsAt old m → (first : Option Step) →
      local [] [] old.world a ≡ first → option_and_then (λ (s : Step). several.unseen n s.world a) first ≡ (if all then Some u else None) →
      GoesOn all (record { world = u; ledger = old.ledger }) p xs (course p m (Local a ∷ (replicate n (Local a) ++ xs)))
  one_and_more n all u lead m old at None e h = stops_there n all u m old at e h
  one_and_more n all u lead m old at (Some s) e h = goes_there n all u lead m old at s e h

  -- any number of steps that others don't see leads where the machine's lead, or stops where one isn't enabled
  pub all_unseen : (n : ℕ) (all : Bool) (u : World) → Lead n all u
  all_unseen zero true u m old at h =
      let same : old.world ≡ u = cc h in
      (m, record { world = sym same ∙ at.world; counts = at.counts; exclusive = at.exclusive }, refl)
  all_unseen zero false u m old at h = absurd (cc h)
  all_unseen (suc n) all u m old at h =
      one_and_more n all u (all_unseen n all u) m old at (local [] [] old.world a) refl h

-- where an entry's steps aren't 0, they are local ones and a last one that others see
pub go_on_more : (a steps : ℕ) (grant : Bool) → (steps ≡ 0 → ⊥) →
    go_on a steps grant ≡ Some (replicate (steps - 1) (Local a) ++ Board a grant ∷ [])
go_on_more a zero grant h = absurd (h refl)
go_on_more a (suc n) grant h = rw sub-one refl

-- ---- what comes of an entry, and of the journal

-- the course in the machine's words
pub stopped : (monitor : Monitor) (k : Course) → ComesTo code.Stops monitor k → k ≡ Stops
stopped monitor (Reaches m) h = absurd h
stopped monitor Stops h = refl
stopped monitor (Fails v) h = absurd h

-- where the monitor fails with a violation, so does the course
pub failed : (monitor : Monitor) (v : Violation) (k : Course) → ComesTo (code.Fails v) monitor k → k ≡ Fails v
failed monitor v (Reaches m) h = absurd h
failed monitor v Stops h = absurd h
failed monitor v (Fails u) h = rw h refl

-- where the monitor reaches something, so does the course, at the moment at which the monitor stands
pub reached : (monitor : Monitor) (k : Course) → ComesTo code.Reaches monitor k → (m : Moment) × IsAt monitor m × (k ≡ Reaches m)
reached monitor (Reaches m) h = (m, h, refl)
reached monitor Stops h = absurd h
reached monitor (Fails v) h = absurd h

drop_at : (entries : List JournalEntry) (n : ℕ) (d : JournalEntry) → n < length entries →
    drop n entries ≡ get_or entries n d ∷ drop (suc n) entries
drop_at [] n d h = absurd (omega arith)
drop_at (e ∷ entries) zero d h = refl
drop_at (e ∷ entries) (suc n) d h = drop_at entries n d (omega arith)

-- one entry more
pub judged_at : (p : List Filter) (m : Moment) (n : ℕ) (entries : List JournalEntry) (d : JournalEntry) (whole : Verdict)
    (k : Course) → n < length entries →
    verdict_from p m n (drop n entries) ≡ whole → entry_course p m (expansion (get_or entries n d)) ≡ k →
    judged k n (λ r. verdict_from p r (n + 1) (drop (n + 1) entries)) ≡ whole
judged_at p m n entries d whole k h is e =
    let left : drop n entries ≡ get_or entries n d ∷ drop (n + 1) entries = rw add-one (drop_at entries n d h) in
    ap (λ c. judged c n (λ r. verdict_from p r (n + 1) (drop (n + 1) entries))) (sym e) ∙ (sym (ap (verdict_from p m n) left) ∙ is)

-- before the first entry
pub begins : (p : List Filter) (monitor : Monitor) → StayExclusive → monitor.world ≡ opening p → Agrees (start p) monitor.ledger →
    IsAt monitor (start p)
begins p monitor stay world counts = record { world = world; counts = counts; exclusive = stay.opening p }
