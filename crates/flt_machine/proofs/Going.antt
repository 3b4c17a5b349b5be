-- What a commit goes by: the plan of the instruction at which the activation stands is a step where the local steps lead.
use Rattle.std.proofs.Common.{◌≡◌, ◌≤◌, ℕ, ◌+◌, ◌*◌, Bool, true, false, not, ◌||◌, List, [], ◌∷◌}
use Rattle.std.proofs.Common.{◌++◌, Option, Some, length, ap, sym, subst, refl, ◌∙◌, arith}
use Rattle.std.proofs.Math.ListN.{set}
use Rattle.std.proofs.lemmas.List.{length-append}
use Rattle.std.specs.Prelude.{IfSome}
use Rattle.flt_tree.specs.declared.filter.Callback.{Callback}
use Rattle.flt_tree.specs.declared.filter.Filter.{Filter}
use Rattle.flt_tree.specs.declared.filter.Statement.{Statement}
use Rattle.flt_graph.specs.declared.instruction.Instruction.{Instruction}
use Rattle.flt_model.specs.declared.moves.JournalEntry.{JournalEntry}
use Rattle.flt_model.specs.declared.moves.JournalEntry.TheVariants.{Go}
use Rattle.flt_model.specs.Effects.{Step}
use Rattle.flt_model.specs.Program.{callbacks_at}
use Rattle.flt_model.specs.Runs.{Moment, next}
use Rattle.flt_model.specs.Steps as steps
use Rattle.flt_model.specs.World.{Store, Activation, activation_at, actor_at}
use Rattle.flt_machine_store.specs.Changes.{after_change}
use Rattle.flt_machine_frames.specs.Firsts.{Remains}
use Rattle.flt_machine_frames.specs.Leads.{IsAdvance}
use Rattle.flt_machine_frames.specs.Loading.{AreLoaded, instruction_in}
use Rattle.flt_machine_frames.specs.Standings.{StandsFor}
use Rattle.flt_machine_frames.specs.declared.frame.Advanced.{Advanced}
use Rattle.flt_machine_frames.specs.declared.loaded.Loaded.{Loaded}
use Rattle.flt_machine_frames.specs.declared.standing.Standing.{Standing}
use Rattle.flt_machine_calls.specs.Continuing.{leads_on}
use Rattle.flt_machine_calls.specs.Own.{AreOf, AreOwn}
use Rattle.flt_machine_calls.specs.Plans.{IsPlanned, PlansStep, TakesNone, choice_at, is_end, remaining_by, is_ending}
use Rattle.flt_machine_calls.specs.declared.caller.Caller.{Caller}
use Rattle.flt_machine_calls.specs.declared.plans.Plan.{Plan}
use Rattle.flt_machine.specs.Blocking.{is_blocked}
use Rattle.flt_machine.specs.Calls.{Commits, IsAdvanced, IsBlocked, IsFresh, IsLater, IsRefusedAt, caller_of}
use Rattle.flt_machine.specs.Calls.{instruction_for, is_refused_lock, leaves_choice_at, step_at}
use Rattle.flt_machine.specs.Counted.{AreDistinct, IsBounded, IsSmall}
use Rattle.flt_machine.specs.Situations.{Situation, IsAt, IsKept, IsOwn}
use Rattle.flt_machine.proofs.Committed.{there, middle, caller_is, stands_there, counted_there, refused_there}
use Rattle.flt_machine.proofs.Committed.{blocked_there, made_there, commits, committed, here}
use Rattle.flt_machine.proofs.Local.{goes_there, kept_there}
use Rattle.flt_machine.proofs.Read.{refused_is, choice_is}
use Rattle.flt_machine.proofs.Leading.{leads}
use Rattle.flt_rules.specs.Limits.{max_entries}

-- the law of standings: what remains is what the instruction says
abbrev pub Law : Type 0
Law = (p : List Filter) (l : Loaded) (filter : ℕ) (s : Standing) (act : Activation) →
    AreLoaded p l → StandsFor (callbacks_at p filter) s act →
    Remains (callbacks_at p filter) s act.rest (instruction_in l filter s.callback s.point)

-- what is found out of a commit before it is made
pub record IsPlanOf (l : Loaded) (s : Store) (c : Caller) (i : Instruction) (grant : Bool) (plan : Plan) : Type 0 where
  pub free : is_refused_lock s c i ≡ false
  pub planned : PlansStep l s c grant plan
  pub ends : (p : List Filter) →
      AreLoaded p l → is_end plan.write ≡ is_ending (instruction_in l c.filter c.standing.callback c.standing.point)
  pub takes : TakesNone c.standing.locks plan.write
  pub own : AreOwn c.activation plan.events

-- the same of the caller and the instruction of an advance
pub plan_of : (l : Loaded) (b : Situation) (advanced : Advanced) (c : Caller) (i : Instruction) (grant : Bool) (plan : Plan) →
    c ≡ caller_of b advanced → i ≡ instruction_for l advanced →
    IsPlanOf l b.store c i grant plan → IsPlanOf l b.store (caller_of b advanced) (instruction_for l advanced) grant plan
plan_of l b advanced c i grant plan who at_point is =
    subst (λ (k : Instruction). IsPlanOf l b.store (caller_of b advanced) k grant plan) at_point
    (subst (λ (d : Caller). IsPlanOf l b.store d i grant plan) who is)

module _ (p : List Filter) (b : Situation) (advanced : Advanced) (grant : Bool) (m : Moment) (at : IsAt p b m) (fresh : IsFresh b advanced)
    (advance : IsAdvance p advanced)
    (l : Loaded) (law : Law) (loaded : AreLoaded p l) where
  abbrev mid : Moment
  mid = middle p b advanced grant m at fresh advance

  abbrev act : Activation
  act = activation_at (middle p b advanced grant m at fresh advance).world advanced.frame.activation

  stands : StandsFor (callbacks_at p advanced.frame.filter) advanced.after act
  stands = stands_there p b advanced grant m at fresh advance

  remains : Remains (callbacks_at p advanced.frame.filter) advanced.after act.rest (instruction_for l advanced)
  remains = law p l advanced.frame.filter advanced.after act loaded stands

  blocks : is_refused_lock b.store (caller_of b advanced) (instruction_for l advanced) ≡
      is_blocked mid.world advanced.frame.activation act.rest
  blocks =
      ap (λ (s : Store). is_refused_lock s (caller_of b advanced) (instruction_for l advanced)) at.store ∙
      refused_is mid.world (caller_of b advanced) (caller_is p b advanced grant m at fresh advance).filter
      (callbacks_at p advanced.frame.filter) advanced.after act.rest (instruction_for l advanced) remains

  -- a lock that is refused to the instruction refuses the step
  pub refused_at : is_refused_lock b.store (caller_of b advanced) (instruction_for l advanced) ≡ true → IsRefusedAt p advanced grant m
  refused_at is = refused_there p b advanced grant m at fresh advance (sym blocks ∙ is)

  -- and the other way round
  pub refused_from : IsRefusedAt p advanced grant m → is_refused_lock b.store (caller_of b advanced) (instruction_for l advanced) ≡ true
  refused_from is = blocks ∙ blocked_there p b advanced grant m at fresh advance is

  lives : act.ended ≡ false
  lives = goes_there advanced.after act stands.same

  -- the later standing is as small as the earlier
  pub small_there : (n : ℕ) → IsSmall n advanced.frame.standing → IsSmall n advanced.after
  small_there n small = record {
    gained = subst (λ (k : ℕ). k ≤ 16 * n) (sym advance.gained) small.gained;
    lost = subst (λ (k : ℕ). k ≤ 16 * n) (sym advance.lost) small.lost;
    locks = subst AreDistinct same small.locks;
  }
    where
      before : IsKept (callbacks_at p (actor_at m.world advanced.frame.activation).filter) m.trace advanced.frame.activation
          (activation_at m.world advanced.frame.activation) advanced.frame.standing
      before = kept_there p b m advanced.frame.activation advanced.frame.standing at fresh.standing

      same : advanced.frame.standing.locks ≡ advanced.after.locks
      same =
          sym (ap (λ (x : Activation). x.locks) before.stands.same) ∙ sym (there p b advanced grant m at fresh advance).locks ∙
          sym (ap (λ (x : Activation). x.locks) (here p b advanced grant m at fresh advance)) ∙ ap (λ (x : Activation). x.locks) stands.same

  module _ (plan : Plan) (is : IsPlanOf l b.store (caller_of b advanced) (instruction_for l advanced) grant plan) where
    made : (step : Step) × (next p mid (step_at advanced grant mid) ≡ Some step)
    made = made_there p b advanced grant m at fresh advance (sym blocks ∙ is.free)

    planned : IsPlanned mid.world advanced.frame.activation plan [] (remaining_by act.rest true) (remaining_by act.rest false) made.0
    planned =
        subst (λ (s : Store). PlansStep l s (caller_of b advanced) grant plan) at.store is.planned p mid.trace mid.world.actors
        mid.world.activations (choice_at act.rest grant) made.0 loaded
        (caller_is p b advanced grant m at fresh advance) (counted_there p b advanced grant m at fresh advance) stands refl made.1

    -- the instruction leads on where the plan does
    pub leads_there : is_end plan.write ≡ false → leads_on (instruction_for l advanced) ≡ true
    leads_there goes =
        leads p mid.trace mid.world advanced.frame.activation (choice_at act.rest grant) made.0 lives made.1
        (callbacks_at p advanced.frame.filter) advanced.after (instruction_for l advanced) remains
        (sym (is.ends p loaded) ∙ goes)

    -- the board that it leads to is that after a commit
    pub commits_so : (later : Option Standing) (choice : Bool) → choice ≡ (grant || not (leaves_choice_at (instruction_for l advanced))) →
        ((rest : List Statement) → Remains (callbacks_at p advanced.frame.filter) advanced.after rest (instruction_for l advanced) →
        IsLater (callbacks_at p advanced.frame.filter) advanced.frame.activation advanced.after rest plan later) →
        Commits p b (committed b advanced later (after_change b.store plan.change) choice) advanced grant plan.events m
    commits_so later choice chosen after =
        subst (λ (c : Bool). Commits p b (committed b advanced later (after_change b.store plan.change) c) advanced grant plan.events m)
        (sym (chosen ∙ choice_is (callbacks_at p advanced.frame.filter) advanced.after act.rest (instruction_for l advanced) grant remains))
        (commits p b advanced grant m at fresh advance plan later made.0 made.1 planned is.own.of (after act.rest remains))

-- ---- the board's own

larger : (n k : ℕ) (s : Standing) → n ≤ k → IsSmall n s → IsSmall k s
larger n k s less small = record { gained = omega (arith, less, small.gained); lost = omega (arith, less, small.lost); locks = small.locks }

module _ (l : Loaded) (b : Situation) (advanced : Advanced) (grant : Bool) (c : Caller) (i : Instruction) (law : Law) (own : IsOwn l b)
    (is : IsAdvanced l advanced) (fresh : IsFresh b advanced)
    (who : c ≡ caller_of b advanced) (at_point : i ≡ instruction_for l advanced) where
  -- the caller's standing is small
  pub small_before : IsBounded b → IsSmall (length b.entries) c.standing
  small_before bounded =
      subst (λ (d : Caller). IsSmall (length b.entries) d.standing) (sym who)
      (small_there own.filters b advanced grant own.board.moment own.board.at fresh
      (is.advance own.filters own.loaded) l law own.loaded (length b.entries)
      (bounded.standings advanced.frame.activation advanced.frame.standing fresh.standing))

  -- and no larger than any may be
  pub small_ever : IsBounded b → IsSmall max_entries c.standing
  small_ever bounded = larger (length b.entries) max_entries c.standing bounded.entries (small_before bounded)

  -- a lock that others hold so refuses the step
  pub blocked_is : is_refused_lock b.store c i ≡ true → IsBlocked l b advanced grant
  blocked_is refused p loaded m at =
      refused_at p b advanced grant m at fresh (is.advance p loaded) l law loaded
      (ap (λ (k : Instruction). is_refused_lock b.store (caller_of b advanced) k) (sym at_point) ∙
      ap (λ (d : Caller). is_refused_lock b.store d i) (sym who) ∙ refused)

  -- and nothing else does
  pub blocked_from : IsBlocked l b advanced grant → is_refused_lock b.store c i ≡ true
  blocked_from blocked =
      ap (λ (d : Caller). is_refused_lock b.store d i) who ∙
      ap (λ (k : Instruction). is_refused_lock b.store (caller_of b advanced) k) at_point ∙
      refused_from own.filters b advanced grant own.board.moment own.board.at fresh (is.advance own.filters own.loaded) l law own.loaded
      (blocked own.filters own.loaded own.board.moment own.board.at)

  module _ (plan : Plan) (of : IsPlanOf l b.store c i grant plan) where
    -- an instruction whose plan doesn't end the activation leads on
    pub goes_on : is_end plan.write ≡ false → leads_on i ≡ true
    goes_on goes =
        subst (λ (k : Instruction). leads_on k ≡ true) (sym at_point)
        (leads_there own.filters b advanced grant own.board.moment own.board.at fresh
        (is.advance own.filters own.loaded) l law own.loaded plan (plan_of l b advanced c i grant plan who at_point of) goes)

    -- a plan takes no lock that the caller's standing holds
    pub takes_free : TakesNone c.standing.locks plan.write
    takes_free = of.takes

    module _ (later : Option Standing) (choice : Bool) (chosen : choice ≡ (grant || not (leaves_choice_at i)))
        (after : (cs : List Callback) (a : ℕ) (rest : List Statement) →
        Remains cs c.standing rest i → AreOf a plan.events → IsLater cs a c.standing rest plan later) where
      commits_at : (p : List Filter) → AreLoaded p l → (m : Moment) →
          IsAt p b m → Commits p b (committed b advanced later (after_change b.store plan.change) choice) advanced grant plan.events m
      commits_at p loaded m at =
          commits_so p b advanced grant m at fresh (is.advance p loaded) l law loaded plan
          (plan_of l b advanced c i grant plan who at_point of) later choice
          (chosen ∙ ap (λ (k : Instruction). grant || not (leaves_choice_at k)) at_point)
          (λ rest remains. by (callbacks_at p advanced.frame.filter) rest remains)
        where
          by : (cs : List Callback) (rest : List Statement) → Remains cs advanced.after rest (instruction_for l advanced) →
              IsLater cs advanced.frame.activation advanced.after rest plan later
          by cs rest remains =
              subst (λ (d : Caller). IsLater cs d.activation d.standing rest plan later) who
              (after cs c.activation rest
              (subst (λ (d : Caller). Remains cs d.standing rest i) (sym who)
              (subst (Remains cs advanced.after rest) (sym at_point) remains)) of.own.of)

      -- what is written down and put leads to the board after a commit
      pub commits_to : (e : JournalEntry) (written later_board : Situation) → e ≡ Go advanced.frame.activation (advanced.steps + 1) choice →
          written ≡ record b { store = after_change b.store plan.change; entries = b.entries ++ e ∷ [] } →
          later_board ≡ record written { standings = set written.standings c.activation later } →
          (p : List Filter) → AreLoaded p l → (m : Moment) → IsAt p b m → Commits p b later_board advanced grant plan.events m
      commits_to e written later_board same first second p loaded m at =
          subst (λ (x : Situation). Commits p b x advanced grant plan.events m)
          (sym (second ∙ ap (λ (x : Situation). record x { standings = set x.standings c.activation later }) first ∙
          ap (λ (y : JournalEntry). record b
          { standings = set b.standings c.activation later; store = after_change b.store plan.change; entries = b.entries ++ y ∷ [] })
          same ∙
          ap (λ (d : Caller). committed_by d.activation) who))
          (commits_at p loaded m at)
        where
          committed_by : ℕ → Situation
          committed_by a = record b {
            standings = set b.standings a later;
            store = after_change b.store plan.change;
            entries = b.entries ++ Go advanced.frame.activation (advanced.steps + 1) choice ∷ [];
          }

-- after one entry more a standing may be larger
pub small_after : (b written : Situation) (store : Store) (e : JournalEntry) (later : Option Standing) →
    written ≡ record b { store = store; entries = b.entries ++ e ∷ [] } →
    IfSome later (λ s. IsSmall (length b.entries + 1) s) → IfSome later (λ s. IsSmall (length written.entries) s)
small_after b written store e later is small =
    subst (λ (n : ℕ). IfSome later (λ s. IsSmall n s))
    (sym (ap (λ (x : Situation). length x.entries) is ∙ length-append b.entries (e ∷ []))) small

-- ---- a commit's answers

module _ (l : Loaded) (b : Situation) (advanced : Advanced) (grant : Bool) (c : Caller) (i : Instruction) (law : Law) (own : IsOwn l b)
    (is : IsAdvanced l advanced) (fresh : IsFresh b advanced)
    (who : c ≡ caller_of b advanced) (at_point : i ≡ instruction_in l c.filter c.standing.callback c.standing.point) where
  pub points_there : i ≡ instruction_for l advanced
  points_there = at_point ∙ ap (λ (d : Caller). instruction_in l d.filter d.standing.callback d.standing.point) who

  -- a lock that is refused blocks the step
  pub is_blocked_so : true ≡ is_refused_lock b.store c i → IsBlocked l b advanced grant
  is_blocked_so refused = blocked_is l b advanced grant c i law own is fresh who points_there (sym refused)

  -- a lock that isn't refused doesn't block the step
  pub not_blocked : false ≡ is_refused_lock b.store c i → IsBlocked l b advanced grant → ⊥
  not_blocked free blocked = let refused : is_refused_lock b.store c i ≡ true =
      blocked_from l b advanced grant c i law own is fresh who points_there blocked in absurd (cc)

-- a board with no room has as many entries as may be
pub all_entries : (b inside : Situation) (n : ℕ) →
    inside ≡ b → IsBounded inside → n ≡ length inside.entries → max_entries ≤ n → length b.entries ≡ max_entries
all_entries b inside n same bounded counted full =
    sym (ap (λ (x : Situation). length x.entries) same) ∙ omega (arith, bounded.entries, counted, full)
