-- A commit: local steps, then a planned step, and the board stands after it with an entry more.
use Rattle.std.proofs.Common.{◌≡◌, ◌↔◌, ℕ, ◌+◌, ◌<◌, Bool, true, false, List, [], ◌∷◌, ◌++◌, Option, Some, None, ap, sym, subst, refl, ◌∙◌}
use Rattle.std.proofs.Math.ListN.{set, get_or}
use Rattle.std.proofs.lemmas.List.{length-set, get_or-set_same}
use Rattle.flt_tree.specs.declared.filter.Filter.{Filter}
use Rattle.flt_tree.specs.declared.filter.Statement.{Statement}
use Rattle.flt_model.specs.declared.moves.JournalEntry.TheVariants.{Go}
use Rattle.flt_model.specs.Effects.{Step}
use Rattle.flt_model.specs.LocalSteps.{local_step}
use Rattle.flt_model.specs.Program.{callbacks_at}
use Rattle.flt_model.specs.Runs.{Moment, next, after}
use Rattle.flt_model.specs.World.{Store, Actor, Activation, no_actor, nobody, activation_at, actor_at}
use Rattle.flt_machine_store.specs.Changes.{after_change}
use Rattle.flt_machine_calls.specs.Own.{AreOf}
use Rattle.flt_machine_calls.specs.Plans.{IsCaller, IsCounted, IsPlanned, IsWritten, remaining_by, choice_at}
use Rattle.flt_machine_calls.specs.declared.plans.Plan.{Plan}
use Rattle.flt_machine_frames.specs.Leads.{IsAdvance}
use Rattle.flt_machine_frames.specs.Standings.{StandsFor}
use Rattle.flt_machine_frames.specs.declared.frame.Advanced.{Advanced}
use Rattle.flt_machine_frames.specs.declared.standing.Standing.{Standing}
use Rattle.flt_machine.specs.Blocking.{is_blocked}
use Rattle.flt_machine.specs.Calls.{Commits, IsFresh, IsLater, IsRefusedAt, caller_of, step_at}
use Rattle.flt_machine.specs.Situations.{Situation, IsKept, IsAt, standing_of}
use Rattle.flt_machine.proofs.Local.{moved, furthered, IsReached, advances, kept_there, set_twice, goes_there}
use Rattle.flt_machine.proofs.Stepped.{IsStepped, stepped, steps_on}
use Rattle.flt_machine.proofs.Planned.{planned_on, planned_end}
use Rattle.flt_machine.proofs.Blocked.{blocked_exact}

-- the board after a commit
abbrev pub committed : Situation → Advanced → Option Standing → Store → Bool → Situation
committed b advanced s store choice =
    stepped b advanced.frame.activation s store (b.entries ++ Go advanced.frame.activation (advanced.steps + 1) choice ∷ [])

module _ (p : List Filter) (b : Situation) (advanced : Advanced) (grant : Bool) (m : Moment) (at : IsAt p b m) (fresh : IsFresh b advanced)
    (advance : IsAdvance p advanced) where
  -- where its local steps lead
  abbrev pub there : IsReached p b advanced m
  there = advances p b advanced m at fresh advance

  abbrev pub middle : Moment
  middle = moved m advanced.frame.activation (advances p b advanced m at fresh advance).last

  -- after the local steps the activation stands where they lead
  pub here : get_or (set m.world.activations advanced.frame.activation (advances p b advanced m at fresh advance).last)
      advanced.frame.activation nobody ≡ (advances p b advanced m at fresh advance).last
  here = get_or-set_same m.world.activations advanced.frame.activation (advances p b advanced m at fresh advance).last nobody
      (advances p b advanced m at fresh advance).within

  standing_there : standing_of (furthered b advanced.frame.activation (Some advanced.after)) advanced.frame.activation ≡ Some advanced.after
  standing_there = get_or-set_same b.standings advanced.frame.activation (Some advanced.after) None
      (subst (λ (n : ℕ). advanced.frame.activation < n) (sym at.count) (advances p b advanced m at fresh advance).within)

  -- the later standing is kept there
  pub kept : IsKept (callbacks_at p (actor_at middle.world advanced.frame.activation).filter) middle.trace advanced.frame.activation
      (activation_at middle.world advanced.frame.activation) advanced.after
  kept = kept_there p (furthered b advanced.frame.activation (Some advanced.after)) middle advanced.frame.activation advanced.after
      (advances p b advanced m at fresh advance).at standing_there

  filter_is : (actor_at m.world advanced.frame.activation).filter ≡ advanced.frame.filter
  filter_is = rw (← at.actors) fresh.filter

  -- the activation is the caller there
  pub caller_is : IsCaller middle.world.actors middle.world.activations (caller_of b advanced)
  caller_is = record {
    filter = filter_is;
    place = ap (λ (actors : List Actor). (get_or actors advanced.frame.activation no_actor).place) (sym at.actors);
    act = kept.stands.same;
  }

  -- it stands for it, on its filter's callbacks
  pub stands_there : StandsFor (callbacks_at p advanced.frame.filter) advanced.after (activation_at middle.world advanced.frame.activation)
  stands_there = subst (λ (f : ℕ). StandsFor (callbacks_at p f) advanced.after (activation_at middle.world advanced.frame.activation))
      filter_is kept.stands

  -- the standing after the local steps counts what the trace says
  pub counted_there : IsCounted middle.trace advanced.frame.activation advanced.after
  counted_there = kept.counted

  abbrev pub rest : List Statement
  rest = (activation_at middle.world advanced.frame.activation).rest

  exact : (next p middle (step_at advanced grant middle) ≡ None) ↔
      (is_blocked middle.world advanced.frame.activation (activation_at middle.world advanced.frame.activation).rest ≡ true)
  exact =
      blocked_exact p middle advanced.frame.activation grant (actor_at m.world advanced.frame.activation).draining
      (activation_at middle.world advanced.frame.activation) refl
      (goes_there advanced.after (activation_at middle.world advanced.frame.activation) kept.stands.same)
      (subst (λ (act : Activation). local_step (actor_at m.world advanced.frame.activation).draining act act.rest ≡ None) (sym here)
      (advances p b advanced m at fresh advance).seen)

  -- a step that is blocked is refused there
  pub refused_there : is_blocked middle.world advanced.frame.activation (activation_at middle.world advanced.frame.activation).rest ≡ true →
      IsRefusedAt p advanced grant m
  refused_there blocks = record { middle = middle; reached = (advances p b advanced m at fresh advance).reached; refused = exact.1 blocks }

  -- a step that is refused is blocked there
  pub blocked_there : IsRefusedAt p advanced grant m →
      is_blocked middle.world advanced.frame.activation (activation_at middle.world advanced.frame.activation).rest ≡ true
  blocked_there is =
      let same : is.middle ≡ middle = let both = sym is.reached ∙ (advances p b advanced m at fresh advance).reached in cc in
      exact.0 (subst (λ (x : Moment). next p x (step_at advanced grant x) ≡ None) same is.refused)

  -- a step that isn't blocked is made
  pub made_there : is_blocked middle.world advanced.frame.activation (activation_at middle.world advanced.frame.activation).rest ≡ false →
      (step : Step) × (next p middle (step_at advanced grant middle) ≡ Some step)
  made_there free = by (next p middle (step_at advanced grant middle)) refl
    where
      by : (o : Option Step) → next p middle (step_at advanced grant middle) ≡ o → (step : Step) ×
          (next p middle (step_at advanced grant middle) ≡ Some step)
      by None is = let blocks = exact.0 is in absurd (cc)
      by (Some step) is = (step, is)

  stepped_there : (plan : Plan) (later : Option Standing) (step : Step) →
      IsPlanned middle.world advanced.frame.activation plan []
      (remaining_by (activation_at middle.world advanced.frame.activation).rest true)
      (remaining_by (activation_at middle.world advanced.frame.activation).rest false) step →
      AreOf advanced.frame.activation plan.events →
      IsLater (callbacks_at p advanced.frame.filter) advanced.frame.activation advanced.after
      (activation_at middle.world advanced.frame.activation).rest plan later →
      IsStepped p middle advanced.frame.activation later (after_change m.world.store plan.change) step
  stepped_there plan None step planned own ends = planned_end p middle advanced.frame.activation plan step planned own ends
  stepped_there plan (Some later) step planned own (goes, (w, counts)) =
      planned_on p middle advanced.frame.activation advanced.after later plan step kept planned own goes
      (subst (λ (f : ℕ). IsWritten (callbacks_at p f) advanced.after later plan (activation_at middle.world advanced.frame.activation).rest)
      (sym filter_is) w) counts

  -- a planned step after the local ones is a commit
  pub commits : (plan : Plan) (later : Option Standing) (step : Step) → next p middle (step_at advanced grant middle) ≡ Some step →
      IsPlanned middle.world advanced.frame.activation plan []
      (remaining_by (activation_at middle.world advanced.frame.activation).rest true)
      (remaining_by (activation_at middle.world advanced.frame.activation).rest false) step →
      AreOf advanced.frame.activation plan.events →
      IsLater (callbacks_at p advanced.frame.filter) advanced.frame.activation advanced.after
      (activation_at middle.world advanced.frame.activation).rest plan later →
      Commits p b (committed b advanced later (after_change b.store plan.change)
      (choice_at (activation_at middle.world advanced.frame.activation).rest grant)) advanced grant plan.events m
  commits plan later step made planned own is = record {
    middle = middle;
    step = step;
    reached = (advances p b advanced m at fresh advance).reached;
    made = made;
    told = planned.events;
    at = subst (λ (store : Store). IsAt p (committed b advanced later (after_change store plan.change)
        (choice_at (activation_at middle.world advanced.frame.activation).rest grant)) (after middle step)) (sym at.store)
        (subst (λ (l : List (Option Standing)). IsAt p (record (committed b advanced later (after_change m.world.store plan.change)
        (choice_at (activation_at middle.world advanced.frame.activation).rest grant)) { standings = l }) (after middle step))
        (set_twice b.standings advanced.frame.activation (Some advanced.after) later)
        (steps_on p (furthered b advanced.frame.activation (Some advanced.after)) middle advanced.frame.activation later
        (after_change m.world.store plan.change)
        (b.entries ++ Go advanced.frame.activation (advanced.steps + 1)
        (choice_at (activation_at middle.world advanced.frame.activation).rest grant) ∷ []) step
        (advances p b advanced m at fresh advance).at
        (subst (λ (n : ℕ). advanced.frame.activation < n)
        (sym (length-set m.world.activations advanced.frame.activation (advances p b advanced m at fresh advance).last))
        (advances p b advanced m at fresh advance).within) (stepped_there plan later step planned own is)));
    written = refl;
  }
