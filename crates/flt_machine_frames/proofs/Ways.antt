-- The way of an advance: how far it has come after some steps, and that it comes to its end.
use Rattle.std.proofs.Common.{◌≡◌, ℕ, zero, suc, ◌+◌, ◌≤◌, Bool, true, false, nat_le, List, []}
use Rattle.std.proofs.Common.{◌∷◌, Option, Some, None, refl, sym, ap, ◌∙◌, subst, arith, add-one}
use Rattle.std.specs.Prelude.{slice_get, is_some, option_map, if◌then◌else◌}
use Rattle.std.specs.List.{list_all}
use Rattle.std.specs.Option.{unwrap_or}
use Rattle.std.proofs.lemmas.Bool.{and_parts, leb-true}
use Rattle.std.proofs.lemmas.Option.{none-some, same_Some}
use Rattle.flt_tree.specs.Measures.{cost, points, is_small}
use Rattle.flt_rules.specs.Limits.{max_points, max_cost}
use Rattle.flt_tree.specs.declared.filter.Action.{Action}
use Rattle.flt_tree.specs.declared.filter.Action.TheVariants as action
use Rattle.flt_tree.specs.declared.filter.Callback.{Callback}
use Rattle.flt_tree.specs.declared.filter.Filter.{Filter}
use Rattle.flt_tree.specs.declared.filter.Statement.{Statement}
use Rattle.flt_graph.specs.Graph.{instruction_at}
use Rattle.flt_graph.specs.Points.{Stands}
use Rattle.flt_graph.specs.Turns.{StandsWith, left_at, turns_round}
use Rattle.flt_graph.specs.declared.graph.Graph.{Graph}
use Rattle.flt_graph.specs.declared.instruction.Instruction.{Instruction}
use Rattle.flt_graph.specs.declared.instruction.Instruction.TheVariants as instruction
use Rattle.flt_graph.specs.declared.turns.Turn.{Turn}
use Rattle.flt_model.specs.LocalSteps.{holds_test, local_step}
use Rattle.flt_model.specs.Program.{body_at, body_of, callbacks_at}
use Rattle.flt_model.specs.World.{Activation}
use Rattle.flt_machine_frames.proofs.Filters.{none_at}
use Rattle.flt_machine_frames.proofs.Going.{locally_more, costs_fall}
use Rattle.flt_machine_frames.proofs.Missing.{nothing_stands}
use Rattle.flt_machine_frames.proofs.Stepping.{Laws, Follows, step_follows}
use Rattle.flt_machine_frames.specs.Leads.{locally, IsFrom, IsAdvanceOn, IsAdvance}
use Rattle.flt_machine_frames.specs.Loading.{IsLoaded, AreGraphsOfFilters}
use Rattle.flt_machine_frames.specs.Standings.{activation_with, StandsFor}
use Rattle.flt_machine_frames.specs.Steps.{stepped, turned_with}
use Rattle.flt_machine_frames.specs.Turns.{with_turn}
use Rattle.flt_machine_frames.specs.declared.frame.Frame.{Frame}
use Rattle.flt_machine_frames.specs.declared.standing.Standing.{Standing}

-- ---- what no local step changes

record Keeps (s t : Standing) : Type 0 where
  callback : t.callback ≡ s.callback
  gained : t.gained ≡ s.gained
  lost : t.lost ≡ s.lost

abbrev KeepsIn : Standing → Option Standing → Type 0
KeepsIn s None = Unit {0}
KeepsIn s (Some t) = Keeps s t

act_keeps : (draining : Bool) (s : Standing) (a : Action) (next : ℕ) → KeepsIn s (stepped draining (instruction.Act a next) s)
act_keeps draining s (action.SetNumber n e) next = record { callback = refl; gained = refl; lost = refl }
act_keeps draining s (action.ClearContext c) next = record { callback = refl; gained = refl; lost = refl }
act_keeps draining s (action.ClearOperation o) next = record { callback = refl; gained = refl; lost = refl }
act_keeps draining s (action.ReadValue n c) next = tt
act_keeps draining s (action.ReadFile n d) next = tt
act_keeps draining s (action.WriteValue c x) next = tt

test_keeps : (s : Standing) (granted refused : ℕ) (o : Option Bool) →
    KeepsIn s (option_map (λ (b : Bool). record s { point = if b then granted else refused }) o)
test_keeps s granted refused None = tt
test_keeps s granted refused (Some b) = record { callback = refl; gained = refl; lost = refl }

within_keeps : (s : Standing) (body : ℕ) (o : Option (List Turn)) →
    KeepsIn s (option_map (λ (turns : List Turn). record s { point = body; turns = turns }) o)
within_keeps s body None = tt
within_keeps s body (Some turns) = record { callback = refl; gained = refl; lost = refl }

turn_keeps : (left body behind : ℕ) (s : Standing) → KeepsIn s (turned_with left body behind s)
turn_keeps zero body behind s = record { callback = refl; gained = refl; lost = refl }
turn_keeps (suc left) body behind s =
    within_keeps s body (with_turn (record { point = s.point; left = left }) (turns_round s.point s.turns))

stepped_keeps : (draining : Bool) (i : Instruction) (s : Standing) → KeepsIn s (stepped draining i s)
stepped_keeps draining (instruction.Act a next) s = act_keeps draining s a next
stepped_keeps draining (instruction.Test t granted refused) s = test_keeps s granted refused (holds_test draining (activation_with s []) t)
stepped_keeps draining (instruction.Repeat text body behind) s = turn_keeps (left_at s.point text s.turns) body behind s
stepped_keeps draining (instruction.Call call granted refused) s = tt
stepped_keeps draining (instruction.Return status) s = tt
stepped_keeps draining instruction.End s = tt

-- ---- after some steps

-- so many local steps lead from each activation that the frame stands for to one that this standing stands for
pub record IsOnWay (cs : List Callback) (frame : Frame) (steps : ℕ) (after : Standing) : Type 0 where
  pub gained : after.gained ≡ frame.standing.gained
  pub lost : after.lost ≡ frame.standing.lost
  pub led : (act : Activation) → StandsFor cs frame.standing act →
      (last : Activation) × ((locally frame.draining steps act ≡ Some last) × StandsFor cs after last)

-- before the first step
pub begins : (cs : List Callback) (frame : Frame) → IsOnWay cs frame 0 frame.standing
begins cs frame = record { gained = refl; lost = refl; led = λ act h. (act, (refl, h)) }

module _ (laws : Laws) (f : Filter) (g : Graph) (loaded : IsLoaded f g) (frame : Frame) (steps : ℕ) (after : Standing)
    (way : IsOnWay f.callbacks frame steps after) where
  -- one step more
  pub goes_further : (further : Standing) → stepped frame.draining (instruction_at g after.callback after.point) after ≡ Some further →
      IsOnWay f.callbacks frame (steps + 1) further
  goes_further further is = record {
    gained = kept.gained ∙ way.gained;
    lost = kept.lost ∙ way.lost;
    led = λ act h. on act (way.led act h);
  }
    where
      kept : Keeps after further
      kept = subst (KeepsIn after) is (stepped_keeps frame.draining (instruction_at g after.callback after.point) after)

      on : (act : Activation) → ((last : Activation)
          × ((locally frame.draining steps act ≡ Some last) × StandsFor f.callbacks after last)) →
          ((last : Activation) × ((locally frame.draining (steps + 1) act ≡ Some last) × StandsFor f.callbacks further last))
      on act led =
          let last : Activation = led.0 in
          let stands : StandsFor f.callbacks after last = led.1.1 in
          let body : List Statement = body_at f.callbacks after.callback in
          let follows : Follows body (local_step frame.draining (activation_with after last.rest) last.rest) (Some further) =
          subst (Follows body (local_step frame.draining (activation_with after last.rest) last.rest)) is
          (step_follows laws f g loaded after frame.draining last.rest stands.stands) in
          let step : local_step frame.draining last last.rest ≡ Some (activation_with further follows.0) =
          subst (λ (x : Activation). local_step frame.draining x last.rest ≡ Some (activation_with further follows.0))
          (sym stands.same) follows.1.0 in
          let more : locally frame.draining (suc steps) act ≡ Some (activation_with further follows.0) =
          locally_more frame.draining steps act last (activation_with further follows.0) led.1.0 step in (
            activation_with further follows.0,
            (
              ap (λ (n : ℕ). locally frame.draining n act) (add-one steps) ∙ more,
              record {
                same = refl;
                stands = subst (λ (n : ℕ). StandsWith (body_at f.callbacks n) further.point further.turns follows.0) (sym kept.callback)
                    follows.1.1;
              },
            ),
          )

  -- the next step isn't local
  pub ends : stepped frame.draining (instruction_at g after.callback after.point) after ≡ None →
      IsAdvanceOn f.callbacks (record { frame = frame; after = after; steps = steps })
  ends is = record {
    gained = way.gained;
    lost = way.lost;
    leads = λ act h. at act (way.led act h);
  }
    where
      at : (act : Activation) → ((last : Activation)
          × ((locally frame.draining steps act ≡ Some last) × StandsFor f.callbacks after last)) →
          IsFrom f.callbacks (record { frame = frame; after = after; steps = steps }) act
      at act led =
          let last : Activation = led.0 in
          let stands : StandsFor f.callbacks after last = led.1.1 in
          let none : local_step frame.draining (activation_with after last.rest) last.rest ≡ None =
          subst (Follows (body_at f.callbacks after.callback) (local_step frame.draining (activation_with after last.rest) last.rest)) is
          (step_follows laws f g loaded after frame.draining last.rest stands.stands) in
          record {
            last = last;
            leads = record {
              steps_are = led.1.0;
              seen = subst (λ (x : Activation). local_step frame.draining x last.rest ≡ None) (sym stands.same) none;
            };
            after = stands;
          }

  -- so many steps as no callback costs are never made
  pub runs_out : max_cost ≤ steps → IsAdvanceOn f.callbacks (record { frame = frame; after = after; steps = steps })
  runs_out most = record {
    gained = way.gained;
    lost = way.lost;
    leads = λ act h. absurd (never act h (way.led act h));
  }
    where
      small_at : (cs : List Callback) (k : ℕ) (c : Callback) → list_all is_small cs ≡ true → slice_get cs k ≡ Some c → is_small c ≡ true
      small_at [] k c small there = absurd (none-some c there)
      small_at (x ∷ cs) zero c small there =
          subst (λ (y : Callback). is_small y ≡ true) (same_Some x c there) (and_parts (is_small x) (list_all is_small cs) small).0
      small_at (x ∷ cs) (suc k) c small there = small_at cs k c (and_parts (is_small x) (list_all is_small cs) small).1 there

      few : (o : Option Callback) → slice_get f.callbacks frame.standing.callback ≡ o → cost (body_of o) + 1 ≤ max_cost
      few None none = omega arith
      few (Some c) there =
          let small : is_small c ≡ true = small_at f.callbacks frame.standing.callback c loaded.well_formed.small there in
          leb-true _ _ (and_parts (nat_le (points c.body + 1) max_points) (nat_le (cost c.body + 1) max_cost) small).1

      never : (act : Activation) → StandsFor f.callbacks frame.standing act →
          ((last : Activation) × ((locally frame.draining steps act ≡ Some last) × StandsFor f.callbacks after last)) → ⊥
      never act h led =
          let fall : cost led.0.rest + steps ≤ cost act.rest = costs_fall frame.draining steps act led.0 led.1.0 in
          let whole : cost act.rest ≤ cost (body_at f.callbacks frame.standing.callback) =
          laws.cost (body_at f.callbacks frame.standing.callback) frame.standing.point frame.standing.turns act.rest h.stands in
          let less : cost (body_at f.callbacks frame.standing.callback) + 1 ≤ max_cost =
          few (slice_get f.callbacks frame.standing.callback) refl in
          omega arith

-- ---- answers

-- a step that was made in place leads to what now stands there
pub made : (o : Option Standing) (s t : Standing) → is_some o ≡ true → t ≡ unwrap_or o s → o ≡ Some t
made None s t some is = absurd (cc)
made (Some u) s t some is = ap Some (sym is)

-- where none was made, all stands as it did
pub unmade : (o : Option Standing) (s t : Standing) → is_some o ≡ false → t ≡ unwrap_or o s → (o ≡ None) × (t ≡ s)
unmade None s t none is = (refl, is)
unmade (Some u) s t none is = absurd (cc)

-- where the frame's filter isn't there, nothing remains of what the frame stands for
pub stays : (p : List Filter) (gs : List Graph) (frame : Frame) → AreGraphsOfFilters p gs → slice_get gs frame.filter ≡ None →
    IsAdvance p (record { frame = frame; after = frame.standing; steps = 0 })
stays p gs frame made none = record {
  gained = refl;
  lost = refl;
  leads = λ act h. record {
    last = act;
    leads = record {
      steps_are = refl;
      seen = ap (λ (l : List Statement). local_step frame.draining act l) (nothing act h);
    };
    after = h;
  };
}
  where
    nothing : (act : Activation) → StandsFor (callbacks_at p frame.filter) frame.standing act → act.rest ≡ []
    nothing act h =
        nothing_stands (subst (λ (f : Filter). Stands (body_at f.callbacks frame.standing.callback) frame.standing.point act.rest)
        (none_at p gs frame.filter made none) h.stands.stands)
