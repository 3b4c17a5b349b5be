-- Local steps change their activation alone, and a board whose frame was advanced stands where they lead.
use Rattle.std.proofs.Common.{◌≡◌, ◌≢◌, ℕ, zero, suc, ◌<◌, ◌≤◌, Bool, false, List, [], ◌∷◌, ◌++◌, Option, Some, None, length, replicate}
use Rattle.std.proofs.Common.{option_map, option_and_then, if◌then◌else◌, ap, sym, subst, refl, ◌∙◌, inl, inr, arith}
use Rattle.std.proofs.Math.ListN.{set, get_or}
use Rattle.std.proofs.lemmas.Bool.{cases_eq, cases_lt}
use Rattle.std.proofs.lemmas.List.{append-nil, get_or-set_same, get_or-set_other, set-get_or, length-set, get_or_past}
use Rattle.flt_tree.specs.Variable.{operation_place}
use Rattle.flt_tree.specs.declared.filter.Action.{Action}
use Rattle.flt_tree.specs.declared.filter.Action.TheVariants as action
use Rattle.flt_tree.specs.declared.filter.Filter.{Filter}
use Rattle.flt_tree.specs.declared.filter.Statement.{Statement, out-Statement}
use Rattle.flt_tree.specs.declared.filter.Statement.TheOpen.{Statement-F}
use Rattle.flt_tree.specs.declared.variable.OperationVariable.TheVariants.{Removed, Data}
use Rattle.flt_tree.specs.declared.variable.RemovedVariable.{RemovedVariable}
use Rattle.flt_tree.specs.declared.variable.RemovedVariable.TheVariants.{O0, O1, O2, O3}
use Rattle.flt_model.specs.declared.event.Event.{Event}
use Rattle.flt_model.specs.Effects.{Step}
use Rattle.flt_model.specs.LocalSteps.{after_action, goes_on_to, holds_condition, after_statement, local_step}
use Rattle.flt_model.specs.Program.{callbacks_at}
use Rattle.flt_model.specs.Runs.{Moment, after, next, run_from}
use Rattle.flt_model.specs.Steps.{Local, moved_on}
use Rattle.flt_model.specs.Variables.{operation_in}
use Rattle.flt_model.specs.World.{Activation, nobody, activation_at, actor_at}
use Rattle.flt_machine_frames.specs.declared.standing.Standing.{Standing}
use Rattle.flt_machine_frames.specs.declared.frame.Advanced.{Advanced}
use Rattle.flt_machine_frames.specs.Leads.{locally, Leads, IsFrom, IsAdvance}
use Rattle.flt_machine_calls.specs.Plans.{given_of}
use Rattle.flt_machine_frames.specs.Standings.{activation_with}
use Rattle.flt_machine.specs.Calls.{IsFresh, local_steps}
use Rattle.flt_machine.specs.Situations.{Situation, standing_of, IsKept, KeptFor, IsAt}

-- ---- one local step

-- whether it has ended, the visit that it was given, and its locks
pub record Stays (act later : Activation) : Type 0 where
  pub ended : later.ended ≡ act.ended
  pub given : operation_in later Data ≡ operation_in act Data
  pub locks : later.locks ≡ act.locks

apart : (o : RemovedVariable) → operation_place Data ≢ operation_place (Removed o)
apart O0 = λ e. absurd (omega (arith, e))
apart O1 = λ e. absurd (omega (arith, e))
apart O2 = λ e. absurd (omega (arith, e))
apart O3 = λ e. absurd (omega (arith, e))

stays : (act : Activation) → Stays act act
stays act = record { ended = refl; given = refl; locks = refl }

abbrev StaysIn : Activation → Option Activation → Type 0
StaysIn act None = Unit {0}
StaysIn act (Some b) = Stays act b

action_stays : (act : Activation) (rest : List Statement) (x : Action) → StaysIn act (option_map (goes_on_to rest) (after_action act x))
action_stays act rest (action.SetNumber n e) = record { ended = refl; given = refl; locks = refl }
action_stays act rest (action.ClearContext c) = record { ended = refl; given = refl; locks = refl }
action_stays act rest (action.ClearOperation o) = record {
  ended = refl;
  given = get_or-set_other act.operations (operation_place (Removed o)) (operation_place Data) None None (apart o);
  locks = refl;
}
action_stays act rest (action.ReadValue n c) = tt
action_stays act rest (action.ReadFile n d) = tt
action_stays act rest (action.WriteValue c x) = tt

branch_stays : (act : Activation) (granted refused rest : List Statement) (o : Option Bool) →
    StaysIn act (option_map (λ b. goes_on_to ((if b then granted else refused) ++ rest) act) o)
branch_stays act granted refused rest None = tt
branch_stays act granted refused rest (Some b) = record { ended = refl; given = refl; locks = refl }

layer_stays : (draining : Bool) (act : Activation) (rest : List Statement) (layer : Statement-F Statement) →
    StaysIn act (after_statement draining act rest layer)
layer_stays draining act rest (Statement-F.Act span x) = action_stays act rest x
layer_stays draining act rest (Statement-F.Call span c) = tt
layer_stays draining act rest (Statement-F.Return span st) = tt
layer_stays draining act rest (Statement-F.If span asked granted refused) =
    branch_stays act granted refused rest (holds_condition draining act asked)
layer_stays draining act rest (Statement-F.Repeat span turns block) = record { ended = refl; given = refl; locks = refl }

step_stays : (draining : Bool) (act : Activation) (list : List Statement) → StaysIn act (local_step draining act list)
step_stays draining act [] = tt
step_stays draining act (s ∷ rest) = layer_stays draining act rest (out-Statement s)

-- ---- many of them

-- a moment at which an activation is this
abbrev pub moved : Moment → ℕ → Activation → Moment
moved m a act = record m { world = record m.world { activations = set m.world.activations a act } }

pub there : (acts : List Activation) (a : ℕ) → (get_or acts a nobody).ended ≡ false → a < length acts
there acts a e =
    elim (cases_lt a (length acts)) [
      | inl h ↦ h
      | inr h ↦ absurd (let past : get_or acts a nobody ≡ nobody = get_or_past acts a nobody h in
          let same = ap (λ (n : Activation). n.ended) past in cc)
    ]

-- what is set twice is set as it was the second time
pub set_twice : {A : Type 0} (xs : List A) (i : ℕ) (x y : A) → set (set xs i x) i y ≡ set xs i y
set_twice [] i x y = refl
set_twice (z ∷ xs) zero x y = refl
set_twice (z ∷ xs) (suc i) x y = ap (λ l. z ∷ l) (set_twice xs i x y)

chain : (draining : Bool) (n : ℕ) (act : Activation) (last : Activation) → locally draining n act ≡ Some last → Stays act last
chain draining zero act last e = let same : act ≡ last = cc in subst (Stays act) same (stays act)
chain draining (suc n) act last e =
    by (local_step draining act act.rest) (step_stays draining act act.rest) e (λ b. chain draining n b last)
  where
    by : (o : Option Activation) → StaysIn act o → option_and_then (locally draining n) o ≡ Some last →
        ((b : Activation) → locally draining n b ≡ Some last → Stays b last) → Stays act last
    by None s e more = absurd (cc)
    by (Some b) s e more = let r = more b e in record { ended = r.ended ∙ s.ended; given = r.given ∙ s.given; locks = r.locks ∙ s.locks }

pub locals_run : (p : List Filter) (a n : ℕ) (m : Moment) (last : Activation) → (activation_at m.world a).ended ≡ false →
    locally (actor_at m.world a).draining n (activation_at m.world a) ≡ Some last →
    run_from p m (replicate n (Local a)) ≡ Some (moved m a last)
locals_run p a zero m last goes e =
    let same : activation_at m.world a ≡ last = cc in
    let is : set m.world.activations a last ≡ m.world.activations =
    ap (λ (x : Activation). set m.world.activations a x) (sym same) ∙ set-get_or m.world.activations a nobody in
    ap (λ (acts : List Activation). Some (record m { world = record m.world { activations = acts } })) (sym is)
locals_run p a (suc n) m last goes e =
    by (local_step (actor_at m.world a).draining (activation_at m.world a) (activation_at m.world a).rest) refl
    (step_stays (actor_at m.world a).draining (activation_at m.world a) (activation_at m.world a).rest) e
    (λ b going lead. locals_run p a n (moved m a b) last going lead)
  where
    within : a < length m.world.activations
    within = there m.world.activations a goes

    made : (b : Activation) → local_step (actor_at m.world a).draining (activation_at m.world a) (activation_at m.world a).rest ≡ Some b →
        next p m (Local a) ≡ Some (moved_on p m.trace m.world a b)
    made b is = rw (goes, is) refl

    by : (o : Option Activation) → local_step (actor_at m.world a).draining (activation_at m.world a) (activation_at m.world a).rest ≡ o →
        StaysIn (activation_at m.world a) o → option_and_then (locally (actor_at m.world a).draining n) o ≡ Some last →
        ((b : Activation) → (activation_at (moved m a b).world a).ended ≡ false →
        locally (actor_at m.world a).draining n (activation_at (moved m a b).world a) ≡ Some last →
        run_from p (moved m a b) (replicate n (Local a)) ≡ Some (moved (moved m a b) a last)) →
        run_from p m (replicate (suc n) (Local a)) ≡ Some (moved m a last)
    by None is s e more = absurd (cc)
    by (Some b) is s e more =
        let here : get_or (set m.world.activations a b) a nobody ≡ b = get_or-set_same m.world.activations a b nobody within in
        let rest : run_from p (moved m a b) (replicate n (Local a)) ≡ Some (moved (moved m a b) a last) =
        more b (ap (λ (x : Activation). x.ended) here ∙ s.ended ∙ goes) (ap (locally (actor_at m.world a).draining n) here ∙ e) in
        let twice : set (set m.world.activations a b) a last ≡ set m.world.activations a last = set_twice m.world.activations a b last in
        ap (λ (o : Option Step). option_and_then (λ s. run_from p (after m s) (replicate n (Local a))) o) (made b is) ∙
        ap (λ (t : List Event). run_from p (record (moved m a b) { trace = t }) (replicate n (Local a))) (append-nil m.trace) ∙ rest ∙
        ap (λ (acts : List Activation). Some (record m { world = record m.world { activations = acts } })) twice

-- ---- the board

-- the board after an advance: the activation is further, and nothing else has changed
abbrev pub furthered : Situation → ℕ → Option Standing → Situation
furthered b a s = record b { standings = set b.standings a s }

-- where the local steps of a fresh advance lead: the activation holds the same locks as before
pub record IsReached (p : List Filter) (b : Situation) (advanced : Advanced) (m : Moment) : Type 0 where
  pub last : Activation
  pub reached : run_from p m (local_steps advanced) ≡ Some (moved m advanced.frame.activation last)
  pub within : advanced.frame.activation < length m.world.activations
  pub seen : local_step (actor_at m.world advanced.frame.activation).draining last last.rest ≡ None
  pub locks : last.locks ≡ (activation_at m.world advanced.frame.activation).locks
  pub at : IsAt p (furthered b advanced.frame.activation (Some advanced.after)) (moved m advanced.frame.activation last)

-- the standing that a board keeps of an activation says what remains of it and what it holds
pub kept_there : (p : List Filter) (b : Situation) (m : Moment) (a : ℕ) (s : Standing) → IsAt p b m → standing_of b a ≡ Some s →
    IsKept (callbacks_at p (actor_at m.world a).filter) m.trace a (activation_at m.world a) s
kept_there p b m a s at is = subst (KeptFor (callbacks_at p (actor_at m.world a).filter) m.trace a (activation_at m.world a)) is (at.kept a)

-- the visit that a standing names as given is that of the activation for which it stands
pub given_there : (s : Standing) (act : Activation) → act ≡ activation_with s act.rest → given_of s ≡ operation_in act Data
given_there s act same = sym (ap (λ (x : Activation). operation_in x Data) same)

-- an activation for which a standing stands goes on
pub goes_there : (s : Standing) (act : Activation) → act ≡ activation_with s act.rest → act.ended ≡ false
goes_there s act same = ap (λ (x : Activation). x.ended) same

module _ (p : List Filter) (b : Situation) (m : Moment) (a : ℕ) (s : Option Standing) (act : Activation) (at : IsAt p b m)
    (within : a < length m.world.activations)
    (kept : KeptFor (callbacks_at p (actor_at m.world a).filter) m.trace a act s) where
  -- one activation and what is kept of it are changed
  pub moves : IsAt p (furthered b a s) (moved m a act)
  moves = record {
    actors = at.actors;
    count = length-set b.standings a s ∙ at.count ∙ sym (length-set m.world.activations a act);
    both = at.both ∙ sym (length-set m.world.activations a act);
    filters = at.filters;
    kept = each;
    store = at.store;
    young = λ k v past. at.young k v (subst (λ (n : ℕ). n ≤ k) (length-set m.world.activations a act) past);
  }
    where
      each : (k : ℕ) → KeptFor (callbacks_at p (actor_at m.world k).filter) m.trace k (get_or (set m.world.activations a act) k nobody)
          (get_or (set b.standings a s) k None)
      each k = elim (cases_eq k a) [
        | inl same ↦ subst (λ (j : ℕ). KeptFor (callbacks_at p (actor_at m.world j).filter) m.trace j
            (get_or (set m.world.activations a act) j nobody) (get_or (set b.standings a s) j None)) (sym same)
            (subst (λ (x : Activation). KeptFor (callbacks_at p (actor_at m.world a).filter) m.trace a x
            (get_or (set b.standings a s) a None)) (sym (get_or-set_same m.world.activations a act nobody within))
            (subst (KeptFor (callbacks_at p (actor_at m.world a).filter) m.trace a act)
            (sym (get_or-set_same b.standings a s None (subst (λ (n : ℕ). a < n) (sym at.count) within))) kept))
        | inr differs ↦
            subst (λ (x : Activation). KeptFor (callbacks_at p (actor_at m.world k).filter) m.trace k x
            (get_or (set b.standings a s) k None)) (sym (get_or-set_other m.world.activations a k act nobody differs))
            (subst (KeptFor (callbacks_at p (actor_at m.world k).filter) m.trace k (activation_at m.world k))
            (sym (get_or-set_other b.standings a k s None differs)) (at.kept k))
      ]

-- a fresh advance leads to where the board stands with the later standing in place of the earlier
pub advances : (p : List Filter) (b : Situation) (advanced : Advanced) (m : Moment) →
    IsAt p b m → IsFresh b advanced → IsAdvance p advanced → IsReached p b advanced m
advances p b advanced m at fresh advance = record {
  last = from.last;
  reached = locals_run p a advanced.steps m from.last goes leads.steps_are;
  within = within;
  seen = leads.seen;
  locks = stay.locks;
  at = moves p b m a (Some advanced.after) from.last at within kept;
}
  where
    a : ℕ
    a = advanced.frame.activation

    filter_is : (actor_at m.world advanced.frame.activation).filter ≡ advanced.frame.filter
    filter_is = rw (← at.actors) fresh.filter

    draining_is : (actor_at m.world advanced.frame.activation).draining ≡ advanced.frame.draining
    draining_is = rw (← at.actors) fresh.draining

    here : IsKept (callbacks_at p (actor_at m.world advanced.frame.activation).filter) m.trace advanced.frame.activation
        (activation_at m.world advanced.frame.activation) advanced.frame.standing
    here = kept_there p b m advanced.frame.activation advanced.frame.standing at fresh.standing

    goes : (activation_at m.world advanced.frame.activation).ended ≡ false
    goes = goes_there advanced.frame.standing (activation_at m.world advanced.frame.activation) here.stands.same

    within : advanced.frame.activation < length m.world.activations
    within = there m.world.activations advanced.frame.activation goes

    from : IsFrom (callbacks_at p (actor_at m.world advanced.frame.activation).filter) advanced
        (activation_at m.world advanced.frame.activation)
    from = rw filter_is (advance.leads (activation_at m.world advanced.frame.activation) (rw filter_is at here.stands))

    leads : Leads (actor_at m.world advanced.frame.activation).draining advanced.steps
        (activation_at m.world advanced.frame.activation) from.last
    leads = rw draining_is from.leads

    stay : Stays (activation_at m.world advanced.frame.activation) from.last
    stay = chain (actor_at m.world advanced.frame.activation).draining advanced.steps
        (activation_at m.world advanced.frame.activation) from.last leads.steps_are

    kept : KeptFor (callbacks_at p (actor_at m.world advanced.frame.activation).filter) m.trace advanced.frame.activation
        from.last (Some advanced.after)
    kept =
        let same : given_of advanced.after ≡ given_of advanced.frame.standing = given_there advanced.after from.last from.after.same ∙
        stay.given ∙ sym (given_there advanced.frame.standing (activation_at m.world advanced.frame.activation) here.stands.same) in
        record {
          stands = from.after;
          counted = record {
            gained = λ v is. advance.gained ∙ here.counted.gained v (sym same ∙ is);
            lost = λ v is. advance.lost ∙ here.counted.lost v (sym same ∙ is);
          };
        }
