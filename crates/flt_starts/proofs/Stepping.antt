-- Each step of an activation, local or not, keeps a world as it has to stay.
use Rattle.std.proofs.Common.{◌≡◌, ℕ, Bool, true, false, List, [], ◌∷◌, ◌++◌, Option, Some, None, IfSome, subst}
use Rattle.std.specs.Prelude.{◌&&◌, if◌then◌else◌, option_map}
use Rattle.flt_tree.specs.declared.filter.Action.{Action}
use Rattle.flt_tree.specs.declared.filter.Action.TheVariants as action
use Rattle.flt_tree.specs.declared.filter.Condition.{Condition}
use Rattle.flt_tree.specs.declared.filter.Condition.TheVariants as condition
use Rattle.flt_tree.specs.declared.filter.Statement.{Statement, out-Statement}
use Rattle.flt_tree.specs.declared.filter.Statement.TheFolds.{map-Statement}
use Rattle.flt_tree.specs.declared.filter.Statement.TheOpen.{Statement-F}
use Rattle.flt_tree.specs.declared.filter.Test.{Test}
use Rattle.flt_tree.specs.declared.filter.Test.TheVariants as test
use Rattle.flt_tree.specs.declared.variable.OperationVariable.TheVariants.{Data}
use Rattle.flt_model.specs.declared.event.Event.{Event}
use Rattle.flt_model.specs.Effects.{Step}
use Rattle.flt_model.specs.LocalSteps.{after_action, holds_condition, after_statement, local_step, goes_on_to}
use Rattle.flt_model.specs.Reads.{read_value, write_value, read_file, test_irp}
use Rattle.flt_model.specs.Returns.{returns}
use Rattle.flt_model.specs.Steps.{may_go, act_step, plain_step, fallible_step, test_step, if_step}
use Rattle.flt_model.specs.Steps.{statement_step, list_step, board, moved_on, local}
use Rattle.flt_model.specs.Variables.{context_in, operation_in}
use Rattle.flt_model.specs.World.{World, Activation, Actor, activation_at, actor_at}
use Rattle.flt_starts.specs.Closed.{condition_within, step_within, statement_within, body_within}
use Rattle.flt_starts.proofs.Bodies.{first_within, rest_within, append_within, layer_within, choice_within, turns_within}
use Rattle.flt_starts.proofs.Kept.{Setting, callbacks, Runs, Kept}
use Rattle.flt_starts.proofs.Leaving.{Left, goes, on, removed_on, plain_to, value_read, value_written}
use Rattle.flt_starts.proofs.Leaving.{file_read, irp_tested, fallible_to, returns_to}
use Rattle.flt_starts.proofs.Stores.{end_within, still}

module _ (q : Setting) (w : World) (k : Kept q w) (a : ℕ) where
  abbrev now : Activation
  now = activation_at w a

  abbrev actor : Actor
  actor = actor_at w a

  abbrev Remaining : List Statement → Type 0
  Remaining = Left q w k a

  abbrev Stays : Step → Type 0
  Stays s = Kept q s.world

  some_stays : (r s : Step) → Stays r → Some r ≡ Some s → Stays s
  some_stays r s h e = let same : r ≡ s = cc in subst Stays same h

  when_stays : (b : Bool) (o : Option Step) (s : Step) → (o ≡ Some s → Stays s) → (if b then o else None) ≡ Some s → Stays s
  when_stays true o s h e = h e
  when_stays false o s h e = absurd (cc)

  -- what a statement asks for may start, where the activation is the filter's
  abbrev Asks : Statement-F Statement → Type 0
  Asks layer =
      actor.filter ≡ q.own →
      step_within (callbacks q) q.may_start actor.place
      (map-Statement Statement Bool (statement_within (callbacks q) q.may_start actor.place) layer) ≡ true

  appended : (xs rest : List Statement) → Remaining xs → Remaining rest → Remaining (xs ++ rest)
  appended xs rest h r = λ own. append_within (callbacks q) q.may_start actor.place xs rest (h own) (r own)

  module _ (asked : Condition) (granted refused : List Statement)
      (l : actor.filter ≡ q.own → (condition_within (callbacks q) q.may_start asked &&
      (body_within (callbacks q) q.may_start actor.place granted && body_within (callbacks q) q.may_start actor.place refused)) ≡
      true) where
    choice : actor.filter ≡ q.own → (condition_within (callbacks q) q.may_start asked ≡ true) ×
        (body_within (callbacks q) q.may_start actor.place granted ≡ true) ×
        (body_within (callbacks q) q.may_start actor.place refused ≡ true)
    choice own =
        choice_within (callbacks q) q.may_start actor.place (condition_within (callbacks q) q.may_start asked)
        (body_within (callbacks q) q.may_start actor.place granted) (body_within (callbacks q) q.may_start actor.place refused) (l own)

    condition_asks : actor.filter ≡ q.own → condition_within (callbacks q) q.may_start asked ≡ true
    condition_asks own = (choice own).0

    granted_asks : Remaining granted
    granted_asks own = (choice own).1

    refused_asks : Remaining refused
    refused_asks own = (choice own).2

  -- ---- steps that others see

  module _ (t : List Event) where
    act_stays : (rest : List Statement) (x : Action) (s : Step) → Remaining rest → act_step q.filters t w a rest x ≡ Some s → Stays s
    act_stays rest (action.ReadValue n c) s h e =
        some_stays (read_value w a n c rest) s (value_read q w k a rest h n (context_in now c)) e
    act_stays rest (action.ReadFile n d) s h e =
        some_stays (read_file w a n d rest) s (file_read q w k a rest h n (operation_in now d)) e
    act_stays rest (action.WriteValue c x) s h e =
        some_stays (write_value w a c x rest) s (value_written q w k a rest h x (context_in now c)) e
    act_stays rest (action.SetNumber n x) s h e = absurd (cc)
    act_stays rest (action.ClearContext c) s h e = absurd (cc)
    act_stays rest (action.ClearOperation o) s h e = absurd (cc)

    module _ (granted refused : List Statement) (g : Remaining granted) (r : Remaining refused) where
      test_stays : (x : Test) (s : Step) → test_step q.filters t w a granted refused x ≡ Some s → Stays s
      test_stays test.IsIrp s e =
          some_stays (test_irp w a granted refused) s (irp_tested q w k a granted refused g r (operation_in now Data)) e
      test_stays (test.ContextIsSome c) s e = absurd (cc)
      test_stays (test.OperationIsSome o) s e = absurd (cc)
      test_stays (test.Equal m x) s e = absurd (cc)
      test_stays (test.Less m x) s e = absurd (cc)
      test_stays test.IsDraining s e = absurd (cc)

      if_stays : (grant : Bool) (asked : Condition) (s : Step) →
          (actor.filter ≡ q.own → condition_within (callbacks q) q.may_start asked ≡ true) →
          if_step q.filters t w a grant granted refused asked ≡ Some s → Stays s
      if_stays grant (condition.Test x) s m e = test_stays x s e
      if_stays grant (condition.Succeeds c) s m e =
          some_stays (fallible_step q.filters t w a grant granted refused c) s (fallible_to q w k a granted refused g r t grant c m) e

    statement_stays : (rest : List Statement) (grant : Bool) (layer : Statement-F Statement) (s : Step) → Asks layer → Remaining rest →
        statement_step q.filters t w a rest grant layer ≡ Some s → Stays s
    statement_stays rest grant (Statement-F.Act span x) s l h e = act_stays rest x s h e
    statement_stays rest grant (Statement-F.Call span c) s l h e =
        some_stays (plain_step q.filters t w a rest c) s (plain_to q w k a rest h t c l) e
    statement_stays rest grant (Statement-F.Return span st) s l h e =
        some_stays (returns q.filters t w a st) s (returns_to q w k a t st l) e
    statement_stays rest grant (Statement-F.If span asked granted refused) s l h e =
        if_stays (granted ++ rest) (refused ++ rest) (appended granted rest (granted_asks asked granted refused l) h)
        (appended refused rest (refused_asks asked granted refused l) h) grant asked s (condition_asks asked granted refused l) e
    statement_stays rest grant (Statement-F.Repeat span turns block) s l h e = absurd (cc)

    list_stays : (list : List Statement) (grant : Bool) (s : Step) →
        Remaining list → list_step q.filters t w a list grant ≡ Some s → Stays s
    list_stays [] grant s h e =
        when_stays grant (Some (returns q.filters t w a None)) s
        (λ is.
        some_stays (returns q.filters t w a None) s
        (returns_to q w k a t None (λ own. end_within (callbacks q) q.may_start actor.place)) is) e
    list_stays (x ∷ rest) grant s h e =
        when_stays (may_go w a grant (out-Statement x)) (statement_step q.filters t w a rest grant (out-Statement x)) s
        (λ is.
        statement_stays rest grant (out-Statement x) s
        (λ own.
        layer_within (callbacks q) q.may_start actor.place x (first_within (callbacks q) q.may_start actor.place x rest (h own)))
        (λ own. rest_within (callbacks q) q.may_start actor.place x rest (h own)) is) e

    goes_on : (b : Bool) (o : Option Step) (s : Step) → (o ≡ Some s → Stays s) → (if b then None else o) ≡ Some s → Stays s
    goes_on true o s h e = absurd (cc)
    goes_on false o s h e = h e

    -- a step that others see
    pub board_stays : (grant : Bool) (s : Step) → board q.filters t w a grant ≡ Some s → Stays s
    board_stays grant s e =
        goes_on now.ended (list_step q.filters t w a now.rest grant) s (λ is. list_stays now.rest grant s (k.runs a).within is) e

    -- ---- local steps

    abbrev Going : Option Activation → Type 0
    Going o = IfSome o (Runs q w.store.arrivals w.store.visits actor)

    after_act : (rest : List Statement) (x : Action) → Remaining rest → Going (option_map (goes_on_to rest) (after_action now x))
    after_act rest (action.SetNumber n x) h = on q w k a rest h
    after_act rest (action.ClearContext c) h = on q w k a rest h
    after_act rest (action.ClearOperation o) h = removed_on q w k a o None rest h tt
    after_act rest (action.ReadValue n c) h = tt
    after_act rest (action.ReadFile n d) h = tt
    after_act rest (action.WriteValue c x) h = tt

    after_choice : (o : Option Bool) (granted refused rest : List Statement) → Remaining granted → Remaining refused → Remaining rest →
        Going (option_map (λ (b : Bool). goes_on_to ((if b then granted else refused) ++ rest) now) o)
    after_choice None granted refused rest g r h = tt
    after_choice (Some true) granted refused rest g r h = on q w k a (granted ++ rest) (appended granted rest g h)
    after_choice (Some false) granted refused rest g r h = on q w k a (refused ++ rest) (appended refused rest r h)

    after_layer : (rest : List Statement) (layer : Statement-F Statement) → Asks layer → Remaining rest →
        Going (after_statement actor.draining now rest layer)
    after_layer rest (Statement-F.Act span x) l h = after_act rest x h
    after_layer rest (Statement-F.Call span c) l h = tt
    after_layer rest (Statement-F.Return span st) l h = tt
    after_layer rest (Statement-F.If span asked granted refused) l h =
        after_choice (holds_condition actor.draining now asked) granted refused rest (granted_asks asked granted refused l)
        (refused_asks asked granted refused l) h
    after_layer rest (Statement-F.Repeat span turns block) l h =
        on q w k a _ (λ own. turns_within (callbacks q) q.may_start actor.place span turns block rest (l own) (h own))

    after_first : (list : List Statement) → Remaining list → Going (local_step actor.draining now list)
    after_first [] h = tt
    after_first (x ∷ rest) h =
        after_layer rest (out-Statement x)
        (λ own.
        layer_within (callbacks q) q.may_start actor.place x (first_within (callbacks q) q.may_start actor.place x rest (h own)))
        (λ own. rest_within (callbacks q) q.may_start actor.place x rest (h own))

    moved_stays : (o : Option Activation) (s : Step) → Going o → option_map (moved_on q.filters t w a) o ≡ Some s → Stays s
    moved_stays None s h e = absurd (cc)
    moved_stays (Some act) s h e =
        some_stays (moved_on q.filters t w a act) s (goes q w k a act w.store (still q w.store k.store) h) e

    -- a local step
    pub local_stays : (s : Step) → local q.filters t w a ≡ Some s → Stays s
    local_stays s e =
        let o = local_step actor.draining now now.rest in
        goes_on now.ended (option_map (moved_on q.filters t w a) o) s
        (λ is. moved_stays o s (after_first now.rest (k.runs a).within) is) e
