-- Where steps lead: their worlds hang on no event, and local steps go one after another.
use Rattle.std.proofs.Common.{◌≡◌, ◌<◌, ◌+◌, ◌-◌, ◌∷◌, ℕ, suc, Bool, true, false, List, [], Option, Some}
use Rattle.std.proofs.Common.{None, Result, Ok, Err, IfOk, refl, sym, ap, subst, ◌∙◌, arith}
use Rattle.std.specs.Prelude.{if◌then◌else◌, is_some, option_and_then}
use Rattle.flt_rules.specs.Place.{answers}
use Rattle.flt_tree.specs.declared.filter.Filter.{Filter}
use Rattle.flt_tree.specs.declared.filter.Statement.{Statement, out-Statement}
use Rattle.flt_tree.specs.declared.filter.Statement.TheOpen.{Statement-F}
use Rattle.flt_tree.specs.declared.filter.Status.{Status}
use Rattle.flt_tree.specs.declared.variable.OperationVariable.TheVariants.{Data}
use Rattle.flt_model.specs.declared.event.Event.{Event}
use Rattle.flt_model.specs.Effects.{Step}
use Rattle.flt_model.specs.Returns.{returns, returned}
use Rattle.flt_model.specs.Steps.{Board, board, list_step, local, may_go, statement_step}
use Rattle.flt_model.specs.Trace.{gains, is_held, loses}
use Rattle.flt_model.specs.Variables.{operation_in}
use Rattle.flt_model.specs.World.{World, activation_at, actor_at}
use Rattle.flt_replay_steps.specs.Unseen.{unseen}
use Rattle.flt_replay_course.specs.Leading.{GoesLocally, LeadsTo, after_step, world_of}
use Rattle.flt_replay_world.specs.Happening.{ComesOf, holds_given, holds_visit}

-- ---- one step

-- what comes of a step leads to its world
pub led : (step : Option Step) (made : Bool) (w : World) (earlier events : List Event) → ComesOf step made w earlier events →
    LeadsTo (world_of step) made w
led None made w earlier events comes = rw comes refl
led (Some s) made w earlier events comes = rw (comes.0, comes.1.0) refl

-- where nothing happened yet, nothing is held
holds_none : (a : ℕ) (visit : Option ℕ) → holds_visit [] a visit ≡ false
unfolding is_held gains loses
holds_none a None = refl
holds_none a (Some v) = refl

given_none : (w : World) (a : ℕ) → false ≡ holds_given [] w a
given_none w a = sym (holds_none a (operation_in (activation_at w a) Data))

-- ---- a step that others see leads to the same world whatever happened before

module _ (p : List Filter) (t u : List Event) (w : World) (a : ℕ) where
  returned_alike : (st : Option Status) (b : Bool) (visit : Option ℕ) →
      (returned p t w a st b visit).world ≡ (returned p u w a st b visit).world
  returned_alike st true (Some v) = refl
  returned_alike st true None = refl
  returned_alike st false visit = refl

  returns_alike : (st : Option Status) → world_of (Some (returns p t w a st)) ≡ world_of (Some (returns p u w a st))
  returns_alike st = ap Some (returned_alike st (answers (actor_at w a).place) (operation_in (activation_at w a) Data))

  statement_alike : (rest : List Statement) (grant : Bool) (s : Statement-F Statement) →
      world_of (statement_step p t w a rest grant s) ≡ world_of (statement_step p u w a rest grant s)
  statement_alike rest grant (Statement-F.Act span x) = refl
  statement_alike rest grant (Statement-F.Call span c) = refl
  statement_alike rest grant (Statement-F.Return span st) = returns_alike st
  statement_alike rest grant (Statement-F.If span asked granted refused) = refl
  statement_alike rest grant (Statement-F.Repeat span turns block) = refl

  where_alike : (b : Bool) (one other : Option Step) → world_of one ≡ world_of other →
      world_of (if b then one else None) ≡ world_of (if b then other else None)
  where_alike true one other is = is
  where_alike false one other is = refl

  end_alike : (grant : Bool) →
      world_of (if grant then Some (returns p t w a None) else None) ≡ world_of (if grant then Some (returns p u w a None) else None)
  end_alike grant = where_alike grant _ _ (returns_alike None)

  list_alike : (list : List Statement) (grant : Bool) → world_of (list_step p t w a list grant) ≡ world_of (list_step p u w a list grant)
  list_alike [] grant = end_alike grant
  list_alike (s ∷ rest) grant = where_alike (may_go w a grant (out-Statement s)) _ _ (statement_alike rest grant (out-Statement s))

  unless_alike : (b : Bool) (one other : Option Step) → world_of one ≡ world_of other →
      world_of (if b then None else one) ≡ world_of (if b then None else other)
  unless_alike true one other is = refl
  unless_alike false one other is = is

  board_alike : (grant : Bool) → world_of (board p t w a grant) ≡ world_of (board p u w a grant)
  board_alike grant = unless_alike (activation_at w a).ended _ _ (list_alike (activation_at w a).rest grant)

-- what comes of a step, where nothing happened before, leads to its world whatever happened
seen : (p : List Filter) (t : List Event) (w : World) (a : ℕ) (grant made : Bool) (u : World) (earlier events : List Event) →
    ComesOf (board p [] w a grant) made u earlier events → LeadsTo (after_step p w t (Board a grant)) made u
seen p t w a grant made u earlier events comes = board_alike p t [] w a grant ∙ led (board p [] w a grant) made u earlier events comes

-- a step that others see leads where the machine's step does
pub seen_ok : {E : Type 0} (r : Result Bool E) (p : List Filter) (w : World) (a : ℕ) (grant : Bool) (u : World)
    (earlier events : List Event) →
    IfOk r (λ enabled. (t : List Event) → false ≡ holds_given t w a → ComesOf (board p t w a grant) enabled u earlier events) →
    IfOk r (λ made. (t : List Event) → LeadsTo (after_step p w t (Board a grant)) made u)
seen_ok (Ok made) p w a grant u earlier events comes = λ t. seen p t w a grant made u earlier events (comes [] (given_none w a))
seen_ok (Err e) p w a grant u earlier events comes = comes

-- ---- local steps, one after another

-- as many as were made lead from one world to the other
abbrev pub Made : ℕ → World → ℕ → World → Type 0
Made n w a v = (k : ℕ) → unseen (n + k) w a ≡ unseen k v a

then_one : (k a : ℕ) (step : Option Step) (on : Bool) (v : World) → ComesOf step on v [] [] → on ≡ true →
    option_and_then (λ s. unseen k s.world a) step ≡ unseen k v a
then_one k a None on v comes is = let no : true ≡ false = sym is ∙ comes in absurd (cc)
then_one k a (Some s) on v comes is = rw comes.1.0 refl

-- one more
pub one_more : (n : ℕ) (w v u : World) (a : ℕ) (on : Bool) →
    Made n w a v → ComesOf (local [] [] v a) on u [] [] → on ≡ true → Made (n + 1) w a u
one_more n w v u a on made comes is k =
    let next : n + 1 + k ≡ n + suc k = omega arith in
    rw next (made (suc k) ∙ then_one k a (local [] [] v a) on u comes is)

none_then : (a : ℕ) (step : Option Step) (on : Bool) (v : World) → ComesOf step on v [] [] → on ≡ false →
    option_and_then (λ s. unseen 0 s.world a) step ≡ None
none_then a None on v comes is = refl
none_then a (Some s) on v comes is = let no : true ≡ false = sym comes.0 ∙ is in absurd (cc)

-- the next one isn't enabled
pub stopped : (steps n : ℕ) (w v u : World) (a : ℕ) (on : Bool) →
    n < steps → Made n w a v → ComesOf (local [] [] v a) on u [] [] → on ≡ false →
    GoesLocally steps w a n u
stopped steps n w v u a on within made comes is =
    let same : n + 0 ≡ n = omega arith in
    record {
      within = omega arith;
      enabled = subst (λ k. is_some (unseen k w a) ≡ true) same (ap is_some (made 0));
      all = λ e. absurd (omega arith);
      stops = λ h. made 1 ∙ none_then a (local [] [] v a) on u comes is;
    }

-- all were made
pub went : (steps n : ℕ) (w v : World) (a : ℕ) → n ≡ steps → Made n w a v → GoesLocally steps w a steps v
went steps n w v a is made =
    let same : n + 0 ≡ steps = omega arith in
    let here : unseen steps w a ≡ Some v = subst (λ k. unseen k w a ≡ Some v) same (made 0) in
    record {
      within = omega arith;
      enabled = ap is_some here;
      all = λ e. here;
      stops = λ h. absurd (omega arith);
    }
