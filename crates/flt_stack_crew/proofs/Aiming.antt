-- A script detaches filters of its stack alone.
use Rattle.std.proofs.Common.{◌≡◌, ℕ, Bool, true, false, ◌==◌, ◌&&◌, ◌||◌, if◌then◌else◌, nat_lt}
use Rattle.std.proofs.Common.{List, [], ◌∷◌, ◌++◌, Some, All, refl, subst, sym, ◌∙◌, ap}
use Rattle.std.specs.Bool.{IsTrue}
use Rattle.std.specs.List.{list_any}
use Rattle.std.proofs.lemmas.Bool.{and_parts}
use Rattle.std.proofs.lemmas.List.Elements.{All-cons, All-nil}
use Rattle.flt_stack_core.specs.Refusals.{has_altitude}
use Rattle.flt_stack_crew.specs.Giving.{IsAimed}
use Rattle.flt_stack_prepare.specs.Preparing.{IsPrepared}
use Rattle.flt_model.specs.Program.{by_altitude, put_by_altitude}
use Rattle.flt_model.specs.Streams.{Text}
use Rattle.flt_stack_script.specs.ScriptText.{Commands, are_commands, is_command, is_loaded, may_follow}
use Rattle.flt_stack_script.specs.declared.command.Command.{Command}
use Rattle.flt_stack_script.specs.declared.command.Command.TheVariants.{Arrive, Cancel, Detach, Refuse}
use Rattle.flt_tree.specs.declared.filter.Filter.{Filter}

-- which of two comes first doesn't matter
swap : (x y z : Bool) → (x || (y || z)) ≡ true → (y || (x || z)) ≡ true
swap true true z e = refl
swap true false z e = refl
swap false true z e = refl
swap false false z e = e

-- what is true of the rest is true behind one more
further : (x y z : Bool) → (y ≡ true → z ≡ true) → (x || y) ≡ true → (x || z) ≡ true
further true y z h e = refl
further false y z h e = h e

-- a filter that is put by its altitude is there
put_has : (f : Filter) (filters : List Filter) (altitude : ℕ) → has_altitude (f ∷ filters) altitude ≡ true →
    has_altitude (put_by_altitude f filters) altitude ≡ true
put_has f [] altitude e = e
put_has f (g ∷ filters) altitude e = by (nat_lt g.altitude f.altitude) (put_has f filters altitude)
  where
    by : (b : Bool) → (has_altitude (f ∷ filters) altitude ≡ true → has_altitude (put_by_altitude f filters) altitude ≡ true) →
        has_altitude (if b then f ∷ g ∷ filters else g ∷ put_by_altitude f filters) altitude ≡ true
    by true put = e
    by false put =
        further (g.altitude == altitude) (has_altitude (f ∷ filters) altitude) (has_altitude (put_by_altitude f filters) altitude)
        put (swap (f.altitude == altitude) (g.altitude == altitude) (has_altitude filters altitude) e)

-- an altitude that is loaded is one of the filters by altitude
loaded_has : (filters : List Filter) (altitude : ℕ) →
    is_loaded (Some filters) altitude ≡ true → has_altitude (by_altitude filters) altitude ≡ true
loaded_has [] altitude e = e
loaded_has (f ∷ filters) altitude e =
    put_has f (by_altitude filters) altitude
    (further (f.altitude == altitude) (is_loaded (Some filters) altitude) (has_altitude (by_altitude filters) altitude)
    (loaded_has filters altitude) e)

-- a command that may follow others is aimed at a filter of the stack
aimed : (filters : List Filter) (before : Commands) (command : Command) → may_follow (Some filters) before command ≡ true →
    IsAimed (by_altitude filters) command
aimed filters before (Arrive operation mode file) e = tt
aimed filters before (Cancel serial) e = tt
aimed filters before (Detach altitude) e =
    loaded_has filters altitude (and_parts (is_loaded (Some filters) altitude) _ (and_parts (is_command (Detach altitude)) _ e).1).0
aimed filters before (Refuse choice) e = tt

-- so is each of a script
each_aimed : (filters : List Filter) (before commands : Commands) → are_commands (Some filters) before commands ≡ true →
    All (IsAimed (by_altitude filters)) commands
each_aimed filters before [] e = All-nil (IsAimed (by_altitude filters))
each_aimed filters before (command ∷ more) e =
    let both = and_parts (may_follow (Some filters) before command) _ e in
    All-cons (IsAimed (by_altitude filters)) command more (aimed filters before command both.0)
    (each_aimed filters (before ++ command ∷ []) more both.1)

-- a script that was prepared is aimed at the filters that are loaded
pub prepared_aimed : (script : Text) (texts : List Text) (loaded : List Filter) (commands : Commands) →
    IsPrepared script texts loaded commands → All (IsAimed loaded) commands
prepared_aimed script texts loaded commands prepared =
    subst (λ l. All (IsAimed l) commands) (sym prepared.ordered) (each_aimed prepared.filters [] commands prepared.read.asked)
