-- What the rules R07 and R08 say of the machine: a call that breaks neither is made at a level and at a place that allow it, which are
-- V6 and V8. Both hold of any call at once, so they are shown here for all rows of the table.
-- Here p is the program, m a moment, a an activation, s its shadow, f a filter, q a place in its text.
use Rattle.std.proofs.Common.{◌≡◌, ℕ, zero, suc, Bool, true, false, List, [], ◌∷◌, map, Some, ap, sym, subst, refl, ◌∙◌}
use Rattle.std.specs.Prelude.{not, ◌&&◌, ◌||◌, slice_get}
use Rattle.std.proofs.lemmas.Bool.{and_from, or_parts, not-false}
use Rattle.std.proofs.lemmas.Option.{slice_get-map}
use Rattle.flt_rules.specs.Call.{place_of, is_legal_in_draining}
use Rattle.flt_rules.specs.Columns.{has_place}
use Rattle.flt_rules.specs.Held.{level_with}
use Rattle.flt_rules.specs.Place.{entry_level, greater_level, raised_by}
use Rattle.flt_rules.specs.Table.{row}
use Rattle.flt_rules.specs.declared.call.Call.{Call}
use Rattle.flt_rules.specs.declared.held.HeldLock.{HeldLock}
use Rattle.flt_rules.specs.declared.place.Level.{Level}
use Rattle.flt_rules.specs.declared.place.Place.{Place}
use Rattle.flt_tree.specs.declared.filter.Filter.{Filter}
use Rattle.flt_tree.specs.declared.filter.Lock.{Lock}
use Rattle.flt_tree.specs.declared.filter.Statement.{Statement}
use Rattle.flt_graph.specs.Instruction.{roles}
use Rattle.flt_graph.specs.declared.instruction.Instruction.TheVariants as instruction
use Rattle.flt_graph.specs.declared.instruction.ResolvedCall.{ResolvedCall}
use Rattle.flt_abs.specs.Breaks.{breaks}
use Rattle.flt_abs.specs.Setting.{kind_at}
use Rattle.flt_abs.specs.State.{Situation, has_draining}
use Rattle.flt_model.specs.declared.event.Event.TheVariants as event
use Rattle.flt_model.specs.Levels.{level_at}
use Rattle.flt_model.specs.Program.{filter_at, callbacks_at, kind_of_lock}
use Rattle.flt_model.specs.Violations.{is_low_enough, is_in_place}
use Rattle.flt_model.specs.Runs.{Moment}
use Rattle.flt_model.specs.World.{activation_at, actor_at}
use Rattle.flt_sound.proofs.sums.Shadows.{Shadow, situation}
use Rattle.flt_sound.proofs.points.Kept.{IsAt, activation_is, stood_at}
use Rattle.flt_sound.proofs.points.Placed.{setting_here, Placed, here, fine, Fine, graph_of}

-- ---- locks, and the program's filters

-- by the graph's kinds of locks the level is as by the filter's
level_same : (f : Filter) (level : Level) (locks : List HeldLock) →
    level_with (kind_at (map (λ (l : Lock). l.kind) f.locks)) level locks ≡ level_with (kind_of_lock f) level locks
level_same f level [] = refl
level_same f level (h ∷ locks) =
    let one : kind_at (map (λ (l : Lock). l.kind) f.locks) h.lock ≡ kind_of_lock f h.lock =
    slice_get-map (λ (l : Lock). l.kind) f.locks (place_of h.lock) in
    ap (λ k. level_with (kind_at (map (λ (l : Lock). l.kind) f.locks)) (greater_level level (raised_by k)) locks) one
    ∙ level_same f (greater_level level (raised_by (kind_of_lock f h.lock))) locks

-- a filter that the program has is the one at its number
pub filter_there : (p : List Filter) (f : ℕ) (x : Filter) → slice_get p f ≡ Some x → filter_at p f ≡ x
filter_there [] f x e = absurd (cc)
filter_there (y ∷ p) zero x e = cc
filter_there (y ∷ p) (suc f) x e = filter_there p f x e

-- the callbacks of a filter that the program has are those at its number
pub callbacks_there : (p : List Filter) (f : ℕ) (x : Filter) → slice_get p f ≡ Some x → callbacks_at p f ≡ x.callbacks
callbacks_there p f x e = ap (λ (f : Filter). f.callbacks) (filter_there p f x e)

-- a callback that may be draining makes no call but those that clean up
draining_fits : (may may_not : Bool) (draining ok : Bool) → has_draining (record { yes = may; no = may_not }) draining ≡ true →
    (may && not ok) ≡ false →
    (not draining || ok) ≡ true
draining_fits may may_not false ok h e = refl
draining_fits true may_not true ok h e = not-false ok e
draining_fits false may_not true ok h e = absurd (cc)

module _ {p : List Filter} {f : ℕ} {place : Place} {rest : List Statement} {t : Situation} (q : Placed p f place rest t) where
  -- the setting's place is the activation's
  pub place_same : (setting_here q).place ≡ place
  place_same = (graph_of q).place ∙ sym q.place_is

  -- the setting's level is the machine's
  level_is : (setting_here q).level ≡ level_at (filter_at p f) place t.locks
  level_is =
      rw (place_same, q.means.locks, q.lowered.locks, filter_there p f q.filter q.there) (level_same q.filter (entry_level place) t.locks)

-- a call of the activation is neither too high nor out of place: V6 and V8 of that event
pub record Cleared (p : List Filter) (m : Moment) (a : ℕ) (k : Call) : Type 0 where
  -- V6 of the call
  pub low : is_low_enough p m.world m.trace (event.Call a k) ≡ true
  -- V8 of the call
  pub in_place : is_in_place p m.world m.trace (event.Call a k) ≡ true

module _ {p : List Filter} {m : Moment} {a : ℕ} {s : Shadow} (at : IsAt p m a s) where
  -- where an activation stands that runs
  abbrev pub spot : Placed p (actor_at m.world a).filter (actor_at m.world a).place s.rest (situation (actor_at m.world a).draining s)
  spot = (stood_at at).placed

  -- a call at its point is cleared
  pub cleared : (c : ResolvedCall) (granted refused : ℕ) → here spot ≡ instruction.Call c granted refused → Cleared p m a (roles c).call
  cleared c granted refused e =
      let q = spot in
      let f : Fine (breaks (setting_here q) q.state (instruction.Call c granted refused)) =
      fine q (instruction.Call c granted refused) e in
      let r08 = or_parts (not (has_place (row (roles c).call).places (setting_here q).place)) _ f.r08 in
      let locks : (activation_at m.world a).locks ≡ s.locks = ap (λ act. act.locks) (activation_is at) in
      record {
        low = rw (locks, ← level_is q) (ap not f.r07);
        in_place = and_from _ _ (subst (λ l. has_place (row (roles c).call).places l ≡ true) (place_same q) (not-false _ r08.0))
            (draining_fits q.state.draining.yes q.state.draining.no (actor_at m.world a).draining
            (is_legal_in_draining (roles c).call) q.means.draining r08.1);
      }
