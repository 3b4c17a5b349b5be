-- A context that goes with an operation: a status, an insert or a deferred work item may name a context variable, whose object
-- is handed over.
-- The variable keeps the number and no longer owns it. Here at says that an activation a with shadow s runs at a moment m, c is the
-- variable that may be named, x the context that is.
use Rattle.std.proofs.Common.{◌≡◌, ℕ, ◌+◌, List, length, map, Option, Some, None, ap, sym, subst, refl, arith}
use Rattle.std.specs.Prelude.{slice_set}
use Rattle.std.proofs.Math.ListN.{set}
use Rattle.std.proofs.Math.Seq.{map-set_same}
use Rattle.std.proofs.lemmas.List.{map-set, length-set}
use Rattle.flt_tree.specs.Variable.{context_place}
use Rattle.flt_tree.specs.declared.filter.Filter.{Filter}
use Rattle.flt_tree.specs.declared.variable.ContextVariable.{ContextVariable}
use Rattle.flt_abs.specs.Outcome.{put_context as put}
use Rattle.flt_abs.specs.State.{Situation, Status, Stale}
use Rattle.flt_model.specs.Runs.{Moment}
use Rattle.flt_model.specs.declared.event.Object.TheVariants.{Context}
use Rattle.flt_model.specs.World.{actor_at}
use Rattle.flt_model.specs.Violations.{in_some}
use Rattle.flt_sound.proofs.sums.Belonging.{Belongs}
use Rattle.flt_sound.proofs.sums.Counts.{Has}
use Rattle.flt_sound.proofs.sums.Shadows.{Slot, Unset, Owns, Past, value_of, status_of, own_all, own_all-set, Shadow, context_slot}
use Rattle.flt_sound.proofs.sums.Slots.{owned_there}
use Rattle.flt_sound.proofs.points.Events.{has_context}
use Rattle.flt_sound.proofs.points.Kept.{IsAt, held_one}

module _ {p : List Filter} {m : Moment} {a : ℕ} {s : Shadow} (at : IsAt p m a s) where
  -- a context that is named, or none
  abbrev pub Names : Option ContextVariable → Option ℕ → Type 0
  Names None None = Unit {0}
  Names (Some c) (Some x) = context_slot s c ≡ Owns x
  Names _ _ = ⊥

  -- the activation has a context that is named
  pub names_has : (c : Option ContextVariable) (x : Option ℕ) → Names c x → (y : ℕ) → x ≡ Some y → Has m.trace a (Context y)
  names_has None None n y e = absurd (cc)
  names_has None (Some x) n y e = absurd n
  names_has (Some c) None n y e = absurd n
  names_has (Some c) (Some x) n y e = let same : x ≡ y = cc in
      subst (λ x. Has m.trace a (Context x)) same (has_context at (context_place c) x n)

  -- a context that it has is its filter's own
  pub named_own : (x : Option ℕ) → ((y : ℕ) → x ≡ Some y → Has m.trace a (Context y)) →
      Belongs m.world.store.contexts (actor_at m.world a).filter x
  named_own None h = tt
  named_own (Some y) h = at.kept.owns a y (held_one at.kept a y (h y refl))

  -- its context variables after the hand-over
  abbrev pub handed : Option ContextVariable → Option ℕ → List Slot
  handed (Some c) (Some x) = set s.contexts (context_place c) (Past x)
  handed _ _ = s.contexts

  -- the variables have the numbers that they had
  pub handed_values : (c : Option ContextVariable) (x : Option ℕ) → Names c x → map value_of s.contexts ≡ map value_of (handed c x)
  handed_values None None h = refl
  handed_values None (Some x) h = absurd h
  handed_values (Some c) None h = absurd h
  handed_values (Some c) (Some x) h = sym (map-set_same value_of s.contexts (context_place c) (Past x) Unset (sym (ap value_of h)))

  -- the variables are as many as before
  pub handed_wide : (c : Option ContextVariable) (x : Option ℕ) → length (handed c x) ≡ length s.contexts
  handed_wide None None = refl
  handed_wide None (Some x) = refl
  handed_wide (Some c) None = refl
  handed_wide (Some c) (Some x) = length-set s.contexts (context_place c) (Past x)

  -- the variables own the context once less
  pub handed_count : (c : Option ContextVariable) (x : Option ℕ) → Names c x → (y : ℕ) →
      own_all y (handed c x) + in_some y x ≡ own_all y s.contexts
  handed_count None None h y = omega arith
  handed_count None (Some x) h y = absurd h
  handed_count (Some c) None h y = absurd h
  handed_count (Some c) (Some x) h y =
      let change = rw h at (own_all-set y s.contexts (context_place c) (Past x) (owned_there s.contexts (context_place c) x h)) in
      omega (arith, change)

  -- the checker sees the variable stale
  pub handed_situation : (c : Option ContextVariable) (x : Option ℕ) → Names c x → (t : Situation) → t.contexts ≡ map status_of s.contexts →
      put c (Some Stale) t ≡ record t { contexts = map status_of (handed c x) }
  handed_situation None None h t e = ap (λ (l : List Status). record t { contexts = l }) e
  handed_situation None (Some x) h t e = absurd h
  handed_situation (Some c) None h t e = absurd h
  handed_situation (Some c) (Some x) h t e =
      rw (map-set status_of s.contexts (context_place c) (Past x))
      (ap (λ (l : List Status). record t { contexts = slice_set l (context_place c) Stale }) e)
