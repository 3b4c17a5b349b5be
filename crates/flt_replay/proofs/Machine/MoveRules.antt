-- A move gains objects for a new activation and may free a context: no rule of statuses, levels, locks or places speaks of that.
use Rattle.std.proofs.Common.{◌≡◌, ℕ, Bool, true, false, List, [], ◌∷◌, ◌++◌, Option, Some, None, length, refl, ◌∙◌}
use Rattle.std.proofs.lemmas.Bool.{and_from, and_parts}
use Rattle.std.proofs.lemmas.List.Folds.{list_all-append}
use Rattle.std.specs.List.{list_all}
use Rattle.std.specs.Prelude.{◌==◌}
use Rattle.flt_tree.specs.declared.filter.Filter.{Filter}
use Rattle.flt_model.specs.declared.event.Event.{Event}
use Rattle.flt_model.specs.declared.event.Event.TheVariants as event
use Rattle.flt_model.specs.declared.moves.Move.{Move}
use Rattle.flt_model.specs.declared.verdict.Violation.{Violation}
use Rattle.flt_model.specs.declared.verdict.Violation.TheVariants.{V1, V2, V3, V4, V5, V6, V7, V8}
use Rattle.flt_model.specs.Effects.{Step, gains_context, freed_by_drop}
use Rattle.flt_model.specs.Moves.{gains_visit, make}
use Rattle.flt_model.specs.Violations.{is_legal, is_low_enough, is_disciplined, is_in_place}
use Rattle.flt_model.specs.World.{World, Store, context_at}
use Rattle.flt_replay.proofs.Machine.Frames.{if_same}
use Rattle.flt_replay.proofs.Machine.MoveCases.{each_move}
use Rattle.flt_replay.specs.Judging.{keeps_rule}

-- ---- what a move's events are

-- an object is gained, or a context is freed
abbrev pub is_gain_or_free : Event → Bool
is_gain_or_free (event.Gain a o) = true
is_gain_or_free (event.Free x) = true
is_gain_or_free _ = false

visit_gains : (a : ℕ) (v : Option ℕ) → list_all is_gain_or_free (gains_visit a v) ≡ true
visit_gains a None = refl
visit_gains a (Some v) = refl

context_gains : (a : ℕ) (x : Option ℕ) → list_all is_gain_or_free (gains_context a x) ≡ true
context_gains a None = refl
context_gains a (Some x) = refl

drop_frees : (s : Store) (x : ℕ) → list_all is_gain_or_free (freed_by_drop s x) ≡ true
drop_frees s x = if_same (list_all is_gain_or_free) ((context_at s x).references == 1) (event.Free x ∷ []) [] true refl refl

start_gains : (a : ℕ) (v x : Option ℕ) → list_all is_gain_or_free (gains_visit a v ++ gains_context a x) ≡ true
start_gains a v x =
    list_all-append is_gain_or_free (gains_visit a v) (gains_context a x)
    ∙ and_from (list_all is_gain_or_free (gains_visit a v)) (list_all is_gain_or_free (gains_context a x)) (visit_gains a v)
    (context_gains a x)

-- a move has no events but gains and frees
pub gains_and_frees : (p : List Filter) (w : World) (x : Move) (s : Step) → make p w x ≡ Some s → list_all is_gain_or_free s.events ≡ true
gains_and_frees p w =
    let a = length w.activations in
    each_move (λ s. list_all is_gain_or_free s.events ≡ true) p w
    (record {
      routes = λ o r. refl;
      arrives = λ arrival. refl;
      presences = λ f presence. refl;
      unlinks = λ x. drop_frees w.store x;
      visits = λ o r visit actor body arg. start_gains a (Some (length w.store.visits)) arg;
      entries = λ f o e actor body found. start_gains a (Some e.visit) e.context;
      items = λ i item actor body found. start_gains a item.visit item.context;
    })

-- ---- so each rule is kept, in any world

-- a weaker test passes where a stronger one passes everywhere
pub all_pass : (test f : Event → Bool) → ((e : Event) → test e ≡ true → f e ≡ true) → (es : List Event) → list_all test es ≡ true →
    list_all f es ≡ true
all_pass test f h [] k = refl
all_pass test f h (e ∷ es) k =
    let parts = and_parts (test e) (list_all test es) k in
    and_from (f e) (list_all f es) (h e parts.0) (all_pass test f h es parts.1)

module _ (p : List Filter) (w : World) (t : List Event) where
  legal_passes : (e : Event) → is_gain_or_free e ≡ true → is_legal p w t e ≡ true
  legal_passes (event.Gain a o) k = refl
  legal_passes (event.Free x) k = refl
  legal_passes _ k = absurd (cc)

  low_passes : (e : Event) → is_gain_or_free e ≡ true → is_low_enough p w t e ≡ true
  low_passes (event.Gain a o) k = refl
  low_passes (event.Free x) k = refl
  low_passes _ k = absurd (cc)

  disciplined_passes : (e : Event) → is_gain_or_free e ≡ true → is_disciplined p w t e ≡ true
  disciplined_passes (event.Gain a o) k = refl
  disciplined_passes (event.Free x) k = refl
  disciplined_passes _ k = absurd (cc)

  place_passes : (e : Event) → is_gain_or_free e ≡ true → is_in_place p w t e ≡ true
  place_passes (event.Gain a o) k = refl
  place_passes (event.Free x) k = refl
  place_passes _ k = absurd (cc)

  pub gains_keep_rules : (es : List Event) → list_all is_gain_or_free es ≡ true → (v : Violation) → keeps_rule p w t es v ≡ true
  gains_keep_rules es h V1 = refl
  gains_keep_rules es h V2 = refl
  gains_keep_rules es h V3 = refl
  gains_keep_rules es h V4 = refl
  gains_keep_rules es h V5 = all_pass is_gain_or_free (is_legal p w t) legal_passes es h
  gains_keep_rules es h V6 = all_pass is_gain_or_free (is_low_enough p w t) low_passes es h
  gains_keep_rules es h V7 = all_pass is_gain_or_free (is_disciplined p w t) disciplined_passes es h
  gains_keep_rules es h V8 = all_pass is_gain_or_free (is_in_place p w t) place_passes es h

-- of a move from any world, read in any other
pub moves_keep_rules : (p : List Filter) (w : World) (x : Move) (s : Step) → make p w x ≡ Some s →
    (v : Violation) (u : World) (t : List Event) → keeps_rule p u t s.events v ≡ true
moves_keep_rules p w x s e v u t = gains_keep_rules p u t s.events (gains_and_frees p w x s e) v
