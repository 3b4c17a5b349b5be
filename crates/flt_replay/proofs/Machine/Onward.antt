-- What any transition does with activations and visits.
use Rattle.std.proofs.Common.{◌≡◌, ◌≢◌, ◌<◌, ◌≤◌, ◌⊎◌, inl, inr, ℕ, ◌+◌, Bool, true, false, List, []}
use Rattle.std.proofs.Common.{◌∷◌, Some, length, ap, sym, subst, refl, ◌∙◌, arith, length-append}
use Rattle.std.proofs.Math.ListN.{set, get_or, get_or-append}
use Rattle.std.proofs.Math.Seq.{get_or-append_seam}
use Rattle.std.proofs.lemmas.Bool.{cases_eq, eqb-true, and_parts}
use Rattle.std.proofs.lemmas.List.{get_or-set_same, get_or-set_other, length-set}
use Rattle.std.specs.List.{list_all, list_any}
use Rattle.std.specs.Prelude.{not, ◌||◌, ◌==◌}
use Rattle.flt_tree.specs.declared.filter.Filter.{Filter}
use Rattle.flt_model.specs.declared.event.Event.{Event}
use Rattle.flt_model.specs.declared.event.Event.TheVariants as event
use Rattle.flt_model.specs.Effects.{Step}
use Rattle.flt_model.specs.LocalSteps.{GoesOnAlone}
use Rattle.flt_model.specs.Runs.{Moment, next}
use Rattle.flt_model.specs.Steps.{Transition, Make, Local, Board}
use Rattle.flt_model.specs.World.{World, Activation, activation_at, nobody}
use Rattle.flt_replay.proofs.Machine.Apart.{Unmoved, unmoved_itself}
use Rattle.flt_replay.proofs.Machine.Frames.{Stepped, stepped, there_from}
use Rattle.flt_replay.proofs.Machine.Handing.{Handed, handed, is_handed_by}
use Rattle.flt_replay.proofs.Machine.Locals.{AreQuiet}
use Rattle.flt_replay.proofs.Machine.MoveRules.{all_pass, is_gain_or_free, gains_and_frees}
use Rattle.flt_replay.proofs.Machine.Visits.{Grown, Same, Joined, Counted, AsMany, Moved, moved, numbers_apart}
use Rattle.flt_replay.specs.Apart.{is_apart, is_anothers, is_end_of, ends_in}

-- the number of activations after it: as many, or one more, which goes on
pub data Peopled (w u : World) : Type 0 where
  NobodyNew : (is : length u.activations ≡ length w.activations) → Peopled w u
  OneNew : (is : length u.activations ≡ length w.activations + 1) →
      (goes : (activation_at u (length w.activations)).ended ≡ false) → Peopled w u

pub record Onward (w : World) (s : Step) : Type 0 where
  pub peopled : Peopled w s.world
  -- an activation ends where an event says so
  pub flags : (b : ℕ) → b < length w.activations →
      (activation_at s.world b).ended ≡ (ends_in b s.events || (activation_at w b).ended)
  pub others : (b : ℕ) → length s.world.activations ≤ b → list_all (is_anothers b) s.events ≡ true
  pub counted : Counted (length w.store.visits) (length s.world.store.visits) s.events
  pub unmoved : (v : ℕ) → length w.store.settled ≡ length w.store.visits → list_all (is_apart v) s.events ≡ true →
      Unmoved v w.store s.world.store
  pub paired : length w.store.settled ≡ length w.store.visits → length s.world.store.settled ≡ length s.world.store.visits

-- ---- no end among events

no_ends : (test : Event → Bool) (b : ℕ) → ((e : Event) → test e ≡ true → is_end_of b e ≡ false) → (es : List Event) →
    list_all test es ≡ true → list_any (is_end_of b) es ≡ false
no_ends test b h [] k = refl
no_ends test b h (e ∷ es) k =
    let parts = and_parts (test e) (list_all test es) k in
    ap (λ c. c || list_any (is_end_of b) es) (h e parts.0) ∙ no_ends test b h es parts.1

not_false : (b : Bool) → not b ≡ true → b ≡ false
not_false true h = absurd (cc)
not_false false h = refl

module _ (a b : ℕ) (other : b ≢ a) where
  other_number : (c : ℕ) → (c == a) ≡ true → not (c == b) ≡ true
  other_number c h = numbers_apart c b (λ e. other (e ∙ eqb-true c a h))

  own_others : (e : Event) → is_handed_by a e ≡ true → is_anothers b e ≡ true
  own_others (event.Gain c o) h = other_number c h
  own_others (event.Lose c o) h = other_number c h
  own_others _ h = refl

  own_end : (e : Event) → is_handed_by a e ≡ true → is_end_of b e ≡ false
  own_end (event.End c) h = not_false (c == b) (other_number c h)
  own_end _ h = refl

gain_end : (b : ℕ) (e : Event) → is_gain_or_free e ≡ true → is_end_of b e ≡ false
gain_end b (event.End c) h = absurd (cc)
gain_end b _ h = refl

-- ---- an activation's step

module _ (w : World) (a : ℕ) (s : Step) (k : Stepped w a s) (h : Handed w a s) where
  length_board : length s.world.activations ≡ length w.activations
  length_board = ap length h.one_activation ∙ length-set w.activations a h.act

  flag_by : (b : ℕ) → (b ≡ a) ⊎ (b ≡ a → ⊥) → (activation_at s.world b).ended ≡ (ends_in b s.events || (activation_at w b).ended)
  flag_by b (inl same) =
      subst (λ c. (activation_at s.world c).ended ≡ (ends_in c s.events || (activation_at w c).ended)) (sym same)
      (ap (λ acts. (get_or acts a nobody).ended) h.one_activation
      ∙ (ap (λ (act : Activation). act.ended) (get_or-set_same w.activations a h.act nobody k.within) ∙ h.flag))
  flag_by b (inr other) =
      ap (λ acts. (get_or acts b nobody).ended) h.one_activation
      ∙ (ap (λ (act : Activation). act.ended) (get_or-set_other w.activations a b h.act nobody other)
      ∙ sym (ap (λ c. c || (activation_at w b).ended) (no_ends (is_handed_by a) b (own_end a b other) s.events h.own)))

  board_onward : Onward w s
  board_onward = record {
    peopled = NobodyNew length_board;
    flags = λ b within. flag_by b (cases_eq b a);
    others =
        λ b past.
        all_pass (is_handed_by a) (is_anothers b)
        (own_others a b (λ same. absurd (omega (arith, past, same, length_board, k.within)))) s.events h.own;
    counted = AsMany (ap length k.framed.same_visits);
    unmoved = λ v paired apart. h.unmoved v apart;
    paired = λ paired. h.settled_length ∙ (paired ∙ ap length (sym k.framed.same_visits));
  }

-- ---- a local step

module _ (w : World) (a : ℕ) (act : Activation) (within : a < length w.activations) (same : act.ended ≡ (activation_at w a).ended) where
  local_flag : (b : ℕ) → (b ≡ a) ⊎ (b ≡ a → ⊥) → (get_or (set w.activations a act) b nobody).ended ≡ (activation_at w b).ended
  local_flag b (inl e) =
      subst (λ c. (get_or (set w.activations a act) c nobody).ended ≡ (activation_at w c).ended) (sym e)
      (ap (λ (n : Activation). n.ended) (get_or-set_same w.activations a act nobody within) ∙ same)
  local_flag b (inr other) = ap (λ (n : Activation). n.ended) (get_or-set_other w.activations a b act nobody other)

  moved_onward : Onward w (record { world = record w { activations = set w.activations a act }; events = [] })
  moved_onward = record {
    peopled = NobodyNew (length-set w.activations a act);
    flags = λ b inside. local_flag b (cases_eq b a);
    others = λ b past. refl;
    counted = AsMany refl;
    unmoved = λ v paired apart. unmoved_itself v w.store;
    paired = λ paired. paired;
  }

quiet_onward : (w : World) (a : ℕ) (s : Step) → GoesOnAlone w a s.world → s.events ≡ [] → Onward w s
quiet_onward w a s h none =
    let there : World = record w { activations = set w.activations a h.act } in
    let from : Onward w (record { world = there; events = [] }) =
    moved_onward w a h.act (there_from w.activations a h.went_on) (h.goes_on ∙ sym h.went_on) in
    let second : Onward w (record { world = there; events = s.events }) =
    subst (λ (es : List Event). Onward w (record { world = there; events = es })) (sym none) from in
    subst (λ (u : World). Onward w (record { world = u; events = s.events })) (sym h.changes) second

-- ---- a move

module _ (w : World) (s : Step) where
  grown_peopled : Grown w.activations s.world.activations → Peopled w s.world
  grown_peopled (Same is) = NobodyNew (ap length is)
  grown_peopled (Joined act is goes) =
      OneNew (ap length is ∙ length-append w.activations (act ∷ []))
      (ap (λ acts. (get_or acts (length w.activations) nobody).ended) is
      ∙ (ap (λ (n : Activation). n.ended) (get_or-append_seam w.activations act [] nobody) ∙ goes))

  grown_flag : Grown w.activations s.world.activations → (b : ℕ) → b < length w.activations →
      (activation_at s.world b).ended ≡ (activation_at w b).ended
  grown_flag (Same is) b within = ap (λ acts. (get_or acts b nobody).ended) is
  grown_flag (Joined act is goes) b within =
      ap (λ acts. (get_or acts b nobody).ended) is
      ∙ ap (λ (n : Activation). n.ended) (get_or-append w.activations (act ∷ []) nobody b within)

  move_onward : list_all is_gain_or_free s.events ≡ true → Moved w s → Onward w s
  move_onward gains h = record {
    peopled = grown_peopled h.grown;
    flags =
        λ b within.
        grown_flag h.grown b within
        ∙ sym (ap (λ c. c || (activation_at w b).ended) (no_ends is_gain_or_free b (gain_end b) s.events gains));
    others = h.others;
    counted = h.counted;
    unmoved = h.unmoved;
    paired = h.paired;
  }

-- what any transition does with activations and visits, if local steps are quiet
pub onward : AreQuiet → (p : List Filter) (m : Moment) (x : Transition) (s : Step) → next p m x ≡ Some s → Onward m.world s
onward quiet p m (Make x) s e = move_onward m.world s (gains_and_frees p m.world x s e) (moved p m.world x s e)
onward quiet p m (Local a) s e = quiet_onward m.world a s (quiet.alone p m a s e) (quiet.events p m a s e)
onward quiet p m (Board a grant) s e =
    board_onward m.world a s (stepped p m.trace m.world a grant s e) (handed p m.trace m.world a grant s e)
