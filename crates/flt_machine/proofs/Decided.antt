-- What is decided on a board's store is the move at each moment at which the board stands.
use Rattle.std.proofs.Common.{◌≡◌, ℕ, Bool, List, [], ◌∷◌, ◌++◌, Option, Some, None, length, is_some, ap, subst, sym, refl, ◌∙◌}
use Rattle.flt_tree.specs.declared.filter.Filter.{Filter}
use Rattle.flt_model.specs.declared.event.Event.{Event}
use Rattle.flt_model.specs.declared.moves.JournalEntry.TheVariants as journal_entry
use Rattle.flt_model.specs.declared.moves.Move.{Move}
use Rattle.flt_model.specs.Effects.{Step}
use Rattle.flt_model.specs.Moves.{make}
use Rattle.flt_model.specs.Runs.{Moment}
use Rattle.flt_model.specs.Steps.{Make}
use Rattle.flt_model.specs.World.{World, Store, Actor, Activation}
use Rattle.flt_machine_store.specs.Stores.{world_of}
use Rattle.flt_machine_dispatch.specs.Decisions.{Decides, IsActive, IsDecided, frees_by, gains_by}
use Rattle.flt_machine_dispatch.specs.declared.decision.Decision.{Decision}
use Rattle.flt_machine_frames.specs.Loading.{AreLoaded}
use Rattle.flt_machine_frames.specs.declared.loaded.Loaded.{Loaded}
use Rattle.flt_machine.specs.Calls.{IsDisabled, Makes}
use Rattle.flt_machine.specs.Moving.{moved_by, HasMoved}
use Rattle.flt_machine.specs.Situations.{Situation, IsAt, IsBoard, IsOwn, Now}
use Rattle.flt_machine.proofs.Moved.{makes}
use Rattle.flt_machine.proofs.Stepped.{makes_own}

-- what holds in the world of the board's store holds in the moment's
pub there : (P : World → Type 0) (p : List Filter) (b : Situation) (m : Moment) → IsAt p b m →
    (length b.store.presences ≡ length p → P (world_of b.store m.world.actors m.world.activations)) → P m.world
there P p b m at holds =
    subst (λ (s : Store). P (world_of s m.world.actors m.world.activations)) at.store
    (holds (ap (λ (s : Store). length s.presences) at.store ∙ at.filters))

-- a move is enabled exactly where there is a decision
pub enabled_there : (p : List Filter) (w : World) (d : Option Decision) (o : Option Step) → Decides p w d o → is_some d ≡ is_some o
enabled_there p w None None decides = refl
enabled_there p w None (Some step) decides = absurd decides
enabled_there p w (Some d) None decides = absurd decides
enabled_there p w (Some d) (Some step) decides = refl

-- ---- a decision now

-- what is decided is the move at each moment at which the board stands
abbrev pub DecidesNow : Loaded → Situation → Move → Option Decision → Type 0
DecidesNow l b move o = Now l b (λ p m. Decides p m.world o (make p m.world move))

-- what is decided of a move for one board holds for the board that it is
pub decided_now : (l : Loaded) (b now : Situation) (move : Move) (active : Bool) (o : Option Decision) → b ≡ now →
    Now l now (λ p m. IsActive p move active m.world.actors m.world.activations) →
    ((p : List Filter) (actors : List Actor) (activations : List Activation) →
    AreLoaded p l → length b.store.presences ≡ length p → IsActive p move active actors activations →
    Decides p (world_of b.store actors activations) o (make p (world_of b.store actors activations) move)) → DecidesNow l now move o
decided_now l b now move active o same is clause p loaded m at =
    there (λ (w : World). Decides p w o (make p w move)) p b m (subst (λ (x : Situation). IsAt p x m) (sym same) at)
    (λ presences. clause p m.world.actors m.world.activations loaded presences (is p loaded m at))

none_there : (p : List Filter) (w : World) (o : Option Step) → Decides p w None o → o ≡ None
none_there p w None decides = refl
none_there p w (Some step) decides = absurd decides

-- with one it is, and the decision is its step
pub some_there : (p : List Filter) (w : World) (d : Decision) (o : Option Step) →
    Decides p w (Some d) o → (step : Step) × ((o ≡ Some step) × IsDecided p w d step)
some_there p w d None decides = absurd decides
some_there p w d (Some step) decides = (step, (refl, decides))

-- without a decision the move isn't enabled
pub disabled_now : (l : Loaded) (b : Situation) (move : Move) → DecidesNow l b move None → IsDisabled l b move
disabled_now l b move decides p loaded m at = none_there p m.world (make p m.world move) (decides p loaded m at)

-- with one it is
pub not_disabled : (l : Loaded) (b : Situation) (move : Move) (d : Decision) →
    IsOwn l b → DecidesNow l b move (Some d) → IsDisabled l b move → ⊥
not_disabled l b move d own decides disabled =
    subst (λ (o : Option Step). Decides own.filters own.board.moment.world (Some d) o)
    (disabled own.filters own.loaded own.board.moment own.board.at)
    (decides own.filters own.loaded own.board.moment own.board.at)

-- ---- a decision that is made

module _ (l : Loaded) (b later : Situation) (move : Move) (d : Decision) (decides : DecidesNow l b move (Some d))
    (moved : HasMoved b later move d) where
  -- the move is made
  pub makes_now : (events : List Event) → events ≡ gains_by (length b.standings) d.start ++ frees_by d.freed →
      Now l b (λ p m. Makes p later [] (Make move) events m)
  makes_now events told p loaded m at =
      let it = some_there p m.world d (make p m.world move) (decides p loaded m at) in
      subst (λ (x : Situation). Makes p x [] (Make move) events m) (sym moved.same)
      (subst (λ (es : List Event). Makes p (moved_by b d moved.standing (b.entries ++ journal_entry.Move move ∷ [])) [] (Make move) es m)
      (sym (told ∙ ap (λ (n : ℕ). gains_by n d.start ++ frees_by d.freed) at.count))
      (makes p b m d it.0 at it.1.1 move moved.standing (b.entries ++ journal_entry.Move move ∷ []) it.1.0 (moved.begins p)))

  -- the board is still the filters'
  pub own_now : (p : List Filter) → AreLoaded p l → IsBoard p b → IsBoard p later
  own_now p loaded own =
      makes_own p b later move (gains_by (length b.standings) d.start ++ frees_by d.freed) own
      (makes_now (gains_by (length b.standings) d.start ++ frees_by d.freed) refl p loaded own.moment own.at)
      (ap (λ (x : Situation). x.entries) moved.same)
