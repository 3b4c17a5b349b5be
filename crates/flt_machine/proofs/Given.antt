-- What gets a ticket by a move and by a commit.
use Rattle.std.proofs.Common.{◌≡◌, ℕ, ◌+◌, ◌<◌, Bool, true, false, ◌&&◌, List, [], ◌∷◌, ◌++◌, Option}
use Rattle.std.proofs.Common.{Some, None, length, is_some, if◌then◌else◌, ap, sym, refl, ◌∙◌, inl, inr}
use Rattle.std.proofs.Math.ListN.{set, get_or}
use Rattle.std.proofs.lemmas.Bool.{cases_lt}
use Rattle.std.proofs.lemmas.List.{get_or-set_same, get_or_past, length-append}
use Rattle.std.specs.Prelude.{nat_lt}
use Rattle.flt_rules.specs.Place.{fits_mode}
use Rattle.flt_rules.specs.declared.place.Mode.{Mode}
use Rattle.flt_rules.specs.declared.place.Operation.{Operation}
use Rattle.flt_tree.specs.declared.filter.Filter.{Filter}
use Rattle.flt_machine_frames.specs.declared.standing.Standing.{Standing}
use Rattle.flt_model.specs.declared.moves.JournalEntry.{JournalEntry}
use Rattle.flt_model.specs.declared.moves.Move.{Move}
use Rattle.flt_model.specs.declared.moves.Move.TheVariants as move
use Rattle.flt_model.specs.declared.subject.Subject.{Subject}
use Rattle.flt_model.specs.declared.subject.Subject.TheVariants as subject
use Rattle.flt_model.specs.Effects.{Step}
use Rattle.flt_model.specs.Moves.{arrive, make, stores, with_arrival}
use Rattle.flt_model.specs.Runs.{Moment}
use Rattle.flt_model.specs.World.{World, Store}
use Rattle.flt_machine_store.specs.Changes.{after_change}
use Rattle.flt_machine_store.specs.declared.change.Change.{Change}
use Rattle.flt_machine_store.specs.declared.change.Change.TheVariants as change
use Rattle.flt_machine_dispatch.specs.Decisions.{Decides, HasRoom, actors_by, activations_by}
use Rattle.flt_machine_dispatch.specs.declared.decision.Decision.{Decision}
use Rattle.flt_machine_dispatch.specs.declared.decision.Start.{Start}
use Rattle.flt_machine.specs.Moving.{HasMoved, standings_by}
use Rattle.flt_machine.specs.Situations.{Situation, IsAt, standing_of}
use Rattle.flt_machine.specs.Tickets.{after_go, after_move, by_move, newcomer, subjects}
use Rattle.flt_machine.proofs.Decided.{some_there}
use Rattle.flt_machine.proofs.Followed.{arrived}
use Rattle.flt_machine.proofs.Growing.{same_number}
use Rattle.flt_machine.proofs.Passing.{newcomer_none}
use Rattle.flt_machine.proofs.Quieted.{quiet_entries, quiet_teardown}

-- ---- a move

-- as it was found out, where the move is made
pub moved_next : (altitudes : List ℕ) (b later : Situation) (m : Move) (d : Decision) (next : List Subject) → HasMoved b later m d →
    next ≡ subjects altitudes b.store (after_change b.store d.change)
    (newcomer subject.Activation (length b.standings) (length b.standings + length (actors_by d.start))) →
    next ≡ after_move altitudes b.store later.store (length b.standings) (length later.standings)
moved_next altitudes b later m d next moved is =
    is ∙
    ap (λ (n : ℕ). subjects altitudes b.store (after_change b.store d.change) (newcomer subject.Activation (length b.standings) n))
    (ap (λ (n : ℕ). length b.standings + n) (same_number [] d.start moved.standing (moved.begins [])) ∙
    sym (length-append b.standings (standings_by moved.standing))) ∙
    ap (λ (x : Situation). after_move altitudes b.store x.store (length b.standings) (length x.standings)) (sym moved.same)

-- ---- a step of an activation

there : (standings : List (Option Standing)) (a : ℕ) (s : Standing) → get_or standings a None ≡ Some s → a < length standings
there standings a s is = elim (cases_lt a (length standings)) [
  | inl here ↦ here
  | inr past ↦ absurd (let none = get_or_past standings a None past in cc)
]

-- as it was found out, where the step is made and the activation's standing put
pub go_next : (altitudes : List ℕ) (b w x : Situation) (c : Change) (e : JournalEntry) (a : ℕ) (s : Standing) (later : Option Standing)
    (goes : Bool) (next : List Subject) →
    standing_of b a ≡ Some s → w ≡ record b { store = after_change b.store c; entries = b.entries ++ e ∷ [] } →
    x ≡ record w { standings = set w.standings a later } →
    goes ≡ is_some later → next ≡ subjects altitudes b.store (after_change b.store c) (if goes then subject.Activation a ∷ [] else []) →
    next ≡ after_go altitudes b.store x.store a (is_some (standing_of x a))
go_next altitudes b w x c e a s later goes next stands of_w of_x of_goes is =
    is ∙ ap (after_go altitudes b.store (after_change b.store c) a)
    (of_goes ∙ ap (λ (o : Option Standing). is_some o) (sym (get_or-set_same b.standings a later None (there b.standings a s stands)))) ∙
    ap (λ (y : Situation). after_go altitudes b.store (after_change b.store c) a (is_some (get_or (set y.standings a later) a None)))
    (sym of_w) ∙
    ap (λ (y : Situation). after_go altitudes b.store y.store a (is_some (get_or (set w.standings a later) a None))) (sym of_w) ∙
    ap (λ (y : Situation). after_go altitudes b.store y.store a (is_some (standing_of y a))) (sym of_x)

-- ---- before the move is made

joined : {o : Subject} {operations items entries teardowns : List Subject} → operations ≡ o ∷ [] → items ≡ [] →
    entries ≡ [] → teardowns ≡ [] →
    operations ++ [] ++ items ++ entries ++ teardowns ≡ o ∷ []
joined one none some rest = rw (one, none, some, rest) refl

-- an operation that arrives gets a ticket alone
subjects_arrived : (altitudes : List ℕ) (s : Store) (kind : Operation) (mode : Mode) (file : ℕ) →
    subjects altitudes s (after_change s (change.Arrive kind mode file)) [] ≡ subject.Operation (length s.arrivals) ∷ []
subjects_arrived altitudes s kind mode file =
    joined (arrived s (record { kind = kind; mode = mode; file = file }))
    (newcomer_none subject.Item (length s.items) (length s.items) refl)
    (quiet_entries s (change.Arrive kind mode file) altitudes (λ o is. absurd (let same = is in cc))
    (λ f v x is. absurd (let same = is in cc)) (λ f is. absurd (let same = is in cc)))
    (quiet_teardown s (change.Arrive kind mode file) altitudes (λ f is. absurd (let same = is in cc)))

abbrev arrival_step : World → Operation → Mode → ℕ → Step
arrival_step w kind mode file = stores w (with_arrival w.store (record { kind = kind; mode = mode; file = file })) []

none_is : (step : Step) → None ≡ Some step → ⊥
none_is step same = absurd (cc)

arrive_gives : (altitudes : List ℕ) (w : World) (kind : Operation) (mode : Mode) (file : ℕ) (step : Step) →
    arrive w kind mode file ≡ Some step →
    by_move altitudes w (arrive w kind mode file) ≡ subject.Operation (length w.store.arrivals) ∷ []
arrive_gives altitudes w kind mode file step some = by (fits_mode kind mode && nat_lt file 1024) some
  where
    by : (b : Bool) → (if b then Some (arrival_step w kind mode file) else None) ≡ Some step →
        by_move altitudes w (if b then Some (arrival_step w kind mode file) else None) ≡ subject.Operation (length w.store.arrivals) ∷ []
    by true same =
        ap (subjects altitudes w.store (after_change w.store (change.Arrive kind mode file)))
        (newcomer_none subject.Activation (length w.activations) (length w.activations) refl) ∙
        subjects_arrived altitudes w.store kind mode file
    by false same = absurd (none_is step same)

module _ (altitudes : List ℕ) (p : List Filter) (b : Situation) (m : Moment) (d : Decision) (at : IsAt p b m) where
  -- an arrival that is enabled
  pub arrival_next : (kind : Operation) (mode : Mode) (file : ℕ) →
      Decides p m.world (Some d) (make p m.world (move.Arrive kind mode file)) →
      subject.Operation (length b.store.arrivals) ∷ [] ≡ by_move altitudes m.world (make p m.world (move.Arrive kind mode file))
  arrival_next kind mode file decides =
      let it = some_there p m.world d (make p m.world (move.Arrive kind mode file)) decides in
      ap (λ (s : Store). subject.Operation (length s.arrivals) ∷ []) at.store ∙
      sym (arrive_gives altitudes m.world kind mode file it.0 it.1.0)

  as_many : (o : Option Start) → length (actors_by o) ≡ length (activations_by p o)
  as_many None = refl
  as_many (Some start) = refl

  -- any other move that is enabled
  pub other_next : (step : Move) (next : List Subject) → Decides p m.world (Some d) (make p m.world step) →
      next ≡ subjects altitudes b.store (after_change b.store d.change)
      (newcomer subject.Activation (length b.standings) (length b.standings + length (actors_by d.start))) →
      next ≡ by_move altitudes m.world (make p m.world step)
  other_next step next decides is =
      let it = some_there p m.world d (make p m.world step) decides in
      is ∙
      ap (λ (s : Store). subjects altitudes s (after_change s d.change)
      (newcomer subject.Activation (length b.standings) (length b.standings + length (actors_by d.start)))) at.store ∙
      ap (λ (n : ℕ). subjects altitudes m.world.store (after_change m.world.store d.change)
      (newcomer subject.Activation n (n + length (actors_by d.start)))) at.count ∙
      ap (λ (n : ℕ). subjects altitudes m.world.store (after_change m.world.store d.change)
      (newcomer subject.Activation (length m.world.activations) n))
      (ap (λ (n : ℕ). length m.world.activations + n) (as_many d.start) ∙
      sym (length-append m.world.activations (activations_by p d.start))) ∙
      ap (λ (w : World). after_move altitudes m.world.store w.store (length m.world.activations) (length w.activations))
      (sym it.1.1.world) ∙
      ap (by_move altitudes m.world) (sym it.1.0)

-- there is room for any other move
pub has_room : (s : Store) (step : Move) → ((kind : Operation) (mode : Mode) (file : ℕ) → step ≡ move.Arrive kind mode file → ⊥) →
    HasRoom s step
has_room s (move.Arrive kind mode file) other = absurd (other kind mode file refl)
has_room s (move.Pre o) other = tt
has_room s (move.Skip o) other = tt
has_room s (move.Lower o) other = tt
has_room s (move.Post o) other = tt
has_room s (move.Cancel o) other = tt
has_room s (move.Canceled altitude o) other = tt
has_room s (move.Work i) other = tt
has_room s (move.Detach altitude) other = tt
has_room s (move.Drain altitude o) other = tt
has_room s (move.Unlink altitude key) other = tt
has_room s (move.Detached altitude) other = tt
