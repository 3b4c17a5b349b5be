-- What a turn does: the move of one subject. This project's own rule.
use Rattle.std.specs.Prelude.{◌≡◌, ◌≤◌, ◌⊎◌, ◌^◌, ◌-◌, ℕ, ◌+◌, Bool, true, false, not, min, List, [], ◌∷◌}
use Rattle.std.specs.Prelude.{◌++◌, option_map, Option, Some, None, is_some, length, if◌then◌else◌}
use Rattle.std.specs.BTreeSet.{contains}
use Rattle.std.specs.Ordering.{nat_cmp}
use Rattle.flt_machine_dispatch.specs.Turns.{ComesNextOf, next_of}
use Rattle.flt_machine_frames.specs.Loading.{AreLoaded}
use Rattle.flt_machine_frames.specs.declared.frame.Advanced.{Advanced}
use Rattle.flt_machine_frames.specs.declared.loaded.Loaded.{Loaded}
use Rattle.flt_machine.specs.Calls.{Commits, IsAdvanced, IsBlocked, IsDisabled, Makes, instruction_for, leaves_choice_at}
use Rattle.flt_machine.specs.Situations.{Situation, IsBoard, Now, frame_of, standing_of}
use Rattle.flt_machine.specs.Tickets.{after_go, after_move}
use Rattle.flt_model.specs.Program.{filter_of}
use Rattle.flt_model.specs.Steps.{Make}
use Rattle.flt_model.specs.World.{World, is_detaching, presence_at}
use Rattle.flt_model.specs.declared.event.Event.{Event}
use Rattle.flt_model.specs.declared.moves.JournalEntry.{JournalEntry}
use Rattle.flt_model.specs.declared.moves.JournalEntry.TheVariants as journal_entry
use Rattle.flt_model.specs.declared.moves.Move.{Move}
use Rattle.flt_model.specs.declared.moves.Move.TheVariants.{Arrive, Canceled, Detach, Detached, Work}
use Rattle.flt_model.specs.declared.subject.Subject.{Subject}
use Rattle.flt_model.specs.declared.subject.Subject.TheVariants as subject
use Rattle.flt_stack_core.specs.declared.choices.Choices.{Choices}
use Rattle.flt_tree.specs.declared.filter.Filter.{Filter}

-- a board of what is loaded is one still
abbrev pub RemainsBoard : Loaded → Situation → Situation → Type 0
RemainsBoard l b later = (p : List Filter) → AreLoaded p l → IsBoard p b → IsBoard p later

-- ---- choices

-- the next choice is granted: its number isn't among those that are refused
abbrev pub is_granted : Choices → Bool
is_granted c = not (contains nat_cmp c.refused c.made)

-- a step was committed, which left a choice or didn't
abbrev pub counted : Choices → Bool → Choices
counted c left = if left then record c { made = min (c.made + 1) (2 ^ 64 - 1) } else c

-- ---- moves

-- the move that a subject asks for: an operation's own; a work item's start; that an entry is taken out of its queue; the next of a
-- teardown
abbrev pub AsksFor : List Filter → World → Subject → Option Move → Type 0
AsksFor p w (subject.Operation serial) move = move ≡ next_of p w serial
AsksFor p w (subject.Activation a) move = move ≡ None
AsksFor p w (subject.Item item) move = move ≡ Some (Work item)
AsksFor p w (subject.Entry altitude serial) move = move ≡ Some (Canceled altitude serial)
AsksFor p w (subject.Detach altitude) move = ComesNextOf p w altitude move

-- a move that callers ask for: an operation arrives, or a teardown begins
abbrev pub is_beginning : Move → Bool
is_beginning (Arrive kind mode file) = true
is_beginning (Detach altitude) = true
is_beginning _ = false

-- a move that callers don't ask for
abbrev pub IsFollowing : Move → Type 0
IsFollowing move = is_beginning move ≡ false

-- the board is as it was, or one move led from it to another, with one entry more
abbrev pub HasMade : Loaded → Situation → Situation → Option Move → Type 0
HasMade l b later None = later ≡ b
HasMade l b later (Some move) =
    ((events : List Event) × Now l b (λ p m. Makes p later [] (Make move) events m))
    × (later.entries ≡ b.entries ++ journal_entry.Move move ∷ [])

-- what is asked for is made where it is enabled
abbrev pub IsMadeOf : Loaded → Situation → Option Move → Option Move → Type 0
IsMadeOf l b None made = made ≡ None
IsMadeOf l b (Some asked) None = IsDisabled l b asked
IsMadeOf l b (Some asked) (Some made) = made ≡ asked

-- what was made names what gets a ticket by it; nothing where nothing was made
abbrev pub named_by : Loaded → Situation → Situation → Option Move → List Subject
named_by l b later None = []
named_by l b later (Some move) = after_move l.altitudes b.store later.store (length b.standings) (length later.standings)

-- whether a subject is a teardown that goes on: its filter is being detached
abbrev pub is_teardown : List Filter → World → Subject → Bool
is_teardown p w (subject.Detach altitude) = is_detaching (presence_at w.store (filter_of p altitude))
is_teardown p w _ = false

-- a teardown that goes on stays until the move that ends it; any other subject goes
abbrev pub stays_after : Bool → Option Move → Bool
stays_after teardown (Some (Detached altitude)) = false
stays_after teardown made = teardown

-- a subject's move was made, where it has one that is enabled
pub record HasMoved (l : Loaded) (b later : Situation) (s : Subject) (stays : Bool) (named : List Subject) : Type 0 where
  pub asked : Option Move
  pub made : Option Move
  pub teardown : Bool
  pub asks : Now l b (λ p m. AsksFor p m.world s asked)
  pub is : IsMadeOf l b asked made
  pub makes : HasMade l b later made
  pub goes_on : Now l b (λ p m. teardown ≡ is_teardown p m.world s)
  pub kept : stays ≡ stays_after teardown made
  pub names : named ≡ named_by l b later made

-- ---- steps of activations

-- an activation as it is on the board, and how far it comes by itself
pub record Takes (l : Loaded) (b : Situation) (a : ℕ) (advanced : Advanced) : Type 0 where
  pub taken : option_map (frame_of b a) (standing_of b a) ≡ Some advanced.frame
  pub advances : IsAdvanced l advanced

-- what a step of an activation names: what gets a ticket by it, the activation itself among them where it goes on
abbrev pub named_by_step : Loaded → Situation → Situation → ℕ → List Subject
named_by_step l b later a = after_go l.altitudes b.store later.store a (is_some (standing_of later a))

-- an activation has had its turn. Its subject goes, but where it is blocked: then nothing changes
pub data HasGone (l : Loaded) (b later : Situation) (c d : Choices) (a : ℕ) : Bool → List Subject → Type 0 where
  -- it has ended
  ended : standing_of b a ≡ None → later ≡ b → d ≡ c → HasGone l b later c d a false []
  -- others hold the lock that its next step asks for
  waits : (advanced : Advanced) → Takes l b a advanced → IsBlocked l b advanced (is_granted c) → later ≡ b → d ≡ c →
      HasGone l b later c d a true []
  -- it has gone on
  went : (advanced : Advanced) → Takes l b a advanced →
      ((events : List Event) × Now l b (λ p m. Commits p b later advanced (is_granted c) events m)) →
      d ≡ counted c (leaves_choice_at (instruction_for l advanced)) → HasGone l b later c d a false (named_by_step l b later a)

-- ---- turns

-- a subject has had its turn, which names these
abbrev pub HasHad : Loaded → Situation → Situation → Choices → Choices → Subject → Bool → List Subject → Type 0
HasHad l b later c d (subject.Activation a) stays named = HasGone l b later c d a stays named
HasHad l b later c d s stays named = HasMoved l b later s stays named × (d ≡ c)

-- the first subject has had its turn; what this names comes to the end, and then the subject itself, where it stays
pub record IsTurn (l : Loaded) (b later : Situation) (c d : Choices) (before after : List Subject) : Type 0 where
  pub first : Subject
  pub others : List Subject
  pub begun : before ≡ first ∷ others
  pub stays : Bool
  pub named : List Subject
  pub had : HasHad l b later c d first stays named
  pub few : length named ≤ 2
  pub ends : after ≡ others ++ named ++ (if stays then first ∷ [] else [])

-- the journal goes on by one entry at most
abbrev pub GoesOn : Situation → Situation → Type 0
GoesOn b later = (later.entries ≡ b.entries) ⊎ ((e : JournalEntry) × (later.entries ≡ b.entries ++ e ∷ []))
