-- Abstract states, and the situations that they mean. This project's own definitions.
use Rattle.std.specs.Prelude.{◌≡◌, ◌==◌, Bool, true, false, ◌&&◌, List, [], ◌∷◌, length}
use Rattle.std.specs.List.{list_all}
use Rattle.flt_rules.specs.Held.{same_locks}
use Rattle.flt_rules.specs.declared.held.HeldLock.{HeldLock}
use Rattle.flt_rules.specs.declared.place.Mode.{Mode}
use Rattle.flt_rules.specs.declared.place.Mode.TheVariants.{Irp, Fast}
use Rattle.flt_abs.specs.Locks.{are_locks}
use Rattle.flt_abs.specs.Sets.{StatusSet, ModeSet, DrainingSet, either_status, either_mode, either_draining, statuses_within}
use Rattle.flt_abs.specs.Sets.{modes_within, drainings_within, is_possible, is_mode_possible, is_draining_possible}

-- ---- situations

-- what is so of a variable: it is NULL, it is held, or it was released or handed over
pub data Status : Type 0 where
  Null : Status
  Held : Status
  Stale : Status

-- one status of each variable, a mode, draining or not, and the locks that are held
pub record Situation : Type 0 where
  pub contexts : List Status
  pub operations : List Status
  pub mode : Mode
  pub draining : Bool
  pub locks : List HeldLock

-- ---- states

-- for c0 to c7 and arg, and for o0 to o3 and data, what may be so of it; and the locks that are held, the oldest first
pub record State : Type 0 where
  pub contexts : List StatusSet
  pub operations : List StatusSet
  pub modes : ModeSet
  pub draining : DrainingSet
  pub locks : List HeldLock

abbrev pub state_of : List StatusSet → List StatusSet → ModeSet → DrainingSet → List HeldLock → State
state_of contexts operations modes draining locks =
    record { contexts = contexts; operations = operations; modes = modes; draining = draining; locks = locks }

-- the status is in the set
abbrev pub has_status : StatusSet → Status → Bool
has_status s Null = s.null
has_status s Held = s.held
has_status s Stale = s.stale

-- the mode is in the set
abbrev pub has_mode : ModeSet → Mode → Bool
has_mode s Irp = s.irp
has_mode s Fast = s.fast

-- the answer to the draining test is in the set
abbrev pub has_draining : DrainingSet → Bool → Bool
has_draining s true = s.yes
has_draining s false = s.no

-- each variable's status is in its set
abbrev pub have_statuses : List StatusSet → List Status → Bool
have_statuses [] [] = true
have_statuses [] (x ∷ statuses) = false
have_statuses (s ∷ sets) [] = false
have_statuses (s ∷ sets) (x ∷ statuses) = has_status s x && have_statuses sets statuses

-- the state means the situation
pub record Means (s : State) (t : Situation) : Type 0 where
  pub contexts : have_statuses s.contexts t.contexts ≡ true
  pub operations : have_statuses s.operations t.operations ≡ true
  pub mode : has_mode s.modes t.mode ≡ true
  pub draining : has_draining s.draining t.draining ≡ true
  pub locks : s.locks ≡ t.locks

-- there is a set for each of nine variables of contexts and five of operations, none of them empty, so the state
-- means some situation; and no lock is held twice
abbrev pub is_proper : State → Bool
is_proper s =
    (length s.contexts == 9) && ((length s.operations == 5) && (list_all is_possible s.contexts
    && (list_all is_possible s.operations && (is_mode_possible s.modes && (is_draining_possible s.draining && are_locks s.locks)))))

-- ---- their order

-- each situation of the first is one of the second, and both hold the same locks in the same way
pub record IsBelow (a b : State) : Type 0 where
  pub situations : (t : Situation) → Means a t → Means b t
  pub locks : a.locks ≡ b.locks

-- each set of the first list is within its set of the second
abbrev pub all_within : List StatusSet → List StatusSet → Bool
all_within [] [] = true
all_within [] (b ∷ ys) = false
all_within (a ∷ xs) [] = false
all_within (a ∷ xs) (b ∷ ys) = statuses_within a b && all_within xs ys

-- the same order, by computing
abbrev pub is_below : State → State → Bool
is_below a b =
    same_locks a.locks b.locks && (modes_within a.modes b.modes && (drainings_within a.draining b.draining
    && (all_within a.contexts b.contexts && all_within a.operations b.operations)))

-- ---- their join

-- the unions of the sets of two lists
abbrev pub either_all : List StatusSet → List StatusSet → List StatusSet
either_all [] ys = []
either_all (a ∷ xs) [] = a ∷ xs
either_all (a ∷ xs) (b ∷ ys) = either_status a b ∷ either_all xs ys

-- the union of each set, and the locks of the first
abbrev pub join_of : State → State → State
join_of a b =
    record {
      contexts = either_all a.contexts b.contexts;
      operations = either_all a.operations b.operations;
      modes = either_mode a.modes b.modes;
      draining = either_draining a.draining b.draining;
      locks = a.locks;
    }

-- the third is above the first two, and below whatever is
pub record IsJoin (a b c : State) : Type 0 where
  pub left : IsBelow a c
  pub right : IsBelow b c
  pub least : (d : State) → IsBelow a d → IsBelow b d → IsBelow c d
