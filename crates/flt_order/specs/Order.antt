-- Which locks are taken while which are held, by a certificate, and what an order of them is. This project's own definitions.
use Rattle.std.specs.Prelude.{◌≡◌, ℕ, ◌<◌, Bool, true, false, List, length, Option, Some, None, get_or, sum_by, if◌then◌else◌}
use Rattle.flt_rules.specs.Call.{place_of}
use Rattle.flt_rules.specs.Held.{holds_lock}
use Rattle.flt_rules.specs.declared.call.Call.{Call}
use Rattle.flt_rules.specs.declared.call.Call.TheVariants as call
use Rattle.flt_rules.specs.declared.call.LockNumber.{LockNumber}
use Rattle.flt_rules.specs.declared.held.HeldLock.{HeldLock}
use Rattle.flt_graph.specs.Graph.{instruction_at, line_at}
use Rattle.flt_graph.specs.Instruction.{roles}
use Rattle.flt_graph.specs.declared.graph.Graph.{Graph}
use Rattle.flt_graph.specs.declared.instruction.Instruction.{Instruction}
use Rattle.flt_graph.specs.declared.instruction.Instruction.TheVariants as instruction
use Rattle.flt_abs.specs.State.{State}
use Rattle.flt_cert.specs.Format.{Certificate}
use Rattle.flt_check.specs.Covering.{state_at, count_at}
use Rattle.flt_order.specs.declared.order.Acquisition.{Acquisition}

-- the lock that a call takes, alone or shared
abbrev pub taken_by_call : Call → Option LockNumber → Option LockNumber
taken_by_call (call.AcquireLock kind) l = l
taken_by_call call.AcquirePushLockShared l = l
taken_by_call _ l = None

-- the lock that an instruction takes
abbrev pub taken_by : Instruction → Option LockNumber
taken_by (instruction.Call c granted refused) = taken_by_call (roles c).call (roles c).lock
taken_by _ = None

-- the callback takes the lock at the point, which is reached, while it holds the other one, by the certificate; the point is on the line
pub record IsAcquired (g : Graph) (k : Certificate) (a : Acquisition) : Type 0 where
  pub state : State
  pub reached : state_at k a.callback a.point ≡ Some state
  pub line : a.line ≡ line_at g a.callback a.point
  pub takes : taken_by (instruction_at g a.callback a.point) ≡ Some a.taken
  pub holds : holds_lock a.holding state.locks ≡ true

-- locks are taken in an order: each has a rank, by its place, and whoever takes a lock holds only locks of smaller rank
pub record TakesInOrder (g : Graph) (k : Certificate) : Type 0 where
  pub rank : ℕ → ℕ
  pub ordered : (a : Acquisition) → IsAcquired g k a → rank (place_of a.holding) < rank (place_of a.taken)

-- ---- the search: locks get their ranks one after the other, and those that have none yet are left

-- whether a lock is among those that are left, by place
abbrev pub is_left : List Bool → LockNumber → Bool
is_left left l = get_or left (place_of l) false

-- an acquisition of the lock that holds one of those that are left
pub record IsFrom (g : Graph) (k : Certificate) (left : List Bool) (l : LockNumber) (a : Acquisition) : Type 0 where
  pub acquired : IsAcquired g k a
  pub taken : a.taken ≡ l
  pub among : is_left left a.holding ≡ true

-- none of the first n of these locks is left
abbrev pub NoneLeftBefore : List Bool → List HeldLock → ℕ → Type 0
NoneLeftBefore left locks n = (i : ℕ) (d : HeldLock) → i < n → is_left left (get_or locks i d).lock ≡ false

-- none of these locks is left
abbrev pub NoneLeft : List Bool → List HeldLock → Type 0
NoneLeft left locks = NoneLeftBefore left locks (length locks)

-- where the lock is taken at the point, none that is held is left
abbrev pub FreeAt : Graph → Certificate → List Bool → LockNumber → ℕ → ℕ → Type 0
FreeAt g k left l callback point = (x : State) → state_at k callback point ≡ Some x → taken_by (instruction_at g callback point) ≡ Some l →
    NoneLeft left x.locks

-- the same at each point before the n-th
abbrev pub FreeBefore : Graph → Certificate → List Bool → LockNumber → ℕ → ℕ → Type 0
FreeBefore g k left l callback n = (point : ℕ) → point < n → FreeAt g k left l callback point

-- the same at each point of the first n callbacks
abbrev pub FreeIn : Graph → Certificate → List Bool → LockNumber → ℕ → Type 0
FreeIn g k left l n = (callback : ℕ) → callback < n → FreeBefore g k left l callback (count_at k callback)

-- the lock is free: it is taken only where none that is left is held
abbrev pub IsFree : Graph → Certificate → List Bool → LockNumber → Type 0
IsFree g k left l = FreeIn g k left l (length k)

-- an acquisition of the lock that holds one that is left
abbrev pub IsTaken : Graph → Certificate → List Bool → LockNumber → Type 0
IsTaken g k left l = (a : Acquisition) × IsFrom g k left l a

-- each of the first n locks that is left is taken so
abbrev pub AreTakenBefore : Graph → Certificate → List Bool → ℕ → Type 0
AreTakenBefore g k left n = (l : LockNumber) → place_of l < n → is_left left l ≡ true → IsTaken g k left l

-- the locks that aren't left are in an order, with ranks below n, and whoever takes one of them holds none that is left
pub record AreRanked (g : Graph) (k : Certificate) (left : List Bool) (n : ℕ) : Type 0 where
  pub rank : ℕ → ℕ
  pub low : (l : LockNumber) → is_left left l ≡ false → rank (place_of l) < n
  pub ordered : (a : Acquisition) → IsAcquired g k a → is_left left a.taken ≡ false →
      (is_left left a.holding ≡ false) × (rank (place_of a.holding) < rank (place_of a.taken))

-- how many are left
abbrev pub count_left : List Bool → ℕ
count_left left = sum_by (λ (b : Bool). if b then 1 else 0) left
