-- What activations wait for. This project's own definitions.
use Rattle.std.specs.Prelude.{◌≡◌, ◌⊎◌, ◌==◌, ◌&&◌, ◌++◌, ◌∷◌, [], ℕ, zero, suc, Bool, false, not, if◌then◌else◌}
use Rattle.std.specs.Prelude.{List, Option, Some, None, is_some, length, option_and_then}
use Rattle.flt_model.specs.Steps.{local, may_take}
use Rattle.flt_model.specs.World.{World, activation_at, actor_at}
use Rattle.flt_rules.specs.Held.{holds_lock}
use Rattle.flt_rules.specs.declared.call.LockNumber.{LockNumber}
use Rattle.flt_replay_steps.specs.Unseen.{unseen}
use Rattle.flt_tree.specs.declared.filter.Statement.{Statement, out-Statement}
use Rattle.flt_explain_waits.specs.Asking.{asked}
use Rattle.flt_explain_waits.specs.declared.asking.Request.{Request}
use Rattle.flt_explain_waits.specs.declared.waits.BlockedActivation.{BlockedActivation}
use Rattle.flt_rules.specs.Limits.{max_cost}

-- the activation's local steps, as many as come one after another, or 1,000,000 of them
pub record IsSettled (w : World) (a : ℕ) (u : World) : Type 0 where
  pub steps : ℕ
  pub led : unseen steps w a ≡ Some u
  pub last : (steps ≡ max_cost) ⊎ (is_some (local [] [] u a) ≡ false)

-- whether an activation holds a lock that another of the same filter asks for
abbrev pub holds : World → ℕ → LockNumber → ℕ → Bool
holds w a l b =
    not (b == a) && (((actor_at w b).filter == (actor_at w a).filter) && holds_lock l (activation_at w b).locks)

-- the last of so many activations that holds it
abbrev pub last_holder : World → ℕ → LockNumber → ℕ → Option ℕ
last_holder w a l zero = None
last_holder w a l (suc b) = if holds w a l b then Some b else last_holder w a l b

-- what an activation waits for that asks for this lock; nothing where it may take it
abbrev pub wait_for : World → ℕ → Request → Option BlockedActivation
wait_for w a x =
    if may_take w a x.lock x.access then None else Some (record {
      activation = a;
      filter = (actor_at w a).filter;
      span = x.span;
      lock = x.lock;
      holder = last_holder w a x.lock (length w.activations);
    })

-- the lock that the first of some statements takes
abbrev pub first_asked : List Statement → Option Request
first_asked [] = None
first_asked (s ∷ rest) = asked (out-Statement s)

-- what an activation waits for by its first statement; one that has ended waits for nothing
abbrev pub wait_of : World → ℕ → Option BlockedActivation
wait_of w a =
    let act = activation_at w a in if act.ended then None else option_and_then (wait_for w a) (first_asked act.rest)

-- a list of what there is
abbrev pub listed : Option BlockedActivation → List BlockedActivation
listed None = []
listed (Some wait) = wait ∷ []

-- what the first so many activations wait for, each by its first statement
abbrev pub waits_at : World → ℕ → List BlockedActivation
waits_at w zero = []
waits_at w (suc a) = waits_at w a ++ listed (wait_of w a)

-- the first so many activations make their local steps, which nobody else sees, one activation after the other
abbrev pub AreSettled : World → ℕ → World → Type 0
AreSettled w zero u = u ≡ w
AreSettled w (suc a) u = (v : World) × AreSettled w a v × IsSettled v a u

-- what the activations wait for, once all have made their local steps
abbrev pub AreWaits : World → World → List BlockedActivation → Type 0
AreWaits w u waits = AreSettled w (length w.activations) u × (waits ≡ waits_at u (length u.activations))
