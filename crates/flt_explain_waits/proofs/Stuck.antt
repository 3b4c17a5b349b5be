-- What waits for a lock can't go on.
use Rattle.std.proofs.Common.{◌≡◌, ◌∷◌, [], ◌&&◌, ℕ, zero, suc, Bool, true, false, List, Option, Some, None, refl, ◌∙◌, subst}
use Rattle.std.specs.Prelude.{All, if◌then◌else◌, length, option_and_then}
use Rattle.std.proofs.lemmas.List.Elements.{All-append, All-cons, All-nil}
use Rattle.flt_rules.specs.declared.call.LockNumber.{LockNumber}
use Rattle.flt_rules.specs.declared.held.Access.{Access}
use Rattle.flt_rules.specs.declared.held.Access.TheVariants.{Exclusive, Shared}
use Rattle.flt_tree.specs.declared.filter.Filter.{Filter}
use Rattle.flt_tree.specs.declared.filter.PlainCall.TheVariants as plain
use Rattle.flt_tree.specs.declared.filter.Span.{Span}
use Rattle.flt_tree.specs.declared.filter.Statement.{Statement, out-Statement}
use Rattle.flt_tree.specs.declared.filter.Statement.TheOpen.{Statement-F}
use Rattle.flt_model.specs.LocalSteps.{after_statement}
use Rattle.flt_model.specs.Runs.{Moment}
use Rattle.flt_model.specs.Steps.{may_go, may_take}
use Rattle.flt_model.specs.World.{Activation, World, activation_at, actor_at}
use Rattle.flt_explain_waits.specs.Asking.{asked}
use Rattle.flt_explain_waits.specs.Stuck.{IsStuck}
use Rattle.flt_explain_waits.specs.Waiting.{first_asked, holds, last_holder, listed, wait_for, wait_of, waits_at}
use Rattle.flt_explain_waits.specs.declared.asking.Request.{Request}
use Rattle.flt_explain_waits.specs.declared.waits.BlockedActivation.{BlockedActivation}

-- ---- a statement that takes a lock

-- it is no local step, and goes on only where the lock may be taken
record Takes (o : Statement-F Statement) (x : Request) : Type 0 where
  seen : (draining : Bool) (act : Activation) (rest : List Statement) → after_statement draining act rest o ≡ None
  goes : (w : World) (a : ℕ) (grant : Bool) → may_go w a grant o ≡ (grant && may_take w a x.lock x.access)

abbrev request : Span → LockNumber → Access → Request
request at l access = record { span = at; lock = l; access = access }

takes : (o : Statement-F Statement) (x : Request) → asked o ≡ Some x → Takes o x
takes (Statement-F.Call at (plain.AcquireLock k l)) x is =
    let same : request at l Exclusive ≡ x = cc in
    subst (λ y. Takes (Statement-F.Call at (plain.AcquireLock k l)) y) same
    (record { seen = λ draining act rest. refl; goes = λ w a grant. refl })
takes (Statement-F.Call at (plain.AcquirePushLockShared l)) x is =
    let same : request at l Shared ≡ x = cc in
    subst (λ y. Takes (Statement-F.Call at (plain.AcquirePushLockShared l)) y) same
    (record { seen = λ draining act rest. refl; goes = λ w a grant. refl })
takes (Statement-F.Call at (plain.DeleteContext c)) x is = absurd (cc)
takes (Statement-F.Call at (plain.ReferenceContext c d)) x is = absurd (cc)
takes (Statement-F.Call at (plain.ReleaseContext c)) x is = absurd (cc)
takes (Statement-F.Call at (plain.ReleaseLock k l)) x is = absurd (cc)
takes (Statement-F.Call at (plain.CompletePendedPreOperation d st)) x is = absurd (cc)
takes (Statement-F.Call at plain.CompletePendedPostOperation) x is = absurd (cc)
takes (Statement-F.Act at action) x is = absurd (cc)
takes (Statement-F.Return at status) x is = absurd (cc)
takes (Statement-F.If at condition granted refused) x is = absurd (cc)
takes (Statement-F.Repeat at turns block) x is = absurd (cc)

-- ---- who holds it

-- the last one that holds a lock holds it
pub last_holds : (w : World) (a : ℕ) (l : LockNumber) (n h : ℕ) → last_holder w a l n ≡ Some h → holds w a l h ≡ true
last_holds w a l zero h is = absurd (cc)
last_holds w a l (suc b) h is = by (λ is. last_holds w a l b h is) (holds w a l b) refl is
  where
    by : (last_holder w a l b ≡ Some h → holds w a l h ≡ true) → (x : Bool) → holds w a l b ≡ x →
        (if x then Some b else last_holder w a l b) ≡ Some h → holds w a l h ≡ true
    by more true is led = let same : b ≡ h = cc (led) in subst (λ k. holds w a l k ≡ true) same is
    by more false is led = more led

-- ---- an activation that waits

-- it is stuck, and is the activation of this number
pub record IsHeldUp (p : List Filter) (m : Moment) (a : ℕ) (b : BlockedActivation) : Type 0 where
  pub number : b.activation ≡ a
  pub stuck : IsStuck p m b

-- the activation that waits for a lock which it may not take
abbrev blocked : World → ℕ → Request → BlockedActivation
blocked w a x = record {
  activation = a;
  filter = (actor_at w a).filter;
  span = x.span;
  lock = x.lock;
  holder = last_holder w a x.lock (length w.activations);
}

no_grant : (grant : Bool) → (grant && false) ≡ false
no_grant true = refl
no_grant false = refl

module _ (p : List Filter) (m : Moment) (a : ℕ) (b : BlockedActivation) where
  by_request : (s : Statement) (rest : List Statement) (x : Request) → (activation_at m.world a).ended ≡ false →
      (activation_at m.world a).rest ≡ s ∷ rest → asked (out-Statement s) ≡ Some x → (may : Bool) →
      may_take m.world a x.lock x.access ≡ may → wait_for m.world a x ≡ Some b → IsHeldUp p m a b
  by_request s rest x on are asks true free waits =
      let none : wait_for m.world a x ≡ None = rw free refl in
      absurd (cc)
  by_request s rest x on are asks false free waits =
      let t = takes (out-Statement s) x asks in
      let here : wait_for m.world a x ≡ Some (blocked m.world a x) = rw free refl in
      let none = t.seen (actor_at m.world a).draining (activation_at m.world a) rest in
      let no : (grant : Bool) → may_go m.world a grant (out-Statement s) ≡ false =
      λ grant. t.goes m.world a grant ∙ rw free (no_grant grant) in
      let same : blocked m.world a x ≡ b = cc (here, waits) in
      subst (λ k. IsHeldUp p m a k) same
      (record {
        number = refl;
        stuck = record {
          runs = on;
          unseen = rw (on, are, none) refl;
          seen = λ grant. rw (on, are, no grant) refl;
          held = λ h is. last_holds m.world a x.lock (length m.world.activations) h is;
        };
      })

  by_statement : (s : Statement) (rest : List Statement) → (activation_at m.world a).ended ≡ false →
      (activation_at m.world a).rest ≡ s ∷ rest → (o : Option Request) → asked (out-Statement s) ≡ o →
      option_and_then (wait_for m.world a) o ≡ Some b → IsHeldUp p m a b
  by_statement s rest on are None asks waits = absurd (cc)
  by_statement s rest on are (Some x) asks waits =
      by_request s rest x on are asks (may_take m.world a x.lock x.access) refl waits

  by_rest : (ended : Bool) (rest : List Statement) → (activation_at m.world a).ended ≡ ended → (activation_at m.world a).rest ≡ rest →
      (if ended then None else option_and_then (wait_for m.world a) (first_asked rest)) ≡ Some b → IsHeldUp p m a b
  by_rest true rest on are waits = absurd (cc)
  by_rest false [] on are waits = absurd (cc)
  by_rest false (s ∷ rest) on are waits = by_statement s rest on are (asked (out-Statement s)) refl waits

  -- what waits for a lock is held up
  pub held_up : wait_of m.world a ≡ Some b → IsHeldUp p m a b
  held_up waits = by_rest (activation_at m.world a).ended (activation_at m.world a).rest refl refl waits

-- ---- all that wait

module _ (p : List Filter) (m : Moment) where
  one_stuck : (a : ℕ) (o : Option BlockedActivation) → wait_of m.world a ≡ o → All (IsStuck p m) (listed o)
  one_stuck a None is = All-nil (IsStuck p m)
  one_stuck a (Some b) is = All-cons (IsStuck p m) b [] (held_up p m a b is).stuck (All-nil (IsStuck p m))

  -- each activation that waits for a lock can't go on
  pub all_stuck : (n : ℕ) → All (IsStuck p m) (waits_at m.world n)
  all_stuck zero = All-nil (IsStuck p m)
  all_stuck (suc a) =
      All-append (IsStuck p m) (waits_at m.world a) (listed (wait_of m.world a)) (all_stuck a) (one_stuck a (wait_of m.world a) refl)
