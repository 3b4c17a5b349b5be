-- A step of a call, a read or a test leaves its activation going on, and adds no lock that the activation holds already.
use Rattle.std.proofs.Common.{◌≡◌, ◌<◌, ℕ, ◌+◌, Bool, true, false, if◌then◌else◌, List, [], ◌∷◌, ◌++◌, length}
use Rattle.std.proofs.Common.{Option, Some, None, get_or, set, is_some, arith, ap, subst, sym, refl, ◌∙◌}
use Rattle.std.proofs.lemmas.Bool.{false≢true}
use Rattle.std.proofs.lemmas.List.{get_or-replicate, get_or-set_same, length-replicate}
use Rattle.flt_rules.specs.Held.{held, holds_lock, without_last}
use Rattle.flt_rules.specs.Place.{is_irp}
use Rattle.flt_rules.specs.declared.call.Existing.{Existing}
use Rattle.flt_rules.specs.declared.call.Existing.TheVariants.{Keep, Replace}
use Rattle.flt_rules.specs.declared.call.LockNumber.{LockNumber}
use Rattle.flt_rules.specs.declared.held.Access.{Access}
use Rattle.flt_rules.specs.declared.held.HeldLock.{HeldLock}
use Rattle.flt_rules.specs.declared.held.Access.TheVariants.{Exclusive, Shared}
use Rattle.flt_tree.specs.Filter.{context_of}
use Rattle.flt_tree.specs.Variable.{whose}
use Rattle.flt_tree.specs.declared.filter.FallibleCall.{FallibleCall}
use Rattle.flt_tree.specs.declared.filter.FallibleCall.TheVariants as fallible
use Rattle.flt_tree.specs.declared.filter.Filter.{Filter}
use Rattle.flt_tree.specs.declared.filter.PlainCall.{PlainCall}
use Rattle.flt_tree.specs.declared.filter.PlainCall.TheVariants as plain
use Rattle.flt_tree.specs.declared.filter.Statement.{Statement}
use Rattle.flt_tree.specs.declared.filter.Status.{Status}
use Rattle.flt_tree.specs.declared.variable.Atom.{Atom}
use Rattle.flt_tree.specs.declared.variable.ContextVariable.{ContextVariable}
use Rattle.flt_tree.specs.declared.variable.NumberVariable.{NumberVariable}
use Rattle.flt_tree.specs.declared.variable.OperationVariable.{OperationVariable}
use Rattle.flt_tree.specs.declared.variable.OperationVariable.TheVariants.{Removed, Data}
use Rattle.flt_tree.specs.declared.variable.RemovedVariable.{RemovedVariable}
use Rattle.flt_machine_frames.specs.Standings.{activation_with}
use Rattle.flt_model.specs.Calls as calls
use Rattle.flt_model.specs.Effects.{Step, onward, goes_on, unchanged, gives_nothing, after_unlink, freed_by_drop, loses_context}
use Rattle.flt_model.specs.Locks.{with_holder, without_holder}
use Rattle.flt_model.specs.Reads as reads
use Rattle.flt_model.specs.Steps.{numbered_step, plain_step}
use Rattle.flt_model.specs.Variables.{context_in, operation_in, named_in, with_number, with_old, with_context_in, with_operation_in}
use Rattle.flt_model.specs.declared.parts.Entry.{Entry}
use Rattle.flt_model.specs.declared.parts.Link.{Link}
use Rattle.flt_model.specs.World.{World, Store, Activation, nobody, actor_at, activation_at}
use Rattle.flt_model.specs.World.{context_at, linked_at, is_attached, presence_at, queue_at, arrival_of}
use Rattle.flt_model.specs.declared.event.Answer.{Answer}
use Rattle.flt_model.specs.declared.event.Answer.TheVariants.{CompletesPre, CompletesPost}
use Rattle.flt_model.specs.declared.event.Event.{Event}
use Rattle.flt_model.specs.declared.event.Event.TheVariants as event
use Rattle.flt_model.specs.declared.event.Object.TheVariants.{Visit}
use Rattle.flt_machine_calls.specs.Plans.{Plans, TakesNone, is_end, world_of, written}
use Rattle.flt_machine_calls.specs.declared.caller.Caller.{Caller}
use Rattle.flt_machine_calls.specs.declared.plans.Plan.{Plan}
use Rattle.flt_machine_calls.specs.declared.plans.Write.{Write}
use Rattle.flt_machine_calls.specs.declared.plans.Write.TheVariants as write
use Rattle.flt_machine_calls.proofs.Called.{actors_with, activations_with, is_caller}
use Rattle.flt_machine_calls.proofs.Fresh.{AddsFresh, same_fresh, one_fresh, fewer_fresh}

-- the activation is another one, which goes on; a lock that it holds more wasn't held
pub record Lasts (w : World) (a : ℕ) (step : Step) : Type 0 where
  pub act : Activation
  pub is : step.world.activations ≡ set w.activations a act
  pub lives : act.ended ≡ false
  pub fresh : AddsFresh (activation_at w a).locks act.locks

written_lives : (x : Write) (act : Activation) → (written x act).ended ≡ false → is_end x ≡ false
written_lives write.End act h = h
written_lives write.Nothing act h = refl
written_lives (write.Number n value) act h = refl
written_lives (write.Output d x) act h = refl
written_lives (write.Removed o v d x) act h = refl
written_lives (write.Take l access) act h = refl
written_lives (write.GiveUp l) act h = refl

takes_by : (locks : List HeldLock) (x : Write) (act : Activation) →
    act.locks ≡ locks → AddsFresh locks (written x act).locks → TakesNone locks x
takes_by locks (write.Take l access) act is fresh = fresh l access (ap (λ (hs : List HeldLock). hs ++ held l access ∷ []) is)
takes_by locks write.Nothing act is fresh = tt
takes_by locks (write.Number n value) act is fresh = tt
takes_by locks (write.Output d x) act is fresh = tt
takes_by locks (write.Removed o v d x) act is fresh = tt
takes_by locks (write.GiveUp l) act is fresh = tt
takes_by locks write.End act is fresh = tt

module _ (s : Store) (c : Caller) (plan : Plan) (step : World → List Statement → List Statement → Step) (planned : Plans s c plan step)
    (lasts : (w : World) → (activation_at w c.activation).ended ≡ false → Lasts w c.activation (step w [] [])) where
  abbrev w : World
  w = world_of s (actors_with c) (activations_with c)

  here : get_or (activations_with c) c.activation nobody ≡ activation_with c.standing []
  here = get_or-replicate (c.activation + 1) c.activation (activation_with c.standing []) nobody (omega arith)

  found : Lasts w c.activation (step w [] [])
  found = lasts w (ap (λ (act : Activation). act.ended) here)

  abbrev later : Activation
  later = onward w c.activation (if plan.granted then [] else [])

  within : c.activation < length (activations_with c)
  within = omega (arith, length-replicate (c.activation + 1) (activation_with c.standing []))

  there : (act : Activation) → get_or (set (activations_with c) c.activation act) c.activation nobody ≡ act
  there act = get_or-set_same (activations_with c) c.activation act nobody within

  both : set (activations_with c) c.activation found.act ≡ set (activations_with c) c.activation (written plan.write later)
  both = sym found.is ∙ ap (λ (x : World). x.activations) (planned (actors_with c) (activations_with c) [] [] (is_caller c)).world

  same : found.act ≡ written plan.write later
  same = sym (there found.act) ∙ ap (λ (l : List Activation). get_or l c.activation nobody) both ∙ there (written plan.write later)

  -- a plan of a step that leaves the activation going on doesn't end it
  pub not_ended : is_end plan.write ≡ false
  not_ended = written_lives plan.write later (ap (λ (act : Activation). act.ended) (sym same) ∙ found.lives)

  locks_are : (activation_at w c.activation).locks ≡ c.standing.locks
  locks_are = ap (λ (act : Activation). act.locks) here

  -- and takes no lock that the caller holds
  pub takes_none : TakesNone c.standing.locks plan.write
  takes_none = takes_by c.standing.locks plan.write later locks_are
      (subst (λ (hs : List HeldLock). AddsFresh hs (written plan.write later).locks) locks_are
      (subst (λ (act : Activation). AddsFresh (activation_at w c.activation).locks act.locks) same found.fresh))

module _ (w : World) (a : ℕ) (lives : (activation_at w a).ended ≡ false) where
  -- the like of another step that leads to the same activations
  like : {x y : Step} → x.world.activations ≡ y.world.activations → Lasts w a x → Lasts w a y
  like is h = record { act = h.act; is = sym is ∙ h.is; lives = h.lives; fresh = h.fresh }

  -- its locks stay
  kept : AddsFresh (activation_at w a).locks (activation_at w a).locks
  kept = same_fresh (activation_at w a).locks

  on : (rest : List Statement) (s : Store) (es : List Event) → Lasts w a (goes_on w a (onward w a rest) s es)
  on rest s es = record { act = onward w a rest; is = refl; lives = lives; fresh = kept }

  gives : (old : Option ContextVariable) (x : Option ℕ) (rest : List Statement) (s : Store) (es : List Event) →
      Lasts w a (goes_on w a (with_old (onward w a rest) old x) s es)
  gives None x rest s es = on rest s es
  gives (Some d) x rest s es = record { act = with_context_in (onward w a rest) d x; is = refl; lives = lives; fresh = kept }

  got : (d : ContextVariable) (granted refused : List Statement) (x : Option ℕ) → Lasts w a (calls.got w a d granted refused x)
  got d granted refused None = gives (Some d) None refused w.store []
  got d granted refused (Some x) = record { act = with_context_in (onward w a granted) d (Some x); is = refl; lives = lives; fresh = kept }

  get_by : (d : ContextVariable) (granted refused : List Statement) (l : Option Link) → Lasts w a (calls.get_by w a d granted refused l)
  get_by d granted refused None = on refused w.store []
  get_by d granted refused (Some l) = got d granted refused (linked_at w.store l)

  either : (b : Bool) (x y : Step) → Lasts w a x → Lasts w a y → Lasts w a (if b then x else y)
  either true x y yes_lasts no_lasts = yes_lasts
  either false x y yes_lasts no_lasts = no_lasts

  set_there : (existing : Existing) (old : Option ContextVariable) (granted refused : List Statement) (x : ℕ) (l : Link) (y : Option ℕ) →
      Lasts w a (calls.set_there w a existing old granted refused x l y)
  set_there existing old granted refused x l None = like refl (gives old None granted w.store [])
  set_there Keep None granted refused x l (Some y) = on refused w.store []
  set_there Keep (Some d) granted refused x l (Some y) = got d refused refused (Some y)
  set_there Replace old granted refused x l (Some y) = like refl (gives old (Some y) granted w.store [])

  set_by : (existing : Existing) (old : Option ContextVariable) (granted refused : List Statement) (x : Option ℕ) (l : Option Link) →
      Lasts w a (calls.set_by w a existing old granted refused x l)
  set_by existing old granted refused None l = on refused w.store []
  set_by existing old granted refused (Some x) None = on refused w.store []
  set_by existing old granted refused (Some x) (Some l) =
      either (calls.cannot_set w a x) (gives_nothing w a old refused) (calls.set_there w a existing old granted refused x l
      (linked_at w.store l)) (gives old None refused w.store []) (set_there existing old granted refused x l (linked_at w.store l))

  delete_by : (old : Option ContextVariable) (granted refused : List Statement) (l : Option Link) →
      Lasts w a (calls.delete_by w a old granted refused l)
  delete_by old granted refused None = on refused w.store []
  delete_by old granted refused (Some l) = unlinked (linked_at w.store l)
    where
      unlinked : (y : Option ℕ) → Lasts w a (calls.unlinked w a old granted refused y)
      unlinked None = gives old None refused w.store []
      unlinked (Some y) = like refl (gives old (Some y) granted w.store [])

  pub deleted : (rest : List Statement) (x : Option ℕ) → Lasts w a (calls.deleted w a rest x)
  deleted rest None = on rest w.store []
  deleted rest (Some x) = chosen (is_some (context_at w.store x).link)
    where
      chosen : (b : Bool) → Lasts w a
          (if b then goes_on w a (onward w a rest) (after_unlink w.store x None) (freed_by_drop w.store x) else unchanged w a rest)
      chosen true = record { act = onward w a rest; is = refl; lives = lives; fresh = kept }
      chosen false = on rest w.store []

  pub referenced : (d : ContextVariable) (rest : List Statement) (x : Option ℕ) → Lasts w a (calls.referenced w a d rest x)
  referenced d rest None = on rest w.store []
  referenced d rest (Some x) = got d rest rest (Some x)

  pub released : (rest : List Statement) (x : Option ℕ) → Lasts w a (calls.released w a rest x)
  released rest None = on rest w.store []
  released rest (Some x) = record { act = onward w a rest; is = refl; lives = lives; fresh = kept }

  pub taken : (l : LockNumber) (access : Access) (rest : List Statement) → Lasts w a (calls.taken w a l access rest)
  taken l access rest = by_held (holds_lock l (activation_at w a).locks) refl
    where
      other : Step
      other = goes_on w a (record (onward w a rest) { locks = (activation_at w a).locks ++ held l access ∷ [] })
          (with_holder w.store (actor_at w a).filter l (record { activation = a; access = access })) []

      by_held : (b : Bool) → holds_lock l (activation_at w a).locks ≡ b → Lasts w a (if b then unchanged w a rest else other)
      by_held true is = on rest w.store []
      by_held false is = record {
        act = record (onward w a rest) { locks = (activation_at w a).locks ++ held l access ∷ [] };
        is = refl;
        lives = lives;
        fresh = one_fresh l access (activation_at w a).locks is;
      }

  pub given_up : (l : LockNumber) (rest : List Statement) → Lasts w a (calls.given_up w a l rest)
  given_up l rest = either (holds_lock l (activation_at w a).locks) other (unchanged w a rest) others (on rest w.store [])
    where
      other : Step
      other = goes_on w a (record (onward w a rest) { locks = without_last l (activation_at w a).locks })
          (without_holder w.store (actor_at w a).filter l a) []

      others : Lasts w a other
      others = record {
        act = record (onward w a rest) { locks = without_last l (activation_at w a).locks };
        is = refl;
        lives = lives;
        fresh = fewer_fresh l (activation_at w a).locks;
      }

  enqueued : (granted refused : List Statement) (v : ℕ) (x : Option ℕ) → Lasts w a (calls.enqueued w a granted refused v x)
  enqueued granted refused v x = either (is_attached (presence_at w.store (actor_at w a).filter)) other (unchanged w a refused)
      (record { act = onward w a granted; is = refl; lives = lives; fresh = kept }) (on refused w.store [])
    where
      other : Step
      other = goes_on w a (onward w a granted) (calls.with_entry w a (record { visit = v; context = x }))
          (event.Lose a (Visit v) ∷ loses_context a x)

  insert_by : (granted refused : List Statement) (v : Option ℕ) (c : Option (Option ℕ)) →
      Lasts w a (calls.insert_by w a granted refused v c)
  insert_by granted refused None c = on refused w.store []
  insert_by granted refused (Some v) (Some None) = on refused w.store []
  insert_by granted refused (Some v) (Some (Some x)) = enqueued granted refused v (Some x)
  insert_by granted refused (Some v) None = enqueued granted refused v None

  removed : (o : RemovedVariable) (d : ContextVariable) (granted refused : List Statement) (queue : List Entry) →
      Lasts w a (calls.removed w a o d granted refused queue)
  removed o d granted refused [] = record
      { act = with_context_in (with_operation_in (onward w a refused) (Removed o) None) d None; is = refl; lives = lives; fresh = kept }
  removed o d granted refused (e ∷ queue) =
      record {
        act = with_context_in (with_operation_in (onward w a granted) (Removed o) (Some e.visit)) d e.context;
        is = refl;
        lives = lives;
        fresh = kept;
      }

  deferred : (routine : ℕ) (grant : Bool) (granted refused : List Statement) (v : ℕ) (x : Option ℕ) →
      Lasts w a (if grant then calls.deferred w a routine granted v x else unchanged w a refused)
  deferred routine true granted refused v x = record { act = onward w a granted; is = refl; lives = lives; fresh = kept }
  deferred routine false granted refused v x = on refused w.store []

  defer_by : (routine : ℕ) (grant : Bool) (granted refused : List Statement) (v : Option ℕ) (c : Option (Option ℕ)) →
      Lasts w a (calls.defer_by w a routine grant granted refused v c)
  defer_by routine grant granted refused None c = on refused w.store []
  defer_by routine grant granted refused (Some v) (Some None) = on refused w.store []
  defer_by routine grant granted refused (Some v) (Some (Some x)) = deferred routine grant granted refused v (Some x)
  defer_by routine grant granted refused (Some v) None = deferred routine grant granted refused v None

  queue_by : (routine : ℕ) (grant : Bool) (granted refused : List Statement) (c : Option (Option ℕ)) →
      Lasts w a (calls.queue_by w a routine grant granted refused c)
  queue_by routine grant granted refused (Some None) = on refused w.store []
  queue_by routine true granted refused (Some (Some x)) = record { act = onward w a granted; is = refl; lives = lives; fresh = kept }
  queue_by routine false granted refused (Some (Some x)) = on refused w.store []
  queue_by routine true granted refused None = record { act = onward w a granted; is = refl; lives = lives; fresh = kept }
  queue_by routine false granted refused None = on refused w.store []

  allocated : (d : ContextVariable) (grant : Bool) (granted refused : List Statement) →
      Lasts w a (if grant then calls.allocated w a d granted (length w.store.contexts) else gives_nothing w a (Some d) refused)
  allocated d true granted refused =
      record { act = with_context_in (onward w a granted) d (Some (length w.store.contexts)); is = refl; lives = lives; fresh = kept }
  allocated d false granted refused = gives (Some d) None refused w.store []

  -- reads and the test
  pub read_value : (n : NumberVariable) (rest : List Statement) (x : Option ℕ) → Lasts w a (reads.read_value_of w a n rest x)
  read_value n rest None = on rest w.store []
  read_value n rest (Some x) =
      record { act = with_number (onward w a rest) n (context_at w.store x).value; is = refl; lives = lives; fresh = kept }

  pub read_file : (n : NumberVariable) (rest : List Statement) (v : Option ℕ) → Lasts w a (reads.read_file_of w a n rest v)
  read_file n rest None = on rest w.store []
  read_file n rest (Some v) =
      record { act = with_number (onward w a rest) n (arrival_of w.store v).file; is = refl; lives = lives; fresh = kept }

  pub write_value : (value : Atom) (rest : List Statement) (x : Option ℕ) → Lasts w a (reads.write_value_of w a value rest x)
  write_value value rest None = on rest w.store []
  write_value value rest (Some x) = record { act = onward w a rest; is = refl; lives = lives; fresh = kept }

  pub test_irp : (holds fails : List Statement) (v : Option ℕ) → Lasts w a (reads.test_irp_of w a holds fails v)
  test_irp holds fails None = on fails w.store []
  test_irp holds fails (Some v) = on (if is_irp (arrival_of w.store v).mode then holds else fails) w.store []

  -- the whole step of a call
  completed : (p : List Filter) (rest : List Statement) (v : ℕ) (x : Option ℕ) (answer : Answer) →
      Lasts w a (calls.completed w a p rest v x answer)
  completed p rest v x answer = record { act = onward w a rest; is = refl; lives = lives; fresh = kept }

  complete_by : (p : List Filter) (d : OperationVariable) (st : Status) (rest : List Statement) (v : Option ℕ) (c : Option (Option ℕ)) →
      Lasts w a (calls.complete_by w a p d st rest v c)
  complete_by p d st rest None c = on rest w.store []
  complete_by p d st rest (Some v) (Some None) = on rest w.store []
  complete_by p d st rest (Some v) (Some (Some x)) = completed p rest v (Some x) (CompletesPre (whose d) v st)
  complete_by p d st rest (Some v) None = completed p rest v None (CompletesPre (whose d) v st)

  complete_post_by : (p : List Filter) (rest : List Statement) (v : Option ℕ) → Lasts w a (calls.complete_post_by w a p rest v)
  complete_post_by p rest None = on rest w.store []
  complete_post_by p rest (Some v) = completed p rest v None (CompletesPost v)

  -- what is told first changes no activation
  same_world : (x y : Step) → x.world ≡ y.world → Lasts w a x → Lasts w a y
  same_world x y is = like (ap (λ (u : World). u.activations) is)

  -- a call that can fail leaves its activation going on
  pub fallible_lasts : (grant : Bool) (granted refused : List Statement) (x : FallibleCall ℕ) →
      Lasts w a (numbered_step w a grant granted refused x)
  fallible_lasts grant granted refused (fallible.AllocateContext d) =
      same_world (if grant then calls.allocated w a d granted (length w.store.contexts) else gives_nothing w a (Some d) refused)
      (calls.allocate w a d grant granted refused) refl (allocated d grant granted refused)
  fallible_lasts grant granted refused (fallible.GetContext on_what d) =
      let l = calls.link_of w.store (actor_at w a).filter on_what (operation_in (activation_at w a) Data) in
      same_world (calls.get_by w a d granted refused l) (calls.get w a on_what d granted refused) refl (get_by d granted refused l)
  fallible_lasts grant granted refused (fallible.SetContext on_what existing c old) =
      let l = calls.link_of w.store (actor_at w a).filter on_what (operation_in (activation_at w a) Data) in
      let x = context_in (activation_at w a) c in
      same_world (calls.set_by w a existing old granted refused x l) (calls.set_context w a on_what existing c old granted refused) refl
      (set_by existing old granted refused x l)
  fallible_lasts grant granted refused (fallible.DeleteContextOf on_what old) =
      let l = calls.link_of w.store (actor_at w a).filter on_what (operation_in (activation_at w a) Data) in
      same_world (calls.delete_by w a old granted refused l) (calls.delete_at w a on_what old granted refused) refl
      (delete_by old granted refused l)
  fallible_lasts grant granted refused (fallible.InsertIo c) =
      let v = operation_in (activation_at w a) Data in
      let x = named_in (activation_at w a) c in
      same_world (calls.insert_by w a granted refused v x) (calls.insert w a c granted refused) refl (insert_by granted refused v x)
  fallible_lasts grant granted refused (fallible.RemoveNextIo o d) =
      let queue = queue_at w.store (actor_at w a).filter in
      same_world (calls.removed w a o d granted refused queue) (calls.remove_next w a o d granted refused) refl
      (removed o d granted refused queue)
  fallible_lasts grant granted refused (fallible.QueueDeferredIoWorkItem routine c) =
      let v = operation_in (activation_at w a) Data in
      let x = named_in (activation_at w a) c in
      same_world (calls.defer_by w a routine grant granted refused v x) (calls.queue_deferred w a routine c grant granted refused) refl
      (defer_by routine grant granted refused v x)
  fallible_lasts grant granted refused (fallible.QueueGenericWorkItem routine c) =
      let x = named_in (activation_at w a) c in
      same_world (calls.queue_by w a routine grant granted refused x) (calls.queue_generic w a routine c grant granted refused) refl
      (queue_by routine grant granted refused x)

  -- a plain call leaves its activation going on
  pub plain_lasts : (p : List Filter) (t : List Event) (rest : List Statement) (call : PlainCall) → Lasts w a (plain_step p t w a rest call)
  plain_lasts p t rest (plain.DeleteContext c) =
      let x = context_in (activation_at w a) c in same_world (calls.deleted w a rest x) (calls.delete w a c rest) refl (deleted rest x)
  plain_lasts p t rest (plain.ReferenceContext c d) =
      let x = context_in (activation_at w a) c in
      same_world (calls.referenced w a d rest x) (calls.reference w a c d rest) refl (referenced d rest x)
  plain_lasts p t rest (plain.ReleaseContext c) =
      let x = context_in (activation_at w a) c in same_world (calls.released w a rest x) (calls.release w a c rest) refl (released rest x)
  plain_lasts p t rest (plain.AcquireLock k l) =
      same_world (calls.taken w a l Exclusive rest) (calls.acquire w a k l rest) refl (taken l Exclusive rest)
  plain_lasts p t rest (plain.AcquirePushLockShared l) =
      same_world (calls.taken w a l Shared rest) (calls.acquire_shared w a l rest) refl (taken l Shared rest)
  plain_lasts p t rest (plain.ReleaseLock k l) =
      same_world (calls.given_up w a l rest) (calls.release_lock w a k l rest) refl (given_up l rest)
  plain_lasts p t rest (plain.CompletePendedPreOperation d st) =
      let v = operation_in (activation_at w a) d in
      let c = named_in (activation_at w a) (context_of st) in
      same_world (calls.complete_by w a p d st rest v c) (calls.complete_pre w a p d st rest) refl (complete_by p d st rest v c)
  plain_lasts p t rest plain.CompletePendedPostOperation =
      let v = operation_in (activation_at w a) Data in
      same_world (calls.complete_post_by w a p rest v) (calls.complete_post w a p rest) refl (complete_post_by p rest v)

  -- a read of a context's value leaves its activation going on
  pub value_lasts : (n : NumberVariable) (c : ContextVariable) (rest : List Statement) → Lasts w a (reads.read_value w a n c rest)
  value_lasts n c rest = let x = context_in (activation_at w a) c in
      same_world (reads.read_value_of w a n rest x) (reads.read_value w a n c rest) refl (read_value n rest x)

  -- a read of an operation's file leaves its activation going on
  pub file_lasts : (n : NumberVariable) (d : OperationVariable) (rest : List Statement) → Lasts w a (reads.read_file w a n d rest)
  file_lasts n d rest = let v = operation_in (activation_at w a) d in
      same_world (reads.read_file_of w a n rest v) (reads.read_file w a n d rest) refl (read_file n rest v)

  -- a write of a context's value leaves its activation going on
  pub write_lasts : (c : ContextVariable) (value : Atom) (rest : List Statement) → Lasts w a (reads.write_value w a c value rest)
  write_lasts c value rest = let x = context_in (activation_at w a) c in
      same_world (reads.write_value_of w a value rest x) (reads.write_value w a c value rest) refl (write_value value rest x)

  -- the test of an operation's mode leaves its activation going on
  pub test_lasts : (holds fails : List Statement) → Lasts w a (reads.test_irp w a holds fails)
  test_lasts holds fails = let v = operation_in (activation_at w a) Data in
      same_world (reads.test_irp_of w a holds fails v) (reads.test_irp w a holds fails) refl (test_irp holds fails v)

module _ (s : Store) (c : Caller) (plan : Plan) where
  -- the plan of a plain call takes no lock that the caller holds
  pub plain_takes : (call : PlainCall) → Plans s c plan (λ w granted refused. plain_step [] [] w c.activation granted call) →
      TakesNone c.standing.locks plan.write
  plain_takes call planned = takes_none s c plan (λ w granted refused. plain_step [] [] w c.activation granted call) planned
      (λ w lives. plain_lasts w c.activation lives [] [] [] call)

  -- the plan of a call that can fail takes no lock that the caller holds
  pub fallible_takes : (grant : Bool) (x : FallibleCall ℕ) →
      Plans s c plan (λ w granted refused. numbered_step w c.activation grant granted refused x) →
      TakesNone c.standing.locks plan.write
  fallible_takes grant x planned = takes_none s c plan (λ w granted refused. numbered_step w c.activation grant granted refused x) planned
      (λ w lives. fallible_lasts w c.activation lives grant [] [] x)

-- what ends the activation takes no lock
pub end_takes : (locks : List HeldLock) (x : Write) → is_end x ≡ true → TakesNone locks x
end_takes locks write.End h = tt
end_takes locks write.Nothing h = absurd (false≢true h)
end_takes locks (write.Number n value) h = absurd (false≢true h)
end_takes locks (write.Output d x) h = absurd (false≢true h)
end_takes locks (write.Removed o v d x) h = absurd (false≢true h)
end_takes locks (write.Take l access) h = absurd (false≢true h)
end_takes locks (write.GiveUp l) h = absurd (false≢true h)
