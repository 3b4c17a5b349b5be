-- What a set that passes the check has.
use Rattle.std.proofs.Common.{◌≡◌, ℕ, zero, suc, Bool, true, false, List, [], ◌∷◌, Option, Some, None, ap, sym, subst, refl, ◌∙◌}
use Rattle.std.specs.Prelude.{IsTrue, slice_get, ◌==◌, ◌&&◌}
use Rattle.std.specs.List.{list_all}
use Rattle.std.proofs.lemmas.Bool.{and_parts, eqb-true}
use Rattle.flt_rules.specs.Table.{row}
use Rattle.flt_rules.specs.declared.call.LockNumber.{LockNumber}
use Rattle.flt_rules.specs.declared.columns.Effects.{Effects}
use Rattle.flt_rules.specs.declared.columns.LockChange.{LockChange}
use Rattle.flt_rules.specs.declared.place.Place.{Place}
use Rattle.flt_tree.specs.declared.filter.Action.{Action}
use Rattle.flt_tree.specs.declared.filter.Action.TheVariants as action
use Rattle.flt_tree.specs.declared.filter.Test.{Test}
use Rattle.flt_tree.specs.declared.filter.Test.TheVariants as test
use Rattle.flt_tree.specs.declared.variable.ContextVariable.{ContextVariable}
use Rattle.flt_tree.specs.declared.variable.OperationVariable.{OperationVariable}
use Rattle.flt_graph.specs.Graph.{place_at, instruction_at}
use Rattle.flt_graph.specs.Instruction.{roles}
use Rattle.flt_graph.specs.Points.{successor}
use Rattle.flt_graph.specs.declared.graph.Graph.{Graph}
use Rattle.flt_graph.specs.declared.instruction.Instruction.{Instruction}
use Rattle.flt_graph.specs.declared.instruction.Instruction.TheVariants as instruction
use Rattle.flt_graph.specs.declared.instruction.Invocation.{Invocation}
use Rattle.flt_abs.specs.Entry.{entry}
use Rattle.flt_abs.specs.Outcome.{put_context, put_operation, put_locks, left, called, failed}
use Rattle.flt_abs.specs.Outcome.{acted, may_find, may_come_out, leaves, side, Reaches}
use Rattle.flt_abs.specs.State.{Status, Situation, State, Means, IsBelow, is_below}
use Rattle.flt_abs.specs.Step.{leads_to}
use Rattle.flt_abs.specs.declared.step.Successor.{Successor}
use Rattle.flt_explain_closed.specs.Closed.{seen, seen_state, IsIn, IsClosed, is_above, has, has_next}
use Rattle.flt_explain_closed.specs.Closed.{have_next, is_kept, is_entered, is_closed}
use Rattle.flt_explain_closed.specs.declared.member.Member.{Member}

-- ---- locks that aren't followed

-- what a state means it means as both are followed
seen_means : (locks : Bool) (x : State) (t : Situation) → Means x t → Means (seen_state locks x) (seen locks t)
seen_means true x t m = m
seen_means false x t m = record {
  contexts = m.contexts;
  operations = m.operations;
  mode = m.mode;
  draining = m.draining;
  locks = refl;
}

-- no variable depends on them
free_context : (v : Option ContextVariable) (s : Option Status) (t : Situation) →
    put_context v s (seen false t) ≡ seen false (put_context v s t)
free_context (Some c) (Some x) t = refl
free_context (Some c) None t = refl
free_context None s t = refl

free_operation : (v : Option OperationVariable) (s : Option Status) (t : Situation) →
    put_operation v s (seen false t) ≡ seen false (put_operation v s t)
free_operation (Some d) (Some x) t = refl
free_operation (Some d) None t = refl
free_operation None s t = refl

free_locks : (v : Option LockNumber) (change : LockChange) (t : Situation) → seen false (put_locks v change t) ≡ seen false t
free_locks (Some l) change t = refl
free_locks None change t = refl

free_called : (c : Invocation) (e : Effects) (gives : Bool) (t : Situation) →
    seen false (called c e gives (seen false t)) ≡ seen false (called c e gives t)
free_called c e gives t =
    let context = put_context c.context (left e.context gives) in
    let output = put_context c.output (left e.output gives) in
    let operation = put_operation c.operation (left e.operation gives) in
    free_locks c.lock e.lock (operation (output (context (seen false t))))
    ∙ ap (λ u. seen false (operation (output u))) (free_context c.context (left e.context gives) t)
    ∙ ap (λ u. seen false (operation u)) (free_context c.output (left e.output gives) (context t))
    ∙ ap (seen false) (free_operation c.operation (left e.operation gives) (output (context t)))
    ∙ sym (free_locks c.lock e.lock (operation (output (context t))))

free_failed : (c : Invocation) (e : Option Effects) (gives : Bool) (t : Situation) →
    seen false (failed c e gives (seen false t)) ≡ seen false (failed c e gives t)
free_failed c (Some e) gives t = free_called c e gives t
free_failed c None gives t = refl

free_acted : (a : Action) (t : Situation) → seen false (acted a (seen false t)) ≡ seen false (acted a t)
free_acted (action.ClearContext c) t = refl
free_acted (action.ClearOperation o) t = refl
free_acted a t = refl

free_leaves : (i : Instruction) (outcome gives : Bool) (t : Situation) →
    seen false (leaves i outcome gives (seen false t)) ≡ seen false (leaves i outcome gives t)
free_leaves (instruction.Act a next) outcome gives t = free_acted a t
free_leaves (instruction.Call c granted refused) true gives t = free_called (roles c) (row (roles c).call).on_ok gives t
free_leaves (instruction.Call c granted refused) false gives t = free_failed (roles c) (row (roles c).call).on_fail gives t
free_leaves (instruction.Test f granted refused) outcome gives t = refl
free_leaves (instruction.Repeat turns block next) outcome gives t = refl
free_leaves (instruction.Return status) outcome gives t = refl
free_leaves instruction.End outcome gives t = refl

free_find : (f : Test) (outcome : Bool) (t : Situation) → may_find f (seen false t) outcome ≡ may_find f t outcome
free_find (test.ContextIsSome c) outcome t = refl
free_find (test.OperationIsSome o) outcome t = refl
free_find test.IsIrp outcome t = refl
free_find test.IsDraining outcome t = refl
free_find f outcome t = refl

free_outcome : (i : Instruction) (outcome : Bool) (t : Situation) → may_come_out i (seen false t) outcome ≡ may_come_out i t outcome
free_outcome (instruction.Act a next) outcome t = refl
free_outcome (instruction.Call c granted refused) true t = refl
free_outcome (instruction.Call c granted refused) false t = refl
free_outcome (instruction.Test f granted refused) outcome t = free_find f outcome t
free_outcome (instruction.Repeat turns block next) outcome t = refl
free_outcome (instruction.Return status) outcome t = refl
free_outcome instruction.End outcome t = refl

-- an instruction leaves the same of a situation as it is followed, and may come out the same
seen_leaves : (locks : Bool) (i : Instruction) (outcome gives : Bool) (t : Situation) →
    seen locks (leaves i outcome gives (seen locks t)) ≡ seen locks (leaves i outcome gives t)
seen_leaves true i outcome gives t = refl
seen_leaves false i outcome gives t = free_leaves i outcome gives t

seen_outcome : (locks : Bool) (i : Instruction) (outcome : Bool) (t : Situation) →
    may_come_out i (seen locks t) outcome ≡ may_come_out i t outcome
seen_outcome true i outcome t = refl
seen_outcome false i outcome t = free_outcome i outcome t

-- ---- one step

-- the laws of `flt_abs`: each outcome lies where a state leads, and a state above means all that one below means
abbrev pub Follows : Type 0
Follows =
    (i : Instruction) (x : State) (t : Situation) (outcome gives : Bool) → Means x t → may_come_out i t outcome ≡ true →
    Reaches (side (leads_to x i) outcome) (successor i outcome) (leaves i outcome gives t)

abbrev pub Orders : Type 0
Orders = (a b : State) → IsTrue (is_below a b) → IsBelow a b

-- the member of a number is at a point and above a state
record IsAbove (ms : List Member) (n p : ℕ) (x : State) : Type 0 where
  member : Member
  there : slice_get ms n ≡ Some member
  point : member.point ≡ p
  above : is_below x member.state ≡ true

above_from : (ms : List Member) (n p : ℕ) (x : State) → has ms n p x ≡ true → IsAbove ms n p x
above_from ms n p x h = from (slice_get ms n) refl h
  where
    from : (m : Option Member) → slice_get ms n ≡ m → is_above m p x ≡ true → IsAbove ms n p x
    from (Some m) e h =
        let parts = and_parts (m.point == p) (is_below x m.state) h in
        record { member = m; there = e; point = eqb-true m.point p parts.0; above = parts.1 }
    from None e h = cc

-- what follows is in the set
next_in : Orders → (locks : Bool) (ms : List Member) (n : ℕ) (next : Option Successor) (p : Option ℕ) (q : ℕ) (t : Situation) →
    has_next ms locks n next ≡ true → Reaches next p t → p ≡ Some q → IsIn locks ms q t
next_in orders locks ms n None p q t h r e = absurd r
next_in orders locks ms n (Some s) p q t h r e =
    let a = above_from ms n s.point (seen_state locks s.state) h in
    let point : s.point ≡ q = same (r.0 ∙ e) in
    record {
      number = n;
      member = a.member;
      there = a.there;
      point = a.point ∙ point;
      means = (orders _ _ a.above).situations (seen locks t) (seen_means locks s.state t r.1);
    }
  where
    same : {a b : ℕ} → Some a ≡ Some b → a ≡ b
    same h = cc

kept_at : (g : Graph) (k : ℕ) (locks : Bool) (ms all : List Member) (n : ℕ) (m : Member) →
    list_all (is_kept g k locks all) ms ≡ true → slice_get ms n ≡ Some m → is_kept g k locks all m ≡ true
kept_at g k locks [] all n m h e = cc
kept_at g k locks (x ∷ ms) all zero m h e =
    let parts = and_parts (is_kept g k locks all x) (list_all (is_kept g k locks all) ms) h in
    let same : x ≡ m = inside e in
    subst (λ m. is_kept g k locks all m ≡ true) same parts.0
  where
    inside : {x m : Member} → Some x ≡ Some m → x ≡ m
    inside h = cc
kept_at g k locks (x ∷ ms) all (suc n) m h e =
    let parts = and_parts (is_kept g k locks all x) (list_all (is_kept g k locks all) ms) h in kept_at g k locks ms all n m parts.1 e

-- each outcome of a member's point is in the set
side_in : Follows → Orders → (locks : Bool) (ms : List Member) (m : Member) (i : Instruction) (q : ℕ) (t : Situation)
    (outcome gives : Bool) → have_next ms locks m (leads_to m.state i) ≡ true → Means m.state (seen locks t) →
    may_come_out i t outcome ≡ true → successor i outcome ≡ Some q → IsIn locks ms q (leaves i outcome gives t)
side_in follows orders locks ms m i q t outcome gives h means may e =
    let next = leads_to m.state i in
    let both = and_parts (has_next ms locks m.granted next.first) (has_next ms locks m.refused next.second) h in
    let reach = follows i m.state (seen locks t) outcome gives means (seen_outcome locks i outcome t ∙ may) in
    let found = by outcome reach both.0 both.1 in
    record {
      number = found.number;
      member = found.member;
      there = found.there;
      point = found.point;
      means = subst (λ u. Means found.member.state u) (seen_leaves locks i outcome gives t) found.means;
    }
  where
    by : (o : Bool) → Reaches (side (leads_to m.state i) o) (successor i outcome) (leaves i outcome gives (seen locks t)) →
        has_next ms locks m.granted (leads_to m.state i).first ≡ true → has_next ms locks m.refused (leads_to m.state i).second ≡ true →
        IsIn locks ms q (leaves i outcome gives (seen locks t))
    by true reach first second =
        next_in orders locks ms m.granted (leads_to m.state i).first (successor i outcome) q
        (leaves i outcome gives (seen locks t)) first reach e
    by false reach first second =
        next_in orders locks ms m.refused (leads_to m.state i).second (successor i outcome) q
        (leaves i outcome gives (seen locks t)) second reach e

-- ---- the entry

-- no lock is held at the entry
seen_entry : (locks : Bool) (place : Place) (t : Situation) → Means (entry place) t → t ≡ seen locks t
seen_entry true place t m = refl
seen_entry false place t m = λ k. record t { locks = sym m.locks k }

entry_in : Orders → (locks : Bool) (place : Place) (ms : List Member) (t : Situation) → is_entered place ms ≡ true → Means (entry place) t →
    IsIn locks ms 0 t
entry_in orders locks place [] t h m = cc
entry_in orders locks place (x ∷ ms) t h m =
    let parts = and_parts (x.point == 0) (is_below (entry place) x.state) h in
    record {
      number = 0;
      member = x;
      there = refl;
      point = eqb-true x.point 0 parts.0;
      means = subst (λ u. Means x.state u) (seen_entry locks place t m) ((orders _ _ parts.1).situations t m);
    }

-- ---- all steps

-- no step leads out of a set that passes the check
pub closed_from : Follows → Orders → (g : Graph) (k : ℕ) (locks : Bool) (ms : List Member) → is_closed g k locks ms ≡ true →
    IsClosed g k locks ms
closed_from follows orders g k locks ms h =
    let parts = and_parts (is_entered (place_at g k) ms) (list_all (is_kept g k locks ms) ms) h in
    record {
      entered = λ t m. entry_in orders locks (place_at g k) ms t parts.0 m;
      kept = λ p q t outcome gives r may e.
          let here = kept_at g k locks ms ms r.number r.member parts.1 r.there in
          let next : have_next ms locks r.member (leads_to r.member.state (instruction_at g k p)) ≡ true =
          subst (λ p. have_next ms locks r.member (leads_to r.member.state (instruction_at g k p)) ≡ true) r.point here in
          side_in follows orders locks ms r.member (instruction_at g k p) q t outcome gives next r.means may e;
    }
