-- What only the whole text shows stands at tokens of the text, in their order.
use Rattle.std.proofs.Common.{◌≡◌, ℕ, Bool, true, false, List, [], ◌∷◌, ◌++◌, map, refl, sym, ap, subst, ◌∙◌}
use Rattle.std.specs.Prelude.{Option, if◌then◌else◌}
use Rattle.flt_syntax.specs.ActionGrammar as acting
use Rattle.flt_syntax.specs.ActionGrammar.{ConditionAt}
use Rattle.flt_syntax.specs.CallGrammar as calling
use Rattle.flt_syntax.specs.CallGrammar.{RoutineAt, FallibleAt}
use Rattle.flt_syntax.specs.Cursor.{Input, position, fault, span}
use Rattle.flt_syntax.specs.Grammar as grammar
use Rattle.flt_syntax.specs.Grammar.{StatementAt, ElseAt, BlockAt, StatementsAt, HeadAt, CallbackAt, CallbacksAt, QueueAt, FileAt}
use Rattle.flt_syntax.specs.Scope.{Scope}
use Rattle.flt_syntax.specs.Words as words
use Rattle.flt_syntax.specs.Words.{Next, Meant}
use Rattle.flt_syntax.specs.declared.fault.FaultKind.TheVariants.{E04, E07}
use Rattle.flt_syntax.specs.declared.fault.SyntaxFault.{SyntaxFault}
use Rattle.flt_syntax.specs.declared.shape.ContextSource.TheVariants as sources
use Rattle.flt_syntax.specs.declared.shape.FallibleShape.TheVariants as shapes
use Rattle.flt_syntax.specs.declared.shape.QueueCall.TheVariants as queued
use Rattle.flt_syntax.specs.declared.token.Kind.{Kind}
use Rattle.flt_syntax.specs.declared.token.Token.{Token}
use Rattle.flt_tree.specs.Declarations.{has_event, has_deferred, has_generic, lacks_pre}
use Rattle.flt_tree.specs.Names.{Text}
use Rattle.flt_tree.specs.declared.filter.Callback.{Callback}
use Rattle.flt_tree.specs.declared.filter.Condition.{Condition}
use Rattle.flt_tree.specs.declared.filter.FallibleCall.{FallibleCall}
use Rattle.flt_tree.specs.declared.filter.Filter.{Filter}
use Rattle.flt_tree.specs.declared.filter.Head.{Head}
use Rattle.flt_tree.specs.declared.filter.Head.TheVariants.{Canceled}
use Rattle.flt_tree.specs.declared.filter.Position.{Position}
use Rattle.flt_tree.specs.declared.filter.Routine.{Routine}
use Rattle.flt_tree.specs.declared.filter.Span.{Span}
use Rattle.flt_tree.specs.declared.filter.Statement.{Statement, roll-Statement}
use Rattle.flt_tree.specs.declared.filter.Statement.TheVariants.{Act, Call, Return, If, Repeat, rolls-Act, rolls-Call}
use Rattle.flt_tree.specs.declared.filter.Statement.TheVariants.{rolls-Return, rolls-If, rolls-Repeat}
use Rattle.flt_tree.specs.declared.filter.Statement.TheOpen.{Statement-F}
use Rattle.flt_tree.specs.declared.filter.Statement.TheFolds.{fold-Statement, map-Statement, fold-roll-Statement}
use Rattle.flt_prefix.specs.Shown.{unless_found, lacking_in, lacking_by, lacking_step, lacking_of, lacking}
use Rattle.flt_prefix.specs.Shown.{all_of, callback_shows, queue_shows, shown, place, AreBehind, IsBefore}
use Rattle.flt_prefix.proofs.Ascending.{AllBehind, Ascend}
use Rattle.flt_prefix.proofs.Detached.{Detached, meant_free, name_free, number_free, optional_free}
use Rattle.flt_prefix.proofs.Detached.{fallible_free, condition_free, statement_free}
use Rattle.flt_prefix.proofs.DetachedFiles.{locks_free}

-- some things, each at the place of a token between two others, in the order of the tokens
pub data Spans {A : Type 0} (at : A → Position) : Input → List A → Input → Type 0 where
  stop : {i : Input} → Spans at i [] i
  pass : {t : Token} {i o : Input} {xs : List A} → Spans at i xs o → Spans at (t ∷ i) xs o
  take : {t : Token} {i o : Input} {x : A} {xs : List A} → at x ≡ t.position → Spans at i xs o → Spans at (t ∷ i) (x ∷ xs) o

-- places themselves
abbrev here : Position → Position
here p = p

module _ {A : Type 0} {at : A → Position} where
  behind : {a b c : Input} {xs ys : List A} → Spans at a xs b → Spans at b ys c → Spans at a (xs ++ ys) c
  behind stop q = q
  behind (pass p) q = pass (behind p q)
  behind (take e p) q = take e (behind p q)

  -- nothing before, nothing behind
  then_some : {a b c : Input} {xs : List A} → Spans at a [] b → Spans at b xs c → Spans at a xs c
  then_some stop q = q
  then_some (pass p) q = pass (then_some p q)

  then_none : {a b c : Input} {xs : List A} → Spans at a xs b → Spans at b [] c → Spans at a xs c
  then_none stop q = q
  then_none (pass p) q = pass (then_none p q)
  then_none (take e p) q = take e (then_none p q)

  skip : (taken o : Input) → Spans at (taken ++ o) [] o
  skip [] o = stop
  skip (t ∷ taken) o = pass (skip taken o)

  over : {B : Type 0} {R : Input → B → Input → Type 0} {i o : Input} {x : B} → Detached R i x o → Spans at i [] o
  over {o = o} d = subst (λ j. Spans at j [] o) (sym d.parts) (skip d.taken o)

  next_over : {kd : Kind} {i o : Input} → Next kd i o → Spans at i [] o
  next_over (words.next e) = pass stop

  meant_over : {B : Type 0} {table : Kind → Option B} {i o : Input} {x : B} → Meant table i x o → Spans at i [] o
  meant_over (words.meant e) = pass stop

-- faults at the places
faults_at : {i o : Input} {ps : List Position} → Spans here i ps o → Spans place i (map (fault E04) ps) o
faults_at stop = stop
faults_at (pass p) = pass (faults_at p)
faults_at (take e p) = take e (faults_at p)

-- ---- in a body

unrolled : (X : Type 0) (step : Statement-F X → X) (s : Statement) (y : Statement-F Statement) → roll-Statement y ≡ s →
    fold-Statement X step s ≡ step (map-Statement Statement X (fold-Statement X step) y)
unrolled X step s y e = ap (fold-Statement X step) (sym e) ∙ fold-roll-Statement X step y

routine_spans : {text : Text} {i o : Input} {r : Routine} (found : Bool) → RoutineAt text i r o →
    Spans here i (unless_found found r.position) o
routine_spans true (calling.routine (words.name e)) = pass stop
routine_spans false (calling.routine (words.name e)) = take refl stop

module _ (scope : Scope) (cs : List Callback) (from : Head) where
  fallible_spans : {i o : Input} {c : FallibleCall Routine} → FallibleAt scope i c o → Spans here i (lacking_in cs from c) o
  fallible_spans (calling.fallible {s = shapes.QueueDeferred} n h
      (calling.slot (calling.data_word m) (calling.slot (calling.routine_name {r = r} p) calling.no_slots)) (calling.with_context q)) =
      then_some (meant_over n) (then_some (next_over m)
      (then_none (routine_spans (has_deferred from r.name cs) p) (over (optional_free refl q))))
  fallible_spans (calling.fallible {s = shapes.QueueGeneric} n h
      (calling.slot (calling.routine_name {r = r} p) calling.no_slots) (calling.with_context q)) =
      then_some (meant_over n) (then_none (routine_spans (has_generic r.name cs) p) (over (optional_free refl q)))
  fallible_spans (calling.fallible {s = shapes.Obtain sources.Allocate} n h p t) =
      over (fallible_free {scope = scope} (calling.fallible {s = shapes.Obtain sources.Allocate} n h p t))
  fallible_spans (calling.fallible {s = shapes.Obtain (sources.Get anchor)} n h p t) =
      over (fallible_free {scope = scope} (calling.fallible {s = shapes.Obtain (sources.Get anchor)} n h p t))
  fallible_spans (calling.fallible {s = shapes.Set anchor} n h p t) =
      over (fallible_free {scope = scope} (calling.fallible {s = shapes.Set anchor} n h p t))
  fallible_spans (calling.fallible {s = shapes.Delete anchor} n h p t) =
      over (fallible_free {scope = scope} (calling.fallible {s = shapes.Delete anchor} n h p t))
  fallible_spans (calling.fallible {s = shapes.Queue queued.Insert} n h p t) =
      over (fallible_free {scope = scope} (calling.fallible {s = shapes.Queue queued.Insert} n h p t))
  fallible_spans (calling.fallible {s = shapes.Queue queued.RemoveNext} n h p t) =
      over (fallible_free {scope = scope} (calling.fallible {s = shapes.Queue queued.RemoveNext} n h p t))

  condition_spans : {i o : Input} {c : Condition} → ConditionAt scope i c o → Spans here i (lacking_by cs from c) o
  condition_spans (acting.test p) = over (condition_free {scope = scope} (acting.test p))
  condition_spans (acting.succeeds p) = fallible_spans p

  by_layer : {i o : Input} (s : Statement) (y : Statement-F Statement) → roll-Statement y ≡ s →
      Spans here i (lacking_step cs from (map-Statement Statement (List Position) (lacking_of cs from) y)) o →
      Spans here i (lacking_of cs from s) o
  by_layer {i = i} {o = o} s y e p = subst (λ ps. Spans here i ps o) (sym (unrolled _ (lacking_step cs from) s y e)) p

  mutual
    statement_spans : {d r : ℕ} {i o : Input} {s : Statement} → StatementAt scope d r i s o → Spans here i (lacking_of cs from s) o
    statement_spans {d = d} {r = r} (grammar.act {i = i} {o = o} {a = a} p) =
        by_layer (Act (span i o) a) (Statement-F.Act (span i o) a) (rolls-Act (span i o) a)
        (over (statement_free {scope = scope} {d = d} {r = r} (grammar.act p)))
    statement_spans {d = d} {r = r} (grammar.call {i = i} {o = o} {c = c} p) =
        by_layer (Call (span i o) c) (Statement-F.Call (span i o) c) (rolls-Call (span i o) c)
        (over (statement_free {scope = scope} {d = d} {r = r} (grammar.call p)))
    statement_spans {d = d} {r = r} (grammar.return {i = i} {o = o} {s = x} n p) =
        by_layer (Return (span i o) x) (Statement-F.Return (span i o) x) (rolls-Return (span i o) x)
        (over (statement_free {scope = scope} {d = d} {r = r} (grammar.return n p)))
    statement_spans (grammar.choice {i = i} {a = a} {b = b} {c = c} {granted = g} {refused = f} n p q x) =
        let l : Span = record (span a b) { line = grammar.line i } in
        by_layer (If l c g f) (Statement-F.If l c g f) (rolls-If l c g f)
        (then_some (next_over n) (behind (condition_spans p) (behind (block_spans q) (else_spans x))))
    statement_spans (grammar.repeat {n = turns} {i = i} {b = l} {body = b} n p h q) =
        by_layer (Repeat (span i l) turns b) (Statement-F.Repeat (span i l) turns b) (rolls-Repeat (span i l) turns b)
        (then_some (next_over n) (then_some (over (number_free p)) (block_spans q)))

    else_spans : {d r : ℕ} {i o : Input} {ss : List Statement} → ElseAt scope d r i ss o → Spans here i (lacking cs from ss) o
    else_spans grammar.no_else = stop
    else_spans (grammar.some_else n p) = then_some (next_over n) (block_spans p)

    block_spans : {d r : ℕ} {i o : Input} {ss : List Statement} → BlockAt scope d r i ss o → Spans here i (lacking cs from ss) o
    block_spans (grammar.block n p m) = then_some (next_over n) (then_none (statements_spans p) (next_over m))

    statements_spans : {d r : ℕ} {i o : Input} {ss : List Statement} → StatementsAt scope d r i ss o → Spans here i (lacking cs from ss) o
    statements_spans grammar.empty = stop
    statements_spans (grammar.go_on p q) = behind (statement_spans p) (statements_spans q)

-- ---- in a file

first_spans : {kd : Kind} {i o : Input} (lacks : Bool) → Next kd i o →
    Spans place i (if lacks then fault E07 (position i) ∷ [] else []) o
first_spans true (words.next e) = take refl stop
first_spans false (words.next e) = pass stop

head_spans : {text : Text} {i o : Input} {h : Head} (lacks : Bool) → HeadAt text i h o →
    Spans place i (if lacks then fault E07 (position i) ∷ [] else []) o
head_spans lacks (grammar.pre n p) = then_none (first_spans lacks n) (over (meant_free (refl, refl, refl) p))
head_spans lacks (grammar.post n p) = then_none (first_spans lacks n) (over (meant_free (refl, refl, refl) p))
head_spans lacks (grammar.canceled n) = first_spans lacks n
head_spans lacks (grammar.deferred_pre n p) = then_none (first_spans lacks n) (over (name_free p))
head_spans lacks (grammar.deferred_post n p) = then_none (first_spans lacks n) (over (name_free p))
head_spans lacks (grammar.generic n p) = then_none (first_spans lacks n) (over (name_free p))

callback_spans : {scope : Scope} {i o : Input} {c : Callback} (all : List Callback) → CallbackAt scope i c o →
    Spans place i (callback_shows all c) o
callback_spans {scope = scope} all (grammar.callback {h = h} p n q m) =
    behind (then_none (head_spans (lacks_pre all h) p) (next_over n))
    (then_none (faults_at (statements_spans scope all h q)) (next_over m))

callbacks_span : {scope : Scope} {i o : Input} {cs : List Callback} (all : List Callback) → CallbacksAt scope i cs o →
    Spans place i (all_of (map (callback_shows all) cs)) o
callbacks_span all (grammar.last p) = behind (callback_spans all p) stop
callbacks_span all (grammar.more p q) = behind (callback_spans all p) (callbacks_span all q)

queue_found : {kd : Kind} {i o : Input} (found : Bool) → Next kd i o → Spans place i (unless_found found (fault E07 (position i))) o
queue_found true (words.next e) = pass stop
queue_found false (words.next e) = take refl stop

queue_spans : {i o : Input} {q : Option Position} (cs : List Callback) → QueueAt i q o → Spans place i (queue_shows q cs) o
queue_spans cs grammar.no_queue = stop
queue_spans cs (grammar.some_queue n) = queue_found (has_event Canceled cs) n

-- all that only the whole text shows
pub file_spans : {text : Text} {i : Input} {f : Filter} → FileAt text i f → (o : Input) × Spans place i (shown f) o
file_spans (grammar.file {o = o} {cs = cs} n m x p y q w end) = (
  o,
  then_some (next_over n) (then_some (over (name_free m)) (then_some (next_over x) (then_some (over (number_free p))
      (then_some (over (locks_free y)) (behind (queue_spans cs q) (callbacks_span cs w)))))),
)

-- ---- so it ascends

later : {i o : Input} {fs : List SyntaxFault} (at : Position) → Spans place i fs o → AllBehind at i → AreBehind at fs
later at stop h = tt
later at (pass p) h = later at p h.1
later at (take e p) h = (subst (IsBefore at) (sym e) h.0, later at p h.1)

-- the first stands before all others
pub sorted : {i o : Input} {f : SyntaxFault} {fs : List SyntaxFault} → Spans place i (f ∷ fs) o → Ascend i → AreBehind (place f) fs
sorted (pass p) h = sorted p h.1
sorted {fs = fs} (take e p) h = subst (λ at. AreBehind at fs) (sym e) (later _ p h.0)
