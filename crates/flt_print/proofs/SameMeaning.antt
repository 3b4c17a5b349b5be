-- What does not depend on where the parts of a filter stand.
use Rattle.std.proofs.Common.{◌≡◌, ℕ, suc, ◌+◌, Bool, List, [], ◌∷◌, ◌++◌, length, map, refl, sym, ap, ◌∙◌}
use Rattle.std.proofs.lemmas.Bool.{false≢true}
use Rattle.std.specs.List.{list_all, list_any}
use Rattle.std.specs.Prelude.{◌&&◌, ◌||◌, not, sum, nat_le, Option, Some, None, is_some, option_map}
use Rattle.flt_tree.specs.Declarations.{same_event, has_event, has_routine, is_declared, AreNewCallbacks, finds_routine}
use Rattle.flt_tree.specs.Declarations.{test_finds, finds_step, finds_routines, AreWhole, IsServed, runs_deferred}
use Rattle.flt_tree.specs.Declarations.{runs_generic, has_deferred, has_generic, lacks_pre}
use Rattle.flt_tree.specs.Filter.{is_named, no_span}
use Rattle.flt_tree.specs.Names.{Text}
use Rattle.flt_tree.specs.Measures.{points_step, points, cost_step, cost, is_small}
use Rattle.flt_rules.specs.Limits.{max_points, max_cost}
use Rattle.flt_print.specs.Reprinting.{nowhere, call_without, condition_without, step_without}
use Rattle.flt_print.specs.Reprinting.{statement_without, callback_without, without_places}
use Rattle.flt_tree.specs.declared.filter.Action.{Action}
use Rattle.flt_tree.specs.declared.filter.Callback.{Callback}
use Rattle.flt_tree.specs.declared.filter.Condition.{Condition}
use Rattle.flt_tree.specs.declared.filter.Condition.TheVariants as made
use Rattle.flt_tree.specs.declared.filter.FallibleCall.{FallibleCall}
use Rattle.flt_tree.specs.declared.filter.FallibleCall.TheVariants.{QueueDeferredIoWorkItem, QueueGenericWorkItem}
use Rattle.flt_tree.specs.declared.filter.Filter.{Filter}
use Rattle.flt_tree.specs.declared.filter.Head.{Head}
use Rattle.flt_tree.specs.declared.filter.Head.TheVariants.{Pre, Post, Canceled, DeferredPre, DeferredPost, Generic}
use Rattle.flt_tree.specs.declared.filter.Lock.{Lock}
use Rattle.flt_tree.specs.declared.filter.Position.{Position}
use Rattle.flt_tree.specs.declared.filter.PlainCall.{PlainCall}
use Rattle.flt_tree.specs.declared.filter.Routine.{Routine}
use Rattle.flt_tree.specs.declared.filter.Span.{Span}
use Rattle.flt_tree.specs.declared.filter.Statement.{Statement, roll-Statement}
use Rattle.flt_tree.specs.declared.filter.Statement.TheVariants.{Act, Call, Return, If, Repeat, rolls-Act, rolls-Call}
use Rattle.flt_tree.specs.declared.filter.Statement.TheVariants.{rolls-Return, rolls-If, rolls-Repeat}
use Rattle.flt_tree.specs.declared.filter.Statement.TheOpen.{Statement-F}
use Rattle.flt_tree.specs.declared.filter.Statement.TheFolds.{fold-Statement, map-Statement, fold-roll-Statement}
use Rattle.flt_tree.specs.declared.filter.Status.{Status}
use Rattle.flt_print.proofs.Alike as alike
use Rattle.flt_print.proofs.Alike.{AlikeCall, AlikeCondition, Alike, AlikeAll, AlikeCallback}
use Rattle.flt_print.proofs.Alike.{AlikeCallbacks, no_callback, one_callback, AlikeFilter}

-- ---- folds

-- two steps agree wherever the parts stand
record Agree (X : Type 0) (a b : Statement-F X → X) : Type 0 where
  acts : (m n : Span) (x : Action) → a (Statement-F.Act m x) ≡ b (Statement-F.Act n x)
  calls : (m n : Span) (c : PlainCall) → a (Statement-F.Call m c) ≡ b (Statement-F.Call n c)
  returns : (m n : Span) (s : Option Status) → a (Statement-F.Return m s) ≡ b (Statement-F.Return n s)
  choices : (m n : Span) (c d : Condition) (gs rs : List X) →
      AlikeCondition c d → a (Statement-F.If m c gs rs) ≡ b (Statement-F.If n d gs rs)
  repeats : (m n : Span) (turns : ℕ) (bs : List X) → a (Statement-F.Repeat m turns bs) ≡ b (Statement-F.Repeat n turns bs)

unrolled : (X : Type 0) (step : Statement-F X → X) (s : Statement) (y : Statement-F Statement) → roll-Statement y ≡ s →
    fold-Statement X step s ≡ step (map-Statement Statement X (fold-Statement X step) y)
unrolled X step s y e = ap (fold-Statement X step) (sym e) ∙ fold-roll-Statement X step y

module _ (X : Type 0) (a b : Statement-F X → X) (same : Agree X a b) where
  mutual
    fold_alike : {s t : Statement} → Alike s t → fold-Statement X a s ≡ fold-Statement X b t
    fold_alike (alike.act {m = m} {n = n} {a = x}) =
        unrolled X a (Act m x) (Statement-F.Act m x) (rolls-Act m x) ∙ same.acts m n x
        ∙ sym (unrolled X b (Act n x) (Statement-F.Act n x) (rolls-Act n x))
    fold_alike (alike.call {m} {n} {c}) =
        unrolled X a (Call m c) (Statement-F.Call m c) (rolls-Call m c) ∙ same.calls m n c
        ∙ sym (unrolled X b (Call n c) (Statement-F.Call n c) (rolls-Call n c))
    fold_alike (alike.return {m} {n} {s}) =
        unrolled X a (Return m s) (Statement-F.Return m s) (rolls-Return m s) ∙ same.returns m n s
        ∙ sym (unrolled X b (Return n s) (Statement-F.Return n s) (rolls-Return n s))
    fold_alike (alike.choice {m} {n} {c} {d} {gs} {hs} {rs} {ss} q p r) =
        unrolled X a (If m c gs rs) (Statement-F.If m c gs rs) (rolls-If m c gs rs)
        ∙ ap (λ l. a (Statement-F.If m c l (map (fold-Statement X a) rs))) (folds_alike p)
        ∙ ap (λ l. a (Statement-F.If m c (map (fold-Statement X b) hs) l)) (folds_alike r)
        ∙ same.choices m n c d (map (fold-Statement X b) hs) (map (fold-Statement X b) ss) q
        ∙ sym (unrolled X b (If n d hs ss) (Statement-F.If n d hs ss) (rolls-If n d hs ss))
    fold_alike (alike.repeat {m} {n} {turns} {bs} {ds} p) =
        unrolled X a (Repeat m turns bs) (Statement-F.Repeat m turns bs) (rolls-Repeat m turns bs)
        ∙ ap (λ l. a (Statement-F.Repeat m turns l)) (folds_alike p)
        ∙ same.repeats m n turns (map (fold-Statement X b) ds)
        ∙ sym (unrolled X b (Repeat n turns ds) (Statement-F.Repeat n turns ds) (rolls-Repeat n turns ds))

    folds_alike : {ss ts : List Statement} → AlikeAll ss ts → map (fold-Statement X a) ss ≡ map (fold-Statement X b) ts
    folds_alike alike.empty = refl
    folds_alike (alike.go_on {s} {t} {ss} {ts} p q) =
        ap (λ x. x ∷ map (fold-Statement X a) ss) (fold_alike p) ∙ ap (λ l. fold-Statement X b t ∷ l) (folds_alike q)

-- ---- points and cost

points_agree : Agree ℕ points_step points_step
points_agree =
    record {
      acts = λ m n x. refl;
      calls = λ m n c. refl;
      returns = λ m n s. refl;
      choices = λ m n c d gs rs q. refl;
      repeats = λ m n turns bs. refl;
    }

cost_agree : Agree ℕ cost_step cost_step
cost_agree =
    record {
      acts = λ m n x. refl;
      calls = λ m n c. refl;
      returns = λ m n s. refl;
      choices = λ m n c d gs rs q. refl;
      repeats = λ m n turns bs. refl;
    }

small_by : (p c : ℕ) → Bool
small_by p c = nat_le (p + 1) max_points && nat_le (c + 1) max_cost

small_alike : {c d : Callback} → AlikeCallback c d → is_small c ≡ is_small d
unfolding small_by
small_alike {c} {d} a =
    ap (λ l. small_by (sum l) (cost c.body)) (folds_alike ℕ points_step points_step points_agree a.body)
    ∙ ap (λ l. small_by (points d.body) (sum l)) (folds_alike ℕ cost_step cost_step cost_agree a.body)

-- callbacks that are alike are small alike
pub small_callbacks : (cs ds : List Callback) → AlikeCallbacks cs ds → list_all is_small cs ≡ list_all is_small ds
small_callbacks _ _ no_callback = refl
small_callbacks _ _ (one_callback {c} {d} {cs} {ds} a r) =
    ap (λ b. b && list_all is_small cs) (small_alike a) ∙ ap (λ b. is_small d && b) (small_callbacks cs ds r)

-- ---- heads

any_alike : (p : Head → Bool) {cs ds : List Callback} → AlikeCallbacks cs ds → list_any (λ c. p c.head) cs ≡ list_any (λ c. p c.head) ds
any_alike p no_callback = refl
any_alike p (one_callback {c} {d} {cs} {ds} a r) =
    ap (λ h. p h || list_any (λ x. p x.head) cs) a.head ∙ ap (λ b. p d.head || b) (any_alike p r)

event_alike : (h : Head) {cs ds : List Callback} → AlikeCallbacks cs ds → has_event h cs ≡ has_event h ds
event_alike h = any_alike (λ x. same_event x h)

routine_alike : (name : Text) {cs ds : List Callback} → AlikeCallbacks cs ds → has_routine name cs ≡ has_routine name ds
routine_alike name = any_alike (is_named name)

declared_alike : (h : Head) {cs ds : List Callback} → AlikeCallbacks cs ds → is_declared h cs ≡ is_declared h ds
declared_alike (Pre op) a = event_alike (Pre op) a
declared_alike (Post op) a = event_alike (Post op) a
declared_alike Canceled a = event_alike Canceled a
declared_alike (DeferredPre name) a = routine_alike name a
declared_alike (DeferredPost name) a = routine_alike name a
declared_alike (Generic name) a = routine_alike name a

one_behind : {cs ds : List Callback} {c d : Callback} → AlikeCallbacks cs ds → AlikeCallback c d →
    AlikeCallbacks (cs ++ c ∷ []) (ds ++ d ∷ [])
one_behind no_callback a = one_callback a no_callback
one_behind (one_callback b r) a = one_callback b (one_behind r a)

-- callbacks that are alike are new alike behind callbacks that are alike
pub new_alike : (before again cs ds : List Callback) → AlikeCallbacks before again → AlikeCallbacks cs ds →
    AreNewCallbacks before cs → AreNewCallbacks again ds
new_alike before again _ _ b no_callback n = tt
new_alike before again _ _ b (one_callback {c} {d} {cs} {ds} a r) n = (
  sym (ap (λ h. is_declared h again) a.head) ∙ sym (declared_alike c.head b) ∙ n.0,
  new_alike (before ++ c ∷ []) (again ++ d ∷ []) cs ds (one_behind b a) r n.1,
)

-- callbacks that are alike are equally many
pub length_alike : {cs ds : List Callback} → AlikeCallbacks cs ds → length cs ≡ length ds
length_alike no_callback = refl
length_alike (one_callback a r) = ap suc (length_alike r)

-- callbacks that are alike serve a queue alike
pub served_alike : (q r : Option Position) (cs ds : List Callback) → is_some q ≡ is_some r → AlikeCallbacks cs ds →
    IsServed q cs → IsServed r ds
served_alike None None cs ds e a s = tt
served_alike (Some at) (Some to) cs ds e a s = sym (event_alike Canceled a) ∙ s
served_alike None (Some to) cs ds e a s = absurd (false≢true e)
served_alike (Some at) None cs ds e a s = tt

-- ---- routines that calls name

module _ {all again : List Callback} (a : AlikeCallbacks all again) (from : Head) where
  same_finds : (c : FallibleCall Routine) → finds_routine all from c ≡ finds_routine again from c
  same_finds (QueueDeferredIoWorkItem r c) = any_alike (runs_deferred from r.name) a
  same_finds (QueueGenericWorkItem r c) = any_alike (runs_generic r.name) a
  same_finds _ = refl

  call_finds : {c d : FallibleCall Routine} → AlikeCall c d → finds_routine all from c ≡ finds_routine again from d
  call_finds (alike.same {c}) = same_finds c
  call_finds (alike.deferred {r} {s} e) = any_alike (runs_deferred from r.name) a ∙ ap (λ n. has_deferred from n again) e
  call_finds (alike.generic {r} {s} e) = any_alike (runs_generic r.name) a ∙ ap (λ n. has_generic n again) e

  test_alike : {c d : Condition} → AlikeCondition c d → test_finds all from c ≡ test_finds again from d
  test_alike alike.a_test = refl
  test_alike (alike.a_call p) = call_finds p

  finds_agree : Agree Bool (finds_step all from) (finds_step again from)
  finds_agree =
      record {
        acts = λ m n x. refl;
        calls = λ m n c. refl;
        returns = λ m n s. refl;
        choices = λ m n c d gs rs q. ap (λ b. b && (list_all (λ x. x) gs && list_all (λ x. x) rs)) (test_alike q);
        repeats = λ m n turns bs. refl;
      }

  finds_all : {ss ts : List Statement} → AlikeAll ss ts → finds_routines all from ss ≡ finds_routines again from ts
  finds_all p = ap (list_all (λ b. b)) (folds_alike Bool (finds_step all from) (finds_step again from) finds_agree p)

lacks_alike : (h : Head) {cs ds : List Callback} → AlikeCallbacks cs ds → lacks_pre cs h ≡ lacks_pre ds h
lacks_alike (Post op) a = ap not (event_alike (Pre op) a)
lacks_alike _ a = refl

-- callbacks that are alike are whole alike among callbacks that are alike
pub whole_alike : (all again cs ds : List Callback) → AlikeCallbacks all again → AlikeCallbacks cs ds → AreWhole all cs → AreWhole again ds
whole_alike all again _ _ a no_callback w = tt
whole_alike all again _ _ a (one_callback {c} {d} {cs} {ds} x r) w = (
  sym (ap (lacks_pre again) x.head) ∙ sym (lacks_alike c.head a) ∙ w.0,
  sym (ap (λ h. finds_routines again h d.body) x.head) ∙ sym (finds_all a c.head x.body) ∙ w.1,
  whole_alike all again cs ds a r w.2,
)

-- ---- places alone are left out

call_alike : {c d : FallibleCall Routine} → AlikeCall c d → call_without c ≡ call_without d
call_alike alike.same = refl
call_alike (alike.deferred {c = c} e) = ap (λ n. QueueDeferredIoWorkItem (record { name = n; position = nowhere }) c) e
call_alike (alike.generic {c = c} e) = ap (λ n. QueueGenericWorkItem (record { name = n; position = nowhere }) c) e

condition_alike : {c d : Condition} → AlikeCondition c d → condition_without c ≡ condition_without d
condition_alike alike.a_test = refl
condition_alike (alike.a_call p) = ap made.Succeeds (call_alike p)

without_agree : Agree Statement step_without step_without
without_agree =
    record {
      acts = λ m n x. refl;
      calls = λ m n c. refl;
      returns = λ m n s. refl;
      choices = λ m n c d gs rs q. ap (λ x. If no_span x gs rs) (condition_alike q);
      repeats = λ m n turns bs. refl;
    }

body_alike : {ss ts : List Statement} → AlikeAll ss ts → map statement_without ss ≡ map statement_without ts
body_alike p = folds_alike Statement step_without step_without without_agree p

callbacks_alike : {cs ds : List Callback} → AlikeCallbacks cs ds → map callback_without cs ≡ map callback_without ds
callbacks_alike no_callback = refl
callbacks_alike (one_callback {c} {d} {cs} {ds} a r) =
    ap (λ h. record { head = h; position = nowhere; span = no_span; body = map statement_without c.body; end = no_span } ∷
    map callback_without cs) a.head
    ∙ ap (λ b. record { head = d.head; position = nowhere; span = no_span; body = b; end = no_span } ∷ map callback_without cs)
    (body_alike a.body)
    ∙ ap (λ l. callback_without d ∷ l) (callbacks_alike r)

queue_alike : (q r : Option Position) → is_some q ≡ is_some r → option_map (λ at. nowhere) q ≡ option_map (λ at. nowhere) r
queue_alike None None e = refl
queue_alike (Some at) (Some to) e = refl
queue_alike None (Some to) e = absurd (false≢true e)
queue_alike (Some at) None e = absurd (false≢true (sym e))

filter_of_parts : Text → ℕ → List Lock → Option Position → List Callback → Filter
filter_of_parts name altitude locks queue callbacks =
    record { name = name; altitude = altitude; locks = locks; queue = queue; callbacks = callbacks }

-- filters that are alike are one without their places
pub places_alike : (f h : Filter) → AlikeFilter f h → without_places f ≡ without_places h
unfolding filter_of_parts
places_alike f h a =
    ap (λ x. filter_of_parts x f.altitude f.locks (option_map (λ at. nowhere) f.queue) (map callback_without f.callbacks)) a.name
    ∙ ap (λ x. filter_of_parts h.name x f.locks (option_map (λ at. nowhere) f.queue) (map callback_without f.callbacks)) a.altitude
    ∙ ap (λ x. filter_of_parts h.name h.altitude x (option_map (λ at. nowhere) f.queue) (map callback_without f.callbacks)) a.locks
    ∙ ap (λ x. filter_of_parts h.name h.altitude h.locks x (map callback_without f.callbacks)) (queue_alike f.queue h.queue a.queue)
    ∙ ap (λ x. filter_of_parts h.name h.altitude h.locks (option_map (λ at. nowhere) h.queue) x) (callbacks_alike a.callbacks)
