-- Each reader ends: what it gives is spelled and over, and its fault is one by the relation beside the grammar. Heads, callbacks, files.
use Rattle.std.proofs.Common.{◌≡◌, ◌≢◌, ◌⊎◌, inl, inr, ℕ, zero, suc, ◌+◌, ◌-◌, ◌≤◌, ◌<◌, Bool, true, false, nat_lt, List, []}
use Rattle.std.proofs.Common.{◌∷◌, ◌++◌, length, length-append, Ok, Err, refl, sym, ap, subst, ◌∙◌, append_assoc, arith}
use Rattle.std.specs.Prelude.{Option, Some, None, option_map, is_some, if◌then◌else◌}
use Rattle.std.specs.List.{list_all}
use Rattle.std.proofs.lemmas.Bool.{ltb-true, ltb-false}
use Rattle.std.proofs.lemmas.List.{append-nil}
use Rattle.flt_rules.specs.declared.call.LockKind.{LockKind}
use Rattle.flt_rules.specs.declared.place.Operation.{Operation}
use Rattle.flt_syntax.specs.declared.token.Kind.{Kind}
use Rattle.flt_syntax.specs.declared.token.Kind.TheVariants as k
use Rattle.flt_syntax.specs.declared.fault.FaultKind.TheVariants.{E05, E06}
use Rattle.flt_syntax.specs.declared.fault.SyntaxFault.{SyntaxFault}
use Rattle.flt_tree.specs.declared.filter.Callback.{Callback}
use Rattle.flt_tree.specs.declared.filter.Head.{Head}
use Rattle.flt_tree.specs.declared.filter.Head.TheVariants.{Pre, Post, Canceled, DeferredPre, DeferredPost, Generic}
use Rattle.flt_tree.specs.declared.filter.Lock.{Lock}
use Rattle.flt_tree.specs.declared.filter.Position.{Position}
use Rattle.flt_tree.specs.Names.{Text}
use Rattle.flt_syntax.specs.Lex.{same_kind}
use Rattle.flt_syntax.specs.Grammar as g
use Rattle.flt_syntax.specs.Grammar.{HeadAt, CallbackAt, CallbacksAt, LocksAt, QueueAt}
use Rattle.flt_tree.specs.Declarations.{AreNewLocks, is_declared, AreNewCallbacks, same_event, has_event, has_routine, has_lock}
use Rattle.flt_syntax.specs.Words.{Next, Meant, NameAt}
use Rattle.flt_syntax.specs.Scope.{Scope}
use Rattle.flt_tree.specs.Measures.{is_small}
use Rattle.flt_rules.specs.Limits.{max_callbacks, max_altitude, max_locks, max_depth, max_repeats}
use Rattle.flt_syntax.specs.Head.{operation_of, operation, event_by, event, new_event, new_routine, new_head_by}
use Rattle.flt_syntax.specs.Head.{new_head, is_among, is_taken, begins_head, crowded, head}
use Rattle.flt_syntax.specs.File.{lock_kind_of, lock_kind, lock, locks_from, locks, queue, callback, callbacks_from, callbacks, file}
use Rattle.flt_syntax.specs.Cursor.{Input, ◌>>=◌, pure, kind, next, position, refusal, fault, fault_at, fail, sees}
use Rattle.flt_syntax.proofs.TokenKinds.{differ, kind_same, apart_kinds, unseen, took, meant_at}
use Rattle.flt_syntax.proofs.Complete.{kind_is, means, rest_is, next_less, meant_less, name_less}
use Rattle.flt_syntax.specs.Over.{QueueOver}
use Rattle.flt_syntax.specs.WordFails.{Refused, MeantFails}
use Rattle.flt_syntax.specs.FileFails as bad
use Rattle.flt_syntax.specs.FileFails.{NewNameFails, HeadFails, CallbackFails, CallbacksFails, LocksFails, FileFails}
use Rattle.flt_syntax.specs.TextFails.{Reads}
use Rattle.flt_syntax.proofs.Ends.{Ends, gives, fails, then_ends, ends_by, refused, expect_ends, Eaten}
use Rattle.flt_syntax.proofs.Ends.{eaten, left, eat_ends, meant_ends, spelled_ends, within_ends}
use Rattle.flt_syntax.proofs.EndStatements.{either, is_there, statements_ends, block_ends}
use Rattle.flt_syntax.proofs.CompleteFiles.{callback_less}

-- ---- heads

operation_ends : (i : Input) → Ends (Meant operation_of i) (MeantFails operation_of i) (operation i)
unfolding operation
operation_ends i = meant_ends operation_of i _ refl refl

abbrev is_event_word : Kind → Bool
is_event_word k.Pre = true
is_event_word k.Post = true
is_event_word k.Canceled = true
is_event_word _ = false

abbrev is_routine_word : Kind → Bool
is_routine_word k.DeferredPre = true
is_routine_word k.DeferredPost = true
is_routine_word k.Generic = true
is_routine_word _ = false

no_head : (a : Kind) → is_event_word a ≡ false → is_routine_word a ≡ false → begins_head a ≡ false
no_head k.Pre e h = elim (differ (sym e)) [ ]
no_head k.Post e h = elim (differ (sym e)) [ ]
no_head k.Canceled e h = elim (differ (sym e)) [ ]
no_head k.DeferredPre e h = elim (differ (sym h)) [ ]
no_head k.DeferredPost e h = elim (differ (sym h)) [ ]
no_head k.Generic e h = elim (differ (sym h)) [ ]
no_head _ e h = refl

-- no event is for a routine
pub never : (h : Head) → ((x : Head) → same_event x h ≡ false) → (cs : List Callback) → has_event h cs ≡ false
never h e [] = refl
never h e (c ∷ cs) = rw (e c.head) (never h e cs)

-- an event is no `deferred_pre`
pub no_deferred_pre : (name : Text) (x : Head) → same_event x (DeferredPre name) ≡ false
no_deferred_pre name (Pre op) = refl
no_deferred_pre name _ = refl

-- an event is no `deferred_post`
pub no_deferred_post : (name : Text) (x : Head) → same_event x (DeferredPost name) ≡ false
no_deferred_post name (Pre op) = refl
no_deferred_post name _ = refl

-- an event is no `generic`
pub no_generic : (name : Text) (x : Head) → same_event x (Generic name) ≡ false
no_generic name (Pre op) = refl
no_generic name _ = refl

module _ (text : Text) (found : List Callback) where
  -- an event is declared by an event
  abbrev EventAt : Input → Head → Input → Type 0
  EventAt i h o = HeadAt text i h o × (is_declared h found ≡ has_event h found)

  -- a head that is new
  abbrev NewHead : Input → Head → Input → Type 0
  NewHead i h o = HeadAt text i h o × (is_declared h found ≡ false)

  abbrev NewName : Input → Text → Input → Type 0
  NewName i name o = NameAt text i name o × (has_routine name found ≡ false)

  module _ (few : length found < max_callbacks) where
    event_by_ends : (i : Input) (kd : Kind) → kind i ≡ kd → is_routine_word (kind i) ≡ false →
        Ends (EventAt i) (HeadFails text found i) (event_by kd i)
    unfolding same_kind
    event_by_ends i k.Pre e r =
        let n = took i k.Pre refl e in
        then_ends _ (operation_ends (next i)) (λ f h. bad.pre few n h) (λ x o p. gives (g.pre n p, refl))
    event_by_ends i k.Post e r =
        let n = took i k.Post refl e in
        then_ends _ (operation_ends (next i)) (λ f h. bad.post few n h) (λ x o p. gives (g.post n p, refl))
    event_by_ends i k.Canceled e r = gives (g.canceled (took i k.Canceled refl e), refl)
    event_by_ends i _ e r = fails (bad.no_head (no_head (kind i) (ap is_event_word e) r) (refused i))

    event_ends : (i : Input) → is_routine_word (kind i) ≡ false → Ends (EventAt i) (HeadFails text found i) (event i)
    unfolding event
    event_ends i r = event_by_ends i (kind i) refl r

    new_event_by : (i : Input) (h : Head) (o : Input) (b : Bool) → EventAt i h o → has_event h found ≡ b →
        Ends (NewHead i) (HeadFails text found i) (if b then fail E05 i else Ok (h, o))
    new_event_by i h o true p e = fails (bad.event_twice p.0 e)
    new_event_by i h o false p e = gives (p.0, p.1 ∙ e)

    new_event_ends : (i : Input) → is_routine_word (kind i) ≡ false → Ends (NewHead i) (HeadFails text found i) (new_event found i)
    unfolding new_event
    new_event_ends i r = then_ends _ (event_ends i r) (λ f h. h) (λ h o p. new_event_by i h o (has_event h found) p refl)

    new_name_by : (i : Input) (name : Text) (o : Input) (b : Bool) → NameAt text i name o → has_routine name found ≡ b →
        Ends (NewName i) (NewNameFails text found i) (if b then fail E05 i else Ok (name, o))
    new_name_by i name o true p e = fails (bad.name_twice p e)
    new_name_by i name o false p e = gives (p, e)

    new_routine_ends : (i : Input) → Ends (NewName (next i)) (NewNameFails text found (next i)) (new_routine text found i)
    unfolding new_routine
    new_routine_ends i =
        then_ends _ (spelled_ends text (next i)) (λ f h. bad.no_name h)
        (λ name o p. new_name_by (next i) name o (has_routine name found) p refl)

    new_head_by_ends : (i : Input) (kd : Kind) → kind i ≡ kd → Ends (NewHead i) (HeadFails text found i) (new_head_by text found kd i)
    unfolding same_kind
    new_head_by_ends i k.DeferredPre e =
        let n = took i k.DeferredPre refl e in
        then_ends _ (new_routine_ends i) (λ f h. bad.deferred_pre few n h) (λ name o p. gives (g.deferred_pre n p.0, p.1))
    new_head_by_ends i k.DeferredPost e =
        let n = took i k.DeferredPost refl e in
        then_ends _ (new_routine_ends i) (λ f h. bad.deferred_post few n h) (λ name o p. gives (g.deferred_post n p.0, p.1))
    new_head_by_ends i k.Generic e =
        let n = took i k.Generic refl e in
        then_ends _ (new_routine_ends i) (λ f h. bad.generic few n h) (λ name o p. gives (g.generic n p.0, p.1))
    new_head_by_ends i _ e = new_event_ends i (ap is_routine_word e)

    new_head_ends : (i : Input) → Ends (NewHead i) (HeadFails text found i) (new_head text found i)
    unfolding new_head
    new_head_ends i = new_head_by_ends i (kind i) refl

  -- ---- a head too many

  -- an event that is there
  abbrev pub Twice : Input → Type 0
  Twice i = (h : Head) × (o : Input) × HeadAt text i h o × (has_event h found ≡ true)

  pre_twice : (i : Input) (m : Option Operation) → kind i ≡ k.Pre → operation_of (kind (next i)) ≡ m →
      is_among (option_map Pre m) found ≡ true → Twice i
  unfolding same_kind
  pre_twice i None e h t = elim (differ t) [ ]
  pre_twice i (Some op) e h t = (Pre op, next (next i), g.pre (took i k.Pre refl e) (meant_at operation_of (next i) op refl h), t)

  post_twice : (i : Input) (m : Option Operation) → kind i ≡ k.Post → operation_of (kind (next i)) ≡ m →
      is_among (option_map Post m) found ≡ true → Twice i
  unfolding same_kind
  post_twice i None e h t = elim (differ t) [ ]
  post_twice i (Some op) e h t = (Post op, next (next i), g.post (took i k.Post refl e) (meant_at operation_of (next i) op refl h), t)

  -- two words that name an event that is there are its head
  pub event_twice : (i : Input) (a : Kind) → kind i ≡ a → is_taken a (kind (next i)) found ≡ true → Twice i
  unfolding same_kind
  event_twice i k.Pre e t = pre_twice i (operation_of (kind (next i))) e refl t
  event_twice i k.Post e t = post_twice i (operation_of (kind (next i))) e refl t
  event_twice i k.Canceled e t = (Canceled, next i, g.canceled (took i k.Canceled refl e), t)
  event_twice i _ e t = elim (differ t) [ ]

  -- the words of a head say whether it is an event that is there
  pub taken_is : {i o : Input} {h : Head} → HeadAt text i h o → is_taken (kind i) (kind (next i)) found ≡ has_event h found
  taken_is {i = i} (g.pre n p) = ap (λ a. is_taken a (kind (next i)) found) (kind_is n)
      ∙ ap (λ m. is_among (option_map Pre m) found) (ap (λ x. operation_of (kind x)) (rest_is n) ∙ means p)
  taken_is {i = i} (g.post n p) = ap (λ a. is_taken a (kind (next i)) found) (kind_is n)
      ∙ ap (λ m. is_among (option_map Post m) found) (ap (λ x. operation_of (kind x)) (rest_is n) ∙ means p)
  taken_is {i = i} (g.canceled n) = ap (λ a. is_taken a (kind (next i)) found) (kind_is n)
  taken_is {i = i} (g.deferred_pre {name = name} n p) =
      ap (λ a. is_taken a (kind (next i)) found) (kind_is n) ∙ sym (never (DeferredPre name) (no_deferred_pre name) found)
  taken_is {i = i} (g.deferred_post {name = name} n p) =
      ap (λ a. is_taken a (kind (next i)) found) (kind_is n) ∙ sym (never (DeferredPost name) (no_deferred_post name) found)
  taken_is {i = i} (g.generic {name = name} n p) =
      ap (λ a. is_taken a (kind (next i)) found) (kind_is n) ∙ sym (never (Generic name) (no_generic name) found)

  taken_by : (i : Input) (b : Bool) → max_callbacks ≤ length found → begins_head (kind i) ≡ true →
      is_taken (kind i) (kind (next i)) found ≡ b → HeadFails text found i (fault_at (if b then E05 else E06) i)
  taken_by i true many e t = let x = event_twice i (kind i) refl t in bad.event_twice x.2 x.3
  taken_by i false many e t = bad.callback_too_many many e (λ h o p. sym (taken_is p) ∙ t)

  crowded_by : (i : Input) (b : Bool) → max_callbacks ≤ length found → begins_head (kind i) ≡ b →
      HeadFails text found i
      (if b then fault_at (if is_taken (kind i) (kind (next i)) found then E05 else E06) i else refusal i)
  crowded_by i true many e = taken_by i (is_taken (kind i) (kind (next i)) found) many e refl
  crowded_by i false many e = bad.no_head e (refused i)

  crowded_at : (i : Input) → max_callbacks ≤ length found → HeadFails text found i (crowded found i)
  unfolding crowded
  crowded_at i many = crowded_by i (begins_head (kind i)) many refl

  abbrev HeadHere : Input → Head → Input → Type 0
  HeadHere i h o = HeadAt text i h o × (is_declared h found ≡ false) × (length found < max_callbacks)

  head_by : (i : Input) (b : Bool) → nat_lt (length found) max_callbacks ≡ b →
      Ends (HeadHere i) (HeadFails text found i) (if b then new_head text found i else Err (crowded found i))
  head_by i true e = let few = ltb-true _ _ e in ends_by (λ h o p. (p.0, p.1, few)) (λ f h. h) (new_head_ends few i)
  head_by i false e = fails (crowded_at i (ltb-false _ _ e))

  head_ends : (i : Input) → Ends (HeadHere i) (HeadFails text found i) (head text found i)
  unfolding head
  head_ends i = head_by i _ refl

-- ---- callbacks

record NewAt (scope : Scope) (found : List Callback) (i : Input) (c : Callback) (o : Input) : Type 0 where
  at : CallbackAt scope i c o
  fresh : is_declared c.head found ≡ false
  few : length found < max_callbacks
  small : is_small c ≡ true

measured_by : (scope : Scope) (found : List Callback) (i : Input) (c : Callback) (o : Input) (b : Bool) → CallbackAt scope i c o →
    is_declared c.head found ≡ false → length found < max_callbacks → is_small c ≡ b →
    Ends (NewAt scope found i) (CallbackFails scope found i) (if b then Ok (c, o) else Err (fault E06 (position i)))
measured_by scope found i c o true p fresh few e = gives (record { at = p; fresh = fresh; few = few; small = e })
measured_by scope found i c o false p fresh few e = fails (bad.too_great p fresh few e)

callback_ends : (scope : Scope) (found : List Callback) (i : Input) →
    Ends (NewAt scope found i) (CallbackFails scope found i) (callback scope found i)
unfolding callback same_kind
callback_ends scope found i =
    then_ends _ (head_ends scope.text found i) (λ f h. bad.head h) (λ h a p.
    then_ends _ (expect_ends a k.OpenBrace refl) (λ f q. bad.brace p.0 p.1 p.2 q) (λ _ b n.
    then_ends _ (statements_ends scope (max_depth - 1) (block_ends scope (max_depth - 1)) max_repeats b)
    (λ f q. bad.body p.0 p.1 p.2 n q) (λ body l q.
    then_ends _ (expect_ends l k.CloseBrace refl) (λ f h. absurd (is_there q.1 h)) (λ _ o m.
    measured_by scope found i _ o _ (g.callback p.0 n q.0 m) p.1 p.2 refl))))

record ManyAt (scope : Scope) (found : List Callback) (i : Input) (all : List Callback) (o : Input) : Type 0 where
  more : List Callback
  parts : all ≡ found ++ more
  at : CallbacksAt scope i more o
  ends : kind o ≡ k.End
  fresh : AreNewCallbacks found more
  few : length found + length more ≤ max_callbacks
  small : list_all is_small more ≡ true

one_more : {A : Type 0} (found cs : List A) (c : A) (n : ℕ) → length (found ++ c ∷ []) + length cs ≤ n → length found + length (c ∷ cs) ≤ n
one_more found cs c n h = omega (arith, length-append found (c ∷ []))

small_too : (c : Callback) (cs : List Callback) → is_small c ≡ true → list_all is_small cs ≡ true → list_all is_small (c ∷ cs) ≡ true
small_too c cs e h = rw (e, h) refl

go_on : (scope : Scope) (found : List Callback) (i j : Input) (c : Callback) → NewAt scope found i c j → (all : List Callback) (o : Input) →
    ManyAt scope (found ++ c ∷ []) j all o → ManyAt scope found i all o
go_on scope found i j c p all o m = record {
  more = c ∷ m.more;
  parts = m.parts ∙ append_assoc found (c ∷ []) m.more;
  at = g.more p.at m.at;
  ends = m.ends;
  fresh = (p.fresh, m.fresh);
  few = one_more found m.more c max_callbacks m.few;
  small = small_too c m.more p.small m.small;
}

module _ (scope : Scope) (n : ℕ) (rest : (found : List Callback) (i : Input) → length i ≤ n →
    Ends (ManyAt scope found i) (CallbacksFails scope found i) (callbacks_from scope n found i)) where
  turn_ends : (found : List Callback) (i j : Input) (c : Callback) (b : Bool) → length i ≤ suc n → NewAt scope found i c j →
      sees k.End j ≡ b →
      Ends (ManyAt scope found i) (CallbacksFails scope found i)
      (if b then Ok (found ++ c ∷ [], j) else callbacks_from scope n (found ++ c ∷ []) j)
  turn_ends found i j c true fits p e = gives (record {
    more = c ∷ [];
    parts = refl;
    at = g.last p.at;
    ends = kind_same _ _ e;
    fresh = (p.fresh, tt);
    few = let h = p.few in omega arith;
    small = small_too c [] p.small refl;
  })
  turn_ends found i j c false fits p e =
      ends_by (go_on scope found i j c p) (λ f h. bad.later_callback p.at p.fresh p.few p.small (unseen k.End j e) h)
      (rest (found ++ c ∷ []) j (omega (arith, callback_less p.at, fits)))

callbacks_from_ends : (scope : Scope) (n : ℕ) (found : List Callback) (i : Input) → length i ≤ n →
    Ends (ManyAt scope found i) (CallbacksFails scope found i) (callbacks_from scope n found i)
unfolding callbacks_from
callbacks_from_ends scope zero found [] fits = fails (bad.here (bad.head (bad.no_head refl (refused []))))
callbacks_from_ends scope zero found (t ∷ i) fits = absurd (omega (arith, fits))
callbacks_from_ends scope (suc n) found i fits =
    then_ends _ (callback_ends scope found i) (λ f h. bad.here h)
    (λ c j p. turn_ends scope n (callbacks_from_ends scope n) found i j c (sees k.End j) fits p refl)

callbacks_ends : (scope : Scope) (i : Input) → Ends (ManyAt scope [] i) (CallbacksFails scope [] i) (callbacks scope i)
unfolding callbacks
callbacks_ends scope i = callbacks_from_ends scope (length i) [] i (omega arith)

-- ---- locks

lock_kind_ends : (i : Input) → Ends (Meant lock_kind_of i) (MeantFails lock_kind_of i) (lock_kind i)
unfolding lock_kind
lock_kind_ends i = meant_ends lock_kind_of i _ refl refl

record NewLockAt (text : Text) (found : List Lock) (i : Input) (l : Lock) (o : Input) : Type 0 where
  after : Input
  kind_at : Meant lock_kind_of i l.kind after
  named : NameAt text after l.name o
  fresh : has_lock l.name found ≡ false
  few : length found < max_locks

new_lock_by : (text : Text) (found : List Lock) (i a b o : Input) (lk : LockKind) (name : Text) (x y : Bool) →
    Next k.Lock i a → Meant lock_kind_of a lk b → NameAt text b name o → has_lock name found ≡ x → nat_lt (length found) max_locks ≡ y →
    Ends (NewLockAt text found a) (LocksFails text found i) (if x then Err (fault E05 (position b))
    else (if y then Ok (record { kind = lk; name = name }, o) else Err (fault E06 (position b))))
new_lock_by text found i a b o lk name true y n p q e h = fails (bad.lock_twice n p q e)
new_lock_by text found i a b o lk name false true n p q e h =
    gives (record { after = b; kind_at = p; named = q; fresh = e; few = ltb-true _ _ h })
new_lock_by text found i a b o lk name false false n p q e h = fails (bad.lock_too_many n p q e (ltb-false _ _ h))

lock_ends : (text : Text) (found : List Lock) (i a : Input) → Next k.Lock i a →
    Ends (NewLockAt text found a) (LocksFails text found i) (lock text found a)
unfolding lock
lock_ends text found i a n =
    then_ends _ (lock_kind_ends a) (λ f h. bad.sort n h) (λ lk b p.
    then_ends _ (spelled_ends text b) (λ f h. bad.no_lock_name n p h) (λ name o q.
    new_lock_by text found i a b o lk name _ _ n p q refl refl))

record ManyLocksAt (text : Text) (found : List Lock) (i : Input) (all : List Lock) (o : Input) : Type 0 where
  more : List Lock
  parts : all ≡ found ++ more
  at : LocksAt text i more o
  over : kind o ≢ k.Lock
  fresh : AreNewLocks found more
  few : length found + length more ≤ max_locks

next_lock : (text : Text) (found : List Lock) (i a j : Input) (l : Lock) → Next k.Lock i a → NewLockAt text found a l j →
    (all : List Lock) (o : Input) → ManyLocksAt text (found ++ l ∷ []) j all o → ManyLocksAt text found i all o
next_lock text found i a j l n p all o m = record {
  more = l ∷ m.more;
  parts = m.parts ∙ append_assoc found (l ∷ []) m.more;
  at = g.one_lock n p.kind_at p.named m.at;
  over = m.over;
  fresh = (p.fresh, m.fresh);
  few = one_more found m.more l max_locks m.few;
}

one_longer : {A : Type 0} (found : List A) (c : A) (n : ℕ) → length found < n → length (found ++ c ∷ []) ≤ n
one_longer found c n h = omega (arith, length-append found (c ∷ []))

module _ (text : Text) (n : ℕ) (rest : (found : List Lock) (i : Input) → length found ≤ max_locks → 0 < n → length i ≤ n →
    Ends (ManyLocksAt text found i) (LocksFails text found i) (locks_from text n found i)) where
  lock_turn : (found : List Lock) (i : Input) (b : Bool) (j : Input) → length found ≤ max_locks → length i ≤ suc n → Eaten k.Lock i b j →
      Ends (ManyLocksAt text found i) (LocksFails text found i)
      ((if b then (lock text found >>= (λ l. locks_from text n (found ++ l ∷ []))) else pure found) j)
  lock_turn found i true j few fits (eaten m) =
      then_ends _ (lock_ends text found i j m) (λ f h. h) (λ l o p.
      let shorter = next_less m in let shorter2 = meant_less p.kind_at in let shorter3 = name_less p.named in
      ends_by (next_lock text found i j o l m p) (λ f h. bad.later_lock m p.kind_at p.named p.fresh p.few h)
      (rest (found ++ l ∷ []) o (one_longer found l max_locks p.few)
      (omega (arith, shorter, shorter2, shorter3, fits)) (omega (arith, shorter, shorter2, shorter3, fits))))
  lock_turn found i false j few fits (left h) =
      gives (record { more = []; parts = sym (append-nil found); at = g.no_lock; over = h; fresh = tt; few = omega (arith, few) })

locks_from_ends : (text : Text) (n : ℕ) (found : List Lock) (i : Input) → length found ≤ max_locks → 0 < n → length i ≤ n →
    Ends (ManyLocksAt text found i) (LocksFails text found i) (locks_from text n found i)
unfolding locks_from same_kind
locks_from_ends text zero found i few some fits = absurd (omega (arith, some))
locks_from_ends text (suc n) found i few some fits =
    then_ends _ (eat_ends i k.Lock refl) (λ f h. h) (λ b j e. lock_turn text n (locks_from_ends text n) found i b j few fits e)

-- a lock fails, or there is no token at all
abbrev NoLocks : Text → Input → SyntaxFault → Type 0
NoLocks text i f = LocksFails text [] i f ⊎ ((i ≡ []) × Refused i f)

locks_ends : (text : Text) (i : Input) → Ends (ManyLocksAt text [] i) (NoLocks text i) (locks text i)
unfolding locks locks_from
locks_ends text [] = fails (inr (refl, refused []))
locks_ends text (t ∷ i) =
    ends_by (λ ls o m. m) (λ f h. inl h) (locks_from_ends text (length (t ∷ i)) [] (t ∷ i) (omega arith) (omega arith) (omega arith))

abbrev QueueHere : Input → Option Position → Input → Type 0
QueueHere i q o = (p : QueueAt i q o) × QueueOver p

queue_of : (i : Input) (b : Bool) (j : Input) → Eaten k.Queue i b j → QueueHere i (if b then Some (position i) else None) j
queue_of i true j (eaten n) = (g.some_queue n, tt)
queue_of i false j (left h) = (g.no_queue, h)

queue_ends : {F : SyntaxFault → Type 0} (i : Input) → Ends (QueueHere i) F (queue i)
unfolding queue same_kind
queue_ends i = then_ends _ (eat_ends i k.Queue refl) (λ f h. h) (λ b j e. gives (queue_of i b j e))

-- ---- the file

end_no_lock : (i : Input) → i ≡ [] → kind i ≢ k.Lock
unfolding same_kind
end_no_lock i e = apart_kinds (kind i) k.End k.Lock (ap kind e) refl

end_no_queue : (i : Input) → i ≡ [] → kind i ≢ k.Queue
unfolding same_kind
end_no_queue i e = apart_kinds (kind i) k.End k.Queue (ap kind e) refl

no_callbacks : (scope : Scope) (i : Input) (f : SyntaxFault) → i ≡ [] → Refused i f → CallbacksFails scope [] i f
no_callbacks scope i f e h = bad.here (bad.head (bad.no_head (ap (λ x. begins_head (kind x)) e) h))

-- a file: what is read is spelled and over, else it fails so
pub file_ends : (text : Text) (i : Input) → Ends (λ f o. Reads text i f) (FileFails text i) (file text i)
unfolding file same_kind
file_ends text i =
    then_ends _ (expect_ends i k.Filter refl) (λ f h. bad.filter h) (λ _ a n.
    then_ends _ (spelled_ends text a) (λ f h. bad.no_filter_name n h) (λ name b m.
    then_ends _ (expect_ends b k.Altitude refl) (λ f h. bad.altitude n m h) (λ _ c x.
    then_ends _ (within_ends 1 max_altitude c) (λ f h. bad.number n m x h) (λ altitude d p.
    then_ends _ (locks_ends text d)
    (λ f h. either h (λ q. bad.locks n m x p.at p.from p.up_to q)
    (λ q. bad.callbacks n m x p.at p.from p.up_to g.no_lock (end_no_lock d q.0) tt (omega arith) g.no_queue (end_no_queue d q.0)
    (no_callbacks _ d f q.0 q.1)))
    (λ ls e y.
    let lock_list = subst (λ v. LocksAt text d v e) (sym y.parts) y.at in
    let new_locks = subst (AreNewLocks []) (sym y.parts) y.fresh in
    let few_locks : length ls ≤ max_locks = (let h = y.few in let e = ap length y.parts in omega arith) in
    then_ends _ (queue_ends e) (λ f h. absurd h) (λ q l z.
    then_ends _ (callbacks_ends (record { text = text; locks = ls; queue = is_some q }) l)
    (λ f h. bad.callbacks n m x p.at p.from p.up_to lock_list y.over new_locks few_locks z.0 z.1 h) (λ cs o w.
    gives (record {
      grammar = g.file n m x p.at lock_list z.0
          (subst (λ v. CallbacksAt (record { text = text; locks = ls; queue = is_some q }) l v o) (sym w.parts) w.at) w.ends;
      low = p.from;
      high = p.up_to;
      few_locks = few_locks;
      new_locks = new_locks;
      few_callbacks = let h = w.few in let e = ap length w.parts in omega arith;
      new_callbacks = subst (AreNewCallbacks []) (sym w.parts) w.fresh;
      small = subst (λ v. list_all is_small v ≡ true) (sym w.parts) w.small;
    }))))))))
