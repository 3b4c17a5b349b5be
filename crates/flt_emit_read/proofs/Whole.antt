-- A whole source is read back.
use Rattle.std.proofs.Common.{◌≡◌, ◌<◌, ◌≤◌, ◌+◌, ◌-◌, ◌^◌, ℕ, zero, suc, Bool, true, false, List, [], ◌∷◌}
use Rattle.std.proofs.Common.{◌++◌, length, map, refl, sym, ap, arith, ◌∙◌, append_assoc, append-nil}
use Rattle.std.proofs.lemmas.Bool.{and_parts}
use Rattle.std.proofs.lemmas.Slice.Eq.{bytes_eq-Decides}
use Rattle.std.specs.Prelude.{flat_map, ◌==◌, ◌&&◌, not, if◌then◌else◌, Option, Some, None, is_some, option_map, codes, decimal, ◌||◌}
use Rattle.std.specs.Char.{is_ascii_digit}
use Rattle.std.specs.List.{list_all, list_any}
use Rattle.flt_rules.proofs.Operations.{of_each, same_is}
use Rattle.flt_rules.specs.Place.{all_operations, same_operation}
use Rattle.flt_rules.specs.declared.call.LockKind.{LockKind}
use Rattle.flt_rules.specs.declared.call.LockKind.TheVariants.{Spin, Fast, Push}
use Rattle.flt_rules.specs.declared.place.Operation.{Operation}
use Rattle.flt_rules.specs.declared.place.Place.{Place}
use Rattle.flt_rules.specs.declared.place.Place.TheVariants as place
use Rattle.flt_tree.specs.Declarations.{same_event}
use Rattle.flt_tree.specs.Filter.{head_place}
use Rattle.flt_rules.specs.Limits.{max_locks, max_callbacks, max_depth, max_repeats}
use Rattle.flt_tree.specs.Measures.{points}
use Rattle.flt_tree.specs.Names.{Text, is_word, is_name}
use Rattle.flt_tree.specs.WellFormed.{IsHead, AreStatements, AreCallbacks}
use Rattle.flt_tree.specs.declared.filter.Callback.{Callback}
use Rattle.flt_tree.specs.declared.filter.Filter.{Filter}
use Rattle.flt_tree.specs.declared.filter.Head.{Head}
use Rattle.flt_tree.specs.declared.filter.Head.TheVariants.{Pre, Post, Canceled, DeferredPre, DeferredPost, Generic}
use Rattle.flt_tree.specs.declared.filter.Lock.{Lock}
use Rattle.flt_tree.specs.declared.filter.Position.{Position}
use Rattle.flt_tree.specs.declared.filter.Statement.{Statement}
use Rattle.flt_emit.specs.Callbacks.{prototype, deferred_prototype, hook, unreturned, done, ending, heading, scope_in}
use Rattle.flt_emit.specs.Callbacks.{opening, contents, callback_text, callbacks_text, prototypes_text, declarations}
use Rattle.flt_emit.specs.Fixed as fixed
use Rattle.flt_emit.specs.Fixed.{unreached, free_deferred, free_generic, globals_end, queue_fields, allocating}
use Rattle.flt_emit.specs.Fixed.{pre_head, post_head, canceled_prototype, deferred_head, generic_head}
use Rattle.flt_emit.specs.Line.{joined}
use Rattle.flt_emit.specs.Names.{operation_word}
use Rattle.flt_emit.specs.Scope.{Scope}
use Rattle.flt_emit.specs.Source.{lock_field, operation_row, row_of, rows_of, title, included, front, globals, helpers, where_queue}
use Rattle.flt_emit.specs.Source.{registered, declared, framed, source, queue_part, attachment, beginning, registering}
use Rattle.flt_emit.specs.Statements.{body_text}
use Rattle.flt_emit.specs.Uses.{always_returns}
use Rattle.flt_emit.specs.declared.scope.Allocation.{Allocation}
use Rattle.flt_emit_read.specs.AsRead.{statement_as_read, callback_as_read, as_read}
use Rattle.flt_emit_read.specs.Blocks.{reading, past_end, step, body_at}
use Rattle.flt_emit_read.specs.Front.{after, one_of}
use Rattle.flt_emit_read.specs.Laws.{ReadsBack}
use Rattle.flt_print.specs.Reprinting.{nowhere}
use Rattle.flt_emit_read.specs.Lines.{line_at, line_start, named_line, number_name_at, context_at, removed_at, ask_forms, table}
use Rattle.flt_emit_read.specs.Lines.{plain_line, plain_forms, lock_line, lock_forms, settle_line, settle_forms}
use Rattle.flt_emit_read.specs.Sources.{lock_at, locks_at, queue_at, operation_kind_at, event_at, routine_at, head_at, prototype_at}
use Rattle.flt_emit_read.specs.Sources.{heads_at, hooked, callback_at, callbacks_at, queue_of, whole_filter, title_at, read_back}
use Rattle.flt_emit_read.proofs.Declared.{declaration_lines}
use Rattle.flt_emit_read.proofs.Fronts.{then_reads, first_reads, other_reads, after_again, all_digits, past_all}
use Rattle.flt_emit_read.proofs.Fronts.{number_reads, name_reads, Stops, pieces, joined_pieces}
use Rattle.flt_emit_read.proofs.Nested.{of_statements, runs}

-- ---- the ends of callbacks

-- no line stands there, but the end of a callback of the place
abbrev pub Ends : Place → List Lock → Text → Text → Type 0
Ends at locks y rest =
    ((point : ℕ) (done : List Statement) → step at locks (reading point done []) y ≡ None) × (past_end [] at y ≡ Some rest)

pub pre_ends : (op : Operation) (locks : List Lock) (b : Bool) (r : Text) →
    Ends (place.Pre op) locks (unreturned b true ++ (codes "}\n" ++ r)) r
unfolding unreturned unreached line_at line_start named_line number_name_at context_at removed_at ask_forms plain_line plain_forms
    lock_line lock_forms settle_line settle_forms
pre_ends op locks true r = (λ point done. refl, refl)
pre_ends op locks false r = (λ point done. refl, refl)

pub post_ends : (op : Operation) (locks : List Lock) (b : Bool) (r : Text) →
    Ends (place.Post op) locks (unreturned b false ++ (codes "}\n" ++ r)) r
unfolding unreturned unreached line_at line_start named_line number_name_at context_at removed_at ask_forms plain_line plain_forms
    lock_line lock_forms settle_line settle_forms
post_ends op locks true r = (λ point done. refl, refl)
post_ends op locks false r = (λ point done. refl, refl)

pub deferred_pre_ends : (locks : List Lock) (b : Bool) (r : Text) →
    Ends place.DeferredPre locks (joined (done b ∷ fixed.free_deferred ∷ []) ++ (codes "}\n" ++ r)) r
unfolding free_deferred line_at line_start named_line number_name_at context_at removed_at ask_forms plain_line plain_forms lock_line
    lock_forms settle_line settle_forms
deferred_pre_ends locks true r = (λ point done. refl, refl)
deferred_pre_ends locks false r = (λ point done. refl, refl)

pub deferred_post_ends : (locks : List Lock) (b : Bool) (r : Text) →
    Ends place.DeferredPost locks (joined (done b ∷ fixed.free_deferred ∷ []) ++ (codes "}\n" ++ r)) r
unfolding free_deferred line_at line_start named_line number_name_at context_at removed_at ask_forms plain_line plain_forms lock_line
    lock_forms settle_line settle_forms
deferred_post_ends locks true r = (λ point done. refl, refl)
deferred_post_ends locks false r = (λ point done. refl, refl)

pub generic_ends : (locks : List Lock) (b : Bool) (r : Text) →
    Ends place.Generic locks (joined (done b ∷ fixed.free_generic ∷ []) ++ (codes "}\n" ++ r)) r
unfolding free_generic line_at line_start named_line number_name_at context_at removed_at ask_forms plain_line plain_forms lock_line
    lock_forms settle_line settle_forms
generic_ends locks true r = (λ point done. refl, refl)
generic_ends locks false r = (λ point done. refl, refl)

pub canceled_ends : (locks : List Lock) (r : Text) → Ends place.Canceled locks (codes "}\n" ++ r) r
unfolding line_at line_start named_line number_name_at context_at removed_at ask_forms plain_line plain_forms lock_line lock_forms
    settle_line settle_forms
canceled_ends locks r = (λ point done. refl, refl)

all_end : (h : Head) (locks : List Lock) (body : List Statement) (r : Text) →
    Ends (head_place h) locks (ending body h ++ (codes "}\n" ++ r)) r
unfolding ending
all_end (Pre op) locks body r = pre_ends op locks (always_returns body) r
all_end (Post op) locks body r = post_ends op locks (always_returns body) r
all_end Canceled locks body r = canceled_ends locks r
all_end (DeferredPre name) locks body r = deferred_pre_ends locks _ r
all_end (DeferredPost name) locks body r = deferred_post_ends locks _ r
all_end (Generic name) locks body r = generic_ends locks _ r

-- ---- bodies

body_reads : (scope : Scope) (queue : Bool) (d n : ℕ) (body : List Statement) → AreStatements scope.locks queue d n body →
    (y r : Text) → Ends scope.place scope.locks y r →
    body_at scope.place scope.locks (body_text scope body 1 0 ++ y) ≡ Some (map (statement_as_read scope.place) body, r)
unfolding body_at
body_reads scope queue d n body ok y r e =
    runs r (of_statements scope queue ok 0 [] [] y) (e.0 (0 + points body) (map (statement_as_read scope.place) body)) e.1
    (suc (length (body_text scope body 1 0 ++ y))) (omega arith)

-- ---- hooks and prototypes

-- a head as its prototype says it
abbrev pub prototyped : Head → Head
prototyped (DeferredPost name) = DeferredPre name
prototyped h = h

same_prototype : (h : Head) → prototype (prototyped h) ≡ prototype h
unfolding prototype
same_prototype (Pre op) = refl
same_prototype (Post op) = refl
same_prototype Canceled = refl
same_prototype (DeferredPre name) = refl
same_prototype (DeferredPost name) = refl
same_prototype (Generic name) = refl

not_pre : (name r : Text) → after (hook (DeferredPre name)) (hook (DeferredPost name) ++ r) ≡ None
unfolding hook
not_pre name r = refl

hook_reads : (h : Head) (r : Text) → hooked (prototyped h) (hook h ++ r) ≡ Some (h, r)
hook_reads (Pre op) r = then_reads _ (after_again (hook (Pre op)) r)
hook_reads (Post op) r = then_reads _ (after_again (hook (Post op)) r)
hook_reads Canceled r = then_reads _ (after_again (hook Canceled) r)
hook_reads (DeferredPre name) r = first_reads _ _ (after_again (hook (DeferredPre name)) r)
hook_reads (DeferredPost name) r = other_reads _ _ (not_pre name r) ∙ then_reads _ (after_again (hook (DeferredPost name)) r)
hook_reads (Generic name) r = then_reads _ (after_again (hook (Generic name)) r)

-- ---- callbacks

callback_reads : (locks : List Lock) (queue : Bool) (instances : List Allocation) (number : ℕ) (c : Callback) →
    list_all (λ l. is_name l.name) locks ≡ true → AreStatements locks queue (max_depth - 1) max_repeats c.body → (r : Text) →
    callback_at locks number (prototyped c.head) (callback_text (scope_in locks instances number c) c ++ r) ≡ Some (callback_as_read c, r)
unfolding callback_at callback_text opening contents heading
callback_reads locks queue instances number c names ok r =
    let scope = scope_in locks instances number c in
    let last = ending c.body c.head ++ (codes "}\n" ++ r) in
    let inner = hook c.head ++ (codes "\n" ++ (body_text scope c.body 1 0 ++ last)) in
    let head = codes "\n{\n" ++ (declarations locks c.head c.body ++ (codes "\n" ++ inner)) in
    let top = prototype c.head ++ head in
    ap (callback_at locks number (prototyped c.head))
    (append_assoc (opening scope c) (contents scope c) r
    ∙ joined_pieces
    (heading scope.callback c.span.line ∷ prototype c.head ∷ codes "\n{\n" ∷ declarations locks c.head c.body ∷ codes "\n" ∷ [])
    (contents scope c ++ r)
    ∙ joined_pieces (codes "\n//\n//  Callback " ∷ decimal number ∷ codes ", line " ∷ decimal c.span.line ∷ codes ".\n//\n\n" ∷ [])
    (prototype c.head ++ (codes "\n{\n" ++ (declarations locks c.head c.body ++ (codes "\n" ++ (contents scope c ++ r)))))
    ∙ ap (λ z. codes "\n//\n//  Callback " ++ (decimal number ++ (codes ", line " ++ (decimal c.span.line ++ (codes ".\n//\n\n"
    ++ (prototype c.head ++ (codes "\n{\n" ++ (declarations locks c.head c.body ++ (codes "\n" ++ z)))))))))
    (joined_pieces (hook c.head ∷ codes "\n" ∷ body_text scope c.body 1 0 ∷ ending c.body c.head ∷ codes "}\n" ∷ []) r))
    ∙ then_reads _ (after_again (decimal number) (codes ", line " ++ (decimal c.span.line ++ (codes ".\n//\n\n" ++ top))))
    ∙ then_reads _ (ap (after (codes ".\n//\n\n"))
    (past_all is_ascii_digit (decimal c.span.line) (codes ".\n//\n\n" ++ top) (all_digits c.span.line) refl))
    ∙ then_reads _ (ap (λ p. after p top) (same_prototype c.head) ∙ after_again (prototype c.head) head)
    ∙ then_reads _ (declaration_lines locks c.head c.body names (codes "\n" ++ inner))
    ∙ then_reads _ (hook_reads c.head (codes "\n" ++ (body_text scope c.body 1 0 ++ last)))
    ∙ then_reads _ (body_reads scope queue (max_depth - 1) max_repeats c.body ok last r (all_end c.head locks c.body r))

callbacks_read : (locks : List Lock) (queue : Bool) (instances : List Allocation) (number : ℕ) (cs : List Callback) →
    list_all (λ l. is_name l.name) locks ≡ true → AreCallbacks locks queue cs → (r : Text) →
    callbacks_at locks number (map (λ c. prototyped c.head) cs) (callbacks_text locks instances number cs ++ r) ≡
    Some (map callback_as_read cs, r)
callbacks_read locks queue instances number [] names ok r = refl
callbacks_read locks queue instances number (c ∷ cs) names ok r =
    ap (callbacks_at locks number (map (λ c. prototyped c.head) (c ∷ cs)))
    (append_assoc (callback_text (scope_in locks instances number c) c) (callbacks_text locks instances (number + 1) cs) r)
    ∙ then_reads _ (callback_reads locks queue instances number c names ok.1 (callbacks_text locks instances (number + 1) cs ++ r))
    ∙ then_reads _ (callbacks_read locks queue instances (number + 1) cs names ok.2 r)

-- ---- prototypes

-- two texts differ at a place that both have
abbrev clash : Text → Text → Bool
clash [] b = false
clash (x ∷ a) [] = false
clash (x ∷ a) (y ∷ b) = not (y == x) || clash a b

-- a text that clashes with what comes isn't there
not_after : (a b r : Text) → clash a b ≡ true → after a (b ++ r) ≡ None
not_after [] b r h = absurd (cc)
not_after (x ∷ a) [] r h = absurd (cc)
not_after (x ∷ a) (y ∷ b) r h = by (y == x) h (λ k. not_after a b r k)
  where
    by : (same : Bool) → (not same || clash a b) ≡ true → (clash a b ≡ true → after a (b ++ r) ≡ None) →
        (if same then after a (b ++ r) else None) ≡ None
    by true h more = more h
    by false h more = refl

-- an operation is among some, and the texts of those before it clash with its own
abbrev is_first_of : List Operation → Operation → Bool
is_first_of [] op = false
is_first_of (x ∷ xs) op = same_operation x op || (clash (operation_word x) (operation_word op) && is_first_of xs op)

reads_first : (xs : List Operation) (op : Operation) (r : Text) → is_first_of xs op ≡ true →
    one_of (table operation_word xs) (operation_word op ++ r) ≡ Some (op, r)
reads_first [] op r h = absurd (cc)
reads_first (x ∷ xs) op r h = by (same_operation x op) refl h (λ k. reads_first xs op r k)
  where
    by : (same : Bool) → same_operation x op ≡ same → (same || (clash (operation_word x) (operation_word op) && is_first_of xs op)) ≡ true →
        (is_first_of xs op ≡ true → one_of (table operation_word xs) (operation_word op ++ r) ≡ Some (op, r)) →
        one_of (table operation_word (x ∷ xs)) (operation_word op ++ r) ≡ Some (op, r)
    by true e h more = rw (same_is x op e, after_again (operation_word op) r) refl
    by false e h more =
        let parts = and_parts (clash (operation_word x) (operation_word op)) (is_first_of xs op) h in
        rw (not_after (operation_word x) (operation_word op) r parts.0) (more parts.1)

operation_kind_reads : (op : Operation) (r : Text) → operation_kind_at (operation_word op ++ r) ≡ Some (op, r)
unfolding operation_kind_at
operation_kind_reads op r = reads_first all_operations op r (of_each (is_first_of all_operations) refl op)

head_reads : (h : Head) → IsHead h → (r : Text) → head_at (prototype h ++ r) ≡ Some (prototyped h, r)
unfolding head_at prototype deferred_prototype event_at routine_at pre_head post_head canceled_prototype deferred_head generic_head
    fixed.pre_parameters fixed.post_parameters fixed.deferred_parameters fixed.generic_parameters
head_reads (Pre op) ok r = ap head_at (joined_pieces (fixed.pre_head ∷ operation_word op ∷ fixed.pre_parameters ∷ []) r)
    ∙ then_reads _ (operation_kind_reads op (fixed.pre_parameters ++ r))
head_reads (Post op) ok r = ap head_at (joined_pieces (fixed.post_head ∷ operation_word op ∷ fixed.post_parameters ∷ []) r)
    ∙ then_reads _ (operation_kind_reads op (fixed.post_parameters ++ r))
head_reads Canceled ok r = refl
head_reads (DeferredPre name) ok r = ap head_at (joined_pieces (fixed.deferred_head ∷ name ∷ fixed.deferred_parameters ∷ []) r)
    ∙ then_reads _ (name_reads name (fixed.deferred_parameters ++ r) ok refl)
head_reads (DeferredPost name) ok r = ap head_at (joined_pieces (fixed.deferred_head ∷ name ∷ fixed.deferred_parameters ∷ []) r)
    ∙ then_reads _ (name_reads name (fixed.deferred_parameters ++ r) ok refl)
head_reads (Generic name) ok r = ap head_at (joined_pieces (fixed.generic_head ∷ name ∷ fixed.generic_parameters ∷ []) r)
    ∙ then_reads _ (name_reads name (fixed.generic_parameters ++ r) ok refl)

abbrev pub one_prototype : Head → Text
one_prototype h = codes "\n" ++ (prototype h ++ codes ";\n")

prototype_reads : (h : Head) → IsHead h → (r : Text) → prototype_at (one_prototype h ++ r) ≡ Some (prototyped h, r)
unfolding prototype_at
prototype_reads h ok r =
    ap (λ z. prototype_at (codes "\n" ++ z)) (append_assoc (prototype h) (codes ";\n") r)
    ∙ then_reads _ (head_reads h ok (codes ";\n" ++ r))

heads_read : (queue : Bool) (locks : List Lock) (cs : List Callback) (left : ℕ) (found : List Head) → length cs ≤ left →
    AreCallbacks locks queue cs → (r : Text) → prototype_at r ≡ None →
    heads_at left found (prototypes_text cs ++ r) ≡ Some (found ++ map (λ c. prototyped c.head) cs, r)
heads_read queue locks [] zero found few ok r e = ap (λ l. Some (l, r)) (sym (append-nil found))
heads_read queue locks [] (suc left) found few ok r e = other_reads _ _ e ∙ ap (λ l. Some (l, r)) (sym (append-nil found))
heads_read queue locks (c ∷ cs) zero found few ok r e = absurd (omega (arith, few))
heads_read queue locks (c ∷ cs) (suc left) found few ok r e =
    ap (heads_at (suc left) found) (append_assoc (one_prototype c.head) (prototypes_text cs) r)
    ∙ first_reads _ _ (prototype_reads c.head ok.0 (prototypes_text cs ++ r))
    ∙ heads_read queue locks cs left (found ++ prototyped c.head ∷ []) (omega (arith, few)) ok.2 r e
    ∙ ap (λ l. Some (l, r)) (append_assoc found (prototyped c.head ∷ []) (map (λ c. prototyped c.head) cs))

-- ---- locks

lock_reads : (l : Lock) → is_name l.name ≡ true → (r : Text) → lock_at (lock_field l ++ r) ≡ Some (l, r)
unfolding lock_at
lock_reads l h r = go l.kind l.name h
  where
    go : (kind : LockKind) (name : Text) → is_name name ≡ true →
        lock_at (lock_field (record { kind = kind; name = name }) ++ r) ≡ Some (record { kind = kind; name = name }, r)
    go Spin name h = ap lock_at (joined_pieces (codes "    KSPIN_LOCK lock_" ∷ name ∷ codes ";\n" ∷ []) r)
        ∙ then_reads _ (name_reads name (codes ";\n" ++ r) h refl)
    go Fast name h = ap lock_at (joined_pieces (codes "    FAST_MUTEX lock_" ∷ name ∷ codes ";\n" ∷ []) r)
        ∙ then_reads _ (name_reads name (codes ";\n" ++ r) h refl)
    go Push name h = ap lock_at (joined_pieces (codes "    EX_PUSH_LOCK lock_" ∷ name ∷ codes ";\n" ∷ []) r)
        ∙ then_reads _ (name_reads name (codes ";\n" ++ r) h refl)

locks_read : (ls : List Lock) (left : ℕ) (found : List Lock) → length ls ≤ left → list_all (λ l. is_name l.name) ls ≡ true →
    (r : Text) → lock_at r ≡ None → locks_at left found (flat_map lock_field ls ++ r) ≡ Some (found ++ ls, r)
locks_read [] zero found few h r e = ap (λ l. Some (l, r)) (sym (append-nil found))
locks_read [] (suc left) found few h r e = other_reads _ _ e ∙ ap (λ l. Some (l, r)) (sym (append-nil found))
locks_read (l ∷ ls) zero found few h r e = absurd (omega (arith, few))
locks_read (l ∷ ls) (suc left) found few h r e =
    let both = and_parts (is_name l.name) (list_all (λ l. is_name l.name) ls) h in
    ap (locks_at (suc left) found) (append_assoc (lock_field l) (flat_map lock_field ls) r)
    ∙ first_reads _ _ (lock_reads l both.0 (flat_map lock_field ls ++ r))
    ∙ locks_read ls left (found ++ l ∷ []) (omega (arith, few)) both.1 r e
    ∙ ap (λ l. Some (l, r)) (append_assoc found (l ∷ []) ls)

-- no lock stands before the queue, or before what follows
no_lock : (queue : Bool) (r : Text) → lock_at (where_queue queue fixed.queue_fields ++ (fixed.globals_end ++ r)) ≡ None
unfolding lock_at queue_fields globals_end
no_lock true r = refl
no_lock false r = refl

queue_reads : (queue : Bool) (r : Text) →
    queue_at (where_queue queue fixed.queue_fields ++ (fixed.globals_end ++ r)) ≡ Some (queue, fixed.globals_end ++ r)
unfolding queue_at queue_fields globals_end
queue_reads true r = refl
queue_reads false r = refl

no_prototype : (queue : Bool) (r : Text) → prototype_at (helpers queue ++ r) ≡ None
unfolding prototype_at head_at helpers allocating pre_head post_head canceled_prototype deferred_head generic_head
no_prototype queue r = refl

-- ---- what stands behind the callbacks

any_alike : (p : Head → Bool) (cs : List Callback) → list_any (λ c. p c.head) (map callback_as_read cs) ≡ list_any (λ c. p c.head) cs
any_alike p [] = refl
any_alike p (c ∷ cs) = ap (λ b. p c.head || b) (any_alike p cs)

row_alike : (all : List Callback) (h : Head) → row_of (map callback_as_read all) h ≡ row_of all h
row_alike all (Pre op) = ap (λ b. operation_row b op) (any_alike (λ h. same_event h (Post op)) all)
row_alike all (Post op) = refl
row_alike all Canceled = refl
row_alike all (DeferredPre name) = refl
row_alike all (DeferredPost name) = refl
row_alike all (Generic name) = refl

rows_alike : (all cs : List Callback) → rows_of (map callback_as_read all) (map callback_as_read cs) ≡ rows_of all cs
rows_alike all [] = refl
rows_alike all (c ∷ cs) = ap (λ x. x ++ rows_of (map callback_as_read all) (map callback_as_read cs)) (row_alike all c.head)
    ∙ ap (λ x. row_of all c.head ++ x) (rows_alike all cs)

queue_alike : (q : Option Position) → is_some (option_map (λ (at : Position). nowhere) q) ≡ is_some q
queue_alike None = refl
queue_alike (Some at) = refl

queue_back : (q : Option Position) → queue_of (is_some q) ≡ option_map (λ (at : Position). nowhere) q
queue_back None = refl
queue_back (Some at) = refl

registered_alike : (cs : List Callback) (q : Bool) → registered (map callback_as_read cs) q ≡ registered cs q
unfolding registered
registered_alike cs q =
    ap (λ rows. joined (fixed.operations ∷ rows ∷ fixed.registration ∷ where_queue q fixed.queue_registration ∷ [])) (rows_alike cs cs)

same_frame : (f : Filter) → framed (as_read f) ≡ framed f
unfolding framed
same_frame f =
    ap (λ q. joined (queue_part q ∷ attachment f.locks q ∷ registered (map callback_as_read f.callbacks) q ∷ beginning f.locks q
    ∷ registering f.locks ∷ [])) (queue_alike f.queue)
    ∙ ap (λ x. joined (queue_part (is_some f.queue) ∷ attachment f.locks (is_some f.queue) ∷ x ∷ beginning f.locks (is_some f.queue)
    ∷ registering f.locks ∷ [])) (registered_alike f.callbacks (is_some f.queue))

whole_reads : (f g : Filter) → g ≡ as_read f → whole_filter g (framed f ++ []) ≡ Some (as_read f)
unfolding whole_filter
whole_reads f g e =
    ap (λ h. whole_filter h (framed f ++ [])) e
    ∙ rw ((bytes_eq-Decides (framed f ++ []) (framed (as_read f))).1 (append-nil (framed f) ∙ sym (same_frame f))) refl

-- ---- the title

title_stops : (r : Text) → Stops is_word (fixed.source_title ++ r)
unfolding fixed.source_title
title_stops r = refl

title_reads : (f : Filter) → is_name f.name ≡ true → f.altitude < 2 ^ 64 → (r : Text) →
    title_at (front f ++ r) ≡ Some ((f.name, f.altitude), r)
unfolding title_at front title included
title_reads f h small r =
    let name = f.name in
    let last = codes "#include \"" ++ (name ++ (codes "_user.h\"\n" ++ r)) in
    ap title_at
    (joined_pieces (title f ∷ fixed.written ∷ included f ∷ []) r
    ∙ joined_pieces (fixed.comment_begin ∷ name ∷ fixed.source_title ∷ name ∷ fixed.altitude_title ∷ decimal f.altitude ∷ codes ".\n" ∷ [])
    (fixed.written ++ (included f ++ r))
    ∙ ap (λ z. pieces
    (fixed.comment_begin ∷ name ∷ fixed.source_title ∷ name ∷ fixed.altitude_title ∷ decimal f.altitude ∷ codes ".\n" ∷ [])
    (fixed.written ++ z)) (joined_pieces (codes "#include \"" ∷ name ∷ codes "_user.h\"\n" ∷ []) r))
    ∙ then_reads _ (after_again fixed.comment_begin (name ++ (fixed.source_title ++ (name ++ (fixed.altitude_title ++ (decimal f.altitude
    ++ (codes ".\n" ++ (fixed.written ++ last))))))))
    ∙ then_reads _ (name_reads name (fixed.source_title ++ (name ++ (fixed.altitude_title ++ (decimal f.altitude ++ (codes ".\n"
    ++ (fixed.written ++ last)))))) h (title_stops _))
    ∙ then_reads _ (after_again fixed.source_title (name ++ (fixed.altitude_title ++ (decimal f.altitude ++ (codes ".\n"
    ++ (fixed.written ++ last))))))
    ∙ then_reads _ (after_again name (fixed.altitude_title ++ (decimal f.altitude ++ (codes ".\n" ++ (fixed.written ++ last)))))
    ∙ then_reads _ (after_again fixed.altitude_title (decimal f.altitude ++ (codes ".\n" ++ (fixed.written ++ last))))
    ∙ then_reads _ (number_reads f.altitude (codes ".\n" ++ (fixed.written ++ last)) small refl)
    ∙ then_reads _ (after_again fixed.written last)
    ∙ then_reads _ (after_again name (codes "_user.h\"\n" ++ r))

-- ---- all of it

-- each well-formed filter is read back from its source
pub reads_back : ReadsBack
unfolding read_back source declared globals
reads_back instances f ok =
    let q = is_some f.queue in
    let last = framed f ++ [] in
    let bodies = callbacks_text f.locks instances 0 f.callbacks ++ last in
    let functions = helpers q ++ bodies in
    let heads = prototypes_text f.callbacks ++ functions in
    let kinds = where_queue q fixed.queue_fields ++ (fixed.globals_end ++ heads) in
    ap read_back
    (joined_pieces (front f ∷ globals f.locks q ∷ prototypes_text f.callbacks ∷ helpers q ∷ []) bodies
    ∙ ap (λ z. front f ++ z)
    (joined_pieces (fixed.contexts ∷ flat_map lock_field f.locks ∷ where_queue q fixed.queue_fields ∷ fixed.globals_end ∷ []) heads))
    ∙ then_reads _ (title_reads f ok.name (omega (arith, ok.high)) (fixed.contexts ++ (flat_map lock_field f.locks ++ kinds)))
    ∙ then_reads _ (after_again fixed.contexts (flat_map lock_field f.locks ++ kinds))
    ∙ then_reads _ (locks_read f.locks max_locks [] ok.few_locks ok.lock_names kinds (no_lock q heads))
    ∙ then_reads _ (queue_reads q heads)
    ∙ then_reads _ (after_again fixed.globals_end heads)
    ∙ then_reads _ (heads_read q f.locks f.callbacks max_callbacks [] ok.few_callbacks ok.bodies functions (no_prototype q bodies))
    ∙ then_reads _ (after_again (helpers q) bodies)
    ∙ then_reads _ (callbacks_read f.locks q instances 0 f.callbacks ok.lock_names ok.bodies last)
    ∙ whole_reads f _ (ap (λ p. record {
      name = f.name;
      altitude = f.altitude;
      locks = f.locks;
      queue = p;
      callbacks = map callback_as_read f.callbacks;
    }) (queue_back f.queue))
