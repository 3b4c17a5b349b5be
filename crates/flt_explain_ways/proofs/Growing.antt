-- What a situation breaks each state breaks that means it, also where the locks aren't followed and the rule doesn't read them.
use Rattle.std.proofs.Common.{◌≡◌, ℕ, zero, suc, Bool, true, false, List, [], ◌∷◌, length, map}
use Rattle.std.proofs.Common.{slice_index_or, Option, Some, None, ap, sym, subst, refl, ◌∙◌}
use Rattle.std.specs.Prelude.{IsTrue, not, ◌==◌, ◌&&◌, ◌||◌}
use Rattle.std.specs.List.{list_all}
use Rattle.std.proofs.lemmas.Bool.{and_parts, and_from}
use Rattle.flt_rules.specs.Call.{is_legal_in_draining}
use Rattle.flt_rules.specs.Held.{holds_lock}
use Rattle.flt_rules.specs.Status.{status_row}
use Rattle.flt_rules.specs.Table.{row}
use Rattle.flt_rules.specs.declared.columns.Row.{Row}
use Rattle.flt_rules.specs.declared.held.HeldLock.{HeldLock}
use Rattle.flt_rules.specs.declared.place.Level.{Level}
use Rattle.flt_rules.specs.declared.place.Mode.{Mode}
use Rattle.flt_rules.specs.declared.place.Mode.TheVariants.{Irp, Fast}
use Rattle.flt_rules.specs.declared.place.Place.{Place}
use Rattle.flt_rules.specs.declared.rule.Rule.{Rule}
use Rattle.flt_rules.specs.declared.rule.Rule.TheVariants.{R01, R02, R03, R04, R05, R06, R07, R08, R09, R10, R11, R13, R15}
use Rattle.flt_rules.specs.declared.status.Possession.{Possession}
use Rattle.flt_rules.specs.declared.status.Possession.TheVariants as possession
use Rattle.flt_rules.specs.declared.status.StatusRow.{StatusRow}
use Rattle.flt_tree.specs.Filter.{word_of, named_context}
use Rattle.flt_tree.specs.Variable.{context_place, operation_place}
use Rattle.flt_tree.specs.declared.filter.Action.{Action}
use Rattle.flt_tree.specs.declared.filter.Action.TheVariants as action
use Rattle.flt_tree.specs.declared.filter.Status as tree
use Rattle.flt_tree.specs.declared.filter.Test.{Test}
use Rattle.flt_tree.specs.declared.filter.Test.TheVariants as test
use Rattle.flt_tree.specs.declared.variable.ContextVariable.{ContextVariable}
use Rattle.flt_tree.specs.declared.variable.OperationVariable.{OperationVariable}
use Rattle.flt_tree.specs.declared.variable.OperationVariable.TheVariants.{Removed, Data}
use Rattle.flt_graph.specs.Graph.{place_at, instruction_at}
use Rattle.flt_graph.specs.Instruction.{roles}
use Rattle.flt_graph.specs.declared.graph.Graph.{Graph}
use Rattle.flt_graph.specs.declared.instruction.Instruction.{Instruction}
use Rattle.flt_graph.specs.declared.instruction.Instruction.TheVariants as instruction
use Rattle.flt_graph.specs.declared.instruction.Invocation.{Invocation}
use Rattle.flt_abs.specs.Breaks.{hands_by, is_need_output, is_possessed, is_of_mode, owes_data, action_breaks}
use Rattle.flt_abs.specs.Breaks.{test_breaks, row_breaks, returns_illegally, return_breaks, breaks}
use Rattle.flt_abs.specs.LockLaws.{same_locks_decides}
use Rattle.flt_abs.proofs.Outcomes.{have_at}
use Rattle.flt_abs.specs.Locks.{are_locks}
use Rattle.flt_abs.specs.Outcome.{context_now, operation_now}
use Rattle.flt_abs.specs.Setting.{setting_of}
use Rattle.flt_abs.specs.Sets.{StatusSet, ModeSet, null_alone, statuses_within, modes_within, drainings_within}
use Rattle.flt_abs.specs.Sets.{is_possible, is_mode_possible, is_draining_possible}
use Rattle.flt_abs.specs.State.{Status, Null, Held, Stale, Situation, State, Means, has_status, has_mode}
use Rattle.flt_abs.specs.State.{has_draining, have_statuses, is_proper, all_within, is_below}
use Rattle.flt_abs.specs.Variables.{context_in, operation_in}
use Rattle.flt_abs.specs.declared.setting.Setting.{Setting}
use Rattle.flt_explain_closed.specs.Closed.{seen}
use Rattle.flt_explain.specs.About.{is_context, is_row_about, is_status_about, is_returned_about, is_return_about, is_about}
use Rattle.flt_explain.specs.declared.finding.Finding.{Finding}
use Rattle.flt_explain.specs.declared.finding.Subject.{Subject}
use Rattle.flt_explain.specs.declared.finding.Subject.TheVariants as about
use Rattle.flt_explain_origins.specs.Alone.{status_alone, mode_alone, draining_alone, alone}
use Rattle.flt_explain_ways.specs.NoWay.{is_itself, reads_locks, may_break}

-- ---- locks that aren't followed

-- a state with other locks
abbrev locked : State → List HeldLock → State
locked x hs = record x { locks = hs }

-- a setting with another level
abbrev levelled : Setting → Level → Setting
levelled s l = record s { level = l }

free_hands : (s : Setting) (l : Level) (c : Invocation) (st : Option tree.Status) → hands_by s c st ≡ hands_by (levelled s l) c st
free_hands s l c (Some st) = refl
free_hands s l c None = refl

free_action : (x : State) (hs : List HeldLock) (a : Action) (r : Rule) → action_breaks x a r ≡ action_breaks (locked x hs) a r
free_action x hs (action.ReadValue n c) R01 = refl
free_action x hs (action.WriteValue c a) R01 = refl
free_action x hs (action.ClearContext c) R03 = refl
free_action x hs (action.ClearOperation o) R03 = refl
free_action x hs (action.ReadFile n d) R04 = refl
free_action x hs a r = refl

free_test : (s : Setting) (l : Level) (x : State) (hs : List HeldLock) (t : Test) (r : Rule) →
    test_breaks s x t r ≡ test_breaks (levelled s l) (locked x hs) t r
free_test s l x hs test.IsIrp R04 = refl
free_test s l x hs test.IsDraining R08 = refl
free_test s l x hs t r = refl

free_row : (w : Row) (s : Setting) (l : Level) (x : State) (hs : List HeldLock) (c : Invocation) (r : Rule) → reads_locks r ≡ false →
    row_breaks w s x c r ≡ row_breaks w (levelled s l) (locked x hs) c r
free_row w s l x hs c R06 h =
    ap (λ (b : Bool). (w.needs.irp && not (x.modes.irp && not x.modes.fast)) || (w.needs.status && b)) (free_hands s l c c.status)
free_row w s l x hs c R07 h = cc
free_row w s l x hs c R09 h = cc
free_row w s l x hs c R11 h = cc
free_row w s l x hs c R01 h = refl
free_row w s l x hs c R03 h = refl
free_row w s l x hs c R04 h = refl
free_row w s l x hs c R08 h = refl
free_row w s l x hs c R13 h = refl
free_row w s l x hs c r h = refl

free_returns : (s : Setting) (l : Level) (x : State) (hs : List HeldLock) (st : Option tree.Status) →
    returns_illegally s x st ≡ returns_illegally (levelled s l) (locked x hs) st
free_returns s l x hs (Some st) = refl
free_returns s l x hs None = refl

free_return : (s : Setting) (l : Level) (x : State) (hs : List HeldLock) (st : Option tree.Status) (r : Rule) → reads_locks r ≡ false →
    return_breaks s x st r ≡ return_breaks (levelled s l) (locked x hs) st r
free_return s l x hs st R06 h = free_returns s l x hs st
free_return s l x hs st R10 h = cc
free_return s l x hs st R02 h = refl
free_return s l x hs st R05 h = refl
free_return s l x hs st R13 h = refl
free_return s l x hs st R15 h = refl
free_return s l x hs st r h = refl

free_breaks : (s : Setting) (l : Level) (x : State) (hs : List HeldLock) (i : Instruction) (r : Rule) → reads_locks r ≡ false →
    breaks s x i r ≡ breaks (levelled s l) (locked x hs) i r
free_breaks s l x hs (instruction.Act a next) r h = free_action x hs a r
free_breaks s l x hs (instruction.Call c granted failed) r h = free_row (row (roles c).call) s l x hs (roles c) r h
free_breaks s l x hs (instruction.Test t granted failed) r h = free_test s l x hs t r
free_breaks s l x hs (instruction.Repeat turns body next) r h = refl
free_breaks s l x hs (instruction.Return st) r h = free_return s l x hs st r h
free_breaks s l x hs instruction.End r h = free_return s l x hs None r h

-- ---- one set

-- the first isn't so where the second or the third is
no_second : (a b c : Bool) → b ≡ true → not (a && (not b && not c)) ≡ true
no_second true true c h = refl
no_second false b c h = refl
no_second true false c h = cc

no_third : (a b c : Bool) → c ≡ true → not (a && (not b && not c)) ≡ true
no_third true true true h = refl
no_third true false true h = refl
no_third false b c h = refl
no_third true b false h = cc

not_possessed : (s : StatusSet) (u : Status) (q : Possession) → has_status s u ≡ true → not (is_possessed (status_alone u) q) ≡ true →
    not (is_possessed s q) ≡ true
not_possessed s Null possession.Held h e = no_second s.held s.null s.stale h
not_possessed s Held possession.Held h e = cc
not_possessed s Stale possession.Held h e = no_third s.held s.null s.stale h
not_possessed s Null possession.GivenAway h e = no_second s.stale s.null s.held h
not_possessed s Held possession.GivenAway h e = no_third s.stale s.null s.held h
not_possessed s Stale possession.GivenAway h e = cc

not_other : (a b : Bool) → b ≡ true → not (a && not b) ≡ true
not_other true true h = refl
not_other false b h = refl
not_other true false h = cc

not_of_mode : (s : ModeSet) (m : Mode) (w : Option Mode) → has_mode s m ≡ true → not (is_of_mode (mode_alone m) w) ≡ true →
    not (is_of_mode s w) ≡ true
not_of_mode s Irp (Some Irp) h e = cc
not_of_mode s Fast (Some Irp) h e = not_other s.irp s.fast h
not_of_mode s Irp (Some Fast) h e = not_other s.fast s.irp h
not_of_mode s Fast (Some Fast) h e = cc
not_of_mode s m None h e = cc

may_hold : (s : StatusSet) (u : Status) → has_status s u ≡ true → (status_alone u).held ≡ true → s.held ≡ true
may_hold s Null h e = cc
may_hold s Held h e = h
may_hold s Stale h e = cc

may_drain : (x : State) (b : Bool) → has_draining x.draining b ≡ true → (draining_alone b).yes ≡ true → x.draining.yes ≡ true
may_drain x true h e = h
may_drain x false h e = cc

may_be_fast : (s : ModeSet) (m : Mode) → has_mode s m ≡ true → (mode_alone m).fast ≡ true → s.fast ≡ true
may_be_fast s Irp h e = cc
may_be_fast s Fast h e = h

-- ---- lists of sets

alone_at : (ts : List Status) (i : ℕ) → slice_index_or (map status_alone ts) i null_alone ≡ status_alone (slice_index_or ts i Null)
alone_at [] i = refl
alone_at (t ∷ ts) zero = refl
alone_at (t ∷ ts) (suc i) = alone_at ts i

set_within : (s : StatusSet) (u : Status) → has_status s u ≡ true → statuses_within (status_alone u) s ≡ true
set_within s Null h = and_from _ _ h refl
set_within s Held h = and_from _ _ h refl
set_within s Stale h = h

sets_within : (xs : List StatusSet) (ts : List Status) → have_statuses xs ts ≡ true → all_within (map status_alone ts) xs ≡ true
sets_within [] [] h = refl
sets_within [] (t ∷ ts) h = cc
sets_within (s ∷ xs) [] h = cc
sets_within (s ∷ xs) (t ∷ ts) h =
    let parts = and_parts (has_status s t) (have_statuses xs ts) h in and_from _ _ (set_within s t parts.0) (sets_within xs ts parts.1)

mode_within : (s : ModeSet) (m : Mode) → has_mode s m ≡ true → modes_within (mode_alone m) s ≡ true
mode_within s Irp h = and_from _ _ h refl
mode_within s Fast h = h

draining_within : (x : State) (b : Bool) → has_draining x.draining b ≡ true → drainings_within (draining_alone b) x.draining ≡ true
draining_within x true h = h
draining_within x false h = and_from _ _ h refl

-- the state of a situation is below each state that means it
alone_below : (x : State) (t : Situation) → Means x t → is_below (alone t) x ≡ true
alone_below x t m =
    and_from _ _ ((same_locks_decides t.locks x.locks).1 (sym m.locks))
    (and_from _ _ (mode_within x.modes t.mode m.mode)
    (and_from _ _ (draining_within x t.draining m.draining)
    (and_from _ _ (sets_within x.contexts t.contexts m.contexts) (sets_within x.operations t.operations m.operations))))

same_length : (xs : List StatusSet) (ts : List Status) → have_statuses xs ts ≡ true → length xs ≡ length (map status_alone ts)
same_length [] [] h = refl
same_length [] (t ∷ ts) h = cc
same_length (s ∷ xs) [] h = cc
same_length (s ∷ xs) (t ∷ ts) h =
    ap (λ n. suc n) (same_length xs ts (and_parts (has_status s t) (have_statuses xs ts) h).1)

one_possible : (u : Status) → is_possible (status_alone u) ≡ true
one_possible Null = refl
one_possible Held = refl
one_possible Stale = refl

all_possible : (ts : List Status) → list_all is_possible (map status_alone ts) ≡ true
all_possible [] = refl
all_possible (t ∷ ts) = and_from _ _ (one_possible t) (all_possible ts)

mode_possible : (m : Mode) → is_mode_possible (mode_alone m) ≡ true
mode_possible Irp = refl
mode_possible Fast = refl

draining_possible : (b : Bool) → is_draining_possible (draining_alone b) ≡ true
draining_possible true = refl
draining_possible false = refl

-- the state of a situation of a proper state is proper
alone_proper : (x : State) (t : Situation) → is_proper x ≡ true → Means x t → is_proper (alone t) ≡ true
alone_proper x t p m =
    let nine = and_parts (length x.contexts == 9) _ p in
    let five = and_parts (length x.operations == 5) _ nine.1 in
    let contexts = and_parts (list_all is_possible x.contexts) _ five.1 in
    let operations = and_parts (list_all is_possible x.operations) _ contexts.1 in
    let modes = and_parts (is_mode_possible x.modes) _ operations.1 in
    let draining = and_parts (is_draining_possible x.draining) (are_locks x.locks) modes.1 in
    and_from _ _ (subst (λ n. (n == 9) ≡ true) (same_length x.contexts t.contexts m.contexts) nine.0)
    (and_from _ _ (subst (λ n. (n == 5) ≡ true) (same_length x.operations t.operations m.operations) five.0)
    (and_from _ _ (all_possible t.contexts) (and_from _ _ (all_possible t.operations)
    (and_from _ _ (mode_possible t.mode) (and_from _ _ (draining_possible t.draining)
    (subst (λ hs. are_locks hs ≡ true) m.locks draining.1))))))

-- ---- what is to blame

both : (a b d : Bool) → (b ≡ true → d ≡ true) → (a && b) ≡ true → (a && d) ≡ true
both a b d f h = let parts = and_parts a b h in and_from a d parts.0 (f parts.1)

module _ (place : Place) (x : State) (t : Situation) (m : Means x t) where
  held_context : (v : ContextVariable) → (context_in (alone t) v).held ≡ true → (context_in x v).held ≡ true
  held_context v h =
      may_hold (context_in x v) (context_now t v) (have_at x.contexts t.contexts (context_place v) m.contexts)
      (sym (ap (λ (s : StatusSet). s.held) (alone_at t.contexts (context_place v))) ∙ h)

  held_operation : (v : OperationVariable) → (operation_in (alone t) v).held ≡ true → (operation_in x v).held ≡ true
  held_operation v h =
      may_hold (operation_in x v) (operation_now t v) (have_at x.operations t.operations (operation_place v) m.operations)
      (sym (ap (λ (s : StatusSet). s.held) (alone_at t.operations (operation_place v))) ∙ h)

  about_row : (w : Row) (c : Invocation) (r : Rule) (u : Subject) → is_row_about w place (alone t) c r u ≡ true →
      is_row_about w place x c r u ≡ true
  about_row w c R03 (about.Context v) =
      both (is_need_output w.needs.output) _ _ (both (is_context c.output v) _ _ (held_context v))
  about_row w c R03 (about.Operation v) = both (is_need_output w.needs.operation) _ _ (both _ _ _ (held_operation v))
  about_row w c R06 about.Mode = both w.needs.irp _ _ (may_be_fast x.modes t.mode m.mode)
  about_row w c R08 about.Draining = λ h.
      let parts = and_parts (draining_alone t.draining).yes (not (is_legal_in_draining c.call)) h in
      and_from _ _ (may_drain x t.draining m.draining parts.0) parts.1
  about_row w c r u = λ h. h

  about_status : (w : StatusRow) (u : Subject) → is_status_about w (alone t) u ≡ true → is_status_about w x u ≡ true
  about_status w (about.Operation Data) = λ h.
      not_possessed (operation_in x Data) (operation_now t Data) w.data
      (have_at x.operations t.operations (operation_place Data) m.operations)
      (subst (λ s. not (is_possessed s w.data) ≡ true) (alone_at t.operations (operation_place Data)) h)
  about_status w about.Mode = λ h. not_of_mode x.modes t.mode w.mode m.mode h
  about_status w about.Draining = both (not w.in_draining) _ _ (may_drain x t.draining m.draining)
  about_status w u = λ h. h

  about_returned : (st : Option tree.Status) (u : Subject) → is_returned_about (alone t) st u ≡ true → is_returned_about x st u ≡ true
  about_returned (Some st) u = about_status (status_row (word_of st)) u
  about_returned None u = λ h. h

  about_return : (st : Option tree.Status) (r : Rule) (u : Subject) → is_return_about place (alone t) st r u ≡ true →
      is_return_about place x st r u ≡ true
  about_return st R02 (about.Context v) = both (not (is_context (named_context st) v)) _ _ (held_context v)
  about_return st R05 (about.Operation (Removed o)) = held_operation (Removed o)
  about_return st R05 (about.Operation Data) = both (owes_data place) _ _ (held_operation Data)
  about_return st R06 u = about_returned st u
  about_return st R10 (about.Lock l) = λ h. ap (λ hs. holds_lock l hs) m.locks ∙ h
  about_return st r u = λ h. h

  -- what is to blame in a situation is to blame in each state that means it
  about_grows : (i : Instruction) (r : Rule) (u : Subject) → is_about place (alone t) i r u ≡ true → is_about place x i r u ≡ true
  about_grows (instruction.Act a next) r u = λ h. h
  about_grows (instruction.Call c granted failed) r u = about_row (row (roles c).call) (roles c) r u
  about_grows (instruction.Test f granted failed) r u = λ h. h
  about_grows (instruction.Repeat turns body next) r u = λ h. h
  about_grows (instruction.Return st) r u = about_return st r u
  about_grows instruction.End r u = about_return None r u

-- nor does it depend on locks, where the rule doesn't read them
free_status : (w : StatusRow) (x : State) (hs : List HeldLock) (u : Subject) → is_status_about w x u ≡ is_status_about w (locked x hs) u
free_status w x hs (about.Operation Data) = refl
free_status w x hs about.Mode = refl
free_status w x hs about.Draining = refl
free_status w x hs u = refl

free_returned : (x : State) (hs : List HeldLock) (st : Option tree.Status) (u : Subject) →
    is_returned_about x st u ≡ is_returned_about (locked x hs) st u
free_returned x hs (Some st) u = free_status (status_row (word_of st)) x hs u
free_returned x hs None u = refl

free_about_return : (place : Place) (x : State) (hs : List HeldLock) (st : Option tree.Status) (r : Rule) (u : Subject) →
    reads_locks r ≡ false → is_return_about place x st r u ≡ is_return_about place (locked x hs) st r u
free_about_return place x hs st R02 (about.Context v) h = refl
free_about_return place x hs st R05 (about.Operation (Removed o)) h = refl
free_about_return place x hs st R05 (about.Operation Data) h = refl
free_about_return place x hs st R06 u h = free_returned x hs st u
free_about_return place x hs st R10 u h = cc
free_about_return place x hs st r u h = refl

free_about_row : (w : Row) (place : Place) (x : State) (hs : List HeldLock) (c : Invocation) (r : Rule) (u : Subject) →
    is_row_about w place x c r u ≡ is_row_about w place (locked x hs) c r u
free_about_row w place x hs c R03 (about.Context v) = refl
free_about_row w place x hs c R03 (about.Operation v) = refl
free_about_row w place x hs c R06 about.Mode = refl
free_about_row w place x hs c R08 about.Draining = refl
free_about_row w place x hs c r u = refl

free_about : (place : Place) (x : State) (hs : List HeldLock) (i : Instruction) (r : Rule) (u : Subject) → reads_locks r ≡ false →
    is_about place x i r u ≡ is_about place (locked x hs) i r u
free_about place x hs (instruction.Act a next) r u h = refl
free_about place x hs (instruction.Call c granted failed) r u h = free_about_row (row (roles c).call) place x hs (roles c) r u
free_about place x hs (instruction.Test f granted failed) r u h = refl
free_about place x hs (instruction.Repeat turns body next) r u h = refl
free_about place x hs (instruction.Return st) r u h = free_about_return place x hs st r u h
free_about place x hs instruction.End r u h = free_about_return place x hs None r u h

-- ---- both

-- the law of `flt_abs`: a rule that a state breaks is broken by each state above it
abbrev pub Grows : Type 0
Grows =
    (s : Setting) (x y : State) (i : Instruction) (r : Rule) → IsTrue (is_proper x) → IsTrue (is_below x y) → IsTrue (breaks s x i r) →
    IsTrue (breaks s y i r)

-- a situation is broken by the same as it is followed
seen_breaks : (g : Graph) (f : Finding) (locks : Bool) (t : Situation) → (locks || not (reads_locks f.rule)) ≡ true →
    may_break g f (alone t) ≡ true → may_break g f (alone (seen locks t)) ≡ true
seen_breaks g f true t h e = e
seen_breaks g f false t h e =
    let parts = and_parts (breaks (setting_of g f.callback (alone t)) (alone t) (instruction_at g f.callback f.point) f.rule) _ e in
    let free : reads_locks f.rule ≡ false = not_true (reads_locks f.rule) h in
    and_from _ _
    (sym (free_breaks (setting_of g f.callback (alone t)) (setting_of g f.callback (alone (seen false t))).level (alone t) []
    (instruction_at g f.callback f.point) f.rule free) ∙ parts.0)
    (subst (λ (b : Bool). (is_itself f.subject || b) ≡ true)
    (free_about (place_at g f.callback) (alone t) [] (instruction_at g f.callback f.point) f.rule f.subject free) parts.1)
  where
    not_true : (b : Bool) → not b ≡ true → b ≡ false
    not_true true e = cc
    not_true false e = refl

either_grows : (a b d : Bool) → (b ≡ true → d ≡ true) → (a || b) ≡ true → (a || d) ≡ true
either_grows true b d f h = refl
either_grows false b d f h = f h

-- what is found in a situation may be found in each state that means it
pub breaks_above : Grows → (g : Graph) (f : Finding) (locks : Bool) (x : State) (t : Situation) →
    (locks || not (reads_locks f.rule)) ≡ true → is_proper x ≡ true → Means x (seen locks t) →
    may_break g f (alone t) ≡ true → may_break g f x ≡ true
breaks_above grows g f locks x t h p m e =
    let u = seen locks t in
    let here = seen_breaks g f locks t h e in
    let parts = and_parts (breaks (setting_of g f.callback (alone u)) (alone u) (instruction_at g f.callback f.point) f.rule) _ here in
    let broken = grows (setting_of g f.callback (alone u)) (alone u) x (instruction_at g f.callback f.point) f.rule
    (alone_proper x u p m) (alone_below x u m) parts.0 in
    let same : setting_of g f.callback (alone u) ≡ setting_of g f.callback x =
    ap (λ hs. setting_of g f.callback (locked x hs)) (sym m.locks) in
    and_from _ _
    (subst (λ s. breaks s x (instruction_at g f.callback f.point) f.rule ≡ true) same broken)
    (either_grows (is_itself f.subject) _ _
    (about_grows (place_at g f.callback) x u m (instruction_at g f.callback f.point) f.rule f.subject) parts.1)
