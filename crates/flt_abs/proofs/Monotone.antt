-- What follows from a state follows from each state above it: rules that are broken, and successors.
use Rattle.std.proofs.Common.{◌≡◌, ℕ, zero, suc, Bool, true, false, List, [], ◌∷◌, take}
use Rattle.std.proofs.Common.{get_or, Option, Some, None, refl, sym, ap, ◌∙◌, cond}
use Rattle.std.proofs.Math.ListN.{set}
use Rattle.std.specs.Prelude.{not, ◌||◌, ◌&&◌, if◌then◌else◌, find}
use Rattle.std.specs.List.{list_all}
use Rattle.std.proofs.lemmas.Bool.{and_parts, and_from}
use Rattle.std.proofs.lemmas.Option.{none-some}
use Rattle.flt_rules.specs.Call.{is_legal_in_draining}
use Rattle.flt_rules.specs.Columns.{has_place}
use Rattle.flt_rules.specs.Held.{holds_lock, is_latest, same_locks}
use Rattle.flt_rules.specs.Table.{row}
use Rattle.flt_rules.specs.Status.{status_row}
use Rattle.flt_rules.specs.declared.call.LockNumber.{LockNumber}
use Rattle.flt_rules.specs.declared.columns.Effects.{Effects}
use Rattle.flt_rules.specs.declared.columns.LockChange.{LockChange}
use Rattle.flt_rules.specs.declared.columns.Row.{Row}
use Rattle.flt_rules.specs.declared.place.Mode.{Mode}
use Rattle.flt_rules.specs.declared.place.Mode.TheVariants.{Irp, Fast}
use Rattle.flt_rules.specs.declared.rule.Rule.{Rule}
use Rattle.flt_rules.specs.declared.rule.Rule.TheVariants.{R01, R02, R03, R04, R05, R06, R07, R08, R09, R10, R11, R13, R15}
use Rattle.flt_rules.specs.declared.status.Possession.{Possession}
use Rattle.flt_rules.specs.declared.status.Possession.TheVariants as possession
use Rattle.flt_rules.specs.declared.status.StatusRow.{StatusRow}
use Rattle.flt_tree.specs.Filter.{word_of, completes_pending, named_context}
use Rattle.flt_tree.specs.Variable.{context_place, operation_place}
use Rattle.flt_tree.specs.declared.filter.Action.{Action}
use Rattle.flt_tree.specs.declared.filter.Action.TheVariants as action
use Rattle.flt_tree.specs.declared.filter.Status.{Status}
use Rattle.flt_tree.specs.declared.filter.Test.{Test}
use Rattle.flt_tree.specs.declared.filter.Test.TheVariants as test
use Rattle.flt_tree.specs.declared.variable.ContextVariable.{ContextVariable}
use Rattle.flt_tree.specs.declared.variable.OperationVariable.{OperationVariable}
use Rattle.flt_tree.specs.declared.variable.OperationVariable.TheVariants.{Removed, Data}
use Rattle.flt_graph.specs.Graph.{instruction_at}
use Rattle.flt_graph.specs.Instruction.{roles}
use Rattle.flt_graph.specs.declared.graph.Graph.{Graph}
use Rattle.flt_graph.specs.declared.instruction.Instruction.{Instruction}
use Rattle.flt_graph.specs.declared.instruction.Instruction.TheVariants as instruction
use Rattle.flt_graph.specs.declared.instruction.Invocation.{Invocation}
use Rattle.flt_abs.specs.Breaks.{is_empty, lacks_context, lacks_operation, may_hold_context, may_hold_operation, is_mode_alone}
use Rattle.flt_abs.specs.Breaks.{action_breaks, test_breaks, hands_illegally, is_need_held, is_need_handed_over, is_need_output}
use Rattle.flt_abs.specs.Breaks.{is_need_latest, is_need_not_held, releases_wrong_lock, takes_held_lock, row_breaks, is_possessed}
use Rattle.flt_abs.specs.Breaks.{is_of_mode, fits_setting, fits_state, returns_illegally, contexts_without, is_any_held}
use Rattle.flt_abs.specs.Breaks.{owes_data, return_breaks, breaks, first_broken, rules}
use Rattle.flt_abs.specs.Sets.{StatusSet, ModeSet, null_alone, is_held, is_stale, statuses_within, modes_within}
use Rattle.flt_abs.specs.Sets.{drainings_within, without_null, is_possible, is_mode_possible}
use Rattle.flt_abs.specs.LockLaws.{same_locks_decides}
use Rattle.flt_abs.specs.Setting.{setting_of}
use Rattle.flt_abs.specs.State.{Null, Held, Stale, State, is_below, is_proper, all_within}
use Rattle.flt_abs.specs.Step.{changed, set_context, set_operation, changed_locks, set_locks, after_call, after_action, where_true}
use Rattle.flt_abs.specs.Step.{where_false, at, after_failure, leads_to, unless_broken, transfer, IsSuccessorBelow, AreBelow}
use Rattle.flt_abs.specs.Step.{IsOutcomeBelow}
use Rattle.flt_abs.specs.Variables.{context_in, operation_in, with_context, with_operation}
use Rattle.flt_abs.specs.declared.setting.Setting.{Setting}
use Rattle.flt_abs.specs.declared.step.Successors.{Successors}
use Rattle.flt_abs.proofs.Order.{implies, status_within, set_itself, Proper, proper_parts}

-- ---- tests that grow

grows-or : (a b c d : Bool) → (a ≡ true → c ≡ true) → (b ≡ true → d ≡ true) → (a || b) ≡ true → (c || d) ≡ true
grows-or true b true d f h e = refl
grows-or true b false d f h e = let no = f refl in cc
grows-or false b true d f h e = refl
grows-or false b false d f h e = h e

grows-and : (a b c d : Bool) → (a ≡ true → c ≡ true) → (b ≡ true → d ≡ true) → (a && b) ≡ true → (c && d) ≡ true
grows-and a b c d f h e = let parts = and_parts a b e in and_from c d (f parts.0) (h parts.1)

grows-not : (a b : Bool) → (b ≡ true → a ≡ true) → not a ≡ true → not b ≡ true
grows-not a false f e = refl
grows-not false true f e = let no = f refl in cc
grows-not true true f e = e

same : (a : Bool) → a ≡ true → a ≡ true
same a e = e

-- ---- one set

-- where some of three holds and the last two do not, the first one does
only : (a b c : Bool) → (a || (b || c)) ≡ true → not b ≡ true → not c ≡ true → a ≡ true
only true b c p h e = refl
only false true c p h e = h
only false false true p h e = e
only false false false p h e = p

swapped : (a b c : Bool) → (a || (b || c)) ≡ true → (b || (a || c)) ≡ true
swapped true true c p = refl
swapped true false c p = refl
swapped false true c p = refl
swapped false false c p = p

last : (a b c : Bool) → (a || (b || c)) ≡ true → (c || (a || b)) ≡ true
last a b true p = refl
last true b false p = refl
last false true false p = refl
last false false false p = p

surely_held : (a b : StatusSet) → statuses_within a b ≡ true → is_possible a ≡ true → is_held b ≡ true → is_held a ≡ true
surely_held a b h p e =
    let parts = and_parts b.held (not b.null && not b.stale) e in
    let others = and_parts (not b.null) (not b.stale) parts.1 in
    let null = grows-not b.null a.null (status_within a b Null h) others.0 in
    let stale = grows-not b.stale a.stale (status_within a b Stale h) others.1 in
    and_from _ _ (only a.held a.null a.stale (swapped a.null a.held a.stale p) null stale) (and_from _ _ null stale)

surely_stale : (a b : StatusSet) → statuses_within a b ≡ true → is_possible a ≡ true → is_stale b ≡ true → is_stale a ≡ true
surely_stale a b h p e =
    let parts = and_parts b.stale (not b.null && not b.held) e in
    let others = and_parts (not b.null) (not b.held) parts.1 in
    let null = grows-not b.null a.null (status_within a b Null h) others.0 in
    let held = grows-not b.held a.held (status_within a b Held h) others.1 in
    and_from _ _ (only a.stale a.null a.held (last a.null a.held a.stale p) null held) (and_from _ _ null held)

some_other : (a b : Bool) → (a || b) ≡ true → not b ≡ true → a ≡ true
some_other true b p e = refl
some_other false true p e = e
some_other false false p e = p

surely_mode : (a b : ModeSet) (m : Mode) → modes_within a b ≡ true → is_mode_possible a ≡ true → is_mode_alone b m ≡ true →
    is_mode_alone a m ≡ true
surely_mode a b Irp h p e =
    let within = and_parts (not a.irp || b.irp) (not a.fast || b.fast) h in
    let parts = and_parts b.irp (not b.fast) e in
    let fast = grows-not b.fast a.fast (implies a.fast b.fast within.1) parts.1 in
    and_from _ _ (some_other a.irp a.fast p fast) fast
surely_mode a b Fast h p e =
    let within = and_parts (not a.irp || b.irp) (not a.fast || b.fast) h in
    let parts = and_parts b.fast (not b.irp) e in
    let irp = grows-not b.irp a.irp (implies a.irp b.irp within.0) parts.1 in
    and_from _ _ (some_other a.fast a.irp (turned a.irp a.fast p) irp) irp
  where
    turned : (a b : Bool) → (a || b) ≡ true → (b || a) ≡ true
    turned true true p = refl
    turned true false p = refl
    turned false b p = grows-or b false b false (same b) (same false) (or_false b p)
      where
        or_false : (b : Bool) → b ≡ true → (b || false) ≡ true
        or_false true p = refl
        or_false false p = p

surely_of_mode : (a b : ModeSet) (m : Option Mode) → modes_within a b ≡ true → is_mode_possible a ≡ true → is_of_mode b m ≡ true →
    is_of_mode a m ≡ true
surely_of_mode a b (Some m) h p e = surely_mode a b m h p e
surely_of_mode a b None h p e = refl

-- ---- lists of sets

within_at : (xs ys : List StatusSet) (i : ℕ) → all_within xs ys ≡ true →
    statuses_within (get_or xs i null_alone) (get_or ys i null_alone) ≡ true
within_at [] [] i h = refl
within_at [] (b ∷ ys) i h = cc
within_at (a ∷ xs) [] i h = cc
within_at (a ∷ xs) (b ∷ ys) zero h = (and_parts _ _ h).0
within_at (a ∷ xs) (b ∷ ys) (suc i) h = within_at xs ys i (and_parts _ _ h).1

within_set : (xs ys : List StatusSet) (i : ℕ) (s t : StatusSet) → all_within xs ys ≡ true → statuses_within s t ≡ true →
    all_within (set xs i s) (set ys i t) ≡ true
within_set [] [] i s t h e = refl
within_set [] (b ∷ ys) i s t h e = cc
within_set (a ∷ xs) [] i s t h e = cc
within_set (a ∷ xs) (b ∷ ys) zero s t h e = and_from _ _ e (and_parts _ _ h).1
within_set (a ∷ xs) (b ∷ ys) (suc i) s t h e = and_from _ _ (and_parts _ _ h).0 (within_set xs ys i s t (and_parts _ _ h).1 e)

within_take : (n : ℕ) (xs ys : List StatusSet) → all_within xs ys ≡ true → all_within (take n xs) (take n ys) ≡ true
within_take zero xs ys h = refl
within_take (suc n) [] [] h = refl
within_take (suc n) [] (b ∷ ys) h = cc
within_take (suc n) (a ∷ xs) [] h = cc
within_take (suc n) (a ∷ xs) (b ∷ ys) h = and_from _ _ (and_parts _ _ h).0 (within_take n xs ys (and_parts _ _ h).1)

possible_at : (xs : List StatusSet) (i : ℕ) → list_all is_possible xs ≡ true → is_possible (get_or xs i null_alone) ≡ true
possible_at [] i h = refl
possible_at (a ∷ xs) zero h = (and_parts _ _ h).0
possible_at (a ∷ xs) (suc i) h = possible_at xs i (and_parts _ _ h).1

any_held : (xs ys : List StatusSet) → all_within xs ys ≡ true → is_any_held xs ≡ true → is_any_held ys ≡ true
any_held [] ys h e = cc
any_held (a ∷ xs) [] h e = cc
any_held (a ∷ xs) (b ∷ ys) h e =
    let parts = and_parts (statuses_within a b) (all_within xs ys) h in
    grows-or a.held (is_any_held xs) b.held (is_any_held ys) (status_within a b Held parts.0) (any_held xs ys parts.1) e

-- ---- states

-- the parts of the order
pub record Below (x y : State) : Type 0 where
  pub locks : x.locks ≡ y.locks
  pub modes : modes_within x.modes y.modes ≡ true
  pub draining : drainings_within x.draining y.draining ≡ true
  pub contexts : all_within x.contexts y.contexts ≡ true
  pub operations : all_within x.operations y.operations ≡ true

below_parts : (x y : State) → is_below x y ≡ true → Below x y
below_parts x y h =
    let locks = and_parts (same_locks x.locks y.locks) _ h in
    let modes = and_parts (modes_within x.modes y.modes) _ locks.1 in
    let draining = and_parts (drainings_within x.draining y.draining) _ modes.1 in
    let lists = and_parts (all_within x.contexts y.contexts) _ draining.1 in
    record {
      locks = (same_locks_decides x.locks y.locks).0 locks.0;
      modes = modes.0;
      draining = draining.0;
      contexts = lists.0;
      operations = lists.1;
    }

from_below : (x y : State) → Below x y → is_below x y ≡ true
from_below x y b =
    and_from _ _ ((same_locks_decides x.locks y.locks).1 b.locks)
    (and_from _ _ b.modes (and_from _ _ b.draining (and_from _ _ b.contexts b.operations)))

context_within : (x y : State) (c : ContextVariable) → Below x y → statuses_within (context_in x c) (context_in y c) ≡ true
context_within x y c b = within_at x.contexts y.contexts (context_place c) b.contexts

operation_within : (x y : State) (d : OperationVariable) → Below x y → statuses_within (operation_in x d) (operation_in y d) ≡ true
operation_within x y d b = within_at x.operations y.operations (operation_place d) b.operations

-- ---- operands

grows-lacks_context : (x y : State) (c : Option ContextVariable) → Below x y → Proper x → lacks_context x c ≡ true →
    lacks_context y c ≡ true
grows-lacks_context x y (Some c) b p =
    grows-not _ _ (surely_held (context_in x c) (context_in y c) (context_within x y c b)
    (possible_at x.contexts (context_place c) p.contexts))
grows-lacks_context x y None b p = same false

grows-lacks_operation : (x y : State) (d : Option OperationVariable) → Below x y → Proper x → lacks_operation x d ≡ true →
    lacks_operation y d ≡ true
grows-lacks_operation x y (Some d) b p =
    grows-not _ _ (surely_held (operation_in x d) (operation_in y d) (operation_within x y d b)
    (possible_at x.operations (operation_place d) p.operations))
grows-lacks_operation x y None b p = same false

grows-may_hold_context : (x y : State) (c : Option ContextVariable) → Below x y → may_hold_context x c ≡ true → may_hold_context y c ≡ true
grows-may_hold_context x y (Some c) b = status_within (context_in x c) (context_in y c) Held (context_within x y c b)
grows-may_hold_context x y None b = same false

grows-may_hold_operation : (x y : State) (d : Option OperationVariable) → Below x y → may_hold_operation x d ≡ true →
    may_hold_operation y d ≡ true
grows-may_hold_operation x y (Some d) b = status_within (operation_in x d) (operation_in y d) Held (operation_within x y d b)
grows-may_hold_operation x y None b = same false

-- ---- rules

grows-action : (x y : State) (a : Action) (r : Rule) → Below x y → Proper x → action_breaks x a r ≡ true → action_breaks y a r ≡ true
grows-action x y (action.ReadValue n c) R01 b p = grows-lacks_context x y (Some c) b p
grows-action x y (action.WriteValue c a) R01 b p = grows-lacks_context x y (Some c) b p
grows-action x y (action.ClearContext c) R03 b p = grows-may_hold_context x y (Some c) b
grows-action x y (action.ClearOperation o) R03 b p = grows-may_hold_operation x y (Some (Removed o)) b
grows-action x y (action.ReadFile n d) R04 b p = grows-lacks_operation x y (Some d) b p
grows-action x y a r b p = λ e. e

grows-test : (s : Setting) (x y : State) (t : Test) (r : Rule) → Below x y → Proper x → test_breaks s x t r ≡ true →
    test_breaks s y t r ≡ true
grows-test s x y test.IsIrp R04 b p = grows-lacks_operation x y (Some Data) b p
grows-test s x y test.IsDraining R08 b p = λ e. e
grows-test s x y t r b p = λ e. e

-- the locks are the same, so what reads them alone is
releases : (x y : State) (l : Option LockNumber) → Below x y → releases_wrong_lock x l ≡ true → releases_wrong_lock y l ≡ true
releases x y (Some l) b h = ap (λ k. not (is_latest l k)) (sym b.locks) ∙ h
releases x y None b h = h

takes : (x y : State) (l : Option LockNumber) → Below x y → takes_held_lock x l ≡ true → takes_held_lock y l ≡ true
takes x y (Some l) b h = ap (λ k. holds_lock l k) (sym b.locks) ∙ h
takes x y None b h = h

drained : (x y : State) → Below x y → x.draining.yes ≡ true → y.draining.yes ≡ true
drained x y b = implies _ _ (and_parts _ _ b.draining).1

grows-row : (w : Row) (s : Setting) (x y : State) (c : Invocation) (r : Rule) → Below x y → Proper x →
    row_breaks w s x c r ≡ true → row_breaks w s y c r ≡ true
grows-row w s x y c R01 b p = grows-and _ _ _ _ (same (is_need_held w.needs.context)) (grows-lacks_context x y c.context b p)
grows-row w s x y c R03 b p =
    grows-or _ _ _ _ (grows-and _ _ _ _ (same (is_need_output w.needs.output)) (grows-may_hold_context x y c.output b))
    (grows-and _ _ _ _ (same (is_need_output w.needs.operation)) (grows-may_hold_operation x y c.operation b))
grows-row w s x y c R04 b p = grows-and _ _ _ _ (same (is_need_held w.needs.operation)) (grows-lacks_operation x y c.operation b p)
grows-row w s x y c R06 b p =
    grows-or _ _ _ _ (grows-and _ _ _ _ (same w.needs.irp) (grows-not _ _ (surely_mode x.modes y.modes Irp b.modes p.modes)))
    (same (w.needs.status && hands_illegally s c))
grows-row w s x y c R07 b p = λ e. e
grows-row w s x y c R08 b p =
    grows-or _ _ _ _ (same (not (has_place w.places s.place)))
    (grows-and _ _ _ _ (drained x y b) (same (not (is_legal_in_draining c.call))))
grows-row w s x y c R09 b p = grows-and _ _ _ _ (same (is_need_latest w.needs.lock)) (releases x y c.lock b)
grows-row w s x y c R11 b p = grows-and _ _ _ _ (same (is_need_not_held w.needs.lock)) (takes x y c.lock b)
grows-row w s x y c R13 b p = grows-and _ _ _ _ (same (is_need_handed_over w.needs.context)) (grows-lacks_context x y c.context b p)
grows-row w s x y c r b p = λ e. e

surely_possessed : (a b : StatusSet) (q : Possession) → statuses_within a b ≡ true → is_possible a ≡ true →
    is_possessed b q ≡ true → is_possessed a q ≡ true
surely_possessed a b possession.Held h p = surely_held a b h p
surely_possessed a b possession.GivenAway h p = surely_stale a b h p

surely_fits : (w : StatusRow) (x y : State) → Below x y → Proper x → fits_state w y ≡ true → fits_state w x ≡ true
surely_fits w x y b p =
    grows-and _ _ _ _
    (grows-and _ _ _ _ (surely_possessed (operation_in x Data) (operation_in y Data) w.data (operation_within x y Data b)
    (possible_at x.operations (operation_place Data) p.operations))
    (surely_of_mode x.modes y.modes w.mode b.modes p.modes))
    (grows-or _ _ _ _ (same w.in_draining) (grows-not _ _ (drained x y b)))

grows-returns : (s : Setting) (x y : State) (st : Option Status) → Below x y → Proper x → returns_illegally s x st ≡ true →
    returns_illegally s y st ≡ true
grows-returns s x y (Some st) b p =
    grows-not _ _ (grows-and _ _ _ _ (grows-and _ _ _ _ (same (fits_setting (status_row (word_of st)) s))
    (surely_fits (status_row (word_of st)) x y b p))
    (same (not (completes_pending st))))
grows-returns s x y None b p = λ e. e

within_without : (xs ys : List StatusSet) (c : Option ContextVariable) → all_within xs ys ≡ true →
    all_within (contexts_without xs c) (contexts_without ys c) ≡ true
within_without xs ys (Some c) h = within_set xs ys (context_place c) null_alone null_alone h (set_itself null_alone)
within_without xs ys None h = h

grows-return : (s : Setting) (x y : State) (st : Option Status) (r : Rule) → Below x y → Proper x →
    return_breaks s x st r ≡ true → return_breaks s y st r ≡ true
grows-return s x y st R02 b p = any_held (contexts_without x.contexts (named_context st))
    (contexts_without y.contexts (named_context st)) (within_without x.contexts y.contexts (named_context st) b.contexts)
grows-return s x y st R05 b p =
    grows-or _ _ _ _ (any_held (take 4 x.operations) (take 4 y.operations) (within_take 4 x.operations y.operations b.operations))
    (grows-and _ _ _ _ (same (owes_data s.place)) (grows-may_hold_operation x y (Some Data) b))
grows-return s x y st R06 b p = grows-returns s x y st b p
grows-return s x y st R10 b p = λ h. ap (λ k. not (is_empty k)) (sym b.locks) ∙ h
grows-return s x y st R13 b p = grows-lacks_context x y (named_context st) b p
grows-return s x y st R15 b p = λ e. e
grows-return s x y st r b p = λ e. e

grows-breaks : (s : Setting) (x y : State) (i : Instruction) (r : Rule) → Below x y → Proper x → breaks s x i r ≡ true →
    breaks s y i r ≡ true
grows-breaks s x y (instruction.Act a next) r b p = grows-action x y a r b p
grows-breaks s x y (instruction.Call c granted failed) r b p = grows-row (row (roles c).call) s x y (roles c) r b p
grows-breaks s x y (instruction.Test t granted failed) r b p = grows-test s x y t r b p
grows-breaks s x y (instruction.Repeat turns body next) r b p = λ e. e
grows-breaks s x y (instruction.Return st) r b p = grows-return s x y st r b p
grows-breaks s x y instruction.End r b p = grows-return s x y None r b p

-- what a state breaks each state above it breaks
pub breaks_grow : (s : Setting) (x y : State) (i : Instruction) (r : Rule) → is_proper x ≡ true → is_below x y ≡ true →
    breaks s x i r ≡ true → breaks s y i r ≡ true
breaks_grow s x y i r p h = grows-breaks s x y i r (below_parts x y h) (proper_parts x p)

none_then : (p q : Rule → Bool) (rs : List Rule) → ((r : Rule) → p r ≡ true → q r ≡ true) → find q rs ≡ None → find p rs ≡ None
none_then p q [] f e = refl
none_then p q (r ∷ rs) f e =
    let none = neither (q r) r (find q rs) e in
    first_of (p r) r (find p rs) (λ h. f r h) none.0 (none_then p q rs f none.1)
  where
    neither : (b : Bool) (r : Rule) (o : Option Rule) → cond b (Some r) o ≡ None → (b ≡ false) × (o ≡ None)
    neither true r o e = absurd (none-some r (sym e))
    neither false r o e = (refl, e)

    first_of : {c : Bool} (b : Bool) (r : Rule) (o : Option Rule) → (b ≡ true → c ≡ true) → c ≡ false → o ≡ None → cond b (Some r) o ≡ None
    first_of true r o f e h = let no = f refl in cc
    first_of false r o f e h = h

-- a setting reads the locks alone
same_setting : (g : Graph) (callback : ℕ) (x y : State) → Below x y → setting_of g callback x ≡ setting_of g callback y
same_setting g callback x y b = ap (λ k. setting_of g callback (record x { locks = k })) b.locks

none_broken : (g : Graph) (callback : ℕ) (x y : State) (i : Instruction) → Below x y → Proper x →
    first_broken (setting_of g callback y) y i ≡ None → first_broken (setting_of g callback x) x i ≡ None
none_broken g callback x y i b p e =
    let here : first_broken (setting_of g callback x) y i ≡ None = ap (λ s. first_broken s y i) (same_setting g callback x y b) ∙ e in
    none_then (breaks (setting_of g callback x) x i) (breaks (setting_of g callback x) y i) rules
    (λ r. grows-breaks (setting_of g callback x) x y i r b p) here

-- ---- successors

below_context : (x y : State) (c : ContextVariable) (s t : StatusSet) → Below x y → statuses_within s t ≡ true →
    Below (with_context x c s) (with_context y c t)
below_context x y c s t b h = record {
  locks = b.locks;
  modes = b.modes;
  draining = b.draining;
  contexts = within_set x.contexts y.contexts (context_place c) s t b.contexts h;
  operations = b.operations;
}

below_operation : (x y : State) (d : OperationVariable) (s t : StatusSet) → Below x y → statuses_within s t ≡ true →
    Below (with_operation x d s) (with_operation y d t)
below_operation x y d s t b h = record {
  locks = b.locks;
  modes = b.modes;
  draining = b.draining;
  contexts = b.contexts;
  operations = within_set x.operations y.operations (operation_place d) s t b.operations h;
}

below-set_context : (x y : State) (c : Option ContextVariable) (s : Option StatusSet) → Below x y →
    Below (set_context c s x) (set_context c s y)
below-set_context x y (Some c) (Some s) b = below_context x y c s s b (set_itself s)
below-set_context x y c s b = b

below-set_operation : (x y : State) (d : Option OperationVariable) (s : Option StatusSet) → Below x y →
    Below (set_operation d s x) (set_operation d s y)
below-set_operation x y (Some d) (Some s) b = below_operation x y d s s b (set_itself s)
below-set_operation x y d s b = b

below-set_locks : (x y : State) (l : Option LockNumber) (change : LockChange) → Below x y →
    Below (set_locks l change x) (set_locks l change y)
below-set_locks x y (Some l) change b =
    record {
      locks = ap (λ k. changed_locks k l change) b.locks;
      modes = b.modes;
      draining = b.draining;
      contexts = b.contexts;
      operations = b.operations;
    }
below-set_locks x y None change b = b

below-after_call : (x y : State) (c : Invocation) (e : Effects) → Below x y → Below (after_call c e x) (after_call c e y)
below-after_call x y c e b =
    below-set_locks _ _ c.lock e.lock
    (below-set_operation _ _ c.operation (changed e.operation)
    (below-set_context _ _ c.output (changed e.output)
    (below-set_context _ _ c.context (changed e.context) b)))

below-after_action : (x y : State) (a : Action) → Below x y → Below (after_action x a) (after_action y a)
below-after_action x y (action.ClearContext c) b = below_context x y c null_alone null_alone b (set_itself null_alone)
below-after_action x y (action.ClearOperation o) b = below_operation x y (Removed o) null_alone null_alone b (set_itself null_alone)
below-after_action x y a b = b

if_below : (p : ℕ) (a b : Bool) (x y : State) → (a ≡ true → b ≡ true) → Below x y →
    IsSuccessorBelow (at p (if a then Some x else None)) (at p (if b then Some y else None))
if_below p true true x y f b = (refl, from_below x y b)
if_below p true false x y f b = let no = f refl in cc
if_below p false true x y f b = tt
if_below p false false x y f b = tt

without_within : (a b : StatusSet) → statuses_within a b ≡ true → statuses_within (without_null a) (without_null b) ≡ true
without_within a b h = (and_parts _ _ h).1

possible_grows : (a b : StatusSet) → statuses_within a b ≡ true → is_possible a ≡ true → is_possible b ≡ true
possible_grows a b h = grows-or _ _ _ _ (status_within a b Null h) (grows-or _ _ _ _ (status_within a b Held h) (status_within a b Stale h))

below-where_true : (p : ℕ) (x y : State) (t : Test) → Below x y → IsSuccessorBelow (at p (where_true x t)) (at p (where_true y t))
below-where_true p x y (test.ContextIsSome c) b =
    let some = without_null (context_in x c) in
    let more = without_null (context_in y c) in
    let within = without_within (context_in x c) (context_in y c) (context_within x y c b) in
    if_below p (is_possible some) (is_possible more) _ _ (possible_grows some more within) (below_context x y c some more b within)
below-where_true p x y (test.OperationIsSome o) b =
    let some = without_null (operation_in x (Removed o)) in
    let more = without_null (operation_in y (Removed o)) in
    let within = without_within (operation_in x (Removed o)) (operation_in y (Removed o)) (operation_within x y (Removed o) b) in
    if_below p (is_possible some) (is_possible more) _ _ (possible_grows some more within)
    (below_operation x y (Removed o) some more b within)
below-where_true p x y test.IsIrp b =
    if_below p _ _ _ _ (implies _ _ (and_parts _ _ b.modes).0)
    (record { locks = b.locks; modes = refl; draining = b.draining; contexts = b.contexts; operations = b.operations })
below-where_true p x y test.IsDraining b =
    if_below p _ _ _ _ (drained x y b) (record {
      locks = b.locks;
      modes = b.modes;
      draining = refl;
      contexts = b.contexts;
      operations = b.operations;
    })
below-where_true p x y t b = (refl, from_below x y b)

below-where_false : (p : ℕ) (x y : State) (t : Test) → Below x y → IsSuccessorBelow (at p (where_false x t)) (at p (where_false y t))
below-where_false p x y (test.ContextIsSome c) b =
    if_below p _ _ _ _ (status_within (context_in x c) (context_in y c) Null (context_within x y c b))
    (below_context x y c null_alone null_alone b (set_itself null_alone))
below-where_false p x y (test.OperationIsSome o) b =
    if_below p _ _ _ _ (status_within (operation_in x (Removed o)) (operation_in y (Removed o)) Null
    (operation_within x y (Removed o) b)) (below_operation x y (Removed o) null_alone null_alone b (set_itself null_alone))
below-where_false p x y test.IsIrp b =
    if_below p _ _ _ _ (implies _ _ (and_parts _ _ b.modes).1)
    (record { locks = b.locks; modes = refl; draining = b.draining; contexts = b.contexts; operations = b.operations })
below-where_false p x y test.IsDraining b =
    if_below p _ _ _ _ (implies _ _ (and_parts _ _ b.draining).0)
    (record { locks = b.locks; modes = b.modes; draining = refl; contexts = b.contexts; operations = b.operations })
below-where_false p x y t b = (refl, from_below x y b)

below-after_failure : (x y : State) (c : Invocation) (e : Option Effects) (p : ℕ) → Below x y →
    IsSuccessorBelow (after_failure x c e p) (after_failure y c e p)
below-after_failure x y c (Some e) p b = (refl, from_below _ _ (below-after_call x y c e b))
below-after_failure x y c None p b = tt

below-leads_to : (x y : State) (i : Instruction) → Below x y → AreBelow (leads_to x i) (leads_to y i)
below-leads_to x y (instruction.Act a next) b = record { first = (refl, from_below _ _ (below-after_action x y a b)); second = tt }
below-leads_to x y (instruction.Call c granted failed) b =
    record {
      first = (refl, from_below _ _ (below-after_call x y (roles c) (row (roles c).call).on_ok b));
      second = below-after_failure x y (roles c) (row (roles c).call).on_fail failed b;
    }
below-leads_to x y (instruction.Test t yes' no') b =
    record { first = below-where_true yes' x y t b; second = below-where_false no' x y t b }
below-leads_to x y (instruction.Repeat turns body next) b = record { first = (refl, from_below x y b); second = (refl, from_below x y b) }
below-leads_to x y (instruction.Return st) b = record { first = tt; second = tt }
below-leads_to x y instruction.End b = record { first = tt; second = tt }

outcome_below : (a b : Option Rule) (m n : Successors) → (b ≡ None → a ≡ None) → AreBelow m n →
    IsOutcomeBelow (unless_broken a m) (unless_broken b n)
outcome_below None None m n f h = h
outcome_below None (Some r) m n f h = tt
outcome_below (Some q) (Some r) m n f h = tt
outcome_below (Some q) None m n f h = absurd (none-some q (sym (f refl)))

-- a transfer from a state leads below the transfer from each state above it
pub transfer_below : (g : Graph) (callback point : ℕ) (x y : State) → is_proper x ≡ true → is_below x y ≡ true →
    IsOutcomeBelow (transfer g callback point x) (transfer g callback point y)
transfer_below g callback point x y p h =
    let b = below_parts x y h in
    outcome_below _ _ _ _ (none_broken g callback x y (instruction_at g callback point) b (proper_parts x p))
    (below-leads_to x y (instruction_at g callback point) b)
