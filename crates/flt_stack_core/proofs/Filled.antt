-- A full journal stays full: no move is made that it has no room for.
use Rattle.std.proofs.Common.{◌≡◌, ◌+◌, Bool, true, false, List, [], ◌∷◌, ◌++◌, length, Ok, Err, inl, inr, refl, ap, sym, subst, ◌∙◌, arith}
use Rattle.std.proofs.lemmas.List.Sums.{sum_by_push}
use Rattle.std.specs.Prelude.{◌↔◌, Result, Some, cond, count_by}
use Rattle.flt_stack_core.specs.Counting.{is_callers_move}
use Rattle.flt_machine_frames.specs.declared.frame.Advanced.{Advanced}
use Rattle.flt_machine_frames.specs.declared.loaded.Loaded.{Loaded}
use Rattle.flt_machine_frames.specs.Loading.{AreLoaded}
use Rattle.flt_machine.specs.Calls as calls
use Rattle.flt_machine.specs.Calls.{Commits, IsDisabled, IsFullFor}
use Rattle.flt_machine.specs.Situations.{Situation, IsBoard, Now}
use Rattle.flt_machine.specs.declared.committing.Commit.{Commit}
use Rattle.flt_machine.specs.declared.committing.Commit.TheVariants as answer
use Rattle.flt_machine.specs.declared.events.Events.{Events}
use Rattle.flt_machine.specs.declared.fault.ApplyFault.{ApplyFault}
use Rattle.flt_machine.specs.declared.fault.ApplyFault.TheVariants.{Full, NotEnabled}
use Rattle.flt_model.specs.Expansion.{expand}
use Rattle.flt_model.specs.Runs.{Moment, run}
use Rattle.flt_model.specs.Steps.{Transition}
use Rattle.flt_model.specs.World.{Store}
use Rattle.flt_model.specs.declared.event.Event.{Event}
use Rattle.flt_model.specs.declared.moves.JournalEntry.{JournalEntry}
use Rattle.flt_model.specs.declared.moves.JournalEntry.TheVariants as entry
use Rattle.flt_model.specs.declared.moves.Move.{Move}
use Rattle.flt_model.specs.declared.moves.Move.TheVariants as moves
use Rattle.flt_stack_core.specs.Bounds.{IsFull}
use Rattle.flt_stack_core.specs.Receipts.{is_arrival}
use Rattle.flt_tree.specs.declared.filter.Filter.{Filter}
use Rattle.flt_rules.specs.Limits.{max_entries, max_operations}

-- ---- arrivals

-- a move and its entry are an arrival, or both aren't
same_arrival : (step : Move) → is_arrival (entry.Move step) ≡ calls.is_arrival step
same_arrival (moves.Arrive kind mode file) = refl
same_arrival (moves.Pre o) = refl
same_arrival (moves.Skip o) = refl
same_arrival (moves.Lower o) = refl
same_arrival (moves.Post o) = refl
same_arrival (moves.Cancel o) = refl
same_arrival (moves.Canceled altitude o) = refl
same_arrival (moves.Work i) = refl
same_arrival (moves.Detach altitude) = refl
same_arrival (moves.Drain altitude o) = refl
same_arrival (moves.Unlink altitude key) = refl
same_arrival (moves.Detached altitude) = refl

-- what no caller asks for is no arrival
others_arrive : (step : Move) → is_callers_move step ≡ false → calls.is_arrival step ≡ false
others_arrive (moves.Arrive kind mode file) off = absurd (cc)
others_arrive (moves.Pre o) off = refl
others_arrive (moves.Skip o) off = refl
others_arrive (moves.Lower o) off = refl
others_arrive (moves.Post o) off = refl
others_arrive (moves.Cancel o) off = refl
others_arrive (moves.Canceled altitude o) off = refl
others_arrive (moves.Work i) off = refl
others_arrive (moves.Detach altitude) off = refl
others_arrive (moves.Drain altitude o) off = refl
others_arrive (moves.Unlink altitude key) off = refl
others_arrive (moves.Detached altitude) off = refl

-- the law that a journal leads to as many operations as arrived by it
abbrev pub Arrivals : Type 0
Arrivals = (p : List Filter) (entries : List JournalEntry) (transitions : List Transition) (m : Moment) →
    expand entries ≡ Some transitions → run p transitions ≡ Some m → length m.world.store.arrivals ≡ count_by is_arrival entries

-- a board has as many operations as arrived by its entries
operations_are : (p : List Filter) (b : Situation) → IsBoard p b → Arrivals → length b.store.arrivals ≡ count_by is_arrival b.entries
operations_are p b own law =
    ap (λ (s : Store). length s.arrivals) own.at.store ∙ law p b.entries own.transitions own.moment own.expanded own.runs

-- where there is no room for a move, the journal is full
pub full_for : (p : List Filter) (b : Situation) (step : Move) → IsBoard p b → Arrivals → IsFullFor b step → IsFull b.entries
full_for p b step own law (inl long) = inl long
full_for p b step own law (inr many) = inr (sym (operations_are p b own law) ∙ many.1)

-- ---- an entry more

-- a full journal stays so where an entry is written that there was room for
stays_full : (es : List JournalEntry) (e : JournalEntry) → (length es ≡ max_entries → ⊥) →
    (is_arrival e ≡ true → count_by is_arrival es ≡ max_operations → ⊥) → IsFull es → IsFull (es ++ e ∷ [])
stays_full es e room few (inl long) = absurd (room long)
stays_full es e room few (inr many) = by (is_arrival e) refl
  where
    by : (b : Bool) → is_arrival e ≡ b → IsFull (es ++ e ∷ [])
    by true is = absurd (few is many)
    by false is =
        let more = sum_by_push (λ (x : JournalEntry). cond (is_arrival x) 1 0) es e in
        inr (more ∙ ap (λ (b : Bool). count_by is_arrival es + cond b 1 0) is ∙ omega (arith, many))

-- a move that was made had room
module _ (l : Loaded) (b : Situation) (step : Move) (r : Result Events ApplyFault) (events : Events) (made : r ≡ Ok events)
    (disabled : (r ≡ Err NotEnabled) ↔ IsDisabled l b step)
    (full : (r ≡ Err Full) ↔ ((IsDisabled l b step → ⊥) × IsFullFor b step)) where
  had_room : IsFullFor b step → ⊥
  had_room there =
      let refused : r ≡ Err Full = full.1 ((λ off. let that : r ≡ Err NotEnabled = disabled.1 off in cc), there) in cc

  -- a caller's move leaves a full journal full
  pub callers_full : (p : List Filter) (es : List JournalEntry) → IsBoard p b → Arrivals → es ≡ b.entries ++ entry.Move step ∷ [] →
      IsFull b.entries → IsFull es
  callers_full p es own law written before =
      subst IsFull (sym written) (stays_full b.entries (entry.Move step) (λ long. had_room (inl long))
      (λ is many. had_room (inr (sym (same_arrival step) ∙ is, operations_are p b own law ∙ many))) before)

  -- and so does another
  pub others_full : (es : List JournalEntry) → is_callers_move step ≡ false → es ≡ b.entries ++ entry.Move step ∷ [] →
      IsFull b.entries → IsFull es
  others_full es others written before =
      subst IsFull (sym written) (stays_full b.entries (entry.Move step) (λ long. had_room (inl long))
      (λ is many. let off = others_arrive step others in let same = same_arrival step in cc) before)

-- the step after an advance leaves it full, too
pub commit_full : (p : List Filter) (l : Loaded) (b later : Situation) (advanced : Advanced) (grant : Bool) (list : List Event)
    (r : Commit) (events : Events) (F B : Type 0) → r ≡ answer.Committed events → ((r ≡ answer.Stale) ↔ (F → ⊥)) →
    ((r ≡ answer.Blocked) ↔ (F × B)) → ((r ≡ answer.Full) ↔ (F × ((B → ⊥) × (length b.entries ≡ max_entries)))) →
    AreLoaded p l → IsBoard p b →
    Now l b (λ p m. Commits p b later advanced grant list m) → IsFull b.entries → IsFull later.entries
commit_full p l b later advanced grant list r events F B made stale blocked full loaded own commits before =
    let committed = commits p loaded own.moment own.at in
    let not_fresh : length b.entries ≡ max_entries → F → ⊥ = λ long fresh.
    let refused : r ≡ answer.Full =
    full.1 (fresh, ((λ waits. let that : r ≡ answer.Blocked = blocked.1 (fresh, waits) in cc), long)) in cc in
    let room : length b.entries ≡ max_entries → ⊥ = λ long. let that : r ≡ answer.Stale = stale.1 (not_fresh long) in cc in
    subst IsFull (sym committed.written) (stays_full b.entries _ room (λ is many. cc) before)
