use Rattle.std.proofs.Common.{arith, ◌≡◌, ◌+◌, ◌++◌, ◌∙◌, List, ℕ, ap, sym, drop, append_assoc, length, ◌<◌}
use Rattle.std.proofs.lemmas.Result.{on_ok_weaker}
use Rattle.flt_emit.specs.Line.{label}
use Rattle.flt_emit.specs.Scope.{scope_of}
use Rattle.flt_emit.specs.Statements.{body_text, statement_text, with_lines}
use Rattle.flt_emit.proofs.Walks.{acts, calls, returning, chooses, choice_none, choice_some, repeats}
use Rattle.flt_emit.proofs.Walks.{points_next, body_next, acted, called, left, enclosed}
use Rattle.flt_emit.proofs.statements.+statements.Goals as goal

pub body-loop-found-preserved : goal.body-loop-found-preserved
body-loop-found-preserved t c =
    let scope = scope_of c.args.scope.now in
    let block = c.args.statements.now in
    let i = c.loop-found.found-index in
    let s = c.found-item.result in
    let more = points_next block i s (omega arith) c.found-item.is in
    record {
      same =
          ap (λ (l : List ℕ). l ++ body_text scope (drop (i + 1) block) c.args.level c.in_ok-after.after) c.in_ok-after.ensures.text
          ∙ append_assoc c.loop-found.out.items (statement_text scope s c.args.level c.loop-found.next)
          (body_text scope (drop (i + 1) block) c.args.level c.in_ok-after.after)
          ∙ ap (λ (n : ℕ). c.loop-found.out.items ++ (statement_text scope s c.args.level c.loop-found.next
          ++ body_text scope (drop (i + 1) block) c.args.level n)) c.in_ok-after.ensures.next
          ∙ ap (λ (l : List ℕ). c.loop-found.out.items ++ l)
          (sym (body_next scope block i s c.args.level c.loop-found.next (omega arith) c.found-item.is))
          ∙ c.loop-found.invariant.same;
      next = omega (arith, more, c.in_ok-after.ensures.next, c.loop-found.invariant.next);
      deep = omega (arith, more, c.loop-found.invariant.deep);
    }

pub statement-returns-in_ok-write-in-Act-2-clause-text : goal.statement-returns-in_ok-write-in-Act-2-clause-text
statement-returns-in_ok-write-in-Act-2-clause-text t c =
    acted _ _ _ _ _ _ (label c.args.point c.in-Act.at.line) c.in_ok-write-in-Act.ensures c.in_ok-action-in-Act.ensures
    c.in_ok-write-in-Act-2.ensures
    ∙ ap (λ (l : List ℕ). c.args.out.now.items ++ l)
    (sym (acts (scope_of c.args.scope.now) c.args.level c.args.point c.args.statement.now c.in-Act.at c.in-Act.found c.in-Act.is))

pub statement-returns-in_ok-write-in-Call-2-clause-text : goal.statement-returns-in_ok-write-in-Call-2-clause-text
statement-returns-in_ok-write-in-Call-2-clause-text t c =
    called _ _ _ _ _ _ _ _ (label c.args.point c.in-Call.at.line) c.in_ok-before_call-in-Call.ensures c.in_ok-write-in-Call.ensures
    c.in_ok-plain_call-in-Call.ensures c.in_ok-write-in-Call-2.ensures
    ∙ ap (λ (l : List ℕ). c.args.out.now.items ++ l)
    (sym (calls (scope_of c.args.scope.now) c.args.level c.args.point c.args.statement.now c.in-Call.at c.in-Call.call c.in-Call.is))

pub statement-returns-in_ok-write-in-Return-clause-text : goal.statement-returns-in_ok-write-in-Return-clause-text
statement-returns-in_ok-write-in-Return-clause-text t c =
    left _ _ _ _ (label c.args.point c.in-Return.at.line) c.in_ok-leave-in-Return.ensures c.in_ok-write-in-Return.ensures
    ∙ ap (λ (l : List ℕ). c.args.out.now.items ++ l)
    (sym (returning (scope_of c.args.scope.now) c.args.level c.args.point c.args.statement.now c.in-Return.at
    c.in-Return.status c.in-Return.is))

pub statement-returns-in-empty-clause-text : goal.statement-returns-in-empty-clause-text
statement-returns-in-empty-clause-text t c =
    let scope = scope_of c.args.scope.now in
    let none : length c.in-If.granted ≡ 0 = omega (arith, rw c.as_slice.ensures at c.in-empty.len_below) in
    on_ok_weaker c.turned.result
    (λ h. h ∙ ap (λ (l : List ℕ). c.args.out.now.items ++ l)
    (sym (chooses scope c.args.level c.args.point c.args.statement.now c.in-If.at c.in-If.asked c.in-If.granted c.in-If.refused c.in-If.is
    ∙ choice_none scope c.in-If.at.line c.in-If.asked c.in-If.granted (with_lines scope c.in-If.refused) c.args.level c.args.point none)))
    (rw c.as_slice-in-empty.ensures at c.turned.ensures.text)

pub statement-returns-in_ok-middle-in-len1-up-clause-text : goal.statement-returns-in_ok-middle-in-len1-up-clause-text
statement-returns-in_ok-middle-in-len1-up-clause-text t c =
    let scope = scope_of c.args.scope.now in
    let some : 0 < length c.in-If.granted = omega (arith, rw c.as_slice.ensures at c.in-len1-up.len_at_least) in
    let middle = rw c.as_slice-in-len1-up.ensures at c.in_ok-middle-in-len1-up.ensures.next in
    on_ok_weaker c.otherwise.result
    (λ h. enclosed _ _ _ _ _ _ _ c.in_ok-if_line-in-len1-up.ensures
    (rw c.as_slice-in-len1-up.ensures at c.in_ok-middle-in-len1-up.ensures.text) h
    ∙ ap (λ (l : List ℕ). c.args.out.now.items ++ l)
    (sym (chooses scope c.args.level c.args.point c.args.statement.now c.in-If.at c.in-If.asked c.in-If.granted c.in-If.refused c.in-If.is
    ∙ choice_some scope c.in-If.at.line c.in-If.asked c.in-If.granted (with_lines scope c.in-If.refused) c.args.level c.args.point some)))
    (rw (c.as_slice-in-len1-up-2.ensures, middle) at c.otherwise.ensures.text)

pub statement-returns-in_ok-closing-in-Repeat-clause-text : goal.statement-returns-in_ok-closing-in-Repeat-clause-text
statement-returns-in_ok-closing-in-Repeat-clause-text t c =
    enclosed _ _ _ _ _ _ _ c.in_ok-repeat_line-in-Repeat.ensures
    (rw c.as_slice-in-Repeat.ensures at c.in_ok-next-in-Repeat.ensures.text) c.in_ok-closing-in-Repeat.ensures
    ∙ ap (λ (l : List ℕ). c.args.out.now.items ++ l)
    (sym (repeats (scope_of c.args.scope.now) c.args.level c.args.point c.args.statement.now c.in-Repeat.at c.in-Repeat.turns
    c.in-Repeat.repeated c.in-Repeat.is))
