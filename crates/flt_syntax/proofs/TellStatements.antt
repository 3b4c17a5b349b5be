-- What fails by the relation beside the grammar, of that the reader says so: tests, statements and blocks.
use Rattle.std.proofs.Common.{◌≡◌, ◌≢◌, ℕ, zero, suc, ◌≤◌, false, List, [], ◌∷◌, ◌++◌, length, Err, refl, ap, ◌∙◌, arith}
use Rattle.std.specs.Prelude.{None}
use Rattle.flt_syntax.specs.declared.token.Kind.{Kind}
use Rattle.flt_syntax.specs.declared.token.Kind.TheVariants as k
use Rattle.flt_syntax.specs.declared.fault.FaultKind.TheVariants.{E06}
use Rattle.flt_syntax.specs.declared.fault.SyntaxFault.{SyntaxFault}
use Rattle.flt_tree.specs.declared.filter.Statement.{Statement}
use Rattle.flt_tree.specs.declared.variable.NumberVariable.{NumberVariable}
use Rattle.flt_syntax.specs.Words.{Next}
use Rattle.flt_syntax.specs.Operand.{context_variable, operation_variable, number_variable_of, atom_by, atom, leading_atom}
use Rattle.flt_syntax.specs.Scope.{Scope}
use Rattle.flt_syntax.specs.Status.{optional_status}
use Rattle.flt_syntax.specs.Action.{expression, set_number, clear_context, clear_operation, write_value, simple_statement}
use Rattle.flt_syntax.specs.Condition.{context_test, operation_test, comparison_by, number_test, condition}
use Rattle.flt_rules.specs.Limits.{max_turns}
use Rattle.flt_syntax.specs.Statement.{otherwise, choice, repetition, statement, statements_from, statements, block}
use Rattle.flt_syntax.specs.Cursor.{Input, Parser, kind, refusal, unknown, fault_at, sees, expect, number_within, too_deep}
use Rattle.flt_syntax.specs.FirstWords.{begins_plain, has_blocks, begins_other}
use Rattle.flt_syntax.specs.WordFails as word_fails
use Rattle.flt_syntax.specs.WordFails.{NextFails}
use Rattle.flt_syntax.specs.CallFails as call_fails
use Rattle.flt_syntax.specs.ActionFails as bad
use Rattle.flt_syntax.specs.ActionFails.{AtomFails, LeadingFails, ExpressionFails, ActionFails, ConditionFails}
use Rattle.flt_syntax.specs.StatementFails as statement_fails
use Rattle.flt_syntax.specs.StatementFails.{StatementFails, ElseFails, BlockFails, StatementsFails}
use Rattle.flt_syntax.proofs.TokenKinds.{not_seen}
use Rattle.flt_syntax.proofs.Complete.{then_again, kind_is, rest_is, left_is, sees_it, expect_again, eat_again, context_again, within_again}
use Rattle.flt_syntax.proofs.Follows.{condition_over, not_simple, number_simply, context_simply, removed_simply, no_blocks, statement_stays}
use Rattle.flt_syntax.proofs.CompleteStatements.{leading_again, sign_at, by_expression, no_words, value_at, at_number, at_context}
use Rattle.flt_syntax.proofs.CompleteStatements.{at_removed, word_at, comparison_at, if_context, if_removed, if_number, if_at}
use Rattle.flt_syntax.proofs.CompleteStatements.{if_call, condition_again, at_simple, at_call, statement_at, repeats_less}
use Rattle.flt_syntax.proofs.CompleteStatements.{statement_less, statement_again, block_follows, block_again}
use Rattle.flt_syntax.proofs.Ends.{refused}
use Rattle.flt_syntax.proofs.Tells.{then_fails, same_error, refuses, unknowns, expect_tells, context_tells, within_tells}
use Rattle.flt_syntax.proofs.TellCalls.{operation_tells, optional_status_tells, fallible_tells, plain_tells}

-- ---- atoms

atom_by_tells : (f : SyntaxFault) (i : Input) → number_variable_of (kind i) ≡ None → kind i ≢ k.Number →
    atom_by f (number_variable_of (kind i)) i ≡ Err f
atom_by_tells f i e n = rw (e, not_seen k.Number i n) refl

atom_tells : {i : Input} {f : SyntaxFault} → AtomFails i f → atom i ≡ Err f
unfolding atom
atom_tells (bad.no_atom {i = i} e n h) = atom_by_tells (unknown i) i e n ∙ ap (λ x. Err x) (unknowns h)

leading_tells : {i : Input} {f : SyntaxFault} → LeadingFails i f → leading_atom i ≡ Err f
unfolding leading_atom
leading_tells (bad.no_leading {i = i} e n h) = atom_by_tells (refusal i) i e n ∙ ap (λ x. Err x) (refuses h)

-- ---- actions

expression_tells : {i : Input} {f : SyntaxFault} → ExpressionFails i f → expression i ≡ Err f
unfolding expression
expression_tells (bad.first h) = then_fails _ (leading_tells h)
expression_tells (bad.sum {x = x} p n h) =
    then_again _ (leading_again p) (sign_at x n ∙ then_fails _ (ap atom (rest_is n) ∙ atom_tells h))
expression_tells (bad.difference {x = x} p n h) =
    then_again _ (leading_again p) (sign_at x n ∙ then_fails _ (ap atom (rest_is n) ∙ atom_tells h))

module _ (scope : Scope) where
  action_tells : {i : Input} {f : SyntaxFault} → ActionFails i f → simple_statement scope i ≡ Err f
  unfolding set_number clear_context clear_operation write_value
  action_tells (bad.number_assign p h) =
      at_number scope p ∙ then_fails _ (then_fails _ (ap (expect k.Assign) (left_is p) ∙ expect_tells h))
  action_tells (bad.number_expression {b = b} {n = n} p m v w h) =
      at_number scope p ∙ then_fails _ (then_again _ (ap (expect k.Assign) (left_is p) ∙ expect_again m)
      (by_expression n b (kind b) (no_words (kind b) v w) ∙ then_fails _ (expression_tells h)))
  action_tells (bad.number_value {n = n} p m w h) =
      at_number scope p ∙ then_fails _ (then_again _ (ap (expect k.Assign) (left_is p) ∙ expect_again m)
      (value_at n w ∙ then_fails _ (ap context_variable (rest_is w) ∙ context_tells h)))
  action_tells (bad.number_file {n = n} p m w h) =
      at_number scope p ∙ then_fails _ (then_again _ (ap (expect k.Assign) (left_is p) ∙ expect_again m)
      (value_at n w ∙ then_fails _ (ap operation_variable (rest_is w) ∙ operation_tells h)))
  action_tells (bad.value_context n h) =
      word_at scope n refl ∙ then_fails _ (then_fails _ (ap context_variable (rest_is n) ∙ context_tells h))
  action_tells (bad.value_assign n p h) =
      word_at scope n refl ∙ then_fails _ (then_again _ (ap context_variable (rest_is n) ∙ context_again p)
      (then_fails _ (expect_tells h)))
  action_tells (bad.value_atom n p m h) =
      word_at scope n refl ∙ then_fails _ (then_again _ (ap context_variable (rest_is n) ∙ context_again p)
      (then_again _ (expect_again m) (then_fails _ (atom_tells h))))
  action_tells (bad.context_assign p h) =
      at_context scope p ∙ then_fails _ (then_fails _ (then_fails _ (ap (expect k.Assign) (left_is p) ∙ expect_tells h)))
  action_tells (bad.context_null p m h) =
      at_context scope p ∙ then_fails _ (then_fails _ (then_again _ (ap (expect k.Assign) (left_is p) ∙ expect_again m) (expect_tells h)))
  action_tells (bad.operation_assign p h) =
      at_removed scope p ∙ then_fails _ (then_fails _ (then_fails _ (ap (expect k.Assign) (left_is p) ∙ expect_tells h)))
  action_tells (bad.operation_null p m h) =
      at_removed scope p ∙ then_fails _ (then_fails _ (then_again _ (ap (expect k.Assign) (left_is p) ∙ expect_again m) (expect_tells h)))

failed_simply : {i : Input} {f : SyntaxFault} → ActionFails i f → not_simple (kind i) ≡ false
failed_simply (bad.number_assign p h) = number_simply p
failed_simply (bad.number_expression p m v w h) = number_simply p
failed_simply (bad.number_value p m w h) = number_simply p
failed_simply (bad.number_file p m w h) = number_simply p
failed_simply (bad.value_context n h) = ap not_simple (kind_is n)
failed_simply (bad.value_assign n p h) = ap not_simple (kind_is n)
failed_simply (bad.value_atom n p m h) = ap not_simple (kind_is n)
failed_simply (bad.context_assign p h) = context_simply p
failed_simply (bad.context_null p m h) = context_simply p
failed_simply (bad.operation_assign p h) = removed_simply p
failed_simply (bad.operation_null p m h) = removed_simply p

-- ---- tests

no_comparison : (n : NumberVariable) (i : Input) (a : Kind) → a ≢ k.Equal → a ≢ k.Less → comparison_by n a i ≡ Err (refusal i)
no_comparison n i k.Equal e h = elim (e refl) [ ]
no_comparison n i k.Less e h = elim (h refl) [ ]
no_comparison n i _ e h = refl

condition_tells : {scope : Scope} {i : Input} {f : SyntaxFault} → ConditionFails scope i f → condition scope i ≡ Err f
unfolding context_test operation_test number_test
condition_tells {scope = scope} (bad.context_unlike p h) =
    if_context scope p ∙ then_fails _ (then_fails _ (then_fails _ (ap (expect k.NotEqual) (left_is p) ∙ expect_tells h)))
condition_tells {scope = scope} (bad.context_unlike_null p m h) =
    if_context scope p ∙ then_fails _ (then_fails _ (then_again _ (ap (expect k.NotEqual) (left_is p) ∙ expect_again m) (expect_tells h)))
condition_tells {scope = scope} (bad.operation_unlike p h) =
    if_removed scope p ∙ then_fails _ (then_fails _ (then_fails _ (ap (expect k.NotEqual) (left_is p) ∙ expect_tells h)))
condition_tells {scope = scope} (bad.operation_unlike_null p m h) =
    if_removed scope p ∙ then_fails _ (then_fails _ (then_again _ (ap (expect k.NotEqual) (left_is p) ∙ expect_again m) (expect_tells h)))
condition_tells {scope = scope} (bad.comparison {a = a} {n = n} p e l h) =
    if_number scope p ∙ then_fails _ (ap (λ x. comparison_by n (kind x) x) (left_is p) ∙ no_comparison n a (kind a) e l
    ∙ ap (λ x. Err x) (refuses h))
condition_tells {scope = scope} (bad.equal_atom {n = n} p m h) =
    if_number scope p ∙ then_fails _ (ap (λ x. comparison_by n (kind x) x) (left_is p) ∙ comparison_at n m
    ∙ then_fails _ (ap atom (rest_is m) ∙ atom_tells h))
condition_tells {scope = scope} (bad.less_atom {n = n} p m h) =
    if_number scope p ∙ then_fails _ (ap (λ x. comparison_by n (kind x) x) (left_is p) ∙ comparison_at n m
    ∙ then_fails _ (ap atom (rest_is m) ∙ atom_tells h))
condition_tells {scope = scope} (bad.irp_data n h) =
    if_at scope n refl ∙ then_fails _ (ap (expect k.Data) (rest_is n) ∙ expect_tells h)
condition_tells {scope = scope} (bad.call {i = i} e h) = if_call scope i e ∙ then_fails _ (fallible_tells h)

-- ---- statements and blocks

no_brace : (i : Input) (f : SyntaxFault) → sees k.OpenBrace i ≡ false → refusal i ≡ f → too_deep i ≡ f
unfolding too_deep
no_brace i f e h = rw e h

nested : {i a : Input} → Next k.OpenBrace i a → too_deep i ≡ fault_at E06 i
unfolding too_deep
nested n = rw (sees_it n) refl

missing_brace : {kd : Kind} {i : Input} {f : SyntaxFault} → NextFails kd i f → (sees kd i ≡ false) × (refusal i ≡ f)
missing_brace {kd = kd} (word_fails.missing {i = i} n h) = (not_seen kd i n, refuses h)

no_block : (scope : Scope) (d r : ℕ) (i : Input) (f : SyntaxFault) → NextFails k.OpenBrace i f → block scope d r i ≡ Err f
unfolding block
no_block scope zero r i f h = let m = missing_brace h in ap (λ x. Err x) (no_brace i f m.0 m.1)
no_block scope (suc d) r i f h = then_fails _ (expect_tells h)

-- with a closing brace, or at no token, no statement begins
no_statement : (scope : Scope) (inner : ℕ → Parser (List Statement)) (r : ℕ) (i : Input) → begins_other (kind i) ≡ false →
    begins_plain (kind i) ≡ false → statement scope inner r i ≡ Err (refusal i)
no_statement scope inner r i e h = at_call scope inner r i e ∙ then_fails _ (plain_tells (call_fails.no_plain h (refused i)))

here_tells : (scope : Scope) (d r : ℕ) (i : Input) (f : SyntaxFault) (n : ℕ) (found : List Statement) → length i ≤ n →
    sees k.CloseBrace i ≡ false → statement scope (block scope d) r i ≡ Err f → statements_from scope (block scope d) n r found i ≡ Err f
unfolding statements_from
here_tells scope d r [] f zero found fits e h =
    ap (λ x. Err x) (same_error (refusal []) f _ (no_statement scope (block scope d) r [] refl refl) h)
here_tells scope d r (t ∷ i) f zero found fits e h = absurd (omega (arith, fits))
here_tells scope d r i f (suc n) found fits e h = rw e (then_fails _ h)

mutual
  unfolding choice block otherwise statements statements_from repetition

  statement_tells : {scope : Scope} {d r : ℕ} {i : Input} {f : SyntaxFault} → StatementFails scope d r i f →
      statement scope (block scope d) r i ≡ Err f
  statement_tells {scope = scope} {d = d} {r = r} {i = i} (statement_fails.act h) =
      at_simple scope (block scope d) r i (no_blocks i (failed_simply h)) ∙ action_tells scope h
  statement_tells {scope = scope} {d = d} {r = r} {i = i} (statement_fails.call e h) =
      at_call scope (block scope d) r i e ∙ then_fails _ (plain_tells h)
  statement_tells {scope = scope} {d = d} {r = r} {i = i} (statement_fails.return n h) =
      at_simple scope (block scope d) r i (ap has_blocks (kind_is n)) ∙ word_at scope n refl
      ∙ then_fails _ (ap optional_status (rest_is n) ∙ optional_status_tells h)
  statement_tells {scope = scope} {d = d} {r = r} (statement_fails.choice_test n h) =
      statement_at scope (block scope d) r n ∙ then_fails _ (ap (condition scope) (rest_is n) ∙ condition_tells h)
  statement_tells {scope = scope} {d = d} {r = r} (statement_fails.choice_granted n p v h) =
      statement_at scope (block scope d) r n ∙
      then_again _ (ap (condition scope) (rest_is n) ∙ condition_again scope p v) (then_fails _ (block_tells h))
  statement_tells {scope = scope} {d = d} {r = r} (statement_fails.choice_refused n p q h) =
      statement_at scope (block scope d) r n ∙
      then_again _ (ap (condition scope) (rest_is n) ∙ condition_again scope p (condition_over p (block_follows q)))
      (then_again _ (block_again q) (then_fails _ (else_tells h)))
  statement_tells {scope = scope} {d = d} (statement_fails.repeat_nested n) = statement_at scope (block scope d) 0 n
  statement_tells {scope = scope} {d = d} (statement_fails.repeat_number {r = r} {i = i} n h) =
      statement_at scope (block scope d) (suc r) n ∙ repeats_less scope (block scope d) r i ∙
      then_fails _ (ap (number_within 0 max_turns) (rest_is n) ∙ within_tells h)
  statement_tells {scope = scope} {d = d} (statement_fails.repeat_body {r = r} {i = i} n p l h) =
      statement_at scope (block scope d) (suc r) n ∙ repeats_less scope (block scope d) r i ∙
      then_again _ (ap (number_within 0 max_turns) (rest_is n) ∙ within_again 0 max_turns p (omega arith) l)
      (then_fails _ (block_tells h))

  else_tells : {scope : Scope} {d r : ℕ} {i : Input} {f : SyntaxFault} → ElseFails scope d r i f →
      otherwise scope (block scope d) r i ≡ Err f
  else_tells (statement_fails.behind n h) = then_again _ (eat_again n) (block_tells h)

  block_tells : {scope : Scope} {d r : ℕ} {i : Input} {f : SyntaxFault} → BlockFails scope d r i f → block scope d r i ≡ Err f
  block_tells {scope = scope} {d = d} {r = r} {i = i} {f = f} (statement_fails.no_brace h) = no_block scope d r i f h
  block_tells (statement_fails.too_deep n) = ap (λ x. Err x) (nested n)
  block_tells (statement_fails.body {a = a} n h) =
      then_again _ (expect_again n) (then_fails _ (turns_tell h (length a) [] (omega arith)))

  turns_tell : {scope : Scope} {d r : ℕ} {i : Input} {f : SyntaxFault} → StatementsFails scope d r i f →
      (n : ℕ) (found : List Statement) → length i ≤ n → statements_from scope (block scope d) n r found i ≡ Err f
  turns_tell {scope = scope} {d = d} {r = r} {f = f} (statement_fails.here {i = i} e h) n found fits =
      here_tells scope d r i f n found fits (not_seen k.CloseBrace i e) (statement_tells h)
  turns_tell (statement_fails.later p v h) zero found fits = absurd (omega (arith, statement_less p))
  turns_tell (statement_fails.later {s = x} p v h) (suc n) found fits =
      rw (statement_stays p) (then_again _ (statement_again p v) (turns_tell h n (found ++ x ∷ []) (omega (arith, statement_less p))))

-- { stmt } up to its brace: where they fail, that is reported
pub statements_tell : {scope : Scope} {d r : ℕ} {i : Input} {f : SyntaxFault} → StatementsFails scope d r i f →
    statements scope (block scope d) r i ≡ Err f
unfolding statements
statements_tell {i = i} h = turns_tell h (length i) [] (omega arith)
