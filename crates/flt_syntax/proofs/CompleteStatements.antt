-- What is spelled and over is read: tests, statements and blocks.
use Rattle.std.proofs.Common.{◌≡◌, ◌≢◌, ℕ, zero, suc, ◌-◌, ◌≤◌, ◌<◌, Bool, true, false, List, []}
use Rattle.std.proofs.Common.{◌∷◌, ◌++◌, length, Ok, refl, sym, ap, ◌∙◌, append_assoc, arith}
use Rattle.std.specs.Prelude.{◌&&◌}
use Rattle.std.proofs.lemmas.Bool.{ne_eqb}
use Rattle.std.proofs.lemmas.List.{append-nil}
use Rattle.flt_syntax.specs.declared.token.Kind.{Kind}
use Rattle.flt_syntax.specs.declared.token.Kind.TheVariants as k
use Rattle.flt_syntax.specs.declared.fault.SyntaxFault.{SyntaxFault}
use Rattle.flt_tree.specs.declared.filter.Action.{Action}
use Rattle.flt_tree.specs.declared.filter.Action.TheVariants.{SetNumber}
use Rattle.flt_tree.specs.declared.filter.Condition.{Condition}
use Rattle.flt_tree.specs.declared.filter.Condition.TheVariants as made
use Rattle.flt_tree.specs.declared.filter.Statement.{Statement}
use Rattle.flt_tree.specs.declared.filter.Statement.TheVariants as statements_made
use Rattle.flt_tree.specs.declared.filter.Test.{Test}
use Rattle.flt_tree.specs.declared.filter.Test.TheVariants.{IsDraining}
use Rattle.flt_tree.specs.declared.variable.Atom.{Atom}
use Rattle.flt_tree.specs.declared.variable.Atom.TheVariants as atoms
use Rattle.flt_tree.specs.declared.variable.ContextVariable.{ContextVariable}
use Rattle.flt_tree.specs.declared.variable.Expression.{Expression}
use Rattle.flt_tree.specs.declared.variable.Expression.TheVariants as expressions
use Rattle.flt_tree.specs.declared.variable.NumberVariable.{NumberVariable}
use Rattle.flt_tree.specs.declared.variable.RemovedVariable.{RemovedVariable}
use Rattle.flt_syntax.specs.Lex.{same_kind}
use Rattle.flt_syntax.specs.ActionGrammar as g
use Rattle.flt_syntax.specs.ActionGrammar.{AtomAt, ExpressionAt, ActionAt, TestAt, ConditionAt}
use Rattle.flt_syntax.specs.Grammar as s
use Rattle.flt_syntax.specs.Grammar.{line, StatementAt, ElseAt, BlockAt, StatementsAt}
use Rattle.flt_syntax.specs.Words as words
use Rattle.flt_syntax.specs.Words.{Next, Meant, NumberAt, ContextAt}
use Rattle.flt_syntax.specs.Operand.{context_variable, removed_variable_of, operation_variable}
use Rattle.flt_syntax.specs.Operand.{number_variable_of, atom_by, atom, leading_atom}
use Rattle.flt_syntax.specs.Scope.{Scope}
use Rattle.flt_syntax.specs.Status.{optional_status}
use Rattle.flt_syntax.specs.Action.{expression_by, expression, number_by, set_number, clear_context, clear_operation}
use Rattle.flt_syntax.specs.Action.{write_value, spanned, word_statement_by, word_statement, simple_statement}
use Rattle.flt_syntax.specs.Call.{fallible_call, plain_call}
use Rattle.flt_syntax.specs.Condition.{context_test, operation_test, comparison_by, number_test, word_test_by, word_test, condition}
use Rattle.flt_rules.specs.Limits.{max_turns}
use Rattle.flt_syntax.specs.Statement.{otherwise, choice, repetition, statement_by, statement, statements_from, statements, block}
use Rattle.flt_syntax.specs.Cursor.{Input, Parser, and_then, ◌<$>◌, kind, span, next, refusal, unknown, expect, number_within}
use Rattle.flt_syntax.specs.FirstWords.{begins_fallible, begins_plain, is_variable, is_test_word}
use Rattle.flt_syntax.specs.FirstWords.{begins_test, is_simple_word, has_blocks, begins_other}
use Rattle.flt_syntax.specs.Over.{ExpressionOver, ActionOver, ConditionOver, ElseOver, StatementOver}
use Rattle.flt_syntax.proofs.TokenKinds.{differ, suc_some, not_seen}
use Rattle.flt_syntax.proofs.Complete.{then_again, kind_is, rest_is, left_is, means, sees_it, expect_again, eat_again}
use Rattle.flt_syntax.proofs.Complete.{eat_none, context_again, within_again, other, left_false, right_false, none_of}
use Rattle.flt_syntax.proofs.Complete.{some_of, is_number, is_context, is_removed, context_number, number_context, removed_number}
use Rattle.flt_syntax.proofs.Complete.{number_removed, removed_context, next_less, meant_less, number_less}
use Rattle.flt_syntax.proofs.CompleteCalls.{operation_again, fallible_again, plain_again, optional_status_again, fallible_begins}
use Rattle.flt_syntax.proofs.CompleteCalls.{plain_begins, fallible_less, plain_less, optional_status_less}
use Rattle.flt_syntax.proofs.Follows.{Follows, follows_open, condition_over, statement_over, action_simply}
use Rattle.flt_syntax.proofs.Follows.{no_blocks, statement_stays, statements_follow}

-- ---- atoms

number_atom : {n : ℕ} {i o : Input} (f : SyntaxFault) → NumberAt i n o → atom_by f (number_variable_of (kind i)) i ≡ Ok (atoms.Number n, o)
unfolding same_kind
number_atom f (words.number e) = rw e refl

atom_by_again : {i o : Input} {x : Atom} (f : SyntaxFault) → AtomAt i x o → atom_by f (number_variable_of (kind i)) i ≡ Ok (x, o)
atom_by_again f (g.number p) = number_atom f p
atom_by_again f (g.variable (words.meant {t = t} {o = o} e)) = ap (λ m. atom_by f m (t ∷ o)) e

atom_again : {i o : Input} {x : Atom} → AtomAt i x o → atom i ≡ Ok (x, o)
unfolding atom
atom_again {i = i} p = atom_by_again (unknown i) p

-- atom, where other words may stand: what is spelled and over is read
pub leading_again : {i o : Input} {x : Atom} → AtomAt i x o → leading_atom i ≡ Ok (x, o)
unfolding leading_atom
leading_again {i = i} p = atom_by_again (refusal i) p

-- ---- actions

ends_there : (x : Atom) (o : Input) (a : Kind) → a ≢ k.Plus → a ≢ k.Minus → expression_by x a o ≡ Ok (expressions.Atom x, o)
ends_there x o k.Plus e h = elim (e refl) [ ]
ends_there x o k.Minus e h = elim (h refl) [ ]
ends_there x o _ e h = refl

-- the rule for a sign, at that sign
pub sign_at : {kd : Kind} {i o : Input} (x : Atom) → Next kd i o → expression_by x (kind i) i ≡ expression_by x kd i
sign_at {i = i} x n = ap (λ y. expression_by x y i) (kind_is n)

expression_again : {i o : Input} {x : Expression} (p : ExpressionAt i x o) → ExpressionOver p → expression i ≡ Ok (x, o)
unfolding expression
expression_again (g.one {o = o} {x = x} p) f = then_again _ (leading_again p) (ends_there x o (kind o) f.0 f.1)
expression_again (g.sum {x = x} p n q) f =
    then_again _ (leading_again p) (sign_at x n ∙ then_again _ (ap atom (rest_is n) ∙ atom_again q) refl)
expression_again (g.difference {x = x} p n q) f =
    then_again _ (leading_again p) (sign_at x n ∙ then_again _ (ap atom (rest_is n) ∙ atom_again q) refl)

abbrev is_word : Kind → Bool
is_word k.Value = true
is_word k.File = true
is_word _ = false

number_no_word : (a : Kind) → (is_number a && is_word a) ≡ false
number_no_word k.OpenBrace = refl
number_no_word _ = refl

atom_no_word : {i o : Input} {x : Atom} → AtomAt i x o → is_word (kind i) ≡ false
atom_no_word (g.number (words.number e)) = ap is_word e
atom_no_word (g.variable {i = i} p) = other is_number is_word (kind i) (number_no_word (kind i)) (some_of (means p))

expression_no_word : {i o : Input} {x : Expression} → ExpressionAt i x o → is_word (kind i) ≡ false
expression_no_word (g.one p) = atom_no_word p
expression_no_word (g.sum p n q) = atom_no_word p
expression_no_word (g.difference p n q) = atom_no_word p

-- what is no word of its own is an expression
pub by_expression : (n : NumberVariable) (i : Input) (a : Kind) → is_word a ≡ false → number_by n a i ≡ (SetNumber n <$> expression) i
by_expression n i k.Value e = elim (differ (sym e)) [ ]
by_expression n i k.File e = elim (differ (sym e)) [ ]
by_expression n i _ e = refl

-- neither of two words
pub no_words : (a : Kind) → a ≢ k.Value → a ≢ k.File → is_word a ≡ false
no_words k.Value e h = elim (e refl) [ ]
no_words k.File e h = elim (h refl) [ ]
no_words _ e h = refl

-- the rule for a word, at that word
pub value_at : {kd : Kind} {i o : Input} (n : NumberVariable) → Next kd i o → number_by n (kind i) i ≡ number_by n kd i
value_at {i = i} n m = ap (λ y. number_by n y i) (kind_is m)

module _ (scope : Scope) where
  -- a statement that begins with N
  pub at_number : {i a : Input} {n : NumberVariable} → Meant number_variable_of i n a →
      simple_statement scope i ≡ spanned statements_made.Act i (set_number n) i
  unfolding simple_statement
  at_number p = rw (means p) refl

  -- a statement that begins with C
  pub at_context : {i a : Input} {c : ContextVariable} → ContextAt i c a →
      simple_statement scope i ≡ spanned statements_made.Act i (clear_context c) i
  unfolding simple_statement
  at_context {i = i} p = rw (none_of _ (other is_context is_number (kind i) (context_number (kind i)) (some_of (means p))), means p) refl

  -- a statement that begins with O
  pub at_removed : {i a : Input} {x : RemovedVariable} → Meant removed_variable_of i x a →
      simple_statement scope i ≡ spanned statements_made.Act i (clear_operation x) i
  unfolding simple_statement
  at_removed {i = i} p =
      rw (
        none_of _ (other is_removed is_number (kind i) (removed_number (kind i)) (some_of (means p))),
        none_of _ (other is_removed is_context (kind i) (removed_context (kind i)) (some_of (means p))),
        means p,
      ) refl

  at_word : (i : Input) → is_variable (kind i) ≡ false → simple_statement scope i ≡ word_statement scope i
  unfolding simple_statement
  at_word i e =
      let e1 = left_false (is_number (kind i)) _ e in let e2 = right_false (is_number (kind i)) _ e in
      rw (none_of _ e1, none_of _ (left_false (is_context (kind i)) _ e2), none_of _ (right_false (is_context (kind i)) _ e2)) refl

  -- the rule for a word, at that word
  pub word_at : {kd : Kind} {i a : Input} → Next kd i a → is_variable kd ≡ false →
      simple_statement scope i ≡ word_statement_by scope i kd i
  unfolding word_statement
  word_at {i = i} n e = at_word i (ap is_variable (kind_is n) ∙ e) ∙ ap (λ x. word_statement_by scope i x i) (kind_is n)

  by_plain : (i : Input) (a : Kind) → is_simple_word a ≡ false →
      word_statement_by scope i a i ≡ spanned statements_made.Call i (plain_call scope) i
  by_plain i k.Value e = elim (differ (sym e)) [ ]
  by_plain i k.Return e = elim (differ (sym e)) [ ]
  by_plain i _ e = refl

  at_plain : (i : Input) → is_variable (kind i) ≡ false → is_simple_word (kind i) ≡ false →
      simple_statement scope i ≡ spanned statements_made.Call i (plain_call scope) i
  unfolding word_statement
  at_plain i v e = at_word i v ∙ by_plain i (kind i) e

  action_again : {i o : Input} {a : Action} (p : ActionAt i a o) → ActionOver p →
      simple_statement scope i ≡ Ok (statements_made.Act (span i o) a, o)
  unfolding set_number clear_context clear_operation write_value
  action_again (g.set_number {b = b} {n = n} p m q) f =
      at_number p ∙ then_again _ (then_again _ (ap (expect k.Assign) (left_is p) ∙ expect_again m)
      (by_expression n b (kind b) (expression_no_word q) ∙ then_again _ (expression_again q f) refl)) refl
  action_again (g.read_value {n = n} p m w q) f =
      at_number p ∙ then_again _ (then_again _ (ap (expect k.Assign) (left_is p) ∙ expect_again m)
      (value_at n w ∙ then_again _ (ap context_variable (rest_is w) ∙ context_again q) refl)) refl
  action_again (g.read_file {n = n} p m w q) f =
      at_number p ∙ then_again _ (then_again _ (ap (expect k.Assign) (left_is p) ∙ expect_again m)
      (value_at n w ∙ then_again _ (ap operation_variable (rest_is w) ∙ operation_again q) refl)) refl
  action_again (g.write_value n p m q) f =
      word_at n refl ∙ then_again _ (then_again _ (ap context_variable (rest_is n) ∙ context_again p)
      (then_again _ (expect_again m) (then_again _ (atom_again q) refl))) refl
  action_again (g.clear_context p m n) f =
      at_context p ∙ then_again _ (then_again _
      (then_again _ (ap (expect k.Assign) (left_is p) ∙ expect_again m) (expect_again n)) refl) refl
  action_again (g.clear_operation p m n) f =
      at_removed p ∙ then_again _ (then_again _
      (then_again _ (ap (expect k.Assign) (left_is p) ∙ expect_again m) (expect_again n)) refl) refl

-- ---- tests

-- the rule for a symbol, at that symbol
pub comparison_at : {kd : Kind} {i o : Input} (n : NumberVariable) → Next kd i o → comparison_by n (kind i) i ≡ comparison_by n kd i
comparison_at {i = i} n m = ap (λ y. comparison_by n y i) (kind_is m)

module _ (scope : Scope) where
  -- a test that begins with C
  pub if_context : {i a : Input} {c : ContextVariable} → ContextAt i c a → condition scope i ≡ (made.Test <$> context_test c) i
  unfolding condition
  if_context p = rw (means p) refl

  -- a test that begins with O
  pub if_removed : {i a : Input} {x : RemovedVariable} → Meant removed_variable_of i x a →
      condition scope i ≡ (made.Test <$> operation_test x) i
  unfolding condition
  if_removed {i = i} p = rw (none_of _ (other is_removed is_context (kind i) (removed_context (kind i)) (some_of (means p))), means p) refl

  -- a test that begins with N
  pub if_number : {i a : Input} {n : NumberVariable} → Meant number_variable_of i n a → condition scope i ≡ (made.Test <$> number_test n) i
  unfolding condition
  if_number {i = i} p =
      rw (
        none_of _ (other is_number is_context (kind i) (number_context (kind i)) (some_of (means p))),
        none_of _ (other is_number is_removed (kind i) (number_removed (kind i)) (some_of (means p))),
        means p,
      ) refl

  if_word : (i : Input) → is_variable (kind i) ≡ false → condition scope i ≡ word_test scope i
  unfolding condition
  if_word i e =
      let e1 = left_false (is_number (kind i)) _ e in let e2 = right_false (is_number (kind i)) _ e in
      rw (none_of _ e1, none_of _ (left_false (is_context (kind i)) _ e2), none_of _ (right_false (is_context (kind i)) _ e2)) refl

  -- the rule for a word, at that word
  pub if_at : {kd : Kind} {i a : Input} → Next kd i a → is_variable kd ≡ false → condition scope i ≡ word_test_by scope kd i
  unfolding word_test
  if_at {i = i} n e = if_word i (ap is_variable (kind_is n) ∙ e) ∙ ap (λ x. word_test_by scope x i) (kind_is n)

  by_call : (i : Input) (a : Kind) → is_test_word a ≡ false → word_test_by scope a i ≡ (made.Succeeds <$> fallible_call scope) i
  by_call i k.Irp e = elim (differ (sym e)) [ ]
  by_call i k.Draining e = elim (differ (sym e)) [ ]
  by_call i _ e = refl

  -- a test that begins otherwise is a call
  pub if_call : (i : Input) → begins_test (kind i) ≡ false → condition scope i ≡ (made.Succeeds <$> fallible_call scope) i
  unfolding word_test
  if_call i e = if_word i (left_false (is_variable (kind i)) _ e) ∙ by_call i (kind i) (right_false (is_variable (kind i)) _ e)

  test_again : {i o : Input} {t : Test} → TestAt i t o → condition scope i ≡ Ok (made.Test t, o)
  unfolding context_test operation_test number_test
  test_again (g.context_is_some p m n) =
      if_context p ∙ then_again _ (then_again _
      (then_again _ (ap (expect k.NotEqual) (left_is p) ∙ expect_again m) (expect_again n)) refl) refl
  test_again (g.operation_is_some p m n) =
      if_removed p ∙ then_again _ (then_again _
      (then_again _ (ap (expect k.NotEqual) (left_is p) ∙ expect_again m) (expect_again n)) refl) refl
  test_again (g.equal {n = n} p m q) =
      if_number p ∙ then_again _ (ap (λ x. comparison_by n (kind x) x) (left_is p) ∙ comparison_at n m
      ∙ then_again _ (ap atom (rest_is m) ∙ atom_again q) refl) refl
  test_again (g.less {n = n} p m q) =
      if_number p ∙ then_again _ (ap (λ x. comparison_by n (kind x) x) (left_is p) ∙ comparison_at n m
      ∙ then_again _ (ap atom (rest_is m) ∙ atom_again q) refl) refl
  test_again (g.is_irp n m) = if_at n refl ∙ then_again _ (ap (expect k.Data) (rest_is n) ∙ expect_again m) refl
  test_again (g.is_draining n) = if_at n refl ∙ ap (λ x. Ok (made.Test IsDraining, x)) (rest_is n)

  fallible_test : (a : Kind) → (begins_fallible a && begins_test a) ≡ false
  fallible_test k.OpenBrace = refl
  fallible_test _ = refl

  -- cond: what is spelled and over is read
  pub condition_again : {i o : Input} {c : Condition} (p : ConditionAt scope i c o) → ConditionOver p → condition scope i ≡ Ok (c, o)
  condition_again (g.test p) f = test_again p
  condition_again {i = i} (g.succeeds p) f =
      if_call i (other begins_fallible begins_test (kind i) (fallible_test (kind i)) (fallible_begins p)) ∙ then_again _
      (fallible_again p f) refl

-- ---- statements

plain_other : (a : Kind) → (begins_plain a && begins_other a) ≡ false
plain_other k.OpenBrace = refl
plain_other _ = refl

by_simple : (scope : Scope) (inner : ℕ → Parser (List Statement)) (r : ℕ) (i : Input) (a : Kind) → has_blocks a ≡ false →
    statement_by scope inner r a i ≡ simple_statement scope i
by_simple scope inner r i k.If e = elim (differ (sym e)) [ ]
by_simple scope inner r i k.Repeat e = elim (differ (sym e)) [ ]
by_simple scope inner r i _ e = refl

module _ (scope : Scope) (inner : ℕ → Parser (List Statement)) (r : ℕ) where
  -- a statement without blocks
  pub at_simple : (i : Input) → has_blocks (kind i) ≡ false → statement scope inner r i ≡ simple_statement scope i
  unfolding statement
  at_simple i e = by_simple scope inner r i (kind i) e

  -- what begins no other statement is read as a call
  pub at_call : (i : Input) → begins_other (kind i) ≡ false →
      statement scope inner r i ≡ spanned statements_made.Call i (plain_call scope) i
  at_call i e =
      let rest = right_false (is_variable (kind i)) _ e in
      at_simple i (right_false (is_simple_word (kind i)) _ rest)
      ∙ at_plain scope i (left_false (is_variable (kind i)) _ e) (left_false (is_simple_word (kind i)) _ rest)

  -- the rule for a kind, at a token of that kind
  pub statement_at : {kd : Kind} {i j : Input} → Next kd i j → statement scope inner r i ≡ statement_by scope inner r kd i
  unfolding statement
  statement_at {i = i} n = ap (λ x. statement_by scope inner r x i) (kind_is n)

-- a `repeat` inside has one level less
pub repeats_less : (scope : Scope) (inner : ℕ → Parser (List Statement)) (r : ℕ) (i : Input) → repetition scope inner (suc r) i ≡
    and_then (number_within 0 max_turns (next i)) (λ q. and_then (inner r q.1) (λ x. Ok (statements_made.Repeat (span i q.1) q.0 x.0, x.1)))
unfolding repetition
repeats_less scope inner r i = let e : suc r - 1 ≡ r = omega arith in rw (ne_eqb (suc r) 0 (suc_some r), e) refl

-- ---- each takes a token

atom_less : {i o : Input} {x : Atom} → AtomAt i x o → length o < length i
atom_less (g.number p) = number_less p
atom_less (g.variable p) = meant_less p

expression_less : {i o : Input} {x : Expression} → ExpressionAt i x o → length o < length i
expression_less (g.one p) = atom_less p
expression_less (g.sum p n q) = omega (arith, atom_less p, next_less n, atom_less q)
expression_less (g.difference p n q) = omega (arith, atom_less p, next_less n, atom_less q)

action_less : {i o : Input} {a : Action} → ActionAt i a o → length o < length i
action_less (g.set_number p m q) = omega (arith, meant_less p, next_less m, expression_less q)
action_less (g.read_value p m w q) = omega (arith, meant_less p, next_less m, next_less w, meant_less q)
action_less (g.read_file p m w q) = omega (arith, meant_less p, next_less m, next_less w, meant_less q)
action_less (g.write_value n p m q) = omega (arith, next_less n, meant_less p, next_less m, atom_less q)
action_less (g.clear_context p m n) = omega (arith, meant_less p, next_less m, next_less n)
action_less (g.clear_operation p m n) = omega (arith, meant_less p, next_less m, next_less n)

test_less : {i o : Input} {t : Test} → TestAt i t o → length o < length i
test_less (g.context_is_some p m n) = omega (arith, meant_less p, next_less m, next_less n)
test_less (g.operation_is_some p m n) = omega (arith, meant_less p, next_less m, next_less n)
test_less (g.equal p m q) = omega (arith, meant_less p, next_less m, atom_less q)
test_less (g.less p m q) = omega (arith, meant_less p, next_less m, atom_less q)
test_less (g.is_irp n m) = omega (arith, next_less n, next_less m)
test_less (g.is_draining n) = next_less n

condition_less : {scope : Scope} {i o : Input} {c : Condition} → ConditionAt scope i c o → length o < length i
condition_less (g.test p) = test_less p
condition_less (g.succeeds p) = fallible_less p

mutual
  -- so reading goes on at fewer tokens behind a statement
  pub statement_less : {scope : Scope} {d r : ℕ} {i o : Input} {s : Statement} → StatementAt scope d r i s o → length o < length i
  statement_less (s.act p) = action_less p
  statement_less (s.call p) = plain_less p
  statement_less (s.return n p) = omega (arith, next_less n, optional_status_less p)
  statement_less (s.choice n p q x) = omega (arith, next_less n, condition_less p, block_less q, else_less x)
  statement_less (s.repeat n p h q) = omega (arith, next_less n, number_less p, block_less q)

  else_less : {scope : Scope} {d r : ℕ} {i o : Input} {ss : List Statement} → ElseAt scope d r i ss o → length o ≤ length i
  else_less s.no_else = omega arith
  else_less (s.some_else n p) = omega (arith, next_less n, block_less p)

  block_less : {scope : Scope} {d r : ℕ} {i o : Input} {ss : List Statement} → BlockAt scope d r i ss o → length o < length i
  block_less (s.block n p m) = omega (arith, next_less n, statements_less p, next_less m)

  -- { stmt } up to its brace: fewer tokens are left behind it
  pub statements_less : {scope : Scope} {d r : ℕ} {i o : Input} {ss : List Statement} → StatementsAt scope d r i ss o → length o ≤ length i
  statements_less s.empty = omega arith
  statements_less (s.go_on p q) = omega (arith, statement_less p, statements_less q)

-- ---- statements and blocks

mutual
  unfolding otherwise choice block statements statements_from

  -- a statement that is spelled and over is read
  pub statement_again : {scope : Scope} {d r : ℕ} {i o : Input} {s : Statement} (p : StatementAt scope d r i s o) → StatementOver p →
      statement scope (block scope d) r i ≡ Ok (s, o)
  statement_again {scope = scope} {d = d} {r = r} {i = i} (s.act p) f =
      at_simple scope (block scope d) r i (no_blocks i (action_simply p)) ∙ action_again scope p f
  statement_again {scope = scope} {d = d} {r = r} {i = i} (s.call p) f =
      at_call scope (block scope d) r i (other begins_plain begins_other (kind i) (plain_other (kind i)) (plain_begins p))
      ∙ then_again _ (plain_again p f) refl
  statement_again {scope = scope} {d = d} {r = r} {i = i} (s.return n p) f =
      at_simple scope (block scope d) r i (ap has_blocks (kind_is n)) ∙ word_at scope n refl
      ∙ then_again _ (ap optional_status (rest_is n) ∙ optional_status_again p f) refl
  statement_again {scope = scope} {d = d} {r = r} {i = i} {o = o}
      (s.choice {b = b} {c = c} {granted = granted} {refused = refused} n p q x) f =
      statement_at scope (block scope d) r n ∙
      then_again _ (ap (condition scope) (rest_is n) ∙ condition_again scope p (condition_over p (block_follows q)))
      (then_again _ (block_again q) (then_again _ (else_again x f)
      (ap (λ j. Ok (statements_made.If (record (span j b) { line = line i }) c granted refused, o)) (rest_is n))))
  statement_again {scope = scope} {d = d} (s.repeat {r = r} {i = i} n p h q) f =
      statement_at scope (block scope d) (suc r) n ∙ repeats_less scope (block scope d) r i ∙
      then_again _ (ap (number_within 0 max_turns) (rest_is n) ∙ within_again 0 max_turns p (omega arith) h)
      (then_again _ (block_again q) refl)

  else_again : {scope : Scope} {d r : ℕ} {i o : Input} {ss : List Statement} (p : ElseAt scope d r i ss o) → ElseOver p →
      otherwise scope (block scope d) r i ≡ Ok (ss, o)
  else_again (s.no_else {i = i}) f = then_again _ (eat_none k.Else i (not_seen k.Else i f)) refl
  else_again (s.some_else n p) f = then_again _ (eat_again n) (block_again p)

  -- a block may follow
  pub block_follows : {scope : Scope} {d r : ℕ} {i o : Input} {ss : List Statement} → BlockAt scope d r i ss o → Follows i
  block_follows (s.block n p m) = follows_open n

  -- block: what is spelled and over is read
  pub block_again : {scope : Scope} {d r : ℕ} {i o : Input} {ss : List Statement} → BlockAt scope d r i ss o →
      block scope d r i ≡ Ok (ss, o)
  block_again (s.block {a = a} n p m) =
      then_again _ (expect_again n) (then_again _ (turns_again p m (length a) [] (omega arith)) (then_again _ (expect_again m) refl))

  turns_again : {scope : Scope} {d r : ℕ} {i o e : Input} {ss : List Statement} → StatementsAt scope d r i ss o →
      Next k.CloseBrace o e → (n : ℕ) (found : List Statement) → length i ≤ n →
      statements_from scope (block scope d) n r found i ≡ Ok (found ++ ss, o)
  turns_again s.empty m zero found h = absurd (omega (arith, next_less m))
  turns_again s.empty m (suc n) found h = rw (sees_it m, append-nil) refl
  turns_again (s.go_on p q) m zero found h = absurd (omega (arith, statement_less p))
  turns_again {o = o} (s.go_on {s = x} {ss = ss} p q) m (suc n) found h =
      rw (statement_stays p)
      (then_again _ (statement_again p (statement_over p (statements_follow q m)))
      (turns_again q m n (found ++ x ∷ []) (omega (arith, statement_less p)) ∙ ap (λ z. Ok (z, o)) (append_assoc found (x ∷ []) ss)))

-- statements up to a closing brace are read
pub statements_again : {scope : Scope} {d r : ℕ} {i o e : Input} {ss : List Statement} → StatementsAt scope d r i ss o →
    Next k.CloseBrace o e →
    statements scope (block scope d) r i ≡ Ok (ss, o)
unfolding statements
statements_again {i = i} p m = turns_again p m (length i) [] (omega arith)
