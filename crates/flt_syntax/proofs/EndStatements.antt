-- Each reader ends: what it gives is spelled and over, and its fault is one by the relation beside the grammar. Tests, statements, blocks.
use Rattle.std.proofs.Common.{◌≡◌, ◌≢◌, ◌⊎◌, inl, inr, ℕ, zero, suc, ◌-◌, ◌≤◌, Bool, true, false, List, []}
use Rattle.std.proofs.Common.{◌∷◌, ◌++◌, length, Ok, Err, refl, sym, ap, subst, ◌∙◌, append_assoc, arith}
use Rattle.std.specs.Prelude.{Option, Some, None, if◌then◌else◌, is_some}
use Rattle.std.proofs.lemmas.Bool.{ne_eqb}
use Rattle.std.proofs.lemmas.List.{append-nil}
use Rattle.flt_syntax.specs.declared.token.Kind.{Kind}
use Rattle.flt_syntax.specs.declared.token.Kind.TheVariants as k
use Rattle.flt_syntax.specs.declared.fault.FaultKind.TheVariants.{E06}
use Rattle.flt_syntax.specs.declared.fault.SyntaxFault.{SyntaxFault}
use Rattle.flt_tree.specs.declared.filter.Action.{Action}
use Rattle.flt_tree.specs.declared.filter.Condition.{Condition}
use Rattle.flt_tree.specs.declared.filter.Condition.TheVariants as made
use Rattle.flt_tree.specs.declared.filter.Statement.{Statement}
use Rattle.flt_tree.specs.declared.filter.Statement.TheVariants as statements_made
use Rattle.flt_tree.specs.declared.variable.Atom.{Atom}
use Rattle.flt_tree.specs.declared.variable.Atom.TheVariants as atoms
use Rattle.flt_tree.specs.declared.variable.ContextVariable.{ContextVariable}
use Rattle.flt_tree.specs.declared.variable.Expression.{Expression}
use Rattle.flt_tree.specs.declared.variable.NumberVariable.{NumberVariable}
use Rattle.flt_tree.specs.declared.variable.RemovedVariable.{RemovedVariable}
use Rattle.flt_syntax.specs.Lex.{same_kind}
use Rattle.flt_syntax.specs.ActionGrammar as g
use Rattle.flt_syntax.specs.ActionGrammar.{AtomAt, ExpressionAt, ActionAt, TestAt, ConditionAt}
use Rattle.flt_syntax.specs.Grammar as s
use Rattle.flt_syntax.specs.Grammar.{line, StatementAt, ElseAt, BlockAt, StatementsAt}
use Rattle.flt_syntax.specs.Words.{Next, Meant, ContextAt}
use Rattle.flt_syntax.specs.Operand.{context_variable_of, removed_variable_of, number_variable_of, atom_by, atom, leading_atom}
use Rattle.flt_syntax.specs.Scope.{Scope}
use Rattle.flt_syntax.specs.Action.{expression_by, expression, number_by, set_number, clear_context, clear_operation}
use Rattle.flt_syntax.specs.Action.{write_value, spanned, word_statement_by, word_statement, simple_statement}
use Rattle.flt_syntax.specs.Condition.{context_test, operation_test, comparison_by, number_test, word_test_by, word_test, condition}
use Rattle.flt_rules.specs.Limits.{max_turns}
use Rattle.flt_syntax.specs.Statement.{otherwise, choice, repetition, statement_by, statement, statements_from, statements, braced, block}
use Rattle.flt_syntax.specs.Cursor.{Input, and_then, ◌>>=◌, ◌<$>◌, pure, front, kind, next, refusal}
use Rattle.flt_syntax.specs.Cursor.{unknown, fault_at, sees, expect, given, too_deep}
use Rattle.flt_syntax.proofs.TokenKinds.{suc_some, kind_same, apart_kinds, unseen, took, meant_at, number_at}
use Rattle.flt_syntax.proofs.Complete.{kind_is}
use Rattle.flt_syntax.specs.FirstWords.{is_variable, is_test_word, is_simple_word, has_blocks}
use Rattle.flt_syntax.specs.Over.{ExpressionOver, ActionOver, ConditionOver, ElseOver, StatementOver}
use Rattle.flt_syntax.specs.WordFails as word_fails
use Rattle.flt_syntax.specs.WordFails.{NextFails}
use Rattle.flt_syntax.specs.CallFails as call_fails
use Rattle.flt_syntax.specs.ActionFails as bad
use Rattle.flt_syntax.specs.ActionFails.{AtomFails, LeadingFails, ExpressionFails, ActionFails, ConditionFails}
use Rattle.flt_syntax.specs.StatementFails as statement_fails
use Rattle.flt_syntax.specs.StatementFails.{StatementFails, ElseFails, BlockFails, StatementsFails}
use Rattle.flt_syntax.proofs.Ends.{Ends, gives, fails, then_ends, ends_by, refused, unknown_at, expect_ends}
use Rattle.flt_syntax.proofs.Ends.{Eaten, eaten, left, eat_ends, context_ends, within_ends}
use Rattle.flt_syntax.proofs.EndCalls.{neither, operation_ends, optional_status_ends, fallible_ends, plain_ends}
use Rattle.flt_syntax.proofs.CompleteStatements.{statement_less}

-- one of two
pub either : {A B C : Type 0} → A ⊎ B → (A → C) → (B → C) → C
either (inl a) f h = f a
either (inr b) f h = h b

-- two tokens
abbrev TwoAt : Kind → Kind → Input → Input → Type 0
TwoAt a b i o = (j : Input) × Next a i j × Next b j o

abbrev TwoFails : Kind → Kind → Input → SyntaxFault → Type 0
TwoFails a b i f = NextFails a i f ⊎ ((j : Input) × Next a i j × NextFails b j f)

two_ends : (a b : Kind) (i : Input) → same_kind k.End a ≡ false → same_kind k.End b ≡ false →
    Ends (λ (_ : Unit {0}) o. TwoAt a b i o) (TwoFails a b i) (and_then (expect a i) (λ q. expect b q.1))
two_ends a b i x y =
    then_ends _ (expect_ends i a x) (λ f h. inl h) (λ _ j n. ends_by (λ _ o m. (j, n, m)) (λ f h. inr (j, n, h)) (expect_ends j b y))

-- ---- atoms

number_atom : {F : SyntaxFault → Type 0} (f : SyntaxFault) (i : Input) (b : Bool) → sees k.Number i ≡ b → (kind i ≢ k.Number → F f) →
    Ends (AtomAt i) F (if b then Ok (atoms.Number (front i).word.value, next i) else Err f)
number_atom f i true e none = gives (g.number (number_at i (kind_same _ _ e)))
number_atom f i false e none = fails (none (unseen k.Number i e))

atom_by_ends : {F : SyntaxFault → Type 0} (f : SyntaxFault) (i : Input) (m : Option NumberVariable) → number_variable_of (kind i) ≡ m →
    (number_variable_of (kind i) ≡ None → kind i ≢ k.Number → F f) → Ends (AtomAt i) F (atom_by f m i)
atom_by_ends f i (Some n) e none = gives (g.variable (meant_at number_variable_of i n refl e))
atom_by_ends f i None e none = number_atom f i (sees k.Number i) refl (none e)

atom_ends : (i : Input) → Ends (AtomAt i) (AtomFails i) (atom i)
unfolding atom
atom_ends i = atom_by_ends (unknown i) i (number_variable_of (kind i)) refl (λ e n. bad.no_atom e n (unknown_at i))

leading_ends : (i : Input) → Ends (AtomAt i) (LeadingFails i) (leading_atom i)
unfolding leading_atom
leading_ends i = atom_by_ends (refusal i) i (number_variable_of (kind i)) refl (λ e n. bad.no_leading e n (refused i))

-- ---- actions

abbrev ExpressionHere : Input → Expression → Input → Type 0
ExpressionHere i x o = (p : ExpressionAt i x o) × ExpressionOver p

expression_by_ends : (i j : Input) (x : Atom) (kd : Kind) → AtomAt i x j → kind j ≡ kd →
    Ends (ExpressionHere i) (ExpressionFails i) (expression_by x kd j)
unfolding same_kind
expression_by_ends i j x k.Plus p e =
    let n = took j k.Plus refl e in
    then_ends _ (atom_ends (next j)) (λ f h. bad.sum p n h) (λ y o q. gives (g.sum p n q, tt))
expression_by_ends i j x k.Minus p e =
    let n = took j k.Minus refl e in
    then_ends _ (atom_ends (next j)) (λ f h. bad.difference p n h) (λ y o q. gives (g.difference p n q, tt))
expression_by_ends i j x _ p e = gives (g.one p, (apart_kinds (kind j) _ k.Plus e refl, apart_kinds (kind j) _ k.Minus e refl))

expression_ends : (i : Input) → Ends (ExpressionHere i) (ExpressionFails i) (expression i)
unfolding expression
expression_ends i =
    then_ends _ (leading_ends i) (λ f h. bad.first h) (λ x j p. expression_by_ends i j x (kind j) p refl)

abbrev ActionHere : Input → Action → Input → Type 0
ActionHere i a o = (p : ActionAt i a o) × ActionOver p

number_by_ends : (i a j : Input) (n : NumberVariable) (kd : Kind) → Meant number_variable_of i n a → Next k.Assign a j → kind j ≡ kd →
    Ends (ActionHere i) (ActionFails i) (number_by n kd j)
unfolding same_kind
number_by_ends i a j n k.Value p m e =
    let w = took j k.Value refl e in
    then_ends _ (context_ends (next j)) (λ f h. bad.number_value p m w h) (λ c o q. gives (g.read_value p m w q, tt))
number_by_ends i a j n k.File p m e =
    let w = took j k.File refl e in
    then_ends _ (operation_ends (next j)) (λ f h. bad.number_file p m w h) (λ c o q. gives (g.read_file p m w q, tt))
number_by_ends i a j n _ p m e =
    then_ends _ (expression_ends j)
    (λ f h. bad.number_expression p m (apart_kinds (kind j) _ k.Value e refl) (apart_kinds (kind j) _ k.File e refl) h)
    (λ x o q. gives (g.set_number p m q.0, q.1))

set_number_ends : (i : Input) (n : NumberVariable) → Meant number_variable_of i n (next i) →
    Ends (ActionHere i) (ActionFails i) (set_number n i)
unfolding set_number same_kind
set_number_ends i n p =
    then_ends _ (expect_ends (next i) k.Assign refl) (λ f h. bad.number_assign p h)
    (λ _ j m. number_by_ends i (next i) j n (kind j) p m refl)

clear_context_ends : (i : Input) (c : ContextVariable) → ContextAt i c (next i) → Ends (ActionHere i) (ActionFails i) (clear_context c i)
unfolding clear_context same_kind
clear_context_ends i c p =
    then_ends _ (two_ends k.Assign k.Null (next i) refl refl)
    (λ f h. either h (λ q. bad.context_assign p q) (λ q. bad.context_null p q.1 q.2))
    (λ _ o m. gives (g.clear_context p m.1 m.2, tt))

clear_operation_ends : (i : Input) (x : RemovedVariable) → Meant removed_variable_of i x (next i) →
    Ends (ActionHere i) (ActionFails i) (clear_operation x i)
unfolding clear_operation same_kind
clear_operation_ends i x p =
    then_ends _ (two_ends k.Assign k.Null (next i) refl refl)
    (λ f h. either h (λ q. bad.operation_assign p q) (λ q. bad.operation_null p q.1 q.2))
    (λ _ o m. gives (g.clear_operation p m.1 m.2, tt))

write_value_ends : (i : Input) → Next k.Value i (next i) → Ends (ActionHere i) (ActionFails i) (write_value i)
unfolding write_value same_kind
write_value_ends i n =
    then_ends _ (context_ends (next i)) (λ f h. bad.value_context n h) (λ c b p.
    then_ends _ (expect_ends b k.Assign refl) (λ f h. bad.value_assign n p h) (λ _ l m.
    then_ends _ (atom_ends l) (λ f h. bad.value_atom n p m h) (λ x o q. gives (g.write_value n p m q, tt))))

abbrev pub StatementHere : Scope → ℕ → ℕ → Input → Statement → Input → Type 0
StatementHere scope d r i s o = (p : StatementAt scope d r i s o) × StatementOver p

module _ (scope : Scope) (d r : ℕ) where
  word_statement_by_ends : (i : Input) (kd : Kind) → kind i ≡ kd → is_variable (kind i) ≡ false → has_blocks (kind i) ≡ false →
      Ends (StatementHere scope d r i) (StatementFails scope d r i) (word_statement_by scope i kd i)
  unfolding same_kind
  word_statement_by_ends i k.Value e v b =
      then_ends _ (write_value_ends i (took i k.Value refl e)) (λ f h. statement_fails.act h) (λ a o p. gives (s.act p.0, p.1))
  word_statement_by_ends i k.Return e v b =
      let n = took i k.Return refl e in
      then_ends _ (optional_status_ends (next i)) (λ f h. statement_fails.return n h) (λ x o p. gives (s.return n p.0, p.1))
  word_statement_by_ends i _ e v b =
      then_ends _ (plain_ends scope i) (λ f h. statement_fails.call (neither _ _ v (neither _ _ (ap is_simple_word e) b)) h)
      (λ c o p. gives (s.call p.0, p.1))

  word_statement_ends : (i : Input) → is_variable (kind i) ≡ false → has_blocks (kind i) ≡ false →
      Ends (StatementHere scope d r i) (StatementFails scope d r i) (word_statement scope i)
  unfolding word_statement
  word_statement_ends i v b = word_statement_by_ends i (kind i) refl v b

  simple_by_ends : (i : Input) (n : Option NumberVariable) (c : Option ContextVariable) (x : Option RemovedVariable) →
      number_variable_of (kind i) ≡ n → context_variable_of (kind i) ≡ c → removed_variable_of (kind i) ≡ x → has_blocks (kind i) ≡ false →
      Ends (StatementHere scope d r i) (StatementFails scope d r i)
      (given n (λ n. spanned statements_made.Act i (set_number n))
      (given c (λ c. spanned statements_made.Act i (clear_context c))
      (given x (λ o. spanned statements_made.Act i (clear_operation o))
      (word_statement scope))) i)
  simple_by_ends i (Some n) c x e f h b =
      then_ends _ (set_number_ends i n (meant_at number_variable_of i n refl e)) (λ y q. statement_fails.act q)
      (λ a o p. gives (s.act p.0, p.1))
  simple_by_ends i None (Some c) x e f h b =
      then_ends _ (clear_context_ends i c (meant_at context_variable_of i c refl f)) (λ y q. statement_fails.act q)
      (λ a o p. gives (s.act p.0, p.1))
  simple_by_ends i None None (Some x) e f h b =
      then_ends _ (clear_operation_ends i x (meant_at removed_variable_of i x refl h)) (λ y q. statement_fails.act q)
      (λ a o p. gives (s.act p.0, p.1))
  simple_by_ends i None None None e f h b =
      word_statement_ends i (neither _ _ (ap is_some e) (neither _ _ (ap is_some f) (ap is_some h))) b

  simple_ends : (i : Input) → has_blocks (kind i) ≡ false →
      Ends (StatementHere scope d r i) (StatementFails scope d r i) (simple_statement scope i)
  unfolding simple_statement
  simple_ends i b = simple_by_ends i _ _ _ refl refl refl b

-- ---- tests

abbrev pub ConditionHere : Scope → Input → Condition → Input → Type 0
ConditionHere scope i c o = (p : ConditionAt scope i c o) × ConditionOver p

module _ (scope : Scope) where
  context_test_ends : (i : Input) (c : ContextVariable) → ContextAt i c (next i) →
      Ends (TestAt i) (ConditionFails scope i) (context_test c i)
  unfolding context_test same_kind
  context_test_ends i c p =
      then_ends _ (two_ends k.NotEqual k.Null (next i) refl refl)
      (λ f h. either h (λ q. bad.context_unlike p q) (λ q. bad.context_unlike_null p q.1 q.2))
      (λ _ o m. gives (g.context_is_some p m.1 m.2))

  operation_test_ends : (i : Input) (x : RemovedVariable) → Meant removed_variable_of i x (next i) →
      Ends (TestAt i) (ConditionFails scope i) (operation_test x i)
  unfolding operation_test same_kind
  operation_test_ends i x p =
      then_ends _ (two_ends k.NotEqual k.Null (next i) refl refl)
      (λ f h. either h (λ q. bad.operation_unlike p q) (λ q. bad.operation_unlike_null p q.1 q.2))
      (λ _ o m. gives (g.operation_is_some p m.1 m.2))

  comparison_by_ends : (i a : Input) (n : NumberVariable) (kd : Kind) → Meant number_variable_of i n a → kind a ≡ kd →
      Ends (TestAt i) (ConditionFails scope i) (comparison_by n kd a)
  unfolding same_kind
  comparison_by_ends i a n k.Equal p e =
      let m = took a k.Equal refl e in
      then_ends _ (atom_ends (next a)) (λ f h. bad.equal_atom p m h) (λ x o q. gives (g.equal p m q))
  comparison_by_ends i a n k.Less p e =
      let m = took a k.Less refl e in
      then_ends _ (atom_ends (next a)) (λ f h. bad.less_atom p m h) (λ x o q. gives (g.less p m q))
  comparison_by_ends i a n _ p e =
      fails (bad.comparison p (apart_kinds (kind a) _ k.Equal e refl) (apart_kinds (kind a) _ k.Less e refl) (refused a))

  number_test_ends : (i : Input) (n : NumberVariable) → Meant number_variable_of i n (next i) →
      Ends (TestAt i) (ConditionFails scope i) (number_test n i)
  unfolding number_test
  number_test_ends i n p = comparison_by_ends i (next i) n (kind (next i)) p refl

  word_test_by_ends : (i : Input) (kd : Kind) → kind i ≡ kd → is_variable (kind i) ≡ false →
      Ends (ConditionHere scope i) (ConditionFails scope i) (word_test_by scope kd i)
  unfolding same_kind
  word_test_by_ends i k.Irp e v =
      let n = took i k.Irp refl e in
      then_ends _ (expect_ends (next i) k.Data refl) (λ f h. bad.irp_data n h) (λ _ o m. gives (g.test (g.is_irp n m), tt))
  word_test_by_ends i k.Draining e v = gives (g.test (g.is_draining (took i k.Draining refl e)), tt)
  word_test_by_ends i _ e v =
      then_ends _ (fallible_ends scope i) (λ f h. bad.call (neither _ _ v (ap is_test_word e)) h) (λ c o p. gives (g.succeeds p.0, p.1))

  word_test_ends : (i : Input) → is_variable (kind i) ≡ false → Ends (ConditionHere scope i) (ConditionFails scope i) (word_test scope i)
  unfolding word_test
  word_test_ends i v = word_test_by_ends i (kind i) refl v

  condition_by_ends : (i : Input) (c : Option ContextVariable) (x : Option RemovedVariable) (n : Option NumberVariable) →
      context_variable_of (kind i) ≡ c → removed_variable_of (kind i) ≡ x → number_variable_of (kind i) ≡ n →
      Ends (ConditionHere scope i) (ConditionFails scope i)
      (given c (λ c. made.Test <$> context_test c)
      (given x (λ o. made.Test <$> operation_test o)
      (given n (λ n. made.Test <$> number_test n)
      (word_test scope))) i)
  condition_by_ends i (Some c) x n e f h =
      then_ends _ (context_test_ends i c (meant_at context_variable_of i c refl e)) (λ y q. q) (λ t o p. gives (g.test p, tt))
  condition_by_ends i None (Some x) n e f h =
      then_ends _ (operation_test_ends i x (meant_at removed_variable_of i x refl f)) (λ y q. q) (λ t o p. gives (g.test p, tt))
  condition_by_ends i None None (Some n) e f h =
      then_ends _ (number_test_ends i n (meant_at number_variable_of i n refl h)) (λ y q. q) (λ t o p. gives (g.test p, tt))
  condition_by_ends i None None None e f h =
      word_test_ends i (neither _ _ (ap is_some h) (neither _ _ (ap is_some e) (ap is_some f)))

  condition_ends : (i : Input) → Ends (ConditionHere scope i) (ConditionFails scope i) (condition scope i)
  unfolding condition
  condition_ends i = condition_by_ends i _ _ _ refl refl refl

-- ---- statements

abbrev ElseHere : Scope → ℕ → ℕ → Input → List Statement → Input → Type 0
ElseHere scope d r i ss o = (p : ElseAt scope d r i ss o) × ElseOver p

-- the statements after those that were found, up to the closing brace
abbrev After : Scope → ℕ → ℕ → List Statement → Input → List Statement → Input → Type 0
After scope d r found i all o = (ss : List Statement) × (all ≡ found ++ ss) × StatementsAt scope d r i ss o × Next k.CloseBrace o (next o)

-- statements up to the closing brace
abbrev pub StatementsHere : Scope → ℕ → ℕ → Input → List Statement → Input → Type 0
StatementsHere scope d r i ss o = StatementsAt scope d r i ss o × Next k.CloseBrace o (next o)

-- a token of the kind is there, so it isn't missing
pub is_there : {kd : Kind} {i o : Input} {f : SyntaxFault} → Next kd i o → NextFails kd i f → ⊥
is_there n (word_fails.missing e h) = e (kind_is n)

module _ (scope : Scope) (d : ℕ) (inner : (r : ℕ) (i : Input) → Ends (BlockAt scope d r i) (BlockFails scope d r i)
    (block scope d r i)) where
  else_of : (r : ℕ) (i : Input) (b : Bool) (j : Input) → Eaten k.Else i b j →
      Ends (ElseHere scope d r i) (ElseFails scope d r i) ((if b then block scope d r else pure []) j)
  else_of r i true j (eaten n) = ends_by (λ ss o p. (s.some_else n p, tt)) (λ f h. statement_fails.behind n h) (inner r j)
  else_of r i false j (left h) = gives (s.no_else, h)

  otherwise_ends : (r : ℕ) (i : Input) → Ends (ElseHere scope d r i) (ElseFails scope d r i) (otherwise scope (block scope d) r i)
  unfolding otherwise same_kind
  otherwise_ends r i = then_ends _ (eat_ends i k.Else refl) (λ f h. h) (λ b j e. else_of r i b j e)

  choice_ends : (r : ℕ) (i : Input) → Next k.If i (next i) →
      Ends (StatementHere scope d r i) (StatementFails scope d r i) (choice scope (block scope d) r i)
  unfolding choice
  choice_ends r i n =
      then_ends _ (condition_ends scope (next i)) (λ f h. statement_fails.choice_test n h) (λ c b p.
      then_ends _ (inner r b) (λ f h. statement_fails.choice_granted n p.0 p.1 h) (λ granted l q.
      then_ends _ (otherwise_ends r l) (λ f h. statement_fails.choice_refused n p.0 q h)
      (λ refused o x. gives (s.choice n p.0 q x.0, x.1))))

  repetition_ends : (r : ℕ) (i : Input) → Next k.Repeat i (next i) →
      Ends (StatementHere scope d r i) (StatementFails scope d r i) (repetition scope (block scope d) r i)
  unfolding repetition
  repetition_ends zero i n = fails (statement_fails.repeat_nested n)
  repetition_ends (suc r) i n =
      let e : suc r - 1 ≡ r = omega arith in
      rw (ne_eqb (suc r) 0 (suc_some r), e)
      (then_ends _ (within_ends 0 max_turns (next i)) (λ f h. statement_fails.repeat_number n h) (λ turns b p.
      then_ends _ (inner r b) (λ f h. statement_fails.repeat_body n p.at p.up_to h) (λ body o q. gives (s.repeat n p.at p.up_to q, tt))))

  statement_by_ends : (r : ℕ) (i : Input) (kd : Kind) → kind i ≡ kd →
      Ends (StatementHere scope d r i) (StatementFails scope d r i) (statement_by scope (block scope d) r kd i)
  unfolding same_kind
  statement_by_ends r i k.If e = choice_ends r i (took i k.If refl e)
  statement_by_ends r i k.Repeat e = repetition_ends r i (took i k.Repeat refl e)
  statement_by_ends r i _ e = simple_ends scope d r i (ap has_blocks e)

  statement_ends : (r : ℕ) (i : Input) → Ends (StatementHere scope d r i) (StatementFails scope d r i) (statement scope (block scope d) r i)
  unfolding statement
  statement_ends r i = statement_by_ends r i (kind i) refl

  module _ (n r : ℕ) (rest : (found : List Statement) (i : Input) → length i ≤ n →
      Ends (After scope d r found i) (StatementsFails scope d r i) (statements_from scope (block scope d) n r found i)) where
    turn_ends : (found : List Statement) (i : Input) (b : Bool) → length i ≤ suc n → sees k.CloseBrace i ≡ b →
        Ends (After scope d r found i) (StatementsFails scope d r i)
        (if b then Ok (found, i) else (statement scope (block scope d) r
        >>= (λ s. statements_from scope (block scope d) n r (found ++ s ∷ []))) i)
    unfolding same_kind
    turn_ends found i true fits e = gives ([], sym (append-nil found), s.empty, took i k.CloseBrace refl (kind_same _ _ e))
    turn_ends found i false fits e =
        then_ends _ (statement_ends r i) (λ f h. statement_fails.here (unseen k.CloseBrace i e) h) (λ x l p.
        ends_by (λ all o a. (x ∷ a.0, a.1 ∙ append_assoc found (x ∷ []) a.0, s.go_on p.0 a.2, a.3)) (λ f h. statement_fails.later p.0 p.1 h)
        (rest (found ++ x ∷ []) l (omega (arith, statement_less p.0, fits))))

  statements_from_ends : (n r : ℕ) (found : List Statement) (i : Input) → length i ≤ n →
      Ends (After scope d r found i) (StatementsFails scope d r i) (statements_from scope (block scope d) n r found i)
  unfolding statements_from same_kind
  statements_from_ends zero r found [] fits =
      fails (statement_fails.here (apart_kinds k.End k.End k.CloseBrace refl refl) (statement_fails.call refl (call_fails.no_plain refl
      (refused []))))
  statements_from_ends zero r found (t ∷ i) fits = absurd (omega (arith, fits))
  statements_from_ends (suc n) r found i fits = turn_ends n r (statements_from_ends n r) found i (sees k.CloseBrace i) fits refl

  -- { stmt } up to its brace: what is read is spelled and over, else it fails so
  pub statements_ends : (r : ℕ) (i : Input) →
      Ends (StatementsHere scope d r i) (StatementsFails scope d r i) (statements scope (block scope d) r i)
  unfolding statements
  statements_ends r i =
      ends_by (λ all o a. (subst (λ ss. StatementsAt scope d r i ss o) (sym a.1) a.2, a.3)) (λ f h. h)
      (statements_from_ends (length i) r [] i (omega arith))

  braced_ends : (r : ℕ) (i : Input) → Ends (BlockAt scope (suc d) r i) (BlockFails scope (suc d) r i) (braced scope (block scope d) r i)
  unfolding same_kind
  braced_ends r i =
      then_ends _ (expect_ends i k.OpenBrace refl) (λ f h. statement_fails.no_brace h) (λ _ a n.
      then_ends _ (statements_ends r a) (λ f h. statement_fails.body n h) (λ body b p.
      then_ends _ (expect_ends b k.CloseBrace refl) (λ f h. absurd (is_there p.1 h)) (λ _ o m. gives (s.block n p.0 m))))

deep_by : (scope : Scope) (r : ℕ) (i : Input) (b : Bool) → sees k.OpenBrace i ≡ b →
    BlockFails scope zero r i (if b then fault_at E06 i else refusal i)
unfolding same_kind
deep_by scope r i true e = statement_fails.too_deep (took i k.OpenBrace refl (kind_same _ _ e))
deep_by scope r i false e = statement_fails.no_brace (word_fails.missing (unseen k.OpenBrace i e) (refused i))

-- block: what is read is spelled and over, else it fails so
pub block_ends : (scope : Scope) (d r : ℕ) (i : Input) → Ends (BlockAt scope d r i) (BlockFails scope d r i) (block scope d r i)
unfolding block too_deep
block_ends scope zero r i = fails (deep_by scope r i (sees k.OpenBrace i) refl)
block_ends scope (suc d) r i = braced_ends scope d (block_ends scope d) r i
