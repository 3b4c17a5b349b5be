-- What is read is spelled so: declarations and statements.
use Rattle.std.proofs.Common.{◌≡◌, ℕ, zero, suc, Bool, true, false, List, [], ◌∷◌, length, Ok, Err, refl, ap, ◌∙◌}
use Rattle.std.specs.Prelude.{Option, Some, None, if◌then◌else◌, ◌&&◌, not}
use Rattle.flt_c_tokens.specs.declared.token.Kind.{Kind}
use Rattle.flt_c_tokens.specs.declared.token.Kind.TheVariants as k
use Rattle.flt_c_syntax.specs.Cursor.{Parser, ◌>>=◌, ◌>>◌, ◌<$>◌, pure, refusal, refuse, take_token, eat, expect, word, separator, many}
use Rattle.flt_c_syntax.specs.Expression.{expression, next_argument}
use Rattle.flt_c_syntax.specs.Groups.{behind_group, behind_semicolon, follows_specifier, begins_declaration, begins_declaration_by}
use Rattle.flt_c_syntax.specs.Groups.{begins_name_label, begins_leave, is_macro, is_macro_loop, ends_list, begins_label_by}
use Rattle.flt_c_syntax.specs.Groups.{begins_expression}
use Rattle.flt_c_syntax.specs.Statement.{skipped, group, up_to_semicolon, specifier_by, specifier, bounds_from, bounds, form}
use Rattle.flt_c_syntax.specs.Statement.{declared, first_value, declarator, next_declarator, declaration, tested, optional}
use Rattle.flt_c_syntax.specs.Statement.{first, last, expressed, arguments, case, else_if, otherwise, choice, counting, repetition}
use Rattle.flt_c_syntax.specs.Statement.{handler_by, guarded, else_branch, directed, named, statement_by, statement, next_statement, body}
use Rattle.flt_c_syntax.specs.Statement.{plain_statement_by, plain_named}
use Rattle.flt_c_syntax.specs.Statement.{nested_as, nested, max_depth, function_body, end, function_pointer, plainly_declared}
use Rattle.flt_c_syntax.specs.StatementGrammar as g
use Rattle.flt_c_syntax.specs.StatementGrammar.{GroupAt, ends_specifiers_by, SpecifiersAt, BoundsAt, FormAt, DeclaredAt}
use Rattle.flt_c_syntax.specs.StatementGrammar.{FirstValueAt, DeclaratorAt, DeclaratorsAt, DeclarationAt, TestedAt, OptionalAt, FirstAt}
use Rattle.flt_c_syntax.specs.StatementGrammar.{LastAt, CalledAt, NestAt, StatementsAt, StatementAt, ElseIfsAt, OtherwiseAt}
use Rattle.flt_c_syntax.specs.StatementGrammar.{ElseBranchesAt, BodyAt}
use Rattle.flt_c_syntax.specs.ExpressionGrammar.{RoleAt, ArgumentsAt}
use Rattle.flt_c_syntax.specs.Tokens.{Input, kind, place, next, same_kind, sees, run, behind}
use Rattle.flt_c_syntax.specs.Types.{stars}
use Rattle.flt_c_syntax.specs.Words.{Next}
use Rattle.flt_c_syntax.specs.declared.class.Class.{Class}
use Rattle.flt_c_syntax.specs.declared.class.Nest.{Nest}
use Rattle.flt_c_syntax.specs.declared.class.Nest.TheVariants as nests
use Rattle.flt_c_syntax.specs.declared.class.Part.TheVariants as parts
use Rattle.flt_c_syntax.specs.declared.class.Role.TheVariants as roles
use Rattle.flt_c_syntax.specs.declared.tree.Branch.TheVariants as branches
use Rattle.flt_c_syntax.specs.declared.tree.Expression.{Expression}
use Rattle.flt_c_syntax.specs.declared.tree.Form.TheVariants as forms
use Rattle.flt_c_syntax.specs.declared.tree.Specifier.TheVariants as specifiers
use Rattle.flt_c_syntax.specs.declared.tree.Statement.{Statement}
use Rattle.flt_c_syntax.specs.declared.tree.Statement.TheVariants as made
use Rattle.flt_c_syntax.proofs.ExpressionSound.{expression_gives, next_argument_gives}
use Rattle.flt_c_syntax.proofs.Gives.{Gives, gives, fails, then_gives, gives_by, expect_gives, word_gives, separator_gives, Turn, over}
use Rattle.flt_c_syntax.proofs.Gives.{on, many_gives}
use Rattle.flt_c_syntax.proofs.TokenKinds.{kind_same, took, took_word}

-- the token, or nothing
data Eaten (kd : Kind) (i : Input) : Bool → Input → Type 0 where
  eaten : {o : Input} → Next kd i o → Eaten kd i true o
  left : sees kd i ≡ false → Eaten kd i false i

eat_by : (i : Input) (kd : Kind) (b : Bool) → same_kind k.End kd ≡ false → sees kd i ≡ b → Eaten kd i b (if b then next i else i)
eat_by i kd true other e = eaten (took i kd other (kind_same _ _ e))
eat_by i kd false other e = left e

eat_gives : (i : Input) (kd : Kind) → same_kind k.End kd ≡ false → Gives (Eaten kd i) (eat kd i)
unfolding eat
eat_gives i kd other = gives (eat_by i kd (sees kd i) other refl)

group_by : (i : Input) (m : Option Input) → behind_group i ≡ m → Gives (λ (_ : Unit {0}) o. GroupAt i o) (skipped m i)
group_by i None e = fails
group_by i (Some o) e = gives e

-- a group in brackets
group_gives : (i : Input) → Gives (λ (_ : Unit {0}) o. GroupAt i o) (group i)
unfolding group
group_gives i = group_by i (behind_group i) refl

semicolon_by : (i : Input) (m : Option Input) → behind_semicolon i ≡ m →
    Gives (λ (_ : Unit {0}) o. behind_semicolon i ≡ Some o) (skipped m i)
semicolon_by i None e = fails
semicolon_by i (Some o) e = gives e

semicolon_gives : (i : Input) → Gives (λ (_ : Unit {0}) o. behind_semicolon i ≡ Some o) (up_to_semicolon i)
unfolding up_to_semicolon
semicolon_gives i = semicolon_by i (behind_semicolon i) refl

-- ---- declarations

specifier_name : (i : Input) (b : Bool) → kind i ≡ k.Name → follows_specifier (kind (next i)) ≡ b →
    Gives (Turn SpecifiersAt i) (if b then ((λ w. Some (specifiers.Word w)) <$> word k.Name) i else Ok (None, i))
unfolding same_kind
specifier_name i true e h = then_gives _ (word_gives i k.Name refl) (λ w j p. gives (on (λ xs o q. g.one_specifier (g.name h p) q)))
specifier_name i false e h = gives (over (g.no_specifier (ap (λ x. ends_specifiers_by x (next i)) e ∙ ap not h)))

specifier_by_gives : (i : Input) (kd : Kind) → kind i ≡ kd → Gives (Turn SpecifiersAt i) (specifier_by kd i)
unfolding same_kind
specifier_by_gives i k.TypeWord e =
    then_gives _ (word_gives i k.TypeWord refl) (λ w j p. gives (on (λ xs o q. g.one_specifier (g.type_word p) q)))
specifier_by_gives i k.Qualifier e =
    then_gives _ (word_gives i k.Qualifier refl) (λ w j p. gives (on (λ xs o q. g.one_specifier (g.qualifier p) q)))
specifier_by_gives i k.Struct e = then_gives _ (word_gives i k.Struct refl) (λ w j p. gives (on (λ xs o q. g.one_specifier (g.struct p) q)))
specifier_by_gives i k.Name e = specifier_name i (follows_specifier (kind (next i))) e refl
specifier_by_gives i k.Attribute e =
    then_gives _ (word_gives i k.Attribute refl) (λ w j p.
    then_gives _ (group_gives j) (λ _ l n. gives (on (λ xs o q. g.one_specifier (g.attribute p n) q))))
specifier_by_gives i k.OpenBrace e = then_gives _ (group_gives i) (λ _ l n. gives (on (λ xs o q. g.one_specifier (g.members e n) q)))
specifier_by_gives i kd e = gives (over (g.no_specifier (ap (λ x. ends_specifiers_by x (next i)) e)))

specifier_gives : (i : Input) → Gives (Turn SpecifiersAt i) (specifier i)
unfolding specifier
specifier_gives i = specifier_by_gives i (kind i) refl

bounds_by : (i : Input) (rest : Parser (Unit {0})) (b : Bool) → sees k.OpenBracket i ≡ b →
    ((j : Input) → Gives (λ (_ : Unit {0}) o. BoundsAt j o) (rest j)) →
    Gives (λ (_ : Unit {0}) o. BoundsAt i o) (if b then (group >> rest) i else Ok (tt {0}, i))
bounds_by i rest true e h = then_gives _ (group_gives i) (λ _ j n. gives_by (λ _ o p. g.one_bound e n p) (h j))
bounds_by i rest false e h = gives (g.no_bound e)

bounds_from_gives : (n : ℕ) (i : Input) → Gives (λ (_ : Unit {0}) o. BoundsAt i o) (bounds_from n i)
unfolding bounds_from
bounds_from_gives zero i = fails
bounds_from_gives (suc n) i = bounds_by i (bounds_from n) (sees k.OpenBracket i) refl (bounds_from_gives n)

form_by : (i : Input) (b c : Bool) → sees k.OpenParen i ≡ b → sees k.OpenBracket i ≡ c →
    Gives (FormAt i) (if b then (group >> pure forms.Prototype) i else (if c then (bounds >> pure forms.Array) i else Ok (forms.Plain, i)))
unfolding bounds
form_by i true c e h = then_gives _ (group_gives i) (λ _ o n. gives (g.prototype e n))
form_by i false true e h = then_gives _ (bounds_from_gives (suc (length i)) i) (λ _ o n. gives (g.array e h n))
form_by i false false e h = gives (g.plain e h)

form_gives : (i : Input) → Gives (FormAt i) (form i)
unfolding form
form_gives i = form_by i (sees k.OpenParen i) (sees k.OpenBracket i) refl refl

declared_gives : (i : Input) → Gives (DeclaredAt i) (declared i)
unfolding declared function_pointer plainly_declared same_kind
declared_gives i =
    then_gives _ (eat_gives (behind parts.Star i) k.OpenParen refl) (λ b j e.
    elim e as (λ b j _. Gives (DeclaredAt i) ((if b then function_pointer else plainly_declared (stars (run parts.Star i))) j)) [
      | eaten {o = a} n ↦ then_gives _ (word_gives (behind parts.Star a) k.Name refl) (λ w b p.
          then_gives _ (expect_gives b k.CloseParen refl) (λ _ c m.
          then_gives _ (group_gives c) (λ _ o q. gives (g.pointer n p m q))))
      | left h ↦ then_gives _ (word_gives (behind parts.Star i) k.Name refl) (λ w a p.
          then_gives _ (form_gives a) (λ f o q. gives (g.declared h p q)))
    ])

module _ (known : List Class) (d : ℕ) where
  first_value_gives : (i : Input) → Gives (FirstValueAt known d i) (first_value known d i)
  unfolding first_value same_kind
  first_value_gives i =
      then_gives _ (eat_gives i k.Assign refl) (λ b j e.
      elim e as (λ b j _. Gives (FirstValueAt known d i) ((if b then (Some <$> expression known d roles.Value) else pure None) j)) [
        | eaten n ↦ then_gives _ (expression_gives known d roles.Value _) (λ x o p. gives (g.one_value n p))
        | left h ↦ gives (g.no_value h)
      ])

  next_declarator_by : (i : Input) (b : Bool) → sees k.Semicolon i ≡ b →
      Gives (Turn (DeclaratorsAt known d) i) (if b then Ok (None, i)
      else (declarator known d >>= (λ x. separator k.Semicolon >> pure (Some x))) i)
  next_declarator_by i true e = gives (over (g.no_declarator e))
  next_declarator_by i false e =
      then_gives _ (then_gives {P = DeclaredAt i} {R = DeclaratorAt known d i} _ (declared_gives i) (λ x j p.
      then_gives _ (first_value_gives j) (λ v l q. gives (g.declarator p q)))) (λ x j p.
      then_gives _ (separator_gives j k.Semicolon) (λ _ l s. gives (on (λ xs o q. g.one_declarator e p s q))))

  next_declarator_gives : (i : Input) → Gives (Turn (DeclaratorsAt known d) i) (next_declarator known d i)
  unfolding next_declarator
  next_declarator_gives i = next_declarator_by i (sees k.Semicolon i) refl

  declaration_gives : (i : Input) → Gives (DeclarationAt known d i) (declaration known d (place i) i)
  unfolding declaration same_kind
  declaration_gives i =
      then_gives _ (many_gives SpecifiersAt specifier specifier_gives i) (λ ws a p.
      then_gives _ (many_gives (DeclaratorsAt known d) (next_declarator known d) next_declarator_gives a) (λ xs b q.
      then_gives _ (expect_gives b k.Semicolon refl) (λ _ o n. gives (g.declaration p q n))))

  tested_gives : (i : Input) → Gives (TestedAt known d i) (tested known d i)
  unfolding tested same_kind
  tested_gives i =
      then_gives _ (expect_gives i k.OpenParen refl) (λ _ a n.
      then_gives _ (expression_gives known d roles.Whole a) (λ e b p.
      then_gives _ (expect_gives b k.CloseParen refl) (λ _ o m. gives (g.tested n p m))))

  optional_by : (i : Input) (close : Kind) (b : Bool) → same_kind k.End close ≡ false → sees close i ≡ b →
      Gives (OptionalAt known d close i) (if b then Ok (None, next i)
      else (expression known d roles.Whole >>= (λ e. expect close >> pure (Some e))) i)
  optional_by i close true other e = gives (g.without (took i close other (kind_same _ _ e)))
  optional_by i close false other e =
      then_gives _ (expression_gives known d roles.Whole i) (λ x a p.
      then_gives _ (expect_gives a close other) (λ _ o n. gives (g.with_one e p n)))

  optional_gives : (i : Input) (close : Kind) → same_kind k.End close ≡ false →
      Gives (OptionalAt known d close i) (optional known d close i)
  unfolding optional
  optional_gives i close other = optional_by i close (sees close i) other refl

  first_by : (i : Input) (b c : Bool) → begins_declaration i ≡ b → sees k.Semicolon i ≡ c →
      Gives (FirstAt known d i)
      (if b then ((λ s. s ∷ []) <$> declaration known d (place i)) i
      else (if c then Ok ([], next i)
      else (expression known d roles.Whole >>= (λ e. expect k.Semicolon >> pure (made.Expression (place i) e ∷ []))) i))
  unfolding same_kind
  first_by i true c e h = then_gives _ (declaration_gives i) (λ s o p. gives (g.declares e p))
  first_by i false true e h = gives (g.nothing e (took i k.Semicolon refl (kind_same _ _ h)))
  first_by i false false e h =
      then_gives _ (expression_gives known d roles.Whole i) (λ x a p.
      then_gives _ (expect_gives a k.Semicolon refl) (λ _ o n. gives (g.expresses e h p n)))

  first_gives : (i : Input) → Gives (FirstAt known d i) (first known d i)
  unfolding first
  first_gives i = first_by i (begins_declaration i) (sees k.Semicolon i) refl refl

  last_gives : (i : Input) → Gives (LastAt known d i) (last known d i)
  unfolding last same_kind
  last_gives i =
      then_gives _ (eat_gives i k.Ellipsis refl) (λ b j e.
      elim e as (λ b j _. Gives (LastAt known d i) ((if b then (Some <$> expression known d roles.Argument) else pure None) j)) [
        | eaten n ↦ then_gives _ (expression_gives known d roles.Argument _) (λ x o p. gives (g.one_last n p))
        | left h ↦ gives (g.no_last h)
      ])

  arguments_gives : (i : Input) → Gives (CalledAt known d i) (arguments known d i)
  unfolding arguments same_kind
  arguments_gives i =
      then_gives _ (expect_gives i k.OpenParen refl) (λ _ a n.
      then_gives _ (many_gives (ArgumentsAt known d) (next_argument known (expression known d))
      (next_argument_gives known d (expression_gives known d)) a) (λ es b p.
      then_gives _ (expect_gives b k.CloseParen refl) (λ _ o m. gives (g.called n p m))))

-- ---- statements, by those that are nested in them

-- a token of another kind is no name
no_label : (i : Input) (kd : Kind) → kind i ≡ kd → same_kind kd k.Name ≡ false → begins_name_label i ≡ false
no_label i kd e h = ap (λ b. b && sees k.Colon (next i)) (ap (λ x. same_kind x k.Name) e ∙ h)

no_leave : (i : Input) (kd : Kind) → kind i ≡ kd → same_kind kd k.Name ≡ false → begins_leave i ≡ false
no_leave i kd e h = rw (ap (λ x. same_kind x k.Name) e ∙ h) refl

declares : (i : Input) (kd : Kind) → kind i ≡ kd → begins_declaration_by kd (next i) ≡ true → begins_declaration i ≡ true
unfolding begins_declaration
declares i kd e h = ap (λ x. begins_declaration_by x (next i)) e ∙ h

module _ (known : List Class) (d : ℕ) (inner : (n : Nest) (i : Input) → Gives (NestAt known d n i) (nested known d n i)) where
  else_if_by : (i : Input) (b c : Bool) → sees k.Else i ≡ b → sees k.If (next i) ≡ c →
      Gives (Turn (ElseIfsAt known d) i) (if b && c
      then (take_token >> (take_token >> (tested known d >>= (λ e. nested known d nests.Body >>=
      (λ ss. pure (Some (branches.If e ss))))))) i
      else Ok (None, i))
  unfolding same_kind
  else_if_by i true true e h =
      then_gives _ (tested_gives known d (next (next i))) (λ x c p.
      then_gives _ (inner nests.Body c) (λ ss j q.
      gives (on (λ bs o r. g.one_else_if (took i k.Else refl (kind_same _ _ e)) (took (next i) k.If refl (kind_same _ _ h)) p q r))))
  else_if_by i true false e h = gives (over (g.no_else_if (ap (λ b. b && sees k.If (next i)) e ∙ h)))
  else_if_by i false c e h = gives (over (g.no_else_if (ap (λ b. b && sees k.If (next i)) e)))

  else_if_gives : (i : Input) → Gives (Turn (ElseIfsAt known d) i) (else_if known d (nested known d) i)
  unfolding else_if
  else_if_gives i = else_if_by i (sees k.Else i) (sees k.If (next i)) refl refl

  otherwise_gives : (i : Input) → Gives (OtherwiseAt known d i) (otherwise known d (nested known d) i)
  unfolding otherwise same_kind
  otherwise_gives i =
      then_gives _ (eat_gives i k.Else refl) (λ b j e.
      elim e as (λ b j _. Gives (OtherwiseAt known d i) ((if b then nested known d nests.Body else pure []) j)) [
        | eaten n ↦ gives_by (λ ss o p. g.one_otherwise n p) (inner nests.Body _)
        | left h ↦ gives (g.no_otherwise h)
      ])

  else_branch_by : (i : Input) (b : Bool) → sees k.GroupElse i ≡ b →
      Gives (Turn (ElseBranchesAt known d) i) (if b
      then (word k.GroupElse >>= (λ w. nested known d nests.Branch >>= (λ ss. pure (Some (branches.Directive w ss))))) i
      else Ok (None, i))
  unfolding same_kind
  else_branch_by i true e =
      then_gives _ (word_gives i k.GroupElse refl) (λ w a n.
      then_gives _ (inner nests.Branch a) (λ ss j p. gives (on (λ bs o q. g.one_branch n p q))))
  else_branch_by i false e = gives (over (g.no_branch e))

  else_branch_gives : (i : Input) → Gives (Turn (ElseBranchesAt known d) i) (else_branch known d (nested known d) i)
  unfolding else_branch
  else_branch_gives i = else_branch_by i (sees k.GroupElse i) refl

  handler_by_gives : (i a b : Input) (ss : List Statement) (kd : Kind) → Next k.Try i a → NestAt known d nests.Body a ss b → kind b ≡ kd →
      Gives (StatementAt known d i) (handler_by known d (nested known d) (place i) ss kd b)
  unfolding same_kind
  handler_by_gives i a b ss k.Finally n p e =
      then_gives _ (inner nests.Body (next b)) (λ hs o q. gives (g.finally n p (took b k.Finally refl e) q))
  handler_by_gives i a b ss k.Except n p e =
      then_gives _ (tested_gives known d (next b)) (λ x f r.
      then_gives _ (inner nests.Body f) (λ hs o q. gives (g.except n p (took b k.Except refl e) r q)))
  handler_by_gives i a b ss kd n p e = fails

  -- an expression and a semicolon
  expressed_gives : (i : Input) → ((e : Expression) (a o : Input) → RoleAt known d roles.Whole i e a → Next k.Semicolon a o →
      StatementAt known d i (made.Expression (place i) e) o) → Gives (StatementAt known d i) (expressed known d (place i) i)
  unfolding expressed same_kind
  expressed_gives i h =
      then_gives _ (expression_gives known d roles.Whole i) (λ x a p.
      then_gives _ (expect_gives a k.Semicolon refl) (λ _ o n. gives (h x a o p n)))

  named_by : (i : Input) (a b c f m : Bool) → kind i ≡ k.Name → begins_name_label i ≡ a → begins_leave i ≡ b → begins_declaration i ≡ c →
      is_macro_loop i ≡ f → is_macro i ≡ m →
      Gives (StatementAt known d i)
      (if not a && not b && not c && f
      then (word k.Name >>= (λ w. arguments known d >>= (λ es. made.Loop (place i) w es <$> nested known d nests.Body))) i
      else (if a then (word k.Name >>= (λ w. expect k.Colon >> pure (made.Label (place i) w))) i
      else (if b then (take_token >> (expect k.Semicolon >> pure (made.Leave (place i)))) i
      else (if c then declaration known d (place i) i
      else (if m then (word k.Name >>= (λ w. arguments known d >>= (λ es. pure (made.Macro (place i) w es)))) i
      else expressed known d (place i) i)))))
  unfolding same_kind
  named_by i true b c f m e h1 h2 h3 h4 h5 =
      then_gives _ (word_gives i k.Name refl) (λ w j p.
      then_gives _ (expect_gives j k.Colon refl) (λ _ o n. gives (g.label h1 p n)))
  named_by i false true c f m e h1 h2 h3 h4 h5 =
      then_gives _ (expect_gives (next i) k.Semicolon refl) (λ _ o n. gives (g.leave_name h1 h2 (took_word i k.Name refl e) n))
  named_by i false false true f m e h1 h2 h3 h4 h5 = gives_by (λ s o p. g.declares_here h1 h2 h3 p) (declaration_gives known d i)
  named_by i false false false true m e h1 h2 h3 h4 h5 =
      then_gives _ (word_gives i k.Name refl) (λ w j p.
      then_gives _ (arguments_gives known d j) (λ es l q.
      then_gives _ (inner nests.Body l) (λ ss o r. gives (g.macro_loop h1 h2 h3 h4 p q r))))
  named_by i false false false false true e h1 h2 h3 h4 h5 =
      then_gives _ (word_gives i k.Name refl) (λ w j p.
      then_gives _ (arguments_gives known d j) (λ es l q. gives (g.macro h1 h2 h3 h4 h5 p q)))
  named_by i false false false false false e h1 h2 h3 h4 h5 =
      expressed_gives i (λ x a o p n. g.expresses_name e h1 h2 h3 h4 h5 p n)

  statement_by_gives : (i : Input) (kd : Kind) → kind i ≡ kd →
      Gives (StatementAt known d i) (statement_by known d (nested known d) (place i) kd i)
  unfolding plain_statement_by named plain_named choice counting repetition case guarded directed same_kind
  statement_by_gives i k.Name e =
      named_by i (begins_name_label i) (begins_leave i) (begins_declaration i) (is_macro_loop i) (is_macro i) e refl refl refl refl refl
  statement_by_gives i k.Semicolon e = gives (g.empty (took i k.Semicolon refl e))
  statement_by_gives i k.OpenBrace e = then_gives _ (inner nests.Body i) (λ ss o p. gives (g.block_statement e p))
  statement_by_gives i k.If e =
      then_gives _ (tested_gives known d (next i)) (λ x b p.
      then_gives _ (inner nests.Body b) (λ ss c q.
      then_gives _ (many_gives (ElseIfsAt known d) (else_if known d (nested known d)) else_if_gives c) (λ bs f r.
      then_gives _ (otherwise_gives f) (λ os o s. gives (g.choice (took i k.If refl e) p q r s)))))
  statement_by_gives i k.While e =
      then_gives _ (tested_gives known d (next i)) (λ x b p.
      then_gives _ (inner nests.Body b) (λ ss o q. gives (g.while_loop (took i k.While refl e) p q)))
  statement_by_gives i k.Do e =
      then_gives _ (inner nests.Body (next i)) (λ ss b p.
      then_gives _ (expect_gives b k.While refl) (λ _ c n.
      then_gives _ (tested_gives known d c) (λ x f q.
      then_gives _ (expect_gives f k.Semicolon refl) (λ _ o m. gives (g.do_loop (took i k.Do refl e) p n q m)))))
  statement_by_gives i k.For e =
      then_gives _ (expect_gives (next i) k.OpenParen refl) (λ _ b n.
      then_gives _ (first_gives known d b) (λ fs c p.
      then_gives _ (optional_gives known d c k.Semicolon refl) (λ x f q.
      then_gives _ (optional_gives known d f k.CloseParen refl) (λ y h r.
      then_gives _ (inner nests.Body h) (λ ss o s. gives (g.for_loop (took i k.For refl e) n p q r s))))))
  statement_by_gives i k.Switch e =
      then_gives _ (tested_gives known d (next i)) (λ x b p.
      then_gives _ (inner nests.Body b) (λ ss o q. gives (g.switch (took i k.Switch refl e) p q)))
  statement_by_gives i k.Case e =
      then_gives _ (expression_gives known d roles.Argument (next i)) (λ x b p.
      then_gives _ (last_gives known d b) (λ l c q.
      then_gives _ (expect_gives c k.Colon refl) (λ _ o n. gives (g.case (took i k.Case refl e) p q n))))
  statement_by_gives i k.Default e =
      then_gives _ (expect_gives (next i) k.Colon refl) (λ _ o n. gives (g.default (took i k.Default refl e) n))
  statement_by_gives i k.Goto e =
      then_gives _ (word_gives (next i) k.Name refl) (λ w b p.
      then_gives _ (expect_gives b k.Semicolon refl) (λ _ o n. gives (g.goto (took i k.Goto refl e) p n)))
  statement_by_gives i k.Return e =
      then_gives _ (optional_gives known d (next i) k.Semicolon refl) (λ x o p. gives (g.return (took i k.Return refl e) p))
  statement_by_gives i k.Break e =
      then_gives _ (expect_gives (next i) k.Semicolon refl) (λ _ o n. gives (g.break (took i k.Break refl e) n))
  statement_by_gives i k.Continue e =
      then_gives _ (expect_gives (next i) k.Semicolon refl) (λ _ o n. gives (g.continue (took i k.Continue refl e) n))
  statement_by_gives i k.Leave e =
      then_gives _ (expect_gives (next i) k.Semicolon refl) (λ _ o n. gives (g.leave (took i k.Leave refl e) n))
  statement_by_gives i k.Try e =
      then_gives _ (inner nests.Body (next i)) (λ ss b p. handler_by_gives i (next i) b ss (kind b) (took i k.Try refl e) p refl)
  statement_by_gives i k.Typedef e = then_gives _ (semicolon_gives i) (λ _ o n. gives (g.typedef e n))
  statement_by_gives i k.Attribute e =
      then_gives _ (word_gives i k.Attribute refl) (λ w a p.
      then_gives _ (group_gives a) (λ _ o n. gives (g.attribute_here p n)))
  statement_by_gives i k.GroupIf e =
      then_gives _ (word_gives i k.GroupIf refl) (λ w a n.
      then_gives _ (inner nests.Branch a) (λ ss b p.
      then_gives _ (many_gives (ElseBranchesAt known d) (else_branch known d (nested known d)) else_branch_gives b) (λ bs c q.
      then_gives _ (expect_gives c k.GroupEnd refl) (λ _ o m. gives (g.directed n p q m)))))
  statement_by_gives i k.TypeWord e =
      gives_by (λ s o p. g.declares_here (no_label i k.TypeWord e refl) (no_leave i k.TypeWord e refl) (declares i k.TypeWord e refl) p)
      (declaration_gives known d i)
  statement_by_gives i k.Qualifier e =
      gives_by (λ s o p. g.declares_here (no_label i k.Qualifier e refl) (no_leave i k.Qualifier e refl) (declares i k.Qualifier e refl) p)
      (declaration_gives known d i)
  statement_by_gives i k.Struct e =
      gives_by (λ s o p. g.declares_here (no_label i k.Struct e refl) (no_leave i k.Struct e refl) (declares i k.Struct e refl) p)
      (declaration_gives known d i)
  statement_by_gives i kd e = expressed_gives i (λ x a o p n. g.expresses_here (ap begins_expression e) p n)

  statement_gives : (i : Input) → Gives (StatementAt known d i) (statement known d (nested known d) i)
  unfolding statement
  statement_gives i = statement_by_gives i (kind i) refl

  next_statement_by : (i : Input) (b : Bool) → ends_list (kind i) ≡ b →
      Gives (Turn (StatementsAt known d) i) (if b then Ok (None, i) else (Some <$> statement known d (nested known d)) i)
  next_statement_by i true e = gives (over (g.no_statement e))
  next_statement_by i false e = then_gives _ (statement_gives i) (λ s j p. gives (on (λ ss o q. g.one_statement e p q)))

  next_statement_gives : (i : Input) → Gives (Turn (StatementsAt known d) i) (next_statement known d (nested known d) i)
  unfolding next_statement
  next_statement_gives i = next_statement_by i (ends_list (kind i)) refl

  statements_gives : (i : Input) → Gives (StatementsAt known d i) (many (next_statement known d (nested known d)) i)
  statements_gives i = many_gives (StatementsAt known d) (next_statement known d (nested known d)) next_statement_gives i

  body_by : (i : Input) (b c : Bool) → sees k.OpenBrace i ≡ b → begins_label_by (kind i) i ≡ c →
      Gives (NestAt known (suc d) nests.Body i)
      (if b then (expect k.OpenBrace >> (many (next_statement known d (nested known d)) >>= (λ ss. expect k.CloseBrace >> pure ss))) i
      else (if c then Err (refusal i) else ((λ s. s ∷ []) <$> statement known d (nested known d)) i))
  unfolding same_kind
  body_by i true c e h =
      then_gives _ (expect_gives i k.OpenBrace refl) (λ _ a n.
      then_gives _ (statements_gives a) (λ ss b p.
      then_gives _ (expect_gives b k.CloseBrace refl) (λ _ o m. gives (g.block n p m))))
  body_by i false true e h = fails
  body_by i false false e h = then_gives _ (statement_gives i) (λ s o p. gives (g.single e h p))

  nested_as_gives : (n : Nest) (i : Input) → Gives (NestAt known (suc d) n i) (nested_as known d (nested known d) n i)
  unfolding body
  nested_as_gives nests.Body i = body_by i (sees k.OpenBrace i) (begins_label_by (kind i) i) refl refl
  nested_as_gives nests.Branch i = gives_by (λ ss o p. g.branch p) (statements_gives i)

-- statements that are read are spelled
pub nested_gives : (known : List Class) (d : ℕ) (n : Nest) (i : Input) → Gives (NestAt known d n i) (nested known d n i)
unfolding nested
nested_gives known zero n i = fails
nested_gives known (suc d) n i = nested_as_gives known d (nested_gives known d) n i

-- ---- a whole body

end_by : (o : Input) (b : Bool) → sees k.End o ≡ b →
    Gives (λ (_ : Unit {0}) l. kind o ≡ k.End) (if b then Ok (tt {0}, o) else Err (refusal o))
end_by o true e = gives (kind_same _ _ e)
end_by o false e = fails

end_gives : (o : Input) → Gives (λ (_ : Unit {0}) l. kind o ≡ k.End) (end o)
unfolding end
end_gives o = end_by o (sees k.End o) refl

whole_by : (known : List Class) (i : Input) (b : Bool) → sees k.OpenBrace i ≡ b →
    Gives (λ ss _. BodyAt known max_depth i ss) (if b
    then (nested known max_depth nests.Body >>= (λ ss. end >> pure ss)) i else refuse i)
whole_by known i true e =
    then_gives _ (nested_gives known max_depth nests.Body i) (λ ss o p.
    then_gives _ (end_gives o) (λ _ l h. gives (g.body e p h)))
whole_by known i false e = fails

-- a body that is read is spelled
pub body_gives : (known : List Class) (i : Input) → Gives (λ ss _. BodyAt known max_depth i ss) (function_body known i)
unfolding function_body
body_gives known i = whole_by known i (sees k.OpenBrace i) refl
