-- What is read is spelled so: expressions.
use Rattle.std.proofs.Common.{◌≡◌, ℕ, zero, suc, Bool, true, false, List, Ok, refl, ap}
use Rattle.std.specs.Prelude.{Option, Some, None, if◌then◌else◌, ◌==◌}
use Rattle.flt_c_tokens.specs.declared.token.Kind.{Kind}
use Rattle.flt_c_tokens.specs.declared.token.Kind.TheVariants as k
use Rattle.flt_c_syntax.specs.Cursor.{and_then, ◌>>=◌, ◌>>◌, ◌<$>◌, pure, fail, expect, separator, many}
use Rattle.flt_c_syntax.specs.Expression.{type_name, sign_by, prefix_by, prefix, designator_by, designator, initialiser, next_initialiser}
use Rattle.flt_c_syntax.specs.Expression.{braces, next_argument, suffix_by, suffix, bracketed, named_cast, measured, primary_by, primary}
use Rattle.flt_c_syntax.specs.Expression.{unary, middle, link_by, link, level, argument, value, expression_as, expression, texts}
use Rattle.flt_c_syntax.specs.ExpressionGrammar as g
use Rattle.flt_c_syntax.specs.ExpressionGrammar.{PrefixAt, PrefixesAt, RoleAt, LevelAt, LinksAt, LinkAt, MiddleAt, PrimaryAt, SuffixesAt}
use Rattle.flt_c_syntax.specs.ExpressionGrammar.{ArgumentsAt, BracesAt, InitialisersAt, InitialiserAt, DesignatorsAt}
use Rattle.flt_c_syntax.specs.Operators.{level_of, assignment_level, whole_level, operator_of, prefix_of, begins_suffix, begins_designator}
use Rattle.flt_c_syntax.specs.Tokens.{Input, kind, place, next, same_kind, sees}
use Rattle.flt_c_syntax.specs.Types.{begins_text, begins_prefix, is_literal, is_type_argument}
use Rattle.flt_c_syntax.specs.Words.{Next, Meant}
use Rattle.flt_c_syntax.specs.declared.class.Class.{Class}
use Rattle.flt_c_syntax.specs.declared.class.Role.{Role}
use Rattle.flt_c_syntax.specs.declared.class.Role.TheVariants as roles
use Rattle.flt_c_syntax.specs.declared.fault.Reason.TheVariants as reasons
use Rattle.flt_c_syntax.specs.declared.tree.Expression.TheVariants as made
use Rattle.flt_c_syntax.specs.declared.tree.Initialiser.TheVariants.{Plain, Designated}
use Rattle.flt_c_syntax.specs.declared.tree.Operator.{Operator}
use Rattle.flt_c_syntax.specs.declared.tree.Prefix.{Prefix}
use Rattle.flt_c_syntax.proofs.Gives.{Gives, gives, fails, then_gives, gives_by, expect_gives, word_gives, separator_gives, type_gives}
use Rattle.flt_c_syntax.proofs.Gives.{Turn, over, on, many_gives}
use Rattle.flt_c_syntax.proofs.TokenKinds.{took, took_meant}

-- ---- prefixes

sign_gives : (i : Input) (m : Option Prefix) → prefix_of (kind i) ≡ m → Gives (Meant prefix_of i) (sign_by m i)
sign_gives i None e = fails
sign_gives i (Some p) e = gives (took_meant prefix_of i p refl e)

prefix_here_gives : (known : List Class) (i : Input) (kd : Kind) → begins_prefix known i ≡ true → kind i ≡ kd →
    Gives (PrefixAt known i) (prefix_by kd i)
unfolding same_kind
prefix_here_gives known i k.OpenParen b e =
    then_gives _ (type_gives (next i)) (λ t j p.
    then_gives _ (expect_gives j k.CloseParen refl) (λ _ o n. gives (g.cast b (took i k.OpenParen refl e) p n)))
prefix_here_gives known i k.Sizeof b e = gives (g.size_of b (took i k.Sizeof refl e))
prefix_here_gives known i kd b e = gives_by (λ p o m. g.sign m) (sign_gives i (prefix_of kd) (ap prefix_of e))

prefix_turn : (known : List Class) (i : Input) (b : Bool) → begins_prefix known i ≡ b →
    Gives (Turn (PrefixesAt known) i) (if b then and_then (prefix_by (kind i) i) (λ q. Ok (Some q.0, q.1)) else Ok (None, i))
prefix_turn known i true e = then_gives _ (prefix_here_gives known i (kind i) e refl) (λ p j m. gives (on (λ ps o q. g.one_prefix m q)))
prefix_turn known i false e = gives (over (g.no_prefix e))

prefix_gives : (known : List Class) (i : Input) → Gives (Turn (PrefixesAt known) i) (prefix known i)
unfolding prefix
prefix_gives known i = prefix_turn known i (begins_prefix known i) refl

-- ---- expressions, by those inside brackets

module _ (known : List Class) (d : ℕ) (inner : (r : Role) (i : Input) → Gives (RoleAt known d r i) (expression known d r i)) where
  designator_by_gives : (i : Input) (kd : Kind) → kind i ≡ kd →
      Gives (Turn (DesignatorsAt known d) i) (designator_by known (expression known d) kd i)
  unfolding same_kind
  designator_by_gives i k.Dot e =
      then_gives _ (word_gives (next i) k.Name refl) (λ w j p.
      gives (on (λ xs o q. g.one_designator (g.member_of (took i k.Dot refl e) p) q)))
  designator_by_gives i k.OpenBracket e =
      then_gives _ (inner roles.Whole (next i)) (λ x j p.
      then_gives _ (expect_gives j k.CloseBracket refl) (λ _ l n.
      gives (on (λ xs o q. g.one_designator (g.index_of (took i k.OpenBracket refl e) p n) q))))
  designator_by_gives i kd e = gives (over (g.no_designator (ap begins_designator e)))

  designator_gives : (i : Input) → Gives (Turn (DesignatorsAt known d) i) (designator known (expression known d) i)
  unfolding designator
  designator_gives i = designator_by_gives i (kind i) refl

  initialiser_by : (i : Input) (b : Bool) → begins_designator (kind i) ≡ b →
      Gives (InitialiserAt known d i) (if b
      then (many (designator known (expression known d)) >>= (λ ds. expect k.Assign >> (expression known d roles.Value >>=
      (λ e. pure (Designated ds e))))) i
      else (Plain <$> expression known d roles.Value) i)
  unfolding same_kind
  initialiser_by i true e =
      then_gives _ (many_gives (DesignatorsAt known d) (designator known (expression known d)) designator_gives i) (λ ds j p.
      then_gives _ (expect_gives j k.Assign refl) (λ _ l n.
      then_gives _ (inner roles.Value l) (λ x o q. gives (g.designated e p n q))))
  initialiser_by i false e = then_gives _ (inner roles.Value i) (λ x o q. gives (g.plain e q))

  initialiser_gives : (i : Input) → Gives (InitialiserAt known d i) (initialiser known (expression known d) i)
  unfolding initialiser
  initialiser_gives i = initialiser_by i (begins_designator (kind i)) refl

  next_initialiser_by : (i : Input) (b : Bool) → sees k.CloseBrace i ≡ b →
      Gives (Turn (InitialisersAt known d) i) (if b then Ok (None, i)
      else (initialiser known (expression known d) >>= (λ x. separator k.CloseBrace >> pure (Some x))) i)
  next_initialiser_by i true e = gives (over (g.no_initialiser e))
  next_initialiser_by i false e =
      then_gives _ (initialiser_gives i) (λ x j p.
      then_gives _ (separator_gives j k.CloseBrace) (λ _ l s. gives (on (λ xs o q. g.one_initialiser e p s q))))

  next_initialiser_gives : (i : Input) → Gives (Turn (InitialisersAt known d) i) (next_initialiser known (expression known d) i)
  unfolding next_initialiser
  next_initialiser_gives i = next_initialiser_by i (sees k.CloseBrace i) refl

  braces_gives : (i : Input) → Gives (BracesAt known d i) (braces known (expression known d) i)
  unfolding braces same_kind
  braces_gives i =
      then_gives _ (expect_gives i k.OpenBrace refl) (λ _ a n.
      then_gives _ (many_gives (InitialisersAt known d) (next_initialiser known (expression known d)) next_initialiser_gives a) (λ xs b p.
      then_gives _ (expect_gives b k.CloseBrace refl) (λ _ o m. gives (g.braces n p m))))

  next_argument_by : (i : Input) (b : Bool) → sees k.CloseParen i ≡ b →
      Gives (Turn (ArgumentsAt known d) i) (if b then Ok (None, i)
      else (expression known d roles.Argument >>= (λ x. separator k.CloseParen >> pure (Some x))) i)
  next_argument_by i true e = gives (over (g.no_argument e))
  next_argument_by i false e =
      then_gives _ (inner roles.Argument i) (λ x j p.
      then_gives _ (separator_gives j k.CloseParen) (λ _ l s. gives (on (λ xs o q. g.one_argument e p s q))))

  pub next_argument_gives : (i : Input) → Gives (Turn (ArgumentsAt known d) i) (next_argument known (expression known d) i)
  unfolding next_argument
  next_argument_gives i = next_argument_by i (sees k.CloseParen i) refl

  suffix_by_gives : (i : Input) (kd : Kind) → kind i ≡ kd → Gives (Turn (SuffixesAt known d) i) (suffix_by known (expression known d) kd i)
  unfolding same_kind
  suffix_by_gives i k.OpenParen e =
      then_gives _ (many_gives (ArgumentsAt known d) (next_argument known (expression known d)) next_argument_gives (next i)) (λ es j p.
      then_gives _ (expect_gives j k.CloseParen refl) (λ _ l n.
      gives (on (λ ss o q. g.one_suffix (g.call (took i k.OpenParen refl e) p n) q))))
  suffix_by_gives i k.OpenBracket e =
      then_gives _ (inner roles.Whole (next i)) (λ x j p.
      then_gives _ (expect_gives j k.CloseBracket refl) (λ _ l n.
      gives (on (λ ss o q. g.one_suffix (g.index (took i k.OpenBracket refl e) p n) q))))
  suffix_by_gives i k.Dot e =
      then_gives _ (word_gives (next i) k.Name refl) (λ w j p. gives (on (λ ss o q. g.one_suffix (g.member (took i k.Dot refl e) p) q)))
  suffix_by_gives i k.Arrow e =
      then_gives _ (word_gives (next i) k.Name refl) (λ w j p. gives (on (λ ss o q. g.one_suffix (g.arrow (took i k.Arrow refl e) p) q)))
  suffix_by_gives i k.DoubleColon e =
      then_gives _ (word_gives (next i) k.Name refl) (λ w j p.
      gives (on (λ ss o q. g.one_suffix (g.scope (took i k.DoubleColon refl e) p) q)))
  suffix_by_gives i k.Increment e = gives (on (λ ss o q. g.one_suffix (g.increment (took i k.Increment refl e)) q))
  suffix_by_gives i k.Decrement e = gives (on (λ ss o q. g.one_suffix (g.decrement (took i k.Decrement refl e)) q))
  suffix_by_gives i kd e = gives (over (g.no_suffix (ap begins_suffix e)))

  suffix_gives : (i : Input) → Gives (Turn (SuffixesAt known d) i) (suffix known (expression known d) i)
  unfolding suffix
  suffix_gives i = suffix_by_gives i (kind i) refl

  bracketed_by : (i a : Input) (b c : Bool) → Next k.OpenParen i a → is_literal a ≡ b → sees k.OpenBrace a ≡ c →
      Gives (PrimaryAt known d i)
      (if b then (type_name >>= (λ t. expect k.CloseParen >> (made.Compound (place i) t <$> braces known (expression known d)))) a
      else (if c then fail reasons.StatementExpression a
      else (expression known d roles.Whole >>= (λ e. expect k.CloseParen >> pure e)) a))
  unfolding same_kind
  bracketed_by i a true c n l s =
      then_gives _ (type_gives a) (λ t b p.
      then_gives _ (expect_gives b k.CloseParen refl) (λ _ f m.
      then_gives _ (braces_gives f) (λ xs o q. gives (g.compound n l p m q))))
  bracketed_by i a false true n l s = fails
  bracketed_by i a false false n l s =
      then_gives _ (inner roles.Whole a) (λ e b p.
      then_gives _ (expect_gives b k.CloseParen refl) (λ _ o m. gives (g.brackets n l s p m)))

  primary_by_gives : (i : Input) (kd : Kind) → begins_text i ≡ false → kind i ≡ kd →
      Gives (PrimaryAt known d i) (primary_by known (expression known d) (place i) kd i)
  unfolding bracketed named_cast measured same_kind
  primary_by_gives i k.Name b e = then_gives _ (word_gives i k.Name refl) (λ w o p. gives (g.name b p))
  primary_by_gives i k.Number b e = then_gives _ (word_gives i k.Number refl) (λ w o p. gives (g.number p))
  primary_by_gives i k.Character b e = then_gives _ (word_gives i k.Character refl) (λ w o p. gives (g.character p))
  primary_by_gives i k.OpenParen b e =
      bracketed_by i (next i) (is_literal (next i)) (sees k.OpenBrace (next i)) (took i k.OpenParen refl e) refl refl
  primary_by_gives i k.Cast b e =
      then_gives _ (expect_gives (next i) k.Less refl) (λ _ l m.
      then_gives _ (type_gives l) (λ t c p.
      then_gives _ (expect_gives c k.Greater refl) (λ _ f n.
      then_gives _ (expect_gives f k.OpenParen refl) (λ _ h s.
      then_gives _ (inner roles.Whole h) (λ x j q.
      then_gives _ (expect_gives j k.CloseParen refl) (λ _ o u. gives (g.named_cast (took i k.Cast refl e) m p n s q u)))))))
  primary_by_gives i k.Sizeof b e =
      then_gives _ (expect_gives (next i) k.OpenParen refl) (λ _ l m.
      then_gives _ (type_gives l) (λ t c p.
      then_gives _ (expect_gives c k.CloseParen refl) (λ _ o n. gives (g.measured (took i k.Sizeof refl e) m p n))))
  primary_by_gives i k.OpenBracket b e = fails
  primary_by_gives i kd b e = fails

  primary_as : (i : Input) (b : Bool) → begins_text i ≡ b →
      Gives (PrimaryAt known d i) (if b then (made.Text (place i) <$> texts) i
      else primary_by known (expression known d) (place i) (kind i) i)
  unfolding texts
  primary_as i true e = gives (g.text e)
  primary_as i false e = primary_by_gives i (kind i) e refl

  primary_gives : (i : Input) → Gives (PrimaryAt known d i) (primary known (expression known d) i)
  unfolding primary
  primary_gives i = primary_as i (begins_text i) refl

  unary_gives : (i : Input) → Gives (LevelAt known d zero i) (unary known (expression known d) i)
  unfolding unary
  unary_gives i =
      then_gives _ (many_gives (PrefixesAt known) (prefix known) (prefix_gives known) i) (λ ps j p.
      then_gives _ (primary_gives j) (λ e l q.
      then_gives _ (many_gives (SuffixesAt known d) (suffix known (expression known d)) suffix_gives l) (λ ss o s.
      gives (g.operand p q s))))

  middle_by : (i : Input) (b : Bool) → sees k.Colon i ≡ b →
      Gives (MiddleAt known d i) (if b then Ok (None, i) else (Some <$> expression known d roles.Whole) i)
  middle_by i true e = gives (g.no_middle e)
  middle_by i false e = then_gives _ (inner roles.Whole i) (λ x o p. gives (g.one_middle e p))

  middle_gives : (i : Input) → Gives (MiddleAt known d i) (middle known (expression known d) i)
  unfolding middle
  middle_gives i = middle_by i (sees k.Colon i) refl

  module _ (n : ℕ) (below : (i : Input) → Gives (LevelAt known d n i) (level known (expression known d) n i)) where
    link_by_gives : (i : Input) (m : Option Operator) → (level_of (kind i) == suc n) ≡ true → operator_of (kind i) ≡ m →
        Gives (LinkAt known d n i) (link_by known (expression known d) (level known (expression known d) n) m i)
    unfolding same_kind
    link_by_gives i (Some op) l e =
        then_gives _ (below (next i)) (λ x o p. gives (g.operated l (took_meant operator_of i op refl e) p))
    link_by_gives i None l e =
        then_gives _ (expect_gives i k.Question refl) (λ _ a q.
        then_gives _ (middle_gives a) (λ m b p.
        then_gives _ (expect_gives b k.Colon refl) (λ _ c s.
        then_gives _ (below c) (λ x o r. gives (g.choice l q p s r)))))

    link_turn : (i : Input) (b : Bool) → (level_of (kind i) == suc n) ≡ b →
        Gives (Turn (LinksAt known d n) i) (if b
        then (Some <$> link_by known (expression known d) (level known (expression known d) n) (operator_of (kind i))) i
        else Ok (None, i))
    link_turn i true e = then_gives _ (link_by_gives i (operator_of (kind i)) e refl) (λ l j p. gives (on (λ ls o q. g.one_link p q)))
    link_turn i false e = gives (over (g.no_link e))

    link_gives : (i : Input) →
        Gives (Turn (LinksAt known d n) i) (link known (expression known d) (suc n) (level known (expression known d) n) i)
    unfolding link
    link_gives i = link_turn i (level_of (kind i) == suc n) refl

  level_gives : (n : ℕ) (i : Input) → Gives (LevelAt known d n i) (level known (expression known d) n i)
  unfolding level
  level_gives zero i = unary_gives i
  level_gives (suc n) i =
      then_gives _ (level_gives n i) (λ e j p.
      then_gives _ (many_gives (LinksAt known d n) (link known (expression known d) (suc n) (level known (expression known d) n))
      (link_gives n (level_gives n)) j) (λ ls o q.
      gives (g.operands p q)))

  argument_by : (i : Input) (b : Bool) → is_type_argument i ≡ b →
      Gives (RoleAt known (suc d) roles.Argument i) (if b then (made.Type (place i) <$> type_name) i
      else level known (expression known d) assignment_level i)
  argument_by i true e = then_gives _ (type_gives i) (λ t o p. gives (g.type_argument e p))
  argument_by i false e = gives_by (λ x o p. g.argument e p) (level_gives assignment_level i)

  value_by : (i : Input) (b : Bool) → sees k.OpenBrace i ≡ b →
      Gives (RoleAt known (suc d) roles.Value i) (if b then (made.Braces (place i) <$> braces known (expression known d)) i
      else level known (expression known d) assignment_level i)
  value_by i true e = then_gives _ (braces_gives i) (λ xs o p. gives (g.value_braces p))
  value_by i false e = gives_by (λ x o p. g.value e p) (level_gives assignment_level i)

  role_gives : (r : Role) (i : Input) → Gives (RoleAt known (suc d) r i) (expression_as known (expression known d) r i)
  unfolding argument value
  role_gives roles.Whole i = gives_by (λ x o p. g.whole p) (level_gives whole_level i)
  role_gives roles.Argument i = argument_by i (is_type_argument i) refl
  role_gives roles.Value i = value_by i (sees k.OpenBrace i) refl

-- an expression that is read is spelled
pub expression_gives : (known : List Class) (d : ℕ) (r : Role) (i : Input) → Gives (RoleAt known d r i) (expression known d r i)
unfolding expression
expression_gives known zero r i = fails
expression_gives known (suc d) r i = role_gives known d (expression_gives known d) r i
