-- The lines of statements say them, but for where they stand.
use Rattle.std.proofs.Common.{◌≡◌, ℕ, ◌+◌, ◌<◌, ◌≤◌, ◌^◌, Bool, List, [], ◌∷◌, ◌++◌, map, refl, sym, ap, ◌∙◌, arith}
use Rattle.std.proofs.lemmas.Grind.{flat_map-append}
use Rattle.std.specs.Prelude.{flat_map}
use Rattle.flt_print.specs.ActionWords.{action_words}
use Rattle.flt_print.specs.CallWords.{plain_words, optional_status_words}
use Rattle.flt_syntax.specs.Cursor.{span}
use Rattle.flt_syntax.specs.Grammar as g
use Rattle.flt_syntax.specs.Grammar.{StatementAt, ElseAt, BlockAt, StatementsAt}
use Rattle.flt_tree.specs.Names.{Text}
use Rattle.flt_syntax.specs.Lex.{keyword, same_kind}
use Rattle.flt_rules.specs.Limits.{max_turns}
use Rattle.flt_print.specs.Line.{Line}
use Rattle.flt_print.specs.Printing.{Lines, lines_step, in_turn, inside, closing, otherwise, statement_lines}
use Rattle.flt_print.specs.Vocabulary.{spelling}
use Rattle.flt_tree.specs.WellFormed.{IsStatement, IsElse, IsBlock, AreStatements}
use Rattle.flt_tree.specs.WellFormed as fine
use Rattle.flt_syntax.specs.Words.{Next}
use Rattle.flt_tree.specs.declared.filter.Lock.{Lock}
use Rattle.flt_tree.specs.declared.filter.Statement.{Statement, roll-Statement}
use Rattle.flt_tree.specs.declared.filter.Statement.TheOpen.{Statement-F}
use Rattle.flt_tree.specs.declared.filter.Statement.TheFolds.{map-Statement, fold-roll-Statement}
use Rattle.flt_tree.specs.declared.filter.Statement.TheVariants.{Act, Call, Return, If, Repeat, rolls-Act, rolls-Call}
use Rattle.flt_tree.specs.declared.filter.Statement.TheVariants.{rolls-Return, rolls-If, rolls-Repeat}
use Rattle.flt_syntax.specs.declared.token.Kind.TheVariants as k
use Rattle.flt_print.proofs.Alike.{Alike, AlikeAll}
use Rattle.flt_print.proofs.Alike as alike
use Rattle.flt_print.proofs.Pieces.{open_piece, close_piece}
use Rattle.flt_print.proofs.Said.{Span, Says, Both, says_both, says_by, says_none, says_same, says_line, says_next, says_kind, says_number}
use Rattle.flt_print.proofs.SaidCalls.{scope, says_optional_status, says_plain, says_action, says_condition}

-- the words of lines
abbrev pub words_of : List Line → List Text
words_of = flat_map (λ l. l.words)

-- lines behind others
pub says_lines : {text : Text} {P Q : Span} (a b : List Line) → Says text (words_of a) P → Says text (words_of b) Q →
    Says text (words_of (a ++ b)) (Both P Q)
says_lines a b p q = says_same (words_of a ++ words_of b) (words_of (a ++ b)) (flat_map-append (λ l. l.words) a b) (says_both p q)

turns_fit : (n : ℕ) → n ≤ max_turns → n < 2 ^ 64
turns_fit n h = omega arith

module _ (text : Text) (locks : List Lock) (queue : Bool) where
  -- a statement that is made of a layer
  layer : {P : Span} (s : Statement) (y : Statement-F Statement) (level : ℕ) → roll-Statement y ≡ s →
      Says text (words_of (lines_step locks (map-Statement Statement Lines (statement_lines locks) y) level)) P →
      Says text (words_of (statement_lines locks s level)) P
  layer s y level e p =
      says_same (words_of (lines_step locks (map-Statement Statement Lines (statement_lines locks) y) level))
      (words_of (statement_lines locks s level))
      (ap (λ (f : Lines). words_of (f level)) (ap (statement_lines locks) (sym e) ∙ fold-roll-Statement Lines (lines_step locks) y)) p

  says_if : Says text (spelling k.If ∷ []) (Next k.If)
  unfolding spelling keyword same_kind
  says_if = says_kind k.If refl

  says_else : Says text (spelling k.Else ∷ []) (Next k.Else)
  unfolding spelling keyword same_kind
  says_else = says_kind k.Else refl

  says_repeat : Says text (spelling k.Repeat ∷ []) (Next k.Repeat)
  unfolding spelling keyword same_kind
  says_repeat = says_kind k.Repeat refl

  says_return : Says text (spelling k.Return ∷ []) (Next k.Return)
  unfolding spelling keyword same_kind
  says_return = says_kind k.Return refl

  opens : Says text (spelling k.OpenBrace ∷ []) (Next k.OpenBrace)
  opens = says_next k.OpenBrace open_piece

  pub closes : Says text (spelling k.CloseBrace ∷ []) (Next k.CloseBrace)
  closes = says_next k.CloseBrace close_piece

  -- a statement like s
  abbrev pub LikeStatement : ℕ → ℕ → Statement → Span
  LikeStatement d r s i o = (t : Statement) × StatementAt (scope text locks queue) d r i t o × Alike s t

  -- statements like these
  abbrev pub LikeStatements : ℕ → ℕ → List Statement → Span
  LikeStatements d r ss i o = (ts : List Statement) × StatementsAt (scope text locks queue) d r i ts o × AlikeAll ss ts

  -- behind a closing brace, a second block like these statements
  abbrev pub LikeElse : ℕ → ℕ → List Statement → Span
  LikeElse d r ss i o = (ts : List Statement) × ElseAt (scope text locks queue) d r i ts o × AlikeAll ss ts

  mutual
    says_statement : {d r : ℕ} (s : Statement) (level : ℕ) → IsStatement locks queue d r s →
        Says text (words_of (statement_lines locks s level)) (LikeStatement d r s)
    says_statement _ level (fine.act {at = at} {a = a} h) =
        layer (Act at a) (Statement-F.Act at a) level (rolls-Act at a)
        (says_line (action_words a) (says_by (says_action text locks queue a h) (λ i o p. (Act (span i o) a, g.act p, alike.act))))
    says_statement _ level (fine.call {at = at} {c = c} h) =
        layer (Call at c) (Statement-F.Call at c) level (rolls-Call at c)
        (says_line (plain_words locks c) (says_by (says_plain text locks queue c h) (λ i o p. (Call (span i o) c, g.call p, alike.call))))
    says_statement _ level (fine.return {at = at} {s = s}) =
        layer (Return at s) (Statement-F.Return at s) level (rolls-Return at s)
        (says_line (spelling k.Return ∷ optional_status_words s)
        (says_by (says_both says_return (says_optional_status text locks queue s))
        (λ i o p. (Return (span i o) s, g.return p.1 p.2, alike.return))))
    says_statement _ level (fine.choice {at = at} {c = c} {granted = granted} {refused = refused} h (fine.block p) q) =
        layer (If at c granted refused) (Statement-F.If at c granted refused) level (rolls-If at c granted refused)
        (says_by
        (says_both (says_both says_if (says_both (says_condition text locks queue c h) opens))
        (says_lines (inside (map (statement_lines locks) granted) level) (otherwise (map (statement_lines locks) refused) level)
        (says_body granted (level + 1) p) (says_otherwise refused level q)))
        (λ i o p. (
          If (record (span p.1.0 p.1.2.0) { line = g.line i }) p.1.2.1.0 p.2.1.0 p.2.2.2.0,
          g.choice p.1.1 p.1.2.1.1 (g.block p.1.2.2 p.2.1.1 p.2.2.1) p.2.2.2.1,
          alike.choice p.1.2.1.2 p.2.1.2 p.2.2.2.2,
        )))
    says_statement _ level (fine.repeat {at = at} {n = n} {body = body} h (fine.block p)) =
        layer (Repeat at n body) (Statement-F.Repeat at n body) level (rolls-Repeat at n body)
        (says_by
        (says_both (says_both says_repeat (says_both (says_number n (turns_fit n h)) opens))
        (says_lines (inside (map (statement_lines locks) body) level) (closing level) (says_body body (level + 1) p) closes))
        (λ i o p. (
          Repeat (span i p.1.2.0) n p.2.1.0,
          g.repeat p.1.1 p.1.2.1 h (g.block p.1.2.2 p.2.1.1 p.2.2),
          alike.repeat p.2.1.2,
        )))

    says_otherwise : {d r : ℕ} (ss : List Statement) (level : ℕ) → IsElse locks queue d r ss →
        Says text (words_of (otherwise (map (statement_lines locks) ss) level)) (Both (Next k.CloseBrace) (LikeElse d r ss))
    says_otherwise [] level fine.no_else = says_by closes (λ i o p. (o, p, ([], g.no_else, alike.empty)))
    says_otherwise (s ∷ ss) level (fine.some_else (fine.block p)) =
        says_by
        (says_both (says_both closes (says_both says_else opens))
        (says_lines (inside (map (statement_lines locks) (s ∷ ss)) level) (closing level) (says_body (s ∷ ss) (level + 1) p) closes))
        (λ i o p. (p.1.0, p.1.1, (p.2.1.0, g.some_else p.1.2.1 (g.block p.1.2.2 p.2.1.1 p.2.2), p.2.1.2)))

    -- the lines of statements say some that are like them
    pub says_body : {d r : ℕ} (ss : List Statement) (level : ℕ) → AreStatements locks queue d r ss →
        Says text (words_of (in_turn (map (statement_lines locks) ss) level)) (LikeStatements d r ss)
    says_body [] level fine.empty = says_none (λ i. ([], g.empty, alike.empty))
    says_body (s ∷ ss) level (fine.go_on h t) =
        says_by
        (says_lines (statement_lines locks s level) (in_turn (map (statement_lines locks) ss) level) (says_statement s level h)
        (says_body ss level t))
        (λ i o p. (p.1.0 ∷ p.2.0, g.go_on p.1.1 p.2.1, alike.go_on p.1.2 p.2.2))
