-- Statements and blocks are read back.
use Rattle.std.proofs.Common.{◌≡◌, ◌<◌, ◌≤◌, ◌+◌, ℕ, zero, suc, Bool, true, false, List, [], ◌∷◌, ◌++◌, length}
use Rattle.std.proofs.Common.{map, refl, sym, ap, subst, arith, ◌∙◌, append_assoc, append-nil, add-one}
use Rattle.std.proofs.lemmas.List.Sums.{sum-map, sum_by-cons}
use Rattle.std.proofs.lemmas.List.{length-append}
use Rattle.std.specs.Prelude.{Option, Some, None, codes, decimal}
use Rattle.flt_rules.specs.declared.place.Place.{Place}
use Rattle.flt_tree.specs.Filter.{no_span}
use Rattle.flt_rules.specs.Limits.{max_turns}
use Rattle.flt_tree.specs.Measures.{points_of, points, points_step}
use Rattle.flt_tree.specs.Names.{Text}
use Rattle.flt_tree.specs.WellFormed as w
use Rattle.flt_tree.specs.WellFormed.{IsAction, IsPlain, IsCondition, IsStatement, IsElse, IsBlock, AreStatements}
use Rattle.flt_tree.specs.declared.filter.Action.{Action}
use Rattle.flt_tree.specs.declared.filter.Condition.{Condition}
use Rattle.flt_tree.specs.declared.filter.Lock.{Lock}
use Rattle.flt_tree.specs.declared.filter.PlainCall.{PlainCall}
use Rattle.flt_tree.specs.declared.filter.Span.{Span}
use Rattle.flt_tree.specs.declared.filter.Statement.{Statement, roll-Statement}
use Rattle.flt_tree.specs.declared.filter.Statement.TheFolds.{fold-Statement, map-Statement, fold-roll-Statement, para-roll-Statement}
use Rattle.flt_tree.specs.declared.filter.Statement.TheOpen.{Statement-F}
use Rattle.flt_tree.specs.declared.filter.Statement.TheVariants.{Act, Call, Return, If, Repeat, rolls-Act, rolls-Call}
use Rattle.flt_tree.specs.declared.filter.Statement.TheVariants.{rolls-Return, rolls-If, rolls-Repeat}
use Rattle.flt_tree.specs.declared.filter.Status.{Status}
use Rattle.flt_emit.specs.Expressions.{condition_text}
use Rattle.flt_emit.specs.Line.{joined, label, indentation}
use Rattle.flt_emit.specs.Scope.{Scope}
use Rattle.flt_emit.specs.Statements.{Lines, statement_step, statement_text, with_lines, statements_of, body_text, in_turn, choice_text}
use Rattle.flt_emit.specs.Statements.{if_text, bare_text, repeat_text, closing, else_text, action_text, before_call, plain_text}
use Rattle.flt_emit.specs.Statements.{return_text}
use Rattle.flt_print.specs.Reprinting.{condition_without}
use Rattle.flt_emit_read.specs.AsRead.{returned, step_as_read, statement_as_read}
use Rattle.flt_emit_read.specs.Blocks.{Open, First, Second, Repeated}
use Rattle.flt_emit_read.specs.Blocks.{Reading, reading, ended, takes, past_end, step, lines_at}
use Rattle.flt_emit_read.specs.Lines.{Line, Whole, Asks, Turns, Otherwise, Closes}
use Rattle.flt_emit_read.specs.Lines.{line_at, if_line, bare_line, repeat_line, line_start, named_line, number_name_at, context_at}
use Rattle.flt_emit_read.specs.Lines.{removed_at, ask_forms, plain_line, plain_forms, lock_line, lock_forms, settle_line, settle_forms}
use Rattle.flt_emit_read.proofs.Asked.{condition_reads}
use Rattle.flt_emit_read.proofs.Plain.{call_reads}
use Rattle.flt_emit_read.proofs.Fronts.{then_reads, first_reads, other_reads, after_again, number_reads, joined_pieces}
use Rattle.flt_emit_read.proofs.Returns.{return_reads}
use Rattle.flt_emit_read.proofs.Simple.{starts, action_reads}
use Rattle.flt_emit_read.proofs.Names.{ends_reads}

-- ---- lines of blocks

module _ (scope : Scope) (queue : Bool) (lv point line : ℕ) (r : Text) (level : ℕ) where
  if_reads : (turned : Bool) (c : Condition) → IsCondition queue c →
      line_at scope.place scope.locks lv point (if_text scope level point line turned c ++ r) ≡ Some (Asks turned (condition_without c), r)
  unfolding if_line line_start named_line number_name_at context_at removed_at ask_forms plain_line plain_forms lock_line lock_forms
      settle_line settle_forms
  if_reads turned c ok =
      ap (line_at scope.place scope.locks lv point)
      (joined_pieces (indentation level ∷ codes "if (" ∷ condition_text scope point turned c ∷ codes ") {" ∷ label point line ∷ []) r)
      ∙ starts scope.place scope.locks lv point level _
      ∙ then_reads _ (condition_reads scope queue point turned c (codes ") {" ++ (label point line ++ r)) ok)
      ∙ ends_reads (codes ") {") point line _ r

  bare_reads : (c : Condition) → IsCondition queue c →
      line_at scope.place scope.locks lv point (bare_text scope level point line c ++ r) ≡
      Some (Whole (If no_span (condition_without c) [] []), r)
  unfolding bare_line line_start named_line number_name_at context_at removed_at ask_forms plain_line plain_forms lock_line lock_forms
      settle_line settle_forms
  bare_reads c ok =
      ap (line_at scope.place scope.locks lv point)
      (joined_pieces (indentation level ∷ codes "(VOID) (" ∷ condition_text scope point false c ∷ codes ");" ∷ label point line ∷ []) r)
      ∙ starts scope.place scope.locks lv point level _
      ∙ then_reads _ (condition_reads scope queue point false c (codes ");" ++ (label point line ++ r)) ok)
      ∙ ends_reads (codes ");") point line _ r

  closing_reads : line_at scope.place scope.locks lv point (closing level ++ r) ≡ Some (Closes, r)
  unfolding line_start named_line number_name_at context_at removed_at ask_forms plain_line plain_forms lock_line lock_forms settle_line
      settle_forms
  closing_reads =
      ap (line_at scope.place scope.locks lv point) (joined_pieces (indentation level ∷ codes "}\n" ∷ []) r)
      ∙ starts scope.place scope.locks lv point level _

  else_reads : line_at scope.place scope.locks lv point (else_text level ++ r) ≡ Some (Otherwise, r)
  unfolding line_start named_line number_name_at context_at removed_at ask_forms plain_line plain_forms lock_line lock_forms settle_line
      settle_forms
  else_reads =
      ap (line_at scope.place scope.locks lv point) (joined_pieces (indentation level ∷ codes "} else {\n" ∷ []) r)
      ∙ starts scope.place scope.locks lv point level _

repeat_reads : (at : Place) (locks : List Lock) (level point line n : ℕ) (r : Text) → n ≤ max_turns →
    line_at at locks level point (repeat_text level point line n ++ r) ≡ Some (Turns n, r)
unfolding repeat_line line_start named_line number_name_at context_at removed_at ask_forms plain_line plain_forms lock_line lock_forms
    settle_line settle_forms
repeat_reads at locks level point line n r few =
    ap (line_at at locks level point)
    (joined_pieces (indentation level ∷ codes "for (ULONG turn" ∷ decimal level ∷ codes " = " ∷ decimal n ∷ codes "; turn"
    ∷ decimal level ∷ codes " != 0; turn" ∷ decimal level ∷ codes "--) {" ∷ label point line ∷ []) r)
    ∙ starts at locks level point level _
    ∙ then_reads _ (after_again (decimal level) _)
    ∙ then_reads _ (number_reads n (codes "; turn" ++ (decimal level ++ (codes " != 0; turn" ++ (decimal level
    ++ (codes "--) {" ++ (label point line ++ r)))))) (omega arith) refl)
    ∙ then_reads _ (after_again (decimal level) _)
    ∙ then_reads _ (after_again (decimal level) _)
    ∙ ends_reads (codes "--) {") point line _ r

-- ---- lines one after the other

-- one reading leads to another
pub data Chain (at : Place) (locks : List Lock) : Reading → Text → Reading → Text → Type 0 where
  stays : {s : Reading} {z : Text} → Chain at locks s z s z
  goes : {s t u : Reading} {x y z : Text} → step at locks s x ≡ Some (t, y) → length y < length x → Chain at locks t y u z →
      Chain at locks s x u z

module _ {at : Place} {locks : List Lock} where
  joins : {s t u : Reading} {x y z : Text} → Chain at locks s x t y → Chain at locks t y u z → Chain at locks s x u z
  joins stays d = d
  joins (goes e less c) d = goes e less (joins c d)

  -- a line, then the rest
  by_line : {point : ℕ} {done : List Statement} {outer : List Open} {l : Line} {t u : Reading} {x y z : Text} →
      line_at at locks (suc (length outer)) point x ≡ Some (l, y) → takes (reading point done outer) l ≡ Some t →
      length y < length x → Chain at locks t y u z → Chain at locks (reading point done outer) x u z
  by_line {t = t} {y = y} e f less c = goes (then_reads _ e ∙ then_reads (λ next. Some (next, y)) f) less c

  -- a line alone
  one_line : {point : ℕ} {done : List Statement} {outer : List Open} {l : Line} {t : Reading} {x y : Text} →
      line_at at locks (suc (length outer)) point x ≡ Some (l, y) → takes (reading point done outer) l ≡ Some t →
      length y < length x → Chain at locks (reading point done outer) x t y
  one_line e f less = by_line e f less stays

  -- a chain of lines that ends with its block is read as the statements of the block
  pub runs : {s t : Reading} {x y : Text} (rest : Text) → Chain at locks s x t y → step at locks t y ≡ None →
      past_end t.open_blocks at y ≡ Some rest → (n : ℕ) → length x < n → lines_at at locks n s x ≡ Some (t.done, rest)
  runs rest c e f zero less = absurd (omega (arith, less))
  runs rest stays e f (suc n) less = other_reads _ _ e ∙ then_reads _ f
  runs rest (goes g shorter c) e f (suc n) less = first_reads _ _ g ∙ runs rest c e f n (omega (arith, shorter, less))

-- what follows text that is not empty is shorter
shorter : (x y r : Text) → 0 < length y → length r < length (x ++ (y ++ r))
shorter x y r some = rw (length-append x (y ++ r), length-append y r) (omega (arith, some))

labelled_some : (point line : ℕ) → 0 < length (label point line)
labelled_some point line = omega arith

-- what follows a label is shorter than what it ends
last_shorter : (ps : List Text) (point line : ℕ) (r : Text) → length r < length (joined (ps ++ label point line ∷ []) ++ r)
last_shorter [] point line r =
    subst (λ x. length r < length x) (sym (append_assoc (label point line) [] r))
    (shorter [] (label point line) r (labelled_some point line))
last_shorter (p ∷ ps) point line r =
    let last = joined (ps ++ label point line ∷ []) in
    let more = last_shorter ps point line r in
    subst (λ x. length r < length x) (sym (append_assoc p last r))
    (subst (λ n. length r < n) (sym (length-append p (last ++ r))) (omega (arith, more)))

closing_shorter : (level : ℕ) (r : Text) → length r < length (closing level ++ r)
closing_shorter level r =
    subst (λ x. length r < length x) (sym (joined_pieces (indentation level ∷ codes "}\n" ∷ []) r))
    (shorter (indentation level) (codes "}\n") r (omega arith))

else_shorter : (level : ℕ) (r : Text) → length r < length (else_text level ++ r)
else_shorter level r =
    subst (λ x. length r < length x) (sym (joined_pieces (indentation level ∷ codes "} else {\n" ∷ []) r))
    (shorter (indentation level) (codes "} else {\n") r (omega arith))

-- ---- folds, one layer at a time

-- to fold a statement is to fold what its layer holds, and then to take the layer's step
pub folded : (X : Type 0) (step : Statement-F X → X) (s : Statement) (y : Statement-F Statement) → roll-Statement y ≡ s →
    fold-Statement X step s ≡ step (map-Statement Statement X (fold-Statement X step) y)
folded X step s y e = ap (fold-Statement X step) (sym e) ∙ fold-roll-Statement X step y

-- a statement's lines are those of its layer
abbrev pub layer : Scope → Statement-F Statement → Lines
layer scope y = statement_step scope (map-Statement Statement (Statement × Lines) (λ z. (z, statement_text scope z)) y)

laid : (scope : Scope) (s : Statement) (y : Statement-F Statement) → roll-Statement y ≡ s → statement_text scope s ≡ layer scope y
laid scope s y e = ap (statement_text scope) (sym e) ∙ para-roll-Statement Lines (statement_step scope) y

statements_back : (scope : Scope) (block : List Statement) → statements_of (with_lines scope block) ≡ block
statements_back scope [] = refl
statements_back scope (s ∷ block) = ap (λ (l : List Statement). s ∷ l) (statements_back scope block)

points_cons : (s : Statement) (rest : List Statement) → points (s ∷ rest) ≡ points_of s + points rest
points_cons s rest = sum-map points_of (s ∷ rest)
    ∙ (sum_by-cons points_of s rest ∙ ap (λ n. points_of s + n) (sym (sum-map points_of rest)))

-- ---- the laws of statements and of blocks

module _ (scope : Scope) (queue : Bool) where
  abbrev pub Path : Reading → Text → Reading → Text → Type 0
  Path = Chain scope.place scope.locks

  -- a block as it is read
  abbrev pub inside : List Statement → List Statement
  inside = map (statement_as_read scope.place)

  abbrev pub OfStatement : Statement → Type 0
  OfStatement s = (point : ℕ) (done : List Statement) (outer : List Open) (r : Text) →
      Path (reading point done outer) (statement_text scope s (suc (length outer)) point ++ r)
      (reading (point + points_of s) (done ++ statement_as_read scope.place s ∷ []) outer) r

  abbrev pub OfBlock : List Statement → Type 0
  OfBlock ss = (point : ℕ) (done : List Statement) (outer : List Open) (r : Text) →
      Path (reading point done outer) (body_text scope ss (suc (length outer)) point ++ r)
      (reading (point + points ss) (done ++ inside ss) outer) r

  from_text : {s t : Reading} {x y z : Text} → x ≡ y → Path s y t z → Path s x t z
  from_text {s} {t} {x} {y} {z} e c = subst (λ v. Path s v t z) (sym e) c

  to_reading : {s : Reading} {x z : Text} {p q : ℕ} {d e : List Statement} {outer : List Open} → p ≡ q → d ≡ e →
      Path s x (reading p d outer) z → Path s x (reading q e outer) z
  to_reading {s} {x} {z} {p} {q} {d} {e} {outer} f g c =
      subst (λ n. Path s x (reading n e outer) z) f (subst (λ b. Path s x (reading p b outer) z) g c)

  empty_block : OfBlock []
  empty_block point done outer r = to_reading (omega arith) (sym (append-nil done)) stays

  more_block : (s : Statement) (ss : List Statement) → OfStatement s → OfBlock ss → OfBlock (s ∷ ss)
  more_block s ss one more point done outer r =
      from_text
      (append_assoc (statement_text scope s (suc (length outer)) point) (body_text scope ss (suc (length outer)) (point + points_of s)) r)
      (to_reading (omega (arith, points_cons s ss)) (append_assoc done (statement_as_read scope.place s ∷ []) (inside ss))
      (joins (one point done outer (body_text scope ss (suc (length outer)) (point + points_of s) ++ r))
      (more (point + points_of s) (done ++ statement_as_read scope.place s ∷ []) outer r)))

  -- a statement of one line
  one_point : (s : Statement) (y : Statement-F Statement) (read : Statement) → roll-Statement y ≡ s →
      points_of s ≡ 1 → statement_as_read scope.place s ≡ read →
      ((point level : ℕ) (r : Text) → length r < length (layer scope y level point ++ r)) →
      ((lv point level : ℕ) (r : Text) → line_at scope.place scope.locks lv point (layer scope y level point ++ r) ≡ Some (Whole read, r)) →
      OfStatement s
  one_point s y read e one as_read less reads point done outer r =
      from_text (ap (λ (f : Lines). f (suc (length outer)) point ++ r) (laid scope s y e))
      (to_reading (ap (λ n. point + n) (sym one)) (ap (λ x. done ++ x ∷ []) (sym as_read))
      (one_line (reads (suc (length outer)) point (suc (length outer)) r) refl (less point (suc (length outer)) r)))

  of_act : (at : Span) (a : Action) → IsAction a → OfStatement (Act at a)
  of_act at a ok =
      one_point (Act at a) (Statement-F.Act at a) (Act no_span a) (rolls-Act at a)
      (folded ℕ points_step (Act at a) (Statement-F.Act at a) (rolls-Act at a))
      (folded Statement (step_as_read scope.place) (Act at a) (Statement-F.Act at a) (rolls-Act at a))
      (λ point level r. last_shorter (indentation level ∷ action_text scope.place a ∷ []) point at.line r)
      (λ lv point level r.
      ap (line_at scope.place scope.locks lv point)
      (joined_pieces (indentation level ∷ action_text scope.place a ∷ label point at.line ∷ []) r)
      ∙ action_reads scope.place scope.locks lv point at.line r level a ok)

  of_call : (at : Span) (c : PlainCall) → IsPlain scope.locks c → OfStatement (Call at c)
  of_call at c ok =
      one_point (Call at c) (Statement-F.Call at c) (Call no_span c) (rolls-Call at c)
      (folded ℕ points_step (Call at c) (Statement-F.Call at c) (rolls-Call at c))
      (folded Statement (step_as_read scope.place) (Call at c) (Statement-F.Call at c) (rolls-Call at c))
      (λ point level r.
      last_shorter (before_call level c ∷ indentation level ∷ plain_text scope.locks c ∷ []) point at.line r)
      (λ lv point level r.
      ap (line_at scope.place scope.locks lv point)
      (joined_pieces (before_call level c ∷ indentation level ∷ plain_text scope.locks c ∷ label point at.line ∷ []) r)
      ∙ call_reads scope.place scope.locks lv point at.line r level c ok)

  of_return : (at : Span) (s : Option Status) → OfStatement (Return at s)
  of_return at s =
      one_point (Return at s) (Statement-F.Return at s) (Return no_span (returned scope.place s)) (rolls-Return at s)
      (folded ℕ points_step (Return at s) (Statement-F.Return at s) (rolls-Return at s))
      (folded Statement (step_as_read scope.place) (Return at s) (Statement-F.Return at s) (rolls-Return at s))
      (λ point level r. last_shorter (return_text scope.place level s ∷ []) point at.line r)
      (λ lv point level r.
      ap (line_at scope.place scope.locks lv point)
      (joined_pieces (return_text scope.place level s ∷ label point at.line ∷ []) r)
      ∙ return_reads scope.locks lv point at.line r level scope.place s)

  -- ---- blocks within statements

  -- a block one level down, and the brace that ends it
  closed_block : (ss : List Statement) → OfBlock ss → (o : Open) (point q : ℕ) (outer : List Open) (r : Text) → q ≡ point + points ss →
      Path (reading point [] (o ∷ outer))
      (in_turn (with_lines scope ss) (suc (length outer) + 1) point ++ (closing (suc (length outer)) ++ r))
      (reading q (ended o (inside ss)) outer) r
  closed_block ss of o point q outer r e =
      from_text (ap (λ n. body_text scope ss n point ++ (closing (suc (length outer)) ++ r)) (add-one (suc (length outer))))
      (to_reading (sym e) refl
      (joins (of point [] (o ∷ outer) (closing (suc (length outer)) ++ r))
      (one_line
      (closing_reads scope queue (suc (suc (length outer))) (point + points ss) 0 r (suc (length outer)))
      refl (closing_shorter (suc (length outer)) r))))

  grouped : (a b c r : Text) → (a ++ (b ++ c)) ++ r ≡ a ++ (b ++ (c ++ r))
  grouped a b c r = append_assoc a (b ++ c) r ∙ ap (λ z. a ++ z) (append_assoc b c r)

  -- the line of an `if`
  asked_line : {point : ℕ} {done : List Statement} {outer : List Open} {u : Reading} {y z : Text} (turned : Bool) (c : Condition)
      (line : ℕ) → IsCondition queue c →
      Path (reading (point + 1) [] (First turned (condition_without c) done ∷ outer)) y u z →
      Path (reading point done outer) (if_text scope (suc (length outer)) point line turned c ++ y) u z
  asked_line {point = point} {outer = outer} {y = y} turned c line ok more =
      by_line (if_reads scope queue (suc (length outer)) point line y (suc (length outer)) turned c ok) refl
      (last_shorter (indentation (suc (length outer)) ∷ codes "if (" ∷ condition_text scope point turned c ∷ codes ") {" ∷ []) point line y)
      more

  -- an `if`, by its text
  choice : (line : ℕ) (c : Condition) (granted refused : List Statement) → IsCondition queue c → OfBlock granted → OfBlock refused →
      (point q : ℕ) (done : List Statement) (outer : List Open) (r : Text) → q ≡ point + (1 + (points granted + points refused)) →
      Path (reading point done outer)
      (choice_text scope line c (with_lines scope granted) (with_lines scope refused) (suc (length outer)) point ++ r)
      (reading q (done ++ If no_span (condition_without c) (inside granted) (inside refused) ∷ []) outer) r
  choice line c [] [] ok g e point q done outer r h =
      to_reading (omega (arith, h)) refl
      (one_line (bare_reads scope queue (suc (length outer)) point line r (suc (length outer)) c ok) refl
      (last_shorter (indentation (suc (length outer)) ∷ codes "(VOID) (" ∷ condition_text scope point false c ∷ codes ");" ∷ [])
      point line r))
  choice line c [] (x ∷ xs) ok g e point q done outer r h =
      from_text
      (grouped (if_text scope (suc (length outer)) point line true c)
      (in_turn (with_lines scope (x ∷ xs)) (suc (length outer) + 1) (point + 1)) (closing (suc (length outer))) r)
      (asked_line true c line ok
      (closed_block (x ∷ xs) e (First true (condition_without c) done) (point + 1) q outer r (omega (arith, h))))
  choice line c (y ∷ ys) [] ok g e point q done outer r h =
      from_text
      (grouped (if_text scope (suc (length outer)) point line false c)
      (in_turn (with_lines scope (y ∷ ys)) (suc (length outer) + 1) (point + 1)) (closing (suc (length outer))) r)
      (asked_line false c line ok
      (closed_block (y ∷ ys) g (First false (condition_without c) done) (point + 1) q outer r (omega (arith, h))))
  choice line c (y ∷ ys) (x ∷ xs) ok g e point q done outer r h =
      let level = suc (length outer) in
      let middle = point + 1 + points (y ∷ ys) in
      let last = in_turn (with_lines scope (x ∷ xs)) (level + 1) middle in
      from_text
      (grouped (if_text scope level point line false c) (in_turn (with_lines scope (y ∷ ys)) (level + 1) (point + 1))
      (else_text level ++ (in_turn (with_lines scope (x ∷ xs)) (level + 1)
      (point + 1 + points (statements_of (with_lines scope (y ∷ ys)))) ++ closing level)) r
      ∙ ap (λ (b : List Statement). if_text scope level point line false c ++ (in_turn (with_lines scope (y ∷ ys)) (level + 1) (point + 1)
      ++ ((else_text level ++ (in_turn (with_lines scope (x ∷ xs)) (level + 1) (point + 1 + points b) ++ closing level)) ++ r)))
      (statements_back scope (y ∷ ys))
      ∙ ap (λ z. if_text scope level point line false c ++ (in_turn (with_lines scope (y ∷ ys)) (level + 1) (point + 1) ++ z))
      (grouped (else_text level) last (closing level) r)
      ∙ ap (λ n. if_text scope level point line false c ++ (body_text scope (y ∷ ys) n (point + 1)
      ++ (else_text level ++ (last ++ (closing level ++ r))))) (add-one level))
      (asked_line false c line ok
      (joins (g (point + 1) [] (First false (condition_without c) done ∷ outer) (else_text level ++ (last ++ (closing level ++ r))))
      (by_line (else_reads scope queue (suc level) (point + 1 + points (y ∷ ys)) 0 (last ++ (closing level ++ r)) level) refl
      (else_shorter level (last ++ (closing level ++ r)))
      (closed_block (x ∷ xs) e (Second (condition_without c) (inside (y ∷ ys)) done) middle q outer r (omega (arith, h))))))

  of_choice : (at : Span) (c : Condition) (granted refused : List Statement) → IsCondition queue c → OfBlock granted → OfBlock refused →
      OfStatement (If at c granted refused)
  of_choice at c granted refused ok g e point done outer r =
      let whole_if = If at c granted refused in
      let parts = Statement-F.If at c granted refused in
      from_text (ap (λ (f : Lines). f (suc (length outer)) point ++ r) (laid scope whole_if parts (rolls-If at c granted refused)))
      (to_reading refl
      (ap (λ x. done ++ x ∷ []) (sym (folded Statement (step_as_read scope.place) whole_if parts (rolls-If at c granted refused))))
      (choice at.line c granted refused ok g e point (point + points_of whole_if) done outer r
      (ap (λ n. point + n) (folded ℕ points_step whole_if parts (rolls-If at c granted refused)))))

  of_repeat : (at : Span) (n : ℕ) (body : List Statement) → n ≤ max_turns → OfBlock body → OfStatement (Repeat at n body)
  of_repeat at n body few of point done outer r =
      let whole_repeat = Repeat at n body in
      let parts = Statement-F.Repeat at n body in
      let level = suc (length outer) in
      let inner = in_turn (with_lines scope body) (level + 1) (point + 1) ++ (closing level ++ r) in
      from_text
      (ap (λ (f : Lines). f (suc (length outer)) point ++ r) (laid scope whole_repeat parts (rolls-Repeat at n body))
      ∙ grouped (repeat_text level point at.line n) (in_turn (with_lines scope body) (level + 1) (point + 1)) (closing level) r)
      (to_reading refl
      (ap (λ x. done ++ x ∷ []) (sym (folded Statement (step_as_read scope.place) whole_repeat parts (rolls-Repeat at n body))))
      (by_line (repeat_reads scope.place scope.locks level point at.line n inner few) refl
      (last_shorter (indentation level ∷ codes "for (ULONG turn" ∷ decimal level ∷ codes " = " ∷ decimal n ∷ codes "; turn"
      ∷ decimal level ∷ codes " != 0; turn" ∷ decimal level ∷ codes "--) {" ∷ []) point at.line inner)
      (closed_block body of (Repeated n done) (point + 1) (point + points_of whole_repeat) outer r
      (omega (arith, folded ℕ points_step whole_repeat parts (rolls-Repeat at n body))))))

  mutual
    of_statement : {d r : ℕ} {s : Statement} → IsStatement scope.locks queue d r s → OfStatement s
    of_statement (w.act {at = at} {a = a} ok) = of_act at a ok
    of_statement (w.call {at = at} {c = c} ok) = of_call at c ok
    of_statement (w.return {at = at} {s = s}) = of_return at s
    of_statement (w.choice {at = at} {c = c} {granted = g} {refused = e} ok gs es) = of_choice at c g e ok (of_block gs) (of_else es)
    of_statement (w.repeat {at = at} {n = n} {body = b} few bs) = of_repeat at n b few (of_block bs)

    of_else : {d r : ℕ} {ss : List Statement} → IsElse scope.locks queue d r ss → OfBlock ss
    of_else w.no_else = empty_block
    of_else (w.some_else b) = of_block b

    of_block : {d r : ℕ} {ss : List Statement} → IsBlock scope.locks queue d r ss → OfBlock ss
    of_block (w.block ss) = of_statements ss

    -- well-formed statements are those of a block that is read back
    pub of_statements : {d r : ℕ} {ss : List Statement} → AreStatements scope.locks queue d r ss → OfBlock ss
    of_statements w.empty = empty_block
    of_statements (w.go_on {s = s} {ss = ss} one more) = more_block s ss (of_statement one) (of_statements more)
