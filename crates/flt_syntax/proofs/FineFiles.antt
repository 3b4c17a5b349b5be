-- What is spelled is well-formed: statements, callbacks and whole texts.
use Rattle.std.proofs.Common.{◌≡◌, ℕ, ◌-◌, ◌≤◌, true, List, [], ◌∷◌, length, refl, arith}
use Rattle.std.proofs.lemmas.Bool.{and_from}
use Rattle.std.specs.List.{list_all}
use Rattle.std.specs.Prelude.{Option, is_some}
use Rattle.flt_syntax.specs.Cursor.{Input}
use Rattle.flt_syntax.specs.Grammar as g
use Rattle.flt_syntax.specs.Grammar.{StatementAt, ElseAt, BlockAt, StatementsAt, HeadAt, CallbackAt, CallbacksAt, LocksAt, QueueAt, FileAt}
use Rattle.flt_tree.specs.Names.{Text, is_name}
use Rattle.flt_rules.specs.Limits.{max_depth, max_repeats}
use Rattle.flt_syntax.specs.Spelling.{SpelledIsWellFormed}
use Rattle.flt_syntax.specs.Scope.{Scope}
use Rattle.flt_tree.specs.WellFormed as fine
use Rattle.flt_tree.specs.WellFormed.{IsStatement, IsElse, IsBlock, AreStatements, IsHead, AreCallbacks, IsWellFormed}
use Rattle.flt_tree.specs.declared.filter.Callback.{Callback}
use Rattle.flt_tree.specs.declared.filter.Filter.{Filter}
use Rattle.flt_tree.specs.declared.filter.Head.{Head}
use Rattle.flt_tree.specs.declared.filter.Lock.{Lock}
use Rattle.flt_tree.specs.declared.filter.Position.{Position}
use Rattle.flt_tree.specs.declared.filter.Statement.{Statement}
use Rattle.flt_syntax.proofs.FineCalls.{next_on, meant_on, fine_name, fine_number, optional_status_on}
use Rattle.flt_syntax.proofs.FineCalls.{fine_plain, fine_action, fine_condition}
use Rattle.flt_syntax.proofs.TokenBytes.{AreTokens, are_tokens}

-- ---- statements

mutual
  fine_statement : {scope : Scope} {d r : ℕ} {i o : Input} {s : Statement} → StatementAt scope d r i s o → AreTokens scope.text i →
      IsStatement scope.locks scope.queue d r s × AreTokens scope.text o
  fine_statement (g.act p) h = let x = fine_action p h in (fine.act x.0, x.1)
  fine_statement (g.call p) h = let x = fine_plain p h in (fine.call x.0, x.1)
  fine_statement (g.return n p) h = (fine.return, optional_status_on p (next_on n h))
  fine_statement (g.choice n c p q) h =
      let x = fine_condition c (next_on n h) in
      let y = fine_block p x.1 in
      let z = fine_else q y.1 in
      (fine.choice x.0 y.0 z.0, z.1)
  fine_statement (g.repeat n m e p) h = let x = fine_number m (next_on n h) in let y = fine_block p x.1 in (fine.repeat e y.0, y.1)

  fine_else : {scope : Scope} {d r : ℕ} {i o : Input} {ss : List Statement} → ElseAt scope d r i ss o → AreTokens scope.text i →
      IsElse scope.locks scope.queue d r ss × AreTokens scope.text o
  fine_else g.no_else h = (fine.no_else, h)
  fine_else (g.some_else {ss = []} n p) h = (fine.no_else, (fine_block p (next_on n h)).1)
  fine_else (g.some_else {ss = s ∷ ss} n p) h = let x = fine_block p (next_on n h) in (fine.some_else x.0, x.1)

  fine_block : {scope : Scope} {d r : ℕ} {i o : Input} {ss : List Statement} → BlockAt scope d r i ss o → AreTokens scope.text i →
      IsBlock scope.locks scope.queue d r ss × AreTokens scope.text o
  fine_block (g.block n p m) h = let x = fine_statements p (next_on n h) in (fine.block x.0, next_on m x.1)

  fine_statements : {scope : Scope} {d r : ℕ} {i o : Input} {ss : List Statement} → StatementsAt scope d r i ss o → AreTokens scope.text i →
      AreStatements scope.locks scope.queue d r ss × AreTokens scope.text o
  fine_statements g.empty h = (fine.empty, h)
  fine_statements (g.go_on p q) h = let x = fine_statement p h in let y = fine_statements q x.1 in (fine.go_on x.0 y.0, y.1)

-- ---- callbacks

fine_head : {text : Text} {i o : Input} {c : Head} → HeadAt text i c o → AreTokens text i → IsHead c × AreTokens text o
fine_head (g.pre n p) h = (tt, meant_on p (next_on n h))
fine_head (g.post n p) h = (tt, meant_on p (next_on n h))
fine_head (g.canceled n) h = (tt, next_on n h)
fine_head (g.deferred_pre n p) h = fine_name p (next_on n h)
fine_head (g.deferred_post n p) h = fine_name p (next_on n h)
fine_head (g.generic n p) h = fine_name p (next_on n h)

-- a callback and what is behind it
FineCallback : Scope → Callback → Input → Type 0
FineCallback scope c o =
    IsHead c.head × AreStatements scope.locks scope.queue (max_depth - 1) max_repeats c.body × AreTokens scope.text o

fine_callback : {scope : Scope} {i o : Input} {c : Callback} → CallbackAt scope i c o → AreTokens scope.text i → FineCallback scope c o
unfolding FineCallback
fine_callback (g.callback p n q m) h =
    let x = fine_head p h in
    let y = fine_statements q (next_on n x.1) in
    (x.0, y.0, next_on m y.1)

fine_callbacks : {scope : Scope} {i o : Input} {cs : List Callback} → CallbacksAt scope i cs o → AreTokens scope.text i →
    AreCallbacks scope.locks scope.queue cs
unfolding FineCallback
fine_callbacks (g.last p) h = let x = fine_callback p h in (x.0, x.1, tt)
fine_callbacks (g.more p q) h = let x = fine_callback p h in (x.0, x.1, fine_callbacks q x.2)

some_callbacks : {scope : Scope} {i o : Input} {cs : List Callback} → CallbacksAt scope i cs o → 1 ≤ length cs
some_callbacks (g.last p) = omega arith
some_callbacks (g.more p q) = omega arith

-- ---- the file

fine_locks : {text : Text} {i o : Input} {ls : List Lock} → LocksAt text i ls o → AreTokens text i →
    (list_all (λ l. is_name l.name) ls ≡ true) × AreTokens text o
fine_locks g.no_lock h = (refl, h)
fine_locks (g.one_lock {name = name} {ls = ls} n p q x) h =
    let y = fine_name q (meant_on p (next_on n h)) in
    let z = fine_locks x y.1 in
    (and_from (is_name name) (list_all (λ l. is_name l.name) ls) y.0 z.0, z.1)

queue_on : {text : Text} {i o : Input} {q : Option Position} → QueueAt i q o → AreTokens text i → AreTokens text o
queue_on g.no_queue h = h
queue_on (g.some_queue n) h = next_on n h

-- what the grammar says of a well-formed filter
record IsFile (f : Filter) : Type 0 where
  name : is_name f.name ≡ true
  lock_names : list_all (λ l. is_name l.name) f.locks ≡ true
  some : 1 ≤ length f.callbacks
  bodies : AreCallbacks f.locks (is_some f.queue) f.callbacks

fine_file : {text : Text} {i : Input} {f : Filter} → FileAt text i f → AreTokens text i → IsFile f
fine_file (g.file n m x p y q w end) h =
    let a = fine_name m (next_on n h) in
    let b = fine_number p (next_on x a.1) in
    let c = fine_locks y b.1 in
    record { name = a.0; lock_names = c.0; some = some_callbacks w; bodies = fine_callbacks w (queue_on q c.1) }

-- each filter that a text spells is well-formed
pub is_well_formed : SpelledIsWellFormed
is_well_formed text f s =
    let p = fine_file s.grammar (are_tokens text) in
    record {
      name = p.name;
      lock_names = p.lock_names;
      low = s.low;
      high = s.high;
      few_locks = s.few_locks;
      new_locks = s.new_locks;
      some_callbacks = p.some;
      few_callbacks = s.few_callbacks;
      new_callbacks = s.new_callbacks;
      bodies = p.bodies;
      small = s.small;
      served = s.served;
      whole = s.whole;
    }
