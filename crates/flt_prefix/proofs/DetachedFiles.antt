-- What is spelled spells the same before any other tokens: heads, callbacks and what stands before them.
use Rattle.std.proofs.Common.{◌≡◌, ◌∙◌, ◌-◌, List, [], ◌∷◌, ◌++◌, refl, sym, ap, subst}
use Rattle.std.specs.Prelude.{Option}
use Rattle.flt_syntax.specs.declared.token.Kind.TheVariants as k
use Rattle.flt_syntax.specs.declared.token.Token.{Token}
use Rattle.flt_rules.specs.Limits.{max_depth, max_repeats}
use Rattle.flt_tree.specs.Names.{Text}
use Rattle.flt_tree.specs.declared.filter.Span.{Span}
use Rattle.flt_tree.specs.declared.filter.Callback.{Callback}
use Rattle.flt_tree.specs.declared.filter.Head.{Head}
use Rattle.flt_tree.specs.declared.filter.Lock.{Lock}
use Rattle.flt_tree.specs.declared.filter.Position.{Position}
use Rattle.flt_tree.specs.declared.filter.Statement.{Statement}
use Rattle.flt_syntax.specs.Grammar as grammar
use Rattle.flt_syntax.specs.Grammar.{StatementsAt, HeadAt, CallbackAt, LocksAt, QueueAt}
use Rattle.flt_syntax.specs.Words as words
use Rattle.flt_syntax.specs.Words.{Next}
use Rattle.flt_syntax.specs.Scope.{Scope}
use Rattle.flt_syntax.specs.Cursor.{Input, front, position, span}
use Rattle.flt_syntax.specs.Over.{QueueOver}
use Rattle.flt_prefix.proofs.Detached.{passable, Detached, shift, made, left_out, next_free, meant_free, name_free}
use Rattle.flt_prefix.proofs.Detached.{statements_free, other_kind, next_some, same_token, taken_span, same_span}

-- a head
pub head_free : {text : Text} {i o : Input} {h : Head} → HeadAt text i h o → Detached (HeadAt text) i h o
head_free (grammar.pre n p) =
    let dn = next_free refl n in shift dn (made (meant_free (refl, refl, refl) p) (λ j z y. grammar.pre (dn.again j) y))
head_free (grammar.post n p) =
    let dn = next_free refl n in shift dn (made (meant_free (refl, refl, refl) p) (λ j z y. grammar.post (dn.again j) y))
head_free (grammar.canceled n) =
    made (next_free refl n) (λ j z y. grammar.canceled y)
head_free (grammar.deferred_pre n p) =
    let dn = next_free refl n in shift dn (made (name_free p) (λ j z y. grammar.deferred_pre (dn.again j) y))
head_free (grammar.deferred_post n p) =
    let dn = next_free refl n in shift dn (made (name_free p) (λ j z y. grammar.deferred_post (dn.again j) y))
head_free (grammar.generic n p) =
    let dn = next_free refl n in shift dn (made (name_free p) (λ j z y. grammar.generic (dn.again j) y))

head_some : {text : Text} {i o : Input} {h : Head} → HeadAt text i h o → i ≡ [] → ⊥
head_some (grammar.pre n p) e = next_some n e
head_some (grammar.post n p) e = next_some n e
head_some (grammar.canceled n) e = next_some n e
head_some (grammar.deferred_pre n p) e = next_some n e
head_some (grammar.deferred_post n p) e = next_some n e
head_some (grammar.generic n p) e = next_some n e

-- the closing brace
closing : {t : Token} {o : Input} → t.word.kind ≡ k.CloseBrace →
    Detached (λ j (u : Unit {0}) z. Next k.CloseBrace j z × (span j z ≡ span (t ∷ o) o)) (t ∷ o) tt o
closing {t = t} {o = o} e = record {
  taken = t ∷ [];
  parts = refl;
  passed = (ap passable e, tt);
  again = λ z. (words.next e, taken_span (t ∷ []) z ∙ sym (taken_span (t ∷ []) o));
}

-- the parts of a callback
abbrev PartsAt : Scope → Head → List Statement → Span → Span → Input → Unit {0} → Input → Type 0
PartsAt scope h body head end j u z =
    (a b l : Input) × HeadAt scope.text j h a × Next k.OpenBrace a b × StatementsAt scope (max_depth - 1) max_repeats b body l
    × Next k.CloseBrace l z × (span j a ≡ head) × (span l z ≡ end)

parts_at : {scope : Scope} {h : Head} {body : List Statement} {head end : Span} (j z : Input) → PartsAt scope h body head end j tt z →
    CallbackAt scope j (record { head = h; position = position j; span = head; body = body; end = end }) z
parts_at {scope = scope} {h = h} {body = body} {end = end} j z y =
    subst (λ x. CallbackAt scope j (record { head = h; position = position j; span = x; body = body; end = end }) z) y.7
    (subst (λ x. CallbackAt scope j (record { head = h; position = position j; span = span j y.0; body = body; end = x }) z) y.8
    (grammar.callback y.3 y.4 y.5 y.6))

-- a callback
pub callback_free : {scope : Scope} {i o : Input} {c : Callback} → CallbackAt scope i c o → Detached (CallbackAt scope) i c o
callback_free {scope = scope} {i = i} {o = o} (grammar.callback {a = a} {h = h} {body = body} p n q (words.next {t = t} e)) =
    let dp = head_free p in let dn = next_free refl n in let dq = statements_free q in
    let d : Detached (PartsAt scope h body (span i a) (span (t ∷ o) o)) i tt o =
    shift dp (shift dn (shift dq (made (closing e) (λ j z y. (
      dn.taken ++ (dq.taken ++ j),
      dq.taken ++ j,
      j,
      dp.again (dn.taken ++ (dq.taken ++ j)),
      dn.again
          (dq.taken ++ j),
      dq.again j,
      y.0,
      same_span dp (dn.taken ++ (dq.taken ++ j)),
      y.1,
    )))))
    in
    record {
      taken = d.taken;
      parts = d.parts;
      passed = d.passed;
      again =
          λ z. subst (λ x. CallbackAt scope (d.taken ++ z)
          (record { head = h; position = x; span = span i a; body = body; end = span (t ∷ o) o }) z)
          (ap (λ (t : Token). t.position) (same_token d.taken z i o d.parts (λ e. head_some (d.again []).3 (ap
          (λ t. t ++ []) e)))) (parts_at (d.taken ++ z) z (d.again z));
    }

-- locks
pub locks_free : {text : Text} {i o : Input} {ls : List Lock} → LocksAt text i ls o → Detached (LocksAt text) i ls o
locks_free grammar.no_lock = left_out (λ z. grammar.no_lock)
locks_free (grammar.one_lock m p q x) =
    let dm = next_free refl m in let dp = meant_free (refl, refl, refl) p in let dq = name_free q in
    shift dm (shift dp (shift dq (made (locks_free x)
    (λ j z y. grammar.one_lock (dm.again (dp.taken ++ (dq.taken ++ j))) (dp.again (dq.taken ++ j)) (dq.again j) y))))

-- [ "queue" ], which stays over where the next token is the same
pub queue_free : {i o : Input} {q : Option Position} (p : QueueAt i q o) →
    Detached (λ j q z. (y : QueueAt j q z) × (QueueOver p → front z ≡ front o → QueueOver y)) i q o
queue_free (grammar.no_queue {i = i}) = left_out (λ z. (grammar.no_queue, λ over same. other_kind k.Queue i z over same))
queue_free (grammar.some_queue (words.next {t = t} e)) =
    record { taken = t ∷ []; parts = refl; passed = (ap passable e, tt); again = λ z. (grammar.some_queue (words.next e), λ over same. tt) }
