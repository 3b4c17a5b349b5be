-- The lines of a well-formed filter say it, but for where its parts stand.
use Rattle.std.proofs.Common.{◌≡◌, ℕ, ◌<◌, ◌≤◌, ◌^◌, Bool, true, List, [], ◌∷◌, ◌++◌, length, map, refl, subst, arith}
use Rattle.std.proofs.lemmas.Bool.{and_parts}
use Rattle.std.specs.List.{list_all}
use Rattle.std.specs.Prelude.{Option, Some, None, is_some, flat_map}
use Rattle.flt_syntax.specs.Cursor.{kind, position, span}
use Rattle.flt_syntax.specs.Grammar as g
use Rattle.flt_syntax.specs.Grammar.{HeadAt, CallbackAt, CallbacksAt, LocksAt, QueueAt, FileAt}
use Rattle.flt_tree.specs.Names.{Text, is_name}
use Rattle.flt_syntax.specs.Lex.{keyword, same_kind}
use Rattle.flt_rules.specs.Limits.{max_altitude}
use Rattle.flt_print.specs.Printing.{closing, body_lines, head_words, callback_lines, lock_line, queue_lines, filter_lines}
use Rattle.flt_print.specs.Vocabulary.{spelling}
use Rattle.flt_tree.specs.WellFormed as fine
use Rattle.flt_tree.specs.WellFormed.{IsHead, AreCallbacks, IsWellFormed}
use Rattle.flt_tree.specs.declared.filter.Callback.{Callback}
use Rattle.flt_tree.specs.declared.filter.Filter.{Filter}
use Rattle.flt_tree.specs.declared.filter.Head.{Head}
use Rattle.flt_tree.specs.declared.filter.Head.TheVariants.{Pre, Post, Canceled, DeferredPre, DeferredPost, Generic}
use Rattle.flt_tree.specs.declared.filter.Lock.{Lock}
use Rattle.flt_tree.specs.declared.filter.Position.{Position}
use Rattle.flt_syntax.specs.declared.token.Kind.TheVariants as k
use Rattle.flt_print.proofs.Alike.{AlikeCallback, AlikeCallbacks, no_callback, one_callback, AlikeFilter}
use Rattle.flt_print.proofs.Pieces.{open_piece, close_piece}
use Rattle.flt_print.proofs.Said.{Span, Says, says_both, says_by, says_none, says_next, says_kind, says_name, says_number}
use Rattle.flt_print.proofs.SaidCalls.{scope}
use Rattle.flt_print.proofs.SaidStatements.{words_of, says_lines, says_body}
use Rattle.flt_print.proofs.SaidWords.{says_operation, says_lock_kind}

altitude_fits : (n : ℕ) → n ≤ max_altitude → n < 2 ^ 64
altitude_fits n h = omega arith

module _ (text : Text) where
  says_head : (h : Head) → IsHead h → Says text (head_words h) (λ i o. HeadAt text i h o)
  unfolding spelling keyword same_kind
  says_head (Pre op) e = says_by (says_both (says_kind k.Pre refl) (says_operation op)) (λ i o p. g.pre p.1 p.2)
  says_head (Post op) e = says_by (says_both (says_kind k.Post refl) (says_operation op)) (λ i o p. g.post p.1 p.2)
  says_head Canceled e = says_by (says_kind k.Canceled refl) (λ i o p. g.canceled p)
  says_head (DeferredPre name) e = says_by (says_both (says_kind k.DeferredPre refl) (says_name name e)) (λ i o p. g.deferred_pre p.1 p.2)
  says_head (DeferredPost name) e = says_by (says_both (says_kind k.DeferredPost refl) (says_name name e))
      (λ i o p. g.deferred_post p.1 p.2)
  says_head (Generic name) e = says_by (says_both (says_kind k.Generic refl) (says_name name e)) (λ i o p. g.generic p.1 p.2)

  says_locks : (ls : List Lock) → list_all (λ l. is_name l.name) ls ≡ true →
      Says text (words_of (map lock_line ls)) (λ i o. LocksAt text i ls o)
  unfolding spelling keyword same_kind
  says_locks [] e = says_none (λ i. g.no_lock)
  says_locks (l ∷ ls) e =
      let p = and_parts (is_name l.name) (list_all (λ l. is_name l.name) ls) e in
      says_by
      (says_both (says_both (says_kind k.Lock refl) (says_both (says_lock_kind l.kind) (says_name l.name p.0))) (says_locks ls p.1))
      (λ i o p. g.one_lock p.1.1 p.1.2.1 p.1.2.2 p.2)

  -- a queue, if there is one, wherever it stands
  abbrev pub LikeQueue : Option Position → Span
  LikeQueue q i o = (r : Option Position) × QueueAt i r o × (is_some q ≡ is_some r)

  says_queue : (q : Option Position) → Says text (words_of (queue_lines (is_some q))) (LikeQueue q)
  unfolding spelling keyword same_kind
  says_queue None = says_none (λ i. (None, g.no_queue, refl))
  says_queue (Some at) = says_by (says_kind k.Queue refl) (λ i o p. (Some (position i), g.some_queue p, refl))

  module _ (locks : List Lock) (queue : Bool) where
    abbrev pub LikeCallback : Callback → Span
    LikeCallback c i o = (d : Callback) × CallbackAt (scope text locks queue) i d o × AlikeCallback c d

    abbrev pub LikeCallbacks : List Callback → Span
    LikeCallbacks cs i o = (ds : List Callback) × CallbacksAt (scope text locks queue) i ds o × AlikeCallbacks cs ds

    says_callback : (c : Callback) → IsHead c.head → fine.AreStatements locks queue 31 4 c.body →
        Says text (words_of (callback_lines locks c)) (LikeCallback c)
    says_callback c h b =
        says_by
        (says_both (says_both (says_head c.head h) (says_next k.OpenBrace open_piece))
        (says_lines (body_lines locks c.body 1) (closing 0) (says_body text locks queue c.body 1 b) (says_next k.CloseBrace close_piece)))
        (λ i o p. (
          record { head = c.head; position = position i; span = span i p.1.0; body = p.2.1.0; end = span p.2.0 o },
          g.callback p.1.1 p.1.2 p.2.1.1 p.2.2,
          record { head = refl; body = p.2.1.2 },
        ))

    says_callbacks : (c : Callback) (cs : List Callback) → AreCallbacks locks queue (c ∷ cs) →
        Says text (words_of (flat_map (callback_lines locks) (c ∷ cs))) (LikeCallbacks (c ∷ cs))
    says_callbacks c [] h =
        says_by
        (says_lines (callback_lines locks c) [] (says_callback c h.0 h.1) (says_none {P = λ i o. i ≡ o} (λ i. refl)))
        (λ i o p. (
          p.1.0 ∷ [],
          g.last (subst (λ j. CallbackAt (scope text locks queue) i p.1.0 j) p.2 p.1.1),
          one_callback p.1.2 no_callback,
        ))
    says_callbacks c (d ∷ ds) h =
        says_by
        (says_lines (callback_lines locks c) (flat_map (callback_lines locks) (d ∷ ds)) (says_callback c h.0 h.1) (says_callbacks d ds h.2))
        (λ i o p. (p.1.0 ∷ p.2.0, g.more p.1.1 p.2.1, one_callback p.1.2 p.2.2))

    says_all : (cs : List Callback) → 1 ≤ length cs → AreCallbacks locks queue cs →
        Says text (words_of (flat_map (callback_lines locks) cs)) (LikeCallbacks cs)
    says_all [] some h = absurd (omega arith)
    says_all (c ∷ cs) some h = says_callbacks c cs h

  -- a filter like f, up to the end of the text
  abbrev pub LikeFilter : Filter → Span
  LikeFilter f i o = kind o ≡ k.End → (h : Filter) × FileAt text i h × AlikeFilter f h

  -- the lines of a well-formed filter say one that is like it
  pub says_filter : (f : Filter) → IsWellFormed f → Says text (words_of (filter_lines f)) (LikeFilter f)
  unfolding spelling keyword same_kind
  says_filter f w =
      says_by
      (says_both
      (says_both (says_kind k.Filter refl)
      (says_both (says_name f.name w.name)
      (says_both (says_kind k.Altitude refl) (says_number f.altitude (altitude_fits f.altitude w.high)))))
      (says_lines (map lock_line f.locks) (queue_lines (is_some f.queue) ++ flat_map (callback_lines f.locks) f.callbacks)
      (says_locks f.locks w.lock_names)
      (says_lines (queue_lines (is_some f.queue)) (flat_map (callback_lines f.locks) f.callbacks) (says_queue f.queue)
      (says_all f.locks (is_some f.queue) f.callbacks w.some_callbacks w.bodies))))
      (λ i o p e.
      let q = p.2.2.1 in
      let cs = p.2.2.2 in (
        record { name = f.name; altitude = f.altitude; locks = f.locks; queue = q.0; callbacks = cs.0 },
        g.file p.1.1 p.1.2.1 p.1.2.2.1 p.1.2.2.2 p.2.1 q.1 (subst (λ b. CallbacksAt (scope text f.locks b) p.2.2.0 cs.0 o) q.2 cs.1) e,
        record { name = refl; altitude = refl; locks = refl; queue = q.2; callbacks = cs.2 },
      ))
