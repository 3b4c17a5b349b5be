-- Where the tokens before an E03 begin nothing that the grammar spells.
use Rattle.std.proofs.Common.{◌≡◌, ℕ, true, false, List, [], refl, sym, ap, ◌∙◌, arith}
use Rattle.std.specs.Prelude.{Option, Some, None}
use Rattle.flt_rules.specs.declared.call.LockKind.{LockKind}
use Rattle.flt_rules.specs.declared.call.LockNumber.{LockNumber}
use Rattle.flt_tree.specs.Declarations.{lock_number}
use Rattle.flt_tree.specs.declared.filter.PlainCall.{PlainCall}
use Rattle.flt_tree.specs.declared.filter.Statement.{Statement}
use Rattle.flt_syntax.specs.declared.shape.PlainShape.{PlainShape}
use Rattle.flt_syntax.specs.declared.shape.PlainShape.TheVariants as shapes
use Rattle.flt_syntax.specs.declared.token.Kind.{Kind}
use Rattle.flt_syntax.specs.declared.token.Kind.TheVariants as k
use Rattle.flt_syntax.specs.CallGrammar as calling
use Rattle.flt_syntax.specs.CallGrammar.{LockAt, PlainAt}
use Rattle.flt_syntax.specs.Grammar as grammar
use Rattle.flt_syntax.specs.Grammar.{StatementAt, BlockAt}
use Rattle.flt_syntax.specs.Words.{Next}
use Rattle.flt_syntax.specs.Scope.{Scope}
use Rattle.flt_syntax.specs.Cursor.{Input, kind}
use Rattle.flt_syntax.specs.FirstWords.{has_blocks}
use Rattle.flt_syntax.specs.ActionGrammar as acting
use Rattle.flt_syntax.specs.ActionGrammar.{ActionAt}
use Rattle.flt_syntax.specs.Tables.{plain_shape_of}
use Rattle.flt_syntax.specs.Words as words
use Rattle.flt_syntax.specs.Words.{Meant}
use Rattle.flt_tree.specs.declared.filter.Action.{Action}
use Rattle.flt_prefix.specs.Prefix.{names_lock, is_lock_word, NoLockCall, NoBlock}

differ : false ≡ true → ⊥
differ e = cc

none_some : {A : Type 0} (a : A) → None ≡ Some a → ⊥
none_some a e = cc

kind_is : {kd : Kind} {i o : Input} → Next kd i o → kind i ≡ kd
kind_is (words.next e) = e

-- ---- where no lock is declared, nothing begins with the word of a lock's call

no_lock_at : {scope : Scope} {lk : LockKind} {i o : Input} {l : LockNumber} → scope.locks ≡ [] → LockAt scope lk i l o → ⊥
no_lock_at {lk = lk} {l = l} e (calling.lock {name = name} p h) = none_some l (sym (ap (lock_number lk name) e) ∙ h)

other_word : {x : PlainShape} {i o : Input} → Meant plain_shape_of i x o → names_lock (Some x) ≡ false → is_lock_word (kind i) ≡ true → ⊥
other_word (words.meant m) e h = differ (sym (ap names_lock m ∙ e) ∙ h)

no_lock : {scope : Scope} {i o : Input} {c : PlainCall} → scope.locks ≡ [] → is_lock_word (kind i) ≡ true → PlainAt scope i c o → ⊥
no_lock e h (calling.plain {s = shapes.End how} n p t) = other_word n refl h
no_lock e h (calling.plain {s = shapes.Reference} n p t) = other_word n refl h
no_lock e h (calling.plain {s = shapes.Lock call} n (calling.slot (calling.lock_name p) q) t) = no_lock_at e p
no_lock e h (calling.plain {s = shapes.CompletePre} n p t) = other_word n refl h
no_lock e h (calling.plain {s = shapes.CompletePost} n p t) = other_word n refl h

-- the first exception
pub no_lock_call : NoLockCall
no_lock_call scope i o c e h p = no_lock e h p

-- ---- where no block may stand, nothing begins with the word of a statement that has one

other_start : {kd : Kind} {i o : Input} → Next kd i o → has_blocks kd ≡ false → has_blocks (kind i) ≡ true → ⊥
other_start n e h = differ (sym (ap has_blocks (kind_is n) ∙ e) ∙ h)

-- no word of a table is one of these
by_table : {A : Type 0} (table : Kind → Option A) (a : Kind) (x : A) → table k.If ≡ None → table k.Repeat ≡ None → table a ≡ Some x →
    has_blocks a ≡ true → ⊥
by_table table k.If x e f h b = none_some x (sym e ∙ h)
by_table table k.Repeat x e f h b = none_some x (sym f ∙ h)
by_table table _ x e f h b = differ b

other_meaning : {A : Type 0} {table : Kind → Option A} {i o : Input} {x : A} → Meant table i x o → table k.If ≡ None →
    table k.Repeat ≡ None → has_blocks (kind i) ≡ true → ⊥
other_meaning {table = table} {x = x} (words.meant {t = t} m) e f h = by_table table t.word.kind x e f m h

no_action : {i o : Input} {a : Action} → has_blocks (kind i) ≡ true → ActionAt i a o → ⊥
no_action h (acting.set_number p m q) = other_meaning p refl refl h
no_action h (acting.read_value p m w q) = other_meaning p refl refl h
no_action h (acting.read_file p m w q) = other_meaning p refl refl h
no_action h (acting.write_value n p m q) = other_start n refl h
no_action h (acting.clear_context p m n) = other_meaning p refl refl h
no_action h (acting.clear_operation p m n) = other_meaning p refl refl h

no_plain : {scope : Scope} {i o : Input} {c : PlainCall} → has_blocks (kind i) ≡ true → PlainAt scope i c o → ⊥
no_plain h (calling.plain n p t) = other_meaning n refl refl h

no_block : {scope : Scope} {r : ℕ} {i o : Input} {ss : List Statement} (d : ℕ) → d ≡ 0 → BlockAt scope d r i ss o → ⊥
no_block _ e (grammar.block {d = d} n p m) = absurd (omega (arith, e))

no_statement : {scope : Scope} {r : ℕ} {i o : Input} {s : Statement} (d : ℕ) → d ≡ 0 → has_blocks (kind i) ≡ true →
    StatementAt scope d r i s o → ⊥
no_statement d e h (grammar.act p) = no_action h p
no_statement d e h (grammar.call p) = no_plain h p
no_statement d e h (grammar.return n p) = other_start n refl h
no_statement d e h (grammar.choice n p q x) = no_block d e q
no_statement d e h (grammar.repeat n p l q) = no_block d e q

-- the second exception
pub no_block_statement : NoBlock
no_block_statement scope r i o s h p = no_statement 0 refl h p
