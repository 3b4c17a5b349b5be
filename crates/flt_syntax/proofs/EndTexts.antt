-- Each text ends: it spells the filter that is read of it, or fails where the reader says so.
use Rattle.std.proofs.Common.{◌≡◌, ◌≤◌, Bool, true, false, nat_lt, List, [], ◌∷◌, length, Result, Ok, Err, refl, sym, subst}
use Rattle.std.specs.Prelude.{Option, Some, None, option_map, if◌then◌else◌}
use Rattle.std.proofs.lemmas.Bool.{ltb-true, ltb-false}
use Rattle.flt_syntax.specs.Cursor.{Outcome, fault}
use Rattle.flt_syntax.specs.FileFails.{FileFails}
use Rattle.flt_syntax.specs.File.{file, unless_fault, whole, filter_of}
use Rattle.flt_syntax.specs.Lex.{tokens}
use Rattle.flt_syntax.specs.Spelling.{Spells}
use Rattle.flt_syntax.specs.TextFails as bad
use Rattle.flt_syntax.specs.TextFails.{Reads, CallbacksMiss, WholeFails, Fails}
use Rattle.flt_syntax.specs.Whole.{first_of, missing, callback_fault, first_fault, queue_fault, whole_fault}
use Rattle.flt_syntax.specs.declared.fault.FaultKind.TheVariants.{E04, E06, E07}
use Rattle.flt_syntax.specs.declared.fault.SyntaxFault.{SyntaxFault}
use Rattle.flt_tree.specs.Declarations.{AreWhole, IsServed, has_event, lacks_pre}
use Rattle.flt_rules.specs.Limits.{max_text}
use Rattle.flt_tree.specs.Names.{Text}
use Rattle.flt_tree.specs.declared.filter.Callback.{Callback}
use Rattle.flt_tree.specs.declared.filter.Filter.{Filter}
use Rattle.flt_tree.specs.declared.filter.Head.TheVariants.{Canceled}
use Rattle.flt_tree.specs.declared.filter.Position.{Position}
use Rattle.flt_syntax.proofs.Ends.{Ends, gives, fails}
use Rattle.flt_syntax.proofs.EndFiles.{file_ends}
use Rattle.flt_syntax.proofs.Misses.{body_told}
use Rattle.flt_syntax.proofs.Routines.{finds_all}

-- ---- what only the whole text shows

-- nothing is missing, or the first that is
data Searched (W : Type 0) (M : SyntaxFault → Type 0) : Option SyntaxFault → Type 0 where
  nothing : W → Searched W M None
  missed : {f : SyntaxFault} → M f → Searched W M (Some f)

callback_searched : (all : List Callback) (c : Callback) (cs : List Callback) (lacks : Bool) (m : Option Position)
    (r : Option SyntaxFault) →
    lacks_pre all c.head ≡ lacks → missing all c.head c.body ≡ m → Searched (AreWhole all cs) (CallbacksMiss all cs) r →
    Searched (AreWhole all (c ∷ cs)) (CallbacksMiss all (c ∷ cs))
    (first_of (if lacks then Some (fault E07 c.position) else option_map (fault E04) m) r)
callback_searched all c cs true m r e h rest = missed (bad.no_pre e)
callback_searched all c cs false (Some at) r e h rest = missed (bad.no_routine e (body_told all c.head c.body at h))
callback_searched all c cs false None r e h (nothing w) = nothing (e, finds_all all c.head c.body h, w)
callback_searched all c cs false None r e h (missed x) = missed (bad.later e (finds_all all c.head c.body h) x)

callbacks_searched : (all cs : List Callback) → Searched (AreWhole all cs) (CallbacksMiss all cs) (first_fault all cs)
unfolding callback_fault
callbacks_searched all [] = nothing tt
callbacks_searched all (c ∷ cs) =
    callback_searched all c cs (lacks_pre all c.head) (missing all c.head c.body) (first_fault all cs) refl refl (callbacks_searched all cs)

-- the queue is served, and no callback wants another
abbrev IsWhole : Filter → Type 0
IsWhole filter = IsServed filter.queue filter.callbacks × AreWhole filter.callbacks filter.callbacks

with_queue : (filter : Filter) (r : Option SyntaxFault) → IsServed filter.queue filter.callbacks →
    Searched (AreWhole filter.callbacks filter.callbacks) (CallbacksMiss filter.callbacks filter.callbacks) r →
    Searched (IsWhole filter) (WholeFails filter) r
with_queue filter _ served (nothing w) = nothing (served, w)
with_queue filter _ served (missed x) = missed (bad.wanting served x)

queue_searched : (filter : Filter) (q : Option Position) (b : Bool) → filter.queue ≡ q → has_event Canceled filter.callbacks ≡ b →
    Searched (IsWhole filter) (WholeFails filter)
    (first_of (queue_fault q filter.callbacks) (first_fault filter.callbacks filter.callbacks))
queue_searched filter None b e h =
    with_queue filter _ (subst (λ q. IsServed q filter.callbacks) (sym e) tt) (callbacks_searched filter.callbacks filter.callbacks)
queue_searched filter (Some at) true e h =
    rw h (with_queue filter _ (subst (λ q. IsServed q filter.callbacks) (sym e) h)
    (callbacks_searched filter.callbacks filter.callbacks))
queue_searched filter (Some at) false e h = rw h (missed (bad.no_canceled e h))

whole_searched : (filter : Filter) → Searched (IsWhole filter) (WholeFails filter) (whole_fault filter)
whole_searched filter = queue_searched filter filter.queue (has_event Canceled filter.callbacks) refl refl

-- ---- the text

-- what a text spells, or where it fails
pub data TextEnds (text : Text) : Result Filter SyntaxFault → Type 0 where
  spells : {f : Filter} → Spells text f → TextEnds text (Ok f)
  faulty : {f : SyntaxFault} → Fails text f → TextEnds text (Err f)

unless_ends : (text : Text) (f : Filter) (m : Option SyntaxFault) → length text ≤ max_text → Reads text (tokens text) f →
    Searched (IsWhole f) (WholeFails f) m → TextEnds text (unless_fault f m)
unless_ends text f _ short r (nothing w) = spells (record {
  short = short;
  grammar = r.grammar;
  low = r.low;
  high = r.high;
  few_locks = r.few_locks;
  new_locks = r.new_locks;
  few_callbacks = r.few_callbacks;
  new_callbacks = r.new_callbacks;
  small = r.small;
  served = w.0;
  whole = w.1;
})
unless_ends text f _ short r (missed x) = faulty (bad.whole short r x)

whole_ends : (text : Text) (o : Outcome Filter) → length text ≤ max_text →
    Ends (λ f o. Reads text (tokens text) f) (FileFails text (tokens text)) o → TextEnds text (whole o)
whole_ends text _ short (gives {a = f} r) = unless_ends text f (whole_fault f) short r (whole_searched f)
whole_ends text _ short (fails e) = faulty (bad.reading short e)

text_by : (text : Text) (b : Bool) → nat_lt max_text (length text) ≡ b →
    TextEnds text (if b then Err (record { line = 1; column = 1; kind = E06 }) else whole (file text (tokens text)))
text_by text true e = faulty (bad.too_long (ltb-true _ _ e))
text_by text false e = whole_ends text (file text (tokens text)) (ltb-false _ _ e) (file_ends text (tokens text))

-- each text spells the filter that is read of it, or fails as is reported
pub text_ends : (text : Text) → TextEnds text (filter_of text)
unfolding filter_of
text_ends text = text_by text _ refl

err_ok : (e : SyntaxFault) (f : Filter) → Err e ≡ Ok f → ⊥
err_ok e f h = cc

-- one filter is read
pub same_ok : (r : Result Filter SyntaxFault) (a f : Filter) → r ≡ Ok a → r ≡ Ok f → a ≡ f
same_ok r a f e h = cc

-- one fault is reported
pub same_err : (r : Result Filter SyntaxFault) (a f : SyntaxFault) → r ≡ Err a → r ≡ Err f → a ≡ f
same_err r a f e h = cc

spelled_of : {text : Text} {r : Result Filter SyntaxFault} (f : Filter) → TextEnds text r → r ≡ Ok f → Spells text f
spelled_of {text = text} f (spells {f = a} p) e = subst (Spells text) (same_ok (Ok a) a f refl e) p
spelled_of f (faulty {f = x} h) e = elim (err_ok x f e) [ ]

failed_of : {text : Text} {r : Result Filter SyntaxFault} (f : SyntaxFault) → TextEnds text r → r ≡ Err f → Fails text f
failed_of f (spells {f = a} p) e = elim (err_ok f a (sym e)) [ ]
failed_of {text = text} f (faulty {f = x} h) e = subst (Fails text) (same_err (Err x) x f refl e) h

-- the filter that is read is spelled by the text
pub is_spelled : (text : Text) (f : Filter) → filter_of text ≡ Ok f → Spells text f
is_spelled text f e = spelled_of f (text_ends text) e

-- where the reader says so the text fails
pub fails_so : (text : Text) (f : SyntaxFault) → filter_of text ≡ Err f → Fails text f
fails_so text f e = failed_of f (text_ends text) e
