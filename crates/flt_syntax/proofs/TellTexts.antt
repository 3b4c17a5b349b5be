-- Where a text fails by the relation beside the grammar, the reader says so.
use Rattle.std.proofs.Common.{◌≡◌, List, Ok, Err, refl, ap, ◌∙◌}
use Rattle.std.specs.Prelude.{Some}
use Rattle.std.proofs.lemmas.Bool.{lt-ltb, le-ltb}
use Rattle.flt_syntax.specs.Cursor.{Input, Outcome}
use Rattle.flt_syntax.specs.File.{file, unless_fault, whole, filter_of}
use Rattle.flt_syntax.specs.Lex.{tokens}
use Rattle.flt_syntax.specs.TextFails as bad
use Rattle.flt_syntax.specs.TextFails.{CallbacksMiss, WholeFails, Fails}
use Rattle.flt_syntax.specs.Whole.{callback_fault, first_fault, whole_fault}
use Rattle.flt_syntax.specs.declared.fault.SyntaxFault.{SyntaxFault}
use Rattle.flt_tree.specs.Names.{Text}
use Rattle.flt_tree.specs.declared.filter.Callback.{Callback}
use Rattle.flt_tree.specs.declared.filter.Filter.{Filter}
use Rattle.flt_syntax.proofs.CompleteFiles.{file_at, no_queue_fault}
use Rattle.flt_syntax.proofs.Misses.{body_tells}
use Rattle.flt_syntax.proofs.Routines.{none_missing}
use Rattle.flt_syntax.proofs.TellFiles.{file_tells}

misses_tell : {all cs : List Callback} {f : SyntaxFault} → CallbacksMiss all cs f → first_fault all cs ≡ Some f
unfolding callback_fault
misses_tell (bad.no_pre e) = rw e refl
misses_tell (bad.no_routine e h) = rw (e, body_tells _ _ h) refl
misses_tell {all = all} (bad.later {c = c} e h m) = rw (e, none_missing all c.head c.body h) (misses_tell m)

whole_tells : {filter : Filter} {f : SyntaxFault} → WholeFails filter f → whole_fault filter ≡ Some f
whole_tells (bad.no_canceled e h) = rw (e, h) refl
whole_tells {filter = filter} (bad.wanting e m) = rw (no_queue_fault filter.queue filter.callbacks e) (misses_tell m)

whole_is : (filter : Filter) (f : SyntaxFault) (o : Outcome Filter) (l : Input) → o ≡ Ok (filter, l) → whole_fault filter ≡ Some f →
    whole o ≡ Err f
whole_is filter f o l e h = ap whole e ∙ ap (unless_fault filter) h

-- where a text fails, the reading definition reports just that
pub tells : {text : Text} {f : SyntaxFault} → Fails text f → filter_of text ≡ Err f
unfolding filter_of
tells (bad.too_long h) = rw (lt-ltb _ _ h) refl
tells (bad.reading short h) = rw (le-ltb _ _ short) (ap whole (file_tells h))
tells {text = text} {f = f} (bad.whole {filter = filter} short r h) =
    let a = file_at r.grammar r.low r.high r.new_locks r.few_locks r.new_callbacks r.few_callbacks r.small in
    rw (le-ltb _ _ short) (whole_is filter f (file text (tokens text)) a.0 a.1 (whole_tells h))
