-- The laws of what a text spells, of where it fails, and of what is read, for the answer of a function that reads.
use Rattle.std.proofs.Common.{◌≡◌, ◌↔◌, ◌⊎◌, inl, inr, Result, Ok, Err, refl}
use Rattle.std.specs.Prelude.{IfOk, IfErr, MatchResult}
use Rattle.flt_syntax.specs.Cursor.{Input, Outcome}
use Rattle.flt_syntax.specs.File.{file, filter_of, IsFaultOf}
use Rattle.flt_tree.specs.Names.{Text}
use Rattle.flt_syntax.specs.Spelling.{Spells, SpellsAtMostOne}
use Rattle.flt_syntax.specs.TextFails.{Fails, IsWhereItFails, SpelledFailsNowhere, ReadFailsNowhere, SpellsOrFails, FailsAtMostOnce}
use Rattle.flt_syntax.specs.declared.fault.ParseError.{ParseError}
use Rattle.flt_syntax.specs.declared.fault.ParseError.TheVariants.{OutOfMemory, Syntax}
use Rattle.flt_syntax.specs.declared.fault.SyntaxFault.{SyntaxFault}
use Rattle.flt_tree.specs.WellFormed.{IsWellFormed}
use Rattle.flt_tree.specs.declared.filter.Filter.{Filter}
use Rattle.flt_tree.specs.declared.tree.Tree.{Tree}
use Rattle.flt_syntax.proofs.CompleteFiles.{file_at, is_found}
use Rattle.flt_syntax.proofs.FineFiles.{is_well_formed}
use Rattle.flt_syntax.proofs.EndTexts.{TextEnds, spells, faulty, text_ends, same_ok, same_err, is_spelled, fails_so}
use Rattle.flt_syntax.proofs.TellFiles.{file_tells}
use Rattle.flt_syntax.proofs.TellTexts.{tells}

-- a tree that is read is spelled
pub spelled_result : (text : Text) (r : Result Tree ParseError) → IfOk r (λ t. filter_of text ≡ Ok t.filter) →
    IfOk r (λ t. Spells text t.filter)
spelled_result text (Ok t) e = is_spelled text t.filter e
spelled_result text (Err e) h = tt

-- a tree that is read is well-formed
pub well_formed_result : (text : Text) (r : Result Tree ParseError) → IfOk r (λ t. filter_of text ≡ Ok t.filter) →
    IfOk r (λ t. IsWellFormed t.filter)
well_formed_result text (Ok t) e = is_well_formed text t.filter (is_spelled text t.filter e)
well_formed_result text (Err e) h = tt

err_or_ok : (r : Result Filter SyntaxFault) (e : SyntaxFault) (f : Filter) → r ≡ Err e → r ≡ Ok f → ⊥
err_or_ok r e f h l = cc

-- a text that spells a filter is read, unless memory runs out
pub found_result : (text : Text) (r : Result Tree ParseError) → IfOk r (λ t. filter_of text ≡ Ok t.filter) →
    IfErr r (IsFaultOf (filter_of text)) →
    (f : Filter) → Spells text f → MatchResult r (λ t. t.filter ≡ f) (λ e. e ≡ OutOfMemory)
found_result text (Ok t) e h f p = same_ok (filter_of text) t.filter f e (is_found text f p)
found_result text (Err OutOfMemory) e h f p = refl
found_result text (Err (Syntax x)) e h f p = elim (err_or_ok (filter_of text) x f h (is_found text f p)) [ ]

-- no text spells two filters
pub only_one : SpellsAtMostOne
only_one text f g p q = same_ok (filter_of text) f g (is_found text f p) (is_found text g q)

-- ---- where it fails

-- the error of what reads is where the text fails
pub fault_result : (text : Text) (r : Result Tree ParseError) → IfErr r (IsFaultOf (filter_of text)) → IfErr r (IsWhereItFails text)
fault_result text (Ok t) e = tt
fault_result text (Err OutOfMemory) e = tt
fault_result text (Err (Syntax f)) e = fails_so text f e

-- a text fails exactly where the reading definition says so
pub told : (text : Text) (f : SyntaxFault) → (filter_of text ≡ Err f) ↔ Fails text f
told text f = (fails_so text f, tells)

-- a text that spells a filter fails nowhere
pub spelled_fails_nowhere : SpelledFailsNowhere
spelled_fails_nowhere text filter f p h = err_or_ok (filter_of text) f filter (tells h) (is_found text filter p)

ok_err : (a : Filter) (o : Input) (f : SyntaxFault) (r : Outcome Filter) → r ≡ Ok (a, o) → r ≡ Err f → ⊥
ok_err a o f r e h = cc

-- nor do tokens that spell one within the limits
pub read_fails_nowhere : ReadFailsNowhere
read_fails_nowhere text i filter f r h =
    let a = file_at r.grammar r.low r.high r.new_locks r.few_locks r.new_callbacks r.few_callbacks r.small in
    ok_err filter a.0 f (file text i) a.1 (file_tells h)

-- a text fails at one place, with one kind
pub fails_at_most_once : FailsAtMostOnce
fails_at_most_once text f g h l = same_err (filter_of text) f g (tells h) (tells l)

either_of : {text : Text} {r : Result Filter SyntaxFault} → TextEnds text r →
    ((filter : Filter) × Spells text filter) ⊎ ((f : SyntaxFault) × Fails text f)
either_of (spells {f = filter} p) = inl (filter, p)
either_of (faulty {f = f} h) = inr (f, h)

-- a text spells a filter or fails
pub spells_or_fails : SpellsOrFails
spells_or_fails text = either_of (text_ends text)
