-- What is told after drifts, and what went out of it.
use Rattle.std.proofs.Common.{◌≡◌, ◌≢◌, ◌∙◌, ℕ, ◌+◌, List, ◌++◌, Option, None, Result, Ok}
use Rattle.std.proofs.Common.{Err, IfErr, ap, sym, length, min, refl, take}
use Rattle.std.proofs.Math.Path.{subst}
use Rattle.std.proofs.Math.Seq.{take-append-add, take-length}
use Rattle.std.proofs.lemmas.List.{take_min}
use Rattle.flt_door.proofs.Lines.{shows_both, shows_nothing}
use Rattle.std.specs.Io.KnownBytes.{Appends}
use Rattle.flt_commands_explain.proofs.WholeLines.{lines_of_drifts}
use Rattle.flt_door.specs.Door.{at_door}
use Rattle.flt_door.specs.Lines.{Shows}
use Rattle.flt_explain_parts.specs.declared.drifted.DriftedFile.{DriftedFile}
use Rattle.flt_explain_texts.specs.declared.sources.Source.{Source}
use Rattle.flt_explain_forms.specs.declared.as_lines.Style.{Style}
use Rattle.flt_explain_forms.specs.Lines.{AreLines}
use Rattle.flt_explain_runs.specs.declared.explaining.ExplainOutput.{ExplainOutput}
use Rattle.flt_explain_outcomes.specs.declared.schedules.RunSearch.{RunSearch}
use Rattle.flt_explain_warning_details.specs.declared.options.WarningOptions.{WarningOptions}
use Rattle.flt_words.specs.declared.request.Form.{Form}
use Rattle.flt_commands_explain.specs.Explain.{IsCutAfter}
use Rattle.flt_commands_explain.specs.Explain as explain
use Rattle.flt_files.specs.Inputs.{Text}
use Rattle.flt_commands_explain.specs.InTurn.{AreFirstLines}
use Rattle.flt_commands_explain.specs.declared.fault.CommandFault.{CommandFault}
use Rattle.flt_commands_explain.specs.declared.fault.CommandFault.TheVariants.{OutOfMemory, Write}

-- ---- what goes out before the end is cut as where memory runs out

-- all lines are those of the first texts
pub whole_lines : (style : Style) (options : WarningOptions) (sources : List Source) (printed : Text) (status : ℕ) (old new : Option Text) →
    AreLines style options sources None printed status → Shows old new printed → AreFirstLines style options sources old new
whole_lines style options sources printed status old new told sent = record {
  count = length sources;
  printed = printed;
  status = status;
  are = subst (λ ss. AreLines style options ss None printed status) (sym (take-length sources)) told;
  sent = sent;
}

-- ---- after drifts

-- where nothing goes out, memory ran out
pub memory_only : {O : Type 0} (failures : O → ℕ) (old new : O) (e : CommandFault) → (e ≡ Write → failures new ≢ failures old) → new ≡ old →
    e ≡ OutOfMemory
memory_only failures old new OutOfMemory failed held = refl
memory_only failures old new Write failed held = absurd (failed refl (ap failures held))

-- where memory runs out it is so, since it is so anyway
pub cut_always : {X : Type 0} (result : Result ExplainOutput CommandFault) → X → IfErr result (λ e. e ≡ OutOfMemory → X)
cut_always (Ok t) is = tt
cut_always (Err e) is = λ short. is

-- nothing went out
pub nothing_after : (drifts : Text) (form : Form) (options : WarningOptions) (search : RunSearch) (sources : List Source) (old : Option
    Text) →
    IsCutAfter drifts form options search sources old old
nothing_after drifts form options search sources old = explain.nothing_out (shows_nothing old)

-- the drifts went out, which are whole lines
pub drifts_sent : (form : Form) (drifted : List DriftedFile) (old new : Option Text) →
    Appends old new (at_door (explain.first_in form drifted)) → Shows old new (explain.first_in form drifted)
drifts_sent form drifted old new sent = record { lines = lines_of_drifts form drifted; out = sent }

-- the drifts went out, and some of what is told of the texts
pub early_sent : (old between new : Option Text) (drifts : Text) (own e : ExplainOutput) → Shows old between drifts →
    Shows between new (take own.sent own.explained.output.items) → e.explained.output.items ≡ drifts ++ own.explained.output.items →
    e.sent ≡ length drifts + min own.sent (length own.explained.output.items) → Shows old new (take e.sent e.explained.output.items)
early_sent old between new drifts own e first rest output sent =
    let bytes = own.explained.output.items in
    let all : take e.sent e.explained.output.items ≡ drifts ++ take own.sent bytes =
    ap (λ z. take e.sent z) output ∙ ap (λ n. take n (drifts ++ bytes)) sent ∙ take-append-add drifts bytes (min own.sent (length bytes))
    ∙ ap (λ z. drifts ++ z) (take_min own.sent bytes) in
    subst (Shows old new) (sym all) (shows_both old between new drifts (take own.sent bytes) first rest)
