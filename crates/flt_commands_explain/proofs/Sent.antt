-- What went out of what is said, and when.
use Rattle.std.proofs.Common.{◌≡◌, ℕ, Bool, List, [], Option, take, inl, refl}
use Rattle.flt_door.proofs.Lines.{shows_nothing}
use Rattle.flt_door.specs.Lines.{Shows}
use Rattle.flt_commands_explain.proofs.InTurn.{no_lines}
use Rattle.flt_commands_explain.specs.Explain.{IsCutIn, IsCutShort}
use Rattle.flt_commands_explain.specs.Explain as explain
use Rattle.flt_files.specs.Inputs.{Giving, Text}
use Rattle.flt_explain_forms.specs.declared.as_lines.Style.TheVariants.{Object, Sentence}
use Rattle.flt_explain_texts.specs.declared.sources.Source.{Source}
use Rattle.flt_explain_outcomes.specs.declared.schedules.RunSearch.{RunSearch}
use Rattle.flt_explain_warning_details.specs.declared.options.WarningOptions.{WarningOptions}
use Rattle.flt_words.specs.declared.request.Form.{Form}
use Rattle.flt_words.specs.declared.request.Form.TheVariants.{Html, Human, Lines, LinesWithRuns, Sarif, SarifWithRuns, Short}

-- nothing goes out at once
pub none_sent : (old : Option Text) (sent : ℕ) (bytes : Text) → sent ≡ 0 → Shows old old (take sent bytes)
none_sent old sent bytes none = rw none (shows_nothing old)

-- where nothing went out, no text is told of
pub cut_nowhere : (form : Form) (options : WarningOptions) (search : RunSearch) (sources : List Source) (old : Option Text) →
    IsCutIn form options search sources old old
cut_nowhere Human options search sources old = record { printed = []; added = shows_nothing old; are = inl refl }
cut_nowhere Short options search sources old = no_lines Sentence options sources old
cut_nowhere Lines options search sources old = no_lines Object options sources old
cut_nowhere Sarif options search sources old = shows_nothing old
cut_nowhere Html options search sources old = shows_nothing old
cut_nowhere LinesWithRuns options search sources old = shows_nothing old
cut_nowhere SarifWithRuns options search sources old = shows_nothing old

-- where nothing went out, nothing is cut short
pub cut_short : (gives : Giving) (is_c : Bool) (form : Form) (options : WarningOptions) (search : RunSearch) (allowed files : List Text)
    (old : Option Text) →
    IsCutShort gives is_c form options search allowed files old old
cut_short gives is_c form options search allowed files old = explain.none_read (shows_nothing old)
