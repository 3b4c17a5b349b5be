-- What is told line by line, one text's lines as soon as they are made. This project's own program.
use Rattle.flt_door.specs.Lines.{Shows}
use Rattle.std.specs.Prelude.{◌≡◌, ℕ, List, ◌++◌, Option, None, max, take}
use Rattle.flt_explain_texts.specs.declared.sources.Printout.{Printout}
use Rattle.flt_explain_texts.specs.declared.sources.Source.{Source}
use Rattle.flt_explain_forms.specs.Lines.{AreLines, IsPart}
use Rattle.flt_explain_forms.specs.RunMember.{no_run}
use Rattle.flt_explain_forms.specs.declared.as_lines.Style.{Style}
use Rattle.flt_explain_warning_details.specs.declared.options.WarningOptions.{WarningOptions}
use Rattle.flt_files.specs.Inputs.{Text}

-- the lines of one text more went out, and stand behind what was told before
pub record IsTextMore (style : Style) (options : WarningOptions) (s : Source) (before after : Printout) (old new : Option Text) :
    Type 0 where
  pub part : List ℕ
  pub own : ℕ
  pub is : IsPart style options no_run s part own
  pub output : after.output.items ≡ before.output.items ++ part
  pub status : after.status ≡ max before.status own
  pub sent : Shows old new part

-- what went out is all that is told of the first so many texts
pub record AreFirstLines (style : Style) (options : WarningOptions) (sources : List Source) (old new : Option Text) : Type 0 where
  pub count : ℕ
  pub printed : List ℕ
  pub status : ℕ
  pub are : AreLines style options (take count sources) None printed status
  pub sent : Shows old new printed
