-- What is told of entries, by number. This project's own definitions.
use Rattle.std.specs.Prelude.{◌≡◌, ℕ, List, Option, Some, map, option_map, slice_get}
use Rattle.flt_explain_timeline.specs.declared.running.DescribedEntry.{DescribedEntry}
use Rattle.flt_explain_timeline.specs.declared.telling.Telling.{Telling}
use Rattle.flt_explain_timeline.specs.declared.telling.Who.{Who}
use Rattle.flt_explain_timeline.specs.declared.tellings.Tellings.{Tellings}

-- what is told by a number, if there is something
abbrev pub told_by : Tellings → ℕ → Option Telling
told_by tellings number = option_map (λ link. link.telling) (slice_get tellings.all.items number)

-- these entries are told by numbers, and these were on in them
pub record AreToldBy (tellings : Tellings) (told : List ℕ) (whos : List Who) (heres : List DescribedEntry) : Type 0 where
  pub each : map (told_by tellings) told ≡ map (λ (here : DescribedEntry). Some here.telling) heres
  pub on : whos ≡ map (λ (here : DescribedEntry). here.who) heres
