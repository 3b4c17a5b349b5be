-- Where a callback status is legal. Source: FLT_PREOP_CALLBACK_STATUS and FLT_POSTOP_CALLBACK_STATUS in the
-- driver kit; that SYNCHRONIZE isn't for a create and what may be handed on are this project's own rules.
use Rattle.std.specs.Prelude.{Bool, true, false, Option, Some, None}
use Rattle.flt_rules.specs.declared.place.Mode.{Mode}
use Rattle.flt_rules.specs.declared.place.Mode.TheVariants as mode
use Rattle.flt_rules.specs.declared.place.Stage.TheVariants as stage
use Rattle.flt_rules.specs.declared.status.Possession.{Possession}
use Rattle.flt_rules.specs.declared.status.Possession.TheVariants as possession
use Rattle.flt_rules.specs.declared.status.StatusRow.{StatusRow}
use Rattle.flt_rules.specs.declared.status.StatusWord.{StatusWord}
use Rattle.flt_rules.specs.declared.status.StatusWord.TheVariants as word

-- legal in a pre callback that holds its operation
abbrev pub plain : StatusRow
plain = record {
  stage = stage.Pre;
  «data» = possession.Held;
  mode = None;
  needs_post = false;
  in_create = true;
  in_draining = true;
  handed = false;
}

abbrev pub status_row : StatusWord → StatusRow
status_row word.WithCallback = record plain { needs_post = true; handed = true }
status_row word.Synchronize = record plain { needs_post = true; mode = Some mode.Irp; in_create = false }
status_row word.NoCallback = record plain { handed = true }
status_row word.Complete = record plain { handed = true }
status_row word.Pending = record plain { «data» = possession.GivenAway; mode = Some mode.Irp }
status_row word.DisallowFastIo = record plain { mode = Some mode.Fast }
status_row word.FinishedProcessing = record plain { stage = stage.Post }
status_row word.MoreProcessingRequired = record plain {
  stage = stage.Post;
  «data» = possession.GivenAway;
  mode = Some mode.Irp;
  in_draining = false;
}

-- COMPLETE
abbrev pub is_complete : StatusWord → Bool
is_complete word.Complete = true
is_complete _ = false

-- WITH_CALLBACK
abbrev pub is_with_callback : StatusWord → Bool
is_with_callback word.WithCallback = true
is_with_callback _ = false

-- ---- what a row asks for

-- the operation is held, or was given away, as a row asks
abbrev pub is_possessed : Bool → Bool → Possession → Bool
is_possessed held given_away possession.Held = held
is_possessed held given_away possession.GivenAway = given_away

-- the mode that a row asks for passes, if it asks for one
abbrev pub is_of_mode : (Mode → Bool) → Option Mode → Bool
is_of_mode passes None = true
is_of_mode passes (Some wanted) = passes wanted
