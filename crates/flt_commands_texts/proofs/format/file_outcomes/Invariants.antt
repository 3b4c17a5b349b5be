use Rattle.std.proofs.Common.{◌≡◌, ◌≢◌, map, take}
use Rattle.std.specs.List.{All}
use Rattle.flt_files.specs.Attempts.{Does}
use Rattle.flt_commands_texts.specs.Format as spec
use Rattle.flt_words.specs.declared.request.FormatMode.TheVariants as modes
use Rattle.flt_commands_texts.proofs.format.file_outcomes.Given as goal

abbrev pub invariant-loop-number : goal.invariant-loop-number
invariant-loop-number g l = record {
  are : spec.AreOutcomes l.mode (map (λ name. name.now) (take l.number l.names)) (map (λ text. text.items) (take l.number l.texts))
      l.files.items;
  done : All (spec.IsFileDone (g.P.Pictures.written l.pictures) l.mode) l.files.items;
  did : Does (l.pictures ≡ l.fn.pictures) (g.P.Pictures.done l.fn.pictures) (g.P.Pictures.done l.pictures)
      (spec.attempts_in l.mode l.files.items);
  untouched : l.mode ≢ modes.Write → l.pictures ≡ l.fn.pictures;
}
