-- What is spelled so is read.
use Rattle.std.proofs.Common.{◌≡◌, ◌≤◌, ℕ, zero, suc, Bool, true, false, [], ◌∷◌, ◌++◌, length}
use Rattle.std.proofs.Common.{refl, sym, ap, arith, ◌∙◌, append_assoc, append-nil}
use Rattle.std.specs.Prelude.{Option, Some, None, Ok}
use Rattle.std.specs.List.{flat_map, AllByRecursion}
use Rattle.flt_rules.specs.declared.place.Mode.{Mode}
use Rattle.flt_rules.specs.declared.place.Mode.TheVariants.{Irp, Fast}
use Rattle.flt_model.specs.Streams.{Text}
use Rattle.flt_model.specs.JournalText.{Entries, IsEntry, IsJournal, most_entries, number_text, operation_text, mode_text}
use Rattle.flt_model.specs.JournalText.{key_text, grant_text, entry_line, last_line, spelling}
use Rattle.flt_model.specs.JournalTextReading.{line, mode, key, grant, numbered, twice_numbered, arrive, pre_or_post}
use Rattle.flt_model.specs.JournalTextReading.{cancel_or_canceled, detach_or_detached, detach_or_drain, unlink, go, move_by, entries_from}
use Rattle.flt_model.specs.JournalTextReading.{journal}
use Rattle.flt_model.specs.declared.moves.JournalEntry.{JournalEntry}
use Rattle.flt_model.specs.declared.moves.JournalEntry.TheVariants as entries
use Rattle.flt_model.specs.declared.moves.Key.TheVariants.{Stream, Instance}
use Rattle.flt_model.specs.declared.moves.Move.TheVariants as moves
use Rattle.flt_model.proofs.LinesOnline.{line_text, IsLine}
use Rattle.flt_model.proofs.Numbers.{number_again}
use Rattle.flt_model.proofs.OperationSteps.{operation_again}

mode_again : (m : Mode) (text : Text) → mode (mode_text m ++ text) ≡ Ok (m, text)
unfolding mode
mode_again Irp text = refl
mode_again Fast text = refl

grant_again : (granted : Bool) (text : Text) → grant (grant_text granted ++ text) ≡ Ok (granted, text)
unfolding grant
grant_again true text = refl
grant_again false text = refl

-- the line of an entry is read as this entry
pub line_again : (entry : JournalEntry) (text : Text) → IsEntry entry → line (entry_line entry ++ text) ≡ Ok (Some entry, text)
unfolding line key numbered twice_numbered arrive pre_or_post cancel_or_canceled detach_or_detached detach_or_drain
    unlink go move_by
line_again (entries.Move (moves.Arrive o m file)) text h =
    rw (
      append_assoc (operation_text o) (mode_text m ++ number_text file 10) text,
      operation_again o ((mode_text m ++ number_text file 10) ++ text),
      append_assoc (mode_text m) (number_text file 10) text,
      mode_again m (number_text file 10 ++ text),
      number_again 10 file text (omega arith) h,
    ) refl
line_again (entries.Move (moves.Pre serial)) text h = rw (number_again 10 serial text (omega arith) h) refl
line_again (entries.Move (moves.Skip serial)) text h = rw (number_again 10 serial text (omega arith) h) refl
line_again (entries.Move (moves.Lower serial)) text h = rw (number_again 10 serial text (omega arith) h) refl
line_again (entries.Move (moves.Post serial)) text h = rw (number_again 10 serial text (omega arith) h) refl
line_again (entries.Move (moves.Cancel serial)) text h = rw (number_again 10 serial text (omega arith) h) refl
line_again (entries.Move (moves.Canceled altitude serial)) text h =
    rw (
      append_assoc (number_text altitude 32) (number_text serial 10) text,
      number_again 32 altitude (number_text serial 10 ++ text) (omega arith) h.0,
      number_again 10 serial text (omega arith) h.1,
    ) refl
line_again (entries.Move (moves.Work item)) text h = rw (number_again 10 item text (omega arith) h) refl
line_again (entries.Move (moves.Detach altitude)) text h = rw (number_again 10 altitude text (omega arith) h) refl
line_again (entries.Move (moves.Drain altitude serial)) text h =
    rw (
      append_assoc (number_text altitude 32) (number_text serial 10) text,
      number_again 32 altitude (number_text serial 10 ++ text) (omega arith) h.0,
      number_again 10 serial text (omega arith) h.1,
    ) refl
line_again (entries.Move (moves.Unlink altitude (Stream file))) text h =
    rw (
      append_assoc (number_text altitude 32) (key_text (Stream file)) text,
      number_again 32 altitude (key_text (Stream file) ++ text) (omega arith) h.0,
      number_again 10 file text (omega arith) h.1,
    ) refl
line_again (entries.Move (moves.Unlink altitude Instance)) text h =
    rw (
      append_assoc (number_text altitude 32) (key_text Instance) text,
      number_again 32 altitude (key_text Instance ++ text) (omega arith) h.0,
    ) refl
line_again (entries.Move (moves.Detached altitude)) text h = rw (number_again 10 altitude text (omega arith) h) refl
line_again (entries.Go activation steps granted) text h =
    rw (
      append_assoc (number_text activation 32) (number_text steps 32 ++ grant_text granted) text,
      number_again 32 activation ((number_text steps 32 ++ grant_text granted) ++ text) (omega arith) h.0,
      append_assoc (number_text steps 32) (grant_text granted) text,
      number_again 32 steps (grant_text granted ++ text) (omega arith) h.1,
      grant_again granted text,
    ) refl

-- a line, whichever it is
pub any_line_again : (x : Option JournalEntry) (text : Text) → IsLine x → line (line_text x ++ text) ≡ Ok (x, text)
unfolding line
any_line_again None text h = refl
any_line_again (Some entry) text h = line_again entry text h

pub entries_again : (more : Entries) (left : ℕ) (found : Entries) → AllByRecursion IsEntry more → length more ≤ left →
    entries_from left found (flat_map entry_line more ++ last_line) ≡ Ok (found ++ more)
unfolding entries_from line
entries_again [] zero found good few = ap Ok (sym (append-nil found))
entries_again [] (suc left) found good few = ap Ok (sym (append-nil found))
entries_again (entry ∷ more) zero found good few = absurd (omega arith)
entries_again (entry ∷ more) (suc left) found good few =
    ap (entries_from (suc left) found) (append_assoc (entry_line entry) (flat_map entry_line more) last_line)
    ∙ one_more left found entry (flat_map entry_line more ++ last_line) good.0
    ∙ entries_again more left (found ++ entry ∷ []) good.1 (omega arith) ∙ ap Ok (append_assoc found (entry ∷ []) more)
  where
    one_more : (left : ℕ) (found : Entries) (entry : JournalEntry) (text : Text) → IsEntry entry →
        entries_from (suc left) found (entry_line entry ++ text) ≡ entries_from left (found ++ entry ∷ []) text
    one_more left found entry text h = rw (line_again entry text h) refl

-- what is spelled so is read
pub spelled_read : (entries : Entries) → IsJournal entries → journal (spelling entries) ≡ Ok entries
unfolding journal
spelled_read entries good = entries_again entries most_entries [] good.0 good.1
