use Rattle.std.proofs.Common.{[], Bor, arith, get_or, refl}
use Rattle.std.proofs.lemmas.List.Elements.{All-nil}
use Rattle.flt_commands_texts.proofs.Formatting.{does_for, done_more, outcome_more}
use Rattle.flt_commands_texts.specs.Format as spec
use Rattle.flt_files.specs.Inputs.{Text}
use Rattle.flt_commands_texts.proofs.format.file_outcomes.Goals as goal

pub loop-number-init : goal.loop-number-init
loop-number-init g c = record {
  are = rw c.new-files.ensures.items spec.none;
  done = rw c.new-files.ensures.items (All-nil _);
  did = rw c.new-files.ensures.items refl;
  untouched = λ other. refl;
}

pub loop-number-preserved : goal.loop-number-preserved
loop-number-preserved g c =
    let other : Bor Text = record { ref_ptr = (0, 0); now = [] } in
    let name : Bor Text = get_or c.args.names.now c.loop-number.number other in
    record {
      are = outcome_more c.args.mode c.args.names.now c.args.texts.now c.loop-number.number name other c.index-texts-number.result _
          (omega (arith, c.requires, c.loop-number-test.true)) c.loop-number-test.true refl c.index-texts-number.is
          c.loop-number.files.items _ c.in_ok-file.file c.loop-number.invariant.are c.in_ok-file.ensures.named
          (rw c.as_slice.ensures.value at c.in_ok-file.ensures.is)
          c.in_ok-push.ensures.items;
      done = done_more (g.P.Pictures.written c.loop-number.pictures) (g.P.Pictures.written c.file_outcome.new.pictures)
          c.in_ok-file.ensures.kept c.args.mode c.loop-number.files.items _ c.in_ok-file.file c.loop-number.invariant.done
          c.in_ok-file.ensures.done c.in_ok-push.ensures.items;
      did = does_for g.P.Pictures.done _ _ _ c.args.mode c.loop-number.files.items _ c.in_ok-file.file c.loop-number.invariant.did
          c.in_ok-file.ensures.did c.in_ok-push.ensures.items;
      untouched = λ other. rw (c.in_ok-file.ensures.untouched other) (c.loop-number.invariant.untouched other);
    }
