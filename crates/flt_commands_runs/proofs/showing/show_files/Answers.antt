use Rattle.std.proofs.Common.{◌≡◌, Err, [], refl, rules}
use Rattle.flt_commands_runs.proofs.Drawing.{out_of_memory, unread as undrawn}
use Rattle.flt_files.specs.Attempts.{Does}
use Rattle.flt_files.specs.Inputs.{given, unread}
use Rattle.flt_files.specs.declared.failure.Failure.TheVariants.{OutOfMemory}
use Rattle.flt_commands_runs.proofs.showing.show_files.Goals as goal

pub returns-in_err-push : goal.returns-in_err-push
returns-in_err-push g c =
    let fails : c.from_residual.result ≡ Err OutOfMemory = search rules in
    rw fails
    (record {
      said = ([], unread OutOfMemory tt, refl);
      drawn = out_of_memory (g.P.Pictures.written c.args.pictures.now)
          (Does (c.args.pictures.now ≡ c.args.pictures.now) (g.P.Pictures.done c.args.pictures.now) (g.P.Pictures.done c.args.pictures.now))
          refl c.args.name _;
    })

pub returns-in_err-extend_from_slice : goal.returns-in_err-extend_from_slice
returns-in_err-extend_from_slice g c =
    let fails : c.from_residual-in_err-extend_from_slice.result ≡ Err OutOfMemory = search rules in
    rw fails
    (record {
      said = ([], unread OutOfMemory tt, refl);
      drawn = out_of_memory (g.P.Pictures.written c.args.pictures.now)
          (Does (c.args.pictures.now ≡ c.args.pictures.now) (g.P.Pictures.done c.args.pictures.now) (g.P.Pictures.done c.args.pictures.now))
          refl c.args.name _;
    })

pub returns-in_err-written : goal.returns-in_err-written
returns-in_err-written g c =
    let fails : c.from_residual-in_err-written.result ≡ Err c.in_err-written.field-0.0 = search rules in
    rw fails
    (record {
      said = ([], unread _ c.in_err-written.ensures.err, refl);
      drawn = undrawn (g.P.Pictures.written c.args.pictures.now)
          (Does (c.args.pictures.now ≡ c.args.pictures.now) (g.P.Pictures.done c.args.pictures.now) (g.P.Pictures.done c.args.pictures.now))
          refl c.args.name _ _ _ _ c.in_err-written.ensures.err;
    })

pub returns : goal.returns
returns g c = record {
  said = (
    _,
    given _ c.in_ok-written.ensures.ok (rw c.as_slice-2.ensures.value at c.show_texts.ensures.said),
    c.show_texts.ensures.kept refl,
  );
  drawn = rw c.as_slice-2.ensures.value at c.show_texts.ensures.drawn;
}
