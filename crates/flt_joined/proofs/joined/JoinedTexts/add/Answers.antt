use Rattle.std.proofs.Common.{arith, refl}
use Rattle.flt_joined.proofs.Adding.{none_added}
use Rattle.flt_joined.proofs.Parts.{part_length}
use Rattle.flt_joined.proofs.joined.JoinedTexts.add.Goals as goal

pub returns-in_ok-push-in-Err : goal.returns-in_ok-push-in-Err
returns-in_ok-push-in-Err c =
    let made = rw c.in-Err.is at c.in_ok-bytes.ensures in
    none_added c.args.files.now c.args.first c.args.end c.args.self.now _ c.in-Err.field-0 made.0
    (omega (arith, made.1, part_length c.args.files.now c.args.first c.args.end c.requires.within)) refl c.in_ok-push-in-Err.ensures.items
