use Rattle.std.proofs.Common.{◌≡◌, ◌+◌, ◌<◌, arith, length, rules, sym, ◌∙◌}
use Rattle.flt_explain_timeline.proofs.Alike.{alike_more}
use Rattle.flt_explain_timeline.proofs.folds.repeated.Goals as goal

pub loop-alike-preserved : goal.loop-alike-preserved
loop-alike-preserved c =
    let i = c.args.first + c.loop-alike.alike in
    let j = c.args.first + c.loop-alike.alike + c.args.block in
    let m = c.args.first + (c.loop-alike.alike + 1) in
    let n = c.args.first + (c.loop-alike.alike + 1) + c.args.block in
    let hi : i < length c.args.rows.now = omega arith in
    let hj : j < length c.args.rows.now = omega arith in
    let p : i + 1 ≡ m = omega arith in
    let q : j + 1 ≡ n = omega arith in
    record {
      repeats = search rules;
      within = omega arith;
      rest = omega
          (arith, alike_more c.args.told.now c.args.rows.now i j m n hi hj (sym c.are_alike.ensures.exact ∙ c.if-not-are_alike.false) p q);
    }
