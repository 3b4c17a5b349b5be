use Rattle.std.proofs.Common.{◌≡◌, suc, ◌+◌, ◌*◌, ◌++◌, ◌∷◌, [], Some, length, refl, sym, ap, ◌∙◌, arith, slice_get}
use Rattle.std.proofs.Math.Path.{subst}
use Rattle.std.proofs.lemmas.Option.{slice_get_read}
use Rattle.std.proofs.lemmas.List.{length_push}
use Rattle.flt_analyse.specs.All.{AreAnswers}
use Rattle.flt_analyse.proofs.Shares.{next_turn, answers_more}
use Rattle.flt_analyse.proofs.all.share.Goals as goal

pub places-preserved : goal.places-preserved
places-preserved g c =
    let inv = c.places.invariant in
    let answers = c.places.answers in
    let pushed : c.push.new.self ≡ c.places.answers ++ c.in_ok-answer.field-0 ∷ [] = c.in_ok-push.ensures.ok in
    let long : length c.push.new.self ≡ suc (length c.places.answers) =
    omega (arith, ap length pushed, length_push answers c.in_ok-answer.field-0) in
    let read = slice_get_read c.args.graphs.now
    (length c.args.graphs.now) c.places.place c.index-graphs-place.result refl c.places-test.true c.index-graphs-place.is in
    let here : slice_get c.args.graphs.now (c.args.worker + c.args.workers * length c.places.answers)
    ≡ Some c.index-graphs-place.result = ap (slice_get c.args.graphs.now) (sym inv.turn) ∙ read in
    record {
      turn = ap (λ n. n + c.args.workers) inv.turn ∙ next_turn c.args.workers c.args.worker (length answers)
          ∙ ap (λ n. c.args.worker + c.args.workers * n) (sym long);
      near = omega (arith, c.places-test.true);
      each = subst (λ xs. AreAnswers c.args.graphs.now c.args.workers c.args.worker xs) (sym pushed)
          (answers_more c.args.graphs.now c.args.workers c.args.worker answers c.index-graphs-place.result c.in_ok-answer.field-0
          inv.each here c.in_ok-answer.ensures);
    }
