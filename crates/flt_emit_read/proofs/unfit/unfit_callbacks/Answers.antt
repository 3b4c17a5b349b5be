use Rattle.std.proofs.Common.{◌≡◌, ◌∷◌, ◌+◌, drop, sym, ◌∙◌, ap, arith}
use Rattle.std.proofs.lemmas.List.{drop_more}
use Rattle.std.specs.Option.{option_or}
use Rattle.flt_emit_read.specs.Unfit.{callbacks_unfit}
use Rattle.flt_emit_read.proofs.unfit.unfit_callbacks.Goals as goal

pub returns-in-Some : goal.returns-in-Some
returns-in-Some c =
    let next : drop c.loop-callback.callback-index c.args.callbacks.now ≡
    c.callback-item.result ∷ drop (c.loop-callback.callback-index + 1) c.args.callbacks.now =
    drop_more c.args.callbacks.now c.loop-callback.callback-index _ (omega (arith, c.loop-callback-test.true))
    ∙ ap (λ x. x ∷ drop (c.loop-callback.callback-index + 1) c.args.callbacks.now) (sym c.callback-item.is) in
    sym (c.loop-callback.invariant ∙ ap callbacks_unfit next
    ∙ ap (λ found. option_or found (callbacks_unfit (drop (c.loop-callback.callback-index + 1) c.args.callbacks.now)))
    (sym c.unfit_callback.ensures ∙ c.in-Some.is))
