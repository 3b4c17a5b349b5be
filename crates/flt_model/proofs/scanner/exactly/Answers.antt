use Rattle.std.proofs.Common.{◌≡◌, ◌++◌, length, drop, sym, ap, ◌∙◌}
use Rattle.std.proofs.lemmas.Bool.{eqb-true, eq-eqb}
use Rattle.std.proofs.lemmas.Slice.Eq.{starts_is}
use Rattle.flt_model.proofs.JournalLaws.{exactly_at_hand}
use Rattle.flt_model.proofs.scanner.exactly.Goals as goal

pub returns-then-starts_with-clause-read : goal.returns-then-starts_with-clause-read
returns-then-starts_with-clause-read g c =
    let bytes = c.args.bytes.now in
    let ready = c.ready.result.now in
    let split : ready ≡ bytes ++ drop (length bytes) ready =
    (starts_is (λ a b. (eqb-true a b, eq-eqb a b)) ready bytes c.starts_with.result c.starts_with.ensures.value).0
    c.if-starts_with.true in
    exactly_at_hand bytes ready c.ready.ensures.first.0 (g.R.Source.coming c.args.reader.now) (g.R.Source.coming c.pass.new.self)
    split (c.ready.ensures.first.1 ∙ ap (λ t. t ++ c.ready.ensures.first.0) (sym c.ready.ensures.bytes)) c.pass.ensures.left
