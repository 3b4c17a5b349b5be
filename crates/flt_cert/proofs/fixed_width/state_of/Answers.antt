use Rattle.std.proofs.Common.{◌≡◌, sym, ◌∙◌}
use Rattle.flt_abs.specs.State.{state_of}
use Rattle.flt_cert.proofs.FixedWidthLaws.{modes_read, draining_read, fixed_proper, fixed_spelled}
use Rattle.flt_cert.proofs.fixed_width.state_of.Goals as goal

pub unwrap-modes-requires : goal.unwrap-modes-requires
unwrap-modes-requires c = rw c.modes_of.ensures (modes_read c.args.bytes.now c.requires.long c.requires.bounds)

pub unwrap-draining-requires : goal.unwrap-draining-requires
unwrap-draining-requires c = rw c.draining_of.ensures (draining_read c.args.bytes.now c.requires.long c.requires.bounds)

pub unwrap-requires : goal.unwrap-requires
unwrap-requires c =
    c.new.ensures.known.1 (rw c.none.ensures (fixed_proper c.args.bytes.now c.requires.long c.requires.bounds c.fill.result c.fill-2.result
    c.fill.new.sets c.fill-2.new.sets c.unwrap-modes.result c.unwrap-draining.result
    c.fill.ensures.known c.fill.ensures.unknown c.fill-2.ensures.known c.fill-2.ensures.unknown
    (sym c.modes_of.ensures ∙ c.unwrap-modes.ensures) (sym c.draining_of.ensures ∙ c.unwrap-draining.ensures)))

pub returns-clause-spelled : goal.returns-clause-spelled
returns-clause-spelled c =
    let same : c.unwrap.result ≡ state_of c.fill.new.sets c.fill-2.new.sets c.unwrap-modes.result c.unwrap-draining.result c.none.result =
    rw c.unwrap.ensures at c.new.ensures.value in
    rw (same, c.none.ensures) (fixed_spelled c.args.bytes.now c.requires.long c.requires.bounds c.fill.result c.fill-2.result
    c.fill.new.sets c.fill-2.new.sets c.unwrap-modes.result c.unwrap-draining.result
    c.fill.ensures.known c.fill.ensures.unknown c.fill-2.ensures.known c.fill-2.ensures.unknown
    (sym c.modes_of.ensures ∙ c.unwrap-modes.ensures) (sym c.draining_of.ensures ∙ c.unwrap-draining.ensures))
