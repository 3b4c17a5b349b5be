use Rattle.std.proofs.Common.{◌∙◌, ap, sym}
use Rattle.flt_stack_script.specs.ScriptText.{command_of}
use Rattle.flt_stack_script.proofs.CommandLaws.{reads_made, made_is, made_none}
use Rattle.flt_stack_script.proofs.reader.command_at.Goals as goal

pub returns-in_err-ok-clause-read : goal.returns-in_err-ok-clause-read
returns-in_err-ok-clause-read c = λ command good behind e.
    let read = reads_made c.args.text.now.now c.read_move.new.reader.now c.read_move.result c.if-first-eq114.false
    c.read_move.ensures.fails c.read_move.ensures.read command good behind e in
    absurd (made_none c.read_move.result read.0 read.2 (sym c.ok-2.ensures.value ∙ c.in_err-ok.was))

pub returns-clause-read : goal.returns-clause-read
returns-clause-read c = λ command good behind e.
    let read = reads_made c.args.text.now.now c.read_move.new.reader.now c.read_move.result c.if-first-eq114.false
    c.read_move.ensures.fails c.read_move.ensures.read command good behind e in
    let same = made_is c.read_move.result read.0 c.in_ok-ok.field-0 read.2 (sym c.ok-2.ensures.value ∙ c.in_ok-ok.was) in
    (c.command_of.ensures ∙ ap command_of same ∙ read.1, read.3)
