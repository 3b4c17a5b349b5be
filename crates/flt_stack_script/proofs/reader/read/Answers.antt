use Rattle.std.proofs.Common.{◌≡◌, true, [], sym, subst, ◌∙◌, None, Some}
use Rattle.std.specs.Prelude.{option_map}
use Rattle.flt_model.specs.Program.{filters_of}
use Rattle.flt_model.specs.Streams.{Text}
use Rattle.flt_stack_script.specs.ScriptText.{Commands, may_follow}
use Rattle.flt_stack_script.proofs.ScriptLaws.{Reached, Finds, at_start, one_line, only_script, whole_script, is_reached_script}
use Rattle.flt_stack_script.proofs.ScriptLaws.{first_fault, no_script, all_commands, some_left, none_left}
use Rattle.flt_stack_script.proofs.reader.read.Goals as goal

pub loop-left-init : goal.loop-left-init
loop-left-init c = rw c.new-found.ensures (at_start (option_map (λ trees. filters_of trees.now) c.args.stack) c.args.text.now)

pub loop-left-preserved : goal.loop-left-preserved
loop-left-preserved c =
    let stack = option_map (λ trees. filters_of trees.now) c.args.stack in
    let command = c.in-Some.command in
    let Follows : Commands → Type 0 = λ z. may_follow stack z command ≡ true in
    let Reads : Commands → Type 0 = λ z. Finds stack z c.loop-left.left.now (Some command) c.next_command.new.text.now in
    let follows = subst Follows c.as_slice.ensures c.in-Some.ensures.follows in
    let reads = subst Reads c.as_slice.ensures c.in-Some.ensures.read in
    rw c.in_ok-push-in-Some.ensures.ok
    (one_line stack c.args.text.now c.loop-left.found c.loop-left.left.now command c.next_command.new.text.now
    c.loop-left.invariant c.in-Some.ensures.spelled follows reads)

pub returns-in-None-clause-read : goal.returns-in-None-clause-read
returns-in-None-clause-read c = λ commands good e.
    let stack = option_map (λ trees. filters_of trees.now) c.args.stack in
    let Reads : Commands → Type 0 = λ z. Finds stack z c.loop-left.left.now None c.next_command.new.text.now in
    let some = some_left c.loop-left.left.now (sym c.is_empty.ensures ∙ c.loop-left-test.true) in
    let reads = subst Reads c.as_slice.ensures c.in-None.ensures.read in
    absurd (no_script stack c.args.text.now c.loop-left.found c.loop-left.left.now c.next_command.new.text.now
    c.loop-left.invariant some reads commands good e)

pub returns-in-None-clause-fault : goal.returns-in-None-clause-fault
returns-in-None-clause-fault c =
    let stack = option_map (λ trees. filters_of trees.now) c.args.stack in
    let Reads : Commands → Type 0 = λ z. Finds stack z c.loop-left.left.now None c.next_command.new.text.now in
    let some = some_left c.loop-left.left.now (sym c.is_empty.ensures ∙ c.loop-left-test.true) in
    let reads = subst Reads c.as_slice.ensures c.in-None.ensures.read in
    rw c.len.ensures (first_fault stack c.args.text.now c.loop-left.found c.loop-left.left.now c.next_command.new.text.now
    c.loop-left.invariant some reads)

pub new-requires : goal.new-requires
new-requires c =
    let stack = option_map (λ trees. filters_of trees.now) c.args.stack in
    all_commands stack [] c.loop-left.found
    (is_reached_script stack c.args.text.now c.loop-left.found c.loop-left.left.now c.loop-left.invariant)

pub returns-clause-spelled : goal.returns-clause-spelled
returns-clause-spelled c =
    let stack = option_map (λ trees. filters_of trees.now) c.args.stack in
    let At : Text → Type 0 = λ z. Reached stack c.args.text.now c.loop-left.found z in
    let at = subst At (none_left c.loop-left.left.now (sym c.is_empty.ensures ∙ c.loop-left-test.false)) c.loop-left.invariant in
    rw c.new.ensures (whole_script stack c.args.text.now c.loop-left.found at)

pub returns-clause-script : goal.returns-clause-script
returns-clause-script c =
    let stack = option_map (λ trees. filters_of trees.now) c.args.stack in
    rw c.new.ensures (is_reached_script stack c.args.text.now c.loop-left.found c.loop-left.left.now c.loop-left.invariant)

pub returns-clause-read : goal.returns-clause-read
returns-clause-read c = λ commands good e.
    let stack = option_map (λ trees. filters_of trees.now) c.args.stack in
    let At : Text → Type 0 = λ z. Reached stack c.args.text.now c.loop-left.found z in
    let at = subst At (none_left c.loop-left.left.now (sym c.is_empty.ensures ∙ c.loop-left-test.false)) c.loop-left.invariant in
    c.new.ensures ∙ only_script stack c.args.text.now c.loop-left.found at commands good e
