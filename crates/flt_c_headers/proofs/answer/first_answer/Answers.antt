use Rattle.std.proofs.Common.{map}
use Rattle.flt_c_headers.proofs.Linking.{ask_all, ask_last, ask_more, ask_none}
use Rattle.flt_c_headers.proofs.answer.first_answer.Goals as goal

pub loop-rest-init : goal.loop-rest-init
loop-rest-init g c = ask_all (g.I.HeaderFiles.gives c.args.inputs.now) (map (λ name. name.items) c.args.names.now) c.args.headers.now

pub returns-in-Some : goal.returns-in-Some
returns-in-Some g c =
    ask_last (λ name. name.items) (g.I.HeaderFiles.gives c.args.inputs.now) (map (λ name. name.items) c.args.names.now) c.args.headers.now
    c.loop-rest.rest.now c.loop-rest.headers c.answer.new.headers c.name-item.result c.as_slice.result.now c.in-Some.number
    c.loop-rest.invariant c.in-len1-up.len_at_least c.name-item.is c.as_slice.ensures.value (rw c.in-Some.is at c.in_ok-number.ensures)

pub loop-rest-preserved : goal.loop-rest-preserved
loop-rest-preserved g c =
    ask_more (λ name. name.items) (g.I.HeaderFiles.gives c.args.inputs.now) (map (λ name. name.items) c.args.names.now) c.args.headers.now
    c.loop-rest.rest.now c.loop-rest.headers c.answer.new.headers c.name-item.result c.as_slice.result.now
    c.loop-rest.invariant c.in-len1-up.len_at_least c.name-item.is c.as_slice.ensures.value (rw c.in-None.is at c.in_ok-number.ensures)

pub returns : goal.returns
returns g c =
    ask_none (λ name. name.items) (g.I.HeaderFiles.gives c.args.inputs.now) (map (λ name. name.items) c.args.names.now) c.args.headers.now
    c.loop-rest.rest.now c.loop-rest.headers c.loop-rest.invariant c.in_default.len_below
