use Rattle.std.proofs.Common.{◌∙◌, ap, refl}
use Rattle.json.specs.Reads.{token_of}
use Rattle.flt_server_session.proofs.GoingOut.{all_gone, no_json_left, none_gone, none_left, one_gone}
use Rattle.flt_server_session.proofs.outgoing.put_tokens.Goals as goal

pub loop-token-init : goal.loop-token-init
loop-token-init c = record { before = refl; gone = none_gone c.args.reader.now c.args.writer.now.tokens }

pub returns-in-Bad-clause-put : goal.returns-in-Bad-clause-put
returns-in-Bad-clause-put c =
    all_gone c.args.reader.now c.loop-token.reader c.args.writer.now.tokens c.loop-token.writer.tokens c.loop-token.invariant.gone
    (no_json_left (token_of c.in-Some.token) c.loop-token.reader c.next.new.self c.in-Some.ensures.value (ap token_of c.in-Bad.is))

pub loop-token-preserved : goal.loop-token-preserved
loop-token-preserved c = record {
  before = c.put_token.ensures.before ∙ c.loop-token.invariant.before;
  gone = one_gone c.args.reader.now c.next.new.self c.args.writer.now.tokens c.loop-token.writer.tokens c.put_token.new.writer.tokens
      (token_of c.in-Some.token) c.in_ok-put_token.ensures.put.0 (rw c.in-Some.ensures.value at c.loop-token.invariant.gone)
      c.in_ok-put_token.ensures.put.1 c.in_ok-put_token.ensures.put.2;
}

pub returns-clause-put : goal.returns-clause-put
returns-clause-put c =
    all_gone c.args.reader.now c.loop-token.reader c.args.writer.now.tokens c.loop-token.writer.tokens c.loop-token.invariant.gone
    (none_left c.loop-token.reader c.in_default.ensures.value.0)
