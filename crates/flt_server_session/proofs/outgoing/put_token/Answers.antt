use Rattle.std.proofs.Common.{refl, sym}
use Rattle.json.specs.Reads.{token_of}
use Rattle.json.specs.Token.{key, string}
use Rattle.flt_server_session.proofs.GoingOut.{one_put}
use Rattle.flt_server_session.proofs.outgoing.put_token.Goals as goal

pub returns-in_ok-shown-in-Key-clause-put : goal.returns-in_ok-shown-in-Key-clause-put
returns-in_ok-shown-in-Key-clause-put c =
    rw c.in-Key.is (one_put c.key.result (key c.in-Key.text.now) (key c.as_str.result.now) c.args.writer.now.tokens c.key.new.self.tokens
    (c.as_str.result.now, rw c.as_str.ensures.value c.in_ok-shown-in-Key.ensures, refl) c.key.ensures.ok)

pub returns-in_ok-shown-in-String-clause-put : goal.returns-in_ok-shown-in-String-clause-put
returns-in_ok-shown-in-String-clause-put c =
    rw c.in-String.is (one_put c.string.result (string c.in-String.text.now) (string c.as_str-in-String.result.now) c.args.writer.now.tokens
    c.string.new.self.tokens
    (c.as_str-in-String.result.now, rw c.as_str-in-String.ensures.value c.in_ok-shown-in-String.ensures, refl) c.string.ensures.ok)
