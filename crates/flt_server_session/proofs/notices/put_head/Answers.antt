use Rattle.json.specs.Token.{Token}
use Rattle.std.proofs.Common.{List}
use Rattle.flt_server_session.proofs.GoingOut.{then, then_if}
use Rattle.flt_server_session.proofs.notices.put_head.Goals as goal

pub returns-clause-put : goal.returns-clause-put
returns-clause-put c =
    let old : List Token = c.args.writer.now.tokens in
    let named = then old c.begin_object.new.self.tokens c.put_string.new.writer.tokens _ _
    c.in_ok-begin_object.ensures.ok c.in_ok-put_string.ensures.put in
    let called = then old c.put_string.new.writer.tokens c.put_string-2.new.writer.tokens _ _ named c.in_ok-put_string-2.ensures.put in
    let given = then old c.put_string-2.new.writer.tokens c.key.new.self.tokens _ _ called c.in_ok-key.ensures.ok in
    let opened = then old c.key.new.self.tokens c.begin_object-2.new.self.tokens _ _ given c.in_ok-begin_object-2.ensures.ok in
    let placed = then old c.begin_object-2.new.self.tokens c.put_string-3.new.writer.tokens _ _ opened c.in_ok-put_string-3.ensures.put in
    let dated = then old c.put_string-3.new.writer.tokens c.put_version.new.writer.tokens _ _ placed c.in_ok-put_version.ensures.put in
    then_if c.key-2.result old c.put_version.new.writer.tokens c.key-2.new.self.tokens _ _ dated c.key-2.ensures.ok
