use Rattle.flt_server_session.proofs.session.resulting.Goals as goal

pub returns : goal.returns
returns c = record {
  response = (c.args.text.now, rw c.in_ok-response.ensures at c.responding.ensures.response);
  notices = rw c.responding.ensures.notifications tt;
  ends = c.responding.ensures.ends;
}
