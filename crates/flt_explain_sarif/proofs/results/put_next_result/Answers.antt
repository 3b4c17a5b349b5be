use Rattle.flt_explain_sarif.proofs.results.put_next_result.Goals as goal

pub returns : goal.returns
returns c =
    let made = rw (c.as_str.ensures.value, c.in_ok-key.ensures) at c.in_ok-print.ensures in
    (made.1, rw (c.as_str-2.ensures.value, made.0, c.len.ensures) at c.in_ok-put_result.ensures.ok)
