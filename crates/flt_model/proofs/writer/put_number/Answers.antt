use Rattle.std.proofs.Common.{arith}
use Rattle.flt_model.proofs.DecimalDigits.{one_digit, two_digits, three_digits, four_digits, five_digits}
use Rattle.flt_model.proofs.DecimalDigits.{more_digits, number_written, rest_written}
use Rattle.flt_model.proofs.writer.put_number.Goals as goal

pub returns-then-tens-eq0-clause-ok : goal.returns-then-tens-eq0-clause-ok
returns-then-tens-eq0-clause-ok g c =
    number_written c.put_all.result _ _ _ _ (one_digit c.args.number c.last_digit-a.result c.args.end (omega arith) c.last_digit-a.ensures)
    c.put_all.ensures.ok

pub returns-then-hundreds-eq0-clause-ok : goal.returns-then-hundreds-eq0-clause-ok
returns-then-hundreds-eq0-clause-ok g c =
    number_written c.put_all-then-hundreds-eq0.result _ _ _ _
    (two_digits c.args.number c.last_digit-a.result c.last_digit-b.result c.args.end (omega arith) (omega arith) (omega arith)
    c.last_digit-a.ensures c.last_digit-b.ensures)
    c.put_all-then-hundreds-eq0.ensures.ok

pub returns-then-thousands-eq0-clause-ok : goal.returns-then-thousands-eq0-clause-ok
returns-then-thousands-eq0-clause-ok g c =
    number_written c.put_all-then-thousands-eq0.result _ _ _ _
    (three_digits c.args.number c.last_digit-a.result c.last_digit-b.result c.last_digit-c.result c.args.end (omega arith) (omega arith)
    (omega arith) c.last_digit-a.ensures c.last_digit-b.ensures c.last_digit-c.ensures)
    c.put_all-then-thousands-eq0.ensures.ok

pub returns-then-others-eq0-clause-ok : goal.returns-then-others-eq0-clause-ok
returns-then-others-eq0-clause-ok g c =
    number_written c.put_all-then-others-eq0.result _ _ _ _
    (four_digits c.args.number c.last_digit-a.result c.last_digit-b.result c.last_digit-c.result c.last_digit-d.result c.args.end
    (omega arith) (omega arith) (omega arith) c.last_digit-a.ensures c.last_digit-b.ensures c.last_digit-c.ensures c.last_digit-d.ensures)
    c.put_all-then-others-eq0.ensures.ok

pub returns-then-others-lt10-clause-ok : goal.returns-then-others-lt10-clause-ok
returns-then-others-lt10-clause-ok g c =
    number_written c.put_all-then-others-lt10.result _ _ _ _
    (five_digits c.args.number c.last_digit-a.result c.last_digit-b.result c.last_digit-c.result c.last_digit-d.result c.last_digit-e.result
    c.args.end (omega arith) (omega arith) (omega arith) c.last_digit-a.ensures c.last_digit-b.ensures c.last_digit-c.ensures
    c.last_digit-d.ensures c.last_digit-e.ensures)
    c.put_all-then-others-lt10.ensures.ok

pub returns-clause-ok : goal.returns-clause-ok
returns-clause-ok g c =
    rest_written c.put_all-2.result _ _ _ _ _ _
    (more_digits c.args.number c.last_digit-a.result c.last_digit-b.result c.last_digit-c.result c.last_digit-d.result c.last_digit-e.result
    c.args.end (omega arith) (omega arith) c.last_digit-a.ensures c.last_digit-b.ensures c.last_digit-c.ensures c.last_digit-d.ensures
    c.last_digit-e.ensures)
    c.in_ok-put_decimal.ensures.ok c.put_all-2.ensures.ok
