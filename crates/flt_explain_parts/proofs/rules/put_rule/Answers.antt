use Rattle.std.proofs.Common.{refl}
use Rattle.flt_explain_parts.specs.Rules.{IsPage, IsRule, id_of, rule_item}
use Rattle.flt_explain_parts.proofs.rules.put_rule.Goals as goal

pub returns : goal.returns
returns c =
    let own : IsPage (id_of c.args.reported) c.page-page.result = record {
      known = rw c.id_of-id.ensures at c.page-page.ensures.known;
      begins = rw c.id_of-id.ensures at c.page-page.ensures.begins;
    } in
    let is : IsRule c.args.reported (rule_item (id_of c.args.reported) c.args.reported c.page-page.result) = record {
      page = c.page-page.result;
      own = own;
      is = refl;
    } in
    (_, is, rw c.id_of-id.ensures at c.in_ok-put_rule_item.ensures.ok)
