use Rattle.flt_explain_parts.proofs.Adding.{behind}
use Rattle.flt_explain_forms.proofs.places.put_region_members.Goals as goal

pub returns : goal.returns
returns c =
    let other = rw c.file_at.ensures at c.in_ok-put_other_file.ensures.ok in
    let place = rw (c.file_place.ensures, c.file_place-2.ensures) at c.put_place.ensures in
    behind other place
