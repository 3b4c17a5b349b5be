-- The parts of a value whose numbers can be written.
use Rattle.std.proofs.Common.{◌≡◌, ℕ, List, Option, Some, None, option_map, IfSome}
use Rattle.std.specs.Borrow.{Bor}
use Rattle.json.proofs.Numbered.{HasNumbers-get}
use Rattle.json.specs.Find.{get}
use Rattle.json.specs.Json.{Json}
use Rattle.json.specs.Tree.{HasNumbers}
use Rattle.json.specs.Value.{value_view}
use Rattle.json.specs.declared.value.Value.{Value}

-- a member of a value can be written where the value can
pub part_has_numbers : {A : Type 0} (name : List ℕ) (j : Json) (r : Option (Bor (Value A))) → HasNumbers j →
    option_map (λ v. value_view v.now) r ≡ get name j → IfSome r (λ v. HasNumbers (value_view v.now))
part_has_numbers name j None h e = tt
part_has_numbers name j (Some v) h e = HasNumbers-get name j (value_view v.now) h e
