use Rattle.std.proofs.Common.{◌≡◌, map, string_bytes, take}
use Rattle.flt_joined.specs.Texts.{AreNamed, Text, givens}
use Rattle.flt_joined.proofs.joined.source_files.Given as goal

abbrev pub invariant-loop-number : goal.invariant-loop-number
invariant-loop-number l = (told : Text → Text) → map string_bytes l.names ≡ map (λ f. told f.name.now) l.files →
    AreNamed told (givens (take l.number l.files)) l.all.items
