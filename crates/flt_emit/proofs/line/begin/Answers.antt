use Rattle.std.proofs.Common.{ℕ, List, ◌∷◌, [], ◌++◌, ap, sym, ◌∙◌, append_assoc}
use Rattle.flt_emit.specs.Line.{indentation}
use Rattle.flt_emit.proofs.Appending.{deeper}
use Rattle.flt_emit.proofs.line.begin.Goals as goal

pub loop-at-preserved : goal.loop-at-preserved
loop-at-preserved c =
    let before = c.args.out.now.items in
    let at = c.loop-at._at in
    c.in_ok-extend_from_slice.ensures.items
    ∙ ap (λ (l : List ℕ). l ++ 32 ∷ 32 ∷ 32 ∷ 32 ∷ []) c.loop-at.invariant
    ∙ append_assoc before (indentation at) (32 ∷ 32 ∷ 32 ∷ 32 ∷ [])
    ∙ ap (λ (l : List ℕ). before ++ l) (sym (deeper at))
