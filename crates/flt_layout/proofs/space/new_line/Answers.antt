use Rattle.std.proofs.Common.{ℕ, List, ◌∷◌, [], ◌++◌, ap, sym, ◌∙◌, append_assoc}
use Rattle.flt_layout.specs.Layout.{new_line}
use Rattle.flt_print.proofs.Appending.{deeper}
use Rattle.flt_layout.proofs.space.new_line.Goals as goal

pub loop-at-preserved : goal.loop-at-preserved
loop-at-preserved c =
    let before = c.args.out.now.items in
    let at = c.loop-at._at in
    c.in_ok-extend_from_slice.ensures.items
    ∙ ap (λ (l : List ℕ). l ++ 32 ∷ 32 ∷ []) c.loop-at.invariant
    ∙ append_assoc before (new_line at) (32 ∷ 32 ∷ [])
    ∙ ap (λ (l : List ℕ). before ++ 10 ∷ l) (sym (deeper at))
