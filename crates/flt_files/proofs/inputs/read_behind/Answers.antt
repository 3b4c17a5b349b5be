use Rattle.std.proofs.Common.{◌≡◌, ◌+◌, ◌∙◌, ap, [], inl, inr, refl, get_or, Bor, false, ◌&&◌, ◌||◌}
use Rattle.std.proofs.lemmas.List.{length_push}
use Rattle.flt_files.proofs.Firsts.{and_false, unreadable, given_more, used_more}
use Rattle.flt_files.specs.Inputs.{Text, is_standard}
use Rattle.flt_files.proofs.inputs.read_behind.Goals as goal
use Rattle.flt_files.proofs.inputs.read_behind.Goals.{else-is_used-via-then-is_used+else-is_standard, else-is_used-via-else-is_used}
use Rattle.flt_files.proofs.inputs.read_behind.Goals.{then-is_used-2, else-is_used-2}

pub returns-then-is_standard-clause-err : goal.returns-then-is_standard-clause-err
returns-then-is_standard-clause-err g c =
    unreadable _ _ c.args.names.now c.loop-name.name-index _ _ c.loop-name-test.true refl _ c.loop-name.invariant.used _
    c.loop-name.invariant.given (inl (rw (← c.is_standard.ensures, c.if-is_standard.true, c.if-is_used.true) refl))

pub returns-in-None-clause-err : goal.returns-in-None-clause-err
returns-in-None-clause-err g c =
    unreadable _ _ c.args.names.now c.loop-name.name-index _ _ c.loop-name-test.true refl _ c.loop-name.invariant.used _
    c.loop-name.invariant.given (inr (rw c.in-None.is at c.in_ok-text.ensures))

pub loop-name-preserved : goal.loop-name-preserved
loop-name-preserved g c =
    let name : Bor Text = get_or c.args.names.now c.loop-name.name-index (record { ref_ptr = (0, 0); now = [] }) in
    let other : is_standard name.now && c.loop-name.is_used ≡ false =
    elim c.else-is_used.branch [
      | else-is_used-via-then-is_used+else-is_standard w ↦ rw (← w.is_standard.ensures, w.if-is_standard.false) refl
      | else-is_used-via-else-is_used w ↦ rw w.if-is_used.false (and_false _)
    ] in
    let used : c.if-is_used-2.is_used ≡ (c.loop-name.is_used || is_standard name.now) =
    elim c.if-is_used-2.branch [
      | then-is_used-2 w ↦ rw (w.is_used-is, w.if-is_used-2.true) refl
      | else-is_used-2 w ↦ rw (w.is_used-is, w.if-is_used-2.false) w.is_standard-is_used.ensures
    ] in
    record {
      given = given_more _ _ c.args.names.now c.loop-name.name-index name _ c.loop-name-test.true refl _ c.loop-name.invariant.used
          c.loop-name.texts.items _ c.in-Some.text c.loop-name.invariant.given (rw c.in-Some.is at c.in_ok-text.ensures) other
          c.in_ok-push-in-Some.ensures.items;
      many = rw c.in_ok-push-in-Some.ensures.items
          (length_push c.loop-name.texts.items c.in-Some.text ∙ ap (λ n. n + 1) c.loop-name.invariant.many);
      used = used_more (g.I.Inputs.gives c.args.inputs.now) _ c.args.names.now c.loop-name.name-index name _ c.loop-name-test.true
          refl _ c.loop-name.invariant.used _ used;
    }
