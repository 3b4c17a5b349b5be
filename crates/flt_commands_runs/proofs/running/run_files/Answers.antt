use Rattle.std.proofs.Common.{◌≡◌, Err, List, ◌∷◌, ℕ, Bor, map, refl, rules, sym}
use Rattle.std.proofs.lemmas.List.{length-map, take_rest}
use Rattle.flt_files.specs.Inputs.{unread}
use Rattle.flt_files.proofs.Readings.{says_of_first}
use Rattle.flt_commands_runs.specs.Running.{IsRan}
use Rattle.flt_files.specs.declared.failure.Failure.TheVariants.{OutOfMemory}
use Rattle.flt_commands_runs.proofs.running.run_files.Goals as goal

pub returns-in_err-push : goal.returns-in_err-push
returns-in_err-push g c =
    let fails : c.from_residual.result ≡ Err OutOfMemory = search rules in
    rw fails (unread OutOfMemory tt)

pub returns-in_err-extend_from_slice : goal.returns-in_err-extend_from_slice
returns-in_err-extend_from_slice g c =
    let fails : c.from_residual-in_err-extend_from_slice.result ≡ Err OutOfMemory = search rules in
    rw fails (unread OutOfMemory tt)

pub returns-in_err-contents : goal.returns-in_err-contents
returns-in_err-contents g c =
    let fails : c.from_residual-in_err-contents.result ≡ Err c.in_err-contents.field-0.0 = search rules in
    let names : map (λ (n : Bor (List ℕ)). n.now) c.as_slice.result.now ≡ c.args.script.now
    ∷ map (λ (n : Bor (List ℕ)). n.now) c.args.files.now =
    rw (c.as_slice.ensures.value, c.in_ok-extend_from_slice.ensures.items, c.in_ok-push.ensures.items, c.new-names.ensures.items) refl in
    rw fails (unread _ (rw names at c.in_err-contents.ensures.err))

pub returns : goal.returns
returns g c =
    let names : map (λ (n : Bor (List ℕ)). n.now) c.as_slice.result.now ≡ c.args.script.now
    ∷ map (λ (n : Bor (List ℕ)). n.now) c.args.files.now =
    rw (c.as_slice.ensures.value, c.in_ok-extend_from_slice.ensures.items, c.in_ok-push.ensures.items, c.new-names.ensures.items) refl in
    says_of_first _ IsRan _ _ _ _ c.index.result.now _ c.index.ensures
    (rw c.deref.ensures.value (take_rest _ 1))
    (rw names at c.in_ok-contents.ensures.ok)
    (rw c.as_slice-script.ensures.value at (c.answer_of.ensures _ _ (sym (length-map _ _)) c.run-ran.ensures))
