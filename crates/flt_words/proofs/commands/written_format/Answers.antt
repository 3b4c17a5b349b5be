use Rattle.std.proofs.Common.{◌≡◌, ◌∙◌, ℕ, List, Bor, map, refl}
use Rattle.std.specs.List.{list_any}
use Rattle.clap.proofs.WalkLemmas.{list_any-map}
use Rattle.flt_words.specs.Commands as spec
use Rattle.flt_words.proofs.commands.written_format.Goals as goal

pub returns-then-names_input : goal.returns-then-names_input
returns-then-names_input c =
    let named : c.names_input.result ≡ list_any spec.is_input (map (λ name. name.now) c.args.files.items) =
    rw c.as_slice.ensures.value at c.names_input.ensures
    ∙ list_any-map spec.is_input (λ (name : Bor (List ℕ)). name.now) c.args.files.items in
    rw (← named, c.if-names_input.true) refl

pub returns : goal.returns
returns c =
    let named : c.names_input.result ≡ list_any spec.is_input (map (λ name. name.now) c.args.files.items) =
    rw c.as_slice.ensures.value at c.names_input.ensures
    ∙ list_any-map spec.is_input (λ (name : Bor (List ℕ)). name.now) c.args.files.items in
    rw (← named, c.if-names_input.false) refl
