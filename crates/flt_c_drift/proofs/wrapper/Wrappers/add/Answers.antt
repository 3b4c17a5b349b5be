use Rattle.std.proofs.Common.{ap, sym, ◌∙◌, ◌++◌, ◌≡◌, None, map}
use Rattle.std.specs.Prelude.{is_some}
use Rattle.std.specs.Str.{bytes_eq}
use Rattle.indexmap.proofs.CallerLemmas.{insert_entry-new}
use Rattle.flt_c_drift.specs.Wrappers.{wrapped_by, wrapping_of, with_wrapping}
use Rattle.flt_c_drift.proofs.Wrapped.{found_of, more_of, none_of}
use Rattle.flt_c_drift.proofs.wrapper.Wrappers.add.Goals as goal

pub returns : goal.returns
returns c =
    let m = c.self.inside.calls in
    let name = c.args.name.now in
    let key = c.extend_from_slice.new.self in
    let named : key.items ≡ name = c.in_ok-extend_from_slice.ensures.items ∙ ap (λ items. items ++ name) c.new-key.ensures.items in
    let unknown = none_of (wrapped_by c.args.self.now name)
    (ap is_some (sym c.wrapped_by.ensures) ∙ sym c.is_some.ensures ∙ c.if-is_some.false) in
    let none : wrapped_by (map wrapping_of m.entries) name ≡ None = ap (λ ws. wrapped_by ws name) c.self.view_is ∙ unknown in
    let absent = found_of key.items m.entries ∙ ap (wrapped_by (map wrapping_of m.entries)) named ∙ none in
    let more = c.in_ok-insert.ensures.entries ∙ insert_entry-new (λ x y. bytes_eq x.items y.items) m key c.args.call absent in
    more_of m.entries c.insert.new.self.entries key c.args.call name more named none
    ∙ ap (λ ws. with_wrapping ws name c.args.call) c.self.view_is
