use Rattle.std.proofs.Common.{◌≡◌, length, map, refl, ◌∙◌, arith}
use Rattle.flt_c_headers.specs.declared.headers.HeaderFile.{HeaderFile}
use Rattle.flt_c_headers.proofs.Asking.{next_is}
use Rattle.flt_c_headers.proofs.headers.Headers.next_file.Goals as goal

pub returns : goal.returns
returns c =
    let s = c.self.inside in
    let file = c.in-Some.file.now in
    let copy : HeaderFile = record { name = c.in_ok-name.name; bytes = c.in_ok-bytes.bytes; base = file.base } in
    let read = c.in-Some.ensures.lookup in
    let counted : c.len.result ≡ length s.tokens.items = omega (arith, c.len.ensures, s.tokens.ok.0) in
    next_is (map (λ t. t.items) s.asked.keys) s.answers.items s.files.items c.deref.result.now s.tokens.items s.next c.len.result
    c.args.self.now file copy c.self.view_is c.self.invariant c.deref.ensures.value counted read.0 read.1
    (c.in_ok-name.ensures.items ∙ c.as_slice.ensures.value) (c.in_ok-bytes.ensures.items ∙ c.as_slice-2.ensures.value) refl
