use Rattle.std.proofs.Common.{false, get_or, map, refl, sym, ◌∙◌}
use Rattle.flt_c_tokens.specs.declared.token.Kind.TheVariants.{Name}
use Rattle.flt_c_tokens.specs.declared.token.Token.{Token}
use Rattle.flt_c_headers.proofs.Linking.{first_read, link_all, link_end, link_line, link_other}
use Rattle.flt_c_headers.proofs.linked.linked.Goals as goal

-- what is read where there is no token
abbrev blank : Token
blank = record { kind = Name; is_glued = false; word = 0; start = 0; line = 0; column = 0 }

pub loop-rest-init : goal.loop-rest-init
loop-rest-init g c =
    link_all (g.I.HeaderFiles.gives c.args.inputs.now) (map (λ dir. dir.now) c.args.folders.now) c.args.name.now c.args.file.now
    c.args.spellings.now c.args.tokens.now c.args.headers.now c.new-linked.result.items c.new-linked.ensures.items

pub loop-rest-preserved-then-not-is_directive : goal.loop-rest-preserved-then-not-is_directive
loop-rest-preserved-then-not-is_directive g c =
    link_other (g.I.HeaderFiles.gives c.args.inputs.now) (map (λ dir. dir.now) c.args.folders.now) c.args.name.now c.args.file.now
    c.args.spellings.now c.args.tokens.now c.args.headers.now c.loop-rest.rest.now c.loop-rest.headers c.loop-rest.linked.items
    c.push.new.self.items (get_or c.loop-rest.rest.now 0 blank) c.loop-rest.invariant c.in-len1-up.len_at_least
    (first_read c.loop-rest.rest.now blank c.in-len1-up.len_at_least) c.in_ok-push.ensures.items
    (sym c.is_directive.ensures ∙ c.if-not-is_directive.true)

pub loop-rest-preserved : goal.loop-rest-preserved
loop-rest-preserved g c =
    link_line (g.I.HeaderFiles.gives c.args.inputs.now) (map (λ dir. dir.now) c.args.folders.now) c.args.name.now c.args.file.now
    c.args.spellings.now c.args.tokens.now c.args.headers.now c.loop-rest.rest.now _ c.parted.result.0.now c.parted.result.1.now
    c.loop-rest.headers c.link_line.new.headers c.loop-rest.linked.items c.push.new.self.items c.link_line.new.linked.items
    (get_or c.loop-rest.rest.now 0 blank) c.loop-rest.invariant c.in-len1-up.len_at_least
    (first_read c.loop-rest.rest.now blank c.in-len1-up.len_at_least) refl c.parted.ensures.line c.parted.ensures.behind
    c.in_ok-push.ensures.items (sym c.is_directive.ensures ∙ c.if-not-is_directive.false) c.in_ok-link_line.ensures

pub returns : goal.returns
returns g c =
    link_end (g.I.HeaderFiles.gives c.args.inputs.now) (map (λ dir. dir.now) c.args.folders.now) c.args.name.now c.args.file.now
    c.args.spellings.now c.args.tokens.now c.args.headers.now c.loop-rest.rest.now c.loop-rest.headers c.loop-rest.linked.items
    c.loop-rest.invariant c.in_default.len_below
