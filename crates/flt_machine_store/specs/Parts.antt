-- What the parts of the store stand for in the machine.
use Rattle.std.specs.Prelude.{option_map}
use Rattle.flt_cbdq.specs.declared.entry.Entry as cbdq
use Rattle.flt_ctx.specs.Contexts as ctx
use Rattle.flt_ctx.specs.declared.key.Key as ctx_key
use Rattle.flt_ctx.specs.declared.key.Target.{Target}
use Rattle.flt_ctx.specs.declared.key.Target.TheVariants as target
use Rattle.flt_model.specs.World as world
use Rattle.flt_model.specs.declared.parts.Entry.{Entry}
use Rattle.flt_model.specs.declared.parts.Link.{Link}
use Rattle.flt_model.specs.declared.moves.Key.{Key}
use Rattle.flt_model.specs.declared.moves.Key.TheVariants as key

-- what a context is linked to
abbrev pub key_of : Target → Key
key_of (target.Stream f) = key.Stream f
key_of target.Instance = key.Instance

-- the same with the filter
abbrev pub link_of : ctx_key.Key → Link
link_of k = record { filter = k.filter; key = key_of k.target }

-- a context
abbrev pub context_of : ctx.Context → world.Context
context_of c = record { owner = c.owner; references = c.references; value = c.value; link = option_map link_of c.link }

-- an entry of a queue
abbrev pub entry_of : cbdq.Entry → Entry
entry_of e = record { visit = e.visit; context = e.context }
