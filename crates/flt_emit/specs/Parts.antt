-- The parts of a source that a reader looks for.
use Rattle.flt_tree.specs.Names.{Text}
use Rattle.flt_emit.specs.Callbacks.{prototype, hook}
use Rattle.flt_emit.specs.Fixed as fixed
use Rattle.flt_emit.specs.Source.{helpers, framed}
use Rattle.flt_emit.specs.declared.part.Part.{Part}
use Rattle.flt_emit.specs.declared.part.Part.TheVariants as part

-- the text of a part
abbrev pub part_text : Part → Text
part_text part.CommentBegin = fixed.comment_begin
part_text part.SourceTitle = fixed.source_title
part_text part.AltitudeTitle = fixed.altitude_title
part_text part.Written = fixed.written
part_text part.Contexts = fixed.contexts
part_text part.QueueFields = fixed.queue_fields
part_text part.GlobalsEnd = fixed.globals_end
part_text part.PreHead = fixed.pre_head
part_text part.PreParameters = fixed.pre_parameters
part_text part.PostHead = fixed.post_head
part_text part.PostParameters = fixed.post_parameters
part_text part.CanceledPrototype = fixed.canceled_prototype
part_text part.DeferredHead = fixed.deferred_head
part_text part.DeferredParameters = fixed.deferred_parameters
part_text part.GenericHead = fixed.generic_head
part_text part.GenericParameters = fixed.generic_parameters
part_text (part.Helpers queue) = helpers queue
part_text (part.Prototype head) = prototype head.now
part_text (part.Hook head) = hook head.now
part_text (part.Framed filter) = framed filter.now
