use Rattle.std.proofs.Common.{ap, ◌∙◌}
use Rattle.flt_replay_records.specs.Kept.{Contents, contents}
use Rattle.flt_replay_records.specs.declared.rest.Part.TheVariants.{Block, Repeat}
use Rattle.flt_replay_records.proofs.Remaining.{goes_on_with, turn_out, none_left}
use Rattle.flt_replay_records.proofs.rest.Rest.next.Goals as goal

pub loop-self-preserved : goal.loop-self-preserved
loop-self-preserved c =
    record {
      rest =
          goes_on_with c.loop-self.self.block.now c.loop-self.self.outer.now _ (contents c.loop-self.kept).after
          (contents c.resume.new.self).after c.in_default.len_below c.in_default-outer.len_below c.loop-self.invariant.rest
          (Block c.in-Some-Block.block) (cc (c.in-Some-Block.ensures.0, c.in-Some-Block.field-0-is));
      others =
          c.in-Some-Block.ensures.1
          ∙ ap (λ (k : Contents). record k { after = (contents c.resume.new.self).after }) c.loop-self.invariant.others;
    }

pub returns-in-Some-Repeat-clause-rest : goal.returns-in-Some-Repeat-clause-rest
returns-in-Some-Repeat-clause-rest c =
    turn_out c.loop-self.self.block.now c.loop-self.self.outer.now _ (contents c.loop-self.kept).after (contents c.resume.new.self).after
    c.in_default.len_below c.in_default-outer.len_below c.loop-self.invariant.rest
    (Repeat c.in-Some-Repeat.span c.in-Some-Repeat.turns c.in-Some-Repeat.body)
    (cc (c.in-Some-Repeat.ensures.0, c.in-Some-Repeat.field-0-is))

pub returns-in-None-clause-rest : goal.returns-in-None-clause-rest
returns-in-None-clause-rest c =
    none_left c.loop-self.self.block.now c.loop-self.self.outer.now _ (contents c.loop-self.kept).after (contents c.resume.new.self).after
    c.in_default.len_below c.in_default-outer.len_below c.loop-self.invariant.rest
    c.in-None.ensures.0 (ap (λ (k : Contents). k.after) c.in-None.ensures.1 ∙ c.in-None.ensures.0)
