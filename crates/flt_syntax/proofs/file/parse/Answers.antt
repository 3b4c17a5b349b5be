use Rattle.flt_syntax.proofs.Laws.{fault_result, found_result, well_formed_result}
use Rattle.flt_syntax.proofs.file.parse.Goals as goal

pub returns-clause-well_formed : goal.returns-clause-well_formed
returns-clause-well_formed c = well_formed_result c.args.text.now c.read_text.result c.read_text.ensures.value

pub returns-clause-read : goal.returns-clause-read
returns-clause-read c = found_result c.args.text.now c.read_text.result c.read_text.ensures.value c.read_text.ensures.fault

pub returns-clause-fault : goal.returns-clause-fault
returns-clause-fault c = fault_result c.args.text.now c.read_text.result c.read_text.ensures.fault
