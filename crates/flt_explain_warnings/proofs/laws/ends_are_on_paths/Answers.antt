use Rattle.flt_explain_warnings.proofs.Reaching.{end_on_path, path_to_end}
use Rattle.flt_explain_warnings.proofs.laws.ends_are_on_paths.Goals as goal

pub returns-clause-found : goal.returns-clause-found
returns-clause-found c = end_on_path

pub returns-clause-first : goal.returns-clause-first
returns-clause-first c = path_to_end
