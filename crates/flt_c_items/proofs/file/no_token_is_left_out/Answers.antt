use Rattle.flt_c_items.proofs.AllTokens.{all_follow, no_token_is_left_out}
use Rattle.flt_c_items.proofs.file.no_token_is_left_out.Goals as goal

pub returns-clause-ranges : goal.returns-clause-ranges
returns-clause-ranges c = all_follow

pub returns-clause-tokens : goal.returns-clause-tokens
returns-clause-tokens c = no_token_is_left_out
