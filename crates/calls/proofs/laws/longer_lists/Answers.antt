use Rattle.calls.proofs.Rising.{every_call, every_list}
use Rattle.calls.proofs.laws.longer_lists.Goals as goal

pub returns : goal.returns
returns c = record { call = every_call; list = every_list }
