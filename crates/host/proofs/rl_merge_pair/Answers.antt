-- `host::rl_merge_pair` meets its contract: too short, or what the merge beneath said.
use Rattle.host.proofs.Joining.{pair_said}
use Rattle.host.proofs.rl_merge_pair.Goals as goal

pub returns : goal.returns
returns c = pair_said _ _ _ _ _ c.if-answer-lt-MERGE_WORDS.false _ _ _ c.merge_pair.ensures _ _ c.say_merged.ensures
