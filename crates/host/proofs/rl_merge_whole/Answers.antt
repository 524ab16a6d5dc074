-- `host::rl_merge_whole` meets its contract: too short, or what the whole merge beneath said.
use Rattle.host.proofs.Joining.{all_said}
use Rattle.host.proofs.rl_merge_whole.Goals as goal

pub returns : goal.returns
returns c =
    let k = c.merge_whole-merged in
    all_said _ _ _ _ _ _ _ c.if-answer-lt-MERGE_WORDS.false _ _ _ _ _ k.ensures _ _ c.say_merged.ensures
