-- Each operation writes its bytes; the end has none.
use borrow.Author.Rules.{rules}
use Rattle.rules.specs.Exp.{pair_of, exp_cmd}
use Rattle.laws.specs.Buffers.{put-nothing}
use Rattle.stream_cmd.specs.Cmds.{most}
use Rattle.stream_cmd.proofs.Arms.{back-small, arm-room, arm-puts}
use Rattle.stream_cmd.proofs.pairs.exp_cmd.Goals as goal

pub put_pair-requires : goal.put_pair-requires
unfolding exp_cmd pair_of most
put_pair-requires c = search (rules, back-small, arm-room exp_cmd)

pub put_jump-requires : goal.put_jump-requires
unfolding exp_cmd pair_of most
put_jump-requires c = search (rules, back-small, arm-room exp_cmd)

pub put4-requires : goal.put4-requires
unfolding exp_cmd pair_of most
put4-requires c = search (arm-room exp_cmd)

pub put4-requires-in-ColorChange : goal.put4-requires-in-ColorChange
unfolding exp_cmd pair_of most
put4-requires-in-ColorChange c = search (arm-room exp_cmd)

pub returns-in-Stitch : goal.returns-in-Stitch
unfolding exp_cmd pair_of most
returns-in-Stitch c = search (arm-puts exp_cmd)

pub returns-in-Jump : goal.returns-in-Jump
unfolding exp_cmd pair_of most
returns-in-Jump c = search (arm-puts exp_cmd)

pub returns-in-Trim : goal.returns-in-Trim
unfolding exp_cmd pair_of most
returns-in-Trim c = search (arm-puts exp_cmd)

pub returns-in-ColorChange : goal.returns-in-ColorChange
unfolding exp_cmd pair_of most
returns-in-ColorChange c = search (arm-puts exp_cmd)

pub returns-in-End : goal.returns-in-End
unfolding exp_cmd pair_of most
returns-in-End c = search (arm-puts exp_cmd, put-nothing)
