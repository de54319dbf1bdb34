-- Each operation writes its records.
use borrow.Author.Rules.{rules}
use Rattle.rules.specs.Dst.{dst_bytes, dst_cmd}
use Rattle.stream_cmd.specs.Cmds.{most}
use Rattle.stream_cmd.proofs.Arms.{back-small, arm-room, arm-puts}
use Rattle.stream_cmd.proofs.triples.dst_cmd.Goals as goal

pub put_move-requires : goal.put_move-requires
unfolding dst_cmd dst_bytes most
put_move-requires c = search (rules, back-small, arm-room dst_cmd)

pub put_move-requires-in-Jump : goal.put_move-requires-in-Jump
unfolding dst_cmd dst_bytes most
put_move-requires-in-Jump c = search (rules, back-small, arm-room dst_cmd)

pub put_trim-requires : goal.put_trim-requires
unfolding dst_cmd dst_bytes most
put_trim-requires c = search (arm-room dst_cmd)

pub put3-requires : goal.put3-requires
unfolding dst_cmd dst_bytes most
put3-requires c = search (arm-room dst_cmd)

pub put3-requires-in-End : goal.put3-requires-in-End
unfolding dst_cmd dst_bytes most
put3-requires-in-End c = search (arm-room dst_cmd)

pub returns-in-Stitch : goal.returns-in-Stitch
unfolding dst_cmd dst_bytes most
returns-in-Stitch c = search (arm-puts dst_cmd)

pub returns-in-Jump : goal.returns-in-Jump
unfolding dst_cmd dst_bytes most
returns-in-Jump c = search (arm-puts dst_cmd)

pub returns-in-Trim : goal.returns-in-Trim
unfolding dst_cmd dst_bytes most
returns-in-Trim c = search (arm-puts dst_cmd)

pub returns-in-ColorChange : goal.returns-in-ColorChange
unfolding dst_cmd dst_bytes most
returns-in-ColorChange c = search (arm-puts dst_cmd)

pub returns-in-End : goal.returns-in-End
unfolding dst_cmd dst_bytes most
returns-in-End c = search (arm-puts dst_cmd)
