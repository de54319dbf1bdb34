-- Tag, length and content, one after the other.
use borrow.Author.Rules.{rules}
use Rattle.rules.specs.Vocabulary.{little}
use Rattle.rules.specs.Jobs.{field_of}
use Rattle.laws.specs.Buffers.{put-put}
use Rattle.export_job.proofs.put_field.Goals as goal

pub put-len-requires : goal.put-len-requires
unfolding little
put-len-requires c = search rules

pub put_short-start-requires : goal.put_short-start-requires
unfolding little
put_short-start-requires c = search rules

pub put_text-requires : goal.put_text-requires
unfolding little
put_text-requires c = search rules

pub returns : goal.returns
unfolding field_of
returns c =
    put-put (put-put c.put-len.ensures c.put_short-start.ensures) c.put_text.ensures
