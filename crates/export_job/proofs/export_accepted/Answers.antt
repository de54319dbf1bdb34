-- By the length of the job.
use mathlib.Core.Path.{◌≡◌}
use native.Mathlib.Omega.{arith}
use lib.ListN.{length}
use Rattle.rules.specs.Lists.{commands}
use Rattle.rules.specs.Jobs.{job_of}
use Rattle.laws.specs.Buffers.{put-put}
use Rattle.laws.specs.Listing.{length-commands}
use Rattle.export_job.specs.Lengths.{length-field, length-thread_fields, length-command_fields, job-length}
use Rattle.export_job.proofs.Exports.{sent, not-sent}
use Rattle.export_job.proofs.export_accepted.Goals as goal

pub job_len-n-requires : goal.job_len-n-requires
job_len-n-requires c = let a = c.args in
    omega (arith, c.list_len.ensures, length-commands a.xs.now a.ys.now a.kinds.now, c.requires)

pub returns-then-out-n : goal.returns-then-out-n
returns-then-out-n c =
    let long : (
    let a = c.args in
    length (job_of a.name.now (commands a.xs.now a.ys.now a.kinds.now) a.threads.now) ≡ c.job_len-n.result) = rw (c.job_len-n.ensures, c.list_len.ensures) (job-length _ _ _) in
    not-sent c.if-out-n.true long

pub put_threads-second-requires : goal.put_threads-second-requires
put_threads-second-requires c =
    let a = c.args in
    let first = length-field 1 a.name.now in
    let second = length-thread_fields a.threads.now in
    omega (arith, c.put_field-first.ensures, c.job_len-n.ensures, c.if-out-n.false)

pub put_list-end-requires : goal.put_list-end-requires
put_list-end-requires c = let a = c.args in
    let first = length-field 1 a.name.now in
    let second = length-thread_fields a.threads.now in
    let third = length-command_fields (commands a.xs.now a.ys.now a.kinds.now) in
    record { known = c.requires.0; kinds_in_bounds = omega (arith, c.put_field-first.ensures, c.put_threads-second.ensures, c.job_len-n.ensures, c.if-out-n.false) }

pub returns : goal.returns
unfolding job_of
returns c =
    let long : (
    let a = c.args in
    length (job_of a.name.now (commands a.xs.now a.ys.now a.kinds.now) a.threads.now) ≡ c.job_len-n.result) = rw (c.job_len-n.ensures, c.list_len.ensures) (job-length _ _ _) in
    sent c.if-out-n.false long
    (put-put (put-put c.put_field-first.ensures c.put_threads-second.ensures) c.put_list-end.ensures)
