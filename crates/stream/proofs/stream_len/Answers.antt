-- The kinds that are counted tell how many bytes there are.
use Prim.Native.Nat.{◌≤◌}
use native.Mathlib.Omega.{arith}
use Rattle.std.proofs.Common.{ℕ, ℤ, List, ◌≡◌}
use lib.IntN.{pos}
use lib.ListN.{length, take}
use Rattle.rules.specs.Vocabulary.{count}
use Rattle.rules.specs.Lists.{commands, written}
use Rattle.stream_cmd.specs.declared.Stream.{Stream}
use Rattle.stream_cmd.specs.declared.Stream.TheVariants.{Dst, Exp, Jef}
use Rattle.laws.specs.Listing.{length-commands}
use Rattle.stream_cmd.specs.Cmds.{cmd_of, kind_in}
use Rattle.stream.proofs.Lengths.{Told, lengths}
use Rattle.stream.proofs.stream_len.Goals as goal

pub overflow_mul-result : goal.overflow_mul-result
overflow_mul-result c =
    let few : (c.list_len-n.result ≤ length c.args.kinds.now) × (c.list_len-n.result ≤ 65535) = let a = c.args in omega (arith, length-commands a.xs.now a.ys.now a.kinds.now, c.requires) in
    omega (arith, few)

pub kinds_in-requires : goal.kinds_in-requires
kinds_in-requires c =
    let few : (c.list_len-n.result ≤ length c.args.kinds.now) × (c.list_len-n.result ≤ 65535) = let a = c.args in omega (arith, length-commands a.xs.now a.ys.now a.kinds.now, c.requires) in
    few

pub overflow_mul-result-in-Dst : goal.overflow_mul-result-in-Dst
overflow_mul-result-in-Dst c =
    let few : (c.list_len-n.result ≤ length c.args.kinds.now) × (c.list_len-n.result ≤ 65535) = let a = c.args in omega (arith, length-commands a.xs.now a.ys.now a.kinds.now, c.requires) in
    omega (arith, few)

pub overflow_add-result : goal.overflow_add-result
overflow_add-result c =
    let few : (c.list_len-n.result ≤ length c.args.kinds.now) × (c.list_len-n.result ≤ 65535) = let a = c.args in omega (arith, length-commands a.xs.now a.ys.now a.kinds.now, c.requires) in
    omega (arith, few)

pub kinds_in-requires-in-Exp : goal.kinds_in-requires-in-Exp
kinds_in-requires-in-Exp c =
    let few : (c.list_len-n.result ≤ length c.args.kinds.now) × (c.list_len-n.result ≤ 65535) = let a = c.args in omega (arith, length-commands a.xs.now a.ys.now a.kinds.now, c.requires) in
    few

pub overflow_mul-result-in-Exp : goal.overflow_mul-result-in-Exp
overflow_mul-result-in-Exp c =
    let few : (c.list_len-n.result ≤ length c.args.kinds.now) × (c.list_len-n.result ≤ 65535) = let a = c.args in omega (arith, length-commands a.xs.now a.ys.now a.kinds.now, c.requires) in
    omega (arith, few)

pub kinds_in-requires-in-Exp-2 : goal.kinds_in-requires-in-Exp-2
kinds_in-requires-in-Exp-2 c =
    let few : (c.list_len-n.result ≤ length c.args.kinds.now) × (c.list_len-n.result ≤ 65535) = let a = c.args in omega (arith, length-commands a.xs.now a.ys.now a.kinds.now, c.requires) in
    few

pub overflow_mul-result-in-Exp-2 : goal.overflow_mul-result-in-Exp-2
overflow_mul-result-in-Exp-2 c =
    let few : (c.list_len-n.result ≤ length c.args.kinds.now) × (c.list_len-n.result ≤ 65535) = let a = c.args in omega (arith, length-commands a.xs.now a.ys.now a.kinds.now, c.requires) in
    omega (arith, few)

pub overflow_add-result-in-Exp : goal.overflow_add-result-in-Exp
overflow_add-result-in-Exp c =
    let few : (c.list_len-n.result ≤ length c.args.kinds.now) × (c.list_len-n.result ≤ 65535) = let a = c.args in omega (arith, length-commands a.xs.now a.ys.now a.kinds.now, c.requires) in
    omega (arith, few)

pub overflow_mul-result-in-Jef : goal.overflow_mul-result-in-Jef
overflow_mul-result-in-Jef c =
    let few : (c.list_len-n.result ≤ length c.args.kinds.now) × (c.list_len-n.result ≤ 65535) = let a = c.args in omega (arith, length-commands a.xs.now a.ys.now a.kinds.now, c.requires) in
    omega (arith, few)

pub kinds_in-requires-in-Jef : goal.kinds_in-requires-in-Jef
kinds_in-requires-in-Jef c =
    let few : (c.list_len-n.result ≤ length c.args.kinds.now) × (c.list_len-n.result ≤ 65535) = let a = c.args in omega (arith, length-commands a.xs.now a.ys.now a.kinds.now, c.requires) in
    few

pub overflow_mul-result-in-Jef-2 : goal.overflow_mul-result-in-Jef-2
overflow_mul-result-in-Jef-2 c =
    let few : (c.list_len-n.result ≤ length c.args.kinds.now) × (c.list_len-n.result ≤ 65535) = let a = c.args in omega (arith, length-commands a.xs.now a.ys.now a.kinds.now, c.requires) in
    omega (arith, few)

pub overflow_add-result-in-Jef : goal.overflow_add-result-in-Jef
overflow_add-result-in-Jef c =
    let few : (c.list_len-n.result ≤ length c.args.kinds.now) × (c.list_len-n.result ≤ 65535) = let a = c.args in omega (arith, length-commands a.xs.now a.ys.now a.kinds.now, c.requires) in
    omega (arith, few)

pub kinds_in-requires-in-Jef-2 : goal.kinds_in-requires-in-Jef-2
kinds_in-requires-in-Jef-2 c =
    let few : (c.list_len-n.result ≤ length c.args.kinds.now) × (c.list_len-n.result ≤ 65535) = let a = c.args in omega (arith, length-commands a.xs.now a.ys.now a.kinds.now, c.requires) in
    few

pub overflow_mul-result-in-Jef-3 : goal.overflow_mul-result-in-Jef-3
overflow_mul-result-in-Jef-3 c =
    let few : (c.list_len-n.result ≤ length c.args.kinds.now) × (c.list_len-n.result ≤ 65535) = let a = c.args in omega (arith, length-commands a.xs.now a.ys.now a.kinds.now, c.requires) in
    omega (arith, few)

told : (f : Stream) (xs ys : List ℤ) (ks : List ℕ) {n : ℕ} → n ≡ length (commands xs ys ks)
    → Told f (length (written (cmd_of f) (pos 0) (pos 0) (commands xs ys ks))) n (count (kind_in 0 0) (take n ks)) (count (kind_in 1 3) (take n ks)) (count (kind_in 2 2) (take n ks))
told f xs ys ks e = rw e (lengths f (pos 0) (pos 0) xs ys ks)

pub overflow_sub-result : goal.overflow_sub-result
overflow_sub-result c = omega (arith, (told Jef c.args.xs.now c.args.ys.now c.args.kinds.now c.list_len-n.ensures).told)

pub returns-in-Dst : goal.returns-in-Dst
returns-in-Dst c = rw c.in-Dst.is (omega (arith, (told Dst c.args.xs.now c.args.ys.now c.args.kinds.now c.list_len-n.ensures).told))

pub returns-in-Exp : goal.returns-in-Exp
returns-in-Exp c = rw c.in-Exp.is (omega (arith, (told Exp c.args.xs.now c.args.ys.now c.args.kinds.now c.list_len-n.ensures).told))

pub returns-in-Jef : goal.returns-in-Jef
returns-in-Jef c = rw c.in-Jef.is (omega (arith, (told Jef c.args.xs.now c.args.ys.now c.args.kinds.now c.list_len-n.ensures).told))
