use Rattle.std.proofs.Common.{◌<◌, ◌^◌, sym, ap, arith}
use Rattle.link_names.proofs.Passing.{number_after-bytes}
use Rattle.link_names.proofs.pass_through_hasher.PassThroughHasherHasher.write_u64.Goals as goal

pub returns : goal.returns
returns c =
    let small : c.args.i < 2 ^ 64 = omega arith in
    ap (λ n. record { number = n }) (sym (number_after-bytes c.args.self.now.number c.args.i small))
