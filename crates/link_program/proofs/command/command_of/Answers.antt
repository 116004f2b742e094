use Rattle.std.proofs.Common.{◌≡◌, length, codes, arith, rules}
use Rattle.link_program.proofs.Numerals.{one-word, three-words, two-words}
use Rattle.link_program.proofs.command.command_of.Goals as goal

pub returns-in-len1-clause-command : goal.returns-in-len1-clause-command
returns-in-len1-clause-command c =
    let one : length c.args.words.now ≡ 1 = omega (arith, c.in-len1.len_at_least, c.in-len1.len_below) in
    let name : c.name-item.result ≡ codes "verdef" = search rules in
    (one-word c.args.words.now c.name-item.result _ one c.name-item.is name, tt)

pub returns-in-len1-2-clause-command : goal.returns-in-len1-2-clause-command
returns-in-len1-2-clause-command c =
    let one : length c.args.words.now ≡ 1 = omega (arith, c.in-len1.len_at_least, c.in-len1.len_below) in
    let name : c.name-item-then-words-lt2.result ≡ codes "check" = search rules in
    (one-word c.args.words.now c.name-item-then-words-lt2.result _ one c.name-item-then-words-lt2.is name, tt)

pub returns-in_ok-workers-in-len2-clause-command : goal.returns-in_ok-workers-in-len2-clause-command
returns-in_ok-workers-in-len2-clause-command c =
    let two : length c.args.words.now ≡ 2 = omega (arith, c.in-len2.len_at_least, c.in-len2.len_below) in
    let name : c.name-item-then-words-lt3.result ≡ codes "link" = search rules in
    let made = c.in_ok-workers-in-len2.ensures in
    (two-words c.args.words.now c.name-item-then-words-lt3.result c.workers-item.result _ _ two c.name-item-then-words-lt3.is c.workers-item.is name made.number, made.in_range)

pub returns-in_ok-workers-in-len2-2-clause-command : goal.returns-in_ok-workers-in-len2-2-clause-command
returns-in_ok-workers-in-len2-2-clause-command c =
    let two : length c.args.words.now ≡ 2 = omega (arith, c.in-len2.len_at_least, c.in-len2.len_below) in
    let name : c.name-item-then-words-lt3-2.result ≡ codes "why" = search rules in
    let made = c.in_ok-workers-in-len2-2.ensures in
    (two-words c.args.words.now c.name-item-then-words-lt3-2.result c.workers-item-then-words-lt3.result _ _ two c.name-item-then-words-lt3-2.is c.workers-item-then-words-lt3.is name made.number, made.in_range)

pub returns-in_ok-workers-in-len2-3-clause-command : goal.returns-in_ok-workers-in-len2-3-clause-command
returns-in_ok-workers-in-len2-3-clause-command c =
    let two : length c.args.words.now ≡ 2 = omega (arith, c.in-len2.len_at_least, c.in-len2.len_below) in
    let name : c.name-item-then-words-lt3-3.result ≡ codes "gc" = search rules in
    let made = c.in_ok-workers-in-len2-3.ensures in
    (two-words c.args.words.now c.name-item-then-words-lt3-3.result c.workers-item-then-words-lt3-2.result _ _ two c.name-item-then-words-lt3-3.is c.workers-item-then-words-lt3-2.is name made.number, made.in_range)

pub returns-in_ok-workers-in-len3-clause-command : goal.returns-in_ok-workers-in-len3-clause-command
returns-in_ok-workers-in-len3-clause-command c =
    let three : length c.args.words.now ≡ 3 = omega (arith, c.in-len3.len_at_least, c.in-len3.len_below) in
    let name : c.name-item-then-words-lt4.result ≡ codes "bulk" = search rules in
    let members = c.in_ok-members-in-len3.ensures in
    let workers = c.in_ok-workers-in-len3.ensures in (
      three-words c.args.words.now c.name-item-then-words-lt4.result c.members-item.result c.workers-item-then-words-lt4.result _ _ _ three c.name-item-then-words-lt4.is c.members-item.is
          c.workers-item-then-words-lt4.is name members.number workers.number,
      (members.in_range, workers.in_range),
    )
