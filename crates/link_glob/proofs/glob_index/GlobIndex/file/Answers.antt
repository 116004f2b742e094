use Rattle.std.proofs.Common.{max, ◌≡◌, ◌∙◌, ap, ap₂, ◌++◌, ◌∷◌, [], cond, nat_eq, length, List, arith, Option, Some, ℕ}
use Rattle.std.specs.HashMap.{get}
use Rattle.link_glob.proofs.Chains.{added}
use Rattle.link_glob.proofs.glob_index.GlobIndex.file.Goals as goal

pub returns-clause-kept : goal.returns-clause-kept
returns-clause-kept c = λ globs is there.
    let pushed = rw c.unwrap.ensures at c.push.ensures.items in
    let updates = c.in_ok-before.ensures.updates in
    let place : c.len-place.result ≡ length c.args.self.now.earlier.items = omega (arith, c.len-place.ensures, c.reserve.ensures.len) in
    added globs c.args.self.now ((record { last = c.insert.new.self; earlier = c.push.new.self; longest_front = c.max-self.result; longest_back = c.max-self-2.result })) c.args.glob.now c.in_ok-before.before is there
    (λ key. updates.0 key ∙ ap₂ (λ (k n : ℕ). cond (nat_eq k key) (Some n) (get nat_eq c.args.self.now.last key)) c.key-filed.ensures.key place)
    (pushed ∙ ap (λ (l : List (Option ℕ)). l ++ c.in_ok-before.before ∷ []) c.reserve.ensures.items)
    (c.in_ok-before.ensures.old ∙ ap (get nat_eq c.args.self.now.last) c.key-filed.ensures.key)
    (c.max-self.ensures ∙ ap (max c.args.self.now.longest_front) c.key-filed.ensures.front) (c.max-self-2.ensures ∙ ap (max c.args.self.now.longest_back) c.key-filed.ensures.back)
