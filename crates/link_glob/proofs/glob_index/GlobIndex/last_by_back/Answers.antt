use Rattle.std.proofs.Common.{arith, inl, inr, take, ◌-◌, ◌∙◌, ap, reverse}
use borrow.Author.Rules.{rules}
use Rattle.std.specs.Str.{chars}
use Rattle.link_glob.specs.GlobList.{later}
use Rattle.link_glob.specs.GlobKey.{filed, last_under, last_under_some, key_with}
use Rattle.link_glob.proofs.LastOf.{later_assoc}
use Rattle.link_glob.proofs.Keys.{front_ends, front_more}
use Rattle.link_glob.proofs.glob_index.GlobIndex.last_by_back.Goals as goal

pub backs-preserved : goal.backs-preserved
backs-preserved g c =
    let globs = g.G.Globs.globs c.args.globs.now in
    let name = chars c.args.name.now in
    let n = filed c.args.self.now in
    let rest = reverse (chars c.in-Some.before.now) in
    let more = front_more globs c.backs.key c.in-Some.c c.backs.left rest name n (omega (arith, c.if-left-eq0.false)) in (
      search rules,
      rw (c.later-found.ensures, c.last_under.ensures, c.key_with-key.ensures)
          (later_assoc c.backs.found (last_under globs c.backs.key name n) (last_under_some globs (key_with c.backs.key c.in-Some.c) (take (c.backs.left - 1) rest) name n) ∙ ap (later c.backs.found) more ∙ (rw c.in-Some.ensures at c.backs.invariant.1)),
    )

pub returns-in_default : goal.returns-in_default
returns-in_default g c = c.later-found.ensures ∙ ap (later c.backs.found) (c.last_under.ensures ∙ front_ends (g.G.Globs.globs c.args.globs.now) c.backs.key c.backs.left (reverse (chars c.backs.rest.now)) (chars c.args.name.now) (filed c.args.self.now) (inl c.in_default.ensures)) ∙ c.backs.invariant.1

pub returns-then-left-eq0 : goal.returns-then-left-eq0
returns-then-left-eq0 g c = c.later-found.ensures ∙ ap (later c.backs.found) (c.last_under.ensures ∙ front_ends (g.G.Globs.globs c.args.globs.now) c.backs.key c.backs.left (reverse (chars c.backs.rest.now)) (chars c.args.name.now) (filed c.args.self.now) (inr c.if-left-eq0.true)) ∙ c.backs.invariant.1
