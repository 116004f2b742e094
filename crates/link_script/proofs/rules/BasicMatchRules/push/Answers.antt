use Rattle.std.proofs.Common.{refl, true, arith, ap, length}
use Rattle.std.proofs.lemmas.List.{length_push}
use Rattle.link_script.proofs.Roomy.{keeps_room, no_room, room_parts}
use Rattle.link_script.proofs.rules.BasicMatchRules.push.Goals as goal

pub returns-in_err-insert-in-Exact-clause-room : goal.returns-in_err-insert-in-Exact-clause-room
returns-in_err-insert-in-Exact-clause-room c = λ ms room.
    let takes = rw c.in-Exact.is at (room_parts ms c.args.matcher c.args.self.now.exact room.0).1 in
    no_room c.insert.result _ _ c.in_err-insert-in-Exact.was (c.insert.ensures.succeeds takes)

pub returns-in_ok-insert-in-Exact-clause-room : goal.returns-in_ok-insert-in-Exact-clause-room
returns-in_ok-insert-in-Exact-clause-room c = λ ms room.
    (refl, keeps_room ms _ c.args.self.now (record c.args.self.now { exact = c.insert.new.self }) room c.insert.ensures.room (omega arith) (omega arith) (omega arith) (omega arith))

pub returns-in_err-insert-in-EscapedExact-clause-room : goal.returns-in_err-insert-in-EscapedExact-clause-room
returns-in_err-insert-in-EscapedExact-clause-room c = λ ms room.
    let takes = rw c.in-EscapedExact.is at (room_parts ms c.args.matcher c.args.self.now.exact room.0).1 in
    no_room c.insert-in-EscapedExact.result _ _ c.in_err-insert-in-EscapedExact.was (c.insert-in-EscapedExact.ensures.succeeds takes)

pub returns-in_ok-insert-in-EscapedExact-clause-room : goal.returns-in_ok-insert-in-EscapedExact-clause-room
returns-in_ok-insert-in-EscapedExact-clause-room c = λ ms room.
    (refl, keeps_room ms _ c.args.self.now (record c.args.self.now { exact = c.insert-in-EscapedExact.new.self }) room c.insert-in-EscapedExact.ensures.room (omega arith) (omega arith) (omega arith) (omega arith))

pub returns-in_ok-push-in-NonstarGlob-clause-room : goal.returns-in_ok-push-in-NonstarGlob-clause-room
returns-in_ok-push-in-NonstarGlob-clause-room c = λ ms room.
    let r = rw c.in-NonstarGlob.is at room in
    let len = ap length c.in_ok-push-in-NonstarGlob.ensures.ok in
    let one = length_push c.args.self.now.nonstar_globs.items c.in-NonstarGlob.glob in
    let more = c.push.ensures.capacity in
    (refl, keeps_room ms _ c.args.self.now (record c.args.self.now { nonstar_globs = c.push.new.self }) r (λ asked has. has) (omega arith) (omega arith) (omega arith) (omega arith))

pub returns-in_ok-push-in-StarGlob-clause-room : goal.returns-in_ok-push-in-StarGlob-clause-room
returns-in_ok-push-in-StarGlob-clause-room c = λ ms room.
    let r = rw c.in-StarGlob.is at room in
    let len = ap length c.in_ok-push-in-StarGlob.ensures.ok in
    let one = length_push c.args.self.now.star_globs.items c.in-StarGlob.glob in
    let more = c.push-in-StarGlob.ensures.capacity in
    (refl, keeps_room ms _ c.args.self.now (record c.args.self.now { star_globs = c.push-in-StarGlob.new.self }) r (λ asked has. has) (omega arith) (omega arith) (omega arith) (omega arith))

pub returns-in-MatchesAll-clause-room : goal.returns-in-MatchesAll-clause-room
returns-in-MatchesAll-clause-room c = λ ms room.
    let r = rw c.in-MatchesAll.is at room in
    (refl, keeps_room ms _ c.args.self.now (record c.args.self.now { matches_all = true }) r (λ asked has. has) (omega arith) (omega arith) (omega arith) (omega arith))
