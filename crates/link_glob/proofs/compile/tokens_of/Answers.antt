use Rattle.std.proofs.Common.{sym, ◌∙◌}
use Rattle.std.proofs.lemmas.Bool.{eqb-true}
use Rattle.std.proofs.lemmas.Result.{err_from_is_err_and}
use Rattle.std.proofs.lemmas.List.{map_push, nil_from_length}
use Rattle.link_glob.specs.Glob.{view_token, views}
use Rattle.link_glob.proofs.Spelling.{read_one, read_fault, read_all, not_empty}
use Rattle.link_glob.proofs.compile.tokens_of.Goals as goal

pub returns-in_err-token : goal.returns-in_err-token
returns-in_err-token c =
    let p = err_from_is_err_and c.from_residual-in_err-token.result c.from_residual-in_err-token.ensures.1 in
    rw (p.1, p.2) (read_fault c.in_err-token.field-0.0 c.args.dialect c.args.text.now (views c.tokens.tokens.items) c.tokens.rest.now (not_empty c.is_empty.result c.tokens.rest.now c.is_empty.ensures c.tokens-test.true) c.in_err-token.ensures.gives c.tokens.invariant)

pub tokens-preserved : goal.tokens-preserved
tokens-preserved c = rw (c.in_ok-push-2.ensures.items, map_push view_token c.tokens.tokens.items c.in_ok-token.token) (read_one c.args.dialect c.args.text.now (views c.tokens.tokens.items) c.tokens.rest.now (view_token c.in_ok-token.token) c.in_ok-token.after.now c.in_ok-token.ensures.gives c.tokens.invariant)

pub tokens-preserved-in-Some : goal.tokens-preserved-in-Some
tokens-preserved-in-Some c = rw (c.in_ok-push.ensures.items, map_push view_token c.tokens.tokens.items c.in-Some.token) (read_one c.args.dialect c.args.text.now (views c.tokens.tokens.items) c.tokens.rest.now (view_token c.in-Some.token) c.in-Some.after.now (c.in-Some.ensures.token c.args.dialect) c.tokens.invariant)

pub returns : goal.returns
returns c = let e = c.is_empty.ensures in read_all c.args.dialect c.args.text.now (views c.tokens.tokens.items) c.tokens.rest.now (nil_from_length _ (eqb-true _ _ (sym c.is_empty.ensures ∙ c.tokens-test.false))) c.tokens.invariant
