use Rattle.std.proofs.Common.{◌≡◌, ◌∙◌, sym, ap, subst, take, [], ◌∷◌, ◌++◌, List, ℕ, ◌+◌, length, append_assoc, arith}
use Rattle.std.proofs.lemmas.List.{take_more, length-take-le}
use Rattle.link_glob.specs.Glob.{GlobToken}
use Rattle.link_glob.specs.GlobKey.{IsWholeIndexOf}
use Rattle.link_script.specs.declared.version_globs.GlobPlace.{GlobPlace}
use Rattle.link_script.specs.VersionGlobs.{places_from}
use Rattle.link_script.proofs.VersionGlobs.{place_more}
use Rattle.link_script.proofs.version_globs.VersionGlobs.add.Goals as goal

pub loop-number-preserved : goal.loop-number-preserved
loop-number-preserved c =
    let n = c.loop-number.number in
    let front = take n c.args.globs.now in
    let glob = c.index-globs-number.result in
    let more = take_more c.args.globs.now n glob c.loop-number-test.true ∙ ap (λ (g : List GlobToken). front ++ g ∷ []) (sym c.index-globs-number.is) in
    let behind : 0 + length front ≡ n = omega (arith, length-take-le n c.args.globs.now (omega arith)) in
    record {
      index = λ before is. subst (λ (globs : List (List GlobToken)). IsWholeIndexOf globs c.add.new.self) (append_assoc before front (glob ∷ []) ∙ ap (λ (xs : List (List GlobToken)). before ++ xs) (sym more)) (c.in_ok-add.ensures (before ++ front) (c.loop-number.invariant.index before is));
      places =
          c.in_ok-push.ensures.ok ∙ ap (λ (ps : List GlobPlace). ps ++ record { version = c.args.version; side = c.args.side; number = n } ∷ []) c.loop-number.invariant.places
          ∙ append_assoc c.args.self.now.places (places_from c.args.version c.args.side 0 front) (record { version = c.args.version; side = c.args.side; number = n } ∷ [])
          ∙ ap (λ (ps : List GlobPlace). c.args.self.now.places ++ ps)
          (ap (λ (k : ℕ). places_from c.args.version c.args.side 0 front ++ record { version = c.args.version; side = c.args.side; number = k } ∷ []) (sym behind)
          ∙ sym (place_more c.args.version c.args.side 0 front glob) ∙ ap (places_from c.args.version c.args.side 0) (sym more));
    }
