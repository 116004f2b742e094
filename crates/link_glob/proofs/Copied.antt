-- A copy of tokens.
use Rattle.std.proofs.Common.{◌≡◌, List, [], ◌∷◌, refl, ap₂}
use Rattle.std.specs.List.{AllZip}
use Rattle.link_glob.specs.declared.pattern.Token.{Token}
use Rattle.link_glob.specs.Glob.{GlobToken, view_token, views}

-- tokens that are alike one by one are seen alike
pub copied : (xs ys : List Token) → AllZip (λ x y. view_token y ≡ view_token x) xs ys → views ys ≡ views xs
copied [] [] a = refl
copied [] (y ∷ ys) a = absurd a
copied (x ∷ xs) [] a = absurd a
copied (x ∷ xs) (y ∷ ys) a = ap₂ (λ (t : GlobToken) (ts : List GlobToken). t ∷ ts) a.0 (copied xs ys a.1)
