use Rattle.std.proofs.Common.{◌≡◌, ◌++◌, ℕ, List, [], ap, get_or}
use Rattle.std.proofs.lemmas.List.{append_assoc, append-nil}
use Rattle.std.specs.List.{flat_map}
use Rattle.link_verdef.specs.Records.{verdaux_bytes, verdauxes_of, verdef_bytes}
use Rattle.link_verdef.proofs.write.push_item.Goals as goal

-- three lists added at the end, one after another
three_added : (o a a' b c names x y z : List ℕ) → x ≡ o ++ a → a ≡ a' → y ≡ x ++ b → z ≡ y ++ c → names ≡ b ++ (c ++ []) → z ≡ o ++ (a' ++ names)
three_added o a a' b c names x y z p same q r n = rw (r, q, p, n, same) (simp (append_assoc, append-nil))

pub returns-in_ok-push_to-in-Some-2 : goal.returns-in_ok-push_to-in-Some-2
returns-in_ok-push_to-in-Some-2 c =
    three_added _ _ _ _ _ _ _ _ _ c.in_ok-push_to.ensures (ap verdef_bytes c.of.ensures) c.in_ok-push_to-in-Some.ensures c.in_ok-push_to-in-Some-2.ensures
    (ap (λ parent. flat_map verdaux_bytes (verdauxes_of (λ k. get_or c.args.places.now k 0) c.args.number parent)) c.in-Some.is)
