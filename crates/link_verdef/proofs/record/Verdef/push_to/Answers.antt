use Rattle.std.proofs.Common.{◌≡◌, ◌++◌, ℕ, List}
use Rattle.std.proofs.lemmas.List.{append_assoc}
use Rattle.link_verdef.proofs.record.Verdef.push_to.Goals as goal

-- seven lists added at the end, one after another
seven_added : (o a b c d e f g x1 x2 x3 x4 x5 x6 x7 : List ℕ) → x1 ≡ o ++ a → x2 ≡ x1 ++ b → x3 ≡ x2 ++ c → x4 ≡ x3 ++ d
    → x5 ≡ x4 ++ e → x6 ≡ x5 ++ f → x7 ≡ x6 ++ g → x7 ≡ o ++ (a ++ b ++ c ++ d ++ e ++ f ++ g)
seven_added o a b c d e f g x1 x2 x3 x4 x5 x6 x7 p1 p2 p3 p4 p5 p6 p7 = rw (p7, p6, p5, p4, p3, p2, p1) (simp append_assoc)

pub returns : goal.returns
returns c = seven_added _ _ _ _ _ _ _ _ _ _ _ _ _ _ _ c.in_ok-push_u16.ensures c.in_ok-push_u16-2.ensures c.in_ok-push_u16-3.ensures
    c.in_ok-push_u16-4.ensures c.in_ok-push_u32.ensures c.in_ok-push_u32-2.ensures c.in_ok-push_u32-3.ensures
