use Rattle.std.proofs.Common.{inl, inr, refl, []}
use Rattle.link_claim.specs.Examples.{mark, item0, item1}
use Rattle.link_closure.proofs.Joins.{contains_here}
use Rattle.link_tests_claim.proofs.claim.two_workers_read_three_files.Goals as goal

pub returns-clause-legal : goal.returns-clause-legal
returns-clause-legal c = (
  inl (contains_here 0 []),
  (
    tt,
    (
      (item0, refl, refl),
      (
        (item0, refl, refl),
        (
          inr (0, refl, (item0, refl, contains_here 1 [])),
          (
            inr (0, refl, (item0, refl, contains_here 1 [])),
            (
              inr (0, refl, (item0, refl, contains_here (mark 0 2) [])),
              (
                inl (contains_here (mark 1 1) []),
                (
                  (item1, refl, refl),
                  (inl (contains_here 0 []), tt),
                ),
              ),
            ),
          ),
        ),
      ),
    ),
  ),
)
