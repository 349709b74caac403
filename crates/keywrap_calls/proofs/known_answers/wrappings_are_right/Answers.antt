-- If all wrappings are right, each was found so, by calls.
use Rattle.std.proofs.Common.{◌↔◌, IsTrue, rules}
use Rattle.std.specs.List.{AllByRecursion}
use Rattle.keywrap_calls.specs.SelfTest.{IsRightWrapping}
use Rattle.test_vectors.specs.Published.{published_vectors}
use Rattle.keywrap_calls.proofs.known_answers.wrappings_are_right.Goals as goal

pub returns-then-seven-clause-tried : goal.returns-then-seven-clause-tried
returns-then-seven-clause-tried g c = λ said.
    let right : IsTrue c.is_padded-eight.result ↔ AllByRecursion IsRightWrapping published_vectors = search rules in
    let all = right.0 said in (
      c.is_plain-one.ensures.tried (c.is_plain-one.ensures.right.1 all.0),
      (
        c.is_plain-two.ensures.tried (c.is_plain-two.ensures.right.1 all.1.0),
        (
          c.is_plain-three.ensures.tried (c.is_plain-three.ensures.right.1 all.1.1.0),
          (
            c.is_plain-four.ensures.tried (c.is_plain-four.ensures.right.1 all.1.1.1.0),
            (
              c.is_plain-five.ensures.tried (c.is_plain-five.ensures.right.1 all.1.1.1.1.0),
              (
                c.is_plain-six.ensures.tried (c.is_plain-six.ensures.right.1 all.1.1.1.1.1.0),
                (
                  c.is_padded-seven.ensures.tried (c.is_padded-seven.ensures.right.1 all.1.1.1.1.1.1.0),
                  (
                    c.is_padded-eight.ensures.tried (c.is_padded-eight.ensures.right.1 all.1.1.1.1.1.1.1.0),
                    (tt, (tt, (tt, (tt, tt)))),
                  ),
                ),
              ),
            ),
          ),
        ),
      ),
    )
