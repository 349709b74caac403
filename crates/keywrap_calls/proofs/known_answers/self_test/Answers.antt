use Rattle.std.proofs.Common.{refl}
use Rattle.keywrap_calls.proofs.known_answers.self_test.Goals as goal

pub returns-then-refused-clause-exactly : goal.returns-then-refused-clause-exactly
returns-then-refused-clause-exactly g c = (
  λ _. record {
    wrappings = c.wrappings_are_right-right.ensures.right.0 c.if-right.true;
    refused = c.is_refused-refused.ensures.right.0 c.if-refused.true;
  },
  λ _. refl,
)

pub returns-then-refused-clause-tried : goal.returns-then-refused-clause-tried
returns-then-refused-clause-tried g c = λ _. record {
  wrappings = c.wrappings_are_right-right.ensures.tried c.if-right.true;
  refused = c.is_refused-refused.ensures.tried c.if-refused.true;
}
