use Rattle.std.proofs.Common.{◌≡◌, refl}
use Rattle.std.proofs.lemmas.List.Elements.{All-replicate}
use Rattle.aes_leaves.proofs.leaves.clear.Goals as goal

pub returns : goal.returns
returns c = All-replicate (λ x. x ≡ 0) 240 0 refl
