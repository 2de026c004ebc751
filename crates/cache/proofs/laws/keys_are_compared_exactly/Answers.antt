use Rattle.cache.specs.SameKey.{same_key_decides}
use Rattle.cache.proofs.laws.keys_are_compared_exactly.Goals as goal

pub returns : goal.returns
returns c = same_key_decides
