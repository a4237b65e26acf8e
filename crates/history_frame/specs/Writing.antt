-- What a writer that ran out of memory leaves.
use Rattle.std.specs.Prelude.{◌≡◌, ℕ, List, ◌++◌}

-- what stood there stands at the front
pub record Extends (before after : List ℕ) : Type 0 where
  pub more : List ℕ
  pub parts : after ≡ before ++ more
