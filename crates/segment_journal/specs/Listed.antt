-- Payloads in memory, as clauses see them.
use Rattle.std.specs.Prelude.{ℕ, List}

-- the payloads, and how many there is room for
pub record Listed : Type 0 where
  pub list : List (List ℕ)
  pub capacity : ℕ
