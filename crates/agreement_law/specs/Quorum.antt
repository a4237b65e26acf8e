-- A majority of orderers of each of which something holds.
use Rattle.std.specs.Prelude.{◌≡◌, ℕ, ◌+◌, ◌/◌, ◌<◌, ◌≤◌, Bool, true}
use Rattle.paxos_model.specs.Majority.{tally}

pub record MostOf (n : ℕ) (P : ℕ → Type 0) : Type 0 where
  pub among : ℕ → Bool
  pub many : n / 2 + 1 ≤ tally among n
  pub all : (i : ℕ) → i < n → among i ≡ true → P i
