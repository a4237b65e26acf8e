-- What making an input from a seed sends.
use Rattle.std.specs.Prelude.{◌≡◌, ◌⊎◌, ℕ, List, ◌++◌}
use Rattle.command_frame.specs.Making.{additions, made_items}
use Rattle.log_base.specs.ClusterShape.{Shape}
use Rattle.scalog_run.specs.Output.{Sends, Sinking}

-- an input: the additions of all shards, and as many items behind them as are counted
abbrev pub made_input : Shape → ℕ → ℕ → List ℕ
made_input config seed count = additions config ++ made_items config seed count

-- Memory ran out before anything was sent.
pub record IsUnmade (old new : Sinking) (status : ℕ) : Type 0 where
  pub status_is : status ≡ 9
  pub nothing_sent : new ≡ old

-- the input was sent, or a part of it
abbrev pub SendsMade : Shape → ℕ → ℕ → Sinking → Sinking → ℕ → Type 0
SendsMade config seed count old new status = Sends (made_input config seed count) 0 old new status ⊎ IsUnmade old new status
