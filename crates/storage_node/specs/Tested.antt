-- What the tests keep of their journals, and a cut of them.
use Rattle.std.specs.Prelude.{◌≡◌, ℕ, ◌≤◌, List, [], ◌∷◌, length, replicate}
use Rattle.std.specs.List.{All}
use Rattle.log_base.specs.ClusterShape.{Shape}
use Rattle.log_model.specs.Storage.{Member, list_in}
use Rattle.record_frame.specs.declared.entries.Entry.{Entry}
use Rattle.record_frame.specs.declared.values.Lengths.{Lengths}
use Rattle.segment_journal.specs.Journalled.{Journalled, loaded}

-- two journals without payloads
abbrev pub AreTwoEmpty : {X : Type 0} → (X → Journalled) → List X → Type 0
AreTwoEmpty state journals = (All (λ j. state j ≡ loaded []) journals) × (length journals ≡ 2)

-- one of two replicas of the first of two shards, whose lists have so many entries
pub record HoldsTwo (config : Shape) (member : Member) (lists : List (List Entry)) (first second : ℕ) : Type 0 where
  pub replicas : config.replicas ≡ 2
  pub shards : config.shards ≡ 2
  pub shard : member.shard ≡ 0
  pub first_held : first ≤ length (list_in lists 0)
  pub second_held : second ≤ length (list_in lists 1)

-- one entry of each list of the first shard, and one of the second shard
abbrev pub three : Lengths
three = record { count = 4; length = 1 ∷ 1 ∷ 1 ∷ replicate 29 0 }
