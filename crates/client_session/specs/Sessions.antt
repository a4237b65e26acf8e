-- What a client keeps in a run: how many numbers it drew, the last pair, and the greatest position noted.
use Rattle.std.specs.Prelude.{◌≡◌, ℕ, ◌+◌, ◌-◌, ◌<◌, ◌≤◌, nat_lt, if◌then◌else◌, List, [], ◌∷◌, Option, Some, None}
use Rattle.std.specs.Option.{MatchOption}
use Rattle.log_base.specs.Draws.{number_of_draw}
use Rattle.log_base.specs.declared.numbers.Position.{Position}
use Rattle.client_session.specs.declared.pair.Pair.{Pair}

-- a session
pub record Drawing : Type 0 where
  pub client : ℕ
  pub run : ℕ
  pub draws : ℕ
  pub last : Option Pair
  pub greatest : Option Position

-- nothing is drawn or noted yet
abbrev pub fresh : ℕ → ℕ → Drawing
fresh client run = record { client = client; run = run; draws = 0; last = None; greatest = None }

-- the k-th pair that a client draws in a run, for a node
abbrev pub pair_at : ℕ → ℕ → ℕ → ℕ → Pair
pair_at client run k node = record { client = record { 0 = client }; number = record { 0 = number_of_draw run k }; node = record { 0 = node } }

-- one more pair is drawn, for a node
abbrev pub after_draw : Drawing → ℕ → Drawing
after_draw session node = record session { draws = session.draws + 1; last = Some (pair_at session.client session.run session.draws node) }

-- the greater of the position that was greatest and another
abbrev pub greater_of : Option Position → Position → Position
greater_of None position = position
greater_of (Some greatest) position = if nat_lt greatest.0 position.0 then position else greatest

-- one more position is noted
abbrev pub after_note : Drawing → Position → Drawing
after_note session position = record session { greatest = Some (greater_of session.greatest position) }

-- positions are noted one after another
abbrev pub after_notes : Drawing → List Position → Drawing
after_notes session [] = session
after_notes session (position ∷ positions) = after_notes (after_note session position) positions

-- the fields of a session: what was drawn last is the pair of the draw before the next
pub record IsDrawing (client run draws : ℕ) (pair : Option Pair) : Type 0 where
  pub known_run : run ≤ 1000000
  pub room : draws ≤ 65536
  pub last : MatchOption pair (draws ≡ 0) (λ (drawn : Pair). (0 < draws) × (drawn ≡ pair_at client run (draws - 1) drawn.node.0))
