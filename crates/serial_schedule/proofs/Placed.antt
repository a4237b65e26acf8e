-- Replies without the places where the last answers of streams stand, as they are put behind others.
use Rattle.std.proofs.Common.{◌≡◌, ℕ, List, [], ◌∷◌, ◌++◌, map, refl, ap, ◌∙◌}
use Rattle.std.specs.Prelude.{slice_set}
use Rattle.std.proofs.lemmas.List.{map-append, map-set}
use Rattle.std.specs.Global.{Box}
use Rattle.log_base.specs.declared.numbers.Position.{Position}
use Rattle.record_frame.specs.declared.entries.Entry.{Entry}
use Rattle.reply_frame.specs.declared.replies.Reply.{Reply, Stream'}
use Rattle.schedule_model.specs.Streams.{IsSingle, stream_of}
use Rattle.command_frame.specs.Streams.{nowhere, unplaced}
use Rattle.subscriber.specs.Following.{Following}

unplaced-single : (reply : Reply) → IsSingle reply → unplaced reply ≡ reply
unplaced-single (Stream' from entries at last) single = absurd single
unplaced-single reply single = refl

pushed : (replies all : List Reply) (reply : Reply) → all ≡ replies ++ reply ∷ [] → map unplaced all ≡ map unplaced replies ++ unplaced reply ∷ []
pushed replies all reply e = ap (map unplaced) e ∙ map-append unplaced replies (reply ∷ [])

pub pushed-single : (replies all : List Reply) (reply : Reply) → all ≡ replies ++ reply ∷ [] → IsSingle reply → map unplaced all ≡ map unplaced replies ++ reply ∷ []
pushed-single replies all reply e single =
    pushed replies all reply e ∙ ap (λ (last : Reply). map unplaced replies ++ last ∷ []) (unplaced-single reply single)

pub pushed-stream : (replies all : List Reply) (from : Position) (entries : List Entry) (at : Box (Unit {0})) (last : Reply) (taken : Following)
    → all ≡ replies ++ Stream' from entries at last ∷ [] → from.0 ≡ taken.from → entries ≡ taken.delivered
    → map unplaced all ≡ map unplaced replies ++ stream_of taken last ∷ []
pushed-stream replies all from entries at last taken e first items =
    pushed replies all (Stream' from entries at last) e
    ∙ ap (λ (n : ℕ). map unplaced replies ++ Stream' (record { 0 = n }) entries nowhere last ∷ []) first
    ∙ ap (λ (es : List Entry). map unplaced replies ++ Stream' (record { 0 = taken.from }) es nowhere last ∷ []) items

-- a reply that takes the place of another holds none
pub placed-single : (replies all : List Reply) (item : ℕ) (reply : Reply) → all ≡ slice_set replies item reply → IsSingle reply
    → map unplaced all ≡ slice_set (map unplaced replies) item reply
placed-single replies all item reply e single =
    ap (map unplaced) e ∙ map-set unplaced replies item reply ∙ ap (slice_set (map unplaced replies) item) (unplaced-single reply single)
