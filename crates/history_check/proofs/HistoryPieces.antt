-- The pieces of a history, and the events that written ones stand for.
use Rattle.std.proofs.Common.{◌≡◌, ℕ, zero, suc, ◌+◌, ◌≤◌, List, [], ◌∷◌, ◌++◌, length, map, replicate, take, slice_get, refl, sym, ap, subst, append_assoc, append-nil, arith, ◌∙◌}
use Rattle.std.proofs.lemmas.List.{map-append}
use Rattle.log_base.specs.declared.cluster_shape.Config.{Config}
use Rattle.history_frame.specs.declared.events.Event.{Event}
use Rattle.history_frame.specs.declared.events.History.{History}
use Rattle.history_frame.specs.declared.events.Kept.{Kept}
use Rattle.history_frame.specs.declared.events.Sent.{Sent}
use Rattle.history_frame.specs.declared.inputs.Input.{Input}
use Rattle.history_frame.specs.declared.inputs.Input.TheVariants.{Deliver, Call as ACall, Tick, Lead, Stop, Restart}
use Rattle.history_frame.specs.declared.pieces.Piece.{Piece}
use Rattle.history_frame.specs.declared.pieces.Piece.TheVariants.{Reply as AReply, Head, Kept as AKept, Event as AnEvent}
use Rattle.history_frame.specs.declared.stages.Stage.{Stage}
use Rattle.history_frame.specs.declared.stages.Stage.TheVariants.{Before, Keeping, Running}
use Rattle.history_frame.specs.Frames.{IsInside, KeepsFrom}
use Rattle.history_frame.specs.Spelling.{DisksRise}
use Rattle.history_walk.specs.Filling.{filled, filled_event, filled_input, message_in, outputs_in}
use Rattle.history_check.specs.Courses.{events_from, stage_from}
use Rattle.history_check.specs.Judging.{history_of}
use Rattle.history_check.specs.Verdicts.{pieces_of}
use Rattle.history_check.proofs.CourseLaws.{events_join, stage_join}

-- ---- where they end

pub kept_inside : (least : ℕ) (kept : List Kept) → IsInside (stage_from (Keeping least) (map AKept kept))
kept_inside least [] = tt
kept_inside least (k ∷ kept) = kept_inside k.disk kept

events_inside : (stage : Stage) (events : List Event) → IsInside stage → IsInside (stage_from stage (map AnEvent events))
events_inside stage [] inside = inside
events_inside stage (e ∷ events) inside = events_inside Running events tt

pub stage_pieces : (replies : ℕ) (history : History) (written : List Event)
    → stage_from Before (pieces_of replies history written) ≡ stage_from (stage_from (Keeping 0) (map AKept history.kept)) (map AnEvent written)
stage_pieces zero history written = stage_join (Keeping 0) (map AKept history.kept) (map AnEvent written)
stage_pieces (suc replies) history written = stage_pieces replies history written

pub ends_inside : (replies : ℕ) (history : History) (written : List Event) → IsInside (stage_from Before (pieces_of replies history written))
ends_inside replies history written =
    subst IsInside (sym (stage_pieces replies history written))
    (events_inside (stage_from (Keeping 0) (map AKept history.kept)) written (kept_inside 0 history.kept))

pub replies_stage : (replies : ℕ) → stage_from Before (replicate replies AReply) ≡ Before
replies_stage zero = refl
replies_stage (suc replies) = replies_stage replies

pub events_kept : (n : ℕ) (kept : List Kept) → events_from n (map AKept kept) ≡ n
events_kept n [] = refl
events_kept n (k ∷ kept) = events_kept (n + 0) kept ∙ omega arith

events_written : (n : ℕ) (written : List Event) → events_from n (map AnEvent written) ≡ n + length written
events_written n [] = omega arith
events_written n (e ∷ written) = events_written (n + 1) written ∙ omega arith

pub events_pieces : (replies : ℕ) (history : History) (written : List Event) → events_from 0 (pieces_of replies history written) ≡ length written
events_pieces zero history written =
    events_join 0 (map AKept history.kept) (map AnEvent written)
    ∙ ap (λ (n : ℕ). events_from n (map AnEvent written)) (events_kept 0 history.kept) ∙ events_written 0 written ∙ omega arith
events_pieces (suc replies) history written = events_pieces replies history written

-- ---- one more

pub replies_push : (replies : ℕ) → replicate replies AReply ++ AReply ∷ [] ≡ replicate (suc replies) AReply
replies_push zero = refl
replies_push (suc replies) = ap (λ (l : List Piece). AReply ∷ l) (replies_push replies)

module _ (config : Config) (run : ℕ) (kept : List Kept) where
  pub event_push : (replies : ℕ) (written : List Event) (e : Event)
      → pieces_of replies (history_of config run kept written) written ++ AnEvent e ∷ []
      ≡ pieces_of replies (history_of config run kept (written ++ e ∷ [])) (written ++ e ∷ [])
  event_push zero written e =
      ap (λ (l : List Piece). Head config run ∷ l)
      (append_assoc (map AKept kept) (map AnEvent written) (AnEvent e ∷ []) ∙ ap (λ (l : List Piece). map AKept kept ++ l) (sym (map-append AnEvent written (e ∷ []))))
  event_push (suc replies) written e = ap (λ (l : List Piece). AReply ∷ l) (event_push replies written e)

  pub payload_push : (replies : ℕ) (one : Kept)
      → pieces_of replies (history_of config run kept []) [] ++ AKept one ∷ [] ≡ pieces_of replies (history_of config run (kept ++ one ∷ []) []) []
  payload_push zero one =
      ap (λ (l : List Piece). Head config run ∷ l)
      (ap (λ (l : List Piece). l ++ AKept one ∷ []) (append-nil (map AKept kept)) ∙ sym (map-append AKept kept (one ∷ [])) ∙ sym (append-nil (map AKept (kept ++ one ∷ []))))
  payload_push (suc replies) one = ap (λ (l : List Piece). AReply ∷ l) (payload_push replies one)

pub rise_push : (least : ℕ) (kept : List Kept) (one : Kept) → DisksRise least kept → KeepsFrom (stage_from (Keeping least) (map AKept kept)) (λ from. from ≤ one.disk)
    → DisksRise least (kept ++ one ∷ [])
rise_push least [] one rise keeps = (keeps, tt)
rise_push least (k ∷ kept) one rise keeps = (rise.0, rise_push k.disk kept one rise.1 keeps)

-- ---- what written events stand for

pub length-filled : (before events : List Event) → length (filled before events) ≡ length events
length-filled before [] = refl
length-filled before (e ∷ events) = ap suc (length-filled (before ++ e ∷ []) events)

pub take-filled : (n : ℕ) (before events : List Event) → take n (filled before events) ≡ filled before (take n events)
take-filled zero before events = refl
take-filled (suc n) before [] = refl
take-filled (suc n) before (e ∷ events) = ap (λ (l : List Event). filled_event before e ∷ l) (take-filled n (before ++ e ∷ []) events)

-- a message that is filled in sends no other letter
outputs-filled : (before events : List Event) (place : ℕ) → outputs_in (slice_get (filled before events) place) ≡ outputs_in (slice_get events place)
outputs-filled before [] place = refl
outputs-filled before (e ∷ events) zero = refl
outputs-filled before (e ∷ events) (suc place) = outputs-filled (before ++ e ∷ []) events place

input-filled : (events : List Event) (input : Input) → filled_input (filled [] events) input ≡ filled_input events input
input-filled events (Deliver place index message) =
    ap (λ (sent : List Sent). Deliver place index (message_in (slice_get sent index))) (outputs-filled [] events place)
input-filled events (ACall call) = refl
input-filled events Tick = refl
input-filled events Lead = refl
input-filled events Stop = refl
input-filled events Restart = refl

filled-append : (before events : List Event) (e : Event) → filled before (events ++ e ∷ []) ≡ filled before events ++ filled_event (before ++ events) e ∷ []
filled-append before [] e = ap (λ (b : List Event). filled_event b e ∷ []) (sym (append-nil before))
filled-append before (x ∷ events) e =
    ap (λ (l : List Event). filled_event before x ∷ l)
    (filled-append (before ++ x ∷ []) events e
    ∙ ap (λ (b : List Event). filled (before ++ x ∷ []) events ++ filled_event b e ∷ []) (append_assoc before (x ∷ []) events))

-- one more written event stands for one more
pub filled_push : (written : List Event) (e : Event) → filled [] (written ++ e ∷ []) ≡ filled [] written ++ filled_event (filled [] written) e ∷ []
filled_push written e =
    filled-append [] written e
    ∙ ap (λ (input : Input). filled [] written ++ record e { happened = record e.happened { input = input } } ∷ []) (sym (input-filled written e.happened.input))
