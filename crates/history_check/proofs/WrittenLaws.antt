-- What is written of a history, and read again.
use Rattle.std.proofs.Common.{◌≡◌, ℕ, zero, suc, ◌+◌, ◌≤◌, List, [], ◌∷◌, ◌++◌, length, map, replicate, slice_get, Option, Some, None, refl, sym, ap, subst, append_assoc, length-append, arith, ◌∙◌}
use Rattle.std.specs.Prelude.{fold}
use Rattle.std.specs.List.{AllByRecursion, flat_map}
use Rattle.std.proofs.lemmas.List.{length-map, length-replicate, map-append}
use Rattle.log_base.specs.ClusterShape.{Shape}
use Rattle.log_base.specs.Shape.{shape}
use Rattle.log_base.specs.Wide.{be2, be4}
use Rattle.log_base.specs.declared.cluster_shape.Config.{Config}
use Rattle.log_base.proofs.Wide.{length-be2, length-be4}
use Rattle.message_frame.specs.declared.messages.Message.{Message}
use Rattle.history_frame.specs.declared.events.Event.{Event}
use Rattle.history_frame.specs.declared.events.History.{History}
use Rattle.history_frame.specs.declared.events.Kept.{Kept}
use Rattle.history_frame.specs.declared.events.Sent.{Sent}
use Rattle.history_frame.specs.declared.inputs.Input.{Input}
use Rattle.history_frame.specs.declared.inputs.Input.TheVariants.{Deliver, Call as ACall, Tick, Lead, Stop, Restart}
use Rattle.history_frame.specs.declared.pieces.Piece.{Piece}
use Rattle.history_frame.specs.declared.pieces.Piece.TheVariants.{Reply as AReply, Head, Kept as AKept, Event as AnEvent}
use Rattle.history_frame.specs.declared.stages.Stage.{Stage}
use Rattle.history_frame.specs.declared.stages.Stage.TheVariants.{Before, Keeping, Running}
use Rattle.history_frame.specs.Frames.{IsInside, Spells, TellsNoMessage}
use Rattle.history_frame.specs.Reader.{HistoryCounts, counted, events_in, nothing_yet, passed_limit, stage_after}
use Rattle.history_frame.specs.Spelling.{DisksRise, InPlace, IsEvent, IsInput, IsKept, event_body, event_size, event_spelling, happened_spelling, head_body, head_spelling, history_spelling, input_spelling, kept_body, kept_spelling, mark_byte, sent_spelling}
use Rattle.history_frame.specs.Widths.{EventFits, InputFits, KeptFits}
use Rattle.reply_frame.specs.Replies.{reply_bytes}
use Rattle.node_model.specs.Histories.{IsDelivered}
use Rattle.node_model.specs.Legal.{AreNext}
use Rattle.node_model.specs.NodeState.{KeptLists}
use Rattle.history_walk.specs.Filling.{filled, filled_event, filled_input, message_in, outputs_in}
use Rattle.history_check.specs.Courses.{SpellAll, counts_from, events_from, frame_limit, stage_from}
use Rattle.history_check.specs.Verdicts.{AreHistory, pieces_of}
use Rattle.history_check.specs.Written.{AreReplies, IsReadable, counts_of, frames_of}
use Rattle.history_check.proofs.CourseLaws.{counts_join}
use Rattle.history_check.proofs.HistoryPieces.{events_kept, kept_inside, replies_stage}

-- ---- letters of a lawful history

-- a letter that was sent has the message of the output that it names
input_named : (before : List Event) (node : ℕ) (input : Input) → IsDelivered before node input → filled_input before input ≡ input
input_named before node (Deliver place index None) sent = absurd sent
input_named before node (Deliver place index (Some message)) sent =
    ap (λ (m : Option Message). Deliver place index m)
    (ap (λ (o : Option Event). message_in (slice_get (outputs_in o) index)) sent.at ∙ ap message_in sent.output)
input_named before node (ACall call) sent = refl
input_named before node Tick sent = refl
input_named before node Lead sent = refl
input_named before node Stop sent = refl
input_named before node Restart sent = refl

pub events_named : (config : Shape) (run : ℕ) (kept : KeptLists) (before events : List Event) → AreNext config run kept before events → events ≡ filled before events
events_named config run kept before [] next = refl
events_named config run kept before (e ∷ events) next =
    let first : filled_event before e ≡ e =
    ap (λ (input : Input). record e { happened = record e.happened { input = input } }) (input_named before e.node.0 e.happened.input next.0.delivered) in
    let rest = events_named config run kept (before ++ e ∷ []) events next.1 in
    λ i. sym first i ∷ rest i

-- ---- events as they are written

-- the message of a letter is left out
abbrev pub untold_input : Input → Input
untold_input (Deliver place index message) = Deliver place index None
untold_input (ACall call) = ACall call
untold_input Tick = Tick
untold_input Lead = Lead
untold_input Stop = Stop
untold_input Restart = Restart

abbrev pub untold : Event → Event
untold event = record event { happened = record event.happened { input = untold_input event.happened.input } }

-- an event that is left untold sends the same letters
outputs-untold : (events : List Event) (place : ℕ) → outputs_in (slice_get (map untold events) place) ≡ outputs_in (slice_get events place)
outputs-untold [] place = refl
outputs-untold (e ∷ events) zero = refl
outputs-untold (e ∷ events) (suc place) = outputs-untold events place

input-untold : (before : List Event) (input : Input) → filled_input (map untold before) (untold_input input) ≡ filled_input before input
input-untold before (Deliver place index message) =
    ap (λ (sent : List Sent). Deliver place index (message_in (slice_get sent index))) (outputs-untold before place)
input-untold before (ACall call) = refl
input-untold before Tick = refl
input-untold before Lead = refl
input-untold before Stop = refl
input-untold before Restart = refl

-- what is left out is told again by the outputs
pub filled-untold : (before events : List Event) → filled (map untold before) (map untold events) ≡ filled before events
filled-untold before [] = refl
filled-untold before (e ∷ events) =
    let first : filled_event (map untold before) (untold e) ≡ filled_event before e =
    ap (λ (input : Input). record e { happened = record e.happened { input = input } }) (input-untold before e.happened.input) in
    let rest : filled (map untold before ++ untold e ∷ []) (map untold events) ≡ filled (before ++ e ∷ []) events =
    ap (λ (b : List Event). filled b (map untold events)) (sym (map-append untold before (e ∷ []))) ∙ filled-untold (before ++ e ∷ []) events in
    λ i. first i ∷ rest i

spelling-untold : (input : Input) → input_spelling (untold_input input) ≡ input_spelling input
spelling-untold (Deliver place index message) = refl
spelling-untold (ACall call) = refl
spelling-untold Tick = refl
spelling-untold Lead = refl
spelling-untold Stop = refl
spelling-untold Restart = refl

input_still : (input : Input) → IsInput input → IsInput (untold_input input)
input_still (Deliver place index message) is = tt
input_still (ACall call) is = is
input_still Tick is = tt
input_still Lead is = tt
input_still Stop is = tt
input_still Restart is = tt

fits_still : (input : Input) → InputFits input → InputFits (untold_input input)
fits_still (Deliver place index message) fits = fits
fits_still (ACall call) fits = fits
fits_still Tick fits = tt
fits_still Lead fits = tt
fits_still Stop fits = tt
fits_still Restart fits = tt

is_untold : (input : Input) → TellsNoMessage (untold_input input)
is_untold (Deliver place index message) = refl
is_untold (ACall call) = tt
is_untold Tick = tt
is_untold Lead = tt
is_untold Stop = tt
is_untold Restart = tt

happened-untold : (e : Event) → happened_spelling (untold e).happened ≡ happened_spelling e.happened
happened-untold e =
    ap (λ (l : List ℕ). l ++ (mark_byte e.happened.mark ∷ (length e.happened.outputs ∷ (flat_map sent_spelling e.happened.outputs ++ reply_bytes e.happened.reply))))
    (spelling-untold e.happened.input)

-- ---- frames

-- pieces behind others
pub spell_join : (stage : Stage) (events : ℕ) (pieces others : List Piece) (text more : List ℕ) → SpellAll stage events pieces text
    → SpellAll (stage_from stage pieces) (events_from events pieces) others more → SpellAll stage events (pieces ++ others) (text ++ more)
spell_join stage events [] others text more spelled next = subst (SpellAll stage events others) (ap (λ (l : List ℕ). l ++ more) (sym spelled)) next
spell_join stage events (p ∷ pieces) others text more spelled next = (
  spelled.0,
  spelled.1 ++ more,
  spelled.2,
  spell_join (stage_after stage p) (events + events_in p) pieces others spelled.1 more spelled.3 next,
  ap (λ (l : List ℕ). l ++ more) spelled.4 ∙ append_assoc spelled.0 spelled.1 more,
)

head_spelled : (config : Config) (run : ℕ) → 1 ≤ run → run ≤ 1000000 → Spells Before 0 (Head config run) (head_spelling (shape config) run)
head_spelled config run some few = record {
  kind = 96;
  body = head_body (shape config) run;
  means = (refl, refl, record { some_run = some; run_fits = few; text = refl });
  size = omega (arith, length-be4 run);
  text_is = refl;
}

kept_spelled : (least events : ℕ) (one : Kept) → least ≤ one.disk → IsKept one → KeptFits one → Spells (Keeping least) events (AKept one) (kept_spelling one)
kept_spelled least events one rise is fits = record {
  kind = 97;
  body = kept_body one;
  means = (refl, record { disk = rise; fits = fits; text = refl });
  size = omega (arith, is, length-append (be4 one.disk) one.payload, length-be4 one.disk);
  text_is = refl;
}

all_kept : (least events : ℕ) (kept : List Kept) → DisksRise least kept → AllByRecursion IsKept kept → AllByRecursion KeptFits kept
    → SpellAll (Keeping least) events (map AKept kept) (flat_map kept_spelling kept)
all_kept least events [] rise is fits = refl
all_kept least events (k ∷ kept) rise is fits =
    (kept_spelling k, flat_map kept_spelling kept, kept_spelled least events k rise.0 is.0 fits.0, all_kept k.disk (events + 0) kept rise.1 is.1 fits.1, refl)

event_spelled : (stage : Stage) (place : ℕ) (e : Event) → IsInside stage → e.place ≡ place → IsEvent e → EventFits e
    → Spells stage place (AnEvent (untold e)) (event_spelling e)
event_spelled stage place e inside at is fits =
    let same = happened-untold e in record {
      kind = 98;
      body = event_body e;
      means = (
        inside,
        refl,
        record {
          at_place = at;
          is = record {
            input = input_still e.happened.input is.input;
            few = is.few;
            outputs = is.outputs;
            reply = is.reply;
            size = omega (arith, is.size, ap length same);
          };
          fits = record {
            node = fits.node;
            happened = record { input = fits_still e.happened.input fits.happened.input; outputs = fits.happened.outputs; reply = fits.happened.reply };
          };
          untold = is_untold e.happened.input;
          text = ap (λ (l : List ℕ). be2 e.node.0 ++ l) (sym same);
        },
      );
      size = omega (arith, is.size, length-append (be2 e.node.0) (happened_spelling e.happened), length-be2 e.node.0);
      text_is = refl;
    }

all_events : (stage : Stage) (place : ℕ) (events : List Event) → IsInside stage → InPlace place events → AllByRecursion IsEvent events → AllByRecursion EventFits events
    → SpellAll stage place (map AnEvent (map untold events)) (flat_map event_spelling events)
all_events stage place [] inside at is fits = refl
all_events stage place (e ∷ events) inside at is fits =
    (event_spelling e, flat_map event_spelling events, event_spelled stage place e inside at.0 is.0 fits.0, all_events Running (place + 1) events tt at.1 is.1 fits.1, refl)

events_replies : (replies events : ℕ) → events_from events (replicate replies AReply) ≡ events
events_replies zero events = refl
events_replies (suc replies) events = events_replies replies (events + 0) ∙ omega arith

-- ---- counts

abbrev counts : ℕ → ℕ → ℕ → HistoryCounts
counts events event_bytes kept_bytes = record { events = events; event_bytes = event_bytes; kept_bytes = kept_bytes }

same_counts : (a b c x y z : ℕ) → a ≡ x → b ≡ y → c ≡ z → counts a b c ≡ counts x y z
same_counts a b c x y z p q r = λ i. counts (p i) (q i) (r i)

counts_replies : (replies : ℕ) (c : HistoryCounts) → counts_from c (replicate replies AReply) ≡ c
counts_replies zero c = refl
counts_replies (suc replies) c =
    counts_replies replies (counted c AReply)
    ∙ same_counts (c.events + 0) (c.event_bytes + 0) (c.kept_bytes + 0) c.events c.event_bytes c.kept_bytes (omega arith) (omega arith) (omega arith)

counts_kept : (n bytes held : ℕ) (kept : List Kept)
    → counts_from (counts n bytes held) (map AKept kept) ≡ counts n bytes (fold (λ (sum : ℕ) (k : Kept). sum + length k.payload) held kept)
counts_kept n bytes held [] = refl
counts_kept n bytes held (k ∷ kept) =
    ap (λ (c : HistoryCounts). counts_from c (map AKept kept))
    (same_counts (n + 0) (bytes + 0) (held + length k.payload) n bytes (held + length k.payload) (omega arith) (omega arith) refl)
    ∙ counts_kept n bytes (held + length k.payload) kept

counts_events : (n bytes held : ℕ) (events : List Event)
    → counts_from (counts n bytes held) (map AnEvent (map untold events))
    ≡ counts (n + length events) (fold (λ (sum : ℕ) (e : Event). sum + event_size e.happened) bytes events) held
counts_events n bytes held [] = same_counts n bytes held (n + 0) bytes held (omega arith) refl refl
counts_events n bytes held (e ∷ events) =
    let size : event_size (untold e).happened ≡ event_size e.happened = omega (arith, ap length (happened-untold e)) in
    ap (λ (c : HistoryCounts). counts_from c (map AnEvent (map untold events)))
    (same_counts (n + 1) (bytes + event_size (untold e).happened) (held + 0) (n + 1) (bytes + event_size e.happened) held refl (omega (arith, size)) (omega arith))
    ∙ counts_events (n + 1) (bytes + event_size e.happened) held events
    ∙ same_counts (n + 1 + length events) (fold (λ (sum : ℕ) (f : Event). sum + event_size f.happened) (bytes + event_size e.happened) events) held (n + suc (length events))
    (fold (λ (sum : ℕ) (f : Event). sum + event_size f.happened) (bytes + event_size e.happened) events) held (omega arith) refl refl

-- ---- the whole

module _ (history : History) (replies : ℕ) where
  abbrev written : List Event
  written = map untold history.events

  abbrev behind : List Piece
  behind = map AKept history.kept ++ map AnEvent written

  -- as many are counted as there are
  counts_are : counts_from nothing_yet (pieces_of replies history written) ≡ counts_of history
  counts_are =
      counts_join nothing_yet (replicate replies AReply) (Head history.config history.run ∷ behind)
      ∙ ap (λ (c : HistoryCounts). counts_from c (Head history.config history.run ∷ behind)) (counts_replies replies nothing_yet)
      ∙ counts_join nothing_yet (map AKept history.kept) (map AnEvent written)
      ∙ ap (λ (c : HistoryCounts). counts_from c (map AnEvent written)) (counts_kept 0 0 0 history.kept)
      ∙ counts_events 0 0 (fold (λ (sum : ℕ) (k : Kept). sum + length k.payload) 0 history.kept) history.events
      ∙ ap (λ (n : ℕ). counts n (fold (λ (sum : ℕ) (e : Event). sum + event_size e.happened) 0 history.events) (fold (λ (sum : ℕ) (k : Kept). sum + length k.payload) 0 history.kept))
      (let e : 0 + length history.events ≡ length history.events = omega arith in e)

  frames_are : length (pieces_of replies history written) ≡ replies + frames_of history
  frames_are = omega (
    arith,
    length-append (replicate replies AReply) (Head history.config history.run ∷ behind),
    length-replicate replies AReply,
    length-append (map AKept history.kept) (map AnEvent written),
    length-map history.kept AKept,
    length-map written AnEvent,
    length-map history.events untold,
  )

  module _ (is : IsReadable history) where
    behind_spelled : SpellAll (Keeping 0) 0 behind (flat_map kept_spelling history.kept ++ flat_map event_spelling history.events)
    behind_spelled =
        spell_join (Keeping 0) 0 (map AKept history.kept) (map AnEvent written) (flat_map kept_spelling history.kept) (flat_map event_spelling history.events)
        (all_kept 0 0 history.kept is.spelled.disks is.spelled.kept is.widths.kept)
        (subst (λ (n : ℕ). SpellAll (stage_from (Keeping 0) (map AKept history.kept)) n (map AnEvent written) (flat_map event_spelling history.events)) (sym (events_kept 0 history.kept))
        (all_events (stage_from (Keeping 0) (map AKept history.kept)) 0 history.events (kept_inside 0 history.kept) is.spelled.places is.spelled.events is.widths.events))

    whole_spelled : SpellAll Before 0 (Head history.config history.run ∷ behind) (history_spelling history)
    whole_spelled = (
      head_spelling (shape history.config) history.run,
      flat_map kept_spelling history.kept ++ flat_map event_spelling history.events,
      head_spelled history.config history.run is.spelled.some_run is.spelled.run,
      behind_spelled,
      refl,
    )

    pub read_again : (front : List ℕ) → AreReplies replies front → replies + frames_of history ≤ frame_limit → AreHistory (front ++ history_spelling history) history
    read_again front are few = record {
      replies = replies;
      written = written;
      spelled = spell_join Before 0 (replicate replies AReply) (Head history.config history.run ∷ behind) front (history_spelling history) are
          (subst (λ (s : Stage). SpellAll s (events_from 0 (replicate replies AReply)) (Head history.config history.run ∷ behind) (history_spelling history)) (sym (replies_stage replies))
          (subst (λ (n : ℕ). SpellAll Before n (Head history.config history.run ∷ behind) (history_spelling history)) (sym (events_replies replies 0)) whole_spelled));
      within = ap passed_limit counts_are ∙ is.within;
      few = omega (arith, frames_are, few);
      events = is.letters ∙ sym (filled-untold [] history.events);
    }
