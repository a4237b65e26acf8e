-- What the body of a frame stands for, from what was read of it.
use Rattle.std.proofs.Common.{◌≡◌, ℕ, ◌+◌, ◌<◌, ◌≤◌, List, ◌∷◌, length, ◌++◌, Result, Ok, Err, MatchResult, refl, sym, ap, subst, ◌∙◌, length-append, arith}
use Rattle.log_base.specs.ClusterShape.{Shape}
use Rattle.log_base.specs.Shape.{shape}
use Rattle.log_base.specs.Wide.{IsBytes, be2}
use Rattle.log_base.proofs.Wide.{length-be2}
use Rattle.log_base.specs.declared.cluster_shape.Config.{Config}
use Rattle.log_base.specs.declared.numbers.NodeId.{NodeId}
use Rattle.record_frame.specs.declared.refusals.Refusal.{Refusal}
use Rattle.record_frame.specs.declared.refusals.Refusal.TheVariants.{Short, TooLong, BadKind, BadNumber, Long, Memory}
use Rattle.record_frame.specs.Fields.{Refuses}
use Rattle.record_frame.proofs.FieldLaws.{ok_is}
use Rattle.reply_frame.specs.declared.replies.Reply.{Reply}
use Rattle.history_frame.specs.declared.events.Happened.{Happened}
use Rattle.history_frame.specs.declared.events.Kept.{Kept}
use Rattle.history_frame.specs.declared.pieces.Piece.{Piece}
use Rattle.history_frame.specs.declared.pieces.Piece.TheVariants.{Reply as AReply, Head, Kept as AKept, Event as AnEvent, End}
use Rattle.history_frame.specs.declared.stages.Stage.{Stage}
use Rattle.history_frame.specs.declared.stages.Stage.TheVariants.{Before, Keeping, Running}
use Rattle.history_frame.specs.Frames.{IsReplyBody, IsHeadBody, IsKeptBody, IsEventBody, IsEventRead, IsInside, Means, IsNone, Finds, placed}
use Rattle.history_frame.specs.Spelling.{happened_spelling}
use Rattle.history_frame.specs.ReplyReading.{Told, told}
use Rattle.history_frame.specs.Reading.{ToldHappened, happened_told, lane_reply_of, head_of, kept_of, event_of}
use Rattle.history_frame.proofs.HappenedLaws.{IsRight, happened_read, happened_text, lane_reply_takes, lane_reply_again, event_takes, event_again, kept_takes, kept_again, head_takes, head_again}
use Rattle.history_frame.proofs.ReplyLaws.{told_text, told_is}

-- ---- nothing is found where reading refuses

-- reading that refuses does not answer
refused : {A : Type 0} (read : Result A Refusal) (refusal : Refusal) (x : A) → read ≡ Err refusal → read ≡ Ok x → ⊥
refused read refusal x e is = cc

-- a refusal of reading, where each thing that there is would be read
pub finds_none : {X A : Type 0} (Is : X → Type 0) (read : Result A Refusal) (refusal : Refusal) → Refuses refusal read → ((x : X) → Is x → (a : A) × (read ≡ Ok a)) → Finds Is (Err refusal)
finds_none Is read (Short need) told reads = λ x is. let r = reads x is in refused read (Short need) r.0 told r.1
finds_none Is read (TooLong size) told reads = λ x is. let r = reads x is in refused read (TooLong size) r.0 told r.1
finds_none Is read (BadKind byte) told reads = λ x is. let r = reads x is in refused read (BadKind byte) r.0 told r.1
finds_none Is read (BadNumber at) told reads = λ x is. let r = reads x is in refused read (BadNumber at) r.0 told r.1
finds_none Is read (Long extra) told reads = λ x is. let r = reads x is in refused read (Long extra) r.0 told r.1
finds_none Is read Memory told reads = tt

-- an answer that is a refusal of reading, whatever is in the place
pub finds_err : {A B : Type 0} (Is : Piece → Type 0) (read : Result A Refusal) (answer : Result B Refusal) (place : Piece) (refusal : Refusal) → answer ≡ Err refusal → Refuses refusal read
    → ((x : Piece) → Is x → (a : A) × (read ≡ Ok a)) → Finds Is (placed answer place)
finds_err {B} Is read answer place refusal e told reads = subst (λ (r : Result B Refusal). Finds Is (placed r place)) (sym e) (finds_none Is read refusal told reads)

-- ---- replies

pub reply_found : (body : List ℕ) (lane : ℕ) (reply : Reply) → IsBytes body → lane_reply_of body ≡ Ok (lane, told reply) → IsReplyBody body
reply_found body lane reply fits e =
    let t = lane_reply_takes body (lane, told reply) fits e in
    let is = told_is reply t.reply in
    record { lane = lane; reply = reply; lane_fits = t.lane; is = is.0; fits = is.1; text = t.text ∙ ap (λ (l : List ℕ). lane ∷ l) (told_text reply) }

pub reply_reads : (events : ℕ) (body : List ℕ) (x : Piece) → Means Before events 64 body x → (a : ℕ × Told) × (lane_reply_of body ≡ Ok a)
reply_reads events body AReply means =
    let is = means.2 in
    ((is.lane, told is.reply), ap lane_reply_of is.text ∙ lane_reply_again is.lane is.reply is.lane_fits is.is is.fits)
reply_reads events body (Head config run) means = absurd (omega (arith, means.1))
reply_reads events body (AKept kept) means = absurd (omega (arith, means.0))
reply_reads events body (AnEvent event) means = absurd (omega (arith, means.1))
reply_reads events body End means = absurd means

-- ---- heads

pub head_found : (body : List ℕ) (config : Config) (run : ℕ) → IsBytes body → head_of body ≡ Ok (shape config, run) → IsHeadBody body config run
head_found body config run fits e =
    let t = head_takes body (shape config, run) fits e in
    record { some_run = t.some_run; run_fits = t.run; text = t.text }

pub head_reads : (events : ℕ) (body : List ℕ) (x : Piece) → Means Before events 96 body x → (a : Shape × ℕ) × (head_of body ≡ Ok a)
head_reads events body AReply means = absurd (omega (arith, means.1))
head_reads events body (Head config run) means =
    let is = means.2 in
    ((shape config, run), ap head_of is.text ∙ head_again (shape config) run config.in_range is.some_run is.run_fits)
head_reads events body (AKept kept) means = absurd (omega (arith, means.0))
head_reads events body (AnEvent event) means = absurd (omega (arith, means.1))
head_reads events body End means = absurd means

-- ---- payloads

pub kept_found : (least : ℕ) (body : List ℕ) (kept : Kept) → IsBytes body → kept_of body ≡ Ok kept → least ≤ kept.disk → IsKeptBody least body kept
kept_found least body kept fits e disk = let t = kept_takes body kept fits e in record { disk = disk; fits = t.0; text = t.1 }

-- the payload that is read is the one that there is
pub kept_is : (least events : ℕ) (body : List ℕ) (x : Piece) → Means (Keeping least) events 97 body x → (kept : Kept) × (kept_of body ≡ Ok kept) × (least ≤ kept.disk)
kept_is least events body AReply means = absurd (omega (arith, means.1))
kept_is least events body (Head config run) means = absurd (omega (arith, means.1))
kept_is least events body (AKept kept) means = let is = means.1 in (kept, ap kept_of is.text ∙ kept_again kept is.fits, is.disk)
kept_is least events body (AnEvent event) means = absurd (omega (arith, means.1))
kept_is least events body End means = absurd means

pub kept_reads : (least events : ℕ) (body : List ℕ) (x : Piece) → Means (Keeping least) events 97 body x → (a : Kept) × (kept_of body ≡ Ok a)
kept_reads least events body x means = let is = kept_is least events body x means in (is.0, is.1)

pub kept_falls : (least events : ℕ) (body : List ℕ) (kept : Kept) → kept_of body ≡ Ok kept → kept.disk < least → IsNone (Means (Keeping least) events 97 body)
kept_falls least events body kept e low = λ x means.
    let is = kept_is least events body x means in
    let same : kept ≡ is.0 = ok_is kept is.0 (sym e ∙ is.1) in
    let disk = is.2 in
    let equal = ap (λ (k : Kept). k.disk) same in
    absurd (omega arith)

-- ---- events

pub event_found : (events : ℕ) (body : List ℕ) (node : NodeId) (happened : Happened) → IsBytes body → length body ≤ 2097151 → event_of body ≡ Ok (node, happened_told happened)
    → IsEventBody events body (record { place = events; node = node; happened = happened })
event_found events body node happened fits small e =
    let t = event_takes body (node, happened_told happened) fits e in
    let r = happened_read happened t.happened in
    let text : body ≡ be2 node.0 ++ happened_spelling happened = t.text ∙ ap (λ (l : List ℕ). be2 node.0 ++ l) (happened_text happened) in
    let size : length body ≡ 2 + length (happened_spelling happened) = ap length text ∙ omega (arith, length-append (be2 node.0) (happened_spelling happened), length-be2 node.0) in
    record {
      at_place = refl;
      is = record { input = r.is.input; few = r.is.few; outputs = r.is.outputs; reply = r.is.reply; size = omega (arith, size, small) };
      fits = record { node = t.node; happened = r.fits };
      untold = r.untold;
      text = text;
    }

pub event_reads : (stage : Stage) (events : ℕ) (body : List ℕ) (x : Piece) → Means stage events 98 body x → (a : NodeId × ToldHappened) × (event_of body ≡ Ok a)
event_reads stage events body AReply means = absurd (omega (arith, means.1))
event_reads stage events body (Head config run) means = absurd (omega (arith, means.1))
event_reads stage events body (AKept kept) means = absurd (omega (arith, means.0))
event_reads stage events body (AnEvent event) means =
    let is = means.2 in
    let right : IsRight event.happened = record { input = is.is.input; few = is.is.few; outputs = is.is.outputs; reply = is.is.reply } in
    ((event.node, happened_told event.happened), ap event_of is.text ∙ event_again event.node event.happened is.fits.node right is.fits.happened is.untold)
event_reads stage events body End means = absurd means

-- the event that was put into a place, or none
pub event_finds : {B : Type 0} (stage : Stage) (events : ℕ) (body : List ℕ) (answer : Result B Refusal) (piece : Piece) → IsInside stage → IsBytes body → length body ≤ 2097151
    → MatchResult answer (λ _. IsEventRead events (event_of body) piece) (λ refusal. Refuses refusal (event_of body)) → Finds (Means stage events 98 body) (placed answer piece)
event_finds stage events body (Ok done) (AnEvent event) inside fits small read =
    let found = event_found events body event.node event.happened fits small read.1 in
    (inside, refl, subst (λ (p : ℕ). IsEventBody events body (record { place = p; node = event.node; happened = event.happened })) (sym read.0) found)
event_finds stage events body (Ok done) AReply inside fits small read = absurd read
event_finds stage events body (Ok done) (Head config run) inside fits small read = absurd read
event_finds stage events body (Ok done) (AKept kept) inside fits small read = absurd read
event_finds stage events body (Ok done) End inside fits small read = absurd read
event_finds stage events body (Err refusal) piece inside fits small read =
    finds_none (Means stage events 98 body) (event_of body) refusal read (event_reads stage events body)

-- ---- kinds that may not stand there

pub none_before : (events kind : ℕ) (body : List ℕ) → (kind ≡ 64 → ⊥) → (kind ≡ 96 → ⊥) → IsNone (Means Before events kind body)
none_before events kind body reply head AReply means = reply means.1
none_before events kind body reply head (Head config run) means = head means.1
none_before events kind body reply head (AKept kept) means = means.1
none_before events kind body reply head (AnEvent event) means = means.0
none_before events kind body reply head End means = means

pub none_keeping : (least events kind : ℕ) (body : List ℕ) → (kind ≡ 97 → ⊥) → (kind ≡ 98 → ⊥) → IsNone (Means (Keeping least) events kind body)
none_keeping least events kind body kept event AReply means = other means.0
  where
    other : Keeping least ≡ Before → ⊥
    other e = cc
none_keeping least events kind body kept event (Head config run) means = other means.0
  where
    other : Keeping least ≡ Before → ⊥
    other e = cc
none_keeping least events kind body kept event (AKept k) means = kept means.0
none_keeping least events kind body kept event (AnEvent e) means = event means.1
none_keeping least events kind body kept event End means = means

pub none_running : (events kind : ℕ) (body : List ℕ) → (kind ≡ 98 → ⊥) → IsNone (Means Running events kind body)
none_running events kind body event AReply means = other means.0
  where
    other : Running ≡ Before → ⊥
    other e = cc
none_running events kind body event (Head config run) means = other means.0
  where
    other : Running ≡ Before → ⊥
    other e = cc
none_running events kind body event (AKept k) means = means.1
none_running events kind body event (AnEvent e) means = event means.1
none_running events kind body event End means = means
