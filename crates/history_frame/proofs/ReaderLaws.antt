-- What the reader of a history answers, from what its frame's reading found.
use Rattle.std.proofs.Common.{◌≡◌, ℕ, ◌+◌, ◌-◌, ◌<◌, ◌≤◌, ◌^◌, min, List, [], ◌∷◌, length, Option, Some, None, Result, Ok, Err, inl, inr, refl, sym, ap, ◌∙◌, subst, length-append, arith}
use Rattle.std.specs.Io.KnownBytes.{Consumes, IsAtEnd}
use Rattle.log_base.specs.Outside.{unread, ReadsOn}
use Rattle.log_base.specs.Wide.{be2, be4}
use Rattle.log_base.proofs.Wide.{length-be2, length-be4}
use Rattle.reply_frame.specs.declared.faults.ItemFault.{ItemFault}
use Rattle.reply_frame.specs.declared.faults.ItemFault.TheVariants.{Bad, Read, Many, Memory}
use Rattle.history_frame.specs.declared.pieces.Piece.{Piece}
use Rattle.history_frame.specs.declared.pieces.Piece.TheVariants.{Reply as AReply, Head, Kept as AKept, Event as AnEvent, End}
use Rattle.history_frame.specs.declared.stages.Stage.{Stage}
use Rattle.history_frame.specs.declared.stages.Stage.TheVariants.{Before, Keeping, Running}
use Rattle.history_frame.specs.Frames.{IsInside, Means, Spells, placed}
use Rattle.history_frame.specs.Spelling.{happened_spelling}
use Rattle.history_frame.specs.Reader.{HistoryReading, FitsFrame, NoPiece, FrameRead, FindsFrame, Gave, Refused, Ended, Fails, Answers, counted, passed_limit, stage_after}

-- ---- a piece fits its frame

kept_fits : (stage : Stage) (events kind : ℕ) (body : List ℕ) (piece : Piece) (size : ℕ) → length body + 1 ≤ 2097152 → size ≡ length body + 5 → Means stage events kind body piece → FitsFrame size piece
kept_fits stage events kind body AReply size small sized means = tt
kept_fits stage events kind body (Head config run) size small sized means = tt
kept_fits Before events kind body (AKept kept) size small sized means = absurd means.1
kept_fits (Keeping least) events kind body (AKept kept) size small sized means =
    omega (arith, small, ap length means.1.text, length-append (be4 kept.disk) kept.payload)
kept_fits Running events kind body (AKept kept) size small sized means = absurd means.1
kept_fits stage events kind body (AnEvent event) size small sized means =
    let spelled = happened_spelling event.happened in
    let long : length body ≡ 2 + length spelled = omega (arith, ap length means.2.text, length-append (be2 event.node.0) spelled, length-be2 event.node.0) in
    (omega (arith, sized, long), omega (arith, sized, small))
kept_fits stage events kind body End size small sized means = tt

pub fits_frame : (stage : Stage) (events : ℕ) (before after : Option (List ℕ)) (piece : Piece) (size : ℕ) → FrameRead stage events before after piece size → FitsFrame size piece
fits_frame stage events before after piece size read =
    let spells = read.spells in
    let front = be4 (length spells.body + 1) in
    let sized : size ≡ length spells.body + 5 =
    omega (arith, read.size_is, ap length spells.text_is, length-append front (spells.kind ∷ spells.body), length-be4 (length spells.body + 1)) in
    kept_fits stage events spells.kind spells.body piece size spells.size sized spells.means

-- ---- a piece, the end, or a fault

-- the reader keeps the fault, and holds other bytes
fails : (old new : HistoryReading) (pending : List ℕ) (taken : ℕ) (fault : ItemFault) → new ≡ record old { pending = pending; taken = taken; fault = Some fault } → Fails old new fault
fails old new pending taken fault e =
    subst (λ (x : HistoryReading). x ≡ record old { pending = x.pending; taken = x.taken; fault = Some fault }) (sym e) refl

module _ (old new : HistoryReading) (pending : List ℕ) (taken : ℕ) (before left : Option (List ℕ)) (piece : Piece) (size : ℕ) (answer : Result (Unit {0}) ItemFault)
    (read : FrameRead old.stage old.counts.events before (unread pending left) piece size)
    (given : passed_limit (counted old.counts piece) ≡ None → (answer ≡ Ok tt) × (new ≡ record old {
      pending = pending;
      taken = taken;
      stage = stage_after old.stage piece;
      counts = counted old.counts piece;
      offset = min (old.offset + size) (2 ^ 64 - 1);
    }))
    (refused : (cause : ℕ) → passed_limit (counted old.counts piece) ≡ Some cause → (answer ≡ Err (Many cause)) × (new ≡ record old { pending = pending; taken = taken; fault = Some (Many cause) })) where
  pub give_holds : pending ≡ new.pending
  give_holds = by_limit (passed_limit (counted old.counts piece)) refl
    where
      by_limit : (limit : Option ℕ) → passed_limit (counted old.counts piece) ≡ limit → pending ≡ new.pending
      by_limit None e = let g = given e in sym (ap (λ (r : HistoryReading). r.pending) g.1)
      by_limit (Some cause) e = let r = refused cause e in sym (ap (λ (r : HistoryReading). r.pending) r.1)

  consumed : Consumes before (unread new.pending left) read.text
  consumed = subst (λ (l : List ℕ). Consumes before (unread l left) read.text) give_holds read.consumed

  moved : new ≡ record old { pending = pending; taken = taken; stage = stage_after old.stage piece; counts = counted old.counts piece; offset = min (old.offset + size) (2 ^ 64 - 1) }
      → new ≡ record old { pending = new.pending; taken = new.taken; stage = stage_after old.stage piece; counts = counted old.counts piece; offset = min (old.offset + length read.text) (2 ^ 64 - 1) }
  moved e =
      let sized = e ∙ ap (λ (n : ℕ). record old { pending = pending; taken = taken; stage = stage_after old.stage piece; counts = counted old.counts piece; offset = min (old.offset + n) (2 ^ 64 - 1) }) read.size_is in
      subst (λ (x : HistoryReading). x ≡ record old { pending = x.pending; taken = x.taken; stage = stage_after old.stage piece; counts = counted old.counts piece; offset = min (old.offset + length read.text) (2 ^ 64 - 1) }) (sym sized) refl

  abbrev told : Result (Unit {0}) ItemFault → Type 0
  told r = Answers old new before (unread new.pending left) (placed r piece)

  pub give_answers : Answers old new before (unread new.pending left) (placed answer piece)
  give_answers = by_limit (passed_limit (counted old.counts piece)) refl
    where
      by_limit : (limit : Option ℕ) → passed_limit (counted old.counts piece) ≡ limit → Answers old new before (unread new.pending left) (placed answer piece)
      by_limit None e =
          let g = given e in
          let gave : Gave old new before (unread new.pending left) piece = record { text = read.text; spells = read.spells; consumed = consumed; within = e; moved = moved g.1 } in
          subst told (sym g.0) (inl gave)
      by_limit (Some cause) e =
          let r = refused cause e in
          let was : Refused old before (unread new.pending left) cause = record { piece = piece; text = read.text; spells = read.spells; consumed = consumed; passed = e } in
          subst told (sym r.0) (was, fails old new pending taken (Many cause) r.1)

  pub give_passes : ReadsOn before (unread new.pending left)
  give_passes = (read.text, consumed)

-- no spelling is empty
some_text : (stage : Stage) (events : ℕ) (piece : Piece) (text : List ℕ) → Spells stage events piece text → 0 < length text
some_text stage events piece text spells =
    omega (arith, ap length spells.text_is, length-append (be4 (length spells.body + 1)) (spells.kind ∷ spells.body), length-be4 (length spells.body + 1))

none_at_end : (stage : Stage) (events : ℕ) (before after : Option (List ℕ)) → Consumes before after [] → IsAtEnd after → NoPiece stage events before
none_at_end stage events None after h end = tt
none_at_end stage events (Some x) None h end = absurd h
none_at_end stage events (Some x) (Some z) h end = λ piece text rest spells e.
    absurd (omega (arith, some_text stage events piece text spells, ap length e, length-append text rest, ap length h, ap length end))

pub end_answers : (old new : HistoryReading) (pending : List ℕ) (taken : ℕ) (before left : Option (List ℕ)) (result : Result Piece ItemFault)
    → Consumes before (unread pending left) [] × IsAtEnd (unread pending left)
    → (old.stage ≡ Before → (result ≡ Err (Bad old.offset)) × (new ≡ record old { pending = pending; taken = taken; fault = Some (Bad old.offset) }))
    → (IsInside old.stage → (result ≡ Ok End) × (new ≡ record old { pending = pending; taken = taken }))
    → Answers old new before (unread new.pending left) result
end_answers old new pending taken before left result found outside inside = by_stage old.stage refl
  where
    is_inside : IsInside old.stage → Answers old new before (unread new.pending left) result
    is_inside in_it =
        let g = inside in_it in
        let held : pending ≡ new.pending = sym (ap (λ (r : HistoryReading). r.pending) g.1) in
        let ended : Ended old new before (unread new.pending left) End = record {
          is_end = refl;
          inside = in_it;
          consumed = subst (λ (l : List ℕ). Consumes before (unread l left) []) held found.0;
          at_end = subst (λ (l : List ℕ). IsAtEnd (unread l left)) held found.1;
          moved = subst (λ (x : HistoryReading). x ≡ record old { pending = x.pending; taken = x.taken }) (sym g.1) refl;
        } in
        subst (Answers old new before (unread new.pending left)) (sym g.0) (inr ended)

    by_stage : (stage : Stage) → old.stage ≡ stage → Answers old new before (unread new.pending left) result
    by_stage Before e =
        let g = outside e in
        subst (Answers old new before (unread new.pending left)) (sym g.0)
        (none_at_end old.stage old.counts.events before (unread pending left) found.0 found.1, inl e, refl, fails old new pending taken (Bad old.offset) g.1)
    by_stage (Keeping least) e = is_inside (subst IsInside (sym e) tt)
    by_stage Running e = is_inside (subst IsInside (sym e) tt)

pub err_answers : (old new : HistoryReading) (pending : List ℕ) (taken : ℕ) (before left : Option (List ℕ)) (piece : Piece) (fault : ItemFault) (answer : Result (Unit {0}) ItemFault)
    → FindsFrame old.stage old.counts.events before (unread pending left) piece (Err fault) → ((at : ℕ) → fault ≡ Bad at → at ≡ old.offset)
    → answer ≡ Err fault → new ≡ record old { pending = pending; taken = taken; fault = Some fault } → Answers old new before (unread new.pending left) (placed answer piece)
err_answers old new pending taken before left piece (Bad at) answer found place is e =
    subst (λ (r : Result (Unit {0}) ItemFault). Answers old new before (unread new.pending left) (placed r piece)) (sym is) (found.0, inr found.1, place at refl, fails old new pending taken (Bad at) e)
err_answers old new pending taken before left piece (Read at) answer found place is e =
    subst (λ (r : Result (Unit {0}) ItemFault). Answers old new before (unread new.pending left) (placed r piece)) (sym is) (fails old new pending taken (Read at) e)
err_answers old new pending taken before left piece (Many cause) answer found place is e = absurd found
err_answers old new pending taken before left piece Memory answer found place is e =
    subst (λ (r : Result (Unit {0}) ItemFault). Answers old new before (unread new.pending left) (placed r piece)) (sym is) (fails old new pending taken Memory e)
