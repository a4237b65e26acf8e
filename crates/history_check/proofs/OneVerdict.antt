-- Bytes that are those of a history have one verdict, and no fault but of memory or of their source.
use Rattle.std.proofs.Common.{◌≡◌, ◌⊎◌, inl, inr, ℕ, zero, suc, ◌<◌, ◌≤◌, List, [], ◌∷◌, ◌++◌, length, map, take, drop, Option, Some, None, Result, Ok, Err, refl, sym, ap, subst, ⊎_elim, append-nil, length-append, arith, ◌∙◌}
use Rattle.std.specs.Prelude.{IfErr, IfOk}
use Rattle.std.specs.List.{AllByRecursion}
use Rattle.std.specs.Io.KnownBytes.{Consumes, IsAtEnd}
use Rattle.std.proofs.KnownBytes.{Consumes-trans}
use Rattle.std.proofs.lemmas.List.{length-map, take-append-drop, take_all}
use Rattle.std.proofs.lemmas.Bool.{cases_lt}
use Rattle.std.proofs.lemmas.Bool.Decides.{nat_tests}
use Rattle.log_base.specs.ClusterShape.{Shape}
use Rattle.log_base.specs.Shape.{shape}
use Rattle.reply_frame.specs.declared.replies.Reply.{Reply, Stream'}
use Rattle.history_frame.specs.declared.events.Event.{Event}
use Rattle.history_frame.specs.declared.events.History.{History}
use Rattle.history_frame.specs.declared.events.Kept.{Kept}
use Rattle.history_frame.specs.declared.pieces.Piece.{Piece}
use Rattle.history_frame.specs.declared.pieces.Piece.TheVariants.{Kept as AKept, Event as AnEvent}
use Rattle.history_frame.specs.declared.stages.Stage.{Stage}
use Rattle.history_frame.specs.declared.stages.Stage.TheVariants.{Before}
use Rattle.history_frame.specs.Frames.{IsInside}
use Rattle.history_frame.specs.Reader.{HasBytes, HistoryCounts, NoPiece, nothing_yet, passed_limit}
use Rattle.history_frame.specs.Reading.{happened_told}
use Rattle.history_frame.specs.ReplyReading.{plain, told}
use Rattle.node_model.specs.Legal.{AreNext, IsLegal}
use Rattle.node_model.specs.NodeState.{KeptLists, node_after}
use Rattle.node_model.specs.Sound.{payloads_on}
use Rattle.sequence_law.proofs.Moments.{legal_part}
use Rattle.history_walk.specs.Filling.{filled}
use Rattle.history_walk.specs.Replies.{IsNodeReply}
use Rattle.history_walk.proofs.NodeReplies.{node_reply}
use Rattle.history_check.specs.Courses.{HasTooManyFrames, IsBadAt, IsTooMany, SpellAll, counts_from, events_from, stage_from}
use Rattle.history_check.specs.Verdicts.{AreHistory, IsFault, IsLegalTo, IsTrueOf, IsUnlawfulAt, IsVerdict, ReadsHistory, pieces_of}
use Rattle.history_check.specs.declared.verdicts.Verdict.{Verdict}
use Rattle.history_check.specs.declared.verdicts.Verdict.TheVariants.{Lawful, Unlawful}
use Rattle.history_check.specs.declared.verdicts.CheckFault.{CheckFault}
use Rattle.history_check.specs.declared.verdicts.CheckFault.TheVariants.{Bad, Read, Many, Memory}
use Rattle.history_check.proofs.CourseLaws.{spell_push}
use Rattle.history_check.proofs.HistoryPieces.{ends_inside, length-filled, take-filled}
use Rattle.history_check.proofs.OneMeaning.{Follow, ToldPiece, a_head, a_payload, a_reply, all_told, all_told-join, an_end, an_event, counts-told, counts_told, follow, some_text, stage-told, stages_told, told_of}

-- ---- replies and events that are told alike

plain_told : (r : Reply) → IsNodeReply r → told r ≡ plain r
plain_told (Stream' from entries at last) is = absurd is
plain_told r is = refl

told_plain : (s r : Reply) → told s ≡ plain r → s ≡ r
told_plain (Stream' from entries at last) r e = absurd (cc)
told_plain s r e = cc

one_reply : (r s : Reply) → IsNodeReply r → told r ≡ told s → r ≡ s
one_reply r s is e = sym (told_plain s r (sym e ∙ plain_told r is))

abbrev Answers : Event → Type 0
Answers e = IsNodeReply e.happened.reply

one_event : (e f : Event) → Answers e → told_of (AnEvent e) ≡ told_of (AnEvent f) → e ≡ f
one_event e f is same =
    let place : e.place ≡ f.place = cc in
    let node : e.node ≡ f.node = cc in
    let happened : happened_told e.happened ≡ happened_told f.happened = cc in
    let answer : e.happened.reply ≡ f.happened.reply = one_reply e.happened.reply f.happened.reply is (λ i. (happened i).reply) in
    λ i. record {
      place = place i;
      node = node i;
      happened = record { input = (happened i).input; mark = (happened i).mark; outputs = (happened i).outputs; reply = answer i };
    }

-- events that are told alike, one by one
abbrev pub AreAlike : List Event → List Event → Type 0
AreAlike [] [] = Unit {0}
AreAlike [] (f ∷ others) = ⊥
AreAlike (e ∷ events) [] = ⊥
AreAlike (e ∷ events) (f ∷ others) = (told_of (AnEvent e) ≡ told_of (AnEvent f)) × AreAlike events others

alike_sym : (events others : List Event) → AreAlike events others → AreAlike others events
alike_sym [] [] same = tt
alike_sym [] (f ∷ others) same = absurd same
alike_sym (e ∷ events) [] same = absurd same
alike_sym (e ∷ events) (f ∷ others) same = (sym same.0, alike_sym events others same.1)

one_front : (n : ℕ) (events others : List Event) → AreAlike events others → AllByRecursion Answers (take n events) → take n events ≡ take n others
one_front zero events others same answers = refl
one_front (suc n) [] [] same answers = refl
one_front (suc n) [] (f ∷ others) same answers = absurd same
one_front (suc n) (e ∷ events) [] same answers = absurd same
one_front (suc n) (e ∷ events) (f ∷ others) same answers =
    let first = one_event e f answers.0 same.0 in
    let rest = one_front n events others same.1 answers.1 in
    λ i. first i ∷ rest i

length-alike : (events others : List Event) → AreAlike events others → length events ≡ length others
length-alike [] [] same = refl
length-alike [] (f ∷ others) same = absurd same
length-alike (e ∷ events) [] same = absurd same
length-alike (e ∷ events) (f ∷ others) same = ap suc (length-alike events others same.1)

-- ---- what written events stand for

answers_filled : (before events : List Event) → AllByRecursion Answers (filled before events) → AllByRecursion Answers events
answers_filled before [] answers = tt
answers_filled before (e ∷ events) answers = (answers.0, answers_filled (before ++ e ∷ []) events answers.1)

-- ---- legal events reply as nodes do

next_answers : (config : Shape) (run : ℕ) (lists : KeptLists) (before events : List Event) → AreNext config run lists before events → AllByRecursion Answers events
next_answers config run lists before [] next = tt
next_answers config run lists before (e ∷ events) next =
    let row = next.0.row in (
      subst IsNodeReply (sym row.reply) (node_reply config e.node.0 (node_after config lists before e.node.0) e.happened.input e.happened.mark row.made row.rule),
      next_answers config run lists (before ++ e ∷ []) events next.1,
    )

-- ---- a history's verdict

-- two histories of the same bytes
pub record AreSame (one other : History) : Type 0 where
  pub config : shape one.config ≡ shape other.config
  pub run : one.run ≡ other.run
  pub kept : one.kept ≡ other.kept
  pub written : List Event
  pub others : List Event
  pub alike : AreAlike written others
  pub events : one.events ≡ filled [] written
  pub other_events : other.events ≡ filled [] others

same_sym : (one other : History) → AreSame one other → AreSame other one
same_sym one other same = record {
  config = sym same.config;
  run = sym same.run;
  kept = sym same.kept;
  written = same.others;
  others = same.written;
  alike = alike_sym same.written same.others same.alike;
  events = same.other_events;
  other_events = same.events;
}

legal_as : (n : ℕ) (one other : History) → AreSame one other → IsLegalTo n one → IsLegalTo n other
legal_as n one other same legal =
    let front : take n one.events ≡ filled [] (take n same.written) = ap (take n) same.events ∙ take-filled n [] same.written in
    let answers = answers_filled [] (take n same.written)
    (subst (AllByRecursion Answers) front (next_answers (shape one.config) one.run (payloads_on one.kept) [] (take n one.events) legal.follow)) in
    let events : take n one.events ≡ take n other.events =
    front ∙ ap (filled []) (one_front n same.written same.others same.alike answers) ∙ sym (ap (take n) same.other_events ∙ take-filled n [] same.others) in
    subst (λ (c : Shape). IsLegal c other.run (payloads_on other.kept) (take n other.events)) same.config
    (subst (λ (r : ℕ). IsLegal (shape one.config) r (payloads_on other.kept) (take n other.events)) same.run
    (subst (λ (k : List Kept). IsLegal (shape one.config) one.run (payloads_on k) (take n other.events)) same.kept
    (subst (IsLegal (shape one.config) one.run (payloads_on one.kept)) events legal)))

length-same : (one other : History) → AreSame one other → length one.events ≡ length other.events
length-same one other same =
    ap length same.events ∙ length-filled [] same.written ∙ length-alike same.written same.others same.alike ∙ sym (ap length same.other_events ∙ length-filled [] same.others)

-- a whole history that is legal is so at each moment
pub legal_front : (n : ℕ) (history : History) → IsLegalTo (length history.events) history → IsLegalTo n history
legal_front n history legal =
    legal_part (shape history.config) history.run (payloads_on history.kept) (take n history.events) (drop n history.events) history.events
    (take-append-drop n history.events)
    (subst (IsLegal (shape history.config) history.run (payloads_on history.kept)) (take_all (length history.events) history.events (omega arith)) legal)

not_both : (n place : ℕ) (one other : History) → AreSame one other → IsVerdict one (Lawful n) → IsVerdict other (Unlawful place) → ⊥
not_both n place one other same lawful unlawful =
    unlawful.breaks (legal_as (suc place) one other same (legal_front (suc place) one (subst (λ (m : ℕ). IsLegalTo m one) lawful.1 lawful.0)))

not_later : (place later : ℕ) (one other : History) → AreSame one other → IsUnlawfulAt one place → IsUnlawfulAt other later → place < later → ⊥
not_later place later one other same first second lt = first.breaks (legal_as (suc place) other one (same_sym one other same) (second.before place lt))

order : (m n : ℕ) → (m < n) ⊎ ((m ≡ n) ⊎ (n < m))
order m n = by (cases_lt m n)
  where
    by : (m < n) ⊎ (n ≤ m) → (m < n) ⊎ ((m ≡ n) ⊎ (n < m))
    by (inl lt) = inl lt
    by (inr le) = inr (last (cases_lt n m))
      where
        last : (n < m) ⊎ (m ≤ n) → (m ≡ n) ⊎ (n < m)
        last (inl lt) = inr lt
        last (inr more) = inl (omega arith)

one_place : (place later : ℕ) (one other : History) → AreSame one other → IsUnlawfulAt one place → IsUnlawfulAt other later → (place < later) ⊎ ((place ≡ later) ⊎ (later < place)) → place ≡ later
one_place place later one other same first second (inl lt) = absurd (not_later place later one other same first second lt)
one_place place later one other same first second (inr (inl e)) = e
one_place place later one other same first second (inr (inr lt)) = absurd (not_later later place other one (same_sym one other same) second first lt)

pub one_verdict : (one other : History) (verdict more : Verdict) → AreSame one other → IsVerdict one verdict → IsVerdict other more → verdict ≡ more
one_verdict one other (Lawful n) (Lawful m) same is are = ap Lawful (is.1 ∙ length-same one other same ∙ sym are.1)
one_verdict one other (Lawful n) (Unlawful place) same is are = absurd (not_both n place one other same is are)
one_verdict one other (Unlawful place) (Lawful m) same is are = absurd (not_both m place other one (same_sym one other same) are is)
one_verdict one other (Unlawful place) (Unlawful later) same is are = ap Unlawful (one_place place later one other same is are (order place later))

-- what is said of one is said of the other
pub verdict_as : (one other : History) (verdict : Verdict) → AreSame one other → IsVerdict one verdict → IsVerdict other verdict
verdict_as one other (Lawful n) same is = (legal_as n one other same is.0, is.1 ∙ length-same one other same)
verdict_as one other (Unlawful place) same is = record {
  breaks = λ legal. is.breaks (legal_as (suc place) other one (same_sym one other same) legal);
  before = λ earlier lt. legal_as (suc earlier) one other same (is.before earlier lt);
}

-- ---- the pieces of two histories that are told alike

events_alike : (events others : List Event) → map told_of (map AnEvent events) ≡ map told_of (map AnEvent others) → AreAlike events others
events_alike [] [] e = tt
events_alike [] (f ∷ others) e = absurd (cc)
events_alike (x ∷ events) [] e = absurd (cc)
events_alike (x ∷ events) (f ∷ others) e =
    let first : told_of (AnEvent x) ≡ told_of (AnEvent f) = cc in
    let rest : map told_of (map AnEvent events) ≡ map told_of (map AnEvent others) = cc in
    (first, events_alike events others rest)

-- payloads and events
record AreAlikeBehind (one other : List Kept) (events others : List Event) : Type 0 where
  kept_is : one ≡ other
  alike : AreAlike events others

behind_alike : (one other : List Kept) (events others : List Event) → map told_of (map AKept one ++ map AnEvent events) ≡ map told_of (map AKept other ++ map AnEvent others)
    → AreAlikeBehind one other events others
behind_alike [] [] events others e = record { kept_is = refl; alike = events_alike events others e }
behind_alike [] (k ∷ other) [] others e = absurd (cc)
behind_alike [] (k ∷ other) (x ∷ events) others e = absurd (cc)
behind_alike (k ∷ one) [] events [] e = absurd (cc)
behind_alike (k ∷ one) [] events (f ∷ others) e = absurd (cc)
behind_alike (k ∷ one) (l ∷ other) events others e =
    let first : k ≡ l = cc in
    let tail : map told_of (map AKept one ++ map AnEvent events) ≡ map told_of (map AKept other ++ map AnEvent others) = cc in
    let rest = behind_alike one other events others tail in
    record { kept_is = λ i. first i ∷ rest.kept_is i; alike = rest.alike }

pub same_histories : (replies more : ℕ) (one other : History) (written others : List Event) → one.events ≡ filled [] written → other.events ≡ filled [] others
    → map told_of (pieces_of replies one written) ≡ map told_of (pieces_of more other others) → AreSame one other
same_histories zero zero one other written others at there e =
    let first : a_head (shape one.config) one.run ≡ a_head (shape other.config) other.run = cc in
    let config : shape one.config ≡ shape other.config = cc in
    let run : one.run ≡ other.run = cc in
    let tail : map told_of (map AKept one.kept ++ map AnEvent written) ≡ map told_of (map AKept other.kept ++ map AnEvent others) = cc in
    let rest = behind_alike one.kept other.kept written others tail in
    record { config = config; run = run; kept = rest.kept_is; written = written; others = others; alike = rest.alike; events = at; other_events = there }
same_histories zero (suc more) one other written others at there e = absurd (cc)
same_histories (suc replies) zero one other written others at there e = absurd (cc)
same_histories (suc replies) (suc more) one other written others at there e =
    let tail : map told_of (pieces_of replies one written) ≡ map told_of (pieces_of more other others) = cc in
    same_histories replies more one other written others at there tail

-- ---- no fault

-- what is counted grows
abbrev AreFewer : HistoryCounts → HistoryCounts → Type 0
AreFewer few many = (few.events ≤ many.events) × (few.event_bytes ≤ many.event_bytes) × (few.kept_bytes ≤ many.kept_bytes)

more_counted : (counts : HistoryCounts) (pieces : List ToldPiece) → AreFewer counts (all_told counts pieces)
more_counted counts [] = (omega arith, omega arith, omega arith)
more_counted counts (t ∷ pieces) =
    let more = more_counted (counts_told counts t) pieces in
    let one = one_counted t in
    (omega arith, omega arith, omega arith)
  where
    one_counted : (t : ToldPiece) → AreFewer counts (counts_told counts t)
    one_counted a_reply = (omega arith, omega arith, omega arith)
    one_counted (a_head config run) = (omega arith, omega arith, omega arith)
    one_counted (a_payload k) = (omega arith, omega arith, omega arith)
    one_counted (an_event place node happened size) = (omega arith, omega arith, omega arith)
    one_counted an_end = (omega arith, omega arith, omega arith)

limit_stays : (few many : HistoryCounts) (cause : ℕ) → AreFewer few many → passed_limit many ≡ None → passed_limit few ≡ Some cause → ⊥
limit_stays few many cause fewer within passed = grind (arith, nat_tests)

module _ (bytes : List ℕ) (history : History) (are : AreHistory bytes history) where
  -- the pieces that were read are at the front of those of the history
  ahead : (after : Option (List ℕ)) (pieces : List Piece) (text : List ℕ) → SpellAll Before 0 pieces text → Consumes (Some bytes) after text
      → (left : List ℕ) × (after ≡ Some left) × Follow Before 0 pieces (pieces_of are.replies history are.written) left
  ahead None pieces text spelled consumed = absurd consumed
  ahead (Some left) pieces text spelled consumed =
      (left, refl, follow Before 0 pieces (pieces_of are.replies history are.written) text bytes left spelled are.spelled consumed)

  -- there is a piece wherever one is wanted
  not_bad : (at : ℕ) → IsBadAt (Some bytes) at → ⊥
  not_bad at bad = by_rest (ahead bad.after bad.pieces bad.read.text bad.read.spelled bad.read.consumed)
    where
      by_rest : (left : List ℕ) × (bad.after ≡ Some left) × Follow Before 0 bad.pieces (pieces_of are.replies history are.written) left → ⊥
      by_rest (left, is, more) = at_rest more.rest more.spelled more.told
        where
          at_rest : (rest : List Piece) → SpellAll (stage_from Before bad.pieces) (events_from 0 bad.pieces) rest left
              → map told_of (pieces_of are.replies history are.written) ≡ map told_of bad.pieces ++ map told_of rest → ⊥
          at_rest (p ∷ rest) spelled told =
              subst (λ (o : Option (List ℕ)). NoPiece (stage_from Before bad.pieces) (events_from 0 bad.pieces) o) is bad.none p spelled.0 spelled.1 spelled.2 spelled.4
          at_rest [] spelled told =
              let same = told ∙ append-nil (map told_of bad.pieces) in
              let stage : stage_from Before (pieces_of are.replies history are.written) ≡ stage_from Before bad.pieces =
              stage-told Before (pieces_of are.replies history are.written) ∙ ap (stages_told Before) same ∙ sym (stage-told Before bad.pieces) in
              ⊎_elim (λ (e : stage_from Before bad.pieces ≡ Before). subst IsInside (stage ∙ e) (ends_inside are.replies history are.written))
              (λ (h : HasBytes bad.after). let some : 0 < length left = subst HasBytes is h in omega (arith, ap length spelled)) bad.some

  -- it passes no limit
  not_many : (cause : ℕ) → IsTooMany (Some bytes) cause → ⊥
  not_many cause too =
      let pieces = too.pieces ++ too.piece ∷ [] in
      let spelled = spell_push Before 0 too.pieces too.piece too.read.text too.text too.read.spelled too.spells in
      let more = ahead too.after pieces (too.read.text ++ too.text) spelled (Consumes-trans (Some bytes) too.between too.after too.read.text too.text too.read.consumed too.consumed) in
      let counts : counts_from nothing_yet (pieces_of are.replies history are.written) ≡ all_told (counts_from nothing_yet pieces) (map told_of more.2.rest) =
      counts-told nothing_yet (pieces_of are.replies history are.written) ∙ ap (all_told nothing_yet) more.2.told ∙ all_told-join nothing_yet (map told_of pieces) (map told_of more.2.rest)
      ∙ ap (λ (c : HistoryCounts). all_told c (map told_of more.2.rest)) (sym (counts-told nothing_yet pieces)) in
      limit_stays (counts_from nothing_yet pieces) (counts_from nothing_yet (pieces_of are.replies history are.written)) cause
      (subst (AreFewer (counts_from nothing_yet pieces)) (sym counts) (more_counted (counts_from nothing_yet pieces) (map told_of more.2.rest)))
      are.within too.passed

  not_long : HasTooManyFrames (Some bytes) → ⊥
  not_long long =
      let more = ahead long.after long.pieces long.read.text long.read.spelled long.read.consumed in
      omega (
        arith,
        long.many,
        are.few,
        ap length more.2.told,
        length-map (pieces_of are.replies history are.written) told_of,
        length-append (map told_of long.pieces) (map told_of more.2.rest),
        length-map long.pieces told_of,
      )

  -- what was read to its end is that history
  pub same_read : (after : Option (List ℕ)) (Holds : History → Type 0) (read : ReadsHistory (Some bytes) after Holds) → AreSame read.history history
  same_read after Holds read =
      let more = ahead after (pieces_of read.replies read.history read.written) read.read.text read.read.spelled read.read.consumed in
      let nothing : more.0 ≡ [] = subst IsAtEnd more.1 read.at_end in
      let none : more.2.rest ≡ [] = no_rest _ _ more.2.rest (subst (SpellAll (stage_from Before (pieces_of read.replies read.history read.written)) (events_from 0 (pieces_of read.replies read.history read.written)) more.2.rest) nothing more.2.spelled) in
      let told : map told_of (pieces_of read.replies read.history read.written) ≡ map told_of (pieces_of are.replies history are.written) =
      sym (more.2.told ∙ ap (λ (l : List Piece). map told_of (pieces_of read.replies read.history read.written) ++ map told_of l) none ∙ append-nil (map told_of (pieces_of read.replies read.history read.written))) in
      same_histories read.replies are.replies read.history history read.written are.written read.events are.events told
    where
      no_rest : (stage : Stage) (events : ℕ) (rest : List Piece) → SpellAll stage events rest [] → rest ≡ []
      no_rest stage events [] spelled = refl
      no_rest stage events (p ∷ rest) spelled =
          absurd (omega (arith, ap length spelled.4, length-append spelled.0 spelled.1, some_text stage events p spelled.0 spelled.2))

-- the answer to bytes that are a history, whose source did not fail, is true of it
truly : (bytes : List ℕ) (history : History) (after : Option (List ℕ)) (Stops : ℕ → Type 0) (result : Result Verdict CheckFault)
    → IfOk result (λ v. ReadsHistory (Some bytes) after (λ h. IsVerdict h v)) → IfErr result (IsFault Stops (Some bytes)) → ((at : ℕ) → Stops at → ⊥)
    → AreHistory bytes history → IsTrueOf history result
truly bytes history after Stops (Ok v) read fault never are =
    verdict_as read.history history v (same_read bytes history are after (λ h. IsVerdict h v) read) read.holds
truly bytes history after Stops (Err (Bad at)) read fault never are = absurd (not_bad bytes history are at fault)
truly bytes history after Stops (Err (Read at)) read fault never are = absurd (never at fault)
truly bytes history after Stops (Err (Many cause)) read fault never are =
    absurd (⊎_elim (not_many bytes history are cause) (λ (h : (cause ≡ 1) × HasTooManyFrames (Some bytes)). not_long bytes history are h.1) fault)
truly bytes history after Stops (Err Memory) read fault never are = refl

pub true_answer : (before after : Option (List ℕ)) (bytes : List ℕ) (history : History) (Stops : ℕ → Type 0) (result : Result Verdict CheckFault) → before ≡ Some bytes
    → IfOk result (λ v. ReadsHistory before after (λ h. IsVerdict h v)) → IfErr result (IsFault Stops before) → ((at : ℕ) → Stops at → ⊥)
    → AreHistory bytes history → IsTrueOf history result
true_answer before after bytes history Stops result told read fault never are =
    truly bytes history after Stops result
    (subst (λ (b : Option (List ℕ)). IfOk result (λ v. ReadsHistory b after (λ h. IsVerdict h v))) told read)
    (subst (λ (b : Option (List ℕ)). IfErr result (IsFault Stops b)) told fault) never are

-- there is one such answer
alike_self : (events : List Event) → AreAlike events events
alike_self [] = tt
alike_self (e ∷ events) = (refl, alike_self events)

same_self : (bytes : List ℕ) (history : History) → AreHistory bytes history → AreSame history history
same_self bytes history are = record {
  config = refl;
  run = refl;
  kept = refl;
  written = are.written;
  others = are.written;
  alike = alike_self are.written;
  events = are.events;
  other_events = are.events;
}

pub exact_answer : (bytes : List ℕ) (history : History) (verdict : Verdict) (result : Result Verdict CheckFault) → AreHistory bytes history → IsTrueOf history result → IsVerdict history verdict
    → (result ≡ Ok verdict) ⊎ (result ≡ Err Memory)
exact_answer bytes history verdict (Ok v) are true_of is = inl (ap Ok (one_verdict history history v verdict (same_self bytes history are) true_of is))
exact_answer bytes history verdict (Err fault) are true_of is = inr (ap Err true_of)
