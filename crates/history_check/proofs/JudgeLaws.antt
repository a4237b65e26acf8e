-- What a judge holds after one piece more.
use Rattle.std.proofs.Common.{◌≡◌, ◌⊎◌, inl, inr, ℕ, suc, ◌+◌, ◌<◌, ◌≤◌, List, [], ◌∷◌, ◌++◌, length, map, replicate, take, drop, Option, None, refl, sym, ap, subst, ⊎_elim, length-append, arith, ◌∙◌}
use Rattle.std.specs.Io.KnownBytes.{IsAtEnd}
use Rattle.std.proofs.lemmas.List.{take-append-drop, take-append-le, take_all}
use Rattle.std.proofs.lemmas.Bool.Decides.{nat_tests}
use Rattle.log_base.specs.Outside.{unread}
use Rattle.log_base.specs.Shape.{shape}
use Rattle.log_base.specs.declared.cluster_shape.Config.{Config}
use Rattle.history_frame.specs.declared.events.Event.{Event}
use Rattle.history_frame.specs.declared.events.Kept.{Kept}
use Rattle.history_frame.specs.declared.pieces.Piece.{Piece}
use Rattle.history_frame.specs.declared.pieces.Piece.TheVariants.{Reply as AReply, Head, Kept as AKept, Event as AnEvent}
use Rattle.history_frame.specs.declared.stages.Stage.{Stage}
use Rattle.history_frame.specs.declared.stages.Stage.TheVariants.{Before, Keeping, Running}
use Rattle.history_frame.specs.Frames.{IsInside, IsKeptBody, KeepsFrom}
use Rattle.history_frame.specs.Reader.{HistoryCounts, HistoryReading, passed_limit}
use Rattle.node_model.specs.Legal.{IsLegal, IsNext}
use Rattle.node_model.specs.NodeState.{KeptLists}
use Rattle.node_model.specs.Sound.{IsSound, payloads_on}
use Rattle.node_model.proofs.Following.{next_at}
use Rattle.sequence_law.proofs.Moments.{legal_part}
use Rattle.history_walk.specs.Filling.{filled, filled_event}
use Rattle.history_walk.specs.Walking.{IsAnswer, StandsAfter}
use Rattle.history_walk.specs.declared.walker.Following.{Following}
use Rattle.history_walk.specs.declared.walker.Following.TheVariants.{Follows, Breaks}
use Rattle.history_walk.specs.declared.walker.Walker.{Walker}
use Rattle.history_check.specs.Courses.{AreRead, events_from, stage_from}
use Rattle.history_check.specs.Judging.{ArePieces, Comes, HasBegun, HasBroken, HasWalked, IsJudge, IsJudgement, JudgesAll, history_of}
use Rattle.history_check.specs.Verdicts.{IsLegalTo, IsUnlawfulAt, IsVerdict, ReadsHistory}
use Rattle.history_check.specs.declared.judge.Judge.{Judge}
use Rattle.history_check.specs.declared.judge.Judge.TheVariants.{Waiting, Keeping as Holding, Walking, Broken}
use Rattle.history_check.specs.declared.verdicts.Verdict.{Verdict}
use Rattle.history_check.specs.declared.verdicts.Verdict.TheVariants.{Lawful, Unlawful}
use Rattle.history_check.proofs.CourseLaws.{read_all, stage_join}
use Rattle.history_check.proofs.HistoryPieces.{ends_inside, event_push, events_pieces, filled_push, length-filled, payload_push, replies_push, replies_stage, rise_push, stage_pieces}

-- ---- which pieces may come

module _ (pieces : List Piece) (config : Config) (run : ℕ) (kept : List Kept) (written : List Event) (are : ArePieces pieces config run kept written) where
  pub behind_head : IsInside (stage_from Before pieces)
  behind_head = subst (λ (l : List Piece). IsInside (stage_from Before l)) (sym are.are) (ends_inside are.replies (history_of config run kept written) written)

  pub so_many : events_from 0 pieces ≡ length written
  so_many = ap (events_from 0) are.are ∙ events_pieces are.replies (history_of config run kept written) written

not_before : (stage : Stage) → IsInside stage → stage ≡ Before → ⊥
not_before stage inside e = subst IsInside e inside

replies_before : (replies : ℕ) (pieces : List Piece) → pieces ≡ replicate replies AReply → IsInside (stage_from Before pieces) → ⊥
replies_before replies pieces e inside = subst IsInside (ap (stage_from Before) e ∙ replies_stage replies) inside

-- a judge that has a head is behind it
judge_inside : (judge : Judge) (pieces : List Piece) → IsJudge judge pieces → (judge ≡ Waiting → ⊥) → IsInside (stage_from Before pieces)
judge_inside Waiting pieces is other = absurd (other refl)
judge_inside (Holding config run kept) pieces is other = behind_head pieces config run kept.items [] is
judge_inside (Walking walker events) pieces is other = subst IsInside (sym is.1) tt
judge_inside (Broken place) pieces is other = subst IsInside (sym is.1) tt

-- ---- replies, a head, payloads

pub reply_judged : (judge : Judge) (pieces : List Piece) → IsJudge judge pieces → Comes pieces AReply → IsJudge judge (pieces ++ AReply ∷ [])
reply_judged Waiting pieces (n, e) comes = (suc n, ap (λ (l : List Piece). l ++ AReply ∷ []) e ∙ replies_push n)
reply_judged (Holding config run kept) pieces is comes = absurd (not_before _ (judge_inside (Holding config run kept) pieces is (λ e. cc)) comes.spells.means.0)
reply_judged (Walking walker events) pieces is comes = absurd (not_before _ (judge_inside (Walking walker events) pieces is (λ e. cc)) comes.spells.means.0)
reply_judged (Broken place) pieces is comes = absurd (not_before _ (judge_inside (Broken place) pieces is (λ e. cc)) comes.spells.means.0)

first_head : (config : Config) (run replies : ℕ) (pieces : List Piece) → pieces ≡ replicate replies AReply → ArePieces (pieces ++ Head config run ∷ []) config run [] []
first_head config run replies pieces e = record { replies = replies; are = ap (λ (l : List Piece). l ++ Head config run ∷ []) e; rise = tt }

pub head_judged : (judge : Judge) (pieces : List Piece) (config : Config) (run : ℕ) (kept : List Kept) → kept ≡ [] → IsJudge judge pieces → Comes pieces (Head config run)
    → ArePieces (pieces ++ Head config run ∷ []) config run kept []
head_judged Waiting pieces config run kept none (n, e) comes =
    subst (λ (k : List Kept). ArePieces (pieces ++ Head config run ∷ []) config run k []) (sym none) (first_head config run n pieces e)
head_judged (Holding other more held) pieces config run kept none is comes = absurd (not_before _ (judge_inside (Holding other more held) pieces is (λ e. cc)) comes.spells.means.0)
head_judged (Walking walker events) pieces config run kept none is comes = absurd (not_before _ (judge_inside (Walking walker events) pieces is (λ e. cc)) comes.spells.means.0)
head_judged (Broken place) pieces config run kept none is comes = absurd (not_before _ (judge_inside (Broken place) pieces is (λ e. cc)) comes.spells.means.0)

keeps_least : (stage : Stage) (body : List ℕ) (one : Kept) → KeepsFrom stage (λ least. IsKeptBody least body one) → KeepsFrom stage (λ least. least ≤ one.disk)
keeps_least Before body one keeps = absurd keeps
keeps_least (Keeping least) body one keeps = keeps.disk
keeps_least Running body one keeps = absurd keeps

pub payload_judged : (pieces : List Piece) (config : Config) (run : ℕ) (kept more : List Kept) (one : Kept) → more ≡ kept ++ one ∷ [] → ArePieces pieces config run kept []
    → Comes pieces (AKept one) → ArePieces (pieces ++ AKept one ∷ []) config run more []
payload_judged pieces config run kept more one e are comes =
    let stage : stage_from Before pieces ≡ stage_from (Keeping 0) (map AKept kept) =
    ap (stage_from Before) are.are ∙ stage_pieces are.replies (history_of config run kept []) [] in
    let next : ArePieces (pieces ++ AKept one ∷ []) config run (kept ++ one ∷ []) [] = record {
      replies = are.replies;
      are = ap (λ (l : List Piece). l ++ AKept one ∷ []) are.are ∙ payload_push config run kept are.replies one;
      rise = rise_push 0 kept one are.rise
          (subst (λ (s : Stage). KeepsFrom s (λ least. least ≤ one.disk)) stage (keeps_least (stage_from Before pieces) comes.spells.body one comes.spells.means.1));
    } in
    subst (λ (k : List Kept). ArePieces (pieces ++ AKept one ∷ []) config run k []) (sym e) next

-- no payload comes before the head, or behind an event
not_keeping : (stage : Stage) (body : List ℕ) (one : Kept) → KeepsFrom stage (λ least. IsKeptBody least body one) → (stage ≡ Before) ⊎ (stage ≡ Running) → ⊥
not_keeping stage body one keeps (inl e) = subst (λ (s : Stage). KeepsFrom s (λ least. IsKeptBody least body one)) e keeps
not_keeping stage body one keeps (inr e) = subst (λ (s : Stage). KeepsFrom s (λ least. IsKeptBody least body one)) e keeps

pub no_payload : (judge : Judge) (pieces : List Piece) (one : Kept) → IsJudge judge pieces → Comes pieces (AKept one)
    → ((config : Config) (run : ℕ) (kept : _) → judge ≡ Holding config run kept → ⊥) → ⊥
no_payload Waiting pieces one (n, e) comes other =
    not_keeping (stage_from Before pieces) comes.spells.body one comes.spells.means.1 (inl (ap (stage_from Before) e ∙ replies_stage n))
no_payload (Holding config run kept) pieces one is comes other = other config run kept refl
no_payload (Walking walker events) pieces one is comes other = not_keeping (stage_from Before pieces) comes.spells.body one comes.spells.means.1 (inr is.1)
no_payload (Broken place) pieces one is comes other = not_keeping (stage_from Before pieces) comes.spells.body one comes.spells.means.1 (inr is.1)

-- ---- the events begin

module _ (pieces : List Piece) (config : Config) (run : ℕ) (kept : List Kept) (are : ArePieces pieces config run kept []) where
  pub begins_broken : (IsSound (shape config) run (payloads_on kept) → ⊥) → HasBroken pieces 0
  begins_broken unsound = record {
    config = config;
    run = run;
    kept = kept;
    written = [];
    pieces_are = are;
    unlawful = record { breaks = λ legal. unsound legal.sound; before = λ earlier lt. absurd (omega arith) };
    stays = inl unsound;
  }

  pub begins_walking : (walker : Walker) → walker.config ≡ config → walker.run ≡ run → StandsAfter walker (payloads_on kept) [] → HasWalked pieces walker 0
  begins_walking walker config_is run_is stands = record {
    kept = kept;
    written = [];
    pieces_are = subst (λ (c : Config). ArePieces pieces c walker.run kept []) (sym config_is) (subst (λ (r : ℕ). ArePieces pieces config r kept []) (sym run_is) are);
    stands = stands;
    count = refl;
  }

pub has_begun : (judge : Judge) (pieces : List Piece) → IsJudge judge pieces → IsInside (stage_from Before pieces) → ((config : Config) (run : ℕ) (kept : _) → judge ≡ Holding config run kept → ⊥)
    → HasBegun judge pieces
has_begun Waiting pieces (n, e) inside other = absurd (replies_before n pieces e inside)
has_begun (Holding config run kept) pieces is inside other = absurd (other config run kept refl)
has_begun (Walking walker events) pieces is inside other = is.0
has_begun (Broken place) pieces is inside other = is.0

-- ---- one event more

pub is_running : (pieces : List Piece) (e : Event) → stage_from Before (pieces ++ AnEvent e ∷ []) ≡ Running
is_running pieces e = stage_join Before pieces (AnEvent e ∷ [])

pieces_more : (pieces : List Piece) (config : Config) (run : ℕ) (kept : List Kept) (written : List Event) (e : Event) → ArePieces pieces config run kept written
    → ArePieces (pieces ++ AnEvent e ∷ []) config run kept (written ++ e ∷ [])
pieces_more pieces config run kept written e are = record {
  replies = are.replies;
  are = ap (λ (l : List Piece). l ++ AnEvent e ∷ []) are.are ∙ event_push config run kept are.replies written e;
  rise = are.rise;
}

-- a front of what is filled is that of what is filled with one event more
front_more : (written : List Event) (e : Event) (n : ℕ) → n ≤ length written → take n (filled [] (written ++ e ∷ [])) ≡ take n (filled [] written)
front_more written e n le =
    ap (take n) (filled_push written e) ∙ take-append-le n (filled [] written) (filled_event (filled [] written) e ∷ []) (omega (arith, length-filled [] written))

module _ (pieces : List Piece) (walker : Walker) (events : ℕ) (has : HasWalked pieces walker events) (e : Event) where
  pub at_next : Comes pieces (AnEvent e) → e.place ≡ length (filled [] has.written)
  at_next comes =
      comes.spells.means.2.at_place ∙ so_many pieces walker.config walker.run has.kept has.written has.pieces_are ∙ sym (length-filled [] has.written)

  pub walks_on : (new : Walker) → new.config ≡ walker.config → new.run ≡ walker.run
      → StandsAfter new (payloads_on has.kept) (filled [] has.written ++ filled_event (filled [] has.written) e ∷ [])
      → HasWalked (pieces ++ AnEvent e ∷ []) new (events + 1)
  walks_on new config_is run_is stands = record {
    kept = has.kept;
    written = has.written ++ e ∷ [];
    pieces_are = subst (λ (c : Config). ArePieces (pieces ++ AnEvent e ∷ []) c new.run has.kept (has.written ++ e ∷ [])) (sym config_is)
        (subst (λ (r : ℕ). ArePieces (pieces ++ AnEvent e ∷ []) walker.config r has.kept (has.written ++ e ∷ [])) (sym run_is)
        (pieces_more pieces walker.config walker.run has.kept has.written e has.pieces_are));
    stands = subst (StandsAfter new (payloads_on has.kept)) (sym (filled_push has.written e)) stands;
    count = omega (arith, has.count, length-append has.written (e ∷ []));
  }

  -- the event is the first that may not come
  pub breaks_here : (IsNext (shape walker.config) walker.run (payloads_on has.kept) (filled [] has.written) (filled_event (filled [] has.written) e) → ⊥)
      → HasBroken (pieces ++ AnEvent e ∷ []) events
  breaks_here breaks = record {
    config = walker.config;
    run = walker.run;
    kept = has.kept;
    written = has.written ++ e ∷ [];
    pieces_are = pieces_more pieces walker.config walker.run has.kept has.written e has.pieces_are;
    unlawful = record { breaks = no_more; before = up_to };
    stays = inr (omega (arith, has.count, length-append has.written (e ∷ [])));
  }
    where
      no_more : IsLegalTo (suc events) (history_of walker.config walker.run has.kept (has.written ++ e ∷ [])) → ⊥
      no_more legal =
          let long : length (filled [] (has.written ++ e ∷ [])) ≤ suc events = omega (arith, has.count, length-filled [] (has.written ++ e ∷ []), length-append has.written (e ∷ [])) in
          let whole : take (suc events) (filled [] (has.written ++ e ∷ [])) ≡ filled [] has.written ++ filled_event (filled [] has.written) e ∷ [] =
          take_all (suc events) (filled [] (has.written ++ e ∷ [])) long ∙ filled_push has.written e in
          let all = subst (IsLegal (shape walker.config) walker.run (payloads_on has.kept)) whole legal in
          breaks (next_at (shape walker.config) walker.run (payloads_on has.kept) [] (filled [] has.written) (filled_event (filled [] has.written) e) [] all.follow)

      up_to : (earlier : ℕ) → earlier < events → IsLegalTo (suc earlier) (history_of walker.config walker.run has.kept (has.written ++ e ∷ []))
      up_to earlier lt =
          subst (IsLegal (shape walker.config) walker.run (payloads_on has.kept)) (sym (front_more has.written e (suc earlier) (omega (arith, has.count))))
          (legal_part (shape walker.config) walker.run (payloads_on has.kept) (take (suc earlier) (filled [] has.written)) (drop (suc earlier) (filled [] has.written)) (filled [] has.written)
          (take-append-drop (suc earlier) (filled [] has.written)) has.stands.legal)

  -- there are not too many events with it
  pub few_walked : Comes pieces (AnEvent e) → events + 1 ≤ 131072
  few_walked comes = omega (arith, comes.few, has.count, so_many pieces walker.config walker.run has.kept has.written has.pieces_are)

  -- the walker's answer to it
  module _ (new : Walker) (following : Following) (config_is : new.config ≡ walker.config) (run_is : new.run ≡ walker.run) (comes : Comes pieces (AnEvent e))
      (answer : (kept : KeptLists) (before : List Event) → StandsAfter walker kept before → e.place ≡ length before → IsAnswer walker new kept before e following) where
    answered : IsAnswer walker new (payloads_on has.kept) (filled [] has.written) e following
    answered = answer (payloads_on has.kept) (filled [] has.written) has.stands (at_next comes)

    pub follows_judged : following ≡ Follows → IsJudge (Walking new (events + 1)) (pieces ++ AnEvent e ∷ [])
    follows_judged is =
        let both = subst (IsAnswer walker new (payloads_on has.kept) (filled [] has.written) e) is answered in
        (walks_on new config_is run_is both.1, is_running pieces e)

    pub breaks_judged : following ≡ Breaks → IsJudge (Broken events) (pieces ++ AnEvent e ∷ [])
    breaks_judged is =
        (breaks_here (subst (IsAnswer walker new (payloads_on has.kept) (filled [] has.written) e) is answered), is_running pieces e)

-- it stays broken
pub breaks_on : (pieces : List Piece) (place : ℕ) (e : Event) → HasBroken pieces place → HasBroken (pieces ++ AnEvent e ∷ []) place
breaks_on pieces place e has = record {
  config = has.config;
  run = has.run;
  kept = has.kept;
  written = has.written ++ e ∷ [];
  pieces_are = pieces_more pieces has.config has.run has.kept has.written e has.pieces_are;
  unlawful = still has.stays;
  stays = ⊎_elim (λ (u : IsSound (shape has.config) has.run (payloads_on has.kept) → ⊥). inl u)
      (λ (lt : place < length has.written). inr (omega (arith, length-append has.written (e ∷ [])))) has.stays;
}
  where
    still : (IsSound (shape has.config) has.run (payloads_on has.kept) → ⊥) ⊎ (place < length has.written) → IsUnlawfulAt (history_of has.config has.run has.kept (has.written ++ e ∷ [])) place
    still (inl unsound) = record {
      breaks = λ legal. unsound legal.sound;
      before = λ earlier lt. absurd (unsound (has.unlawful.before earlier lt).sound);
    }
    still (inr lt) = record {
      breaks = λ legal. has.unlawful.breaks (subst (IsLegal (shape has.config) has.run (payloads_on has.kept)) (front_more has.written e (suc place) (omega arith)) legal);
      before = λ earlier less.
          subst (IsLegal (shape has.config) has.run (payloads_on has.kept)) (sym (front_more has.written e (suc earlier) (omega arith))) (has.unlawful.before earlier less);
    }

pub other_judged : (judge : Judge) (pieces : List Piece) (e : Event) → ((walker : Walker) (events : ℕ) → judge ≡ Walking walker events → ⊥) → HasBegun judge pieces
    → IsJudge judge (pieces ++ AnEvent e ∷ [])
other_judged Waiting pieces e other has = absurd has
other_judged (Holding config run kept) pieces e other has = absurd has
other_judged (Walking walker events) pieces e other has = absurd (other walker events refl)
other_judged (Broken place) pieces e other has = (breaks_on pieces place e has, is_running pieces e)

-- ---- the verdict

pub judged_lawful : (pieces : List Piece) (walker : Walker) (events : ℕ) → HasWalked pieces walker events → IsJudgement pieces (Lawful events)
judged_lawful pieces walker events has =
    let all : length (filled [] has.written) ≡ length has.written = length-filled [] has.written in
    record {
      config = walker.config;
      run = walker.run;
      kept = has.kept;
      written = has.written;
      pieces_are = has.pieces_are;
      is = (
        subst (IsLegal (shape walker.config) walker.run (payloads_on has.kept)) (sym (take_all events (filled [] has.written) (omega (arith, has.count)))) has.stands.legal,
        has.count ∙ sym all,
      );
    }

pub judged_broken : (pieces : List Piece) (place : ℕ) → HasBroken pieces place → IsJudgement pieces (Unlawful place)
judged_broken pieces place has = record {
  config = has.config;
  run = has.run;
  kept = has.kept;
  written = has.written;
  pieces_are = has.pieces_are;
  is = has.unlawful;
}

pub reads_history : (before left : Option (List ℕ)) (reading : HistoryReading) (judge : Judge) (pieces : List Piece) (verdict : Verdict) → JudgesAll before (unread reading.pending left) reading judge pieces
    → IsJudgement pieces verdict → IsAtEnd left → ReadsHistory before left (λ history. IsVerdict history verdict)
reads_history before left reading judge pieces verdict all is at_end = record {
  history = history_of is.config is.run is.kept is.written;
  replies = is.pieces_are.replies;
  written = is.written;
  read = subst (AreRead before left) is.pieces_are.are (read_all before left reading.pending pieces all.at_end all.so_far.given.read);
  at_end = at_end;
  events = refl;
  holds = is.is;
}

-- ---- counts

-- there are not too many events where no limit is passed
pub few_events : (counts : HistoryCounts) → passed_limit counts ≡ None → counts.events ≤ 131072
few_events counts within = grind (arith, nat_tests)
