-- Bytes spell one list of pieces, wherever the last answers of streams lie in memory.
use Rattle.std.proofs.Common.{◌≡◌, ℕ, ◌+◌, ◌<◌, List, [], ◌∷◌, ◌++◌, length, map, refl, sym, ap, subst, append_assoc, length-append, Ok, arith, ◌∙◌}
use Rattle.log_base.specs.ClusterShape.{Shape}
use Rattle.log_base.specs.Shape.{shape}
use Rattle.log_base.specs.Wide.{be2, be4}
use Rattle.log_base.specs.declared.cluster_shape.Config.{Config}
use Rattle.log_base.specs.declared.numbers.NodeId.{NodeId}
use Rattle.log_base.proofs.Wide.{length-be2, length-be4}
use Rattle.record_frame.proofs.FieldLaws.{ok_is}
use Rattle.reply_frame.specs.Frames.{frame}
use Rattle.reply_frame.proofs.FrameLaws.{one_frame}
use Rattle.history_frame.specs.declared.events.Event.{Event}
use Rattle.history_frame.specs.declared.events.Kept.{Kept}
use Rattle.history_frame.specs.declared.pieces.Piece.{Piece}
use Rattle.history_frame.specs.declared.pieces.Piece.TheVariants.{Reply as AReply, Head, Kept as AKept, Event as AnEvent, End}
use Rattle.history_frame.specs.declared.stages.Stage.{Stage}
use Rattle.history_frame.specs.declared.stages.Stage.TheVariants.{Before, Keeping, Running}
use Rattle.history_frame.specs.Frames.{IsEventBody, IsHeadBody, IsKeptBody, KeepsFrom, Means, Spells}
use Rattle.history_frame.specs.Reader.{HistoryCounts, counted, events_in, stage_after}
use Rattle.history_frame.specs.Reading.{ToldHappened, event_of, happened_told, head_of, kept_of}
use Rattle.history_frame.specs.Spelling.{event_size, happened_spelling}
use Rattle.history_frame.proofs.HappenedLaws.{IsRight, event_again, head_again, kept_again}
use Rattle.history_check.specs.Courses.{SpellAll, counts_from, events_from, stage_from}

-- ---- what a piece tells

pub data ToldPiece : Type 0 where
  a_reply : ToldPiece
  a_head : Shape → ℕ → ToldPiece
  a_payload : Kept → ToldPiece
  an_event : ℕ → NodeId → ToldHappened → ℕ → ToldPiece
  an_end : ToldPiece

abbrev pub told_of : Piece → ToldPiece
told_of AReply = a_reply
told_of (Head config run) = a_head (shape config) run
told_of (AKept one) = a_payload one
told_of (AnEvent e) = an_event e.place e.node (happened_told e.happened) (event_size e.happened)
told_of End = an_end

abbrev pub stage_told : Stage → ToldPiece → Stage
stage_told stage a_reply = stage
stage_told stage (a_head config run) = Keeping 0
stage_told stage (a_payload one) = Keeping one.disk
stage_told stage (an_event place node happened size) = Running
stage_told stage an_end = stage

abbrev pub counts_told : HistoryCounts → ToldPiece → HistoryCounts
counts_told counts a_reply = record counts { events = counts.events + 0; event_bytes = counts.event_bytes + 0; kept_bytes = counts.kept_bytes + 0 }
counts_told counts (a_head config run) = record counts { events = counts.events + 0; event_bytes = counts.event_bytes + 0; kept_bytes = counts.kept_bytes + 0 }
counts_told counts (a_payload one) = record counts { events = counts.events + 0; event_bytes = counts.event_bytes + 0; kept_bytes = counts.kept_bytes + length one.payload }
counts_told counts (an_event place node happened size) = record counts { events = counts.events + 1; event_bytes = counts.event_bytes + size; kept_bytes = counts.kept_bytes + 0 }
counts_told counts an_end = record counts { events = counts.events + 0; event_bytes = counts.event_bytes + 0; kept_bytes = counts.kept_bytes + 0 }

stage_is : (stage : Stage) (piece : Piece) → stage_after stage piece ≡ stage_told stage (told_of piece)
stage_is stage AReply = refl
stage_is stage (Head config run) = refl
stage_is stage (AKept one) = refl
stage_is stage (AnEvent e) = refl
stage_is stage End = refl

counts_is : (counts : HistoryCounts) (piece : Piece) → counted counts piece ≡ counts_told counts (told_of piece)
counts_is counts AReply = refl
counts_is counts (Head config run) = refl
counts_is counts (AKept one) = refl
counts_is counts (AnEvent e) = refl
counts_is counts End = refl

abbrev pub stages_told : Stage → List ToldPiece → Stage
stages_told stage [] = stage
stages_told stage (t ∷ told) = stages_told (stage_told stage t) told

abbrev pub all_told : HistoryCounts → List ToldPiece → HistoryCounts
all_told counts [] = counts
all_told counts (t ∷ told) = all_told (counts_told counts t) told

pub stage-told : (stage : Stage) (pieces : List Piece) → stage_from stage pieces ≡ stages_told stage (map told_of pieces)
stage-told stage [] = refl
stage-told stage (p ∷ pieces) =
    stage-told (stage_after stage p) pieces ∙ ap (λ (s : Stage). stages_told s (map told_of pieces)) (stage_is stage p)

pub counts-told : (counts : HistoryCounts) (pieces : List Piece) → counts_from counts pieces ≡ all_told counts (map told_of pieces)
counts-told counts [] = refl
counts-told counts (p ∷ pieces) =
    counts-told (counted counts p) pieces ∙ ap (λ (c : HistoryCounts). all_told c (map told_of pieces)) (counts_is counts p)

pub all_told-join : (counts : HistoryCounts) (told others : List ToldPiece) → all_told counts (told ++ others) ≡ all_told (all_told counts told) others
all_told-join counts [] others = refl
all_told-join counts (t ∷ told) others = all_told-join (counts_told counts t) told others

-- ---- a body tells one piece

-- the kind of a piece's frame
abbrev kind_of : Piece → ℕ
kind_of AReply = 64
kind_of (Head config run) = 96
kind_of (AKept one) = 97
kind_of (AnEvent e) = 98
kind_of End = 0

means_kind : (stage : Stage) (events kind : ℕ) (body : List ℕ) (piece : Piece) → Means stage events kind body piece → kind ≡ kind_of piece
means_kind stage events kind body AReply means = means.1
means_kind stage events kind body (Head config run) means = means.1
means_kind stage events kind body (AKept one) means = means.0
means_kind stage events kind body (AnEvent e) means = means.1
means_kind stage events kind body End means = absurd means

kept_reads : (stage : Stage) (body : List ℕ) (one : Kept) → KeepsFrom stage (λ least. IsKeptBody least body one) → kept_of body ≡ Ok one
kept_reads Before body one means = absurd means
kept_reads (Keeping least) body one means = ap kept_of means.text ∙ kept_again one means.fits
kept_reads Running body one means = absurd means

event_reads : (place : ℕ) (body : List ℕ) (e : Event) → IsEventBody place body e → event_of body ≡ Ok (e.node, happened_told e.happened)
event_reads place body e is =
    let right : IsRight e.happened = record { input = is.is.input; few = is.is.few; outputs = is.is.outputs; reply = is.is.reply } in
    ap event_of is.text ∙ event_again e.node e.happened is.fits.node right is.fits.happened is.untold

event_sized : (place : ℕ) (body : List ℕ) (e : Event) → IsEventBody place body e → event_size e.happened ≡ length body + 5
event_sized place body e is = omega (arith, ap length is.text, length-append (be2 e.node.0) (happened_spelling e.happened), length-be2 e.node.0)

head_reads : (body : List ℕ) (config : Config) (run : ℕ) → IsHeadBody body config run → head_of body ≡ Ok (shape config, run)
head_reads body config run is = ap head_of is.text ∙ head_again (shape config) run config.in_range is.some_run is.run_fits

one_event : (place : ℕ) (body : List ℕ) (e f : Event) → IsEventBody place body e → IsEventBody place body f → told_of (AnEvent e) ≡ told_of (AnEvent f)
one_event place body e f one two =
    let same = ok_is (e.node, happened_told e.happened) (f.node, happened_told f.happened) (sym (event_reads place body e one) ∙ event_reads place body f two) in
    let at : e.place ≡ f.place = one.at_place ∙ sym two.at_place in
    let size : event_size e.happened ≡ event_size f.happened = event_sized place body e one ∙ sym (event_sized place body f two) in
    λ i. an_event (at i) ((same i).0) ((same i).1) (size i)

alike : (stage : Stage) (events kind : ℕ) (body : List ℕ) (p q : Piece) → Means stage events kind body p → Means stage events kind body q → told_of p ≡ told_of q
alike stage events kind body End q one two = absurd one
alike stage events kind body AReply AReply one two = refl
alike stage events kind body (Head config run) (Head other more) one two =
    let same = ok_is (shape config, run) (shape other, more) (sym (head_reads body config run one.2) ∙ head_reads body other more two.2) in
    ap (λ (x : Shape × ℕ). a_head x.0 x.1) same
alike stage events kind body (AKept k) (AKept l) one two = ap a_payload (ok_is k l (sym (kept_reads stage body k one.1) ∙ kept_reads stage body l two.1))
alike stage events kind body (AnEvent e) (AnEvent f) one two = one_event events body e f one.2 two.2
alike stage events kind body p q one two =
    absurd (omega (arith, sym (means_kind stage events kind body p one) ∙ means_kind stage events kind body q two))

-- ---- bytes tell one list of pieces

-- a spelling has bytes
pub some_text : (stage : Stage) (events : ℕ) (piece : Piece) (text : List ℕ) → Spells stage events piece text → 0 < length text
some_text stage events piece text spells =
    omega (arith, ap length spells.text_is, length-append (be4 (length spells.body + 1)) (spells.kind ∷ spells.body), length-be4 (length spells.body + 1))

-- two pieces at the front of the same bytes
record AreOne (p q : Piece) (rest left : List ℕ) : Type 0 where
  told : told_of p ≡ told_of q
  rest_is : rest ≡ left

are_one : (stage : Stage) (events : ℕ) (p q : Piece) (text more rest left : List ℕ) → Spells stage events p text → Spells stage events q more → text ++ rest ≡ more ++ left
    → AreOne p q rest left
are_one stage events p q text more rest left one two e =
    let whole : frame one.kind one.body ++ rest ≡ frame two.kind two.body ++ left =
    ap (λ (l : List ℕ). l ++ rest) (sym one.text_is) ∙ e ∙ ap (λ (l : List ℕ). l ++ left) two.text_is in
    let same = one_frame one.kind two.kind one.body two.body rest left (omega (arith, one.size)) (omega (arith, two.size)) whole in
    record {
      told = alike stage events one.kind one.body p q one.means
          (subst (λ (k : ℕ). Means stage events k one.body q) (sym same.kind) (subst (λ (b : List ℕ). Means stage events two.kind b q) (sym same.body) two.means));
      rest_is = same.rest;
    }

same_stage : (stage : Stage) (p q : Piece) → told_of p ≡ told_of q → stage_after stage q ≡ stage_after stage p
same_stage stage p q e = stage_is stage q ∙ ap (stage_told stage) (sym e) ∙ sym (stage_is stage p)

same_events : (events : ℕ) (p q : Piece) → told_of p ≡ told_of q → events + events_in q ≡ events + events_in p
same_events events p q e =
    let counts : HistoryCounts = record { events = events; event_bytes = 0; kept_bytes = 0 } in
    ap (λ (c : HistoryCounts). c.events) (counts_is counts q ∙ ap (counts_told counts) (sym e) ∙ sym (counts_is counts p))

-- pieces go on behind others
pub record Follow (stage : Stage) (events : ℕ) (pieces others : List Piece) (left : List ℕ) : Type 0 where
  pub rest : List Piece
  pub spelled : SpellAll (stage_from stage pieces) (events_from events pieces) rest left
  pub told : map told_of others ≡ map told_of pieces ++ map told_of rest

pub follow : (stage : Stage) (events : ℕ) (pieces others : List Piece) (text whole left : List ℕ) → SpellAll stage events pieces text → SpellAll stage events others whole
    → whole ≡ text ++ left → Follow stage events pieces others left
follow stage events [] others text whole left one two e = record {
  rest = others;
  spelled = subst (SpellAll stage events others) (e ∙ ap (λ (l : List ℕ). l ++ left) one) two;
  told = refl;
}
follow stage events (p ∷ pieces) [] text whole left one two e =
    absurd (omega (arith, ap length two, ap length e, length-append text left, ap length one.4, length-append one.0 one.1, some_text stage events p one.0 one.2))
follow stage events (p ∷ pieces) (q ∷ others) text whole left one two e =
    let both : one.0 ++ (one.1 ++ left) ≡ two.0 ++ two.1 =
    sym (append_assoc one.0 one.1 left) ∙ ap (λ (l : List ℕ). l ++ left) (sym one.4) ∙ sym e ∙ two.4 in
    let same = are_one stage events p q one.0 two.0 (one.1 ++ left) two.1 one.2 two.2 both in
    let next : SpellAll (stage_after stage p) (events + events_in p) others two.1 =
    subst (λ (s : Stage). SpellAll s (events + events_in p) others two.1) (same_stage stage p q same.told)
    (subst (λ (n : ℕ). SpellAll (stage_after stage q) n others two.1) (same_events events p q same.told) two.3) in
    let more = follow (stage_after stage p) (events + events_in p) pieces others one.1 two.1 left one.3 next (sym same.rest_is) in
    record {
      rest = more.rest;
      spelled = more.spelled;
      told = λ i. sym same.told i ∷ more.told i;
    }
