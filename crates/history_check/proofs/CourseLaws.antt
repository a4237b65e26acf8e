-- Pieces that are read one after another.
use Rattle.std.proofs.Common.{◌≡◌, ℕ, ◌+◌, ◌-◌, ◌^◌, min, List, [], ◌∷◌, ◌++◌, length, Option, Some, None, refl, sym, ap, subst, append_assoc, append-nil, length-append, arith, ◌∙◌, ◌⊎◌}
use Rattle.std.specs.Io.KnownBytes.{Consumes, IsAtEnd}
use Rattle.std.proofs.KnownBytes.{Consumes-nil, Consumes-trans, prepend_known-nil}
use Rattle.history_frame.specs.declared.pieces.Piece.{Piece}
use Rattle.history_frame.specs.declared.stages.Stage.{Stage}
use Rattle.history_frame.specs.declared.stages.Stage.TheVariants.{Before}
use Rattle.history_frame.specs.Frames.{IsInside, Spells}
use Rattle.history_frame.specs.Reader.{Ended, Gave, HasBytes, HistoryCounts, HistoryReading, NoPiece, Refused, counted, events_in, nothing_yet, passed_limit, stage_after}
use Rattle.log_base.specs.Outside.{unread}
use Rattle.history_check.specs.Courses.{AreRead, HasGiven, IsBadAt, IsTooMany, SpellAll, counts_from, events_from, stage_from}

-- ---- one piece more

pub stage_join : (stage : Stage) (pieces others : List Piece) → stage_from stage (pieces ++ others) ≡ stage_from (stage_from stage pieces) others
stage_join stage [] others = refl
stage_join stage (p ∷ pieces) others = stage_join (stage_after stage p) pieces others

pub events_join : (events : ℕ) (pieces others : List Piece) → events_from events (pieces ++ others) ≡ events_from (events_from events pieces) others
events_join events [] others = refl
events_join events (p ∷ pieces) others = events_join (events + events_in p) pieces others

pub counts_join : (counts : HistoryCounts) (pieces others : List Piece) → counts_from counts (pieces ++ others) ≡ counts_from (counts_from counts pieces) others
counts_join counts [] others = refl
counts_join counts (p ∷ pieces) others = counts_join (counted counts p) pieces others

-- the events that are counted are those that there are
pub counts-events : (counts : HistoryCounts) (pieces : List Piece) → (counts_from counts pieces).events ≡ events_from counts.events pieces
counts-events counts [] = refl
counts-events counts (p ∷ pieces) = counts-events (counted counts p) pieces

pub spell_push : (stage : Stage) (events : ℕ) (pieces : List Piece) (piece : Piece) (text more : List ℕ) → SpellAll stage events pieces text
    → Spells (stage_from stage pieces) (events_from events pieces) piece more → SpellAll stage events (pieces ++ piece ∷ []) (text ++ more)
spell_push stage events [] piece text more spelled spells =
    (more, [], spells, refl, ap (λ (l : List ℕ). l ++ more) spelled ∙ sym (append-nil more))
spell_push stage events (p ∷ pieces) piece text more spelled spells = (
  spelled.0,
  spelled.1 ++ more,
  spelled.2,
  spell_push (stage_after stage p) (events + events_in p) pieces piece spelled.1 more spelled.3 spells,
  ap (λ (l : List ℕ). l ++ more) spelled.4 ∙ append_assoc spelled.0 spelled.1 more,
)

-- ---- what a reader has given

pub given_none : (left : Option (List ℕ)) (reading : HistoryReading)
    → reading ≡ record { pending = []; taken = 0; stage = Before; counts = nothing_yet; offset = 0; fault = None }
    → HasGiven left (unread reading.pending left) reading []
given_none left reading e =
    let nothing : unread reading.pending left ≡ left = ap (λ (r : HistoryReading). unread r.pending left) e ∙ prepend_known-nil left in
    record {
      read = record { text = []; spelled = refl; consumed = subst (λ (after : Option (List ℕ)). Consumes left after []) (sym nothing) (Consumes-nil left); within = refl };
      stage = ap (λ (r : HistoryReading). r.stage) e;
      counts = ap (λ (r : HistoryReading). r.counts) e;
      offset = ap (λ (r : HistoryReading). r.offset) e;
      fault = ap (λ (r : HistoryReading). r.fault) e;
    }

module _ (before now after : Option (List ℕ)) (old : HistoryReading) (pieces : List Piece) (given : HasGiven before now old pieces) where
  -- so many events were given
  events_are : old.counts.events ≡ events_from 0 pieces
  events_are = ap (λ (c : HistoryCounts). c.events) given.counts ∙ counts-events nothing_yet pieces

  -- what a reader says of a piece's spelling
  pub spelled_there : (piece : Piece) (text : List ℕ) → Spells old.stage old.counts.events piece text → Spells (stage_from Before pieces) (events_from 0 pieces) piece text
  spelled_there piece text spells =
      subst (λ (s : Stage). Spells s (events_from 0 pieces) piece text) given.stage
      (subst (λ (n : ℕ). Spells old.stage n piece text) events_are spells)

  pub within_there : (piece : Piece) → passed_limit (counted old.counts piece) ≡ None → passed_limit (counted (counts_from nothing_yet pieces) piece) ≡ None
  within_there piece e = subst (λ (c : HistoryCounts). passed_limit (counted c piece) ≡ None) given.counts e

  -- one piece more is given
  pub given_more : (new : HistoryReading) (piece : Piece) → Gave old new now after piece → HasGiven before after new (pieces ++ piece ∷ [])
  given_more new piece gave = record {
    read = record {
      text = given.read.text ++ gave.text;
      spelled = spell_push Before 0 pieces piece given.read.text gave.text given.read.spelled (spelled_there piece gave.text gave.spells);
      consumed = Consumes-trans before now after given.read.text gave.text given.read.consumed gave.consumed;
      within = ap passed_limit (counts_join nothing_yet pieces (piece ∷ [])) ∙ within_there piece gave.within;
    };
    stage = ap (λ (r : HistoryReading). r.stage) gave.moved ∙ ap (λ (s : Stage). stage_after s piece) given.stage ∙ sym (stage_join Before pieces (piece ∷ []));
    counts = ap (λ (r : HistoryReading). r.counts) gave.moved ∙ ap (λ (c : HistoryCounts). counted c piece) given.counts ∙ sym (counts_join nothing_yet pieces (piece ∷ []));
    offset = ap (λ (r : HistoryReading). r.offset) gave.moved ∙ ap (λ (n : ℕ). min (n + length gave.text) (2 ^ 64 - 1)) given.offset ∙ omega (arith, length-append given.read.text gave.text);
    fault = ap (λ (r : HistoryReading). r.fault) gave.moved ∙ given.fault;
  }

  -- the end is told
  pub given_end : (new : HistoryReading) (piece : Piece) → Ended old new now after piece → HasGiven before after new pieces
  given_end new piece ended = record {
    read = record {
      text = given.read.text;
      spelled = given.read.spelled;
      consumed = subst (Consumes before after) (append-nil given.read.text) (Consumes-trans before now after given.read.text [] given.read.consumed ended.consumed);
      within = given.read.within;
    };
    stage = ap (λ (r : HistoryReading). r.stage) ended.moved ∙ given.stage;
    counts = ap (λ (r : HistoryReading). r.counts) ended.moved ∙ given.counts;
    offset = ap (λ (r : HistoryReading). r.offset) ended.moved ∙ given.offset;
    fault = ap (λ (r : HistoryReading). r.fault) ended.moved ∙ given.fault;
  }

  pub inside_there : IsInside old.stage → IsInside (stage_from Before pieces)
  inside_there h = subst IsInside given.stage h

  -- no piece is there
  pub bad_there : (at : ℕ) → NoPiece old.stage old.counts.events now → (old.stage ≡ Before) ⊎ HasBytes now → at ≡ old.offset → IsBadAt before at
  bad_there at none some place = record {
    after = now;
    pieces = pieces;
    read = given.read;
    none = subst (λ (s : Stage). NoPiece s (events_from 0 pieces) now) given.stage (subst (λ (n : ℕ). NoPiece old.stage n now) events_are none);
    some = subst (λ (s : Stage). (s ≡ Before) ⊎ HasBytes now) given.stage some;
    place = place ∙ given.offset;
  }

  -- a piece passes a limit
  pub many_there : (cause : ℕ) → Refused old now after cause → IsTooMany before cause
  many_there cause refused = record {
    between = now;
    after = after;
    pieces = pieces;
    read = given.read;
    piece = refused.piece;
    text = refused.text;
    spells = spelled_there refused.piece refused.text refused.spells;
    consumed = refused.consumed;
    passed = ap passed_limit (counts_join nothing_yet pieces (refused.piece ∷ [])) ∙ subst (λ (c : HistoryCounts). passed_limit (counted c refused.piece) ≡ Some cause) given.counts refused.passed;
  }

-- ---- at the end

-- what was taken and what is left are both at an end
pub end_of : (pending : List ℕ) (left : Option (List ℕ)) → IsAtEnd (unread pending left) → IsAtEnd left
end_of pending None h = tt
end_of [] (Some left) h = h
end_of (b ∷ pending) (Some left) h = absurd (cc)

pub consumed_all : (before left : Option (List ℕ)) (pending text : List ℕ) → IsAtEnd (unread pending left) → Consumes before (unread pending left) text → Consumes before left text
consumed_all before None pending text h consumed = consumed
consumed_all before (Some left) [] text h consumed = consumed
consumed_all before (Some left) (b ∷ pending) text h consumed = absurd (cc)

pub read_all : (before left : Option (List ℕ)) (pending : List ℕ) (pieces : List Piece) → IsAtEnd (unread pending left) → AreRead before (unread pending left) pieces → AreRead before left pieces
read_all before left pending pieces h read = record {
  text = read.text;
  spelled = read.spelled;
  consumed = consumed_all before left pending read.text h read.consumed;
  within = read.within;
}
