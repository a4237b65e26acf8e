-- One frame more, and how the reading of frames ends.
use Rattle.std.proofs.Common.{◌≡◌, inl, inr, ℕ, ◌+◌, List, [], ◌∷◌, ◌++◌, length, Option, Ok, Err, refl, subst, length-append, arith}
use Rattle.reply_frame.specs.declared.faults.ItemFault.{ItemFault}
use Rattle.reply_frame.specs.declared.faults.ItemFault.TheVariants.{Bad as BadItem, Read as ReadItem, Many as ManyItems, Memory as NoMemory}
use Rattle.history_frame.specs.declared.pieces.Piece.{Piece}
use Rattle.history_frame.specs.declared.pieces.Piece.TheVariants.{End}
use Rattle.history_frame.specs.Frames.{Means}
use Rattle.history_frame.specs.Reader.{Answers, Ended, Gave, HistoryReading, counted, nothing_yet}
use Rattle.history_check.specs.Courses.{counts_from}
use Rattle.history_check.specs.Judging.{Comes, GoesOn, IsJudge, Judges}
use Rattle.history_check.specs.Verdicts.{IsFault, fault_of}
use Rattle.history_check.specs.declared.checking.Course.TheVariants.{Goes, Ends}
use Rattle.history_check.specs.declared.judge.Judge.{Judge}
use Rattle.history_check.specs.declared.verdicts.CheckFault.{CheckFault}
use Rattle.history_check.specs.declared.verdicts.CheckFault.TheVariants.{Bad, Read, Many, Memory}
use Rattle.history_check.proofs.CourseLaws.{bad_there, counts-events, given_end, given_more, inside_there, many_there, spelled_there, within_there}
use Rattle.history_check.proofs.JudgeLaws.{few_events}

module _ (before now after : Option (List ℕ)) (old new : HistoryReading) (judge : Judge) (pieces : List Piece) (stands : Judges before now old judge pieces) where
  gave_of : (piece : Piece) → (piece ≡ End → ⊥) → Answers old new now after (Ok piece) → Gave old new now after piece
  gave_of piece other (inl gave) = gave
  gave_of piece other (inr ended) = absurd (other ended.is_end)

  ended_of : (piece : Piece) → piece ≡ End → Answers old new now after (Ok piece) → Ended old new now after piece
  ended_of piece e (inl gave) = absurd (subst (Means old.stage old.counts.events gave.spells.kind gave.spells.body) e gave.spells.means)
  ended_of piece e (inr ended) = ended

  pub comes_next : (piece : Piece) → (piece ≡ End → ⊥) → Answers old new now after (Ok piece) → Comes pieces piece
  comes_next piece other answers =
      let gave = gave_of piece other answers in
      record {
        text = gave.text;
        spells = spelled_there before now after old pieces stands.given piece gave.text gave.spells;
        few = omega (
          arith,
          few_events (counted (counts_from nothing_yet pieces) piece) (within_there before now after old pieces stands.given piece gave.within),
          counts-events nothing_yet pieces,
        );
      }

  pub goes_on : (piece : Piece) (next : Judge) → (piece ≡ End → ⊥) → Answers old new now after (Ok piece) → IsJudge next (pieces ++ piece ∷ []) → GoesOn before after new next pieces Goes
  goes_on piece next other answers judged =
      (piece, record { given = given_more before now after old pieces stands.given new piece (gave_of piece other answers); judged = judged })

  pub ends : (piece : Piece) → piece ≡ End → Answers old new now after (Ok piece) → GoesOn before after new judge pieces Ends
  ends piece e answers =
      let ended = ended_of piece e answers in
      record {
        so_far = record { given = given_end before now after old pieces stands.given new piece ended; judged = stands.judged };
        at_end = ended.at_end;
        inside = inside_there before now after old pieces stands.given ended.inside;
      }

  pub fault_is : (Stops : ℕ → Type 0) (fault : ItemFault) → Answers old new now after (Err fault) → ((at : ℕ) → fault ≡ ReadItem at → Stops at) → IsFault Stops before (fault_of fault)
  fault_is Stops (BadItem at) answers stops = bad_there before now after old pieces stands.given at answers.0 answers.1 answers.2
  fault_is Stops (ReadItem at) answers stops = stops at refl
  fault_is Stops (ManyItems cause) answers stops = inl (many_there before now after old pieces stands.given cause answers.0)
  fault_is Stops NoMemory answers stops = tt

-- a fault says the same where it says more of the source
pub fault_more : (Stops Halts : ℕ → Type 0) (before : Option (List ℕ)) (fault : CheckFault) → ((at : ℕ) → Stops at → Halts at) → IsFault Stops before fault → IsFault Halts before fault
fault_more Stops Halts before (Bad at) more is = is
fault_more Stops Halts before (Read at) more is = more at is
fault_more Stops Halts before (Many cause) more is = is
fault_more Stops Halts before Memory more is = tt

-- so many pieces were judged
pub record HasJudged (before after : Option (List ℕ)) (reading : HistoryReading) (judge : Judge) (count : ℕ) : Type 0 where
  pub pieces : List Piece
  pub stands : Judges before after reading judge pieces
  pub many : length pieces ≡ count

pub one_judged : (before after : Option (List ℕ)) (reading : HistoryReading) (judge : Judge) (pieces : List Piece) (count : ℕ) → length pieces ≡ count
    → GoesOn before after reading judge pieces Goes → HasJudged before after reading judge (count + 1)
one_judged before after reading judge pieces count many on = record {
  pieces = pieces ++ on.0 ∷ [];
  stands = on.1;
  many = omega (arith, many, length-append pieces (on.0 ∷ []));
}
