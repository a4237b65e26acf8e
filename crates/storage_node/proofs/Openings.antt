-- What a reload of all journals tells of the start after it.
use Rattle.std.proofs.Common.{◌≡◌, ◌≢◌, ℕ, zero, suc, ◌<◌, Bool, true, false, cond, ◌||◌, List, [], ◌∷◌, length, Option, Some, None, refl, sym, ap, ◌∙◌, subst, arith}
use Rattle.std.specs.Prelude.{IsSome, IfSome, IsTrue, Err}
use Rattle.std.specs.List.{list_any}
use Rattle.history_frame.specs.declared.inputs.Mark.TheVariants.{StayedDown}
use Rattle.segment_journal.specs.Journalled.{Turns}
use Rattle.segment_journal.specs.declared.journal.Installed.{Installed}
use Rattle.segment_journal.specs.declared.journal.Installed.TheVariants.{Failed, OneMore, Same}
use Rattle.segment_journal.specs.declared.journal.OpenFault.{OpenFault}
use Rattle.segment_journal.specs.declared.journal.OpenFault.TheVariants.{Failed as NotRead, Damaged, Memory}
use Rattle.shard_replica.specs.declared.lists.LastReload.TheVariants.{Failed as Unread, Read as WasRead}
use Rattle.shard_replica.specs.Lists.{IsRead as IsReadAs, Medium, ReloadsAll, Segment, came_to, has_one_more, is_one_more, medium_at, segment_at}
use Rattle.storage_node.specs.Opening.{IsOpening, RoseIn, joined, opening_mark, told_both, told_by}
use Rattle.storage_node.specs.Preparing.{AreRead, IsRead}

-- a list that was read, by what its journal came to
read-came : (segment : Segment) (reloaded : Option Installed) (came : Installed) → reloaded ≡ Some came → came ≢ Failed
    → (reloaded ≡ Some OneMore → IsSome segment.flight) → IsRead segment reloaded
read-came segment reloaded Failed is good flight = absurd (good refl)
read-came segment reloaded OneMore is good flight = subst (λ (o : Option Installed). IsRead segment o) (sym is) (flight is)
read-came segment reloaded Same is good flight = subst (λ (o : Option Installed). IsRead segment o) (sym is) tt

-- each list was read
pub are-read : (segments : List Segment) (old new : List Medium) → length segments ≡ length new → length old ≡ length new
    → ((k : ℕ) → k < length old → IsReadAs (medium_at old k) (medium_at new k))
    → ((k : ℕ) → (medium_at new k).reloaded ≡ Some OneMore → IsSome (segment_at segments k).flight) → AreRead segments new
are-read [] old [] size same read flight = tt
are-read [] old (n ∷ new) size same read flight = absurd (omega arith)
are-read (segment ∷ segments) old [] size same read flight = absurd (omega arith)
are-read (segment ∷ segments) [] (n ∷ new) size same read flight = absurd (omega arith)
are-read (segment ∷ segments) (m ∷ old) (n ∷ new) size same read flight =
    let first = read 0 (omega arith) in (
      read-came segment n.reloaded first.came first.is first.good (flight 0),
      are-read segments old new (omega arith) (omega arith) (λ k lt. read (suc k) (omega arith)) (λ k more. flight (suc k) more),
    )

-- what one journal and the others told is what they come to
both-told : (turns : Option Turns) (others : Option Installed) (reloaded : Option Installed) (came : Installed) (rest : Bool) (answer : Installed)
    → reloaded ≡ Some came → came ≢ Failed → IfSome turns (λ (turn : Turns). came ≡ turn.reload)
    → ((other : Installed) → others ≡ Some other → cond rest OneMore Same ≡ other) → told_both turns others ≡ Some answer
    → cond (is_one_more reloaded || rest) OneMore Same ≡ answer
both-told None others reloaded came rest answer is good turn more told = absurd (cc)
both-told (Some turn) None reloaded came rest answer is good same more told = absurd (cc)
both-told (Some turn) (Some other) reloaded came rest answer is good same more told =
    let both : joined came other ≡ answer = ap (λ (i : Installed). joined i other) same ∙ unwrapped (joined turn.reload other) answer told in
    subst (λ (o : Option Installed). cond (is_one_more o || rest) OneMore Same ≡ answer) (sym is) (next came good rest other (more other refl) both)
  where
    unwrapped : (a b : Installed) → Some a ≡ Some b → a ≡ b
    unwrapped a b e = cc

    next : (came : Installed) → came ≢ Failed → (rest : Bool) (other : Installed) → cond rest OneMore Same ≡ other → joined came other ≡ answer
        → cond (is_one_more (Some came) || rest) OneMore Same ≡ answer
    next Failed good rest other more both = absurd (good refl)
    next OneMore good true OneMore more both = both
    next OneMore good false Same more both = both
    next OneMore good true Same more both = absurd (cc)
    next OneMore good true Failed more both = absurd (cc)
    next OneMore good false OneMore more both = absurd (cc)
    next OneMore good false Failed more both = absurd (cc)
    next Same good rest other more both = more ∙ both

told-read : (old new : List Medium) → length old ≡ length new → ((k : ℕ) → k < length old → IsReadAs (medium_at old k) (medium_at new k))
    → (answer : Installed) → told_by old ≡ Some answer → came_to new ≡ answer
told-read [] [] same read answer told = cc
told-read [] (n ∷ new) same read answer told = absurd (omega arith)
told-read (m ∷ old) [] same read answer told = absurd (omega arith)
told-read (m ∷ old) (n ∷ new) same read answer told =
    let first = read 0 (omega arith) in
    both-told m.turns (told_by old) n.reloaded first.came (list_any has_one_more new) answer first.is first.good first.turn
    (told-read old new (omega arith) (λ k lt. read (suc k) (omega arith))) told

not-stayed : (more : Bool) → opening_mark (cond more OneMore Same) ≡ StayedDown → ⊥
not-stayed true e = cc
not-stayed false e = cc

-- all lists were read
pub opening-read : (old new : List Medium) → length old ≡ length new → ((k : ℕ) → k < length old → IsReadAs (medium_at old k) (medium_at new k))
    → IsOpening (Some WasRead) old new
opening-read old new same read = record {
  stayed = λ stayed keeps. absurd (not-stayed (list_any has_one_more new) stayed);
  told = λ answer told. ap opening_mark (told-read old new same read answer told);
}

-- a journal that told of a failure
both-failed : (turns : Option Turns) (others : Option Installed) (answer : Installed) → IfSome turns (λ (turn : Turns). turn.reload ≡ Failed)
    → told_both turns others ≡ Some answer → answer ≡ Failed
both-failed None others answer fails told = absurd (cc)
both-failed (Some turn) None answer fails told = absurd (cc)
both-failed (Some turn) (Some other) answer fails told =
    let both : Some (joined Failed other) ≡ Some answer = ap (λ (i : Installed). Some (joined i other)) (sym fails) ∙ told in cc

others-failed : (turns : Option Turns) (others : Option Installed) (answer : Installed) → ((other : Installed) → others ≡ Some other → other ≡ Failed)
    → told_both turns others ≡ Some answer → answer ≡ Failed
others-failed None others answer fails told = absurd (cc)
others-failed (Some turn) None answer fails told = absurd (cc)
others-failed (Some turn) (Some other) answer fails told =
    let both : Some (joined turn.reload Failed) ≡ Some answer = ap (λ (i : Installed). Some (joined turn.reload i)) (sym (fails other refl)) ∙ told in
    let last = always turn.reload in cc
  where
    always : (i : Installed) → joined i Failed ≡ Failed
    always Failed = refl
    always OneMore = refl
    always Same = refl

told-failed : (old : List Medium) (k : ℕ) → k < length old → IfSome (medium_at old k).turns (λ (turn : Turns). turn.reload ≡ Failed)
    → (answer : Installed) → told_by old ≡ Some answer → answer ≡ Failed
told-failed [] k lt fails answer told = absurd (omega arith)
told-failed (m ∷ old) zero lt fails answer told = both-failed m.turns (told_by old) answer fails told
told-failed (m ∷ old) (suc k) lt fails answer told = others-failed m.turns (told_by old) answer (told-failed old k (omega arith) fails) told

-- why a list was not read
why : (old new : List Medium) (fault : OpenFault) → fault ≢ Memory → ReloadsAll (Err fault) old new → ((k : ℕ) → IsTrue (medium_at old k).keeps_synced) → RoseIn old new
why old new NotRead other reload keeps = reload.cause refl
why old new (Damaged at) other reload keeps = absurd (reload.damaged keeps at refl)
why old new Memory other reload keeps = absurd (other refl)

-- a list could not be read
pub opening-failed : (old new : List Medium) (fault : OpenFault) → fault ≢ Memory → ReloadsAll (Err fault) old new → IsOpening (Some Unread) old new
opening-failed old new fault other reload =
    let turn = reload.turn fault refl other in
    record {
      stayed = λ stayed keeps. why old new fault other reload keeps;
      told = λ answer told. ap opening_mark (sym (told-failed old turn.0 turn.1 turn.2 answer told));
    }
