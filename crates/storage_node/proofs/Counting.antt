-- The counts of faults of a node's journals never fall.
use Rattle.std.proofs.Common.{◌≡◌, ℕ, zero, suc, ◌≤◌, Bool, true, false, eqb, List, [], ◌∷◌, map, Option, Some, None, Result, refl, sym, ap, subst, arith}
use Rattle.std.proofs.lemmas.Bool.{eqb-true, eqb-false}
use Rattle.record_frame.specs.declared.entries.Entry.{Entry}
use Rattle.segment_journal.specs.declared.journal.OpenFault.{OpenFault}
use Rattle.shard_replica.specs.Answers.{TellsPut}
use Rattle.shard_replica.specs.Lists.{Medium, PutsAt, ReloadsAll, but_room, medium_at}
use Rattle.storage_node.specs.Counting.{CountsOn}

pub counts-same : (old new : List Medium) → new ≡ old → CountsOn old new
counts-same old new same = record {
  later = λ k. let e : (medium_at new k).faults ≡ (medium_at old k).faults = ap (λ (ms : List Medium). (medium_at ms k).faults) same in omega (arith, e);
  keeps_synced = λ k. ap (λ (ms : List Medium). (medium_at ms k).keeps_synced) same;
}

-- a put, if there is one
put-later : (segment : ℕ) (failed : Bool) (old new : List Medium) → PutsAt segment failed old new → (k : ℕ) → (medium_at old k).faults ≤ (medium_at new k).faults
put-later segment failed old new puts k = next (eqb k segment) refl
  where
    next : (b : Bool) → eqb k segment ≡ b → (medium_at old k).faults ≤ (medium_at new k).faults
    next true e = subst (λ (n : ℕ). (medium_at old n).faults ≤ (medium_at new n).faults) (sym (eqb-true k segment e)) puts.later
    next false e = let same = ap (λ (m : Medium). m.faults) (puts.others k (eqb-false k segment e)) in omega (arith, same)

put-keeps : (segment : ℕ) (failed : Bool) (old new : List Medium) → PutsAt segment failed old new → (k : ℕ)
    → (medium_at new k).keeps_synced ≡ (medium_at old k).keeps_synced
put-keeps segment failed old new puts k = next (eqb k segment) refl
  where
    next : (b : Bool) → eqb k segment ≡ b → (medium_at new k).keeps_synced ≡ (medium_at old k).keeps_synced
    next true e = subst (λ (n : ℕ). (medium_at new n).keeps_synced ≡ (medium_at old n).keeps_synced) (sym (eqb-true k segment e)) puts.keeps_synced
    next false e = ap (λ (m : Medium). m.keeps_synced) (puts.others k (eqb-false k segment e))

pub counts-put : (put : Option Entry) (segment : ℕ) (failed : Bool) (old new : List Medium) → TellsPut put segment failed old new → CountsOn old new
counts-put None segment failed old new same = counts-same old new same
counts-put (Some entry) segment failed old new puts = record {
  later = put-later segment failed old new puts;
  keeps_synced = put-keeps segment failed old new puts;
}

-- a reload
pub counts-reloaded : (result : Result (Unit {0}) OpenFault) (old new : List Medium) → ReloadsAll result old new → CountsOn old new
counts-reloaded result old new reload = record { later = reload.later; keeps_synced = reload.keeps_synced }

-- what putting the lists in place leaves
faults-at : (old new : List Medium) → map (λ (m : Medium). m.faults) new ≡ map (λ (m : Medium). m.faults) old → (k : ℕ)
    → (medium_at new k).faults ≡ (medium_at old k).faults
faults-at [] [] e k = refl
faults-at [] (n ∷ new) e k = absurd (cc)
faults-at (m ∷ old) [] e k = absurd (cc)
faults-at (m ∷ old) (n ∷ new) e zero = cc
faults-at (m ∷ old) (n ∷ new) e (suc k) = faults-at old new (cc) k

keeps-at : (old new : List Medium) → map (λ (m : Medium). m.keeps_synced) new ≡ map (λ (m : Medium). m.keeps_synced) old → (k : ℕ)
    → (medium_at new k).keeps_synced ≡ (medium_at old k).keeps_synced
keeps-at [] [] e k = refl
keeps-at [] (n ∷ new) e k = absurd (cc)
keeps-at (m ∷ old) [] e k = absurd (cc)
keeps-at (m ∷ old) (n ∷ new) e zero = cc
keeps-at (m ∷ old) (n ∷ new) e (suc k) = keeps-at old new (cc) k

pub counts-installed : (old new : List Medium) → map (λ (m : Medium). m.faults) new ≡ map (λ (m : Medium). m.faults) old
    → map (λ (m : Medium). m.keeps_synced) new ≡ map (λ (m : Medium). m.keeps_synced) old → CountsOn old new
counts-installed old new faults keeps = record {
  later = λ k. let e = faults-at old new faults k in omega (arith, e);
  keeps_synced = keeps-at old new keeps;
}

-- room is made
room-at : (old new : List Medium) → map but_room new ≡ map but_room old → (k : ℕ) → but_room (medium_at new k) ≡ but_room (medium_at old k)
room-at [] [] e k = refl
room-at [] (n ∷ new) e k = absurd (cc)
room-at (m ∷ old) [] e k = absurd (cc)
room-at (m ∷ old) (n ∷ new) e zero = cc
room-at (m ∷ old) (n ∷ new) e (suc k) = room-at old new (cc) k

pub counts-roomed : (old new : List Medium) → map but_room new ≡ map but_room old → CountsOn old new
counts-roomed old new same = record {
  later = λ k. let e = ap (λ (m : Medium). m.faults) (room-at old new same k) in omega (arith, e);
  keeps_synced = λ k. ap (λ (m : Medium). m.keeps_synced) (room-at old new same k);
}
