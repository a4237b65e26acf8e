-- Going through the list of a journal.
use Rattle.std.proofs.Common.{◌≡◌, ◌≤◌, ◌<◌, ◌+◌, ◌-◌, ℕ, suc, Bool, true, false, cond, List, [], ◌∷◌, ◌++◌, length, take, drop, get_or, Option, Some, None, refl, sym, ap, subst, ◌∙◌, arith}
use Rattle.std.specs.Prelude.{slice_get, is_some}
use Rattle.std.specs.Option.{option_map}
use Rattle.std.proofs.lemmas.List.{take_all, take_more, drop_all, drop_more}
use Rattle.std.proofs.lemmas.Option.{slice_get_within, get_or_from_slice_get}
use Rattle.segment_journal.specs.Journalled.{Journalled, end_of}
use Rattle.paxos_model.specs.Payloads.{payload_of, payload_in, payloads_in, payload_found}
use Rattle.paxos_model.specs.Votes.{Payload, Promise}
use Rattle.paxos_acceptor.specs.declared.payloads.Entry.{Entry}
use Rattle.paxos_acceptor.specs.Listed.{payload_so, list_of, bad_from, bad_offset}
use Rattle.paxos_acceptor.specs.Table.{Table, Tables}
use Rattle.paxos_acceptor.proofs.Noted.{payloads_in-more}

-- ---- the table of the list up to an offset

payload_in-read : (bytes : List ℕ) → payload_in bytes ≡ payload_found (payload_of bytes)
unfolding payload_in
payload_in-read bytes = refl

up_to_next : (payloads : List (List ℕ)) (k : ℕ) (bytes : List ℕ) → slice_get payloads k ≡ Some bytes
    → payloads_in (take (k + 1) payloads) ≡ payloads_in (take k payloads) ++ payload_found (payload_of bytes) ∷ []
up_to_next payloads k bytes there =
    let lt = slice_get_within payloads k bytes there in
    ap payloads_in (take_more payloads k bytes lt ∙ ap (λ (b : List ℕ). take k payloads ++ b ∷ []) (get_or_from_slice_get payloads k bytes bytes there))
    ∙ payloads_in-more (take k payloads) bytes ∙ ap (λ (p : Payload). payloads_in (take k payloads) ++ p ∷ []) (payload_in-read bytes)

pub tables-next : (journal : Journalled) (at : ℕ) (bytes : List ℕ) (read : Option Payload) (old new : Table) → journal.first ≤ at
    → slice_get journal.payloads (at - journal.first) ≡ Some bytes → read ≡ payload_of bytes
    → ((list : List Payload) → Tables old list → Tables new (list ++ payload_found read ∷ []))
    → Tables old (payloads_in (take (at - journal.first) journal.payloads)) → Tables new (payloads_in (take (at + 1 - journal.first) journal.payloads))
tables-next journal at bytes read old new least there is noted before =
    let next : at + 1 - journal.first ≡ at - journal.first + 1 = omega arith in
    let grown = up_to_next journal.payloads (at - journal.first) bytes there in
    subst (λ (k : ℕ). Tables new (payloads_in (take k journal.payloads))) (sym next)
    (subst (Tables new) (ap (λ (o : Option Payload). payloads_in (take (at - journal.first) journal.payloads) ++ payload_found o ∷ []) is ∙ sym grown)
    (noted (payloads_in (take (at - journal.first) journal.payloads)) before))

pub tables-all : (journal : Journalled) (at : ℕ) (table : Table) → end_of journal ≤ at → Tables table (payloads_in (take (at - journal.first) journal.payloads)) → Tables table (list_of journal)
tables-all journal at table past is =
    subst (λ (ps : List (List ℕ)). Tables table (payloads_in ps)) (take_all (at - journal.first) journal.payloads (omega arith)) is

-- ---- the first payload that is none

-- up to an offset each payload is a promise or vote
pub record AreGood (journal : Journalled) (at : ℕ) : Type 0 where
  pub first : journal.first ≤ at
  pub rest : bad_offset journal ≡ bad_from at (drop (at - journal.first) journal.payloads)

pub good-first : (journal : Journalled) → AreGood journal journal.first
good-first journal =
    let none : journal.first - journal.first ≡ 0 = omega arith in
    record { first = omega arith; rest = sym (ap (λ (k : ℕ). bad_from journal.first (drop k journal.payloads)) none) }

from_here : (payloads : List (List ℕ)) (k : ℕ) (bytes : List ℕ) → slice_get payloads k ≡ Some bytes → drop k payloads ≡ bytes ∷ drop (k + 1) payloads
from_here payloads k bytes there =
    let lt = slice_get_within payloads k bytes there in
    drop_more payloads k bytes lt ∙ ap (λ (b : List ℕ). b ∷ drop (k + 1) payloads) (get_or_from_slice_get payloads k bytes bytes there)

-- a payload that was read is one exactly where something was found
is_some-read : (read : Option Entry) → is_some (option_map payload_so read) ≡ is_some read
is_some-read None = refl
is_some-read (Some entry) = refl

tested : (bytes : List ℕ) (read : Option Entry) (b : Bool) → option_map payload_so read ≡ payload_of bytes → is_some read ≡ b → is_some (payload_of bytes) ≡ b
tested bytes read b is test = sym (ap (λ (o : Option Payload). is_some o) is) ∙ is_some-read read ∙ test

pub bad-here : (journal : Journalled) (at : ℕ) (bytes : List ℕ) (read : Option Entry) → slice_get journal.payloads (at - journal.first) ≡ Some bytes
    → option_map payload_so read ≡ payload_of bytes → is_some read ≡ false → AreGood journal at → Some at ≡ bad_offset journal
bad-here journal at bytes read there is none good =
    let rest = drop (at - journal.first + 1) journal.payloads in
    sym (good.rest ∙ ap (bad_from at) (from_here journal.payloads (at - journal.first) bytes there)
    ∙ ap (λ (b : Bool). cond b (bad_from (suc at) rest) (Some at)) (tested bytes read false is none))

pub good-next : (journal : Journalled) (at : ℕ) (bytes : List ℕ) (read : Option Entry) → slice_get journal.payloads (at - journal.first) ≡ Some bytes
    → option_map payload_so read ≡ payload_of bytes → is_some read ≡ true → AreGood journal at → AreGood journal (at + 1)
good-next journal at bytes read there is some good =
    let rest = drop (at - journal.first + 1) journal.payloads in
    let next : at + 1 - journal.first ≡ at - journal.first + 1 = omega (arith, good.first) in
    let after : suc at ≡ at + 1 = omega arith in
    record {
      first = omega (arith, good.first);
      rest = good.rest ∙ ap (bad_from at) (from_here journal.payloads (at - journal.first) bytes there)
          ∙ ap (λ (b : Bool). cond b (bad_from (suc at) rest) (Some at)) (tested bytes read true is some)
          ∙ ap (λ (n : ℕ). bad_from n rest) after
          ∙ ap (λ (k : ℕ). bad_from (at + 1) (drop k journal.payloads)) (sym next);
    }

pub good-all : (journal : Journalled) (at : ℕ) → end_of journal ≤ at → AreGood journal at → None ≡ bad_offset journal
good-all journal at past good =
    sym (good.rest ∙ ap (bad_from at) (drop_all (at - journal.first) journal.payloads (omega arith)))
