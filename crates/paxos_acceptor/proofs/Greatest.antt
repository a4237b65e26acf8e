-- The rows of a table: what a row says of a slot's votes.
use Rattle.std.proofs.Common.{◌≡◌, ◌≢◌, ◌<◌, ◌≤◌, ℕ, Bool, true, false, cond, ltb, eqb, List, [], ◌∷◌, ◌++◌, Option, Some, None, refl, sym, ap, ap₂, subst, ◌∙◌, eq-eqb, arith}
use Rattle.std.specs.Prelude.{◌&&◌, ◌||◌, ◌==◌}
use Rattle.std.proofs.lemmas.Bool.{le-ltb, lt-ltb, ltb-false}
use Rattle.std.proofs.lemmas.Bool.Decides.{nat_tests}
use Rattle.message_frame.specs.declared.messages.Vote.{Vote}
use Rattle.paxos_model.specs.Leader.{is_of_slot}
use Rattle.paxos_model.specs.Votes.{keep, greater, greatest, counts, has_vote, is_for}
use Rattle.paxos_model.proofs.Merging.{greatest-append, keep-none}
use Rattle.paxos_acceptor.specs.declared.rows.Row.{Row}
use Rattle.paxos_acceptor.specs.Table.{IsRow, IsUpTo, before}

-- ---- one vote more

greatest_hit : (t : Vote → Bool) (votes : List Vote) (vote : Vote) → t vote ≡ true → greatest t (votes ++ vote ∷ []) ≡ keep (greatest t votes) (Some vote)
greatest_hit t votes vote is =
    greatest-append t votes (vote ∷ []) ∙ ap (λ (b : Bool). keep (greatest t votes) (keep (cond b (Some vote) None) None)) is

greatest_miss : (t : Vote → Bool) (votes : List Vote) (vote : Vote) → t vote ≡ false → greatest t (votes ++ vote ∷ []) ≡ greatest t votes
greatest_miss t votes vote is =
    greatest-append t votes (vote ∷ []) ∙ ap (λ (b : Bool). keep (greatest t votes) (keep (cond b (Some vote) None) None)) is ∙ keep-none (greatest t votes)

counts_lower : (ballot slot : ℕ) (vote : Vote) → vote.slot.0 ≡ slot → vote.ballot.0 < ballot → counts ballot slot vote ≡ true
counts_lower ballot slot vote same lower = let a = lt-ltb vote.ballot.0 ballot lower in let b = eq-eqb vote.slot.0 slot same in rw (a, b) refl

counts_not_lower : (ballot slot : ℕ) (vote : Vote) → ballot ≤ vote.ballot.0 → counts ballot slot vote ≡ false
counts_not_lower ballot slot vote least = let a = le-ltb vote.ballot.0 ballot least in rw a refl

and_false : (b : Bool) → (b && false) ≡ false
and_false true = refl
and_false false = refl

not_of_slot : (slot : ℕ) (vote : Vote) → vote.slot.0 ≢ slot → is_of_slot slot vote ≡ false
not_of_slot slot vote other = grind (arith, nat_tests)

counts_other : (ballot slot : ℕ) (vote : Vote) → vote.slot.0 ≢ slot → counts ballot slot vote ≡ false
counts_other ballot slot vote other = let a = not_of_slot slot vote other in rw a (and_false (ltb vote.ballot.0 ballot))

-- ---- below a ballot that no vote of the slot reaches

abbrev IsBelow : ℕ → Option Vote → Type 0
IsBelow ballot None = Unit {0}
IsBelow ballot (Some vote) = vote.ballot.0 < ballot

below_parts : (ballot : ℕ) (x y : Option Vote) → IsBelow ballot (keep x y) → IsBelow ballot x × IsBelow ballot y
below_parts ballot None y h = (tt, h)
below_parts ballot (Some u) None h = (h, tt)
below_parts ballot (Some u) (Some w) h = by_test (ltb u.ballot.0 w.ballot.0) refl h
  where
    by_test : (b : Bool) → ltb u.ballot.0 w.ballot.0 ≡ b → (cond b w u).ballot.0 < ballot → (u.ballot.0 < ballot) × (w.ballot.0 < ballot)
    by_test true is lt = let less : u.ballot.0 < w.ballot.0 = grind (arith, nat_tests) in (omega (arith, less, lt), lt)
    by_test false is lt = let least = ltb-false _ _ is in (lt, omega (arith, least, lt))

one_counts : (ballot : ℕ) (vote : Vote) (b : Bool) → IsBelow ballot (cond b (Some vote) None) → cond (ltb vote.ballot.0 ballot && b) (Some vote) None ≡ cond {A = Option Vote} b (Some vote) None
one_counts ballot vote true h = let e = lt-ltb vote.ballot.0 ballot h in rw e refl
one_counts ballot vote false h = ap (λ (b : Bool). cond {A = Option Vote} b (Some vote) None) (and_false (ltb vote.ballot.0 ballot))

all_count : (ballot slot : ℕ) (votes : List Vote) → IsBelow ballot (greatest (is_of_slot slot) votes) → greatest (counts ballot slot) votes ≡ greatest (is_of_slot slot) votes
all_count ballot slot [] h = refl
all_count ballot slot (vote ∷ votes) h =
    let parts = below_parts ballot (cond (is_of_slot slot vote) (Some vote) None) (greatest (is_of_slot slot) votes) h in
    ap₂ keep (one_counts ballot vote (is_of_slot slot vote) parts.0) (all_count ballot slot votes parts.1)

below_of : (ballot : ℕ) (x y : Option Vote) → x ≡ y → IsBelow ballot x → IsBelow ballot y
below_of ballot x y e h = subst (IsBelow ballot) e h

-- ---- a row with one vote more

pub row_first : (vote : Vote) (votes : List Vote) (row : Row) → row.last ≡ None → IsRow vote.slot.0 row votes
    → IsRow vote.slot.0 (record { last = Some vote; earlier = None }) (votes ++ vote ∷ [])
row_first vote votes row none is =
    let slot = vote.slot.0 in
    let no_votes : None ≡ greatest (is_of_slot slot) votes = sym none ∙ is.last in
    record {
      last = sym (greatest_hit (is_of_slot slot) votes vote (eq-eqb slot slot refl) ∙ ap (λ (o : Option Vote). keep o (Some vote)) (sym no_votes));
      earlier = sym (greatest_miss (counts vote.ballot.0 slot) votes vote (counts_not_lower vote.ballot.0 slot vote (omega arith))
          ∙ all_count vote.ballot.0 slot votes (below_of vote.ballot.0 None _ no_votes tt) ∙ sym no_votes);
    }

pub row_greater : (vote last : Vote) (votes : List Vote) (row : Row) → row.last ≡ Some last → last.ballot.0 < vote.ballot.0 → IsRow vote.slot.0 row votes
    → IsRow vote.slot.0 (record { last = Some vote; earlier = Some last }) (votes ++ vote ∷ [])
row_greater vote last votes row some less is =
    let slot = vote.slot.0 in
    let test = lt-ltb last.ballot.0 vote.ballot.0 less in
    let was : Some last ≡ greatest (is_of_slot slot) votes = sym some ∙ is.last in
    record {
      last = sym (greatest_hit (is_of_slot slot) votes vote (eq-eqb slot slot refl) ∙ ap (λ (o : Option Vote). keep o (Some vote)) (sym was)
          ∙ ap (λ (b : Bool). Some (cond b vote last)) test);
      earlier = sym (greatest_miss (counts vote.ballot.0 slot) votes vote (counts_not_lower vote.ballot.0 slot vote (omega arith))
          ∙ all_count vote.ballot.0 slot votes (below_of vote.ballot.0 (Some last) _ was less) ∙ sym was);
    }

-- the last vote stays
last_stays : (vote last : Vote) (votes : List Vote) (row : Row) → row.last ≡ Some last → vote.ballot.0 ≤ last.ballot.0 → IsRow vote.slot.0 row votes
    → Some last ≡ greatest (is_of_slot vote.slot.0) (votes ++ vote ∷ [])
last_stays vote last votes row some least is =
    let slot = vote.slot.0 in
    let test = le-ltb last.ballot.0 vote.ballot.0 least in
    let was : Some last ≡ greatest (is_of_slot slot) votes = sym some ∙ is.last in
    sym (greatest_hit (is_of_slot slot) votes vote (eq-eqb slot slot refl) ∙ ap (λ (o : Option Vote). keep o (Some vote)) (sym was)
    ∙ ap (λ (b : Bool). Some (cond b vote last)) test)

earlier_was : (slot : ℕ) (last : Vote) (votes : List Vote) (row : Row) → row.last ≡ Some last → IsRow slot row votes → row.earlier ≡ greatest (counts last.ballot.0 slot) votes
earlier_was slot last votes row some is = is.earlier ∙ ap (λ (o : Option Vote). before o slot votes) some

pub row_equal : (vote last : Vote) (votes : List Vote) (row : Row) → row.last ≡ Some last → last.ballot.0 ≡ vote.ballot.0 → IsRow vote.slot.0 row votes
    → IsRow vote.slot.0 row (votes ++ vote ∷ [])
row_equal vote last votes row some same is =
    let slot = vote.slot.0 in
    record {
      last = some ∙ last_stays vote last votes row some (omega (arith, same)) is;
      earlier = earlier_was slot last votes row some is
          ∙ sym (greatest_miss (counts last.ballot.0 slot) votes vote (counts_not_lower last.ballot.0 slot vote (omega (arith, same))))
          ∙ sym (ap (λ (o : Option Vote). before o slot (votes ++ vote ∷ [])) some);
    }

pub row_lower : (vote last kept : Vote) (votes : List Vote) (row : Row) → row.last ≡ Some last → vote.ballot.0 < last.ballot.0 → Some kept ≡ keep row.earlier (Some vote)
    → IsRow vote.slot.0 row votes → IsRow vote.slot.0 (record { last = Some last; earlier = Some kept }) (votes ++ vote ∷ [])
row_lower vote last kept votes row some lower best is =
    let slot = vote.slot.0 in
    record {
      last = last_stays vote last votes row some (omega (arith, lower)) is;
      earlier = best ∙ ap (λ (o : Option Vote). keep o (Some vote)) (earlier_was slot last votes row some is)
          ∙ sym (greatest_hit (counts last.ballot.0 slot) votes vote (counts_lower last.ballot.0 slot vote refl lower));
    }

before_miss : (o : Option Vote) (slot : ℕ) (votes : List Vote) (vote : Vote) → vote.slot.0 ≢ slot → before o slot votes ≡ before o slot (votes ++ vote ∷ [])
before_miss None slot votes vote other = refl
before_miss (Some u) slot votes vote other = sym (greatest_miss (counts u.ballot.0 slot) votes vote (counts_other u.ballot.0 slot vote other))

-- a vote of another slot
pub row_other : (slot : ℕ) (vote : Vote) (votes : List Vote) (row : Row) → vote.slot.0 ≢ slot → IsRow slot row votes → IsRow slot row (votes ++ vote ∷ [])
row_other slot vote votes row other is = record {
  last = is.last ∙ sym (greatest_miss (is_of_slot slot) votes vote (not_of_slot slot vote other));
  earlier = is.earlier ∙ before_miss row.last slot votes vote other;
}

-- ---- what a row answers for a ballot that no vote passes

pub below_none : (ballot slot : ℕ) (votes : List Vote) (row : Row) → row.last ≡ None → IsRow slot row votes → None ≡ greatest (counts ballot slot) votes
below_none ballot slot votes row none is =
    let no_votes : None ≡ greatest (is_of_slot slot) votes = sym none ∙ is.last in
    no_votes ∙ sym (all_count ballot slot votes (below_of ballot None _ no_votes tt))

pub below_last : (ballot slot : ℕ) (votes : List Vote) (row : Row) (last : Vote) → row.last ≡ Some last → last.ballot.0 < ballot → IsRow slot row votes
    → row.last ≡ greatest (counts ballot slot) votes
below_last ballot slot votes row last some less is =
    is.last ∙ sym (all_count ballot slot votes (below_of ballot (Some last) _ (sym some ∙ is.last) less))

pub below_equal : (ballot slot : ℕ) (votes : List Vote) (row : Row) (last : Vote) → row.last ≡ Some last → ballot ≤ last.ballot.0 → IsUpTo ballot row.last → IsRow slot row votes
    → row.earlier ≡ greatest (counts ballot slot) votes
below_equal ballot slot votes row last some least most is =
    let at_most : last.ballot.0 ≤ ballot = subst (IsUpTo ballot) some most in
    let same : last.ballot.0 ≡ ballot = omega (arith, at_most, least) in
    earlier_was slot last votes row some is ∙ ap (λ (b : ℕ). greatest (counts b slot) votes) same

-- whether it is a vote of this ballot
abbrev is_last : ℕ → Option Vote → Bool
is_last ballot None = false
is_last ballot (Some vote) = vote.ballot.0 == ballot

up_to_parts : (ballot : ℕ) (x y : Option Vote) → IsUpTo ballot (keep x y) → IsUpTo ballot x × IsUpTo ballot y
up_to_parts ballot None y h = (tt, h)
up_to_parts ballot (Some u) None h = (h, tt)
up_to_parts ballot (Some u) (Some w) h = by_test (ltb u.ballot.0 w.ballot.0) refl h
  where
    by_test : (b : Bool) → ltb u.ballot.0 w.ballot.0 ≡ b → (cond b w u).ballot.0 ≤ ballot → (u.ballot.0 ≤ ballot) × (w.ballot.0 ≤ ballot)
    by_test true is le = let less : u.ballot.0 < w.ballot.0 = grind (arith, nat_tests) in (omega (arith, less, le), le)
    by_test false is le = let least = ltb-false _ _ is in (le, omega (arith, least, le))

or_false : (b : Bool) → (b || false) ≡ b
or_false true = refl
or_false false = refl

is_last-keep : (ballot : ℕ) (x y : Option Vote) → IsUpTo ballot x → IsUpTo ballot y → is_last ballot (keep x y) ≡ (is_last ballot x || is_last ballot y)
is_last-keep ballot None y most most_y = refl
is_last-keep ballot (Some u) None most most_y = sym (or_false (u.ballot.0 == ballot))
is_last-keep ballot (Some u) (Some w) most most_y = grind (arith, nat_tests)

one_is_last : (ballot slot : ℕ) (vote : Vote) (b : Bool) → is_last ballot (cond b (Some vote) None) ≡ ((vote.ballot.0 == ballot) && b)
one_is_last ballot slot vote true = and_true (vote.ballot.0 == ballot)
  where
    and_true : (b : Bool) → b ≡ (b && true)
    and_true true = refl
    and_true false = refl
one_is_last ballot slot vote false = sym (and_false (vote.ballot.0 == ballot))

has-last : (ballot slot : ℕ) (votes : List Vote) → IsUpTo ballot (greatest (is_of_slot slot) votes) → is_last ballot (greatest (is_of_slot slot) votes) ≡ has_vote votes ballot slot
has-last ballot slot [] most = refl
has-last ballot slot (vote ∷ votes) most =
    let parts = up_to_parts ballot (cond (is_of_slot slot vote) (Some vote) None) (greatest (is_of_slot slot) votes) most in
    is_last-keep ballot (cond (is_of_slot slot vote) (Some vote) None) (greatest (is_of_slot slot) votes) parts.0 parts.1
    ∙ ap₂ (λ (a b : Bool). a || b) (one_is_last ballot slot vote (is_of_slot slot vote)) (has-last ballot slot votes parts.1)

pub has_row : (ballot slot : ℕ) (votes : List Vote) (row : Row) → IsRow slot row votes → IsUpTo ballot row.last → is_last ballot row.last ≡ has_vote votes ballot slot
has_row ballot slot votes row is most =
    ap (is_last ballot) is.last ∙ has-last ballot slot votes (subst (IsUpTo ballot) is.last most)

pub has_none : (ballot slot : ℕ) (votes : List Vote) (row : Row) → row.last ≡ None → IsRow slot row votes → false ≡ has_vote votes ballot slot
has_none ballot slot votes row none is = sym (ap (is_last ballot) none) ∙ has_row ballot slot votes row is (subst (IsUpTo ballot) (sym none) tt)

pub has_some : (ballot slot : ℕ) (votes : List Vote) (row : Row) (last : Vote) → row.last ≡ Some last → IsRow slot row votes → IsUpTo ballot row.last
    → (last.ballot.0 == ballot) ≡ has_vote votes ballot slot
has_some ballot slot votes row last some is most = sym (ap (is_last ballot) some) ∙ has_row ballot slot votes row is most
